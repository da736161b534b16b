use Rattle.std.proofs.Common.{◌∙◌}
use Rattle.worker.proofs.Laws.{having_same}
use Rattle.worker.proofs.wait.waiting_read.Goals as goal

pub returns : goal.returns
returns c =
    let a = c.args in
    rw (← c.read-x.ensures, ← c.with_reader.ensures)
    (c.having.ensures _ a.payload.now _ ∙ having_same _ _ (c.waiting_by-stepped.ensures a.unread.now a.payload.now))
