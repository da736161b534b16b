use Rattle.std.proofs.Common.{◌∙◌}
use Rattle.worker.specs.Answer.{lent}
use Rattle.worker.specs.Step.{opening_of}
use Rattle.worker.proofs.Laws.{having_same}
use Rattle.worker.proofs.receive.opening.Goals as goal

pub returns : goal.returns
unfolding opening_of
returns c = λ o.
    let a = c.args in
    rw (← c.read-x.ensures, ← c.with_reader.ensures)
    (c.having.ensures _ a.payload.now o ∙ having_same _ _ (c.opening_by.ensures (lent a.unread.now a.payload.now o)))
