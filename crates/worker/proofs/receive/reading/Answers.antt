use Rattle.std.proofs.Common.{◌∙◌}
use Rattle.worker.specs.Answer.{lent}
use Rattle.worker.specs.Step.{reading_of}
use Rattle.worker.proofs.Laws.{having_same}
use Rattle.worker.proofs.receive.reading.Goals as goal

pub returns : goal.returns
unfolding reading_of
returns c = λ o.
    let a = c.args in
    rw (← c.read-x.ensures, ← c.with_reader.ensures)
    (c.having.ensures _ a.payload.now o ∙ having_same _ _ (c.reading_by.ensures (lent a.unread.now a.payload.now o)))
