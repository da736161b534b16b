-- The tests in their order.
use mathlib.Core.Path.{sym, ◌∙◌}
use Rattle.schedule.specs.NextStep.{reading_next}
use Rattle.schedule.proofs.reading.Goals as goal

pub returns-then-reader : goal.returns-then-reader
unfolding reading_next
returns-then-reader c = simp c.if-reader.true

pub returns-then-is_whole : goal.returns-then-is_whole
unfolding reading_next
returns-then-is_whole c = simp (c.if-reader.false, sym c.is_whole.ensures ∙ c.if-is_whole.true)

pub returns : goal.returns
unfolding reading_next
returns c = simp (c.if-reader.false, sym c.is_whole.ensures ∙ c.if-is_whole.false)
