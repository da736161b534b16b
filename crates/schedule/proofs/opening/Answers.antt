-- The tests in their order.
use mathlib.Core.Path.{sym, ◌∙◌}
use Rattle.schedule.specs.NextStep.{opening_next}
use Rattle.schedule.proofs.opening.Goals as goal

pub returns-then-reader : goal.returns-then-reader
unfolding opening_next
returns-then-reader c = simp c.if-reader.true

pub returns-then-is_copy_both_response : goal.returns-then-is_copy_both_response
unfolding opening_next
returns-then-is_copy_both_response c =
    rw (← c.tag-tag.ensures) (simp (
      c.if-reader.false,
      sym c.is_whole.ensures ∙ c.if-is_whole.true,
      sym c.is_copy_both_response.ensures ∙ c.if-is_copy_both_response.true,
    ))

pub returns-then-is_error : goal.returns-then-is_error
unfolding opening_next
returns-then-is_error c =
    rw (← c.tag-tag.ensures) (simp (
      c.if-reader.false,
      sym c.is_whole.ensures ∙ c.if-is_whole.true,
      sym c.is_copy_both_response.ensures ∙ c.if-is_copy_both_response.false,
      sym c.is_error.ensures ∙ c.if-is_error.true,
    ))

pub returns-then-is_whole : goal.returns-then-is_whole
unfolding opening_next
returns-then-is_whole c =
    rw (← c.tag-tag.ensures) (simp (
      c.if-reader.false,
      sym c.is_whole.ensures ∙ c.if-is_whole.true,
      sym c.is_copy_both_response.ensures ∙ c.if-is_copy_both_response.false,
      sym c.is_error.ensures ∙ c.if-is_error.false,
    ))

pub returns : goal.returns
unfolding opening_next
returns c = simp (c.if-reader.false, sym c.is_whole.ensures ∙ c.if-is_whole.false)
