use Rattle.std.proofs.Common.{◌∙◌}
use Rattle.worker.proofs.receive.opening_whole.Goals as goal

pub returns-then-is_copy_both_response : goal.returns-then-is_copy_both_response
returns-then-is_copy_both_response c = λ l. rw (
  ← c.is_copy_both_response.ensures,
  c.if-is_copy_both_response.true,
  ← c.with_state.ensures,
) (c.moved.ensures l)

pub returns-then-is_error : goal.returns-then-is_error
returns-then-is_error c = λ l.
    c.ended.ensures l ∙ rw (
      c.with_whole.ensures,
      ← c.is_copy_both_response.ensures,
      c.if-is_copy_both_response.false,
      ← c.is_error.ensures,
      c.if-is_error.true,
    )

pub returns : goal.returns
returns c = λ l.
    rw (
      ← c.is_copy_both_response.ensures,
      c.if-is_copy_both_response.false,
      ← c.is_error.ensures,
      c.if-is_error.false,
    ) (c.moved-2.ensures l)
