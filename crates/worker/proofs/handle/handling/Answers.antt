use Rattle.worker.specs.Answer.{lent}
use Rattle.worker.specs.Step.{handling_of}
use Rattle.worker.proofs.handle.handling.Goals as goal

pub returns-then-is_error : goal.returns-then-is_error
unfolding handling_of
returns-then-is_error c = λ u. rw (← c.is_error.ensures, c.if-is_error.true) (c.ended.ensures (lent u _ _))

pub returns-then-is_copy_done : goal.returns-then-is_copy_done
unfolding handling_of
returns-then-is_copy_done c = λ u.
    rw (
      ← c.is_error.ensures,
      c.if-is_error.false,
      ← c.is_copy_done.ensures,
      c.if-is_copy_done.true,
    ) (c.done.ensures u _)

pub returns-then-is_copy_data : goal.returns-then-is_copy_data
unfolding handling_of
returns-then-is_copy_data c = λ u.
    rw (
      ← c.is_error.ensures,
      c.if-is_error.false,
      ← c.is_copy_done.ensures,
      c.if-is_copy_done.false,
      ← c.is_copy_data.ensures,
      c.if-is_copy_data.true,
      ← c.copy_data_in-said.ensures,
    ) (c.copy_data.ensures u)

pub returns : goal.returns
unfolding handling_of
returns c = λ u.
    rw (
      ← c.is_error.ensures,
      c.if-is_error.false,
      ← c.is_copy_done.ensures,
      c.if-is_copy_done.false,
      ← c.is_copy_data.ensures,
      c.if-is_copy_data.false,
      ← c.back.ensures,
    ) (c.moved.ensures (lent u _ _))
