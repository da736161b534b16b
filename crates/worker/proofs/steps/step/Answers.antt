-- `lent []`: what is unread plays no part in these ends.
use Rattle.std.proofs.Common.{[], le-ltb, lt-ltb}
use Rattle.worker.specs.Answer.{lent}
use Rattle.worker.specs.Step.{step_of}
use Rattle.worker.proofs.steps.step.Goals as goal

pub returns-then-is_ended : goal.returns-then-is_ended
unfolding step_of
returns-then-is_ended c =
    rw (
      ← c.is_ended.ensures,
      c.if-is_ended.true,
    ) (c.refused.ensures (lent c.args.unread.now _ _))

pub returns-then-payload-limit_of : goal.returns-then-payload-limit_of
unfolding step_of
returns-then-payload-limit_of c =
    rw (← c.is_ended.ensures, c.if-is_ended.false, ← c.limit_of.ensures, lt-ltb _ _ c.if-payload-limit_of.true)
    (c.refused-then-payload-limit_of.ensures (lent [] _ _))

pub returns-then-out-lt39 : goal.returns-then-out-lt39
unfolding step_of
returns-then-out-lt39 c =
    rw (
      ← c.is_ended.ensures,
      c.if-is_ended.false,
      ← c.limit_of.ensures,
      le-ltb _ _ c.if-payload-limit_of.false,
      lt-ltb _ _ c.if-out-lt39.true,
    )
    (c.refused-then-out-lt39.ensures (lent [] _ _))

pub returns-then-bad_moment : goal.returns-then-bad_moment
unfolding step_of
returns-then-bad_moment c =
    rw (
      ← c.is_ended.ensures,
      c.if-is_ended.false,
      ← c.limit_of.ensures,
      le-ltb _ _ c.if-payload-limit_of.false,
      le-ltb _ _ c.if-out-lt39.false,
      ← c.bad_moment.ensures,
      c.if-bad_moment.true,
    )
    (c.refused-then-bad_moment.ensures (lent [] _ _))

pub returns : goal.returns
unfolding step_of
returns c =
    rw (
      ← c.is_ended.ensures,
      c.if-is_ended.false,
      ← c.limit_of.ensures,
      le-ltb _ _ c.if-payload-limit_of.false,
      le-ltb _ _ c.if-out-lt39.false,
      ← c.bad_moment.ensures,
      c.if-bad_moment.false,
      ← c.accepted-next.ensures,
    )
    c.by_state.ensures
