-- `lent []`: what is unread plays no part in these ends.
use Rattle.std.proofs.Common.{[], eq-eqb, ne_eqb}
use Rattle.worker.specs.Answer.{lent}
use Rattle.worker.specs.Step.{drain_of}
use Rattle.worker.proofs.rounds.drain.Goals as goal

pub returns-then-goes_on : goal.returns-then-goes_on
unfolding drain_of
returns-then-goes_on c = λ p.
    rw (
      ← c.goes_on.ensures,
      c.if-goes_on.true,
      ← c.with_state.ensures,
    ) (c.moved.ensures (lent [] p _))

pub returns-then-run-eq0 : goal.returns-then-run-eq0
unfolding drain_of
returns-then-run-eq0 c = λ p.
    rw (
      ← c.goes_on.ensures,
      c.if-goes_on.false,
      eq-eqb _ _ c.if-run-eq0.true,
      ← c.waits.ensures,
    ) (c.moved-then-run-eq0.ensures (lent [] p _))

pub returns-then-input : goal.returns-then-input
unfolding drain_of
returns-then-input c = λ p.
    rw (
      ← c.goes_on.ensures,
      c.if-goes_on.false,
      ne_eqb _ _ c.if-run-eq0.false,
      c.if-input.true,
    ) (c.done.ensures [] p)

pub returns : goal.returns
unfolding drain_of
returns c = λ p.
    rw (
      ← c.goes_on.ensures,
      c.if-goes_on.false,
      ne_eqb _ _ c.if-run-eq0.false,
      c.if-input.false,
      ← c.with_state-2.ensures,
    ) (c.moved-2.ensures (lent [] p _))
