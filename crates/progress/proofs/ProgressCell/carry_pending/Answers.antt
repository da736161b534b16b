-- By timing, and which moment is older.
use Rattle.progress.specs.Progress.{carried_of}
use mathlib.Core.Path.{sym, ◌∙◌}
use Rattle.progress.proofs.ProgressCell.carry_pending.Goals as goal

pub returns-then-is_none : goal.returns-then-is_none
unfolding carried_of
returns-then-is_none c = simp (c.if-self.true, sym c.is_none.ensures ∙ c.if-is_none.true)

pub returns-then-is_none-2 : goal.returns-then-is_none-2
unfolding carried_of
returns-then-is_none-2 c =
    rw c.with_pending.ensures (simp (
      c.if-self.true,
      sym c.is_none.ensures ∙ c.if-is_none.false,
      sym c.is_none-then-self.ensures ∙ c.if-is_none-2.true,
    ))

pub returns-then-is_before : goal.returns-then-is_before
unfolding carried_of
returns-then-is_before c =
    rw c.with_pending-then-is_before.ensures (simp (
      c.if-self.true,
      sym c.is_none.ensures ∙ c.if-is_none.false,
      sym c.is_none-then-self.ensures ∙ c.if-is_none-2.false,
      sym c.is_before.ensures ∙ c.if-is_before.true,
    ))

pub returns-then-self : goal.returns-then-self
unfolding carried_of
returns-then-self c =
    simp (
      c.if-self.true,
      sym c.is_none.ensures ∙ c.if-is_none.false,
      sym c.is_none-then-self.ensures ∙ c.if-is_none-2.false,
      sym c.is_before.ensures ∙ c.if-is_before.false,
    )

pub returns : goal.returns
unfolding carried_of
returns c = simp c.if-self.false
