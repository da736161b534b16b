-- Every entry passed is undone for no file.
use mathlib.Core.Path.{◌≡◌, sym, ◌∙◌}
use Prim.Native.Nat.{◌+◌, ◌-◌}
use native.Mathlib.Omega.{arith}
use Rattle.ledger.proofs.RingLaws.{settled_here, settled_next, settled_none, settled_ends}
use Rattle.ledger.proofs.Ledger.settled.Goals as goal

pub returns-then-is_held : goal.returns-then-is_held
returns-then-is_held c =
    let whole : c.loop-behind.behind - 1 + 1 ≡ c.loop-behind.behind = omega arith in
    (rw whole at c.with_ring.ensures)
    ∙ settled_ends _ _ _ _ c.loop-behind.invariant
    (settled_here _ _ _ _ c.loop-behind-test.true (rw (← c.entry_at-entry.ensures) (sym c.is_held.ensures ∙ c.if-is_held.true)))

pub loop-behind-preserved : goal.loop-behind-preserved
loop-behind-preserved c =
    rw (c.next-front.ensures, c.capacity-n.ensures)
    (sym (settled_next _ _ _ _ c.loop-behind-test.true (rw (← c.entry_at-entry.ensures) (sym c.is_held.ensures ∙ c.if-is_held.false)))
    ∙ c.loop-behind.invariant)

pub returns : goal.returns
returns c =
    let none : c.loop-behind.behind ≡ 0 = omega arith in
    (rw (← none) at c.with_ring-2.ensures) ∙ settled_ends _ _ _ _ c.loop-behind.invariant (settled_none _ _ _ _ (omega arith))
