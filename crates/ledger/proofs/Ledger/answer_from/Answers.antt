-- Every entry passed is done for the file.
use mathlib.Core.Path.{◌≡◌, refl, sym, ap, ◌∙◌}
use Prim.Native.Nat.{◌+◌, ◌-◌, ◌<◌}
use native.Mathlib.Nat.{sub-zero}
use native.Mathlib.Omega.{arith}
use Rattle.ledger.specs.declared.Entry.{Entry}
use Rattle.ledger.proofs.RingLaws.{answer_here, answer_next, answer_none}
use Rattle.ledger.proofs.Ledger.answer_from.Goals as goal

pub loop-init : goal.loop-init
loop-init c = rw (sub-zero c.args.self.count) refl

pub returns-then-is_undone : goal.returns-then-is_undone
returns-then-is_undone c =
    ap (λ (x : Entry). x.before) c.entry_at-entry.ensures
    ∙ sym (answer_here _ _ _ _ _ (omega arith) (rw (← c.entry_at-entry.ensures) (sym c.is_undone.ensures ∙ c.if-is_undone.true)))
    ∙ c.loop.invariant

pub loop-preserved : goal.loop-preserved
loop-preserved c =
    let one_less : c.args.self.count - (c.loop.counter + 1) ≡ c.args.self.count - c.loop.counter - 1 = omega arith in
    let more : 0 < c.args.self.count - c.loop.counter = omega arith in
    rw (c.next-front.ensures, c.capacity-n.ensures, one_less)
    (sym (answer_next _ _ _ _ _ more (rw (← c.entry_at-entry.ensures) (sym c.is_undone.ensures ∙ c.if-is_undone.false)))
    ∙ c.loop.invariant)

pub returns : goal.returns
returns c =
    c.stable.ensures ∙ sym (answer_none _ _ _ _ _ (omega arith)) ∙ c.loop.invariant
