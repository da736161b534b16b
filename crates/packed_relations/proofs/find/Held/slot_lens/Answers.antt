-- The lengths passed, and those to go.
use mathlib.Core.Path.{ap, ◌∙◌}
use Prim.Native.Nat.{ℕ, ◌+◌, ◌*◌}
use native.Mathlib.Omega.{arith}
use Rattle.packed_relations.specs.Packed.{lens_from}
use Rattle.packed_relations.proofs.Leaves.{slots_turn, slots_done}
use Rattle.packed_relations.proofs.find.Held.slot_lens.Goals as goal

pub loop-k-preserved : goal.loop-k-preserved
loop-k-preserved c =
    let a = c.args in
    let e = c.lens_from-sum.ensures.0 ∙ ap (λ (y : ℕ). lens_from a.self.words.now (32 * (a.first + c.loop-k.k)) y) c.count_at-count.ensures in (
      slots_turn a.self.slots.counts.now a.self.words.now a.first c.loop-k.k a.n c.loop-k.sum _ _ (omega arith) c.loop-k.invariant.0 e,
      omega (arith, c.loop-k.invariant.1, c.lens_from-sum.ensures.1, c.count_at-count.ensures),
    )

pub returns : goal.returns
returns c =
    let a = c.args in
    let z = slots_done a.self.slots.counts.now a.self.words.now a.first c.loop-k.k a.n (omega arith) in
    (omega (arith, c.loop-k.invariant.0, z), omega (arith, c.loop-k.invariant.1))
