-- The lengths passed, and those to go.
use mathlib.Core.Path.{◌≡◌, ◌∙◌}
use native.Mathlib.Omega.{arith}
use Rattle.packed_relations.specs.Packed.{len_of}
use Rattle.packed_relations.proofs.Leaves.{lens_turn, lens_done}
use Rattle.packed_relations.proofs.names.lens_from.Goals as goal

pub loop-k-preserved : goal.loop-k-preserved
loop-k-preserved c =
    let a = c.args in
    let e : c.len_of-sum.result ≡ len_of c.element-word.result = c.len_of-sum.ensures in (
      lens_turn a.words.now a.first c.loop-k.k a.n c.loop-k.sum _ _ (omega arith) c.loop-k.invariant.0 (c.len_of-sum.ensures ∙ rw c.element-word.ensures),
      omega (arith, c.loop-k.invariant.1, e),
    )

pub returns : goal.returns
returns c =
    let a = c.args in
    let z = lens_done a.words.now a.first c.loop-k.k a.n (omega arith) in
    (omega (arith, c.loop-k.invariant.0, z), omega (arith, c.loop-k.invariant.1))
