-- The lengths passed, and those to go.
use mathlib.Core.Path.{ap, ◌∙◌}
use Prim.Native.Nat.{ℕ, ◌+◌}
use native.Mathlib.Omega.{arith}
use Rattle.relations.proofs.Leaves.{given, described_next, described_stop, described_end, name_short}
use Rattle.packed_relations.specs.Packed.{new_lens}
use Rattle.packed_relations.proofs.Leaves.{new_turn, new_none}
use Rattle.packed_relations.proofs.names.new_lens.Goals as goal

pub returns-in_default : goal.returns-in_default
returns-in_default c =
    let a = c.args in
    let x = described_stop a.bytes.now a.n c.loop.counter c.loop.at (omega arith) _ c.in_default.ensures in
    let y = c.loop.invariant.1 ∙ ap (λ ds. c.loop.sum + new_lens ds) x in
    (omega (arith, y, new_none), omega (arith, c.loop.invariant.2))

pub overflow_add-sum : goal.overflow_add-sum
overflow_add-sum c =
    let a = c.args in
    let g = given a.bytes.now a.n c.loop.counter c.loop.at _ _ _ _ _ c.in-Ok.ensures in
    let e = described_next a.bytes.now a.n c.loop.counter c.loop.at (omega arith) _ _ g.read in
    let w = name_short _ g.name _ _ _ (rw e at c.loop.invariant.0) in
    omega (arith, c.loop.invariant.2, w.0, ap (λ (x : ℕ × ℕ). x.1) g.stands, c.requires.0)

pub loop-preserved : goal.loop-preserved
loop-preserved c =
    let a = c.args in
    let g = given a.bytes.now a.n c.loop.counter c.loop.at _ _ _ _ _ c.in-Ok.ensures in
    let e = described_next a.bytes.now a.n c.loop.counter c.loop.at (omega arith) _ _ g.read in
    let w = name_short _ g.name _ _ _ (rw e at c.loop.invariant.0) in
    let n = ap (λ (x : ℕ × ℕ). x.1) g.stands in
    (w.1, new_turn c.loop.sum _ _ _ _ _ g.name _ _ c.loop.invariant.1 e n, omega (arith, c.loop.invariant.2, w.0, n))

pub returns : goal.returns
returns c =
    let a = c.args in
    let x = described_end a.bytes.now a.n c.loop.counter c.loop.at (omega arith) in
    let y = c.loop.invariant.1 ∙ ap (λ ds. c.loop.sum + new_lens ds) x in
    (omega (arith, y, new_none), omega (arith, c.loop.invariant.2))
