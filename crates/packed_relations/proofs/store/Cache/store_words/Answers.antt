-- What is left to store, from the column reached, gives what storing all gives.
use mathlib.Core.Path.{sym, ap, ◌∙◌}
use Prim.Native.Nat.{ℕ}
use native.Mathlib.Omega.{arith}
use Rattle.relations.proofs.Leaves.{given, room, name_there, all_bytes, described_next, described_stop, described_end, name_short}
use Rattle.packed_relations.proofs.Leaves.{store_turn, store_none}
use borrow.Author.Rules.{rules}
use Rattle.packed_relations.proofs.store.Cache.store_words.Goals as goal

pub returns-in_default-clause-value : goal.returns-in_default-clause-value
returns-in_default-clause-value c =
    let a = c.args in
    sym (c.loop-k.invariant.1 ∙ rw (described_stop a.bytes.now a.n c.loop-k.k c.loop-k.at (omega arith) _ c.in_default.ensures) (store_none _ _ _))

pub store_word-requires : goal.store_word-requires
store_word-requires c =
    let a = c.args in
    let g = given a.bytes.now a.n c.loop-k.k c.loop-k.at _ _ _ _ _ c.in-Ok.ensures in
    let e = described_next a.bytes.now a.n c.loop-k.k c.loop-k.at (omega arith) _ _ g.read in
    let w = name_short _ g.name _ _ _ (rw e at c.loop-k.invariant.0) in
    (omega (arith, c.requires.1, c.loop-k.invariant.2), room g, omega (arith, w.0, ap (λ (x : ℕ × ℕ). x.1) g.stands))

pub overflow_add-to : goal.overflow_add-to
overflow_add-to c =
    let a = c.args in
    let g = given a.bytes.now a.n c.loop-k.k c.loop-k.at _ _ _ _ _ c.in-Ok.ensures in
    let e = described_next a.bytes.now a.n c.loop-k.k c.loop-k.at (omega arith) _ _ g.read in
    let w = name_short _ g.name _ _ _ (rw e at c.loop-k.invariant.0) in
    omega (arith, c.loop-k.invariant.2, w.0, ap (λ (x : ℕ × ℕ). x.1) g.stands, c.requires.1)

pub loop-k-preserved : goal.loop-k-preserved
loop-k-preserved c =
    let a = c.args in
    let g = given a.bytes.now a.n c.loop-k.k c.loop-k.at _ _ _ _ _ c.in-Ok.ensures in
    let e = described_next a.bytes.now a.n c.loop-k.k c.loop-k.at (omega arith) _ _ g.read in
    let w = name_short _ g.name _ _ _ (rw e at c.loop-k.invariant.0) in
    let b = all_bytes a.bytes.now (λ i. omega (arith, c.type_inv.bytes i)) in
    let st = rw (name_there g b) at c.store_word.ensures.value in
    let n = ap (λ (x : ℕ × ℕ). x.1) g.stands in (
      w.1,
      store_turn a.first c.loop-k.k c.loop-k.to _ _ _ _ _ g.name _ _ _ _ c.loop-k.invariant.1 n e st,
      omega (arith, c.loop-k.invariant.2, w.0, n),
      search rules,
      search rules,
    )

pub returns-clause-value : goal.returns-clause-value
returns-clause-value c =
    let a = c.args in
    sym (c.loop-k.invariant.1 ∙ rw (described_end a.bytes.now a.n c.loop-k.k c.loop-k.at (omega arith)) (store_none _ _ _))
