-- What is left to place, from the slot reached, gives what placing all gives.
use mathlib.Core.Path.{◌≡◌, sym, ap, ◌∙◌}
use mathlib.Core.List.{List}
use Prim.Native.Nat.{ℕ, ◌+◌, ◌*◌}
use native.Mathlib.Omega.{arith}
use Rattle.relations.specs.Memory.{count_at}
use Rattle.packed_relations.specs.Packed.{lens_from, place_words}
use Rattle.packed_relations.proofs.Leaves.{place_turn, place_done}
use borrow.Author.Rules.{rules}
use Rattle.packed_relations.proofs.store.Cache.place_slots.Goals as goal

pub loop-k-preserved : goal.loop-k-preserved
loop-k-preserved c =
    let a = c.args in
    let slot : ℕ = a.first + c.loop-k.k in
    let cn : c.count_at-count.result ≡ count_at a.self.now.counts.now slot =
    c.count_at-count.ensures ∙ ap (λ (y : List ℕ). count_at y slot) (c.read.ensures.2 ∙ c.loop-k.invariant.2.2) in
    let es = c.place_words-at.ensures.0 ∙ ap (λ (y : ℕ). place_words (32 * slot) y c.loop-k.at c.loop-k.self.words.now) cn in
    let ep = c.place_words-at.ensures.1 ∙ ap (λ (y : ℕ). c.loop-k.at + lens_from c.loop-k.self.words.now (32 * slot) y) cn in (
      place_turn a.self.now.counts.now a.first c.loop-k.k a.n c.loop-k.at _ _ c.loop-k.self.words.now _ (omega arith) c.loop-k.invariant.0 es ep,
      omega (arith, c.loop-k.invariant.1, c.place_words-at.ensures.2, c.count_at-count.ensures),
      search rules,
      search rules,
      search rules,
    )

pub returns-clause-value : goal.returns-clause-value
returns-clause-value c =
    let a = c.args in
    sym (c.loop-k.invariant.0 ∙ place_done a.self.now.counts.now a.first c.loop-k.k a.n c.loop-k.at c.loop-k.self.words.now (omega arith))
