-- What is left to place, from the word reached, gives what placing all gives.
use mathlib.Core.Path.{◌≡◌, sym, ◌∙◌}
use native.Mathlib.Omega.{arith}
use Rattle.packed_relations.specs.Packed.{len_of}
use Rattle.packed_relations.proofs.Leaves.{words_turn, words_done, lens_kept, lens_done}
use borrow.Author.Rules.{rules}
use Rattle.packed_relations.proofs.names.place_words.Goals as goal

pub loop-k-preserved : goal.loop-k-preserved
loop-k-preserved c =
    let a = c.args in
    let ew = c.element-word.ensures in
    let ex : c.len_of-at.result ≡ len_of c.element-word.result = c.len_of-at.ensures in
    let ey = c.placed_word-moved.ensures in
    let es = c.set.ensures in (
      words_turn a.first c.loop-k.k a.n c.loop-k.at _ _ _ _ c.loop-k.words _ (omega arith) c.loop-k.invariant.0 ew ex ey es,
      lens_kept a.first c.loop-k.k a.n c.loop-k.at _ _ _ _ c.loop-k.words _ (omega arith) c.loop-k.invariant.1 ew ex es,
      omega (arith, c.loop-k.invariant.2, ex),
      search rules,
    )

pub returns : goal.returns
returns c =
    let a = c.args in
    let z = lens_done c.loop-k.words a.first c.loop-k.k a.n (omega arith) in (
      sym (c.loop-k.invariant.0 ∙ words_done a.first c.loop-k.k a.n c.loop-k.at c.loop-k.words (omega arith)),
      omega (arith, c.loop-k.invariant.1, z),
      omega (arith, c.loop-k.invariant.2),
    )
