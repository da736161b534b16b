-- What is left to place, from the word reached, gives what placing all gives.
use mathlib.Core.Path.{◌≡◌}
use Prim.Native.Nat.{◌+◌, ◌*◌, ◌-◌, ◌≤◌}
use lib.ListN.{length}
use Rattle.packed_relations.specs.Packed.{lens_from, place_words}
use Rattle.packed_relations.proofs.names.place_words.Given as goal

abbrev pub invariant-loop-k : goal.invariant-loop-k
invariant-loop-k l =
    (place_words l.first l.n l.place l.initial.words ≡ place_words (l.first + l.k) (l.n - l.k) l.at l.words)
    × (l.place + lens_from l.initial.words l.first l.n ≡ l.at + lens_from l.words (l.first + l.k) (l.n - l.k)) × (l.at ≤ l.place + 63 * l.k) × (length l.words ≡ length l.initial.words)
