-- Laws of texts placed one after the other and of sums.
use mathlib.Core.Path.{◌≡◌, refl, ap, ◌∙◌}
use mathlib.Core.List.{List, [], ◌∷◌, ◌++◌}
use Prim.Native.Nat.{ℕ, ◌+◌, ◌-◌, ◌≤◌, ◌<◌}
use native.Mathlib.Numerals.{add-one}
use native.Mathlib.Omega.{arith}
use lib.ListN.{length, drop, get_or, drop_of_length-le}
use lib.Seq.{drop-cons}
use Rattle.std.proofs.lemmas.Bool.Decides.{nat_tests}
use lib.Dec.{leb}
use borrow.Author.Tests.{le-leb, lt-leb}
use Rattle.wire.specs.Bytes.{at, placed}
use Rattle.text.specs.Numeral.{hex_bytes}
use Rattle.test_lines.specs.Line.{sum_next, sum_from, sum_of, pieces, bytes_texts, outside_texts, part_texts}

-- ---- sums

pub sum_start : (s : List ℕ) → sum_from 7 (drop 0 s) ≡ sum_of s
unfolding sum_of
sum_start s = refl

pub sum_turn : (s : List ℕ) (h i x : ℕ) → i < length s → sum_from h (drop i s) ≡ x → sum_from (sum_next h (get_or s i 0)) (drop (i + 1) s) ≡ x
unfolding sum_from
sum_turn s h i x l e = rw add-one (rw (drop-cons s i 0 l) at e)

pub sum_end : (s : List ℕ) (h i x : ℕ) → length s ≤ i → sum_from h (drop i s) ≡ x → h ≡ x
unfolding sum_from
sum_end s h i x l e = rw (drop_of_length-le s l) at e

-- ---- pieces

pub pieces_one : (d : List ℕ) (i : ℕ) (t : List ℕ) {q : List ℕ} {r : ℕ} → (r, q) ≡ placed d i t → (r, q) ≡ pieces d i (t ∷ [])
unfolding pieces
pieces_one d i t e = e

pub pieces_none : (d : List ℕ) (i : ℕ) → (i, d) ≡ pieces d i []
unfolding pieces
pieces_none d i = refl

pub pieces_append : (d : List ℕ) (i : ℕ) (ts us : List (List ℕ)) → pieces (pieces d i ts).1 (pieces d i ts).0 us ≡ pieces d i (ts ++ us)
unfolding pieces
pieces_append d i [] us = refl
pieces_append d i (t ∷ ts) us = pieces_append (placed d i t).1 (placed d i t).0 ts us

-- texts after texts
pub pieces_next : (d : List ℕ) (i : ℕ) (ts us : List (List ℕ)) {e q : List ℕ} {a r : ℕ} → (a, e) ≡ pieces d i ts → (r, q) ≡ pieces e a us → (r, q) ≡ pieces d i (ts ++ us)
pieces_next d i ts us f g = g ∙ (ap (λ (x : ℕ × List ℕ). pieces x.1 x.0 us) f ∙ pieces_append d i ts us)

-- a text after a text
pub pieces_two : (d : List ℕ) (i : ℕ) (t u : List ℕ) {e q : List ℕ} {a r : ℕ} → (a, e) ≡ placed d i t → (r, q) ≡ placed e a u → (r, q) ≡ pieces d i (t ∷ u ∷ [])
pieces_two d i t u {e} {q} {a} f g = pieces_next d i (t ∷ []) (u ∷ []) (pieces_one d i t f) (pieces_one e a u g)

-- ---- bytes and parts of them

-- a length that is tested against what is left
pub within_rest : (from len n : ℕ) → from ≤ n → leb len (n - from) ≡ leb (from + len) n
within_rest from len n h = grind (arith, nat_tests)

pub bytes_none : (s : List ℕ) → length s ≡ 0 → bytes_texts s ≡ (32 ∷ 45 ∷ []) ∷ []
bytes_none [] e = refl
bytes_none (b ∷ s) e = absurd (omega arith)

pub bytes_some : (s : List ℕ) → (length s ≡ 0 → ⊥) → bytes_texts s ≡ (32 ∷ []) ∷ hex_bytes s ∷ []
bytes_some [] e = absurd (e refl)
bytes_some (b ∷ s) e = refl

pub part_none : (s : List ℕ) (from len : ℕ) → length s < from + len → part_texts s from len ≡ outside_texts
unfolding part_texts
part_none s from len h = simp (lt-leb _ _ h)

pub part_some : (s : List ℕ) (from len : ℕ) → from + len ≤ length s → part_texts s from len ≡ bytes_texts (at s from len)
unfolding part_texts
part_some s from len h = simp (le-leb _ _ h)
