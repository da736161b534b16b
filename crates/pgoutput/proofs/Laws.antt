-- What the fields of a message say where they are not cut, and the refusal where one is.
use mathlib.Core.Path.{◌≡◌, refl, sym, ap, ◌∙◌}
use mathlib.Core.Bool.{Bool}
use mathlib.Core.List.{List, [], ◌∷◌}
use mathlib.Core.Option.{some}
use Prim.Native.Nat.{ℕ, ◌+◌, ◌-◌, ◌%◌, ◌≤◌, ◌<◌}
use native.Mathlib.Omega.{arith}
use lib.ListN.{length, drop, get_or, length-drop}
use lib.Dec.{eqb}
use borrow.Author.Tests.{lt-leb, le-ltb, eq-eqb, ne_eqb}
use lib.IntN.{ℤ}
use Rattle.reader.specs.Skip.{skipped}
use Rattle.reader.proofs.Laws.{skipped_within}
use Rattle.wire.specs.Field.{field_at}
use Rattle.wire.specs.Int.{half, int_at}
use Rattle.wire.specs.Find.{index_of}
use Rattle.wire.proofs.FindLaws.{found_below}
use Rattle.std.specs.Prelude.{Result, Option as Maybe, Err, IsErrAnd}
use Rattle.std.proofs.lemmas.Result.{err_from_is_err_and}
use Rattle.error.specs.Refusal.{number_of}
use Rattle.error.specs.declared.Refusal.{Refusal}
use Rattle.pgoutput.specs.declared.Boundary.{Boundary}
use Rattle.pgoutput.specs.Boundary.{Said, begin, commit, message, no_boundary, refused, said_by, begin_at, commit_at, message_at, boundary_of}

module _ (s : List ℕ) (i : ℕ) where
  pub begin_values : (a : ℕ) (z : ℤ) (x : ℕ) → field_at 8 s i ≡ some a → int_at 8 s (i + 8) ≡ some z → field_at 4 s (i + 16) ≡ some x → begin_at s i ≡ begin a z x
  begin_values a z x e f g = simp (e, f, g)

  pub commit_values : (v a b : ℕ) (z : ℤ) → field_at 1 s i ≡ some v → field_at 8 s (i + 1) ≡ some a → field_at 8 s (i + 9) ≡ some b → int_at 8 s (i + 17) ≡ some z
      → commit_at s i ≡ commit a b z
  commit_values v a b z e f g h = simp (e, f, g, h)

  pub message_values : (v a n len : ℕ) → field_at 1 s i ≡ some v → field_at 8 s (i + 1) ≡ some a → index_of 0 (drop (i + 9) s) ≡ some n
      → field_at 4 s (i + 9 + n + 1) ≡ some len → len < half 4 → len ≤ length s - (i + 9 + n + 1 + 4)
      → message_at s i ≡ message (eqb (v % 2) 1) a (i + 9) n (i + 9 + n + 1 + 4) len
  message_values v a n len e f g h l m = simp (e, f, g, h, lt-leb _ _ l, le-ltb _ _ m)

-- the zero byte after a prefix stands within the bytes
pub prefix_within : (s : List ℕ) (i n : ℕ) → index_of 0 (drop i s) ≡ some n → i + n < length s
prefix_within s i n e =
    let h : n < length (drop i s) = found_below 0 (drop i s) n e in
    let l : length (drop i s) ≡ length s - i = length-drop i s in
    omega arith

-- a reader at the prefix, moved over it and its zero byte
pub over_prefix : (s : List ℕ) (from i n : ℕ) → from ≡ i → i + n < length s → skipped s from (n + 1) ≡ i + n + 1
over_prefix s from i n e h = rw e (skipped_within s i (n + 1) (omega arith) ∙ omega arith)

-- a reader at the prefix, moved over it, its zero byte and the content's length
pub over_count : (s : List ℕ) (from i n : ℕ) → from ≡ i → i + n + 1 + 4 ≤ length s → skipped s from (n + 5) ≡ i + n + 1 + 4
over_count s from i n e h = rw e (skipped_within s i (n + 5) (omega arith) ∙ omega arith)

-- the same message by equal places
pub message_same : {flag : Bool} {a n len from content i j : ℕ} {x : Said} → from ≡ i → content ≡ j → x ≡ message flag a i n j len → message flag a from n content len ≡ x
message_same {flag} {a} {n} {len} {from} {content} {i} {j} {x} e f h = rw (e, f) (sym h)

-- a refusal that is handed on says what it said
pub handed_on : {x : Said} (r : Result (Maybe Boundary) Refusal) (e : Refusal) → IsErrAnd r (λ y. y ≡ e) → refused (number_of e) ≡ x → said_by r ≡ x
handed_on r e h p = let q = err_from_is_err_and r h in ap said_by (q.1 ∙ ap Err q.2) ∙ p

-- ---- by the letter

pub no_data : (s : List ℕ) → length s ≡ 0 → no_boundary ≡ boundary_of s
unfolding boundary_of
no_data [] e = refl
no_data (b ∷ t) e = absurd (omega arith)

module _ (x : Said) where
  pub by_b : (s : List ℕ) → (length s ≡ 0 → ⊥) → get_or s 0 0 ≡ 66 → x ≡ begin_at s 1 → x ≡ boundary_of s
  unfolding boundary_of
  by_b [] n e p = absurd (n refl)
  by_b (b ∷ t) n e p = simp (eq-eqb b 66 e) p

  pub by_c : (s : List ℕ) → (length s ≡ 0 → ⊥) → (get_or s 0 0 ≡ 66 → ⊥) → get_or s 0 0 ≡ 67 → x ≡ commit_at s 1 → x ≡ boundary_of s
  unfolding boundary_of
  by_c [] n d e p = absurd (n refl)
  by_c (b ∷ t) n d e p = simp (ne_eqb b 66 d, eq-eqb b 67 e) p

  pub by_m : (s : List ℕ) → (length s ≡ 0 → ⊥) → (get_or s 0 0 ≡ 66 → ⊥) → (get_or s 0 0 ≡ 67 → ⊥) → get_or s 0 0 ≡ 77 → x ≡ message_at s 1 → x ≡ boundary_of s
  unfolding boundary_of
  by_m [] n d e f p = absurd (n refl)
  by_m (b ∷ t) n d e f p = simp (ne_eqb b 66 d, ne_eqb b 67 e, eq-eqb b 77 f) p

pub by_other : (s : List ℕ) → (length s ≡ 0 → ⊥) → (get_or s 0 0 ≡ 66 → ⊥) → (get_or s 0 0 ≡ 67 → ⊥) → (get_or s 0 0 ≡ 77 → ⊥) → no_boundary ≡ boundary_of s
unfolding boundary_of
by_other [] n d e f = absurd (n refl)
by_other (b ∷ t) n d e f = simp (ne_eqb b 66 d, ne_eqb b 67 e, ne_eqb b 77 f)
