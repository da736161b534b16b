-- The entries that are read, one by one.
use mathlib.Core.Path.{◌≡◌, refl, sym, ap, ◌∙◌}
use mathlib.Core.Bool.{true, false}
use mathlib.Core.List.{List, [], ◌∷◌}
use mathlib.Core.Option.{some, none}
use Prim.Native.Nat.{ℕ, zero, suc, ◌+◌, ◌<◌, ◌≤◌, min}
use native.Mathlib.Nat.{zero-min, min-zero, suc-min-suc, not-suc-le-zero, le_of_suc-le-suc}
use native.Mathlib.Numerals.{add-one}
use native.Mathlib.Omega.{arith}
use borrow.Author.Tests.{lt-ltb, le-ltb, eq-eqb, ne_eqb}
use lib.ListN.{length, take, drop, get_or, length-take, drop_of_length-le}
use lib.Seq.{drop-cons, get_or-take}
use lib.Dec.{ltb}
use Rattle.std.specs.Prelude.{nat_lt}
use Rattle.std.specs.List.{list_any}
use Rattle.wire.proofs.Laws.{by_test}
use Rattle.touched.specs.Touched.{paired, entries_of, has_no_file, file_of}
use Rattle.touched.specs.ListLaws.{EntryLaws, RefusedLists}
use Rattle.touched.proofs.Laws.{or_true}

paired_length : (ids fs : List ℕ) → length (paired ids fs) ≡ min (length ids) (length fs)
unfolding paired
paired_length [] fs = sym (zero-min (length fs))
paired_length (id ∷ ids) [] = sym (min-zero (suc (length ids)))
paired_length (id ∷ ids) (f ∷ fs) = ap suc (paired_length ids fs) ∙ sym (suc-min-suc (length ids) (length fs))

paired_at : (ids fs : List ℕ) (i : ℕ) → i < length ids → i < length fs → get_or (paired ids fs) i (0, 0) ≡ (get_or ids i 0, get_or fs i 0)
unfolding paired
paired_at [] fs i h k = absurd (not-suc-le-zero h)
paired_at (id ∷ ids) [] i h k = absurd (not-suc-le-zero k)
paired_at (id ∷ ids) (f ∷ fs) zero h k = refl
paired_at (id ∷ ids) (f ∷ fs) (suc i) h k = paired_at ids fs i (le_of_suc-le-suc h) (le_of_suc-le-suc k)

module _ (ids fs : List ℕ) where
  -- how many are read
  abbrev pub count : ℕ
  count = min 64 (min (length ids) (length fs))

  entries_length : length (entries_of ids fs) ≡ count
  entries_length = length-take 64 (paired ids fs) ∙ ap (λ (n : ℕ). min 64 n) (paired_length ids fs)

  entry_each : (i : ℕ) → i < length (entries_of ids fs) → get_or (entries_of ids fs) i (0, 0) ≡ (get_or ids i 0, get_or fs i 0)
  entry_each i l =
      get_or-take 64 (paired ids fs) i (0, 0) (omega (arith, entries_length))
      ∙ paired_at ids fs i (omega (arith, entries_length)) (omega (arith, entries_length))

  entry_at : (i : ℕ) → i < count → drop i (entries_of ids fs) ≡ (get_or ids i 0, get_or fs i 0) ∷ drop (i + 1) (entries_of ids fs)
  entry_at i h =
      let l : i < length (entries_of ids fs) = omega (arith, entries_length) in
      let g : get_or (entries_of ids fs) i (0, 0) ≡ (get_or ids i 0, get_or fs i 0) = entry_each i l in
      rw (add-one, ← g) (drop-cons (entries_of ids fs) i (0, 0) l)

  -- ---- the file of an identifier

  pub file_here : (i id : ℕ) → i < count → get_or ids i 0 ≡ id → file_of (drop i (entries_of ids fs)) id ≡ some (get_or fs i 0)
  unfolding file_of
  file_here i id h e = rw (entry_at i h, eq-eqb (get_or ids i 0) id e)

  pub file_next : (i id : ℕ) → i < count → (get_or ids i 0 ≡ id → ⊥)
      → file_of (drop i (entries_of ids fs)) id ≡ file_of (drop (i + 1) (entries_of ids fs)) id
  unfolding file_of
  file_next i id h e = rw (entry_at i h, ne_eqb (get_or ids i 0) id e)

  pub file_end : (i id : ℕ) → count ≤ i → file_of (drop i (entries_of ids fs)) id ≡ none
  unfolding file_of
  file_end i id h = rw (drop_of_length-le (entries_of ids fs) {i = i} (omega (arith, entries_length)))

-- ---- the list

list_refused : (es : List (ℕ × ℕ)) (i : ℕ) → i < length es → 3 < (get_or es i (0, 0)).1 → has_no_file es ≡ true
unfolding has_no_file
list_refused [] i l h = absurd (not-suc-le-zero l)
list_refused (e ∷ es) zero l h = rw (lt-ltb 3 e.1 h)
list_refused (e ∷ es) (suc i) l h = rw (list_refused es i (le_of_suc-le-suc l) h) (or_true (ltb 3 e.1))

list_accepted : (es : List (ℕ × ℕ)) → ((i : ℕ) → i < length es → (get_or es i (0, 0)).1 ≤ 3) → has_no_file es ≡ false
unfolding has_no_file
list_accepted [] h = refl
list_accepted (e ∷ es) h = rw (le-ltb 3 e.1 (h 0 (omega arith))) (list_accepted es (λ i l. h (suc i) (omega arith)))

pub entry_laws : EntryLaws
entry_laws = record { how_many = entries_length; each = entry_each }

pub refused_lists : RefusedLists
refused_lists = record { refused = list_refused; accepted = list_accepted }

-- ---- files above 3: those that are read are the files of the entries

pub other_among : (k : ℕ) (ids fs : List ℕ) (n : ℕ) → n ≡ min k (min (length ids) (length fs))
    → list_any (λ f. nat_lt 3 f) (take n fs) ≡ has_no_file (take k (paired ids fs))
unfolding paired has_no_file
other_among zero ids fs zero e = refl
other_among zero ids fs (suc n) e = absurd (omega arith)
other_among (suc k) [] fs zero e = refl
other_among (suc k) [] fs (suc n) e = absurd (omega arith)
other_among (suc k) (id ∷ ids) [] zero e = refl
other_among (suc k) (id ∷ ids) [] (suc n) e = absurd (omega arith)
other_among (suc k) (id ∷ ids) (f ∷ fs) zero e = absurd (omega arith)
other_among (suc k) (id ∷ ids) (f ∷ fs) (suc n) e =
    by_test (ltb 3 f) (λ t. rw t) (λ t. rw t (other_among k ids fs n (omega arith)))
