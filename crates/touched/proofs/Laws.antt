-- Files that are touched one by one, and all at once; the relations of a row.
use mathlib.Core.Path.{◌≡◌, refl, sym, ap}
use mathlib.Core.Bool.{Bool, true, false}
use mathlib.Core.List.{List, [], ◌∷◌, ◌++◌}
use mathlib.Core.Option as O
use Prim.Native.Nat.{ℕ, suc, ◌+◌, ◌-◌, ◌<◌, ◌≤◌}
use native.Mathlib.Omega.{arith}
use borrow.Author.Tests.{eqb-true, lt-ltb}
use lib.Dec.{eqb}
use lib.ListN.{length, get_or}
use lib.Pow.{are_bytes}
use Rattle.wire.specs.Bytes.{pick}
use Rattle.wire.proofs.Laws.{by_test, impossible}
use Rattle.rows.specs.Layout.{got, refused}
use Rattle.rows.specs.Rows.{relation, type, origin, insert, update, update_from, delete, truncate, Said, row, no_row, refused_by, row_said}
use Rattle.rows.specs.Head.{relation_head, type_head, origin_head, insert_head, update_head, update_from_head, delete_head, truncate_head, Answer, head, none, refusal, answer_of, identifier_at}
use Rattle.rows.specs.RowLayout.{InTurn}
use Rattle.rows.proofs.Readers.{readers_answer}
use Rattle.touched.specs.declared.Files.{Files}
use Rattle.touched.specs.Touched.{file_of, changed_by, is_file, is_among, files, is_full, with_all}
use Rattle.touched.specs.Code.{with_file, identifiers_at}

-- ---- one or the other

pub or_false : (a : Bool) → pick a true false ≡ a
or_false true = refl
or_false false = refl

pub or_true : (a : Bool) → pick a true true ≡ true
or_true true = refl
or_true false = refl

pub or_or : (a b c : Bool) → pick (pick a true b) true c ≡ pick a true (pick b true c)
or_or true b c = refl
or_or false b c = refl

all_four : (x y z w : Bool) → is_full (files x y z w) ≡ true → (x ≡ true) × (y ≡ true) × (z ≡ true) × (w ≡ true)
all_four true true true true h = (refl, refl, refl, refl)
all_four true true true false h = impossible cc
all_four true true false w h = impossible cc
all_four true false z w h = impossible cc
all_four false y z w h = impossible cc

-- a file that is set, bit by bit
set_file : (f : ℕ) (b : Files) → with_file f b
    ≡ files (pick b.zero true (pick (eqb f 0) true false)) (pick b.one true (pick (eqb f 1) true false))
    (pick b.two true (pick (eqb f 2) true false)) (pick b.three true (pick (eqb f 3) true false))
set_file f b =
    by_test (eqb f 0) (λ e. rw (eqb-true f 0 e, or_true b.zero, or_false b.one, or_false b.two, or_false b.three))
    (λ n0. by_test (eqb f 1) (λ e. rw (eqb-true f 1 e, or_false b.zero, or_true b.one, or_false b.two, or_false b.three))
    (λ n1. by_test (eqb f 2) (λ e. rw (eqb-true f 2 e, or_false b.zero, or_false b.one, or_true b.two, or_false b.three))
    (λ n2. by_test (eqb f 3) (λ e. rw (eqb-true f 3 e, or_false b.zero, or_false b.one, or_false b.two, or_true b.three))
    (λ n3. rw (n0, n1, n2, n3, or_false b.zero, or_false b.one, or_false b.two, or_false b.three)))))

-- a slice's elements are bytes
all_bytes : (s : List ℕ) → ((i : ℕ) → get_or s i 0 < 256) → are_bytes s ≡ true
all_bytes [] h = refl
all_bytes (x ∷ s) h = rw (lt-ltb x 256 (h 0)) (all_bytes s (λ i. h (suc i)))

-- ---- relations

module _ (es : List (ℕ × ℕ)) where
  pub among_append : (f : ℕ) (ids more : List ℕ) → is_among es f (ids ++ more) ≡ pick (is_among es f ids) true (is_among es f more)
  unfolding is_among
  among_append f [] more = refl
  among_append f (id ∷ ids) more = rw (among_append f ids more) (sym (or_or (is_file f (file_of es id)) (is_among es f ids) (is_among es f more)))

  -- no relation, and one list after the other
  pub with_none : (b : Files) → with_all es [] b ≡ b
  unfolding is_among
  with_none b = rw (or_false b.zero, or_false b.one, or_false b.two, or_false b.three)

  pub with_append : (ids more : List ℕ) (b : Files) → with_all es (ids ++ more) b ≡ with_all es more (with_all es ids b)
  with_append ids more b =
      rw (
        among_append 0 ids more,
        among_append 1 ids more,
        among_append 2 ids more,
        among_append 3 ids more,
        or_or b.zero (is_among es 0 ids) (is_among es 0 more),
        or_or b.one (is_among es 1 ids) (is_among es 1 more),
        or_or b.two (is_among es 2 ids) (is_among es 2 more),
        or_or b.three (is_among es 3 ids) (is_among es 3 more),
      )

  -- all four are touched
  pub with_full : (ids : List ℕ) (b : Files) → is_full b ≡ true → with_all es ids b ≡ b
  with_full ids b h = let w = all_four b.zero b.one b.two b.three h in rw (w.0, w.1, w.2, w.3)

  -- ---- one relation

  pub with_found : (id f : ℕ) (b : Files) → O.some f ≡ file_of es id → with_file f b ≡ with_all es (id ∷ []) b
  unfolding is_among
  with_found id f b e = rw (← e) (set_file f b)

  pub with_unlisted : (id : ℕ) (b : Files) → O.none ≡ file_of es id → b ≡ with_all es (id ∷ []) b
  unfolding is_among
  with_unlisted id b e = rw (← e, or_false b.zero, or_false b.one, or_false b.two, or_false b.three)

-- ---- the identifiers of a Truncate

module _ (s : List ℕ) where
  pub identifiers_next : (n k i id j : ℕ) → k < n → got id j ≡ identifier_at s i → identifiers_at s (n - k) i ≡ id ∷ identifiers_at s (n - (k + 1)) j
  unfolding identifiers_at
  identifiers_next n k i id j h e = let m : n - k ≡ suc (n - (k + 1)) = omega arith in rw (m, ← e)

  pub identifiers_cut : (n k i m : ℕ) → k < n → refused m ≡ identifier_at s i → identifiers_at s (n - k) i ≡ []
  unfolding identifiers_at
  identifiers_cut n k i m h e = let l : n - k ≡ suc (n - (k + 1)) = omega arith in rw (l, ← e)

  pub identifiers_end : (n k i : ℕ) → n ≤ k → identifiers_at s (n - k) i ≡ []
  unfolding identifiers_at
  identifiers_end n k i h = let l : n - k ≡ 0 = omega arith in rw l

  in_turn : (ids : List ℕ) (i j : ℕ) → InTurn (identifier_at s) i ids j → identifiers_at s (length ids) i ≡ ids
  unfolding identifiers_at
  in_turn [] i j h = refl
  in_turn (id ∷ ids) i j h = rw h.1 (ap (λ (x : List ℕ). id ∷ x) (in_turn ids h.0 j h.2))

-- ---- a row's head names the relations that it changes

-- a head and what the data say
truncated : (s : List ℕ) → are_bytes s ≡ true → (said : Said) → row_said s ≡ said → (n options from : ℕ)
    → head (truncate_head n options from) ≡ answer_of said → identifiers_at s n from ≡ changed_by said
truncated s b (row (truncate o ids)) e n options from h =
    let l : n ≡ length ids = cc in
    let i : from ≡ 6 = cc in
    rw (l, i) (in_turn s ids 6 _ (readers_answer s (truncate o ids) b e).0)
truncated s b (row (relation id space v identity cs)) e n options from h = impossible cc
truncated s b (row (type id space v)) e n options from h = impossible cc
truncated s b (row (origin position v)) e n options from h = impossible cc
truncated s b (row (insert id new)) e n options from h = impossible cc
truncated s b (row (update id new)) e n options from h = impossible cc
truncated s b (row (update_from id which old new)) e n options from h = impossible cc
truncated s b (row (delete id which old)) e n options from h = impossible cc
truncated s b no_row e n options from h = impossible cc
truncated s b (refused_by m) e n options from h = impossible cc

-- the relations that an answer other than a Truncate's changes
abbrev pub changed_head : Answer → List ℕ
changed_head (head (relation_head id space v identity columns from)) = []
changed_head (head (type_head id space v)) = []
changed_head (head (origin_head position v)) = []
changed_head (head (insert_head id new)) = id ∷ []
changed_head (head (update_head id new)) = id ∷ []
changed_head (head (update_from_head id which old new)) = id ∷ []
changed_head (head (delete_head id which old)) = id ∷ []
changed_head (head (truncate_head n options from)) = []
changed_head none = []
changed_head (refusal n) = []

abbrev pub is_truncate : Answer → Bool
is_truncate (head (truncate_head n options from)) = true
is_truncate (head (relation_head id space v identity columns from)) = false
is_truncate (head (type_head id space v)) = false
is_truncate (head (origin_head position v)) = false
is_truncate (head (insert_head id new)) = false
is_truncate (head (update_head id new)) = false
is_truncate (head (update_from_head id which old new)) = false
is_truncate (head (delete_head id which old)) = false
is_truncate none = false
is_truncate (refusal n) = false

-- the relations of a row that is no Truncate are those that the data change
other : (said : Said) → is_truncate (answer_of said) ≡ false → changed_head (answer_of said) ≡ changed_by said
other (row (relation id space v identity cs)) h = refl
other (row (type id space v)) h = refl
other (row (origin position v)) h = refl
other (row (insert id new)) h = refl
other (row (update id new)) h = refl
other (row (update_from id which old new)) h = refl
other (row (delete id which old)) h = refl
other (row (truncate options ids)) h = impossible cc
other no_row h = refl
other (refused_by n) h = refl

module _ (s : List ℕ) where
  pub truncate_changes : ((i : ℕ) → get_or s i 0 < 256) → (n options from : ℕ) → head (truncate_head n options from) ≡ answer_of (row_said s)
      → identifiers_at s n from ≡ changed_by (row_said s)
  truncate_changes b n options from h = truncated s (all_bytes s b) (row_said s) refl n options from h

  pub head_changes : (a : Answer) → a ≡ answer_of (row_said s) → is_truncate a ≡ false → changed_head a ≡ changed_by (row_said s)
  head_changes a h t = rw h (other (row_said s) (rw h at t))
