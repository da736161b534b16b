-- Laws of the inner functions: the search for an identifier, and the walk over descriptions.
use mathlib.Core.Path.{◌≡◌, refl, sym, ap, ◌∙◌}
use mathlib.Core.Bool.{true, false}
use mathlib.Core.List.{List, [], ◌∷◌, ◌++◌}
use mathlib.Core.Option.{some, none}
use Prim.Native.Nat.{ℕ, suc, ◌+◌, ◌-◌, ◌<◌, ◌≤◌, min}
use native.Mathlib.Omega.{arith}
use native.Mathlib.Numerals.{one-add}
use lib.ListN.{length, take, get_or, length-take, length-append}
use lib.IntN.{ℤ}
use lib.Seq.{take_all}
use Rattle.std.specs.Prelude.{position, nat_eq, nat_lt}
use Rattle.std.specs.List.{position_or_len}
use Rattle.std.specs.Option.{unwrap_or}
use lib.Pow.{are_bytes}
use lib.Dec.{eqb, leb, ltb}
use borrow.Author.Tests.{le-leb, lt-leb, lt-ltb, le-ltb, leb-true, leb-false, ltb-false}
use Rattle.wire.specs.Bytes.{at, be_bytes}
use Rattle.wire.specs.Int.{int_bytes}
use Rattle.wire.proofs.Laws.{impossible, by_test, length_be_bytes}
use Rattle.rows.specs.Layout.{Read, got, refused, mapped}
use Rattle.rows.specs.Rows.{Described, described, described_bytes}
use Rattle.rows.proofs.Within.{reader_laws}
use Rattle.rows.proofs.Parts.{part_laws}
use Rattle.rows.specs.Head.{Span, told_description, described_at, description_at}
use Rattle.relations.specs.declared.Refusal.{Refusal}
use Rattle.relations.specs.declared.Refusal.TheVariants.{CacheFull, TooLarge, Unmatched, NoRoom}
use Rattle.relations.specs.Cache.{names_fit, fits}
use Rattle.rows.specs.Head.{Answer, refusal}
use Rattle.relations.specs.Answers.{number_of, answer_as}
use Rattle.relations.specs.Memory.{place_of, count_held, described_from}

-- ---- identifiers

-- the library's search for the first element that passes a test
place_is : (id : ℕ) (l : List ℕ) → position_or_len (λ x. nat_eq x id) l ≡ place_of id l
unfolding place_of
place_is id [] = refl
place_is id (j ∷ l) = by_test (eqb j id) (λ t. rw t) (λ t. rw (t, one-add) (ap suc (place_is id l)))

place_most : (id : ℕ) (l : List ℕ) → place_of id l ≤ length l
unfolding place_of
place_most id [] = omega arith
place_most id (j ∷ l) = by_test (eqb j id) (λ t. rw t (omega arith)) (λ t. rw t (omega (arith, place_most id l)))

pub first_place : (id n : ℕ) (l : List ℕ) → n ≡ length l → unwrap_or (position (λ x. nat_eq x id) l) n ≡ place_of id l
first_place id n l e =
    by_test (nat_lt (place_of id l) (length l))
    (λ t. rw (place_is id l, t))
    (λ t. rw (place_is id l, t) (omega (arith, place_most id l, ltb-false (place_of id l) (length l) t, e)))

-- no more are taken than there are
pub taken_least : (n : ℕ) (l : List ℕ) → take (min n (length l)) l ≡ take n l
taken_least n l =
    by_test (leb n (length l))
    (λ t. let e : min n (length l) ≡ n = omega (arith, leb-true n (length l) t) in rw e)
    (λ t.
    let h : length l < n = leb-false n (length l) t in
    let e : min n (length l) ≡ length l = omega arith in
    rw (e, take_all (length l) l (omega arith), take_all n l (omega arith)))

-- ---- descriptions

-- a description that was read, by what the code is told of it
pub record Given (s : List ℕ) (i : ℕ) (flags : ℕ) (part : Span) (oid : ℕ) (modifier : ℤ) (j : ℕ) : Type 0 where
  pub name : List ℕ
  pub read : description_at s i ≡ got (described flags name oid modifier) j
  pub stands : part ≡ (i + 1, length name)

read_description : (s : List ℕ) (i : ℕ) (r : Read Described) → description_at s i ≡ r → (flags : ℕ) (part : Span) (oid : ℕ) (modifier : ℤ) (j : ℕ)
    → got (told_description flags part oid modifier) j ≡ mapped (described_at i) r → Given s i flags part oid modifier j
read_description s i (got (described f v o m) q) e flags part oid modifier j h =
    record { name = v; read = cc; stands = cc }
read_description s i (refused n) e flags part oid modifier j h = let z : ◌≡◌ {A = ℕ} 0 1 = cc in impossible z

-- its name stands in the data
module _ {s : List ℕ} {i flags : ℕ} {part : Span} {oid : ℕ} {modifier : ℤ} {j : ℕ} (g : Given s i flags part oid modifier j) where
  pub room : part.0 + part.1 ≤ length s
  unfolding described_bytes
  room =
      let v : List ℕ = g.name in
      let w = reader_laws.description s i (described flags v oid modifier) j g.read in
      let e : length (be_bytes 1 flags ++ ((v ++ (0 ∷ [])) ++ (be_bytes 4 oid ++ int_bytes 4 modifier))) ≡ length (be_bytes 1 flags) + ((length v + 1) + length (be_bytes 4 oid ++ int_bytes 4 modifier)) =
      length-append (be_bytes 1 flags) ((v ++ (0 ∷ [])) ++ (be_bytes 4 oid ++ int_bytes 4 modifier))
      ∙ ap (λ (x : ℕ). length (be_bytes 1 flags) + x) (length-append (v ++ (0 ∷ [])) (be_bytes 4 oid ++ int_bytes 4 modifier) ∙ ap (λ (x : ℕ). x + length (be_bytes 4 oid ++ int_bytes 4 modifier)) (length-append v (0 ∷ []))) in
      omega (arith, w.0, w.2, e, length_be_bytes 1 flags, ap (λ (x : Span). x.0) g.stands, ap (λ (x : Span). x.1) g.stands)

  pub name_there : are_bytes s ≡ true → at s part.0 part.1 ≡ g.name
  name_there b = rw g.stands (part_laws.description_part s b i flags g.name oid modifier j g.read)

-- bytes by their elements
pub all_bytes : (s : List ℕ) → ((i : ℕ) → get_or s i 0 < 256) → are_bytes s ≡ true
all_bytes [] h = refl
all_bytes (x ∷ s) h = rw (lt-ltb x 256 (h 0), all_bytes s (λ i. h (suc i)))

module _ (s : List ℕ) (n k i : ℕ) where
  pub given : (flags : ℕ) (part : Span) (oid : ℕ) (modifier : ℤ) (j : ℕ)
      → got (told_description flags part oid modifier) j ≡ mapped (described_at i) (description_at s i) → Given s i flags part oid modifier j
  given flags part oid modifier j h = read_description s i (description_at s i) refl flags part oid modifier j h

  pub described_next : k < n → (d : Described) (j : ℕ) → description_at s i ≡ got d j → described_from s (n - k) i ≡ d ∷ described_from s (n - (k + 1)) j
  unfolding described_from
  described_next h d j e = let z : n - k ≡ suc (n - (k + 1)) = omega arith in rw (z, e)

  stop_by : (r : Read Described) (m : ℕ) → description_at s i ≡ r → refused m ≡ mapped (described_at i) r → k < n → described_from s (n - k) i ≡ []
  unfolding described_from
  stop_by (got (described f v o p) q) m e h less = let z : ◌≡◌ {A = ℕ} 0 1 = cc in impossible z
  stop_by (refused x) m e h less = let z : n - k ≡ suc (n - (k + 1)) = omega arith in rw (z, e)

  pub described_stop : k < n → (m : ℕ) → refused m ≡ mapped (described_at i) (description_at s i) → described_from s (n - k) i ≡ []
  described_stop less m h = stop_by (description_at s i) m refl h less

  pub described_end : n ≤ k → described_from s (n - k) i ≡ []
  unfolding described_from
  described_end h = let z : n - k ≡ 0 = omega arith in rw z

pub names_one : (flags : ℕ) (v : List ℕ) (oid : ℕ) (modifier : ℤ) (ds : List Described) → length v ≤ 63 → names_fit (described flags v oid modifier ∷ ds) ≡ names_fit ds
unfolding names_fit
names_one flags v oid modifier ds h = rw (le-leb _ _ h)

pub name_long : (flags : ℕ) (v : List ℕ) (oid : ℕ) (modifier : ℤ) (ds : List Described) → 63 < length v → names_fit (described flags v oid modifier ∷ ds) ≡ false
unfolding names_fit
name_long flags v oid modifier ds h = rw (lt-leb _ _ h)

pub name_short : (flags : ℕ) (v : List ℕ) (oid : ℕ) (modifier : ℤ) (ds : List Described) → names_fit (described flags v oid modifier ∷ ds) ≡ true
    → (length v ≤ 63) × (names_fit ds ≡ true)
name_short flags v oid modifier ds h =
    by_test (leb (length v) 63)
    (λ t. (omega (arith, leb-true (length v) 63 t), sym (names_one flags v oid modifier ds (leb-true (length v) 63 t)) ∙ h))
    (λ f. let z : false ≡ true = sym (name_long flags v oid modifier ds (leb-false (length v) 63 f)) ∙ h in let y : ◌≡◌ {A = ℕ} 0 1 = cc in impossible y)

pub names_none : names_fit [] ≡ true
unfolding names_fit
names_none = refl

-- ---- refusals

pub refused_answer : (x : Refusal) (a : Answer) → refusal (number_of x) ≡ answer_as (number_of x) a
refused_answer CacheFull a = refl
refused_answer TooLarge a = refl
refused_answer Unmatched a = refl
refused_answer NoRoom a = refl

-- ---- a relation that is held

module _ (held : ℕ) (ids counts : List ℕ) (id : ℕ) where
  pub held_count : (r k : ℕ) → r ≡ place_of id (take held ids) → r < min held (length ids) → k ≡ min (get_or counts r 0) 32 → some k ≡ count_held held ids counts id
  held_count r k e h g =
      let less : place_of id (take held ids) < length (take held ids) = omega (arith, length-take held ids) in
      rw (lt-ltb _ _ less, ← e, g)

  pub not_held : (r : ℕ) → r ≡ place_of id (take held ids) → min held (length ids) ≤ r → none ≡ count_held held ids counts id
  not_held r e h =
      let most : length (take held ids) ≤ place_of id (take held ids) = omega (arith, length-take held ids) in
      rw (le-ltb _ _ most)

  pub count_small : (k : ℕ) → some k ≡ count_held held ids counts id → k ≤ 32
  count_small k e =
      by_test (ltb (place_of id (take held ids)) (length (take held ids)))
      (λ t. let h : some k ≡ some (min (get_or counts (place_of id (take held ids)) 0) 32) = e ∙ rw t in let g : k ≡ min (get_or counts (place_of id (take held ids)) 0) 32 = cc in omega arith)
      (λ f. let h : some k ≡ none = e ∙ rw f in let z : ◌≡◌ {A = ℕ} 0 1 = cc in impossible z)

pub fits_few : (ds : List Described) → true ≡ fits ds → (length ds ≤ 32) × (names_fit ds ≡ true)
unfolding fits
fits_few ds h =
    by_test (leb (length ds) 32)
    (λ t. (leb-true (length ds) 32 t, sym (h ∙ rw t)))
    (λ f. let z : true ≡ false = h ∙ rw f in let y : ◌≡◌ {A = ℕ} 0 1 = cc in impossible y)
