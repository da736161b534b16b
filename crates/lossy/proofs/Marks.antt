-- What is counted and what is seen: EF BF BD stands only where a part begins, since its second and third byte begin no sequence.
use mathlib.Core.Path.{◌≡◌, refl, sym, ap, ◌∙◌}
use mathlib.Core.Bool.{Bool, true, false}
use mathlib.Core.List.{List, [], ◌∷◌, ◌++◌}
use Prim.Native.Nat.{ℕ, zero, suc, ◌+◌, ◌*◌, ◌≤◌, ◌<◌, max}
use native.Mathlib.Nat.{not-suc-le-zero}
use native.Mathlib.Numerals.{one-add}
use native.Mathlib.Omega.{arith}
use lib.ListN.{length, take, drop, length-append}
use lib.Seq.{length-take-le}
use lib.Dec.{leb, ltb, eqb}
use borrow.Author.Tests.{leb-true, ltb-true, eqb-true, eqb-false, ne_eqb}
use Rattle.wire.specs.Bytes.{pick}
use Rattle.wire.proofs.Laws.{by_test, impossible}
use Rattle.utf8.specs.WellFormed.{Range, within, table, begins, row_of, matched}
use Rattle.lossy.specs.Lossy.{Part, well, ill, part_by, bytes_of, parts_of, shown, shown_all, lossy_of}
use Rattle.lossy.specs.Code.{part_found}
use Rattle.lossy.specs.declared.part.Part.{Part as Cut}
use Rattle.lossy.specs.Marks.{is_mark, seen, marks_in, marks_all, marks_of, MarksAreSeen, MarksFit}
use Rattle.lossy.proofs.Table.{Own, own, matched_fits, part_begun}
use Rattle.lossy.proofs.Laws.{bytes_either, part_some, fewer}

-- ---- bytes that begin no mark

other : (b : ℕ) (s : List ℕ) → (b ≡ 0xEF → ⊥) → seen (b ∷ s) ≡ seen s
unfolding seen
other b s h = rw (ne_eqb b 0xEF h) (omega arith)

abbrev both : Bool → Bool → Bool
both true b = b
both false b = false

both_true : (a b : Bool) → both a b ≡ true → (a ≡ true) × (b ≡ true)
both_true true b e = (refl, e)
both_true false b e = impossible cc

-- the ranges end before EF
abbrev low : List Range → Bool
low [] = true
low (r ∷ rs) = both (ltb r.high 0xEF) (low rs)

high_of : (r : Range) (b : ℕ) → within r b ≡ true → b ≤ r.high
high_of r b e = by (leb r.low b) e
  where
    by : (t : Bool) → pick t (leb b r.high) false ≡ true → b ≤ r.high
    by true p = leb-true b r.high p
    by false p = impossible cc

below : (r : Range) (b : ℕ) → ltb r.high 0xEF ≡ true → within r b ≡ true → b ≡ 0xEF → ⊥
below r b h e q =
    let k : r.high < 0xEF = ltb-true _ _ h in
    let l : b ≤ r.high = high_of r b e in
    omega arith

-- bytes in such ranges are in no place of a mark's first byte
quiet_behind : (rs : List Range) (s : List ℕ) → low rs ≡ true → seen s ≡ seen (drop (matched rs s) s)
unfolding matched
quiet_behind [] s e = refl
quiet_behind (r ∷ rs) [] e = refl
quiet_behind (r ∷ rs) (c ∷ s) e =
    let h = both_true (ltb r.high 0xEF) (low rs) e in
    go (within r c) refl h.0 (quiet_behind rs s h.1)
  where
    go : (t : Bool) → within r c ≡ t → ltb r.high 0xEF ≡ true → seen s ≡ seen (drop (matched rs s) s) → seen (c ∷ s) ≡ seen (drop (pick t (suc (matched rs s)) 0) (c ∷ s))
    go true q h i = other c s (below r c h q) ∙ i
    go false q h i = refl

quiet_taken : (rs : List Range) (s out : List ℕ) → low rs ≡ true → seen (take (matched rs s) s ++ out) ≡ seen out
unfolding matched
quiet_taken [] s out e = refl
quiet_taken (r ∷ rs) [] out e = refl
quiet_taken (r ∷ rs) (c ∷ s) out e =
    let h = both_true (ltb r.high 0xEF) (low rs) e in
    go (within r c) refl h.0 (quiet_taken rs s out h.1)
  where
    go : (t : Bool) → within r c ≡ t → ltb r.high 0xEF ≡ true → seen (take (matched rs s) s ++ out) ≡ seen out
        → seen (take (pick t (suc (matched rs s)) 0) (c ∷ s) ++ out) ≡ seen out
    go true q h i = other c (take (matched rs s) s ++ out) (below r c h q) ∙ i
    go false q h i = refl

-- ---- the table: after the first byte, all ranges end before EF

abbrev behind : List Range → List Range
behind [] = []
behind (r ∷ rs) = rs

abbrev low_rows : List (List Range) → Bool
low_rows [] = true
low_rows (row ∷ rows) = both (low (behind row)) (low_rows rows)

table_low : low_rows table ≡ true
unfolding table
table_low = refl

row_low : (rows : List (List Range)) (b : ℕ) → low_rows rows ≡ true → low (behind (row_of rows b)) ≡ true
unfolding row_of
row_low [] b e = refl
row_low (row ∷ rows) b e =
    let h = both_true (low (behind row)) (low_rows rows) e in
    go (begins row b) h.0 (row_low rows b h.1)
  where
    go : (t : Bool) → low (behind row) ≡ true → low (behind (row_of rows b)) ≡ true → low (behind (pick t row (row_of rows b))) ≡ true
    go true h i = h
    go false h i = i

-- the row of EF
abbrev of_ef : List Range
of_ef = record { low = 0xEE; high = 0xEF } ∷ record { low = 0x80; high = 0xBF } ∷ record { low = 0x80; high = 0xBF } ∷ []

ef_row : row_of table 0xEF ≡ of_ef
unfolding row_of table
ef_row = refl

-- ---- the mark that a part is

abbrev seen_in : Part → ℕ
seen_in (well x) = pick (is_mark x) 1 0
seen_in (ill x) = 0

either : (t : Bool) → pick t false false ≡ false
either true = refl
either false = refl

no_mark : (b : ℕ) (s : List ℕ) → (b ≡ 0xEF → ⊥) → is_mark (b ∷ s) ≡ false
no_mark b s h = rw (ne_eqb b 0xEF h)

no_mark_taken : (n b : ℕ) (s : List ℕ) → (b ≡ 0xEF → ⊥) → is_mark (take n (b ∷ s)) ≡ false
no_mark_taken zero b s h = refl
no_mark_taken (suc n) b s h = no_mark b (take n s) h

other_part : (row : List Range) (b : ℕ) (s : List ℕ) → (b ≡ 0xEF → ⊥) → 0 ≡ seen_in (part_by row (b ∷ s))
other_part [] b s h = refl
other_part (r ∷ rs) b s h = go (eqb n (suc (length rs)))
  where
    n : ℕ
    n = matched (r ∷ rs) (b ∷ s)

    go : (t : Bool) → 0 ≡ seen_in (pick t (well (take n (b ∷ s))) (ill (take (max 1 n) (b ∷ s))))
    go true = rw (no_mark_taken n b s h)
    go false = refl

not_in : (r : Range) (b x : ℕ) → within r x ≡ true → within r b ≡ false → eqb b x ≡ false
not_in r b x e f = ne_eqb b x (λ q. let z : true ≡ false = sym (ap (within r) q ∙ e) ∙ f in impossible cc)

ef_part : (s : List ℕ) → pick (is_mark (0xEF ∷ s)) 1 0 ≡ seen_in (part_by of_ef (0xEF ∷ s))
unfolding matched
ef_part [] = refl
ef_part (c ∷ []) =
    by_test (within (record { low = 0x80; high = 0xBF }) c)
    (λ q. rw (q, either (eqb c 0xBF)))
    (λ q. rw (q, either (eqb c 0xBF)))
ef_part (c ∷ d ∷ s) =
    let r : Range = record { low = 0x80; high = 0xBF } in
    by_test (within r c)
    (λ q. by_test (within r d)
    (λ p. rw (q, p))
    (λ p. rw (q, p, not_in r d 0xBD refl p, either (eqb c 0xBF))))
    (λ q. rw (q, not_in r c 0xBF refl q))

first : (b : ℕ) (s : List ℕ) → pick (is_mark (b ∷ s)) 1 0 ≡ seen_in (part_by (row_of table b) (b ∷ s))
first b s =
    by_test (eqb b 0xEF)
    (λ t. let e : b ≡ 0xEF = eqb-true _ _ t in rw (e, ef_row) (ef_part s))
    (λ t. let h : b ≡ 0xEF → ⊥ = eqb-false _ _ t in rw (no_mark b s h) (other_part (row_of table b) b s h))

-- ---- a part of the text, and what follows it

module _ (r : Range) (rs : List Range) (b : ℕ) (s : List ℕ) (o : within r b ≡ true) where
  abbrev cut : Cut
  cut = record { len = 1 + matched rs s; well = eqb (matched rs s) (length rs) }

  begun : part_by (r ∷ rs) (b ∷ s) ≡ part_found cut (b ∷ s)
  begun = part_begun (r ∷ rs) rs b s (matched rs s) o refl refl

  begun_length : length (bytes_of (part_found cut (b ∷ s))) ≡ suc (matched rs s)
  begun_length =
      let f : matched rs s ≤ length s = matched_fits rs s in
      ap length (bytes_either (eqb (matched rs s) (length rs)) (take (1 + matched rs s) (b ∷ s)))
      ∙ rw one-add (length-take-le (suc (matched rs s)) (b ∷ s) (omega arith))

behind_part : (row : List Range) (b : ℕ) (s : List ℕ) → Own row b → low (behind row) ≡ true → seen s ≡ seen (drop (length (bytes_of (part_by row (b ∷ s)))) (b ∷ s))
behind_part [] b s o l = refl
behind_part (r ∷ rs) b s o l = rw (begun r rs b s o, begun_length r rs b s o) (quiet_behind rs s l)

part_seen : (b : ℕ) (s : List ℕ) → let p : Part = part_by (row_of table b) (b ∷ s) in seen (b ∷ s) ≡ seen_in p + seen (drop (length (bytes_of p)) (b ∷ s))
unfolding seen
part_seen b s = rw (first b s, ← behind_part (row_of table b) b s (own table b) (row_low table b table_low))

-- ---- what a part becomes, and what follows it

mark_seen : (out : List ℕ) → seen (0xEF ∷ 0xBF ∷ 0xBD ∷ out) ≡ 1 + seen out
unfolding seen
mark_seen out = omega arith

two_there : (b m : ℕ) (s out : List ℕ) → 2 ≤ m → m ≤ length s → is_mark (b ∷ (take m s ++ out)) ≡ is_mark (b ∷ take m s)
two_there b zero s out h k = absurd (omega arith)
two_there b (suc zero) s out h k = absurd (omega arith)
two_there b (suc (suc m)) [] out h k = absurd (not-suc-le-zero k)
two_there b (suc (suc m)) (c ∷ []) out h k = absurd (omega arith)
two_there b (suc (suc m)) (c ∷ d ∷ s) out h k = refl

module _ (r : Range) (rs : List Range) (b : ℕ) (s out : List ℕ) (l : low rs ≡ true) (q : b ≡ 0xEF → r ∷ rs ≡ of_ef) where
  -- a sequence is no mark with the bytes after it, where it is none
  seam : matched rs s ≡ length rs → is_mark (b ∷ (take (matched rs s) s ++ out)) ≡ is_mark (b ∷ take (matched rs s) s)
  seam e =
      by_test (eqb b 0xEF)
      (λ t.
      let n : suc (length rs) ≡ 3 = ap length (q (eqb-true _ _ t)) in
      two_there b (matched rs s) s out (omega arith) (matched_fits rs s))
      (λ t.
      let h : b ≡ 0xEF → ⊥ = eqb-false _ _ t in
      no_mark b (take (matched rs s) s ++ out) h ∙ sym (no_mark b (take (matched rs s) s) h))

  shown_found : (t : Bool) → eqb (matched rs s) (length rs) ≡ t → let x : List ℕ = take (1 + matched rs s) (b ∷ s) in
      seen (shown (pick t (well x) (ill x)) ++ out) ≡ seen_in (pick t (well x) (ill x)) + marks_in (pick t (well x) (ill x)) + seen out
  unfolding seen
  shown_found true t = rw (one-add, seam (eqb-true _ _ t), quiet_taken rs s out l) (omega arith)
  shown_found false t = mark_seen out

shown_row : (row : List Range) (b : ℕ) (s out : List ℕ) → Own row b → low (behind row) ≡ true → (b ≡ 0xEF → row ≡ of_ef) → let p : Part = part_by row (b ∷ s) in
    seen (shown p ++ out) ≡ seen_in p + marks_in p + seen out
shown_row [] b s out o l q = mark_seen out
shown_row (r ∷ rs) b s out o l q = rw (begun r rs b s o) (shown_found r rs b s out l q (eqb (matched rs s) (length rs)) refl)

shown_seen : (b : ℕ) (s out : List ℕ) → let p : Part = part_by (row_of table b) (b ∷ s) in seen (shown p ++ out) ≡ seen_in p + marks_in p + seen out
shown_seen b s out = shown_row (row_of table b) b s out (own table b) (row_low table b table_low) (λ e. rw e ef_row)

-- ---- all parts

all_seen : (n : ℕ) (s : List ℕ) → length s ≤ n → seen (shown_all (parts_of n s)) ≡ seen s + marks_all (parts_of n s)
unfolding parts_of shown_all marks_all seen
all_seen zero [] h = refl
all_seen zero (b ∷ s) h = absurd (not-suc-le-zero h)
all_seen (suc n) [] h = refl
all_seen (suc n) (b ∷ s) h =
    let p : Part = part_by (row_of table b) (b ∷ s) in
    let t : List ℕ = drop (length (bytes_of p)) (b ∷ s) in
    let i : seen (shown_all (parts_of n t)) ≡ seen t + marks_all (parts_of n t) = all_seen n t (fewer b s _ n (part_some (row_of table b) b s) h) in
    let e : seen (shown p ++ shown_all (parts_of n t)) ≡ seen_in p + marks_in p + seen (shown_all (parts_of n t)) = shown_seen b s (shown_all (parts_of n t)) in
    let f : seen (b ∷ s) ≡ seen_in p + seen t = part_seen b s in
    e ∙ rw (i, f) (omega arith)

pub marks_are_seen : MarksAreSeen
unfolding lossy_of marks_of
marks_are_seen s = all_seen (length s) s (omega arith)

all_fit : (ps : List Part) → 3 * marks_all ps ≤ length (shown_all ps)
unfolding shown_all marks_all
all_fit [] = omega arith
all_fit (well x ∷ ps) = let i = all_fit ps in simp length-append (omega arith)
all_fit (ill x ∷ ps) = let i = all_fit ps in simp length-append (omega arith)

pub marks_fit : MarksFit
unfolding lossy_of marks_of
marks_fit s = all_fit (parts_of (length s) s)

-- ---- texts joined before an ASCII byte, which is in no place of a mark

ascii_seam : (x : ℕ) (a : List ℕ) (b : ℕ) (s : List ℕ) → b < 0x80 → is_mark (x ∷ (a ++ (b ∷ s))) ≡ is_mark (x ∷ a)
ascii_seam x [] b s h = rw (ne_eqb b 0xBF (λ q. omega arith))
ascii_seam x (y ∷ []) b s h = rw (ne_eqb b 0xBD (λ q. omega arith))
ascii_seam x (y ∷ z ∷ a) b s h = refl

pub seen_joined : (a : List ℕ) (b : ℕ) (s : List ℕ) → b < 0x80 → seen (a ++ (b ∷ s)) ≡ seen a + seen (b ∷ s)
unfolding seen
seen_joined [] b s h = omega arith
seen_joined (x ∷ a) b s h = rw (ascii_seam x a b s h, seen_joined a b s h) (omega arith)
