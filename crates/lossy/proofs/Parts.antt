-- The parts that are found are those of the Unicode Standard.
use mathlib.Core.Path.{◌≡◌, refl, ap, subst⁻¹, ◌∙◌}
use mathlib.Core.Bool.{Bool, true, false}
use mathlib.Core.List.{List, [], ◌∷◌, ◌++◌, append-nil}
use mathlib.Core.Logic.{inl, inr}
use Prim.Native.Nat.{ℕ, zero, suc, ◌≤◌, ◌<◌, max}
use native.Mathlib.Nat.{not-suc-le-zero}
use native.Mathlib.Omega.{arith}
use lib.ListN.{length, take, drop, length-drop, take-append-drop}
use lib.Seq.{take_all, drop-length, take_at, drop-append_seam, length-take-le}
use lib.Dec.{leb, ltb, eqb}
use borrow.Author.Tests.{leb-true, leb-false, ltb-true, lt-leb, eqb-true, eqb-false, eq-eqb}
use Rattle.wire.specs.Bytes.{pick}
use Rattle.wire.proofs.Laws.{by_test, impossible}
use Rattle.utf8.specs.WellFormed.{Range, table, within, begins, row_of, matched}
use Rattle.lossy.specs.Lossy.{Part, well, ill, part_by, bytes_of, parts_of}
use Rattle.lossy.specs.Parts.{Matches, Begins, AnyRow, Sequence, Beginning, Maximal, bytes_of_all, Right, PartsAreRight, concat, WellFormedIsUnchanged}
use Rattle.lossy.proofs.Table.{own, matched_fits}
use Rattle.lossy.proofs.Laws.{part_size, part_some, lossy_none, lossy_next}

-- ---- one row for each first byte

abbrev both : Bool → Bool → Bool
both true b = b
both false b = false

both_true : (a b : Bool) → both a b ≡ true → (a ≡ true) × (b ≡ true)
both_true true b e = (refl, e)
both_true false b e = impossible cc

-- the first range of a row lies before those of all these rows
abbrev before : Range → List (List Range) → Bool
before r [] = true
before r ([] ∷ rows) = false
before r ((t ∷ ts) ∷ rows) = both (ltb r.high t.low) (before r rows)

-- no row is empty, and no two have a first byte in common
abbrev apart : List (List Range) → Bool
apart [] = true
apart ([] ∷ rows) = false
apart ((r ∷ rs) ∷ rows) = both (before r rows) (apart rows)

pub table_apart : apart table ≡ true
unfolding table
table_apart = refl

low_of : (r : Range) (b : ℕ) → within r b ≡ true → r.low ≤ b
low_of r b e = by (leb r.low b) refl e
  where
    by : (t : Bool) → leb r.low b ≡ t → pick t (leb b r.high) false ≡ true → r.low ≤ b
    by true q p = leb-true r.low b q
    by false q p = impossible cc

past_high : (r : Range) (b : ℕ) → r.high < b → within r b ≡ false
past_high r b h = rw (lt-leb b r.high h) (same (leb r.low b))
  where
    same : (t : Bool) → pick t false false ≡ false
    same true = refl
    same false = refl

later_low : (r : Range) (rows : List (List Range)) (b : ℕ) (row : List Range) → before r rows ≡ true → AnyRow rows (λ x. x ≡ row) → begins row b ≡ true → r.high < b
later_low r [] b row e w f = absurd w
later_low r ([] ∷ rows) b row e w f = impossible cc
later_low r ((t ∷ ts) ∷ rows) b row e (inl q) f =
    let p = both_true (ltb r.high t.low) (before r rows) e in
    let l : r.high < t.low = ltb-true _ _ p.0 in
    let k : t.low ≤ b = low_of t b (rw (← q) at f) in
    omega arith
later_low r ((t ∷ ts) ∷ rows) b row e (inr q) f = later_low r rows b row (both_true (ltb r.high t.low) (before r rows) e).1 q f

-- a row that begins with b, of rows that are apart, is the one that is found
row_found : (rows : List (List Range)) (b : ℕ) (row : List Range) → apart rows ≡ true → AnyRow rows (λ x. x ≡ row) → begins row b ≡ true → row_of rows b ≡ row
unfolding row_of
row_found [] b row e w f = absurd w
row_found ([] ∷ rows) b row e w f = impossible cc
row_found ((r ∷ rs) ∷ rows) b row e (inl q) f = let g : within r b ≡ true = rw (← q) at f in rw g q
row_found ((r ∷ rs) ∷ rows) b row e (inr q) f =
    let p = both_true (before r rows) (apart rows) e in
    rw (past_high r b (later_low r rows b row p.0 q f)) (row_found rows b row p.1 q f)

-- a row that begins with a byte is one of the table
row_there : (rows : List (List Range)) (b : ℕ) (r : Range) (rs : List Range) → row_of rows b ≡ r ∷ rs → AnyRow rows (λ x. x ≡ r ∷ rs)
unfolding row_of
row_there [] b r rs e = impossible cc
row_there ([] ∷ rows) b r rs e = inr (row_there rows b r rs e)
row_there ((t ∷ ts) ∷ rows) b r rs e =
    by_test (within t b)
    (λ q. inl (rw q at e))
    (λ q. inr (row_there rows b r rs (rw q at e)))

pub any_map : (rows : List (List Range)) (p q : List Range → Type 0) → ((row : List Range) → p row → q row) → AnyRow rows p → AnyRow rows q
any_map [] p q f w = w
any_map (row ∷ rows) p q f (inl w) = inl (f row w)
any_map (row ∷ rows) p q f (inr w) = inr (any_map rows p q f w)

-- some row: which it is
pub any_some : (rows : List (List Range)) (p : List Range → Type 0) → AnyRow rows p → (row : List Range) × AnyRow rows (λ x. x ≡ row) × p row
any_some [] p w = absurd w
any_some (row ∷ rows) p (inl w) = (row, inl refl, w)
any_some (row ∷ rows) p (inr w) = let v = any_some rows p w in (v.0, inr v.1, v.2)

-- ---- bytes and a row

first_matches : (row : List Range) (b : ℕ) (t : List ℕ) → Matches row (b ∷ t) → begins row b ≡ true
first_matches [] b t w = absurd w
first_matches (r ∷ rs) b t w = w.0

first_begins : (row : List Range) (b : ℕ) (t : List ℕ) → Begins row (b ∷ t) → begins row b ≡ true
first_begins [] b t w = absurd w
first_begins (r ∷ rs) b t w = w.0

matched_begins : (row : List Range) (s : List ℕ) → Begins row (take (matched row s) s)
unfolding matched
matched_begins [] s = tt
matched_begins (r ∷ rs) [] = tt
matched_begins (r ∷ rs) (b ∷ s) = go (within r b) refl (matched_begins rs s)
  where
    go : (t : Bool) → within r b ≡ t → Begins rs (take (matched rs s) s) → Begins (r ∷ rs) (take (pick t (suc (matched rs s)) 0) (b ∷ s))
    go true q w = (q, w)
    go false q w = tt

matched_whole : (row : List Range) (s : List ℕ) → matched row s ≡ length row → Matches row (take (length row) s)
unfolding matched
matched_whole [] s e = tt
matched_whole (r ∷ rs) [] e = absurd (omega arith)
matched_whole (r ∷ rs) (b ∷ s) e = go (within r b) refl e (λ h. matched_whole rs s h)
  where
    go : (t : Bool) → within r b ≡ t → pick t (suc (matched rs s)) 0 ≡ suc (length rs) → (matched rs s ≡ length rs → Matches rs (take (length rs) s))
        → Matches (r ∷ rs) (take (suc (length rs)) (b ∷ s))
    go true q p w = (q, w (omega arith))
    go false q p w = absurd (omega arith)

matches_matched : (row : List Range) (s : List ℕ) (n : ℕ) → Matches row (take n s) → matched row s ≡ length row
unfolding matched
matches_matched [] s n w = refl
matches_matched (r ∷ rs) [] zero w = absurd w
matches_matched (r ∷ rs) [] (suc n) w = absurd w
matches_matched (r ∷ rs) (b ∷ s) zero w = absurd w
matches_matched (r ∷ rs) (b ∷ s) (suc n) w = rw w.0 (ap suc (matches_matched rs s n w.1))

begins_matched : (row : List Range) (s : List ℕ) (n : ℕ) → n ≤ length s → Begins row (take n s) → n ≤ matched row s
unfolding matched
begins_matched row s zero h w = omega arith
begins_matched [] [] (suc n) h w = absurd (not-suc-le-zero h)
begins_matched [] (b ∷ s) (suc n) h w = absurd w
begins_matched (r ∷ rs) [] (suc n) h w = absurd (not-suc-le-zero h)
begins_matched (r ∷ rs) (b ∷ s) (suc n) h w = let i : n ≤ matched rs s = begins_matched rs s n (omega arith) w.1 in rw w.0 (omega arith)

pub matched_front : (row : List Range) (q rest : List ℕ) → Matches row q → (matched row (q ++ rest) ≡ length row) × (length q ≡ length row)
unfolding matched
matched_front [] [] rest w = (refl, refl)
matched_front [] (b ∷ q) rest w = absurd w
matched_front (r ∷ rs) [] rest w = absurd w
matched_front (r ∷ rs) (b ∷ q) rest w =
    let i = matched_front rs q rest w.1 in
    (rw w.0 (ap suc i.0), ap suc i.1)

-- ---- the only row of a first byte

pub sequence_row : (b : ℕ) (t : List ℕ) → Sequence (b ∷ t) → Matches (row_of table b) (b ∷ t)
sequence_row b t w =
    let v = any_some table (λ row. Matches row (b ∷ t)) w in
    rw (row_found table b v.0 table_apart v.1 (first_matches v.0 b t v.2)) v.2

beginning_row : (b : ℕ) (t : List ℕ) → Beginning (b ∷ t) → Begins (row_of table b) (b ∷ t)
beginning_row b t w =
    let v = any_some table (λ row. Begins row (b ∷ t)) w in
    rw (row_found table b v.0 table_apart v.1 (first_begins v.0 b t v.2)) v.2

pub none_empty : (rows : List (List Range)) → apart rows ≡ true → AnyRow rows (λ row. Matches row []) → ⊥
none_empty [] e w = w
none_empty ([] ∷ rows) e w = impossible cc
none_empty ((r ∷ rs) ∷ rows) e (inl w) = w
none_empty ((r ∷ rs) ∷ rows) e (inr w) = none_empty rows (both_true (before r rows) (apart rows) e).1 w

-- ---- the part at the front

abbrev PartRight : Part → List ℕ → Type 0
PartRight (well q) rest = Sequence q
PartRight (ill q) rest = Maximal q rest

module _ (b : ℕ) (s : List ℕ) where
  -- a byte that begins no sequence
  single : (rest : List ℕ) → row_of table b ≡ [] → (b ∷ []) ++ rest ≡ b ∷ s → Maximal (b ∷ []) rest
  single rest e q =
      record {
        unconvertible = λ n w. no n (rw q at w);
        part = inr refl;
        some = omega arith;
        longest = λ n h k w. more n h (rw q at w);
      }
    where
      no : (n : ℕ) → Sequence (take n (b ∷ s)) → ⊥
      no zero w = none_empty table table_apart w
      no (suc n) w = rw e at (sequence_row b (take n s) w)

      more : (n : ℕ) → 1 < n → Beginning (take n (b ∷ s)) → ⊥
      more zero h w = absurd (omega arith)
      more (suc n) h w = rw e at (beginning_row b (take n s) w)

  module _ (r : Range) (rs : List Range) (e : row_of table b ≡ r ∷ rs) where
    of_row : (p : List Range → Type 0) → p (r ∷ rs) → AnyRow table p
    of_row p w = any_map table (λ x. x ≡ r ∷ rs) p (λ row q. subst⁻¹ p q w) (row_there table b r rs e)

    some_matched : 1 ≤ matched (r ∷ rs) (b ∷ s)
    unfolding matched
    some_matched = let o : within r b ≡ true = rw e at (own table b) in rw o (omega arith)

    -- bytes that begin a sequence, and no byte more does
    begun : (n : ℕ) (rest : List ℕ) → n ≡ matched (r ∷ rs) (b ∷ s) → (n ≡ suc (length rs) → ⊥) → take n (b ∷ s) ++ rest ≡ b ∷ s → Maximal (take n (b ∷ s)) rest
    begun n rest m k q =
        let f : n ≤ suc (length s) = rw (← m) at (matched_fits (r ∷ rs) (b ∷ s)) in
        let l : length (take n (b ∷ s)) ≡ n = length-take-le n (b ∷ s) f in
        record {
          unconvertible = λ i w. no i (rw q at w);
          part = inl (of_row (λ row. Begins row (take n (b ∷ s))) (rw m (matched_begins (r ∷ rs) (b ∷ s))));
          some = rw (l, m) some_matched;
          longest = λ i h j w. more i (rw l at h) (rw q at j) (rw q at w);
        }
      where
        no : (i : ℕ) → Sequence (take i (b ∷ s)) → ⊥
        no zero w = none_empty table table_apart w
        no (suc i) w = k (m ∙ matches_matched (r ∷ rs) (b ∷ s) (suc i) (rw e at (sequence_row b (take i s) w)))

        more : (i : ℕ) → n < i → i ≤ suc (length s) → Beginning (take i (b ∷ s)) → ⊥
        more zero h j w = absurd (omega arith)
        more (suc i) h j w =
            let a : suc i ≤ matched (r ∷ rs) (b ∷ s) = begins_matched (r ∷ rs) (b ∷ s) (suc i) j (rw e at (beginning_row b (take i s) w)) in
            absurd (omega arith)

    chosen : (t : Bool) (rest : List ℕ) → let n : ℕ = matched (r ∷ rs) (b ∷ s) in
        eqb n (suc (length rs)) ≡ t → bytes_of (pick t (well (take n (b ∷ s))) (ill (take (max 1 n) (b ∷ s)))) ++ rest ≡ b ∷ s
        → PartRight (pick t (well (take n (b ∷ s))) (ill (take (max 1 n) (b ∷ s)))) rest
    chosen true rest t q =
        let n : ℕ = matched (r ∷ rs) (b ∷ s) in
        let h : n ≡ suc (length rs) = eqb-true _ _ t in
        rw h (of_row (λ row. Matches row (take (suc (length rs)) (b ∷ s))) (matched_whole (r ∷ rs) (b ∷ s) h))
    chosen false rest t q =
        let n : ℕ = matched (r ∷ rs) (b ∷ s) in
        let o : 1 ≤ n = some_matched in
        let j : max 1 n ≡ n = omega arith in
        rw j (begun n rest refl (eqb-false _ _ t) (rw j at q))

  part_right : (row : List Range) (rest : List ℕ) → row_of table b ≡ row → bytes_of (part_by row (b ∷ s)) ++ rest ≡ b ∷ s → PartRight (part_by row (b ∷ s)) rest
  part_right [] rest e q = single rest e q
  part_right (r ∷ rs) rest e q = chosen r rs e (eqb (matched (r ∷ rs) (b ∷ s)) (suc (length rs))) rest refl q

-- ---- all parts

pub front_joined : (k : ℕ) (l x : List ℕ) → x ≡ take k l → x ++ drop (length x) l ≡ l
front_joined k l x e =
    by_test (leb k (length l))
    (λ t.
    let h : length x ≡ k = ap length e ∙ length-take-le k l (leb-true _ _ t) in
    rw (h, e) (take-append-drop k l))
    (λ t.
    let h : length l < k = leb-false _ _ t in
    let f : x ≡ l = e ∙ take_all k l (omega arith) in
    rw (f, drop-length) (append-nil l))

rest_fits : (b : ℕ) (s : List ℕ) (n : ℕ) → suc (length s) ≤ suc n → length (drop (length (bytes_of (part_by (row_of table b) (b ∷ s)))) (b ∷ s)) ≤ n
rest_fits b s n h = let z = part_some (row_of table b) b s in simp length-drop (omega arith)

joined_parts : (n : ℕ) (s : List ℕ) → length s ≤ n → bytes_of_all (parts_of n s) ≡ s
unfolding parts_of
joined_parts zero [] h = refl
joined_parts zero (b ∷ s) h = absurd (not-suc-le-zero h)
joined_parts (suc n) [] h = refl
joined_parts (suc n) (b ∷ s) h =
    let p : Part = part_by (row_of table b) (b ∷ s) in
    let z = part_size (row_of table b) (b ∷ s) in
    ap (λ (x : List ℕ). bytes_of p ++ x) (joined_parts n (drop (length (bytes_of p)) (b ∷ s)) (rest_fits b s n h))
    ∙ front_joined z.0 (b ∷ s) (bytes_of p) z.2

right_more : (p : Part) (ps : List Part) → PartRight p (bytes_of_all ps) → Right ps → Right (p ∷ ps)
right_more (well q) ps a w = (a, w)
right_more (ill q) ps a w = (a, w)

right_parts : (n : ℕ) (s : List ℕ) → length s ≤ n → Right (parts_of n s)
unfolding parts_of
right_parts zero s h = tt
right_parts (suc n) [] h = tt
right_parts (suc n) (b ∷ s) h =
    let p : Part = part_by (row_of table b) (b ∷ s) in
    let t : List ℕ = drop (length (bytes_of p)) (b ∷ s) in
    right_more p (parts_of n t) (part_right b s (row_of table b) (bytes_of_all (parts_of n t)) refl (joined_parts (suc n) (b ∷ s) h)) (right_parts n t (rest_fits b s n h))

pub parts_are_right : PartsAreRight
parts_are_right s = (joined_parts (length s) s (omega arith), right_parts (length s) s (omega arith))

-- ---- well-formed text

pub sequence_part : (row : List Range) (b : ℕ) (t rest : List ℕ) → Matches row (b ∷ t) → part_by row ((b ∷ t) ++ rest) ≡ well (b ∷ t)
sequence_part [] b t rest w = absurd w
sequence_part (r ∷ rs) b t rest w =
    let m = matched_front (r ∷ rs) (b ∷ t) rest w in
    let e : eqb (suc (length rs)) (suc (length rs)) ≡ true = eq-eqb (suc (length rs)) (suc (length rs)) refl in
    let f : take (suc (length rs)) ((b ∷ t) ++ rest) ≡ b ∷ t = take_at (b ∷ t) rest (suc (length rs)) m.1 in
    rw (m.0, e, f)

pub well_formed_is_unchanged : WellFormedIsUnchanged
well_formed_is_unchanged [] w = lossy_none
well_formed_is_unchanged ([] ∷ qs) w = absurd (none_empty table table_apart w.0)
well_formed_is_unchanged ((b ∷ t) ∷ qs) w =
    let p = sequence_part (row_of table b) b t (concat qs) (sequence_row b t w.0) in
    lossy_next b (t ++ concat qs) ∙ rw (p, drop-append_seam (b ∷ t) (concat qs)) (ap (λ (x : List ℕ). (b ∷ t) ++ x) (well_formed_is_unchanged qs w.1))
