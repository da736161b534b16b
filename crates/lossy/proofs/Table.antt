-- Laws of the table: the row of a byte goes by where the byte stands between the rows, and a row is matched a byte at a time.
use mathlib.Core.Path.{◌≡◌, refl, sym, ap, ◌∙◌}
use mathlib.Core.Bool.{Bool, true, false}
use mathlib.Core.List.{List, [], ◌∷◌}
use Prim.Native.Nat.{ℕ, zero, suc, ◌+◌, ◌-◌, ◌≤◌, ◌<◌, max}
use native.Mathlib.Nat.{not-suc-le-zero}
use native.Mathlib.Numerals.{one-add, add-one}
use native.Mathlib.Omega.{arith}
use lib.ListN.{length, take, drop, get_or, length-drop}
use lib.Seq.{drop-drop, drop-cons, take-nil}
use lib.Dec.{leb, eqb, eqb-suc-suc}
use borrow.Author.Tests.{le-leb, lt-leb}
use Rattle.wire.specs.Bytes.{pick}
use Rattle.utf8.specs.WellFormed.{Range, within, table, row_of, matched}
use Rattle.lossy.specs.Lossy.{ill, part_by}
use Rattle.lossy.specs.Code.{behind_first, first_in, part_found, PartAt}

-- ---- the row of a byte

-- the byte stands after the first ranges of all the rows
abbrev pub Behind : List (List Range) → ℕ → Type 0
Behind [] b = Unit {0}
Behind ([] ∷ rows) b = Behind rows b
Behind ((r ∷ rs) ∷ rows) b = (r.high < b) × Behind rows b

-- the byte stands before the first ranges of all the rows
abbrev pub Before : List (List Range) → ℕ → Type 0
Before [] b = Unit {0}
Before ([] ∷ rows) b = Before rows b
Before ((r ∷ rs) ∷ rows) b = (b < r.low) × Before rows b

-- the byte is in the first range of the next row
abbrev pub Here : List (List Range) → ℕ → Type 0
Here [] b = ⊥
Here ([] ∷ rows) b = ⊥
Here ((r ∷ rs) ∷ rows) b = (r.low ≤ b) × (b ≤ r.high)

abbrev pub next_row : List (List Range) → List Range
next_row [] = []
next_row (row ∷ rows) = row

not_behind : (r : Range) (b : ℕ) → r.high < b → within r b ≡ false
not_behind r b h = rw (lt-leb b r.high h) (same (leb r.low b))
  where
    same : (t : Bool) → pick t false false ≡ false
    same true = refl
    same false = refl

row_past : (k : ℕ) (rows : List (List Range)) (b : ℕ) → Behind (take k rows) b → row_of rows b ≡ row_of (drop k rows) b
unfolding row_of
row_past zero rows b h = refl
row_past (suc k) [] b h = refl
row_past (suc k) ([] ∷ rows) b h = row_past k rows b h
row_past (suc k) ((r ∷ rs) ∷ rows) b h = rw (not_behind r b h.0) (row_past k rows b h.1)

row_before : (rows : List (List Range)) (b : ℕ) → Before rows b → row_of rows b ≡ []
unfolding row_of
row_before [] b h = refl
row_before ([] ∷ rows) b h = row_before rows b h
row_before ((r ∷ rs) ∷ rows) b h = rw (lt-leb r.low b h.0) (row_before rows b h.1)

row_here : (rows : List (List Range)) (b : ℕ) → Here rows b → row_of rows b ≡ next_row rows
unfolding row_of
row_here [] b h = absurd h
row_here ([] ∷ rows) b h = absurd h
row_here ((r ∷ rs) ∷ rows) b h = simp (le-leb r.low b h.0, le-leb b r.high h.1)

module _ (k : ℕ) (rows : List (List Range)) (b : ℕ) (h : Behind (take k rows) b) where
  pub row_at : Here (drop k rows) b → behind_first (next_row (drop k rows)) ≡ behind_first (row_of rows b)
  row_at e = ap behind_first (sym (row_past k rows b h ∙ row_here (drop k rows) b e))

  pub row_none : Before (drop k rows) b → behind_first [] ≡ behind_first (row_of rows b)
  row_none e = ap behind_first (sym (row_past k rows b h ∙ row_before (drop k rows) b e))

-- a byte is in the first range of its row
abbrev pub Own : List Range → ℕ → Type 0
Own [] b = Unit {0}
Own (r ∷ rs) b = within r b ≡ true

pub own : (rows : List (List Range)) (b : ℕ) → Own (row_of rows b) b
unfolding row_of
own [] b = tt
own ([] ∷ rows) b = own rows b
own ((r ∷ rs) ∷ rows) b = go (within r b) refl (own rows b)
  where
    go : (t : Bool) → within r b ≡ t → Own (row_of rows b) b → Own (pick t (r ∷ rs) (row_of rows b)) b
    go true e h = e
    go false e h = h

-- ---- bytes that match a row

pub matched_first : (r : Range) (rs : List Range) (s : List ℕ) → matched (r ∷ rs) s ≡ pick (first_in r s) (suc (matched rs (drop 1 s))) 0
unfolding matched
matched_first r rs [] = refl
matched_first r rs (b ∷ s) = refl

pub matched_fits : (rs : List Range) (s : List ℕ) → matched rs s ≤ length s
unfolding matched
matched_fits [] s = omega arith
matched_fits (r ∷ rs) [] = omega arith
matched_fits (r ∷ rs) (b ∷ s) = go (within r b) (matched_fits rs s)
  where
    go : (t : Bool) → matched rs s ≤ length s → pick t (suc (matched rs s)) 0 ≤ suc (length s)
    go true h = omega arith
    go false h = omega arith

pub matched_ends : (rs : List Range) (s : List ℕ) (i n : ℕ) → i ≤ length s → n ≡ matched rs (drop i s) → i + n ≤ length s
matched_ends rs s i n h e =
    let m : matched rs (drop i s) ≤ length s - i = simp length-drop at (matched_fits rs (drop i s)) in
    omega arith

-- the first k ranges of a row: none is left, the next byte is in the next range, or it is not
pub matched_end : (k : ℕ) (rs : List Range) (s : List ℕ) → k ≡ 0 → 0 ≡ matched (take k rs) s
unfolding matched
matched_end k rs s e = rw e

pub matched_all : (k : ℕ) (s : List ℕ) → 0 ≡ matched (take k []) s
unfolding matched
matched_all k s = rw take-nil

matched_turn : (k at m : ℕ) (r : Range) (rs : List Range) (s : List ℕ) (t : Bool) → 0 < k → m ≡ at + 1 → t ≡ first_in r (drop at s)
    → matched (take k (r ∷ rs)) (drop at s) ≡ pick t (suc (matched (take (k - 1) rs) (drop m s))) 0
matched_turn zero at m r rs s t h q e = absurd (not-suc-le-zero h)
matched_turn (suc k) at m r rs s t h q e =
    let n : suc k - 1 ≡ k = omega arith in
    rw (n, e, q, ← drop-drop 1 at s) (matched_first r (take k rs) (drop at s))

pub matched_next : (k at m : ℕ) (r : Range) (rs : List Range) (s : List ℕ) {t : Bool} {n : ℕ} → 0 < k → m ≡ at + 1 → t ≡ first_in r (drop at s) → t ≡ true
    → n ≡ matched (take (k - 1) rs) (drop m s) → suc n ≡ matched (take k (r ∷ rs)) (drop at s)
matched_next k at m r rs s {t} {n} h q e y i = rw (matched_turn k at m r rs s t h q e, y, i)

pub matched_stop : (k at : ℕ) (r : Range) (rs : List Range) (s : List ℕ) {t : Bool} → 0 < k → t ≡ first_in r (drop at s) → t ≡ false
    → 0 ≡ matched (take k (r ∷ rs)) (drop at s)
matched_stop k at r rs s {t} h e y = rw (matched_turn k at (at + 1) r rs s t h refl e, y)

-- ---- the part at a place, by the ranges after its first byte

part_ill : (row rs : List Range) (s : List ℕ) → (false, rs) ≡ behind_first row → part_by row s ≡ ill (take 1 s)
part_ill [] rs s e = refl
part_ill (r ∷ row) rs s e = let z : false ≡ true = ap (λ (p : Bool × List Range). p.0) e in cc

pub part_begun : (row rs : List Range) (b : ℕ) (s : List ℕ) (n : ℕ) → Own row b → (true, rs) ≡ behind_first row → n ≡ matched rs s
    → part_by row (b ∷ s) ≡ part_found (record { len = 1 + n; well = eqb n (length rs) }) (b ∷ s)
part_begun [] rs b s n o e m = let z : true ≡ false = ap (λ (p : Bool × List Range). p.0) e in cc
part_begun (r ∷ row) rs b s n o e m =
    let q : rs ≡ row = ap (λ (p : Bool × List Range). p.1) e in
    let k : matched (r ∷ row) (b ∷ s) ≡ 1 + n = rw (matched_first, o, ← q, ← m) (omega arith) in
    let j : max 1 (1 + n) ≡ 1 + n = omega arith in
    let t : eqb (1 + n) (suc (length row)) ≡ eqb n (length rs) = rw (← q, one-add) (eqb-suc-suc n (length rs)) in
    rw (k, j, t)

module _ (s : List ℕ) (i : ℕ) (h : i < length s) (rs : List Range) {t : Bool} (e : (t, rs) ≡ behind_first (row_of table (get_or s i 0))) where
  pub at_ill : t ≡ false → PartAt s i (record { len = 1; well = false })
  at_ill y =
      record {
        is = part_ill (row_of table (get_or s i 0)) rs (drop i s) (rw y at e);
        some = omega arith;
        ends = omega arith;
      }

  pub at_begun : (n due : ℕ) → t ≡ true → n ≡ matched rs (drop (i + 1) s) → length rs ≡ due → PartAt s i (record { len = 1 + n; well = eqb n due })
  at_begun n due y m d =
      let f : i + 1 + n ≤ length s = matched_ends rs s (i + 1) n (omega arith) m in
      record {
        is =
            rw (drop-cons s i 0 h, ← d)
            (part_begun (row_of table (get_or s i 0)) rs (get_or s i 0) (drop (suc i) s) n (own table (get_or s i 0)) (rw y at e) (rw add-one at m));
        some = omega arith;
        ends = omega arith;
      }
