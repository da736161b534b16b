-- Laws of a row's definitions: the walk that picks one column out.
use mathlib.Core.Path.{◌≡◌, refl, ap}
use mathlib.Core.List.{List, [], ◌∷◌}
use mathlib.Core.Option.{Option, some, none}
use Prim.Native.Nat.{ℕ, zero, suc, ◌+◌, ◌-◌, ◌<◌}
use native.Mathlib.Omega.{arith}
use lib.ListN.{length}
use lib.Dec.{eqb}
use borrow.Author.Tests.{eq-eqb, ne_eqb}
use Rattle.wire.specs.Bytes.{pick}
use Rattle.query.specs.DataRow.{column_at, columns_from, also, nth}
use Rattle.query.specs.Code.{picked_of}
use Rattle.query.specs.declared.Column.{Column}
use Rattle.query.specs.declared.Column.TheVariants.{Absent}

-- ---- the walk

-- the column that stands when k columns were passed and c was kept, of those that follow
pub chosen : ℕ → ℕ → Column → List Column → Column
chosen k i c [] = c
chosen k i c (x ∷ xs) = chosen (k + 1) i (pick (eqb k i) x c) xs

-- the walk's answer, of the columns that follow
abbrev pub walked : ℕ → ℕ → Column → Option (List Column) → Option (ℕ × Column)
walked k i c none = none
walked k i c (some xs) = some (k + length xs, chosen k i c xs)

-- a column kept stays
chosen_kept : (k i : ℕ) (c : Column) (xs : List Column) → i < k → chosen k i c xs ≡ c
unfolding chosen
chosen_kept k i c [] h = refl
chosen_kept k i c (x ∷ xs) h =
    let n : k ≡ i → ⊥ = λ e. omega arith in
    rw (ne_eqb k i n) (chosen_kept (k + 1) i c xs (omega arith))

chosen_nth : (k j : ℕ) (xs : List Column) → chosen k (k + j) Absent xs ≡ nth j xs
unfolding chosen nth
chosen_nth k j [] = refl
chosen_nth k zero (x ∷ xs) =
    let e : k ≡ k + 0 = omega arith in
    rw (eq-eqb k (k + 0) e) (chosen_kept (k + 1) (k + 0) x xs (omega arith))
chosen_nth k (suc j) (x ∷ xs) =
    let n : k ≡ k + suc j → ⊥ = λ e. omega arith in
    let e : k + suc j ≡ k + 1 + j = omega arith in
    rw (ne_eqb k (k + suc j) n, e) (chosen_nth (k + 1) j xs)

pub walk_start : (i : ℕ) (r : Option (List Column)) → walked 0 i Absent r ≡ picked_of r i
walk_start i none = refl
walk_start i (some xs) =
    let z : 0 + i ≡ i = omega arith in
    let l : 0 + length xs ≡ length xs = omega arith in
    rw l (ap (λ (c : Column). some (length xs, c)) (rw z at (chosen_nth 0 i xs)))

also_walked : (k i : ℕ) (c x : Column) (r : Option (List Column)) → walked k i c (also x r) ≡ walked (k + 1) i (pick (eqb k i) x c) r
unfolding chosen
also_walked k i c x none = refl
also_walked k i c x (some xs) =
    let l : k + suc (length xs) ≡ k + 1 + length xs = omega arith in
    rw l

-- one column more
pub walk_turn : (n k i : ℕ) (s : List ℕ) (p next : ℕ) (c x : Column) → k < n → some (x, next) ≡ column_at s p
    → walked k i c (columns_from (n - k) s p) ≡ walked (k + 1) i (pick (eqb k i) x c) (columns_from (n - (k + 1)) s next)
unfolding columns_from
walk_turn n k i s p next c x h e =
    let l : n - k ≡ suc (n - (k + 1)) = omega arith in
    rw (l, ← e) (also_walked k i c x (columns_from (n - (k + 1)) s next))

-- a column is cut
pub walk_cut : (n k i : ℕ) (s : List ℕ) (p : ℕ) (c : Column) → k < n → none ≡ column_at s p → walked k i c (columns_from (n - k) s p) ≡ none
unfolding columns_from
walk_cut n k i s p c h e =
    let l : n - k ≡ suc (n - (k + 1)) = omega arith in
    rw (l, ← e)

-- no column is left
pub walk_end : (n k i : ℕ) (s : List ℕ) (p : ℕ) (c : Column) → n ≡ k → walked k i c (columns_from (n - k) s p) ≡ some (n, c)
unfolding columns_from chosen
walk_end n k i s p c h =
    let l : n - k ≡ 0 = omega arith in
    let z : k + 0 ≡ n = omega arith in
    rw (l, z)
