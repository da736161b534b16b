-- Bytes moved within a list, one at a time.
use mathlib.Core.Path.{◌≡◌, sym, ap, ◌∙◌}
use mathlib.Core.List.{List, [], ◌∷◌, ◌++◌, append_assoc}
use Prim.Native.Nat.{ℕ, suc, ◌+◌, ◌-◌, ◌<◌, ◌≤◌}
use native.Mathlib.Omega.{arith}
use native.Mathlib.Numerals.{add-one}
use lib.ListN.{length, take, drop, get_or, set, length-take, length-drop, length-append, take-append-drop}
use lib.Seq.{take-suc, drop-cons, get_or-drop, get_or-take, get_or-append-add, set_at, take_at, drop-drop}
use Rattle.wire.specs.Bytes.{at, put}
use Rattle.wire.proofs.Laws.{put_none}

pub part_length : (s : List ℕ) (i n : ℕ) → i + n ≤ length s → length (at s i n) ≡ n
part_length s i n h = simp (length-take, length-drop) (omega arith)

-- what stands before a place
before : (xs ys : List ℕ) (n j : ℕ) → length xs ≡ n → j < n → get_or (xs ++ ys) j 0 ≡ get_or xs j 0
before xs ys n j e h =
    sym (get_or-take n (xs ++ ys) j 0 h) ∙ ap (λ (l : List ℕ). get_or l j 0) (take_at xs ys n e)

-- what stands behind it
behind : (xs ys : List ℕ) (n k : ℕ) → length xs ≡ n → get_or (xs ++ ys) (n + k) 0 ≡ get_or ys k 0
behind xs ys n k e = rw (← e) (get_or-append-add xs ys k 0)

module _ (s : List ℕ) (from to : ℕ) where
  -- down: one byte more
  pub down_turn : (k : ℕ) → to ≤ from → from + k < length s → {t : List ℕ} → t ≡ put s to (at s from k)
      → set t (to + k) (get_or t (from + k) 0) ≡ put s to (at s from (k + 1))
  unfolding put
  down_turn k h l {t} e =
      let x : List ℕ = at s from k in
      let n : length x ≡ k = part_length s from k (omega arith) in
      let front : List ℕ = take to s ++ x in
      let f : length front ≡ to + k = length-append (take to s) x ∙ rw n (simp length-take (omega arith)) in
      let e' : t ≡ front ++ drop (to + k) s = e ∙ rw n (sym (append_assoc (take to s) x (drop (to + k) s))) in
      let d : drop (to + k) s ≡ get_or s (to + k) 0 ∷ drop (suc (to + k)) s = drop-cons s (to + k) 0 (omega arith) in
      let y : to + k + (from - to) ≡ from + k = omega arith in
      let a : get_or t (from + k) 0 ≡ get_or s (from + k) 0 =
      ap (λ (q : List ℕ). get_or q (from + k) 0) e'
      ∙ ap (λ (i : ℕ). get_or (front ++ drop (to + k) s) i 0) (sym y)
      ∙ behind front (drop (to + k) s) (to + k) (from - to) f
      ∙ get_or-drop (to + k) s (from - to) 0
      ∙ ap (λ (i : ℕ). get_or s i 0) y in
      let c : take (suc k) (drop from s) ≡ x ++ (get_or s (from + k) 0 ∷ []) =
      take-suc (drop from s) k 0 (simp length-drop (omega arith)) ∙ ap (λ (b : ℕ). x ++ (b ∷ [])) (get_or-drop from s k 0) in
      let m : length (x ++ (get_or s (from + k) 0 ∷ [])) ≡ suc k = length-append x (get_or s (from + k) 0 ∷ []) ∙ rw n (omega arith) in
      let z : to + suc k ≡ suc (to + k) = omega arith in
      let left : set t (to + k) (get_or t (from + k) 0) ≡ front ++ (get_or s (from + k) 0 ∷ drop (suc (to + k)) s) =
      rw (a, e', d) (set_at front (get_or s (to + k) 0) (drop (suc (to + k)) s) (get_or s (from + k) 0) (to + k) f) in
      left ∙ rw (add-one k, c, m, z) (simp append_assoc)

  -- up: one byte more
  pub up_turn : (j m : ℕ) → from ≤ to → to + (j + suc m) ≤ length s → {t : List ℕ} → t ≡ put s (to + suc j) (at s (from + suc j) m)
      → set t (to + j) (get_or t (from + j) 0) ≡ put s (to + j) (at s (from + j) (suc m))
  unfolding put
  up_turn j m h l {t} e =
      let x : List ℕ = at s (from + suc j) m in
      let n : length x ≡ m = part_length s (from + suc j) m (omega arith) in
      let rest : List ℕ = x ++ drop (to + suc j + m) s in
      let e' : t ≡ take (to + suc j) s ++ rest = e ∙ rw n in
      let f : length (take (to + suc j) s) ≡ to + suc j = simp length-take (omega arith) in
      let a : get_or t (from + j) 0 ≡ get_or s (from + j) 0 =
      ap (λ (q : List ℕ). get_or q (from + j) 0) e'
      ∙ before (take (to + suc j) s) rest (to + suc j) (from + j) f (omega arith)
      ∙ get_or-take (to + suc j) s (from + j) 0 (omega arith) in
      let y : to + suc j ≡ suc (to + j) = omega arith in
      let g : take (suc (to + j)) s ≡ take (to + j) s ++ (get_or s (to + j) 0 ∷ []) = take-suc s (to + j) 0 (omega arith) in
      let e'' : t ≡ take (to + j) s ++ (get_or s (to + j) 0 ∷ rest) =
      e' ∙ ap (λ (q : List ℕ). q ++ rest) (ap (λ (i : ℕ). take i s) y ∙ g) ∙ append_assoc (take (to + j) s) (get_or s (to + j) 0 ∷ []) rest in
      let p : length (take (to + j) s) ≡ to + j = simp length-take (omega arith) in
      let left : set t (to + j) (get_or t (from + j) 0) ≡ take (to + j) s ++ (get_or s (from + j) 0 ∷ rest) =
      rw (a, e'') (set_at (take (to + j) s) (get_or s (to + j) 0) rest (get_or s (from + j) 0) (to + j) p) in
      let c : drop (from + j) s ≡ get_or s (from + j) 0 ∷ drop (suc (from + j)) s = drop-cons s (from + j) 0 (omega arith) in
      let w : suc (from + j) ≡ from + suc j = omega arith in
      let v : to + j + suc m ≡ to + suc j + m = omega arith in
      let k : length (get_or s (from + j) 0 ∷ x) ≡ suc m = ap suc n in
      left ∙ rw (c, w, k, v)

  pub up_step : (k n : ℕ) → 0 < k → k ≤ n → from ≤ to → to + n ≤ length s → {t : List ℕ} → t ≡ put s (to + k) (at s (from + k) (n - k))
      → set t (to + (k - 1)) (get_or t (from + (k - 1)) 0) ≡ put s (to + (k - 1)) (at s (from + (k - 1)) (n - (k - 1)))
  up_step k n p q h l {t} e =
      let z : k ≡ suc (k - 1) = omega arith in
      let y : n - (k - 1) ≡ suc (n - k) = omega arith in
      let e' : t ≡ put s (to + suc (k - 1)) (at s (from + suc (k - 1)) (n - k)) =
      e ∙ ap (λ (i : ℕ). put s (to + i) (at s (from + i) (n - k))) z in
      rw y (up_turn (k - 1) (n - k) h (omega arith) e')

  pub up_done : (k n : ℕ) → k ≤ 0 → {t : List ℕ} → t ≡ put s (to + k) (at s (from + k) (n - k)) → t ≡ put s to (at s from n)
  up_done k n h {t} e =
      let z : k ≡ 0 = omega arith in
      let x : to + 0 ≡ to = omega arith in
      let y : from + 0 ≡ from = omega arith in
      let w : n - 0 ≡ n = omega arith in
      e ∙ rw (z, x, y, w)

  pub up_start : (n : ℕ) → s ≡ put s (to + n) (at s (from + n) (n - n))
  up_start n = let z : n - n ≡ 0 = omega arith in sym (rw z (put_none s (to + n)))

  pub down_start : s ≡ put s to (at s from 0)
  down_start = sym (put_none s to)

-- bytes that stay where they are
pub stay : (s : List ℕ) (i n : ℕ) → i + n ≤ length s → s ≡ put s i (at s i n)
unfolding put
stay s i n h =
    let l : length (at s i n) ≡ n = part_length s i n h in
    let d : drop (i + n) s ≡ drop n (drop i s) = sym (drop-drop n i s) in
    rw (l, d, take-append-drop n (drop i s), take-append-drop i s)
