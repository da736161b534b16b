-- The search for a byte, both ways: where a byte is found in a list that is known, and what the list is where one was found.
use mathlib.Core.Path.{◌≡◌, refl, sym, ap, ◌∙◌}
use mathlib.Core.List.{List, [], ◌∷◌, ◌++◌}
use Prim.Native.Nat.{ℕ, suc, ◌+◌, ◌<◌, ◌≤◌}
use native.Mathlib.Numerals.{add-one, one-add}
use native.Mathlib.Omega.{arith}
use lib.ListN.{length, take, drop}
use lib.Dec.{eqb}
use borrow.Author.Tests.{eqb-true, eqb-false, ne_eqb, lt-ltb, le-ltb, ltb-true, ltb-false}
use mathlib.Core.Bool.{true, false}
use Rattle.std.specs.Prelude.{position, nat_eq, nat_lt}
use Rattle.std.specs.List.{position_or_len}
use Rattle.wire.specs.Answer.{maybe}
use Rattle.wire.specs.Find.{index_of, later, NoZero}
use mathlib.Core.Option.{Option, some, none}
use Rattle.wire.proofs.Laws.{by_test, impossible}

pub found_later : (f : Option ℕ) (k : ℕ) → later 1 f ≡ some k → (j : ℕ) × (f ≡ some j) × (k ≡ suc j)
found_later (some j) k e = let h : 1 + j ≡ k = cc in (j, refl, sym h ∙ one-add j)
found_later none k e = impossible cc

pub nothing_later : (f : Option ℕ) → later 1 f ≡ none → f ≡ none
nothing_later (some j) e = impossible cc
nothing_later none e = refl

-- what is found stands in the list
pub found_below : (b : ℕ) (s : List ℕ) (i : ℕ) → index_of b s ≡ some i → i < length s
unfolding index_of
found_below b [] i e = impossible cc
found_below b (x ∷ xs) i e =
    by_test (eqb x b)
    (λ t. let z : i ≡ 0 = cc in omega arith)
    (λ t.
    let w = found_later (index_of b xs) i (rw t at e) in
    omega (arith, found_below b xs w.0 w.1, w.2))

-- ---- the first zero byte

pub no_zero : (s : List ℕ) → NoZero s → index_of 0 s ≡ none
unfolding index_of
no_zero [] n = refl
no_zero (b ∷ s) n = simp (ne_eqb b 0 n.0, no_zero s n.1)

pub zero_at : (v t : List ℕ) → NoZero v → index_of 0 (v ++ (0 ∷ t)) ≡ some (length v)
unfolding index_of
zero_at [] t n = refl
zero_at (b ∷ v) t n = simp (ne_eqb b 0 n.0, zero_at v t n.1, one-add)

-- a search that fails, and one that finds
pub all_passed : (s : List ℕ) → index_of 0 s ≡ none → NoZero s
unfolding index_of
all_passed [] e = tt
all_passed (b ∷ s) e =
    by_test (eqb b 0)
    (λ t. impossible cc)
    (λ t. (eqb-false b 0 t, all_passed s (nothing_later (index_of 0 s) (rw t at e))))

pub found_at : (s : List ℕ) (k : ℕ) → index_of 0 s ≡ some k → NoZero (take k s) × (s ≡ take k s ++ (0 ∷ drop (k + 1) s))
unfolding index_of
found_at [] k e = impossible cc
found_at (b ∷ s) k e =
    by_test (eqb b 0)
    (λ t.
    let h : k ≡ 0 = cc in
    rw (h, eqb-true b 0 t) (tt, refl))
    (λ t.
    let w = found_later (index_of 0 s) k (rw t at e) in
    let r = found_at s w.0 w.1 in
    rw (add-one, w.2) ((eqb-false b 0 t, r.0), ap (λ (l : List ℕ). b ∷ l) (rw add-one at r.1)))

-- ---- the library's search for the first element that passes a test

pub place_is : (b : ℕ) (s : List ℕ) → maybe (position (λ x. nat_eq x b) s) ≡ index_of b s
unfolding index_of
place_is b [] = refl
place_is b (x ∷ xs) =
    let i = place_is b xs in
    let k : ℕ = position_or_len (λ x. nat_eq x b) xs in
    let n : ℕ = length xs in
    by_test (eqb x b)
    (λ t.
    let h : nat_lt 0 (1 + n) ≡ true = lt-ltb 0 (1 + n) (omega arith) in
    simp (t, one-add, rw one-add at h))
    (λ t.
    by_test (nat_lt k n)
    (λ u.
    let l : k < n = ltb-true k n u in
    let h : nat_lt (1 + k) (1 + n) ≡ true = lt-ltb (1 + k) (1 + n) (omega arith) in
    let e : some k ≡ index_of b xs = rw u at i in
    rw (t, ← e) (simp (rw (one-add n) at h)))
    (λ u.
    let l : n ≤ k = ltb-false k n u in
    let h : nat_lt (1 + k) (1 + n) ≡ false = le-ltb (1 + k) (1 + n) (omega arith) in
    let e : none ≡ index_of b xs = rw u at i in
    rw (t, ← e) (simp (rw (one-add n) at h))))
