-- Lists that agree at their front, or at each of some places.
use mathlib.Core.Path.{◌≡◌, sym, ap, ◌∙◌}
use mathlib.Core.List.{List, []}
use Prim.Native.Nat.{ℕ, ◌+◌, ◌-◌, ◌≤◌, ◌<◌, min}
use native.Mathlib.Omega.{arith}
use lib.ListN.{length, get_or, take, drop, length-take, length-drop, drop_of_length-le, get_or-eq_default}
use lib.Seq.{length-take-le, take_all, take-nil, take-take, take-add, drop_at, get_or-take, get_or-drop, ext_get_or}
use lib.Dec.{ltb, leb}
use borrow.Author.Tests.{ltb-true, ltb-false, leb-true, leb-false}
use Rattle.wire.specs.Bytes.{at}
use Rattle.wire.proofs.Laws.{by_test}

-- nothing is left past the end
past : (s : List ℕ) (i : ℕ) → length s ≤ i → drop i s ≡ []
past s i h = drop_of_length-le s h

-- a part is what is left of a front
pub part_of : (s : List ℕ) (i n : ℕ) → at s i n ≡ drop i (take (i + n) s)
part_of s i n =
    by_test (leb i (length s))
    (λ e.
    let l : length (take i s) ≡ i = length-take-le i s (leb-true _ _ e) in
    sym (ap (drop i) (take-add i n s) ∙ drop_at (take i s) (at s i n) i l))
    (λ e.
    let h : length s < i = leb-false _ _ e in
    let a : drop i s ≡ [] = past s i (omega arith) in
    let b : take (i + n) s ≡ s = take_all (i + n) s (omega arith) in
    rw (a, b, a) (take-nil n))

-- two lists with the same front have the same parts within it
pub same_part : (a b : List ℕ) (k i n : ℕ) → i + n ≤ k → take k a ≡ take k b → at a i n ≡ at b i n
same_part a b k i n l e =
    let f : take (i + n) a ≡ take (i + n) b = sym (take-take (i + n) k a l) ∙ (ap (take (i + n)) e ∙ take-take (i + n) k b l) in
    part_of a i n ∙ (ap (drop i) f ∙ sym (part_of b i n))

-- two lists with the same front have the same shorter fronts
pub same_front : (a b : List ℕ) (k n : ℕ) → n ≤ k → take k a ≡ take k b → take n a ≡ take n b
same_front a b k n l e = sym (take-take n k a l) ∙ (ap (take n) e ∙ take-take n k b l)

-- two lists with the same front have the same elements within it
pub same_element : (a b : List ℕ) (k j : ℕ) → j < k → take k a ≡ take k b → get_or a j 0 ≡ get_or b j 0
same_element a b k j l e = sym (get_or-take k a j 0 l) ∙ (ap (λ (s : List ℕ). get_or s j 0) e ∙ get_or-take k b j 0 l)

-- where each element before place k is the same, the fronts are
pub front_by : (a b : List ℕ) (k : ℕ) → length a ≡ length b → ((j : ℕ) → j < k → get_or a j 0 ≡ get_or b j 0) → take k a ≡ take k b
front_by a b k l h =
    let la : length (take k a) ≡ min k (length a) = length-take k a in
    let lb : length (take k b) ≡ min k (length b) = length-take k b in
    ext_get_or 0 (take k a) (take k b) (omega arith)
    (λ j m. let q : j < k = omega arith in get_or-take k a j 0 q ∙ (h j q ∙ sym (get_or-take k b j 0 q)))

-- where each element is the same, the lists are
pub all_by : (a b : List ℕ) → length a ≡ length b → ((j : ℕ) → get_or a j 0 ≡ get_or b j 0) → a ≡ b
all_by a b l h = ext_get_or 0 a b l (λ j m. h j)

-- parts of lists of one length are as long
pub part_length : (a b : List ℕ) (i n : ℕ) → length a ≡ length b → length (at a i n) ≡ length (at b i n)
part_length a b i n l =
    let da : length (drop i a) ≡ length a - i = length-drop i a in
    let db : length (drop i b) ≡ length b - i = length-drop i b in
    let ta : length (take n (drop i a)) ≡ min n (length (drop i a)) = length-take n (drop i a) in
    let tb : length (take n (drop i b)) ≡ min n (length (drop i b)) = length-take n (drop i b) in
    omega arith

pub take_length_same : (a b : List ℕ) (n : ℕ) → length a ≡ length b → length (take n a) ≡ length (take n b)
take_length_same a b n l =
    let ta : length (take n a) ≡ min n (length a) = length-take n a in
    let tb : length (take n b) ≡ min n (length b) = length-take n b in
    omega arith

-- two fronts of one list, in either order
pub take_swap : (m n : ℕ) (s : List ℕ) → take m (take n s) ≡ take n (take m s)
take_swap m n s =
    let lm : length (take m s) ≡ min m (length s) = length-take m s in
    let ln : length (take n s) ≡ min n (length s) = length-take n s in
    by_test (leb m n)
    (λ e. let h : m ≤ n = leb-true _ _ e in take-take m n s h ∙ sym (take_all n (take m s) (omega arith)))
    (λ e. let h : n < m = leb-false _ _ e in take_all m (take n s) (omega arith) ∙ sym (take-take n m s (omega arith)))

-- what follows a front, where the front may be short
pub drop_front : (t : ℕ) (s : List ℕ) → drop t s ≡ drop (length (take t s)) s
drop_front t s =
    let l : length (take t s) ≡ min t (length s) = length-take t s in
    by_test (leb t (length s))
    (λ e. let h : t ≤ length s = leb-true _ _ e in let q : length (take t s) ≡ t = omega arith in rw q)
    (λ e.
    let h : length s < t = leb-false _ _ e in
    let q : length (take t s) ≡ length s = omega arith in
    past s t (omega arith) ∙ sym (rw q (past s (length s) (omega arith))))

pub drop_of_take : (k t : ℕ) (s : List ℕ) → k ≤ t → drop k (take t s) ≡ take (t - k) (drop k s)
drop_of_take k t s l = let q : k + (t - k) ≡ t = omega arith in ap (λ (m : ℕ). drop k (take m s)) (sym q) ∙ sym (part_of s k (t - k))

-- a part's element is the list's, as far as the part goes
pub part_agree : (a b : List ℕ) (i n j : ℕ) → length a ≡ length b → (j < n → get_or a (i + j) 0 ≡ get_or b (i + j) 0)
    → get_or (at a i n) j 0 ≡ get_or (at b i n) j 0
part_agree a b i n j l h =
    by_test (ltb j n)
    (λ e.
    let k : j < n = ltb-true _ _ e in
    get_or-take n (drop i a) j 0 k ∙ (get_or-drop i a j 0 ∙ (h k ∙ sym (get_or-take n (drop i b) j 0 k ∙ get_or-drop i b j 0))))
    (λ e.
    let k : n ≤ j = ltb-false _ _ e in
    let la : length (at a i n) ≤ j = short a k in
    let lb : length (at b i n) ≤ j = short b k in
    get_or-eq_default (at a i n) 0 la ∙ sym (get_or-eq_default (at b i n) 0 lb))
  where
    short : (s : List ℕ) → n ≤ j → length (at s i n) ≤ j
    short s k = let q : length (take n (drop i s)) ≡ min n (length (drop i s)) = length-take n (drop i s) in omega arith
