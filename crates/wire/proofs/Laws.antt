-- Laws of the definitions in specs/: bytes and numbers, lists written over lists.
use mathlib.Core.Path.{◌≡◌, refl, ap, ◌∙◌}
use mathlib.Core.List.{List, [], ◌∷◌, ◌++◌, append_assoc, append-nil}
use Prim.Native.Nat.{ℕ, zero, suc, ◌+◌, ◌*◌, ◌-◌, ◌/◌, ◌%◌, ◌^◌, ◌≤◌, ◌<◌, min}
use native.Mathlib.Nat.{le_of_suc-le-suc, not-suc-le-zero, add-zero, pow-suc, lt_of_lt_of_le, pow-le-pow_right}
use native.Mathlib.Numerals.{add-one}
use native.Mathlib.Omega.{arith}
use lib.ListN.{length, take, drop, get_or, set, length-append, length-take, length-drop, length-set, take-append-drop, drop_of_length-le}
use lib.Seq.{take-suc, take-take, get_or-drop, drop-drop, take_all, take-set-le, take-length, set_split, take_at, drop-append-add}
use mathlib.Core.Bool.{Bool, true, false}
use borrow.Author.Tests.{le-leb, lt-leb}
use Rattle.wire.specs.Bytes.{be, be_from, be_bytes, at, put, nowhere, placed, copied}

-- one byte more at the end
be_from_snoc : (acc : ℕ) (l : List ℕ) (x : ℕ) → be_from acc (l ++ (x ∷ [])) ≡ be_from acc l * 256 + x
unfolding be_from
be_from_snoc acc [] x = refl
be_from_snoc acc (y ∷ ys) x = be_from_snoc (acc * 256 + y) ys x

pub be_snoc : (l : List ℕ) (x : ℕ) → be (l ++ (x ∷ [])) ≡ be l * 256 + x
unfolding be
be_snoc l x = be_from_snoc 0 l x

-- one byte more of a part
pub be_more : (s : List ℕ) (i n : ℕ) → i + n < length s → be (at s i (n + 1)) ≡ be (at s i n) * 256 + get_or s (i + n) 0
be_more s i n h =
    let k : n < length (drop i s) = simp length-drop (omega arith) in
    rw (add-one, take-suc (drop i s) n 0, be_snoc, get_or-drop)

-- the same of a list's front
pub be_next : (s : List ℕ) (n : ℕ) → n < length s → be (take (n + 1) s) ≡ be (take n s) * 256 + get_or s n 0
be_next s n h = rw (add-one, take-suc s n 0, be_snoc)

pub be_none : (s : List ℕ) (i : ℕ) → be (at s i 0) ≡ 0
unfolding be be_from
be_none s i = refl

pub length_be_bytes : (n v : ℕ) → length (be_bytes n v) ≡ n
unfolding be_bytes
length_be_bytes zero v = refl
length_be_bytes (suc n) v = length-append (be_bytes n (v / 256)) (v % 256 ∷ []) ∙ simp (length_be_bytes n (v / 256)) (omega arith)

-- a number of n bytes and one byte more
pub more : (n : ℕ) {a b : ℕ} → a < 256 ^ n → b < 256 → a * 256 + b < 256 ^ (n + 1)
more n {a} {b} ha hb = rw (add-one, pow-suc) (omega arith)

-- a number of at most 8 bytes fits 64 bits
pub fits : (i n : ℕ) {a b : ℕ} → i < n → n ≤ 8 → a < 256 ^ i → b < 256 → a * 256 + b < 2 ^ 64
fits i n {a} {b} hi hn ha hb =
    let k : i + 1 ≤ 8 = omega arith in
    let z : 0 < 256 = omega arith in
    lt_of_lt_of_le (more i ha hb) (pow-le-pow_right z k)

-- a turn of a copying loop: one byte more of src stands over the front of d
store : (src dst : List ℕ) (i : ℕ) → i < length src → i < length dst → set (take i src ++ drop i dst) i (get_or src i 0) ≡ take (suc i) src ++ drop (suc i) dst
store [] dst i h k = absurd (not-suc-le-zero h)
store (x ∷ xs) [] i h k = absurd (not-suc-le-zero k)
store (x ∷ xs) (y ∷ ys) zero h k = refl
store (x ∷ xs) (y ∷ ys) (suc i) h k = ap (λ (l : List ℕ). x ∷ l) (store xs ys i (le_of_suc-le-suc h) (le_of_suc-le-suc k))

pub copy_turn : (src d d₀ : List ℕ) (i : ℕ) → i < length src → length src ≤ length d₀ → d ≡ take i src ++ drop i d₀
    → set d i (get_or src i 0) ≡ take (i + 1) src ++ drop (i + 1) d₀
copy_turn src d d₀ i h k inv =
    let l : i < length d₀ = omega arith in
    rw (inv, add-one) (store src d₀ i h l)

-- the whole of src is copied
pub copy_done : (src d d₀ : List ℕ) (i : ℕ) → i ≡ length src → d ≡ take i src ++ drop i d₀ → d ≡ put d₀ 0 src
unfolding put
copy_done src d d₀ i e inv =
    let z : 0 + length src ≡ length src = omega arith in
    inv ∙ rw (e, take-length, z)

drop_set_same : (d : List ℕ) (i b : ℕ) → i < length d → drop i (set d i b) ≡ b ∷ drop (suc i) d
drop_set_same [] i b h = absurd (not-suc-le-zero h)
drop_set_same (y ∷ ys) zero b h = refl
drop_set_same (y ∷ ys) (suc i) b h = drop_set_same ys i b (le_of_suc-le-suc h)

-- a byte set after the place where a list will be put is a byte more of that list
pub put_set : (d : List ℕ) (to j b : ℕ) (l : List ℕ) → length l ≡ j → to + j < length d → put (set d (to + j) b) to l ≡ put d to (l ++ (b ∷ []))
unfolding put
put_set d to j b l e h =
    let le : to ≤ to + j = omega arith in
    let n : suc (to + j) ≡ to + (j + 1) = omega arith in
    rw (length-append, e, take-set-le to d (to + j) b le, drop_set_same d (to + j) b h, append_assoc, n)

pub put_none : (d : List ℕ) (to : ℕ) → put d to [] ≡ d
unfolding put
put_none d to = rw (add-zero, take-append-drop)

-- what a turn of the loop that writes a number leaves, from i bytes to go to i - 1
pub put_turn : (d d₀ : List ℕ) (to i x : ℕ) (bs : List ℕ) → 0 < i → to + i ≤ length d → put d to (be_bytes i x) ≡ put d₀ to bs
    → put (set d (to + (i - 1)) (x % 256)) to (be_bytes (i - 1) (x / 256)) ≡ put d₀ to bs
unfolding be_bytes
put_turn d d₀ to zero x bs h k inv = absurd (not-suc-le-zero h)
put_turn d d₀ to (suc j) x bs h k inv =
    let e : suc j - 1 ≡ j = omega arith in
    let l : to + j < length d = omega arith in
    rw e (put_set d to j (x % 256) (be_bytes j (x / 256)) (length_be_bytes j (x / 256)) l ∙ inv)

pub length_put : (d src : List ℕ) (i : ℕ) → i + length src ≤ length d → length (put d i src) ≡ length d
unfolding put
length_put d src i h = simp (length-append, length-take, length-drop) (omega arith)

-- what a leaf says of a tail that it was lent, said of the whole
pub lent_tail : (d ys src : List ℕ) (a k : ℕ) → length d - a ≤ k → ys ≡ put (take k (drop a d)) 0 src
    → take a d ++ (ys ++ drop k (drop a d)) ≡ put d a src
unfolding put
lent_tail d ys src a k h e =
    let l : length (drop a d) ≤ k = simp length-drop (omega arith) in
    let z : 0 + length src ≡ length src = omega arith in
    rw (e, take_all k (drop a d) l, drop_of_length-le (drop a d) l, append-nil, z, drop-drop)

-- a part that was lent and written over, said of the whole
pub lent_part : (d ys src : List ℕ) (a k : ℕ) → k ≡ length src → ys ≡ src → take a d ++ (ys ++ drop k (drop a d)) ≡ put d a src
unfolding put
lent_part d ys src a k h e = rw (e, h, drop-drop)

-- a part that goes on to the end
pub tail_whole : (s : List ℕ) (a : ℕ) → take (length s - a) (drop a s) ≡ drop a s
tail_whole s a = take_all (length s - a) (drop a s) (simp length-drop (omega arith))

-- parts of parts are parts
pub part_of_front : (n i k : ℕ) (s : List ℕ) → i + k ≤ n → at (take n s) i k ≡ at s i k
part_of_front n zero k s h = take-take k n s (omega arith)
part_of_front zero (suc i) k s h = absurd (omega arith)
part_of_front (suc n) (suc i) k [] h = refl
part_of_front (suc n) (suc i) k (x ∷ s) h = part_of_front n i k s (omega arith)

pub part_of_part : (s : List ℕ) (i n j k : ℕ) → j + k ≤ n → at (at s i n) j k ≡ at s (i + j) k
part_of_part s i n j k h = part_of_front n j k (drop i s) h ∙ ap (take k) (drop-drop j i s)

-- two writes, the second where the first ends
pub put_next : (d a b : List ℕ) (i n : ℕ) → length a ≡ n → i + n ≤ length d → put (put d i a) (i + n) b ≡ put d i (a ++ b)
unfolding put
put_next d a b i n e h =
    let l : length (take i d ++ a) ≡ i + n = simp (length-append, length-take, e) (omega arith) in
    let t : take (i + n) ((take i d ++ a) ++ drop (i + n) d) ≡ take i d ++ a = take_at (take i d ++ a) (drop (i + n) d) (i + n) l in
    let s : drop (i + n + length b) ((take i d ++ a) ++ drop (i + n) d) ≡ drop (i + n + length b) d = rw (← l, drop-append-add, drop-drop) in
    let w : i + length (a ++ b) ≡ i + n + length b = rw length-append (omega arith) in
    rw (e, w, ← append_assoc (take i d) a (drop (i + n) d), t, s) (simp append_assoc)

-- ---- the search for a byte

-- ---- a list placed where it fits

pub unplaced : (d : List ℕ) (to : ℕ) (src : List ℕ) → length d < to + length src → (nowhere, d) ≡ placed d to src
unfolding placed
unplaced d to src h = simp (lt-leb _ _ h)

pub placed_at : (d : List ℕ) (to n : ℕ) (src q : List ℕ) → length src ≡ n → to + n ≤ length d → q ≡ put d to src → (to + n, q) ≡ placed d to src
unfolding placed
placed_at d to n src q e h p =
    let f : to + length src ≤ length d = omega arith in
    rw (← e, p) (simp (le-leb _ _ f))

pub placed_fits : (d : List ℕ) (to : ℕ) (src : List ℕ) {r : ℕ} {q : List ℕ} → to + length src ≤ length d → (r, q) ≡ placed d to src → (r ≡ to + length src) × (q ≡ put d to src)
unfolding placed
placed_fits d to src {r} {q} h p =
    let w : ◌≡◌ {A = ℕ × List ℕ} (r, q) (to + length src, put d to src) = simp (le-leb _ _ h) at p in
    (ap (λ (x : ℕ × List ℕ). x.0) w, ap (λ (x : ℕ × List ℕ). x.1) w)

pub below_pow : (n : ℕ) → 0 < 256 ^ n
below_pow zero = omega arith
below_pow (suc n) = let h : 0 < 256 ^ n = below_pow n in rw pow-suc (omega arith)

pub copied_at : (d s q : List ℕ) (n : ℕ) → n ≡ min (length s) (length d) → q ≡ put d 0 (take n s) → (n, q) ≡ copied d s
unfolding copied
copied_at d s q n e p = rw (p, e)

-- one byte stored is a list of one written
pub put_one : (d : List ℕ) (i b : ℕ) → i < length d → set d i b ≡ put d i (b ∷ [])
unfolding put
put_one d i b h = set_split d i b h ∙ rw (← add-one i)

-- two bytes stored are a list of two written
pub put_two : (d : List ℕ) (i a b : ℕ) → i + 1 < length d → set (set d i a) (i + 1) b ≡ put d i (a ∷ b ∷ [])
put_two d i a b h =
    let l : i + 1 < length (set d i a) = simp length-set (omega arith) in
    let k : i < length d = omega arith in
    let m : i + 1 ≤ length d = omega arith in
    put_one (set d i a) (i + 1) b l ∙ rw (put_one d i a k) (put_next d (a ∷ []) (b ∷ []) i 1 refl m)

-- by a test's outcome
pub by_test : {X : Type 0} (b : Bool) → (b ≡ true → X) → (b ≡ false → X) → X
by_test true f g = f refl
by_test false f g = g refl

-- two cases of a type never meet: what `cc` finds of them
pub impossible : {X : Type 0} → ◌≡◌ {A = ℕ} 0 1 → X
impossible e = absurd (omega arith)
