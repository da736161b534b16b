-- A boundary and its prefix depend on public places alone.
use mathlib.Core.Path.{◌≡◌, refl, sym, ap, ◌∙◌, subst}
use mathlib.Core.Bool.{Bool, true, false}
use mathlib.Core.List.{List, [], ◌∷◌}
use mathlib.Core.Option.{Option, some, none}
use Prim.Native.Nat.{ℕ, suc, ◌+◌, ◌-◌, ◌%◌, ◌≤◌, ◌<◌}
use native.Mathlib.Omega.{arith}
use lib.ListN.{length, get_or, take, drop}
use lib.IntN.{ℤ}
use lib.Dec.{ltb, leb, eqb}
use borrow.Author.Tests.{lt-leb, eqb-true}
use Rattle.wire.specs.Bytes.{pick, at}
use Rattle.wire.specs.Field.{field_at}
use Rattle.wire.specs.Find.{index_of, later}
use Rattle.wire.specs.Int.{is_negative, int_at}
use Rattle.wire.proofs.Laws.{by_test}
use Rattle.worker.specs.Tests.{both}
use Rattle.pgoutput.specs.Boundary.{Said, begin, commit, message, no_boundary, refused, need, begin_at, commit_at, content_at, message_at, boundary_of}
use Rattle.pgoutput.specs.Boundary as B
use Rattle.thm_unpublished.specs.Hidden.{hidden_by}
use Rattle.thm_unpublished.specs.Alike.{prefix_by}
use Rattle.thm_unpublished.proofs.Lists.{same_part, front_by, all_by}

-- ---- fields

pub same_field : (a b : List ℕ) (k n i : ℕ) → length a ≡ length b → i + n ≤ k → take k a ≡ take k b → field_at n a i ≡ field_at n b i
unfolding field_at
same_field a b k n i l h e = rw (l, same_part a b k i n h e)

-- the lists agree up to the place that was found
abbrev Upto : Option ℕ → List ℕ → List ℕ → Type 0
Upto none a b = a ≡ b
Upto (some n) a b = take (suc n) a ≡ take (suc n) b

no_cons : {X : Type 0} (x : ℕ) (xs : List ℕ) → x ∷ xs ≡ [] → X
no_cons x xs e = let k : length (x ∷ xs) ≡ 0 = ap (λ (s : List ℕ). length s) e in absurd (omega arith)

heads : {x y : ℕ} {xs ys : List ℕ} → x ∷ xs ≡ y ∷ ys → x ≡ y
heads e = ap (λ (s : List ℕ). get_or s 0 0) e

tails : {x y : ℕ} {xs ys : List ℕ} → x ∷ xs ≡ y ∷ ys → xs ≡ ys
tails e = ap (drop 1) e

-- the first zero byte
same_zero : (a b : List ℕ) → Upto (index_of 0 a) a b → index_of 0 a ≡ index_of 0 b
unfolding index_of
same_zero [] [] e = refl
same_zero [] (y ∷ ys) e = no_cons y ys (sym e)
same_zero (x ∷ xs) [] e = by (eqb x 0) (index_of 0 xs) e
  where
    by : {X : Type 0} (t : Bool) (o : Option ℕ) → Upto (pick t (some 0) (later 1 o)) (x ∷ xs) [] → X
    by true o q = no_cons x [] q
    by false none q = no_cons x xs q
    by false (some m) q = no_cons x (take (1 + m) xs) q
same_zero (x ∷ xs) (y ∷ ys) e = by (eqb x 0) (index_of 0 xs) refl refl (λ q. same_zero xs ys q) e
  where
    by : (t : Bool) (o : Option ℕ) → eqb x 0 ≡ t → index_of 0 xs ≡ o → (Upto (index_of 0 xs) xs ys → index_of 0 xs ≡ index_of 0 ys)
        → Upto (pick t (some 0) (later 1 o)) (x ∷ xs) (y ∷ ys)
        → pick t (some 0) (later 1 o) ≡ pick (eqb y 0) (some 0) (later 1 (index_of 0 ys))
    by true o a b f q = let h : x ≡ y = heads q in rw (← h, a)
    by false none a b f q = let h : x ≡ y = heads q in let k : xs ≡ ys = tails q in rw (← h, a, ← k, b)
    by false (some m) a b f q =
        let h : x ≡ y = heads q in
        let j : 1 + m ≡ suc m = omega arith in
        let k : take (suc m) xs ≡ take (suc m) ys = subst (λ (n : ℕ). take n xs ≡ take n ys) j (tails q) in
        let r : index_of 0 xs ≡ index_of 0 ys = f (rw b k) in
        rw (← h, a, ← r, b)

-- ---- which places are public

begin_public : (s : List ℕ) (i j : ℕ) → hidden_by (begin_at s i) j ≡ false
begin_public s i j = by (field_at 8 s i) (int_at 8 s (i + 8)) (field_at 4 s (i + 16))
  where
    by : (a : Option ℕ) (b : Option ℤ) (c : Option ℕ)
        → hidden_by (need 16 a (λ final. need 16 b (λ time. need 15 c (λ xid. begin final time xid)))) j ≡ false
    by none b c = refl
    by (some final) none c = refl
    by (some final) (some time) none = refl
    by (some final) (some time) (some xid) = refl

commit_public : (s : List ℕ) (i j : ℕ) → hidden_by (commit_at s i) j ≡ false
commit_public s i j = by (field_at 1 s i) (field_at 8 s (i + 1)) (field_at 8 s (i + 9)) (int_at 8 s (i + 17))
  where
    by : (a b c : Option ℕ) (d : Option ℤ)
        → hidden_by (need 14 a (λ flags. need 16 b (λ position. need 16 c (λ end. need 16 d (λ time. commit position end time))))) j ≡ false
    by none b c d = refl
    by (some flags) none c d = refl
    by (some flags) (some position) none d = refl
    by (some flags) (some position) (some end) none = refl
    by (some flags) (some position) (some end) (some time) = refl

-- the content of a Message, by its fields
abbrev content_by : List ℕ → ℕ → ℕ → ℕ → ℕ → ℕ → Option ℕ → Said
content_by s i flags position from n o =
    need 15 o (λ len.
    pick (is_negative 4 len) (refused 18)
    (pick (ltb (length s - (i + 4)) len) (refused 18)
    (message (eqb (flags % 2) 1) position from n (i + 4) len)))

-- what stands before a place
before : (a j : ℕ) (c : Bool) → j < a → both (leb a j) c ≡ false
before a j c h = rw (lt-leb a j h)

-- what is public where the content ends in no refusal
content_front : (s : List ℕ) (i flags position from n j : ℕ) → j < i + 4 → hidden_by (content_at s i flags position from n) j ≡ false
content_front s i flags position from n j h = by (field_at 4 s i)
  where
    last : (b c : Bool) (len : ℕ)
        → hidden_by (pick b (refused 18) (pick c (refused 18) (message (eqb (flags % 2) 1) position from n (i + 4) len))) j ≡ false
    last true c len = refl
    last false true len = refl
    last false false len = before _ j (ltb j (i + 4 + len)) (omega arith)

    by : (o : Option ℕ) → hidden_by (content_by s i flags position from n o) j ≡ false
    by none = refl
    by (some len) = last (is_negative 4 len) (ltb (length s - (i + 4)) len) len

-- the letter is public
message_first : (s : List ℕ) → hidden_by (message_at s 1) 0 ≡ false
message_first s = by (field_at 1 s 1) (field_at 8 s 2) (index_of 0 (drop 10 s))
  where
    by : (a b c : Option ℕ) → hidden_by (need 14 a (λ flags. need 16 b (λ position. B.prefix_by s 10 flags position c))) 0 ≡ false
    by none b c = refl
    by (some flags) none c = refl
    by (some flags) (some position) none = refl
    by (some flags) (some position) (some n) = content_front s (10 + n + 1) flags position 10 n 0 (omega arith)

letter_public : (x : ℕ) (xs : List ℕ) → hidden_by (boundary_of (x ∷ xs)) 0 ≡ false
unfolding boundary_of
letter_public x xs = by (eqb x 66) (eqb x 67) (eqb x 77)
  where
    by : (a b c : Bool) → hidden_by (pick a (begin_at (x ∷ xs) 1) (pick b (commit_at (x ∷ xs) 1) (pick c (message_at (x ∷ xs) 1) no_boundary))) 0 ≡ false
    by true b c = begin_public (x ∷ xs) 1 0
    by false true c = commit_public (x ∷ xs) 1 0
    by false false true = message_first (x ∷ xs)
    by false false false = refl

-- ---- two lists of data that agree in the public places of the first

pub record Common (s t : List ℕ) : Type 0 where
  pub boundary : boundary_of s ≡ boundary_of t
  pub prefix : prefix_by s (boundary_of s) ≡ prefix_by t (boundary_of t)

abbrev Agree : (ℕ → Bool) → List ℕ → List ℕ → Type 0
Agree hidden s t = (j : ℕ) → hidden j ≡ false → get_or s j 0 ≡ get_or t j 0

equal_common : (s t : List ℕ) → s ≡ t → Common s t
equal_common s t e = subst (λ (u : List ℕ). Common s u) e (record { boundary = refl; prefix = refl })

-- a Message: flags, position, prefix and the content's length stand before the content
module _ (xs ys : List ℕ) (size : length (77 ∷ xs) ≡ length (77 ∷ ys)) where
  abbrev s : List ℕ
  s = 77 ∷ xs

  abbrev t : List ℕ
  t = 77 ∷ ys

  all_public : ((j : ℕ) → get_or s j 0 ≡ get_or t j 0) → Common s t
  all_public h = equal_common s t (all_by s t size h)

  abbrev said : Option ℕ → Option ℕ → Option ℕ → Said
  said a b c = need 14 a (λ flags. need 16 b (λ position. B.prefix_by s 10 flags position c))

  abbrev by_tests : ℕ → ℕ → ℕ → ℕ → Bool → Bool → Said
  by_tests flags position n len b c = pick b (refused 18) (pick c (refused 18) (message (eqb (flags % 2) 1) position 10 n (10 + n + 1 + 4) len))

  -- the fields are there: the front before the content is the same
  read_message : (flags position n len : ℕ) → field_at 1 s 1 ≡ some flags → field_at 8 s 2 ≡ some position → index_of 0 (drop 10 s) ≡ some n
      → field_at 4 s (10 + n + 1) ≡ some len → take (10 + n + 1 + 4) s ≡ take (10 + n + 1 + 4) t → Common s t
  unfolding boundary_of
  read_message flags position n len ea eb ec ed front =
      let k : ℕ = 10 + n + 1 + 4 in
      let fa : field_at 1 t 1 ≡ some flags = sym (same_field s t k 1 1 size (omega arith) front) ∙ ea in
      let fb : field_at 8 t 2 ≡ some position = sym (same_field s t k 8 2 size (omega arith) front) ∙ eb in
      let z : take (suc n) (drop 10 s) ≡ take (suc n) (drop 10 t) = same_part s t k 10 (suc n) (omega arith) front in
      let fc : index_of 0 (drop 10 t) ≡ some n = sym (same_zero (drop 10 s) (drop 10 t) (rw ec z)) ∙ ec in
      let fd : field_at 4 t (10 + n + 1) ≡ some len = sym (same_field s t k 4 (10 + n + 1) size (omega arith) front) ∙ ed in
      let p : at s 10 n ≡ at t 10 n = same_part s t k 10 n (omega arith) front in
      let es : boundary_of s ≡ content_by s (10 + n + 1) flags position 10 n (some len) = rw (ea, eb, ec, ed) refl in
      let et : boundary_of t ≡ content_by s (10 + n + 1) flags position 10 n (some len) = rw (fa, fb, fc, fd, ← size) refl in
      record { boundary = es ∙ sym et; prefix = rw (es, et) (same (is_negative 4 len) (ltb (length s - (10 + n + 1 + 4)) len) p) }
    where
      same : (b c : Bool) → at s 10 n ≡ at t 10 n → prefix_by s (by_tests flags position n len b c) ≡ prefix_by t (by_tests flags position n len b c)
      same true c p = refl
      same false true p = refl
      same false false p = p

  content_common : (flags position n : ℕ) → field_at 1 s 1 ≡ some flags → field_at 8 s 2 ≡ some position → index_of 0 (drop 10 s) ≡ some n
      → Agree (hidden_by (content_at s (10 + n + 1) flags position 10 n)) s t → Common s t
  content_common flags position n ea eb ec h = by (field_at 4 s (10 + n + 1)) refl h
    where
      by : (o : Option ℕ) → field_at 4 s (10 + n + 1) ≡ o → Agree (hidden_by (content_by s (10 + n + 1) flags position 10 n o)) s t → Common s t
      by none e q = all_public (λ j. q j refl)
      by (some len) e q =
          read_message flags position n len ea eb ec e
          (front_by s t (10 + n + 1 + 4) size (λ j l. h j (content_front s (10 + n + 1) flags position 10 n j l)))

  message_common : Agree (hidden_by (message_at s 1)) s t → Common s t
  message_common = by (field_at 1 s 1) (field_at 8 s 2) (index_of 0 (drop 10 s)) refl refl refl
    where
      by : (a b c : Option ℕ) → field_at 1 s 1 ≡ a → field_at 8 s 2 ≡ b → index_of 0 (drop 10 s) ≡ c → Agree (hidden_by (said a b c)) s t → Common s t
      by none b c ea eb ec h = all_public (λ j. h j refl)
      by (some flags) none c ea eb ec h = all_public (λ j. h j refl)
      by (some flags) (some position) none ea eb ec h = all_public (λ j. h j refl)
      by (some flags) (some position) (some n) ea eb ec h = content_common flags position n ea eb ec h

-- by the letter
letter_common : (x : ℕ) (xs ys : List ℕ) → length (x ∷ xs) ≡ length (x ∷ ys) → Agree (hidden_by (boundary_of (x ∷ xs))) (x ∷ xs) (x ∷ ys)
    → Common (x ∷ xs) (x ∷ ys)
unfolding boundary_of
letter_common x xs ys l h =
    by_test (eqb x 66)
    (λ e. let q : boundary_of (x ∷ xs) ≡ begin_at (x ∷ xs) 1 = rw e in
    equal_common _ _ (all_by _ _ l (λ j. h j (rw q (begin_public (x ∷ xs) 1 j)))))
    (λ e.
    by_test (eqb x 67)
    (λ f. let q : boundary_of (x ∷ xs) ≡ commit_at (x ∷ xs) 1 = rw (e, f) in
    equal_common _ _ (all_by _ _ l (λ j. h j (rw q (commit_public (x ∷ xs) 1 j)))))
    (λ f.
    by_test (eqb x 77)
    (λ g. let k : x ≡ 77 = eqb-true _ _ g in message_of k l h)
    (λ g. record { boundary = rw (e, f, g); prefix = rw (e, f, g) })))
  where
    message_of : x ≡ 77 → length (x ∷ xs) ≡ length (x ∷ ys) → Agree (hidden_by (boundary_of (x ∷ xs))) (x ∷ xs) (x ∷ ys) → Common (x ∷ xs) (x ∷ ys)
    message_of k =
        subst (λ (y : ℕ). length (y ∷ xs) ≡ length (y ∷ ys) → Agree (hidden_by (boundary_of (y ∷ xs))) (y ∷ xs) (y ∷ ys) → Common (y ∷ xs) (y ∷ ys))
        (sym k)
        (λ m q. message_common xs ys m q)

pub common : (s t : List ℕ) → length s ≡ length t → Agree (hidden_by (boundary_of s)) s t → Common s t
common [] [] l h = record { boundary = refl; prefix = refl }
common [] (y ∷ ys) l h = absurd (omega arith)
common (x ∷ xs) [] l h = absurd (omega arith)
common (x ∷ xs) (y ∷ ys) l h =
    let e : x ≡ y = h 0 (letter_public x xs) in
    subst (λ (z : ℕ). Agree (hidden_by (boundary_of (x ∷ xs))) (x ∷ xs) (z ∷ ys) → Common (x ∷ xs) (z ∷ ys)) e (letter_common x xs ys l) h
