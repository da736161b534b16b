-- A read of the same bytes into two buffers that agree in what the reader holds: it answers the same, and the buffers agree in all that they agreed
-- in, in what the reader then holds, and in the payload of a whole message.
use Prim.Native.Nat.{ℕ, ◌+◌, ◌-◌, ◌≤◌, ◌<◌, min}
use native.Mathlib.Nat.{min-le_right}
use native.Mathlib.Omega.{arith}
use mathlib.Core.Path.{◌≡◌, refl, sym, ap, ◌∙◌}
use mathlib.Core.Bool.{Bool, true, false}
use mathlib.Core.List.{List, ◌++◌, append_assoc}
use lib.ListN.{length, get_or, take, drop, length-append}
use lib.Seq.{take-take, take-append-le, take-append-add, length-take-le}
use lib.Dec.{ltb, leb, eqb}
use borrow.Author.Tests.{leb-true, leb-false, ltb-true, ltb-false}
use Rattle.wire.specs.Bytes.{pick, put, at}
use Rattle.wire.specs.Int.{is_negative}
use Rattle.wire.proofs.Laws.{by_test, part_of_front, length_put}
use Rattle.frames.specs.Message.{length_field}
use Rattle.framing.specs.declared.MessageReader.{MessageReader}
use Rattle.framing.specs.Read.{Result, limit_of, fresh, shut, at_byte, after_taking, unfinished, payload_of, judged_of, header_of, read_of}
use Rattle.framing.specs.Read as R

-- ---- buffers with the same front

abbrev pub Agree : ℕ → List ℕ → List ℕ → Type 0
Agree n p q = take n p ≡ take n q

pub shorter : (p q : List ℕ) (n k : ℕ) → n ≤ k → Agree k p q → Agree n p q
shorter p q n k l e = sym (take-take n k p l) ∙ (ap (take n) e ∙ take-take n k q l)

pub same_part : (p q : List ℕ) (k i n : ℕ) → i + n ≤ k → Agree k p q → at p i n ≡ at q i n
same_part p q k i n l e = sym (part_of_front k i n p l) ∙ (ap (λ (s : List ℕ). at s i n) e ∙ part_of_front k i n q l)

-- the same bytes written behind a front in which the buffers agree
module _ (p q s : List ℕ) (a : ℕ) (size : length p ≡ length q) (fits : a + length s ≤ length p) (front : Agree a p q) where
  abbrev m : ℕ
  m = a + length s

  abbrev t : List ℕ
  t = take a p ++ s

  long : length t ≡ m
  long = let e : length (take a p) ≡ a = length-take-le a p (omega arith) in rw (length-append, e) refl

  first_is : put p a s ≡ t ++ drop m p
  unfolding put
  first_is = sym (append_assoc (take a p) s (drop m p))

  second_is : put q a s ≡ t ++ drop m q
  unfolding put
  second_is = rw (← front) (sym (append_assoc (take a p) s (drop m q)))

  pub same_length : length (put p a s) ≡ length (put q a s)
  same_length = let f : a + length s ≤ length q = omega arith in length_put p s a fits ∙ (size ∙ sym (length_put q s a f))

  -- as far as was written
  pub front_written : (k : ℕ) → k ≤ m → Agree k (put p a s) (put q a s)
  front_written k l =
      let h : k ≤ length t = omega (arith, long) in
      rw (first_is, second_is) (take-append-le k t (drop m p) h ∙ sym (take-append-le k t (drop m q) h))

  -- as far as they agreed before
  pub front_kept : (k : ℕ) → Agree k p q → Agree k (put p a s) (put q a s)
  front_kept k e =
      by_test (leb k m)
      (λ b. front_written k (leb-true _ _ b))
      (λ b.
      let h : m < k = leb-false _ _ b in
      let j : length t + (k - m) ≡ k = omega (arith, long) in
      let rest : take (k - m) (drop m p) ≡ take (k - m) (drop m q) = same_part p q k m (k - m) (omega arith) e in
      rw (first_is, second_is, ← j)
      (take-append-add t (drop m p) (k - m) ∙ (ap (λ (x : List ℕ). t ++ x) rest ∙ sym (take-append-add t (drop m q) (k - m)))))

-- ---- a read

-- the payload's length of a whole message
abbrev pub whole_length : R.Said → ℕ
whole_length R.more = 0
whole_length (R.whole tag n) = n
whole_length (R.refused n) = 0

module _ (p q : List ℕ) (size : length p ≡ length q) where
  pub record SameRead (x y : Result) : Type 0 where
    pub answer : x.0 ≡ y.0
    pub reader : x.1 ≡ y.1
    pub taken : x.2 ≡ y.2
    pub same_size : length x.3 ≡ length y.3
    pub filled : Agree (x.1.filled - 5) x.3 y.3
    pub whole : Agree (whole_length x.0) x.3 y.3
    pub kept : (k : ℕ) → Agree k p q → Agree k x.3 y.3

  either : (b : Bool) {x x' y y' : Result} → SameRead x x' → SameRead y y' → SameRead (pick b x y) (pick b x' y')
  either true h k = h
  either false h k = k

  -- nothing is written, and the message is not whole
  unwritten : (s : R.Said) (f : MessageReader) (k : ℕ) → whole_length s ≡ 0 → Agree (f.filled - 5) p q → SameRead (s, f, k, p) (s, f, k, q)
  unwritten s f k w e =
      record { answer = refl; reader = refl; taken = refl; same_size = size; filled = e; whole = rw w refl; kept = λ j a. a }

  unfinished_none : (n unread : ℕ) (e : Bool) → whole_length (unfinished n unread e) ≡ 0
  unfinished_none n unread e =
      by_test (eqb unread 0) (λ t. by_test e (λ f. rw (t, f) refl) (λ f. rw (t, f) refl)) (λ t. rw t refl)

  -- a reader with so many bytes of the message, and so many payload bytes before these
  payload_same : (r : MessageReader) (u : List ℕ) (e : Bool) → Agree (r.filled - 5) p q → SameRead (payload_of r u e p) (payload_of r u e q)
  unfolding payload_of
  payload_same r u e a =
      let n : ℕ = min r.payload_len (length p) in
      let have : ℕ = r.filled - 5 in
      let k : ℕ = min (n - have) (length u) in
      let tag : ℕ = get_or r.header 0 0 in
      rw (← size)
      (by_test (leb n have)
      (λ b.
      let l : n ≤ have = leb-true _ _ b in
      rw b (record { answer = refl; reader = refl; taken = refl; same_size = size; filled = refl; whole = shorter p q n have l a; kept = λ j f. f }))
      (λ b.
      let l : have < n = leb-false _ _ b in
      let s : length (take k u) ≡ k = length-take-le k u (min-le_right (n - have) (length u)) in
      let room : have + length (take k u) ≤ length p = omega arith in
      let written : (j : ℕ) → j ≤ have + length (take k u) → Agree j (put p have (take k u)) (put q have (take k u)) =
      front_written p q (take k u) have size room a in
      let sized : length (put p have (take k u)) ≡ length (put q have (take k u)) = same_length p q (take k u) have size room a in
      let keeps : (j : ℕ) → Agree j p q → Agree j (put p have (take k u)) (put q have (take k u)) = front_kept p q (take k u) have size room a in
      rw b
      (by_test (ltb (have + k) n)
      (λ c.
      rw c
      (record {
        answer = refl;
        reader = refl;
        taken = refl;
        same_size = sized;
        filled = written (r.filled + k - 5) (omega arith);
        whole = rw (unfinished_none 9 (length u) e) refl;
        kept = keeps;
      }))
      (λ c.
      let g : n ≤ have + k = ltb-false _ _ c in
      rw c
      (record {
        answer = refl;
        reader = refl;
        taken = refl;
        same_size = sized;
        filled = refl;
        whole = written n (omega arith);
        kept = keeps;
      })))))

  judged_same : (limit : ℕ) (h u : List ℕ) → SameRead (judged_of limit h u p) (judged_of limit h u q)
  unfolding judged_of
  judged_same limit h u =
      let n : ℕ = length_field h in
      either (is_negative 4 n) (unwritten (R.refused 6) fresh 0 refl refl)
      (either (ltb n 4) (unwritten (R.refused 6) fresh 0 refl refl)
      (either (ltb limit (n - 4)) (unwritten (R.refused 7) shut 0 refl refl) (payload_same (at_byte h 5 (n - 4)) u false refl)))

  after_taking_lem : (k : ℕ) {x y : Result} → SameRead x y → SameRead (after_taking k x) (after_taking k y)
  after_taking_lem k h =
      record {
        answer = h.answer;
        reader = h.reader;
        taken = ap (λ (n : ℕ). k + n) h.taken;
        same_size = h.same_size;
        filled = h.filled;
        whole = h.whole;
        kept = h.kept;
      }

  header_same : (limit : ℕ) (r : MessageReader) (u : List ℕ) (e : Bool) → SameRead (header_of limit r u e p) (header_of limit r u e q)
  unfolding header_of
  header_same limit r u e =
      let k : ℕ = min (5 - r.filled) (length u) in
      let h : List ℕ = put r.header r.filled (take k u) in
      by_test (ltb (r.filled + k) 5)
      (λ b.
      let l : r.filled + k < 5 = ltb-true _ _ b in
      let z : r.filled + k - 5 ≡ 0 = omega arith in
      rw b
      (unwritten (unfinished 8 (length u) e) (at_byte h (r.filled + k) r.payload_len) k (unfinished_none 8 (length u) e) (rw z refl)))
      (λ b. rw b (after_taking_lem k (judged_same limit h (drop k u))))

  pub read_same : (setting : ℕ) (r : MessageReader) (u : List ℕ) (e : Bool) → Agree (r.filled - 5) p q
      → SameRead (read_of setting r u e p) (read_of setting r u e q)
  unfolding read_of
  read_same setting r u e a =
      rw (← size)
      (either (ltb (length p) (limit_of setting)) (unwritten (R.refused 3) r 0 refl a)
      (either r.refused (unwritten (R.refused 7) r 0 refl a)
      (either (ltb r.filled 5) (header_same (limit_of setting) r u e) (payload_same r u e a))))
