-- What a length field says of a read and of the front, where it gives a payload's length and where it gives none.
use mathlib.Core.Option.{Option, some, none}
use mathlib.Core.Path.{◌≡◌, refl}
use mathlib.Core.List.{List}
use Prim.Native.Nat.{ℕ, ◌+◌, ◌-◌, ◌≤◌, ◌<◌}
use native.Mathlib.Omega.{arith}
use lib.ListN.{length}
use lib.Dec.{ltb}
use borrow.Author.Tests.{leb-true, leb-false, ltb-true, ltb-false, ne_eqb}
use Rattle.wire.specs.Int.{half, is_negative}
use Rattle.wire.proofs.Laws.{by_test, impossible}
use Rattle.frames.specs.Message.{Front, in_header, in_payload, bad_length, too_large, length_field, front_of}
use Rattle.frames.proofs.Front.{header_front, negative_front, short_front, over_front, payload_front, whole_front}
use Rattle.framing.specs.declared.MessageReader.{MessageReader}
use Rattle.framing.specs.Read.{refused, fresh, limit_of, judged_of}
use Rattle.framing.specs.Length.{payload_length}
use Rattle.framing.specs.WholeFront.{whole_bytes, front_bytes, there}
use Rattle.framing.proofs.Laws.{length_negative, length_short}
use Rattle.framing.proofs.WholeFront.{front_is}

-- where there is one
pub record Good (n k : ℕ) : Type 0 where
  pub small : n < half 4
  pub least : 4 ≤ n
  pub is : k ≡ n - 4

pub length_good : (n k : ℕ) → payload_length n ≡ some k → Good n k
length_good n k e =
    by_test (is_negative 4 n) (λ t. impossible (cc (rw t at e)))
    (λ t. by_test (ltb n 4) (λ f. impossible (cc (rw (t, f) at e)))
    (λ f.
    let z : ◌≡◌ {A = Option ℕ} (some (n - 4)) (some k) = rw (t, f) at e in
    record { small = leb-false _ _ t; least = ltb-false _ _ f; is = cc z }))

-- where there is none
pub judged_bad : (limit : ℕ) (h u p : List ℕ) (n : ℕ) → n ≡ length_field h → (f : MessageReader) → f ≡ fresh → payload_length n ≡ none
    → (refused 6, f, 0, p) ≡ judged_of limit h u p
judged_bad limit h u p n en f ef e =
    by_test (is_negative 4 n) (λ t. length_negative limit h u p n en f ef (leb-true _ _ t))
    (λ t. by_test (ltb n 4) (λ k. length_short limit h u p n en (leb-false _ _ t) f ef (ltb-true _ _ k))
    (λ k. impossible (cc (rw (t, k) at e))))

-- ---- the front

front_none : (s : ℕ) (u : List ℕ) (g : Front) → front_of (limit_of s) u ≡ g → whole_bytes g ≡ 0 → none ≡ there (front_bytes s u)
front_none s u g e z = rw (← front_is s u g e, z) refl

module _ (s : ℕ) (u : List ℕ) where
  pub header_none : length u < 5 → none ≡ there (front_bytes s u)
  header_none h = front_none s u in_header (header_front _ u h) refl

  module _ (h : 5 ≤ length u) (n : ℕ) (en : n ≡ length_field u) where
    pub length_none : payload_length n ≡ none → none ≡ there (front_bytes s u)
    length_none e =
        by_test (is_negative 4 n) (λ t. let a : half 4 ≤ length_field u = rw en at (leb-true (half 4) n t) in front_none s u bad_length (negative_front _ u h a) refl)
        (λ t.
        let a : length_field u < half 4 = rw en at (leb-false (half 4) n t) in
        by_test (ltb n 4)
        (λ k. let b : length_field u < 4 = rw en at (ltb-true n 4 k) in front_none s u bad_length (short_front _ u h a b) refl)
        (λ k. impossible (cc (rw (t, k) at e))))

    module _ (k : ℕ) (g : Good n k) where
      a : length_field u < half 4
      a = rw en at g.small

      b : 4 ≤ length_field u
      b = rw en at g.least

      c : k ≡ length_field u - 4
      c = rw en at g.is

      pub over_none : limit_of s < k → none ≡ there (front_bytes s u)
      over_none l = front_none s u too_large (over_front _ u h a b (rw c at l)) refl

      module _ (l : k ≤ limit_of s) where
        d : length_field u - 4 ≤ limit_of s
        d = rw c at l

        pub cut_none : length u - 5 < k → none ≡ there (front_bytes s u)
        cut_none m = front_none s u in_payload (payload_front _ u h a b d (let e = c in let f = b in omega arith)) refl

        pub whole_some : k ≤ length u - 5 → some (5 + k) ≡ there (front_bytes s u)
        whole_some m =
            let e = c in
            let f = b in
            let w = whole_front (limit_of s) u h a b d (omega arith) in
            let z : (5 + k ≡ 0) → ⊥ = λ q. omega arith in
            rw (← front_is s u _ w, ← c, ne_eqb (5 + k) 0 z) refl
