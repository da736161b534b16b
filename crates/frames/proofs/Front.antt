-- What stands at the front of a stream, by its first bytes; it stays as it is when bytes are added after them.
use mathlib.Core.Path.{◌≡◌, refl, ap, ◌∙◌}
use mathlib.Core.Bool.{Bool, true, false}
use mathlib.Core.List.{List, ◌++◌}
use Prim.Native.Nat.{ℕ, ◌+◌, ◌-◌, ◌≤◌, ◌<◌}
use native.Mathlib.Omega.{arith}
use lib.ListN.{length, take, drop, get_or, length-drop}
use lib.Seq.{take-append-le, drop-append-le}
use lib.Dec.{ltb}
use borrow.Author.Tests.{le-leb, lt-leb, lt-ltb, le-ltb, leb-true, leb-false, ltb-true, ltb-false}
use Rattle.wire.specs.Bytes.{pick, be}
use Rattle.wire.specs.Int.{half, is_negative}
use Rattle.frames.specs.Message.{Front, in_header, in_payload, bad_length, too_large, whole, length_field, front_by, front_of}

-- ---- from the bytes to the front

pub header_front : (limit : ℕ) (s : List ℕ) → length s < 5 → front_of limit s ≡ in_header
unfolding front_of
header_front limit s h = simp (lt-ltb _ _ h)

module _ (limit : ℕ) (s : List ℕ) (h : 5 ≤ length s) where
  pub negative_front : half 4 ≤ length_field s → front_of limit s ≡ bad_length
  unfolding front_of
  negative_front a = simp (le-ltb _ _ h, le-leb _ _ a)

  module _ (a : length_field s < half 4) where
    pub short_front : length_field s < 4 → front_of limit s ≡ bad_length
    unfolding front_of
    short_front b = simp (le-ltb _ _ h, lt-leb _ _ a, lt-ltb _ _ b)

    module _ (b : 4 ≤ length_field s) where
      pub over_front : limit < length_field s - 4 → front_of limit s ≡ too_large
      unfolding front_of
      over_front c = simp (le-ltb _ _ h, lt-leb _ _ a, le-ltb _ _ b, lt-ltb _ _ c)

      module _ (c : length_field s - 4 ≤ limit) where
        pub payload_front : length s < length_field s + 1 → front_of limit s ≡ in_payload
        unfolding front_of
        payload_front d = simp (le-ltb _ _ h, lt-leb _ _ a, le-ltb _ _ b, le-ltb _ _ c, lt-ltb _ _ d)

        pub whole_front : length_field s + 1 ≤ length s → front_of limit s ≡ whole (get_or s 0 0) (length_field s - 4)
        unfolding front_of
        whole_front d = simp (le-ltb _ _ h, lt-leb _ _ a, le-ltb _ _ b, le-ltb _ _ c, le-ltb _ _ d)

-- ---- from the front to the bytes

-- what a front says of the bytes
pub data Shows (limit : ℕ) (s : List ℕ) : Front → Type 0 where
  cut_header : length s < 5 → Shows limit s in_header
  negative : 5 ≤ length s → half 4 ≤ length_field s → Shows limit s bad_length
  short : 5 ≤ length s → length_field s < half 4 → length_field s < 4 → Shows limit s bad_length
  large : 5 ≤ length s → length_field s < half 4 → 4 ≤ length_field s → limit < length_field s - 4 → Shows limit s too_large
  cut_payload : 5 ≤ length s → length_field s < half 4 → 4 ≤ length_field s → length_field s - 4 ≤ limit → length s < length_field s + 1 → Shows limit s in_payload
  complete : 5 ≤ length s → length_field s < half 4 → 4 ≤ length_field s → length_field s - 4 ≤ limit → length_field s + 1 ≤ length s
      → Shows limit s (whole (get_or s 0 0) (length_field s - 4))

pub shows : (limit : ℕ) (s : List ℕ) → Shows limit s (front_of limit s)
unfolding front_of
shows limit s = five (ltb (length s) 5) refl
  where
    n : ℕ
    n = length_field s

    room : (t : Bool) → ltb (length s) (n + 1) ≡ t → 5 ≤ length s → n < half 4 → 4 ≤ n → n - 4 ≤ limit
        → Shows limit s (pick t in_payload (whole (get_or s 0 0) (n - 4)))
    room true q h a b c = cut_payload h a b c (ltb-true _ _ q)
    room false q h a b c = complete h a b c (ltb-false _ _ q)

    within : (t : Bool) → ltb limit (n - 4) ≡ t → 5 ≤ length s → n < half 4 → 4 ≤ n
        → Shows limit s (pick t too_large (pick (ltb (length s) (n + 1)) in_payload (whole (get_or s 0 0) (n - 4))))
    within true q h a b = large h a b (ltb-true _ _ q)
    within false q h a b = room (ltb (length s) (n + 1)) refl h a b (ltb-false _ _ q)

    four : (t : Bool) → ltb n 4 ≡ t → 5 ≤ length s → n < half 4
        → Shows limit s (pick t bad_length (pick (ltb limit (n - 4)) too_large (pick (ltb (length s) (n + 1)) in_payload (whole (get_or s 0 0) (n - 4)))))
    four true q h a = short h a (ltb-true _ _ q)
    four false q h a = within (ltb limit (n - 4)) refl h a (ltb-false _ _ q)

    sign : (t : Bool) → is_negative 4 n ≡ t → 5 ≤ length s
        → Shows limit s (pick t bad_length (pick (ltb n 4) bad_length (pick (ltb limit (n - 4)) too_large (pick (ltb (length s) (n + 1)) in_payload (whole (get_or s 0 0) (n - 4))))))
    sign true q h = negative h (leb-true _ _ q)
    sign false q h = four (ltb n 4) refl h (leb-false _ _ q)

    five : (t : Bool) → ltb (length s) 5 ≡ t → Shows limit s (pick t in_header (front_by limit s n))
    five true q = cut_header (ltb-true _ _ q)
    five false q = sign (is_negative 4 n) refl (ltb-false _ _ q)

-- ---- more bytes after them

pub length_field_append : (s v : List ℕ) → 5 ≤ length s → length_field (s ++ v) ≡ length_field s
length_field_append s v h =
    let d : drop 1 (s ++ v) ≡ drop 1 s ++ v = drop-append-le 1 s v (omega arith) in
    let l : 4 ≤ length (drop 1 s) = simp length-drop (omega arith) in
    ap be (ap (take 4) d ∙ take-append-le 4 (drop 1 s) v l)
