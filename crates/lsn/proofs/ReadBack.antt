-- Display read back is the position.
use mathlib.Core.Path.{◌≡◌, refl, sym, ap, ◌∙◌}
use mathlib.Core.List.{List, [], ◌∷◌, ◌++◌}
use mathlib.Core.Option.{Option, some, none}
use Prim.Native.Nat.{ℕ, zero, suc, ◌+◌, ◌*◌, ◌/◌, ◌%◌, ◌^◌, ◌≤◌, ◌<◌}
use native.Mathlib.Nat.{pow-suc}
use native.Mathlib.Omega.{arith}
use lib.ListN.{length, length-append}
use lib.Dec.{ltb}
use borrow.Author.Tests.{lt-ltb, ltb-true}
use Rattle.wire.specs.Field.{and_then}
use Rattle.wire.proofs.Laws.{by_test}
use Rattle.text.specs.Numeral.{numeral, hex_text}
use Rattle.lsn.specs.Hex.{digit_of, value_from}
use Rattle.lsn.specs.Position.{position_of, display_of}
use Rattle.lsn.specs.Spelled.{Number, Spells}
use Rattle.lsn.proofs.Laws.{part_digits}
use Rattle.lsn.proofs.Spelled.{digit_glyph, part_number, accepted}

value_snoc : (acc : ℕ) (l : List ℕ) (c : ℕ) → value_from acc (l ++ (c ∷ [])) ≡ and_then (value_from acc l) (λ a. and_then (digit_of c) (λ d. some (a * 16 + d)))
unfolding value_from
value_snoc acc [] c = refl
value_snoc acc (x ∷ l) c = step (digit_of x) (λ d. value_snoc (acc * 16 + d) l c)
  where
    step : (o : Option ℕ) → ((d : ℕ) → value_from (acc * 16 + d) (l ++ (c ∷ [])) ≡ and_then (value_from (acc * 16 + d) l) (λ a. and_then (digit_of c) (λ e. some (a * 16 + e))))
        → and_then o (λ d. value_from (acc * 16 + d) (l ++ (c ∷ []))) ≡ and_then (and_then o (λ d. value_from (acc * 16 + d) l)) (λ a. and_then (digit_of c) (λ d. some (a * 16 + d)))
    step none f = refl
    step (some d) f = f d

value_hex : (n x : ℕ) → x < 16 ^ suc n → value_from 0 (numeral 16 (suc n) x) ≡ some x
unfolding numeral value_from
value_hex zero x h =
    let l : x < 16 = omega arith in
    simp (lt-ltb _ _ l, digit_glyph x l) (ap some (omega arith))
value_hex (suc n) x h =
    let g : x < 16 ^ suc n * 16 = rw pow-suc at h in
    let k : x / 16 < 16 ^ suc n = omega arith in
    let m : x % 16 < 16 = omega arith in
    by_test (ltb x 16)
    (λ t. simp (t, digit_glyph x (ltb-true x 16 t)) (ap some (omega arith)))
    (λ t. simp (t, value_snoc, value_hex n (x / 16) k, digit_glyph (x % 16) m) (ap some (omega arith)))

hex_some : (n x : ℕ) → 1 ≤ length (numeral 16 (suc n) x)
unfolding numeral
hex_some n x = by_test (ltb x 16) (λ t. simp t (omega arith)) (λ t. simp (t, length-append) (omega arith))

-- a number below 16 ^ n has at most n digits
hex_short : (m n x : ℕ) → x < 16 ^ suc n → length (numeral 16 m x) ≤ suc n
unfolding numeral
hex_short zero n x h = omega arith
hex_short (suc m) zero x h =
    let l : x < 16 = omega arith in
    simp (lt-ltb _ _ l) (omega arith)
hex_short (suc m) (suc n) x h =
    let g : x < 16 ^ suc n * 16 = rw pow-suc at h in
    let k : x / 16 < 16 ^ suc n = omega arith in
    let i : length (numeral 16 m (x / 16)) ≤ suc n = hex_short m n (x / 16) k in
    by_test (ltb x 16) (λ t. simp t (omega arith)) (λ t. simp (t, length-append) (omega arith))

half : (x : ℕ) → x < 2 ^ 32 → Number (hex_text x) x
half x h =
    let s : length (hex_text x) ≤ 8 = hex_short 20 7 x (omega arith) in
    part_number (hex_text x) x (sym (part_digits (hex_text x) (hex_some 19 x) s) ∙ value_hex 19 x (omega arith))

pub display_spells : (v : ℕ) → v < 2 ^ 64 → Spells (display_of v) v
unfolding display_of
display_spells v h =
    record {
      high = hex_text (v / 2 ^ 32);
      low = hex_text (v % 2 ^ 32);
      hi = v / 2 ^ 32;
      lo = v % 2 ^ 32;
      text = refl;
      high_number = half (v / 2 ^ 32) (omega arith);
      low_number = half (v % 2 ^ 32) (omega arith);
      position = omega arith;
    }

pub read_back : (v : ℕ) → v < 2 ^ 64 → position_of (display_of v) ≡ (0, v)
read_back v h = accepted (display_of v) v (display_spells v h)
