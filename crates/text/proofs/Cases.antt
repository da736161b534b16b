-- The cases by computing; a text is read back digit by digit.
use mathlib.Core.Path.{◌≡◌, refl, ap}
use mathlib.Core.Bool.{true}
use mathlib.Core.List.{List, [], ◌∷◌, ◌++◌}
use Prim.Native.Nat.{ℕ, zero, suc, ◌+◌, ◌*◌, ◌-◌, ◌/◌, ◌%◌, ◌^◌, ◌<◌, ◌≤◌}
use native.Mathlib.Nat.{pow-suc, div-add-mod'}
use native.Mathlib.Omega.{arith}
use lib.Dec.{ltb}
use lib.Pow.{are_bytes}
use borrow.Author.Tests.{lt-ltb, le-ltb, ltb-true, ltb-false}
use Rattle.wire.proofs.Laws.{by_test}
use Rattle.wire.proofs.FieldLaws.{first_byte}
use Rattle.text.specs.Numeral.{glyph_of, numeral, lower_of, hex_bytes}
use Rattle.text.specs.TextCases.{decimal_from, lower_value, pairs_read, TextLaws, TextCases}

decimal_snoc : (acc : ℕ) (l : List ℕ) (c : ℕ) → decimal_from acc (l ++ (c ∷ [])) ≡ decimal_from acc l * 10 + (c - 48)
unfolding decimal_from
decimal_snoc acc [] c = refl
decimal_snoc acc (x ∷ l) c = decimal_snoc (acc * 10 + (x - 48)) l c

glyph_value : (d : ℕ) → d < 10 → glyph_of d - 48 ≡ d
glyph_value d h = simp (lt-ltb _ _ h) (omega arith)

spells : (n v : ℕ) → v < 10 ^ suc n → decimal_from 0 (numeral 10 (suc n) v) ≡ v
unfolding numeral decimal_from
spells zero v h =
    let l : v < 10 = omega arith in
    simp (lt-ltb _ _ l) (omega arith)
spells (suc n) v h =
    let g : v < 10 ^ suc n * 10 = rw pow-suc at h in
    let k : v / 10 < 10 ^ suc n = omega arith in
    let m : v % 10 < 10 = omega arith in
    by_test (ltb v 10)
    (λ t. simp t (omega arith))
    (λ t. simp (t, decimal_snoc, spells n (v / 10) k, glyph_value (v % 10) m) (div-add-mod' v 10))

lower_value_lem : (d : ℕ) → d < 16 → lower_value (lower_of d) ≡ d
lower_value_lem d h =
    by_test (ltb d 10)
    (λ t. let k : d < 10 = ltb-true d 10 t in simp (t, lt-ltb (48 + d) 58 (omega arith)) (omega arith))
    (λ t. let k : 10 ≤ d = ltb-false d 10 t in simp (t, le-ltb (87 + d) 58 (omega arith)) (omega arith))

bytes_spell : (s : List ℕ) → are_bytes s ≡ true → pairs_read (hex_bytes s) ≡ s
unfolding hex_bytes pairs_read
bytes_spell [] e = refl
bytes_spell (b ∷ s) e =
    let f = first_byte b s e in
    let l : b < 256 = f.0 in
    let hi : b / 16 < 16 = omega arith in
    let lo : b % 16 < 16 = omega arith in
    simp (lower_value_lem (b / 16) hi, lower_value_lem (b % 16) lo, bytes_spell s f.1) (ap (λ (x : ℕ). x ∷ s) (div-add-mod' b 16))

pub text_laws : TextLaws
text_laws = record { decimal_spells = spells 19; bytes_spell = bytes_spell }

pub text_cases : TextCases
unfolding numeral hex_bytes
text_cases =
    record {
      decimal_zero = refl;
      decimal_nine = refl;
      decimal_ten = refl;
      decimal_many = refl;
      decimal_largest = refl;
      signed_positive = refl;
      signed_minus_one = refl;
      signed_smallest = refl;
      hex_zero = refl;
      hex_upper = refl;
      hex_sixteen = refl;
      bytes_none = refl;
      bytes_low = refl;
    }
