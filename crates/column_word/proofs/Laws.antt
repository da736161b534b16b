-- Packing and unpacking are inverse.
use Prim.Native.Nat.{ℕ, zero, suc, ◌+◌, ◌*◌, ◌/◌, ◌%◌, ◌^◌, ◌<◌, ◌≤◌}
use mathlib.Core.Path.{◌≡◌, refl, ap, sym, subst, ◌∙◌}
use mathlib.Core.List.{List, [], ◌∷◌}
use native.Mathlib.Nat.{
  pow-zero,
  pow-suc,
  mul_assoc,
  suc-mul,
  add-suc,
  mod-lt,
  mod-eq_of_lt,
  div-eq_of_lt,
  mul-add-div_right,
  mul-add-mod_self_right,
  div-add-mod',
  div-lt_iff_lt-mul,
  add-zero,
  mul-le-mul_right,
}
use native.Mathlib.Omega.{arith}
use mathlib.Core.Bool.{Bool, true, false}
use lib.Dec.{eqb}
use borrow.Author.Tests.{eqb-true, eqb-false}
use Rattle.wire.proofs.Laws.{by_test}
use Rattle.column_word.specs.Bits.{bits, packed, unpacked, Fit, Inverse}
use Rattle.column_word.specs.Word.{widths, key_bit, column_said, word_of, column_in, Fits, Words, Places}
use Rattle.column_word.specs.declared.Column.{Column}

-- a power of two is not zero
pub positive : (n : ℕ) → 0 < 2 ^ n
positive zero = omega arith
positive (suc n) = let more : 0 < 2 ^ n = positive n in rw pow-suc (omega arith)

-- the power of a sum
pub pow-add : (w b : ℕ) → 2 ^ (w + b) ≡ 2 ^ w * 2 ^ b
pow-add w zero = rw (add-zero, pow-zero) (omega arith)
pow-add w (suc b) = rw (add-suc, pow-suc, pow-add w b, pow-suc) (mul_assoc (2 ^ w) (2 ^ b) 2)

-- a field above a number of the lower fields
above : (w b v p : ℕ) → v < 2 ^ w → p < 2 ^ b → v * 2 ^ b + p < 2 ^ (w + b)
above w b v p hv hp = let f : suc v * 2 ^ b ≤ 2 ^ w * 2 ^ b = mul-le-mul_right (2 ^ b) hv in
    let g : suc v * 2 ^ b ≡ v * 2 ^ b + 2 ^ b = suc-mul v (2 ^ b) in rw (pow-add w b) (omega arith)

below : (ws vs : List ℕ) → Fit ws vs → packed ws vs < 2 ^ bits ws
unfolding Fit packed bits
below [] [] f = omega arith
below [] (v ∷ vs) f = absurd f
below (w ∷ ws) [] f = absurd f
below (w ∷ ws) (v ∷ vs) f = above w (bits ws) v (packed ws vs) f.0 (below ws vs f.1)

values : (ws vs : List ℕ) → Fit ws vs → unpacked ws (packed ws vs) ≡ vs
unfolding Fit packed unpacked
values [] [] f = refl
values [] (v ∷ vs) f = absurd f
values (w ∷ ws) [] f = absurd f
values (w ∷ ws) (v ∷ vs) f =
    let p : packed ws vs < 2 ^ bits ws = below ws vs f.1 in
    let quotient : (v * 2 ^ bits ws + packed ws vs) / 2 ^ bits ws ≡ v = mul-add-div_right (positive (bits ws)) v (packed ws vs) ∙ ap (λ (x : ℕ). v + x) (div-eq_of_lt p) ∙ add-zero v in
    let rest : (v * 2 ^ bits ws + packed ws vs) % 2 ^ bits ws ≡ packed ws vs = mul-add-mod_self_right v (2 ^ bits ws) (packed ws vs) ∙ mod-eq_of_lt p in
    rw (quotient, rest, mod-eq_of_lt f.0, values ws vs f.1)

number : (ws : List ℕ) (n : ℕ) → n < 2 ^ bits ws → packed ws (unpacked ws n) ≡ n
unfolding packed unpacked bits
number [] n h = omega arith
number (w ∷ ws) n h =
    let high : n / 2 ^ bits ws < 2 ^ w = (div-lt_iff_lt-mul (positive (bits ws))).1 (subst (λ (k : ℕ). n < k) (pow-add w (bits ws)) h) in
    rw (mod-eq_of_lt high, number ws (n % 2 ^ bits ws) (mod-lt n (positive (bits ws)))) (div-add-mod' n (2 ^ bits ws))

fits : (ws : List ℕ) (n : ℕ) → Fit ws (unpacked ws n)
unfolding Fit unpacked
fits [] n = tt
fits (w ∷ ws) n = (mod-lt (n / 2 ^ bits ws) (positive w), fits ws (n % 2 ^ bits ws))

pub inverse : Inverse
inverse = record { values = values; number = number; fits = fits; below = below }

-- a flag as a bit, and the bit as a flag
bit : (b : Bool) → (eqb (key_bit b) 1 ≡ b) × (key_bit b < 2 ^ 1)
bit true = (refl, omega arith)
bit false = (refl, omega arith)

flag : (x : ℕ) → x < 2 → key_bit (eqb x 1) ≡ x
flag x h = by_test (eqb x 1)
    (λ t. rw t (sym (eqb-true x 1 t)))
    (λ f. let other : x ≡ 1 → ⊥ = eqb-false x 1 f in rw f (omega arith))

-- the column in the word of a column that fits is that column
column : (c : Column) → Fits c → column_in (word_of c) ≡ c
unfolding column_in word_of Fit
column c f =
    let fields : List ℕ = key_bit c.key ∷ c.type_oid ∷ c.name_len ∷ c.name_at ∷ [] in
    let same : unpacked widths (packed widths fields) ≡ fields = values widths fields ((bit c.key).1, (f.oid, (f.len, (f.place, tt)))) in
    rw (mod-eq_of_lt f.len, mod-eq_of_lt f.place, same, (bit c.key).0)

-- the word of a column that four fields say
again : (k t l a : ℕ) → k < 2 → l < 2 ^ 7 → a < 2 ^ 24 → word_of (column_said (k ∷ t ∷ l ∷ a ∷ [])) ≡ packed widths (k ∷ t ∷ l ∷ a ∷ [])
unfolding word_of
again k t l a hk hl ha = rw (flag k hk, mod-eq_of_lt hl, mod-eq_of_lt ha)

word : (w : ℕ) → w < 2 ^ 64 → word_of (column_in w) ≡ w
unfolding column_in unpacked bits Fit
word w h =
    let f : Fit widths (unpacked widths w) = fits widths w in
    again _ _ _ _ f.0 f.1.1.0 f.1.1.1.0 ∙ number widths w h

pub words : Words
words = record { column = column; word = word }

-- where each field stands
key_places : (oid len place : ℕ) → oid < 2 ^ 32 → len < 2 ^ 7 → place < 2 ^ 24
    → word_of (record { key = true; type_oid = oid; name_len = len; name_at = place }) ≡ 2 ^ 63 + oid * 2 ^ 31 + len * 2 ^ 24 + place
unfolding word_of packed bits
key_places oid len place a b c = rw (mod-eq_of_lt b, mod-eq_of_lt c) (omega arith)

no_key_places : (oid len place : ℕ) → oid < 2 ^ 32 → len < 2 ^ 7 → place < 2 ^ 24
    → word_of (record { key = false; type_oid = oid; name_len = len; name_at = place }) ≡ oid * 2 ^ 31 + len * 2 ^ 24 + place
unfolding word_of packed bits
no_key_places oid len place a b c = rw (mod-eq_of_lt b, mod-eq_of_lt c) (omega arith)

lowest_bits : (key : Bool) (oid len place : ℕ)
    → word_of (record { key = key; type_oid = oid; name_len = len; name_at = place })
    ≡ word_of (record { key = key; type_oid = oid; name_len = len % 2 ^ 7; name_at = place % 2 ^ 24 })
unfolding word_of
lowest_bits key oid len place =
    let a : len % 2 ^ 7 % 2 ^ 7 ≡ len % 2 ^ 7 = mod-eq_of_lt (mod-lt len (positive 7)) in
    let b : place % 2 ^ 24 % 2 ^ 24 ≡ place % 2 ^ 24 = mod-eq_of_lt (mod-lt place (positive 24)) in
    rw (a, b)

pub places : Places
places = record { key = key_places; no_key = no_key_places; lowest = lowest_bits }
