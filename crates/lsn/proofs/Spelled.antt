-- The reader and the documentation's sentence say the same, both ways.
use mathlib.Core.Path.{◌≡◌, refl, sym, ap, ◌∙◌}
use mathlib.Core.List.{List, [], ◌∷◌, ◌++◌}
use mathlib.Core.Option.{Option, some, none}
use mathlib.Core.Bool.{true, false}
use mathlib.Core.Logic.{inl, inr, ⊎_elim}
use Prim.Native.Nat.{ℕ, ◌+◌, ◌*◌, ◌-◌, ◌/◌, ◌%◌, ◌^◌, ◌≤◌, ◌<◌}
use native.Mathlib.Nat.{pow-suc, add-mul, mul_assoc, mul_comm, mul-le-mul_right}
use native.Mathlib.Numerals.{add-one}
use native.Mathlib.Omega.{arith}
use lib.ListN.{length, take, drop, length-append}
use lib.Seq.{take-append_seam, drop-append-add}
use lib.Dec.{ltb, leb, eqb}
use borrow.Author.Tests.{lt-ltb, le-ltb, le-leb, lt-leb, ne_eqb, ltb-true, ltb-false, leb-true, eqb-true}
use Rattle.wire.specs.Field.{and_then}
use Rattle.wire.specs.Find.{index_of}
use Rattle.wire.proofs.Laws.{by_test, impossible}
use Rattle.wire.proofs.FindLaws.{found_later}
use Rattle.text.specs.Numeral.{glyph_of, lower_of}
use Rattle.lsn.specs.Hex.{between, digit_of, value_from, hex_part}
use Rattle.lsn.specs.Position.{joined, position_by_parts, by_slash, position_of}
use Rattle.lsn.specs.Spelled.{Digit, Digits, Number, Spells, NoSlash, SpelledLaws}
use Rattle.lsn.proofs.Laws.{part_digits, power_below}

-- ---- one digit

between_is : (a b x : ℕ) → between a b x ≡ true → (a ≤ x) × (x ≤ b)
between_is a b x e = by_test (leb a x) (λ t. (leb-true a x t, leb-true x b (rw t at e))) (λ t. let f : false ≡ true = rw t at e in impossible cc)

digit_is : (c d : ℕ) → digit_of c ≡ some d → Digit c d
unfolding digit_of
digit_is c d e =
    by_test (between 48 57 c)
    (λ t.
    let b = between_is 48 57 c t in
    let q : c - 48 ≡ d = cc (rw t at e) in
    let h : d < 10 = omega (arith, b.0, b.1) in
    (omega arith, inl (simp (lt-ltb _ _ h) (omega (arith, b.0)))))
    (λ t.
    by_test (between 65 70 c)
    (λ u.
    let b = between_is 65 70 c u in
    let q : c - 55 ≡ d = cc (rw (t, u) at e) in
    let h : 10 ≤ d = omega (arith, b.0, b.1) in
    (omega (arith, b.0, b.1), inl (simp (le-ltb _ _ h) (omega (arith, b.0)))))
    (λ u.
    by_test (between 97 102 c)
    (λ v.
    let b = between_is 97 102 c v in
    let q : c - 87 ≡ d = cc (rw (t, u, v) at e) in
    let h : 10 ≤ d = omega (arith, b.0, b.1) in
    (omega (arith, b.0, b.1), inr (simp (le-ltb _ _ h) (omega (arith, b.0)))))
    (λ v. let f : ◌≡◌ {A = Option ℕ} none (some d) = rw (t, u, v) at e in impossible cc)))

-- the digit of a value in upper case is read as the value
pub digit_glyph : (d : ℕ) → d < 16 → digit_of (glyph_of d) ≡ some d
unfolding digit_of
digit_glyph d h =
    by_test (ltb d 10)
    (λ t.
    let k : d < 10 = ltb-true d 10 t in
    simp (t, le-leb 48 (48 + d) (omega arith), le-leb (48 + d) 57 (omega arith)) (ap some (omega arith)))
    (λ t.
    let k : 10 ≤ d = ltb-false d 10 t in
    simp (t, le-leb 48 (55 + d) (omega arith), lt-leb (55 + d) 57 (omega arith), le-leb 65 (55 + d) (omega arith), le-leb (55 + d) 70 (omega arith))
    (ap some (omega arith)))

-- the digit of a value in lower case is read as the value
digit_lower : (d : ℕ) → d < 16 → digit_of (lower_of d) ≡ some d
unfolding digit_of
digit_lower d h =
    by_test (ltb d 10)
    (λ t.
    let k : d < 10 = ltb-true d 10 t in
    simp (t, le-leb 48 (48 + d) (omega arith), le-leb (48 + d) 57 (omega arith)) (ap some (omega arith)))
    (λ t.
    let k : 10 ≤ d = ltb-false d 10 t in
    simp (
      t,
      le-leb 48 (87 + d) (omega arith),
      lt-leb (87 + d) 57 (omega arith),
      le-leb 65 (87 + d) (omega arith),
      lt-leb (87 + d) 70 (omega arith),
      le-leb 97 (87 + d) (omega arith),
      le-leb (87 + d) 102 (omega arith),
    )
    (ap some (omega arith)))

digit_of_lem : (c d : ℕ) → Digit c d → digit_of c ≡ some d
digit_of_lem c d x = ⊎_elim (λ e. ap digit_of e ∙ digit_glyph d x.0) (λ e. ap digit_of e ∙ digit_lower d x.0) x.1

-- ---- one number

-- a digit is carried to its place
carried : (a d x w : ℕ) → (a * 16 + d) * x + w ≡ a * (x * 16) + (d * x + w)
carried a d x w = rw (add-mul (a * 16) d x, mul_assoc a 16 x, mul_comm 16 x) (omega arith)

digits_value : (s : List ℕ) (acc v : ℕ) → Digits s v → value_from acc s ≡ some (acc * 16 ^ length s + v)
unfolding value_from
digits_value [] acc v x = ap some (omega arith)
digits_value (c ∷ s) acc v x =
    rw (digit_of_lem c x.0 x.2)
    (digits_value s (acc * 16 + x.0) x.1 x.3 ∙ ap some (rw (pow-suc, x.4) (carried acc x.0 (16 ^ length s) x.1)))

value_digits : (s : List ℕ) (acc r : ℕ) → value_from acc s ≡ some r → (v : ℕ) × Digits s v × (r ≡ acc * 16 ^ length s + v)
unfolding value_from
value_digits [] acc r e = let h : acc ≡ r = cc in (0, refl, omega arith)
value_digits (c ∷ s) acc r e = step (digit_of c) refl e (λ d. value_digits s (acc * 16 + d) r)
  where
    step : (o : Option ℕ) → digit_of c ≡ o → and_then o (λ d. value_from (acc * 16 + d) s) ≡ some r
        → ((d : ℕ) → value_from (acc * 16 + d) s ≡ some r → (v : ℕ) × Digits s v × (r ≡ (acc * 16 + d) * 16 ^ length s + v))
        → (v : ℕ) × Digits (c ∷ s) v × (r ≡ acc * 16 ^ length (c ∷ s) + v)
    step none q f rest = impossible cc
    step (some d) q f rest =
        let w = rest d f in
        (d * 16 ^ length s + w.0, (d, w.0, digit_is c d q, w.1, refl), rw pow-suc (w.2 ∙ carried acc d (16 ^ length s) w.0))

digits_below : (s : List ℕ) (v : ℕ) → Digits s v → v < 16 ^ length s
digits_below [] v x = omega arith
digits_below (c ∷ s) v x =
    let h : x.0 ≤ 15 = omega (arith, x.2.0) in
    rw pow-suc (omega (arith, x.4, mul-le-mul_right (16 ^ length s) h, digits_below s x.1 x.3))

number_below : (s : List ℕ) (v : ℕ) → Number s v → v < 2 ^ 32
number_below s v x = omega (arith, digits_below s v x.2, power_below (length s) 8 x.1)

pub number_part : (s : List ℕ) (v : ℕ) → Number s v → hex_part s ≡ some v
number_part s v x = sym (part_digits s x.0 x.1) ∙ digits_value s 0 v x.2 ∙ ap some (omega arith)

pub part_number : (s : List ℕ) (v : ℕ) → hex_part s ≡ some v → Number s v
unfolding hex_part
part_number s v e =
    by_test (between 1 8 (length s))
    (λ t.
    let b = between_is 1 8 (length s) t in
    let w = value_digits s 0 v (rw t at e) in
    let q : w.0 ≡ v = omega (arith, w.2) in
    (b.0, b.1, rw q at w.1))
    (λ t. let f : ◌≡◌ {A = Option ℕ} none (some v) = rw t at e in impossible cc)

-- what parse and its callers know of a part that was read
pub part_below : (s : List ℕ) (v : ℕ) → hex_part s ≡ some v → v < 2 ^ 32
part_below s v e = number_below s v (part_number s v e)

no_number : (s : List ℕ) → ((v : ℕ) → Number s v → ⊥) → hex_part s ≡ none
no_number s f = step (hex_part s) refl
  where
    step : (o : Option ℕ) → hex_part s ≡ o → hex_part s ≡ none
    step none q = q
    step (some v) q = absurd (f v (part_number s v q))

-- ---- the slash

pub digits_no_slash : (s : List ℕ) (v : ℕ) → Digits s v → NoSlash s
unfolding digit_of
digits_no_slash [] v x = tt
digits_no_slash (c ∷ s) v x =
    (λ e. let d : digit_of 47 ≡ some x.0 = rw e at (digit_of_lem c x.0 x.2) in impossible cc, digits_no_slash s x.1 x.3)

no_index : (s : List ℕ) → NoSlash s → index_of 47 s ≡ none
unfolding index_of
no_index [] x = refl
no_index (c ∷ s) x = rw (ne_eqb c 47 x.0, no_index s x.1)

seam : (l r : List ℕ) → NoSlash l → index_of 47 (l ++ (47 ∷ r)) ≡ some (length l)
unfolding index_of
seam [] r x = refl
seam (c ∷ l) r x = rw (ne_eqb c 47 x.0, seam l r x.1) (ap some (omega arith))

pub parted : (s : List ℕ) (k : ℕ) → index_of 47 s ≡ some k → s ≡ take k s ++ (47 ∷ drop (k + 1) s)
unfolding index_of
parted [] k e = impossible cc
parted (c ∷ s) k e =
    by_test (eqb c 47)
    (λ t.
    let q : 0 ≡ k = cc (rw t at e) in
    rw (← q, eqb-true c 47 t))
    (λ t.
    let w = found_later (index_of 47 s) k (rw t at e) in
    rw (add-one, w.2) (ap (λ (l : List ℕ). c ∷ l) (rw add-one at (parted s w.0 w.1))))

-- ---- whole texts

by_numbers : (high low : List ℕ) → NoSlash high → position_of (high ++ (47 ∷ low)) ≡ position_by_parts (hex_part high) (hex_part low)
unfolding position_of
by_numbers high low x =
    let t : take (length high) (high ++ (47 ∷ low)) ≡ high = take-append_seam high (47 ∷ low) in
    let d : drop (length high + 1) (high ++ (47 ∷ low)) ≡ low = drop-append-add high (47 ∷ low) 1 in
    rw (seam high low x, t, d)

pub accepted : (s : List ℕ) (p : ℕ) → Spells s p → position_of s ≡ (0, p)
unfolding joined
accepted s p x =
    ap position_of x.text ∙ by_numbers x.high x.low (digits_no_slash x.high x.hi x.high_number.2)
    ∙ rw (number_part x.high x.hi x.high_number, number_part x.low x.lo x.low_number, x.position)

spelled : (s : List ℕ) (p : ℕ) → position_of s ≡ (0, p) → Spells s p
unfolding position_of joined
spelled s p e = by_slash_lem (index_of 47 s) refl e
  where
    by_parts : (k : ℕ) (a b : Option ℕ) → index_of 47 s ≡ some k → hex_part (take k s) ≡ a → hex_part (drop (k + 1) s) ≡ b → position_by_parts a b ≡ (0, p)
        → Spells s p
    by_parts k none b i f g e = absurd (omega (arith, ap (λ (x : ℕ × ℕ). x.0) e))
    by_parts k (some hi) none i f g e = absurd (omega (arith, ap (λ (x : ℕ × ℕ). x.0) e))
    by_parts k (some hi) (some lo) i f g e =
        record {
          high = take k s;
          low = drop (k + 1) s;
          hi = hi;
          lo = lo;
          text = parted s k i;
          high_number = part_number (take k s) hi f;
          low_number = part_number (drop (k + 1) s) lo g;
          position = sym (ap (λ (x : ℕ × ℕ). x.1) e);
        }

    by_slash_lem : (o : Option ℕ) → index_of 47 s ≡ o → by_slash s o ≡ (0, p) → Spells s p
    by_slash_lem none i e = absurd (omega (arith, ap (λ (x : ℕ × ℕ). x.0) e))
    by_slash_lem (some k) i e = by_parts k (hex_part (take k s)) (hex_part (drop (k + 1) s)) i refl refl e

halves : (s : List ℕ) (p : ℕ) → (x : Spells s p) → (p < 2 ^ 64) × (p / 2 ^ 32 ≡ x.hi) × (p % 2 ^ 32 ≡ x.lo) × (length s ≤ 17)
halves s p x =
    let h : x.hi < 2 ^ 32 = number_below x.high x.hi x.high_number in
    let l : x.lo < 2 ^ 32 = number_below x.low x.lo x.low_number in
    let n : length s ≡ length x.high + (1 + length x.low) = ap length x.text ∙ simp length-append (omega arith) in
    (omega (arith, x.position), omega (arith, x.position), omega (arith, x.position), omega (arith, x.high_number.1, x.low_number.1))

no_slash : (s : List ℕ) → NoSlash s → position_of s ≡ (22, 0)
unfolding position_of
no_slash s x = rw (no_index s x)

no_high : (high low : List ℕ) → NoSlash high → ((v : ℕ) → Number high v → ⊥) → position_of (high ++ (47 ∷ low)) ≡ (23, 0)
no_high high low x f = by_numbers high low x ∙ rw (no_number high f)

no_low : (high low : List ℕ) (hi : ℕ) → Number high hi → ((v : ℕ) → Number low v → ⊥) → position_of (high ++ (47 ∷ low)) ≡ (24, 0)
no_low high low hi x f =
    by_numbers high low (digits_no_slash high hi x.2) ∙ rw (number_part high hi x, no_number low f)

pub spelled_laws : SpelledLaws
spelled_laws = record { accepted = accepted; spelled = spelled; halves = halves; no_slash = no_slash; no_high = no_high; no_low = no_low }
