-- Characters of one and two bytes in a block, byte after byte.
use mathlib.Core.Path.{◌≡◌, refl, sym, ap, ◌∙◌}
use mathlib.Core.Bool.{Bool, true, false}
use mathlib.Core.List.{List, [], ◌∷◌}
use mathlib.Core.Logic.{inl, inr}
use Prim.Native.Nat.{ℕ, zero, suc, ◌+◌, ◌≤◌, ◌<◌}
use native.Mathlib.Nat.{add-zero}
use native.Mathlib.Numerals.{add-one}
use native.Mathlib.Omega.{arith}
use lib.ListN.{length, drop, get_or}
use lib.Seq.{drop-cons}
use lib.Dec.{eqb, ltb}
use borrow.Author.Tests.{le-leb, ltb-true, ltb-false, eqb-true}
use Rattle.wire.specs.Bytes.{pick}
use Rattle.utf8.specs.WellFormed.{table}
use Rattle.lossy.specs.Parts.{Sequence}
use Rattle.lossy.specs.Stretch.{stretch_of}
use Rattle.lossy.specs.Blocks.{trails, leads, fits, unfit_at, PassedTo}
use Rattle.lossy.proofs.Stretches.{sequence_stretch}

-- ---- the two kinds of characters

one_byte : (b : ℕ) → b < 0x80 → Sequence (b ∷ [])
unfolding table
one_byte b h = inl (simp (le-leb 0 b (omega arith), le-leb b 0x7F (omega arith)), tt)

two_bytes : (b c : ℕ) → 0xC2 ≤ b → b < 0xE0 → 0x80 ≤ c → c < 0xC0 → Sequence (b ∷ c ∷ [])
unfolding table
two_bytes b c h k l m =
    inr (inl (simp (le-leb 0xC2 b h, le-leb b 0xDF (omega arith)), (simp (le-leb 0x80 c l, le-leb c 0xBF (omega arith)), tt)))

module _ (s : List ℕ) (k : ℕ) where
  stretch_one : k < length s → get_or s k 0 < 0x80 → stretch_of (drop k s) ≡ 1 + stretch_of (drop (k + 1) s)
  stretch_one h l = rw (drop-cons s k 0 h, add-one k) (sequence_stretch (get_or s k 0) [] (drop (suc k) s) (one_byte (get_or s k 0) l))

  stretch_two : k + 1 < length s → 0xC2 ≤ get_or s k 0 → get_or s k 0 < 0xE0 → 0x80 ≤ get_or s (k + 1) 0 → get_or s (k + 1) 0 < 0xC0
      → stretch_of (drop k s) ≡ 2 + stretch_of (drop (k + 2) s)
  stretch_two h a b c d =
      let e : drop k s ≡ get_or s k 0 ∷ drop (suc k) s = drop-cons s k 0 (omega arith) in
      let f : drop (k + 1) s ≡ get_or s (k + 1) 0 ∷ drop (suc (k + 1)) s = drop-cons s (k + 1) 0 h in
      let x : suc k ≡ k + 1 = omega arith in
      let y : suc (k + 1) ≡ k + 2 = omega arith in
      let g : drop (suc k) s ≡ get_or s (k + 1) 0 ∷ drop (k + 2) s = ap (λ (n : ℕ). drop n s) x ∙ f ∙ ap (λ (n : ℕ). get_or s (k + 1) 0 ∷ drop n s) y in
      ap stretch_of (e ∙ ap (λ (x : List ℕ). get_or s k 0 ∷ x) g)
      ∙ sequence_stretch (get_or s k 0) (get_or s (k + 1) 0 ∷ []) (drop (k + 2) s) (two_bytes (get_or s k 0) (get_or s (k + 1) 0) a b c d)

-- ---- what the numbers say of a byte

trail_1 : (b : ℕ) → trails b ≡ 1 → (0x80 ≤ b) × (b < 0xC0)
trail_1 b e = by (ltb b 0x80) refl (ltb b 0xC0) refl e
  where
    by : (t : Bool) → ltb b 0x80 ≡ t → (u : Bool) → ltb b 0xC0 ≡ u → ◌≡◌ {A = ℕ} (pick t 0 (pick u 1 0)) 1 → (0x80 ≤ b) × (b < 0xC0)
    by true p u q e = absurd (omega arith)
    by false p true q e = (ltb-false b 0x80 p, ltb-true b 0xC0 q)
    by false p false q e = absurd (omega arith)

pub trail_few : (b : ℕ) → trails b ≤ 1
trail_few b = by (ltb b 0x80) (ltb b 0xC0)
  where
    by : (t u : Bool) → ◌≤◌ (pick {A = ℕ} t 0 (pick u 1 0)) 1
    by true u = omega arith
    by false true = omega arith
    by false false = omega arith

-- a byte that stands before one whose number is t, in characters of one and two bytes
data Before (b t : ℕ) : Type 0 where
  letter : b < 0x80 → trails b ≡ 0 → t ≡ 0 → Before b t
  second : trails b ≡ 1 → t ≡ 0 → Before b t
  first : 0xC2 ≤ b → b < 0xE0 → trails b ≡ 0 → t ≡ 1 → Before b t

before : (b t : ℕ) → leads b ≡ t → t ≤ 1 → Before b t
before b t e h = by (ltb b 0x80) refl (ltb b 0xC0) refl (ltb b 0xC2) refl (ltb b 0xE0) refl e
  where
    by : (w : Bool) → ltb b 0x80 ≡ w → (x : Bool) → ltb b 0xC0 ≡ x → (y : Bool) → ltb b 0xC2 ≡ y → (z : Bool) → ltb b 0xE0 ≡ z
        → pick x 0 (pick y 2 (pick z 1 2)) ≡ t → Before b t
    by true p true q y r z v e = letter (ltb-true b 0x80 p) (simp p) (sym e)
    by true p false q y r z v e = let l = ltb-true b 0x80 p in let g = ltb-false b 0xC0 q in absurd (omega arith)
    by false p true q y r z v e = second (simp (p, q)) (sym e)
    by false p false q true r z v e = absurd (omega arith)
    by false p false q false r true v e = first (ltb-false b 0xC2 r) (ltb-true b 0xE0 v) (simp (p, q)) (sym e)
    by false p false q false r false v e = absurd (omega arith)

fits_0 : (a b : ℕ) → fits a b ≡ 0 → leads a ≡ trails b
fits_0 a b e = by (eqb (leads a) (trails b)) refl e
  where
    by : (t : Bool) → eqb (leads a) (trails b) ≡ t → ◌≡◌ {A = ℕ} (pick t 0 1) 0 → leads a ≡ trails b
    by true p e = eqb-true _ _ p
    by false p e = absurd (omega arith)

pub fits_few : (a b : ℕ) → fits a b ≤ 1
fits_few a b = by (eqb (leads a) (trails b))
  where
    by : (t : Bool) → ◌≤◌ (pick {A = ℕ} t 0 1) 1
    by true = omega arith
    by false = omega arith

-- ---- a block

pub unfit_none : (s : List ℕ) (i : ℕ) → unfit_at s i 0 ≡ 0
unfolding unfit_at
unfit_none s i = refl

pub unfit_next : (s : List ℕ) (i n : ℕ) → unfit_at s i (n + 1) ≡ unfit_at s i n + fits (get_or s (i + n) 0) (get_or s (i + n + 1) 0)
unfolding unfit_at
unfit_next s i n = rw (add-one n) refl

-- the place after the character that the byte at k ends, or before which it stands
abbrev end_of : List ℕ → ℕ → ℕ
end_of s k = k + trails (get_or s k 0)

abbrev reached : List ℕ → ℕ → ℕ
reached s k = k + stretch_of (drop k s)

step : (s : List ℕ) (k : ℕ) → k + 1 < length s → fits (get_or s k 0) (get_or s (k + 1) 0) ≡ 0 → reached s (end_of s k) ≡ reached s (end_of s (k + 1))
step s k h e = by (before (get_or s k 0) (trails (get_or s (k + 1) 0)) (fits_0 (get_or s k 0) (get_or s (k + 1) 0) e) (trail_few (get_or s (k + 1) 0)))
  where
    at : {m n : ℕ} → m ≡ n → reached s m ≡ reached s n
    at e = ap (reached s) e

    by : Before (get_or s k 0) (trails (get_or s (k + 1) 0)) → reached s (end_of s k) ≡ reached s (end_of s (k + 1))
    by (letter l z t) =
        let a : end_of s k ≡ k = omega arith in
        let b : k + 1 ≡ end_of s (k + 1) = omega arith in
        let w = stretch_one s k (omega arith) l in
        let m : reached s k ≡ reached s (k + 1) = omega arith in
        at a ∙ m ∙ at b
    by (second z t) = at (omega arith)
    by (first l m z t) =
        let a : end_of s k ≡ k = omega arith in
        let b : k + 2 ≡ end_of s (k + 1) = omega arith in
        let c = trail_1 (get_or s (k + 1) 0) t in
        let w = stretch_two s k h l m c.0 c.1 in
        let n : reached s k ≡ reached s (k + 2) = omega arith in
        at a ∙ n ∙ at b

steps : (s : List ℕ) (i n : ℕ) → i + n < length s → trails (get_or s i 0) ≡ 0 → unfit_at s i n ≡ 0 → reached s i ≡ reached s (end_of s (i + n))
steps s i zero h z e = ap (reached s) (simp add-zero (omega arith))
steps s i (suc n) h z e =
    let f : unfit_at s i n + fits (get_or s (i + n) 0) (get_or s (i + n + 1) 0) ≡ 0 = sym (unfit_next s i n) ∙ rw (add-one n) e in
    let g : unfit_at s i n ≡ 0 = omega arith in
    let k : fits (get_or s (i + n) 0) (get_or s (i + n + 1) 0) ≡ 0 = omega arith in
    let p : i + n + 1 ≡ i + suc n = omega arith in
    steps s i n (omega arith) z g ∙ step s (i + n) (omega arith) k ∙ ap (λ (m : ℕ). reached s (end_of s m)) p

-- a block after places that were passed
pub block_passed : (s : List ℕ) (from i : ℕ) → PassedTo s from i → i + 32 < length s → (trails (get_or s i 0) ≡ 1 → ⊥) → unfit_at s i 32 ≡ 0
    → PassedTo s from (i + 32 + trails (get_or s (i + 32) 0))
block_passed s from i p h f e =
    let a : trails (get_or s i 0) ≤ 1 = trail_few (get_or s i 0) in
    let z : trails (get_or s i 0) ≡ 0 = omega (arith, f) in
    let b : trails (get_or s (i + 32) 0) ≤ 1 = trail_few (get_or s (i + 32) 0) in
    let c : from ≤ i = p.from in
    record { from = omega arith; within = omega arith; is = p.is ∙ steps s i 32 h z e }
