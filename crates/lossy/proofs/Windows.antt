-- Bytes that fit behind the three before them, one after the other, are characters.
use mathlib.Core.Path.{◌≡◌, refl, sym, ap, ◌∙◌}
use mathlib.Core.Bool.{Bool, true, false}
use mathlib.Core.List.{List, [], ◌∷◌}
use Prim.Native.Nat.{ℕ, zero, suc, ◌+◌, ◌-◌, ◌≤◌, ◌<◌}
use native.Mathlib.Nat.{not-suc-le-zero, le_of_suc-le-suc}
use native.Mathlib.Numerals.{add-one}
use native.Mathlib.Omega.{arith}
use lib.ListN.{length, drop, get_or}
use lib.Seq.{drop-drop, drop-cons}
use lib.Dec.{eqb, ltb}
use borrow.Author.Tests.{ltb-true, ltb-false, lt-ltb, le-ltb, eqb-true, eq-eqb}
use Rattle.wire.specs.Bytes.{pick}
use Rattle.wire.proofs.Laws.{by_test}
use Rattle.lossy.specs.Division.{Character, row_1, row_2, row_3, row_4, row_5, row_6, row_7, row_8, row_9}
use Rattle.lossy.specs.Stretch.{stretch_of}
use Rattle.lossy.specs.Blocks.{trails, PassedTo}
use Rattle.lossy.specs.Wide.{due_after, apart, under, over, nowhere, unfits, window_at, windows_at, begun}
use Rattle.lossy.proofs.Stretches.{sequence_stretch}
use Rattle.lossy.proofs.Division.{to_sequence}

-- ---- what the numbers say

trail_is : (b : ℕ) → trails b ≡ 1 → (0x80 ≤ b) × (b < 0xC0)
trail_is b e = by (ltb b 0x80) refl (ltb b 0xC0) refl e
  where
    by : (t : Bool) → ltb b 0x80 ≡ t → (u : Bool) → ltb b 0xC0 ≡ u → ◌≡◌ {A = ℕ} (pick t 0 (pick u 1 0)) 1 → (0x80 ≤ b) × (b < 0xC0)
    by true p u q e = absurd (omega arith)
    by false p true q e = (ltb-false b 0x80 p, ltb-true b 0xC0 q)
    by false p false q e = absurd (omega arith)

trail_not : (b : ℕ) → trails b ≡ 0 → 0x80 ≤ b → 0xC0 ≤ b
trail_not b e h = by (ltb b 0x80) refl (ltb b 0xC0) refl e
  where
    by : (t : Bool) → ltb b 0x80 ≡ t → (u : Bool) → ltb b 0xC0 ≡ u → ◌≡◌ {A = ℕ} (pick t 0 (pick u 1 0)) 0 → 0xC0 ≤ b
    by true p u q e = let l = ltb-true b 0x80 p in absurd (omega arith)
    by false p true q e = absurd (omega arith)
    by false p false q e = ltb-false b 0xC0 q

lead_trails : (b : ℕ) → 0xC0 ≤ b → trails b ≡ 0
lead_trails b h = rw (le-ltb b 0x80 (omega arith), le-ltb b 0xC0 h)

either_one : (t : Bool) → ◌≡◌ {A = ℕ} (pick t 1 1) 1
either_one true = refl
either_one false = refl

none_due : (x y z : ℕ) → x < 0xF0 → y < 0xE0 → z < 0xC0 → due_after x y z ≡ 0
none_due x y z h k l = rw (lt-ltb x 0xF0 h, lt-ltb y 0xE0 k, lt-ltb z 0xC0 l)

due_third : (x y z : ℕ) → 0xC0 ≤ z → due_after x y z ≡ 1
due_third x y z h = rw (le-ltb z 0xC0 h, either_one (ltb y 0xE0), either_one (ltb x 0xF0))

due_second : (x y z : ℕ) → 0xE0 ≤ y → due_after x y z ≡ 1
due_second x y z h = rw (le-ltb y 0xE0 h, either_one (ltb x 0xF0))

due_first : (x y z : ℕ) → 0xF0 ≤ x → due_after x y z ≡ 1
due_first x y z h = rw (le-ltb x 0xF0 h)

-- ---- a byte that fits

pub record Fits (x y z b : ℕ) : Type 0 where
  pub due : trails b ≡ due_after x y z
  pub e0 : z ≡ 0xE0 → 0xA0 ≤ b
  pub ed : z ≡ 0xED → b < 0xA0
  pub f0 : z ≡ 0xF0 → 0x90 ≤ b
  pub f4 : z ≡ 0xF4 → b < 0x90
  pub c2 : 0xC0 ≤ z → 0xC2 ≤ z
  pub f5 : z < 0xF5

apart_0 : (x y z b : ℕ) → apart x y z b ≡ 0 → trails b ≡ due_after x y z
apart_0 x y z b e = by (eqb (due_after x y z) (trails b)) refl e
  where
    by : (t : Bool) → eqb (due_after x y z) (trails b) ≡ t → ◌≡◌ {A = ℕ} (pick t 0 1) 0 → trails b ≡ due_after x y z
    by true p e = sym (eqb-true _ _ p)
    by false p e = absurd (omega arith)

under_0 : (first least a b : ℕ) → under first least a b ≡ 0 → a ≡ first → least ≤ b
under_0 first least a b e h = by (ltb b least) refl (rw (eq-eqb a first h) at e)
  where
    by : (t : Bool) → ltb b least ≡ t → ◌≡◌ {A = ℕ} (pick t 1 0) 0 → least ≤ b
    by true p e = absurd (omega arith)
    by false p e = ltb-false b least p

over_0 : (first most a b : ℕ) → over first most a b ≡ 0 → a ≡ first → b < most
over_0 first most a b e h = by (ltb b most) refl (rw (eq-eqb a first h) at e)
  where
    by : (t : Bool) → ltb b most ≡ t → ◌≡◌ {A = ℕ} (pick t 0 1) 0 → b < most
    by true p e = ltb-true b most p
    by false p e = absurd (omega arith)

nowhere_0 : (a : ℕ) → nowhere a ≡ 0 → (0xC0 ≤ a → 0xC2 ≤ a) × (a < 0xF5)
nowhere_0 a e = by (ltb a 0xC0) refl (ltb a 0xC2) refl (ltb a 0xF5) refl e
  where
    by : (t : Bool) → ltb a 0xC0 ≡ t → (u : Bool) → ltb a 0xC2 ≡ u → (v : Bool) → ltb a 0xF5 ≡ v → ◌≡◌ {A = ℕ} (pick t 0 (pick u 1 (pick v 0 1))) 0
        → (0xC0 ≤ a → 0xC2 ≤ a) × (a < 0xF5)
    by true p u q v r e = let l = ltb-true a 0xC0 p in (λ h. absurd (omega arith), omega arith)
    by false p true q v r e = absurd (omega arith)
    by false p false q true r e = (λ h. ltb-false a 0xC2 q, ltb-true a 0xF5 r)
    by false p false q false r e = absurd (omega arith)

sum_0 : (a b c d e f : ℕ) → a + b + c + d + e + f ≡ 0 → (a ≡ 0) × (b ≡ 0) × (c ≡ 0) × (d ≡ 0) × (e ≡ 0) × (f ≡ 0)
sum_0 a b c d e f h = (omega arith, omega arith, omega arith, omega arith, omega arith, omega arith)

pub fit : (x y z b : ℕ) → unfits x y z b ≡ 0 → Fits x y z b
unfolding unfits
fit x y z b e =
    let s = sum_0 (apart x y z b) (under 0xE0 0xA0 z b) (over 0xED 0xA0 z b) (under 0xF0 0x90 z b) (over 0xF4 0x90 z b) (nowhere z) e in
    let n = nowhere_0 z s.5 in
    record {
      due = apart_0 x y z b s.0;
      e0 = under_0 0xE0 0xA0 z b s.1;
      ed = over_0 0xED 0xA0 z b s.2;
      f0 = under_0 0xF0 0x90 z b s.3;
      f4 = over_0 0xF4 0x90 z b s.4;
      c2 = n.0;
      f5 = n.1;
    }

-- ---- characters of three and four bytes

three : (a b c : ℕ) → 0xE0 ≤ a → a < 0xF0 → 0x80 ≤ b → b < 0xC0 → 0x80 ≤ c → c < 0xC0 → (a ≡ 0xE0 → 0xA0 ≤ b) → (a ≡ 0xED → b < 0xA0)
    → Character (a ∷ b ∷ c ∷ [])
three a b c h k l m n o p q =
    by_test (ltb a 0xE1)
    (λ t. let u = ltb-true a 0xE1 t in let e : a ≡ 0xE0 = omega arith in let w = p e in row_3 (omega arith, omega arith) (omega arith, omega arith) (omega arith, omega arith))
    (λ t. let u = ltb-false a 0xE1 t in
    by_test (ltb a 0xED)
    (λ r. let v = ltb-true a 0xED r in row_4 (omega arith, omega arith) (omega arith, omega arith) (omega arith, omega arith))
    (λ r. let v = ltb-false a 0xED r in
    by_test (ltb a 0xEE)
    (λ s. let x = ltb-true a 0xEE s in let e : a ≡ 0xED = omega arith in let w = q e in row_5 (omega arith, omega arith) (omega arith, omega arith) (omega arith, omega arith))
    (λ s. let x = ltb-false a 0xEE s in row_6 (omega arith, omega arith) (omega arith, omega arith) (omega arith, omega arith))))

four : (a b c d : ℕ) → 0xF0 ≤ a → a < 0xF5 → 0x80 ≤ b → b < 0xC0 → 0x80 ≤ c → c < 0xC0 → 0x80 ≤ d → d < 0xC0 → (a ≡ 0xF0 → 0x90 ≤ b)
    → (a ≡ 0xF4 → b < 0x90) → Character (a ∷ b ∷ c ∷ d ∷ [])
four a b c d h k l m n o i j p q =
    by_test (ltb a 0xF1)
    (λ t. let u = ltb-true a 0xF1 t in let e : a ≡ 0xF0 = omega arith in let w = p e in
    row_7 (omega arith, omega arith) (omega arith, omega arith) (omega arith, omega arith) (omega arith, omega arith))
    (λ t. let u = ltb-false a 0xF1 t in
    by_test (ltb a 0xF4)
    (λ r. let v = ltb-true a 0xF4 r in
    row_8 (omega arith, omega arith) (omega arith, omega arith) (omega arith, omega arith) (omega arith, omega arith))
    (λ r. let v = ltb-false a 0xF4 r in let e : a ≡ 0xF4 = omega arith in let w = q e in
    row_9 (omega arith, omega arith) (omega arith, omega arith) (omega arith, omega arith) (omega arith, omega arith)))

-- ---- bytes one after the other

-- n bytes of s fit, behind x, y and z
abbrev pub AllFit : ℕ → ℕ → ℕ → List ℕ → ℕ → Type 0
AllFit x y z s zero = Unit
AllFit x y z [] (suc n) = ⊥
AllFit x y z (b ∷ s) (suc n) = (unfits x y z b ≡ 0) × AllFit y z b s n

-- how many of the last three of them belong to a character that goes on
abbrev pub begun_behind : ℕ → ℕ → ℕ → List ℕ → ℕ → ℕ
begun_behind x y z s zero = begun x y z
begun_behind x y z [] (suc n) = 0
begun_behind x y z (b ∷ s) (suc n) = begun_behind y z b s n

-- n bytes, but for the last k, are characters
pub record Walked (s : List ℕ) (n k : ℕ) : Type 0 where
  pub whole : ℕ
  pub ends : whole + k ≡ n
  pub is : stretch_of s ≡ whole + stretch_of (drop whole s)

none_walked : (s : List ℕ) (n k : ℕ) → n ≡ k → Walked s n k
none_walked s n k e = record { whole = 0; ends = omega arith; is = omega arith }

-- a character before them
further : (m l : ℕ) (s : List ℕ) {n k : ℕ} → stretch_of s ≡ m + stretch_of (drop m s) → Walked (drop m s) n k → l ≡ m + n → Walked s l k
further m l s e w h =
    let a = w.ends in
    let b = w.is in
    let c : stretch_of (drop w.whole (drop m s)) ≡ stretch_of (drop (m + w.whole) s) = ap stretch_of (drop-drop w.whole m s) in
    record { whole = m + w.whole; ends = omega arith; is = omega arith }

-- what is said of n bytes behind three, of which no character goes on
abbrev Ahead : ℕ → Type 0
Ahead m =
    (x y z : ℕ) (s : List ℕ) (n : ℕ) → n ≤ m → x < 0xF0 → y < 0xE0 → z < 0xC0 → AllFit x y z s n → Walked s n (begun_behind x y z s n)

module _ (m : ℕ) (ahead : Ahead m) where
  -- behind the first three bytes of a character of four
  fourth : (a b c : ℕ) (s : List ℕ) (n : ℕ) → n ≤ m → 0xF0 ≤ a → a < 0xF5 → (a ≡ 0xF0 → 0x90 ≤ b) → (a ≡ 0xF4 → b < 0x90) → trails b ≡ 1 → trails c ≡ 1
      → AllFit a b c s n → Walked (a ∷ b ∷ c ∷ s) (suc (suc (suc n))) (begun_behind a b c s n)
  fourth a b c s zero o h k f g u v w = none_walked _ _ _ (rw (due_first a b c h, v, u))
  fourth a b c [] (suc n) o h k f g u v w = absurd w
  fourth a b c (d ∷ s) (suc n) o h k f g u v w =
      let p = trail_is b u in
      let q = trail_is c v in
      let r = trail_is d ((fit a b c d w.0).due ∙ due_first a b c h) in
      further 4 _ (a ∷ b ∷ c ∷ d ∷ s)
      (sequence_stretch a (b ∷ c ∷ d ∷ []) s (to_sequence (four a b c d h k p.0 p.1 q.0 q.1 r.0 r.1 f g)))
      (ahead b c d s n (omega arith) (omega arith) (omega arith) (omega arith) w.1) (omega arith)

  -- behind the first two bytes of a character of three or four
  third : (z a b : ℕ) (s : List ℕ) (n : ℕ) → n ≤ m → 0xE0 ≤ a → a < 0xF5 → (a ≡ 0xE0 → 0xA0 ≤ b) → (a ≡ 0xED → b < 0xA0) → (a ≡ 0xF0 → 0x90 ≤ b)
      → (a ≡ 0xF4 → b < 0x90) → trails b ≡ 1 → AllFit z a b s n → Walked (a ∷ b ∷ s) (suc (suc n)) (begun_behind z a b s n)
  third z a b s zero o h k f g i j u w = none_walked _ _ _ (rw (due_second z a b h, u, lead_trails a (omega arith)))
  third z a b [] (suc n) o h k f g i j u w = absurd w
  third z a b (c ∷ s) (suc n) o h k f g i j u w =
      let v : trails c ≡ 1 = (fit z a b c w.0).due ∙ due_second z a b h in
      by_test (ltb a 0xF0)
      (λ t.
      let l = ltb-true a 0xF0 t in
      let p = trail_is b u in
      let q = trail_is c v in
      further 3 _ (a ∷ b ∷ c ∷ s) (sequence_stretch a (b ∷ c ∷ []) s (to_sequence (three a b c h l p.0 p.1 q.0 q.1 f g)))
      (ahead a b c s n (omega arith) (omega arith) (omega arith) (omega arith) w.1) (omega arith))
      (λ t. fourth a b c s n (omega arith) (ltb-false a 0xF0 t) k i j u v w.1)

  -- behind the first byte of a character of two, three or four
  second : (y z a : ℕ) (s : List ℕ) (n : ℕ) → n ≤ m → z < 0xC0 → 0xC0 ≤ a → AllFit y z a s n → Walked (a ∷ s) (suc n) (begun_behind y z a s n)
  second y z a s zero o l h w = none_walked _ _ _ (rw (due_third y z a h, lead_trails a h))
  second y z a [] (suc n) o l h w = absurd w
  second y z a (b ∷ s) (suc n) o l h w =
      let t = fit y z a b w.0 in
      let u : trails b ≡ 1 = t.due ∙ due_third y z a h in
      let k : 0xC2 ≤ a = t.c2 h in
      by_test (ltb a 0xE0)
      (λ e.
      let i = ltb-true a 0xE0 e in
      let p = trail_is b u in
      let p0 = p.0 in
      let p1 = p.1 in
      further 2 _ (a ∷ b ∷ s) (sequence_stretch a (b ∷ []) s (to_sequence (row_2 (omega arith, omega arith) (omega arith, omega arith))))
      (ahead z a b s n (omega arith) (omega arith) (omega arith) (omega arith) w.1) (omega arith))
      (λ e. third z a b s n (omega arith) (ltb-false a 0xE0 e) t.f5 t.e0 t.ed t.f0 t.f4 u w.1)

pub walk : (m : ℕ) → Ahead m
walk zero x y z s zero o h k l w = none_walked _ _ _ (rw (none_due x y z h k l))
walk zero x y z s (suc n) o h k l w = absurd (not-suc-le-zero o)
walk (suc m) x y z s zero o h k l w = none_walked _ _ _ (rw (none_due x y z h k l))
walk (suc m) x y z [] (suc n) o h k l w = absurd w
walk (suc m) x y z (a ∷ s) (suc n) o h k l w =
    let e : trails a ≡ 0 = (fit x y z a w.0).due ∙ none_due x y z h k l in
    by_test (ltb a 0x80)
    (λ t.
    let i = ltb-true a 0x80 t in
    further 1 _ (a ∷ s) (sequence_stretch a [] s (to_sequence (row_1 (omega arith, omega arith))))
    (walk m y z a s n (le_of_suc-le-suc o) (omega arith) (omega arith) (omega arith) w.1) (omega arith))
    (λ t. second m (walk m) y z a s n (le_of_suc-le-suc o) l (trail_not a e (ltb-false a 0x80 t)) w.1)

-- ---- windows of a text

pub windows_none : (s : List ℕ) (i : ℕ) → windows_at s i 0 ≡ 0
unfolding windows_at
windows_none s i = refl

pub windows_next : (s : List ℕ) (i n : ℕ) → windows_at s i (n + 1) ≡ windows_at s i n + window_at s (i + n)
unfolding windows_at
windows_next s i n = rw (add-one n) refl

windows_add : (s : List ℕ) (i m n : ℕ) → windows_at s i (m + n) ≡ windows_at s i m + windows_at s (i + m) n
windows_add s i m zero = let e : m + 0 ≡ m = omega arith in let f = windows_none s (i + m) in rw (e, f) (omega arith)
windows_add s i m (suc n) =
    let e : m + suc n ≡ m + n + 1 = omega arith in
    let f : i + (m + n) ≡ i + m + n = omega arith in
    let g : suc n ≡ n + 1 = omega arith in
    rw (e, g, windows_next s i (m + n), windows_next s (i + m) n, windows_add s i m n, f) (omega arith)

-- the first of some windows, and the others
windows_first : (s : List ℕ) (i n : ℕ) → windows_at s i (suc n) ≡ 0 → (window_at s i ≡ 0) × (windows_at s (i + 1) n ≡ 0)
windows_first s i n e =
    let f : windows_at s i (1 + n) ≡ windows_at s i 1 + windows_at s (i + 1) n = windows_add s i 1 n in
    let a : suc n ≡ 1 + n = omega arith in
    let b : i + 0 ≡ i = omega arith in
    let g : windows_at s i (0 + 1) ≡ windows_at s i 0 + window_at s (i + 0) = windows_next s i 0 in
    let c : 0 + 1 ≡ 1 = refl in
    let h : windows_at s i 0 ≡ 0 = windows_none s i in
    let j : window_at s (i + 0) ≡ window_at s i = ap (window_at s) b in
    let k : windows_at s i (suc n) ≡ windows_at s i (1 + n) = ap (windows_at s i) a in
    (omega arith, omega arith)

-- windows that all fit, as bytes one after the other
all_fit : (n : ℕ) (s : List ℕ) (i : ℕ) → i + 3 + n ≤ length s → windows_at s i n ≡ 0
    → AllFit (get_or s i 0) (get_or s (i + 1) 0) (get_or s (i + 2) 0) (drop (i + 3) s) n
all_fit zero s i h e = tt
all_fit (suc n) s i h e =
    let w = windows_first s i n e in
    let a : i + 1 + 1 ≡ i + 2 = omega arith in
    let b : i + 1 + 2 ≡ i + 3 = omega arith in
    let c : i + 1 + 3 ≡ suc (i + 3) = omega arith in
    rw (drop-cons s (i + 3) 0 (omega arith)) (w.0, rw (a, b, c) at (all_fit n s (i + 1) (omega arith) w.1))

begun_behind_lem : (n : ℕ) (s : List ℕ) (i : ℕ) → i + 3 + n ≤ length s
    → begun_behind (get_or s i 0) (get_or s (i + 1) 0) (get_or s (i + 2) 0) (drop (i + 3) s) n
    ≡ begun (get_or s (i + n) 0) (get_or s (i + n + 1) 0) (get_or s (i + n + 2) 0)
begun_behind_lem zero s i h = let e : i + 0 ≡ i = omega arith in rw e
begun_behind_lem (suc n) s i h =
    let a : i + 1 + 1 ≡ i + 2 = omega arith in
    let b : i + 1 + 2 ≡ i + 3 = omega arith in
    let c : i + 1 + 3 ≡ suc (i + 3) = omega arith in
    let d : i + 1 + n ≡ i + suc n = omega arith in
    rw (drop-cons s (i + 3) 0 (omega arith)) (rw (a, b, c, d) at (begun_behind_lem n s (i + 1) (omega arith)))

-- what fits up to the three bytes from i on is passed, but for the character that goes on behind them
pub windows_passed : (s : List ℕ) (from n j : ℕ) → from + n + 3 ≤ length s
    → unfits 0 0 0 (get_or s from 0) + unfits 0 0 (get_or s from 0) (get_or s (from + 1) 0) + unfits 0 (get_or s from 0) (get_or s (from + 1) 0) (get_or s (from + 2) 0) ≡ 0
    → windows_at s from n ≡ 0
    → j + begun (get_or s (from + n) 0) (get_or s (from + n + 1) 0) (get_or s (from + n + 2) 0) ≡ from + n + 3 → PassedTo s from j
windows_passed s from n j h e f g =
    let a : drop from s ≡ get_or s from 0 ∷ drop (from + 1) s = rw (drop-cons s from 0 (omega arith), add-one from) in
    let b : drop (from + 1) s ≡ get_or s (from + 1) 0 ∷ drop (from + 2) s = rw (drop-cons s (from + 1) 0 (omega arith), two) in
    let c : drop (from + 2) s ≡ get_or s (from + 2) 0 ∷ drop (from + 3) s = rw (drop-cons s (from + 2) 0 (omega arith), three_more) in
    let t : drop from s ≡ get_or s from 0 ∷ get_or s (from + 1) 0 ∷ get_or s (from + 2) 0 ∷ drop (from + 3) s = rw (a, b, c) in
    front (get_or s from 0) (get_or s (from + 1) 0) (get_or s (from + 2) 0) (drop (from + 3) s) t e (all_fit n s from (omega arith) f) (begun_behind_lem n s from (omega arith))
  where
    two : suc (from + 1) ≡ from + 2
    two = omega arith

    three_more : suc (from + 2) ≡ from + 3
    three_more = omega arith

    front : (x y z : ℕ) (u : List ℕ) → drop from s ≡ x ∷ y ∷ z ∷ u → unfits 0 0 0 x + unfits 0 0 x y + unfits 0 x y z ≡ 0 → AllFit x y z u n
        → begun_behind x y z u n ≡ begun (get_or s (from + n) 0) (get_or s (from + n + 1) 0) (get_or s (from + n + 2) 0) → PassedTo s from j
    front x y z u t e w b =
        let v = walk (suc (suc (suc n))) 0 0 0 (x ∷ y ∷ z ∷ u) (suc (suc (suc n))) (omega arith) (omega arith) (omega arith) (omega arith)
        (omega arith, (omega arith, (omega arith, w))) in
        let i = v.whole in
        let p = v.ends in
        let q : stretch_of (drop from s) ≡ i + stretch_of (drop i (drop from s)) = rw t v.is in
        let r : drop i (drop from s) ≡ drop (from + i) s = drop-drop i from s in
        let k : from + i ≡ j = omega arith in
        let l : stretch_of (drop i (drop from s)) ≡ stretch_of (drop j s) = ap stretch_of (r ∙ ap (λ (m : ℕ). drop m s) k) in
        record { from = omega arith; within = omega arith; is = omega arith }

-- a block more, and one that ends behind it
pub windows_more : (s : List ℕ) (from i m : ℕ) → from ≤ i → windows_at s from (i - from) ≡ 0 → windows_at s i m ≡ 0 → windows_at s from (i + m - from) ≡ 0
windows_more s from i m h e f =
    let a : i + m - from ≡ i - from + m = omega arith in
    let b : from + (i - from) ≡ i = omega arith in
    rw (a, windows_add s from (i - from) m, b) (omega arith)

pub windows_last : (s : List ℕ) (from i l m : ℕ) → from ≤ i → l ≤ i → i ≤ l + m → windows_at s from (i - from) ≡ 0 → windows_at s l m ≡ 0
    → windows_at s from (l + m - from) ≡ 0
windows_last s from i l m h k n e f =
    let a : m ≡ i - l + (l + m - i) = omega arith in
    let b : l + (i - l) ≡ i = omega arith in
    let g : windows_at s l (i - l) + windows_at s i (l + m - i) ≡ 0 = rw (a, windows_add s l (i - l) (l + m - i), b) at f in
    let c : i + (l + m - i) ≡ l + m = omega arith in
    rw c at (windows_more s from i (l + m - i) h e (omega arith))

-- the same with the place of the three bytes
pub windows_passed_at : (s : List ℕ) (from i j : ℕ) → from ≤ i → i + 3 ≤ length s
    → unfits 0 0 0 (get_or s from 0) + unfits 0 0 (get_or s from 0) (get_or s (from + 1) 0) + unfits 0 (get_or s from 0) (get_or s (from + 1) 0) (get_or s (from + 2) 0) ≡ 0
    → windows_at s from (i - from) ≡ 0 → j + begun (get_or s i 0) (get_or s (i + 1) 0) (get_or s (i + 2) 0) ≡ i + 3 → PassedTo s from j
windows_passed_at s from i j h k e f g =
    let n : from + (i - from) ≡ i = omega arith in
    windows_passed s from (i - from) j (omega arith) e f (rw n g)
