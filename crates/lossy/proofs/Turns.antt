-- A part that was found at a place, and what comes after it: the lossy text, its marks, the stretch of well-formed parts.
use mathlib.Core.Path.{◌≡◌, refl, ap, ◌∙◌}
use mathlib.Core.Bool.{Bool, true, false}
use mathlib.Core.List.{List, ◌∷◌, ◌++◌}
use Prim.Native.Nat.{ℕ, suc, ◌+◌, ◌≤◌, ◌<◌}
use native.Mathlib.Omega.{arith}
use lib.Dec.{eqb}
use lib.ListN.{length, take, drop, get_or, length-drop, drop_of_length-le}
use lib.Seq.{drop-cons, drop-drop, length-take-le}
use borrow.Author.Tests.{eqb-true, eqb-false}
use Rattle.wire.specs.Bytes.{pick}
use Rattle.utf8.specs.WellFormed.{table, row_of}
use Rattle.lossy.specs.Lossy.{Part, well, ill, part_by, bytes_of, shown, lossy_of}
use Rattle.lossy.specs.Marks.{marks_in, marks_of}
use Rattle.lossy.specs.Stretch.{stretch_of}
use Rattle.lossy.specs.Blocks.{PassedTo}
use Rattle.lossy.specs.Code.{part_found, PartAt, StretchAt, WalkedTo}
use Rattle.lossy.specs.declared.part.Part.{Part as Cut}
use Rattle.lossy.specs.declared.Stretch.{Stretch}
use Rattle.wire.proofs.Laws.{by_test}
use Rattle.lossy.proofs.Laws.{bytes_either, lossy_next, marks_next, stretch_part, stretch_next, stretch_none}

-- a part that was found to be ill-formed
pub ill_part : (s : List ℕ) (i : ℕ) (p : Cut) → PartAt s i p → p.well ≡ false → PartAt s i (record { len = p.len; well = false })
ill_part s i p a e =
    let x : List ℕ = take p.len (drop i s) in
    record { is = a.is ∙ ap (λ (t : Bool). pick t (well x) (ill x)) e; some = a.some; ends = a.ends }

module _ (s : List ℕ) (i : ℕ) (p : Cut) (h : i < length s) (a : PartAt s i p) where
  rest : p.len ≤ length (drop i s)
  rest = let e : i + p.len ≤ length s = a.ends in simp length-drop (omega arith)

  found_length : length (bytes_of (part_found p (drop i s))) ≡ p.len
  found_length = ap length (bytes_either p.well (take p.len (drop i s))) ∙ length-take-le p.len (drop i s) rest

  pub lossy_turn : lossy_of (drop i s) ≡ shown (part_found p (drop i s)) ++ lossy_of (drop (i + p.len) s)
  lossy_turn = next (drop i s) (get_or s i 0) (drop (suc i) s) (drop-cons s i 0 h) ∙ rw (a.is, found_length, drop-drop)
    where
      next : (t : List ℕ) (b : ℕ) (u : List ℕ) → t ≡ b ∷ u → let q : Part = part_by (row_of table b) t in
          lossy_of t ≡ shown q ++ lossy_of (drop (length (bytes_of q)) t)
      next t b u e = rw e (lossy_next b u)

  pub marks_turn : marks_of (drop i s) ≡ marks_in (part_found p (drop i s)) + marks_of (drop (i + p.len) s)
  marks_turn = next (drop i s) (get_or s i 0) (drop (suc i) s) (drop-cons s i 0 h) ∙ rw (a.is, found_length, drop-drop)
    where
      next : (t : List ℕ) (b : ℕ) (u : List ℕ) → t ≡ b ∷ u → let q : Part = part_by (row_of table b) t in
          marks_of t ≡ marks_in q + marks_of (drop (length (bytes_of q)) t)
      next t b u e = rw e (marks_next b u)

  stretch_turn : stretch_of (drop i s) ≡ stretch_part (part_found p (drop i s)) (stretch_of (drop (i + p.len) s))
  stretch_turn = next (drop i s) (get_or s i 0) (drop (suc i) s) (drop-cons s i 0 h) ∙ rw (a.is, found_length, drop-drop)
    where
      next : (t : List ℕ) (b : ℕ) (u : List ℕ) → t ≡ b ∷ u → let q : Part = part_by (row_of table b) t in
          stretch_of t ≡ stretch_part q (stretch_of (drop (length (bytes_of q)) t))
      next t b u e = rw e (stretch_next b u)

  pub stretch_goes_on : p.well ≡ true → stretch_of (drop i s) ≡ p.len + stretch_of (drop (i + p.len) s)
  stretch_goes_on w = stretch_turn ∙ rw (w, length-take-le p.len (drop i s) rest)

  pub stretch_ends : p.well ≡ false → stretch_of (drop i s) ≡ 0
  stretch_ends w = stretch_turn ∙ rw w

-- places that were passed one after the other
pub passed_on : {s : List ℕ} {i j k : ℕ} → PassedTo s i j → PassedTo s j k → PassedTo s i k
passed_on {s} {i} {j} {k} p q =
    let a : i ≤ j = p.from in
    let b : j ≤ k = q.from in
    record { from = omega arith; within = q.within; is = p.is ∙ q.is }

-- a well-formed part after what was passed is passed
pub passed_part : (s : List ℕ) (from i : ℕ) (p : Cut) → PassedTo s from i → i < length s → PartAt s i p → p.well ≡ true
    → (i + p.len ≤ length s) × PassedTo s from (i + p.len)
passed_part s from i p q h a w =
    let e = stretch_goes_on s i p h a w in
    let f : from ≤ i = q.from in
    let g = q.is in
    (a.ends, record { from = omega arith; within = a.ends; is = omega arith })

-- a walk that an ill-formed part ends has found the stretch
pub walked_ends : (s : List ℕ) (i stop : ℕ) (t : Stretch) → WalkedTo s i stop t → 1 ≤ t.ill → StretchAt s i t
walked_ends s i stop t w o =
    let p = w.behind o in
    let g : t.end + t.ill ≤ length s = p.ends in
    let z : stretch_of (drop t.end s) ≡ 0 = stretch_ends s t.end (record { len = t.ill; well = false }) (omega arith) p refl in
    let e : i + stretch_of (drop i s) ≡ t.end + stretch_of (drop t.end s) = w.passed.is in
    record { is = omega arith; last = λ n. absurd (omega arith); behind = w.behind }

-- and so has one that came to the end of the text
pub walked_stretch : (s : List ℕ) (i : ℕ) (t : Stretch) → WalkedTo s i (length s) t → StretchAt s i t
walked_stretch s i t w =
    by_test (eqb t.ill 0)
    (λ e.
    let n : t.ill ≡ 0 = eqb-true _ _ e in
    let h : length s ≤ t.end = w.far n in
    let g : t.end ≤ length s = w.passed.within in
    let z : stretch_of (drop t.end s) ≡ 0 = rw (drop_of_length-le s h) stretch_none in
    let q : i + stretch_of (drop i s) ≡ t.end + stretch_of (drop t.end s) = w.passed.is in
    record { is = omega arith; last = λ m. omega arith; behind = w.behind })
    (λ e.
    let f : t.ill ≡ 0 → ⊥ = eqb-false _ _ e in
    walked_ends s i (length s) t w (omega (arith, f)))
