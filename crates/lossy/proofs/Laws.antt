-- Laws of lossy text: it is what its first part becomes and then the lossy text after that part, however far the parts are counted. So with its
-- marks. What is measured, and what a writer answers with marks.
use mathlib.Core.Path.{◌≡◌, refl, sym, ap, ◌∙◌}
use mathlib.Core.Bool.{Bool, true, false}
use mathlib.Core.List.{List, [], ◌∷◌, ◌++◌}
use mathlib.Core.Option.{Option, some, none}
use Prim.Native.Nat.{ℕ, zero, suc, ◌+◌, ◌≤◌, ◌<◌, max}
use native.Mathlib.Nat.{not-suc-le-zero}
use native.Mathlib.Omega.{arith}
use lib.ListN.{length, take, drop, length-take, length-drop, drop_of_length-le}
use lib.Dec.{leb, eqb, eqb-zero-suc}
use borrow.Author.Tests.{le-leb, lt-leb, leb-true, leb-false}
use Rattle.wire.specs.Bytes.{pick}
use Rattle.wire.proofs.Laws.{impossible}
use Rattle.utf8.specs.WellFormed.{Range, table, row_of, matched}
use Rattle.lossy.specs.Lossy.{Part, well, ill, part_by, bytes_of, parts_of, shown, shown_all, lossy_of}
use Rattle.lossy.specs.Marks.{marks_in, marks_all, marks_of, measured, measure_of, with_marks}
use Rattle.lossy.specs.Stretch.{stretch_all, stretch_of}
use Rattle.std.specs.Prelude.{Option as Answer, Some, None}
use Rattle.lossy.specs.declared.Lossy.{Lossy}

-- ---- the part at the front has a byte

pub bytes_either : (t : Bool) (x : List ℕ) → bytes_of (pick t (well x) (ill x)) ≡ x
bytes_either true x = refl
bytes_either false x = refl

-- such a part is so many bytes of the front
pub part_size : (row : List Range) (s : List ℕ) → (n : ℕ) × (1 ≤ n) × (bytes_of (part_by row s) ≡ take n s)
part_size [] s = (1, omega arith, refl)
part_size (r ∷ row) s = go (matched (r ∷ row) s)
  where
    go : (m : ℕ) → (n : ℕ) × (1 ≤ n) × (bytes_of (pick (eqb m (suc (length row))) (well (take m s)) (ill (take (max 1 m) s))) ≡ take n s)
    go zero = (1, omega arith, simp eqb-zero-suc)
    go (suc m) = let e : max 1 (suc m) ≡ suc m = omega arith in (suc m, omega arith, rw e (bytes_either (eqb (suc m) (suc (length row))) (take (suc m) s)))

pub part_some : (row : List Range) (b : ℕ) (s : List ℕ) → 1 ≤ length (bytes_of (part_by row (b ∷ s)))
part_some row b s =
    let p = part_size row (b ∷ s) in
    let h : 1 ≤ p.0 = p.1 in
    rw p.2 (simp length-take (omega arith))

-- ---- lossy text, a part at a time

pub fewer : (b : ℕ) (s : List ℕ) (k n : ℕ) → 1 ≤ k → suc (length s) ≤ suc n → length (drop k (b ∷ s)) ≤ n
fewer b s k n h f = simp length-drop (omega arith)

fuel : (m n : ℕ) (s : List ℕ) → length s ≤ m → length s ≤ n → parts_of m s ≡ parts_of n s
unfolding parts_of
fuel zero zero s h k = refl
fuel zero (suc n) [] h k = refl
fuel zero (suc n) (b ∷ s) h k = absurd (not-suc-le-zero h)
fuel (suc m) zero [] h k = refl
fuel (suc m) zero (b ∷ s) h k = absurd (not-suc-le-zero k)
fuel (suc m) (suc n) [] h k = refl
fuel (suc m) (suc n) (b ∷ s) h k =
    let p : Part = part_by (row_of table b) (b ∷ s) in
    let z : 1 ≤ length (bytes_of p) = part_some (row_of table b) b s in
    ap (λ (ps : List Part). p ∷ ps) (fuel m n (drop (length (bytes_of p)) (b ∷ s)) (fewer b s _ m z h) (fewer b s _ n z k))

pub parts_next : (b : ℕ) (s : List ℕ) → let p : Part = part_by (row_of table b) (b ∷ s) in let t : List ℕ = drop (length (bytes_of p)) (b ∷ s) in
    parts_of (length (b ∷ s)) (b ∷ s) ≡ p ∷ parts_of (length t) t
unfolding parts_of
parts_next b s =
    let p : Part = part_by (row_of table b) (b ∷ s) in
    let z : 1 ≤ length (bytes_of p) = part_some (row_of table b) b s in
    let t : List ℕ = drop (length (bytes_of p)) (b ∷ s) in
    ap (λ (ps : List Part). p ∷ ps) (fuel (length s) (length t) t (fewer b s _ (length s) z (omega arith)) (omega arith))

pub lossy_none : lossy_of [] ≡ []
unfolding lossy_of parts_of shown_all
lossy_none = refl

pub lossy_next : (b : ℕ) (s : List ℕ) → let p : Part = part_by (row_of table b) (b ∷ s) in
    lossy_of (b ∷ s) ≡ shown p ++ lossy_of (drop (length (bytes_of p)) (b ∷ s))
unfolding lossy_of shown_all
lossy_next b s = ap shown_all (parts_next b s)

pub lossy_end : (s : List ℕ) (i : ℕ) → length s ≤ i → lossy_of (drop i s) ≡ []
lossy_end s i h = rw (drop_of_length-le s h) lossy_none

-- ---- marks, a part at a time

pub marks_none : marks_of [] ≡ 0
unfolding marks_of parts_of marks_all
marks_none = refl

pub marks_next : (b : ℕ) (s : List ℕ) → let p : Part = part_by (row_of table b) (b ∷ s) in
    marks_of (b ∷ s) ≡ marks_in p + marks_of (drop (length (bytes_of p)) (b ∷ s))
unfolding marks_of marks_all
marks_next b s = ap marks_all (parts_next b s)

pub marks_end : (s : List ℕ) (i : ℕ) → length s ≤ i → marks_of (drop i s) ≡ 0
marks_end s i h = rw (drop_of_length-le s h) marks_none

-- ---- the stretch before the first ill-formed part

pub stretch_none : stretch_of [] ≡ 0
unfolding stretch_of parts_of stretch_all
stretch_none = refl

-- a stretch that begins with a part, by the stretch after it
abbrev pub stretch_part : Part → ℕ → ℕ
stretch_part (well x) n = length x + n
stretch_part (ill x) n = 0

stretch_parts : (p : Part) (ps : List Part) → stretch_all (p ∷ ps) ≡ stretch_part p (stretch_all ps)
unfolding stretch_all
stretch_parts (well x) ps = refl
stretch_parts (ill x) ps = refl

pub stretch_next : (b : ℕ) (s : List ℕ) → let p : Part = part_by (row_of table b) (b ∷ s) in
    stretch_of (b ∷ s) ≡ stretch_part p (stretch_of (drop (length (bytes_of p)) (b ∷ s)))
unfolding stretch_of
stretch_next b s =
    let p : Part = part_by (row_of table b) (b ∷ s) in
    let t : List ℕ = drop (length (bytes_of p)) (b ∷ s) in
    ap stretch_all (parts_next b s) ∙ stretch_parts p (parts_of (length t) t)

-- ---- a length within a room, and marks

pub measured_within : (room n marks k m : ℕ) → k ≡ n → m ≡ marks → k ≤ room → some (k, m) ≡ measured room n marks
unfolding measured
measured_within room n marks k m e f h = rw (← e, f) (simp (le-leb _ _ h))

pub measured_past : (room n marks : ℕ) → room < n → none ≡ measured room n marks
unfolding measured
measured_past room n marks h = simp (lt-leb _ _ h)

abbrev held : Option (ℕ × ℕ) → ℕ × ℕ
held (some p) = p
held none = (0, 0)

-- what an answer says of the length and the marks
pub measured_fits : (room n marks : ℕ) {r : Answer Lossy} {l : Lossy} → measure_of r ≡ measured room n marks → r ≡ Some l → (n ≡ l.bytes) × (l.bytes ≤ room) × (marks ≡ l.marks)
unfolding measured
measured_fits room n marks {r} {l} p q = by (leb n room) refl (sym p ∙ ap measure_of q)
  where
    by : (t : Bool) → leb n room ≡ t → pick {A = Option (ℕ × ℕ)} t (some (n, marks)) none ≡ some (l.bytes, l.marks) → (n ≡ l.bytes) × (l.bytes ≤ room) × (marks ≡ l.marks)
    by true q p =
        let e : n ≡ l.bytes = ap (λ (o : Option (ℕ × ℕ)). (held o).0) p in
        let f : marks ≡ l.marks = ap (λ (o : Option (ℕ × ℕ)). (held o).1) p in
        let h : n ≤ room = leb-true n room q in
        (e, omega arith, f)
    by false q p = impossible cc

pub measured_over : (room n marks : ℕ) {r : Answer Lossy} → measure_of r ≡ measured room n marks → r ≡ None → room < n
unfolding measured
measured_over room n marks {r} p q = by (leb n room) refl (sym p ∙ ap measure_of q)
  where
    by : (t : Bool) → leb n room ≡ t → pick {A = Option (ℕ × ℕ)} t (some (n, marks)) none ≡ none → room < n
    by true q p = impossible cc
    by false q p = leb-false n room q

-- ---- a writer's answer with marks

pub marked : (r n m marks : ℕ) {w : (ℕ × ℕ) × List ℕ} {q : List ℕ} → ((r, n), q) ≡ w → m ≡ pick (eqb r 0) marks 0 → ((r, n, m), q) ≡ with_marks marks w
unfolding with_marks
marked r n m marks e f = rw (← e, f)
