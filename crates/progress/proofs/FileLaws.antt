-- Laws of four files: the smaller and the larger of two positions, and the progress after a report.
use Prim.Native.Nat.{ℕ, min, max, ◌<◌, ◌≤◌}
use native.Mathlib.Omega.{arith}
use mathlib.Core.Bool.{true, false}
use mathlib.Core.Path.{◌≡◌, sym, ap, ◌∙◌}
use lib.Dec.{eqb}
use borrow.Author.Tests.{ltb-true, ltb-false, lt-ltb, le-ltb, eqb-true, ne_eqb}
use Rattle.wire.specs.Bytes.{pick}
use Rattle.wire.proofs.Laws.{by_test}
use Rattle.lsn.specs.declared.Lsn.{Lsn}
use Rattle.lsn.specs.Position.{is_below}
use Rattle.moment.specs.declared.Moment.{Moment}
use Rattle.progress.specs.declared.ProgressCell.{ProgressCell}
use Rattle.progress.specs.declared.files.Files.{Files}
use Rattle.progress.specs.declared.files.Progress.{Progress}
use Rattle.progress.specs.Progress.{cell, cell_position, cell_signal, cell_pending, cell_timing, raise_of}
use Rattle.progress.specs.Files.{no_file, files, smallest, raised_in, as_cell, beside, filed_of}

-- a position by its number
abbrev pub position : ℕ → Lsn
position n = record { 0 = n }

-- four files at one position
pub all_at : (x : Lsn) → smallest (files x x x x) ≡ x
unfolding smallest
all_at x = let e : min (min x.0 x.0) (min x.0 x.0) ≡ x.0 = omega arith in ap position e

-- four positions by their numbers
abbrev pub files_at : ℕ → ℕ → ℕ → ℕ → Files
files_at a b c d = files (position a) (position b) (position c) (position d)

-- one report more of what the files have reached
pub raised_at : (n : ℕ) (x : Lsn) (a b c d : ℕ)
    → raised_in n x (files_at a b c d)
    ≡ files_at (pick (eqb n 0) (max a x.0) a) (pick (eqb n 1) (max b x.0) b) (pick (eqb n 2) (max c x.0) c) (pick (eqb n 3) (max d x.0) d)
unfolding raised_in
raised_at n x a b c d =
    by_test (eqb n 0) (λ t. rw (eqb-true n 0 t))
    (λ p. by_test (eqb n 1) (λ t. rw (eqb-true n 1 t))
    (λ q. by_test (eqb n 2) (λ t. rw (eqb-true n 2 t))
    (λ r. by_test (eqb n 3) (λ t. rw (eqb-true n 3 t)) (λ t. rw (p, q, r, t)))))

-- ---- a report

pub refused_at : (p : Progress) (n : ℕ) (x : Lsn) (m : Moment) → 3 < n → filed_of p n x m ≡ (31, p)
unfolding filed_of
refused_at p n x m k = rw (lt-ltb 3 n k)

pub accepted_at : (p : Progress) (n : ℕ) (x : Lsn) (m : Moment) → n ≤ 3 → (filed_of p n x m).0 ≡ 0
unfolding filed_of
accepted_at p n x m k = rw (le-ltb 3 n k)

-- of a number above 3 there is no file
pub no_file_lem : (n : ℕ) (x : Lsn) (f : Files) → no_file n ≡ true → raised_in n x f ≡ f
unfolding raised_in
no_file_lem n x f t =
    let k = ltb-true 3 n t in
    simp (
      ne_eqb n 0 (λ e. absurd (omega (arith, e, k))),
      ne_eqb n 1 (λ e. absurd (omega (arith, e, k))),
      ne_eqb n 2 (λ e. absurd (omega (arith, e, k))),
      ne_eqb n 3 (λ e. absurd (omega (arith, e, k))),
    )

-- a file never falls, so the smallest does not
pub never_falls : (n : ℕ) (x : Lsn) (f : Files) → (smallest f).0 ≤ (smallest (raised_in n x f)).0
unfolding smallest raised_in
never_falls n x f =
    by_test (eqb n 0) (λ a. rw a (omega arith))
    (λ a. by_test (eqb n 1) (λ b. rw (a, b) (omega arith))
    (λ b. by_test (eqb n 2) (λ c. rw (a, b, c) (omega arith))
    (λ c. by_test (eqb n 3) (λ d. rw (a, b, c, d) (omega arith)) (λ d. rw (a, b, c, d) (omega arith)))))

-- a cell that is raised to its own position stays
pub not_raised : (c : ProgressCell) (m : Moment) → (raise_of c (cell_position c) m).cell ≡ c
unfolding raise_of
not_raised c m = let e : is_below (cell_position c) (cell_position c) ≡ false = le-ltb (cell_position c).0 (cell_position c).0 (omega arith) in rw e

-- a cell that is raised to no lower position has that position
pub raised_to : (c : ProgressCell) (s : Lsn) (m : Moment) → (cell_position c).0 ≤ s.0
    → cell s (cell_signal (raise_of c s m).cell) (cell_pending (raise_of c s m).cell) (cell_timing (raise_of c s m).cell) ≡ (raise_of c s m).cell
unfolding raise_of
raised_to c s m h =
    by_test (is_below (cell_position c) s) (λ t. rw t)
    (λ t.
    let k = ltb-false (cell_position c).0 s.0 t in
    let n : s.0 ≡ (cell_position c).0 = omega (arith, h, k) in
    let e : s ≡ cell_position c = ap position n in
    rw t (ap (λ (y : Lsn). cell y c.signalled c.pending_since c.timed) e))

-- the progress after a report, refused or not
pub filed_is : (p : Progress) (n : ℕ) (x : Lsn) (m : Moment)
    → (filed_of p n x m).1 ≡ beside (raised_in n x p.files) (raise_of (as_cell p) (smallest (raised_in n x p.files)) m).cell
unfolding filed_of
filed_is p n x m =
    by_test (no_file n)
    (λ t.
    let e : raised_in n x p.files ≡ p.files = no_file_lem n x p.files t in
    let same : p ≡ beside p.files (raise_of (as_cell p) (smallest p.files) m).cell = ap (beside p.files) (sym (not_raised (as_cell p) m)) in
    rw t (same ∙ ap (λ (f : Files). beside f (raise_of (as_cell p) (smallest f) m).cell) (sym e)))
    (λ t. rw t)

-- the cell of filed progress is raised to the smallest of the four
pub filed_cell : (p : Progress) (n : ℕ) (x : Lsn) (m : Moment)
    → as_cell (filed_of p n x m).1 ≡ (raise_of (as_cell p) (smallest (raised_in n x p.files)) m).cell
filed_cell p n x m =
    ap as_cell (filed_is p n x m) ∙ raised_to (as_cell p) (smallest (raised_in n x p.files)) m (never_falls n x p.files)
