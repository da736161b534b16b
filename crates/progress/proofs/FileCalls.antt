-- A run's progress after any list of calls, call by call; and reports of one position for every file.
use Prim.Native.Nat.{ℕ, zero, suc, min, max, ◌≤◌}
use native.Mathlib.Omega.{arith}
use mathlib.Core.Bool.{Bool, true, false}
use mathlib.Core.List.{List, [], ◌∷◌}
use mathlib.Core.Path.{◌≡◌, refl, sym, ap, ◌∙◌}
use lib.Dec.{ltb, eqb}
use borrow.Author.Tests.{ltb-true, ltb-false, lt-ltb, le-ltb, eqb-true, eqb-false}
use Rattle.wire.specs.Bytes.{pick}
use Rattle.wire.proofs.Laws.{by_test}
use Rattle.lsn.specs.declared.Lsn.{Lsn}
use Rattle.lsn.specs.Position.{is_below}
use Rattle.moment.specs.declared.Moment.{Moment}
use Rattle.progress.specs.declared.ProgressCell.{ProgressCell}
use Rattle.progress.specs.declared.files.Files.{Files}
use Rattle.progress.specs.declared.files.Progress.{Progress}
use Rattle.progress.specs.Progress.{cell, no_moment, is_none, cell_position, stored_by, raise_of, looked_of, reported_of}
use Rattle.progress.specs.Calls.{Call, raise, cell_after}
use Rattle.progress.specs.Files.{files, larger, smallest, raised_in, as_cell, beside, filed_of}
use Rattle.progress.specs.FileCalls.{FileCall, report, take_signal, take_pending, progress_after, reached, confirmable, lifts, told_to, FilesAsCalled, reports_of, names, FourReports}
use Rattle.progress.proofs.FileLaws.{position, files_at, raised_at, refused_at, accepted_at, all_at, never_falls, not_raised, raised_to, filed_is, filed_cell}

-- ---- any list of calls

filed_files : (p : Progress) (n : ℕ) (x : Lsn) (m : Moment) → (filed_of p n x m).1.files ≡ raised_in n x p.files
filed_files p n x m = ap (λ (q : Progress). q.files) (filed_is p n x m)

-- each file has reached the largest of the start and its reports
files_are : (start : Lsn) (t : Bool) (h : List FileCall)
    → (progress_after start t h).files ≡ files_at (reached 0 start h) (reached 1 start h) (reached 2 start h) (reached 3 start h)
unfolding progress_after reached
files_are start t [] = refl
files_are start t (report n x m ∷ h) =
    filed_files (progress_after start t h) n x m ∙ ap (raised_in n x) (files_are start t h)
    ∙ raised_at n x (reached 0 start h) (reached 1 start h) (reached 2 start h) (reached 3 start h)
files_are start t (take_signal ∷ h) = files_are start t h
files_are start t (take_pending x m ∷ h) = files_are start t h

-- a look and a status change nothing of the four
looked_cell : (p : Progress) → as_cell (beside p.files (looked_of (as_cell p)).cell) ≡ (looked_of (as_cell p)).cell
unfolding looked_of
looked_cell p = refl

taken_cell : (p : Progress) (x : Lsn) (m : Moment) → as_cell (beside p.files (reported_of (as_cell p) x m).cell) ≡ (reported_of (as_cell p) x m).cell
unfolding reported_of
taken_cell p x m = refl

-- a number that is at most 3 is one of four
none_else : (n : ℕ) → n ≤ 3 → eqb n 0 ≡ false → eqb n 1 ≡ false → eqb n 2 ≡ false → eqb n 3 ≡ false → ⊥
none_else n k a b c d = four_left n k (eqb-false n 0 a) (eqb-false n 1 b) (eqb-false n 2 c) (eqb-false n 3 d)
  where
    four_left : (n : ℕ) → n ≤ 3 → (n ≡ 0 → ⊥) → (n ≡ 1 → ⊥) → (n ≡ 2 → ⊥) → (n ≡ 3 → ⊥) → ⊥
    four_left zero k a b c d = a refl
    four_left (suc zero) k a b c d = b refl
    four_left (suc (suc zero)) k a b c d = c refl
    four_left (suc (suc (suc zero))) k a b c d = d refl
    four_left (suc (suc (suc (suc n)))) k a b c d = absurd (omega (arith, k))

-- the smallest of the four, as a position
smallest_is : (start : Lsn) (t : Bool) (h : List FileCall) → smallest (progress_after start t h).files ≡ position (confirmable start h)
unfolding smallest
smallest_is start t h = ap smallest (files_are start t h)

-- a raise to a position that does not rise leaves the cell
lifted : (c : ProgressCell) (a b : ℕ) (m : Moment) → cell_position c ≡ position a
    → (raise_of c (position b) m).cell ≡ pick (ltb a b) (raise_of c (position b) m).cell c
unfolding raise_of
lifted c a b m e =
    by_test (ltb a b) (λ t. rw t)
    (λ t. let k : is_below (cell_position c) (position b) ≡ false = ap (λ (y : Lsn). is_below y (position b)) e ∙ t in rw (t, k))

-- a raise that rises is one call more that the cell is told
told_one : (start : Lsn) (t b : Bool) (s : Lsn) (m : Moment) (h : List Call)
    → pick b (raise_of (cell_after start t h) s m).cell (cell_after start t h) ≡ cell_after start t (pick b (raise s m ∷ h) h)
unfolding cell_after
told_one start t true s m h = refl
told_one start t false s m h = refl

-- the cell that is told the smallest each time it rises
told : (start : Lsn) (t : Bool) (h : List FileCall) → as_cell (progress_after start t h) ≡ cell_after start t (told_to start h)
unfolding progress_after told_to cell_after
told start t [] = ap (λ (y : Lsn). cell y false no_moment t) (all_at start)
told start t (report n x m ∷ h) =
    let p : Progress = progress_after start t h in
    let c : ProgressCell = cell_after start t (told_to start h) in
    let s : ℕ = confirmable start (report n x m ∷ h) in
    let now : smallest (raised_in n x p.files) ≡ position s
    = ap smallest (sym (filed_files p n x m)) ∙ smallest_is start t (report n x m ∷ h) in
    let at : cell_position c ≡ position (confirmable start h) = ap cell_position (sym (told start t h)) ∙ smallest_is start t h in
    filed_cell p n x m
    ∙ ap (λ (y : Lsn). (raise_of (as_cell p) y m).cell) now
    ∙ ap (λ (k : ProgressCell). (raise_of k (position s) m).cell) (told start t h)
    ∙ lifted c (confirmable start h) s m at
    ∙ told_one start t (lifts n x m start h) (position s) m (told_to start h)
told start t (take_signal ∷ h) = looked_cell (progress_after start t h) ∙ ap (λ (c : ProgressCell). (looked_of c).cell) (told start t h)
told start t (take_pending x m ∷ h) =
    taken_cell (progress_after start t h) x m ∙ ap (λ (c : ProgressCell). (reported_of c x m).cell) (told start t h)

-- ---- the theorem

behind : (a b c d : ℕ) (P : ℕ → ℕ) → P 0 ≡ a → P 1 ≡ b → P 2 ≡ c → P 3 ≡ d → (file : ℕ) → file ≤ 3 → min (min a b) (min c d) ≤ P file
behind a b c d P pa pb pc pd file h =
    by_test (eqb file 0) (λ t. rw (eqb-true file 0 t, pa) (omega arith))
    (λ p. by_test (eqb file 1) (λ t. rw (eqb-true file 1 t, pb) (omega arith))
    (λ q. by_test (eqb file 2) (λ t. rw (eqb-true file 2 t, pc) (omega arith))
    (λ r. by_test (eqb file 3) (λ t. rw (eqb-true file 3 t, pd) (omega arith)) (λ t. absurd (none_else file h p q r t)))))

pub files_as_called : FilesAsCalled
files_as_called start t h =
    let f = files_are start t h in
    let s : smallest (progress_after start t h).files ≡ position (confirmable start h) = smallest_is start t h in
    let at : (smallest (progress_after start t h).files).0 ≡ confirmable start h = ap (λ (y : Lsn). y.0) s in
    record {
      zero = ap (λ (x : Files). x.zero.0) f;
      one = ap (λ (x : Files). x.one.0) f;
      two = ap (λ (x : Files). x.two.0) f;
      three = ap (λ (x : Files). x.three.0) f;
      position = at;
      cell = told start t h;
      no_file_behind = λ file k. rw at (behind _ _ _ _ (λ (n : ℕ). reached n start h) refl refl refl refl file k);
      refused = λ file x m k. refused_at (progress_after start t h) file x m k;
      accepted = λ file x m k. accepted_at (progress_after start t h) file x m k;
    }

-- ---- one position for all four files

-- the four after reports of one position
unfoldable raised_all : List ℕ → Lsn → Files → Files
raised_all [] x f = f
raised_all (n ∷ ns) x f = raised_in n x (raised_all ns x f)

-- a moment stored twice is the same moment
stored_twice : (c : ProgressCell) (s : Lsn) (m : Moment) → stored_by (cell s true (stored_by c m) c.timed) m ≡ stored_by c m
stored_twice c s m = by c.timed (is_none c.pending_since) (is_none m) refl refl refl
  where
    by : (a b d : Bool) → c.timed ≡ a → is_none c.pending_since ≡ b → is_none m ≡ d
        → stored_by (cell s true (stored_by c m) c.timed) m ≡ stored_by c m
    by true true true ea eb ed = simp (ea, eb, ed)
    by true true false ea eb ed = simp (ea, eb, ed)
    by true false d ea eb ed = simp (ea, eb)
    by false b d ea eb ed = simp ea

-- two raises of one moment, the second to no lower position, are the second
raised_twice : (c : ProgressCell) (s z : Lsn) (m : Moment) → (cell_position c).0 ≤ s.0 → s.0 ≤ z.0
    → (raise_of (raise_of c s m).cell z m).cell ≡ (raise_of c z m).cell
unfolding raise_of
raised_twice c s z m h k =
    by_test (is_below (cell_position c) s)
    (λ t.
    let a = ltb-true (cell_position c).0 s.0 t in
    let d : is_below (cell_position c) z ≡ true = lt-ltb (cell_position c).0 z.0 (omega (arith, a, k)) in
    by_test (is_below s z)
    (λ u. rw (t, u, d) (ap (λ (p : Moment). cell z true p c.timed) (stored_twice c s m)))
    (λ u.
    let b = ltb-false s.0 z.0 u in
    let n : s.0 ≡ z.0 = omega (arith, b, k) in
    rw (t, u, d) (ap (λ (y : ℕ). cell (position y) true (stored_by c m) c.timed) n)))
    (λ t. rw t)

-- the progress after reports of one position and moment
reports_are : (ns : List ℕ) (x : Lsn) (m : Moment) (p : Progress)
    → ((smallest p.files).0 ≤ (smallest (raised_all ns x p.files)).0)
    × (reports_of ns x m p ≡ beside (raised_all ns x p.files) (raise_of (as_cell p) (smallest (raised_all ns x p.files)) m).cell)
unfolding reports_of raised_all
reports_are [] x m p = (omega arith, ap (beside p.files) (sym (not_raised (as_cell p) m)))
reports_are (n ∷ ns) x m p =
    let f : Files = raised_all ns x p.files in
    let g : Files = raised_in n x f in
    let k = reports_are ns x m p in
    let q : Progress = beside f (raise_of (as_cell p) (smallest f) m).cell in
    let e : as_cell q ≡ (raise_of (as_cell p) (smallest f) m).cell = raised_to (as_cell p) (smallest f) m k.0 in
    let up : (smallest f).0 ≤ (smallest g).0 = never_falls n x f in
    let all : (smallest p.files).0 ≤ (smallest g).0 = omega (arith, k.0, up) in (
      all,
      ap (λ (y : Progress). (filed_of y n x m).1) k.1
          ∙ filed_is q n x m
          ∙ ap (λ (c : ProgressCell). beside g (raise_of c (smallest g) m).cell) e
          ∙ ap (beside g) (raised_twice (as_cell p) (smallest f) (smallest g) m k.0 up),
    )

-- a file that is raised twice to one position
again : (b : Bool) (z x : Lsn) → larger (pick b (larger z x) z) x ≡ larger z x
again true z x = let e : max (max z.0 x.0) x.0 ≡ max z.0 x.0 = omega arith in ap position e
again false z x = refl

-- four files, of which some are raised
abbrev raised_by : Bool → Bool → Bool → Bool → Lsn → Files → Files
raised_by a b c d x f =
    files (pick a (larger f.zero x) f.zero) (pick b (larger f.one x) f.one) (pick c (larger f.two x) f.two)
    (pick d (larger f.three x) f.three)

named_next : (n : ℕ) (x : Lsn) (a b c d : Bool) (f : Files)
    → raised_in n x (raised_by a b c d x f)
    ≡ raised_by (pick (eqb n 0) true a) (pick (eqb n 1) true b) (pick (eqb n 2) true c) (pick (eqb n 3) true d) x f
unfolding raised_in
named_next n x a b c d f =
    let g : Files = raised_by a b c d x f in
    by_test (eqb n 0) (λ t. rw (eqb-true n 0 t) (ap (λ (y : Lsn). files y g.one g.two g.three) (again a f.zero x)))
    (λ p. by_test (eqb n 1) (λ t. rw (eqb-true n 1 t) (ap (λ (y : Lsn). files g.zero y g.two g.three) (again b f.one x)))
    (λ q. by_test (eqb n 2) (λ t. rw (eqb-true n 2 t) (ap (λ (y : Lsn). files g.zero g.one y g.three) (again c f.two x)))
    (λ r. by_test (eqb n 3) (λ t. rw (eqb-true n 3 t) (ap (λ (y : Lsn). files g.zero g.one g.two y) (again d f.three x)))
    (λ t. rw (p, q, r, t)))))

-- each file that is named is raised
raised_one : (ns : List ℕ) (x : Lsn) (f : Files) → raised_all ns x f ≡ raised_by (names 0 ns) (names 1 ns) (names 2 ns) (names 3 ns) x f
unfolding raised_all names
raised_one [] x f = refl
raised_one (n ∷ ns) x f =
    ap (raised_in n x) (raised_one ns x f) ∙ named_next n x (names 0 ns) (names 1 ns) (names 2 ns) (names 3 ns) f

-- the smaller of two that are raised is the smaller raised
pair : (a b y : ℕ) → min (max a y) (max b y) ≡ max (min a b) y
pair a b y = omega arith

-- where all four are raised, so is the smallest
all_raised : (x : Lsn) (f : Files) → smallest (raised_by true true true true x f) ≡ position (max (smallest f).0 x.0)
unfolding smallest
all_raised x f =
    let a : ℕ = f.zero.0 in
    let b : ℕ = f.one.0 in
    let c : ℕ = f.two.0 in
    let d : ℕ = f.three.0 in
    let y : ℕ = x.0 in
    ap (λ (u : ℕ). position (min u (min (max c y) (max d y)))) (pair a b y)
    ∙ ap (λ (v : ℕ). position (min (max (min a b) y) v)) (pair c d y)
    ∙ ap position (pair (min a b) (min c d) y)

-- a raise to the larger of the cell's position and another is a raise to the other
topped : (c : ProgressCell) (x : Lsn) (m : Moment) → (raise_of c (position (max (cell_position c).0 x.0)) m).cell ≡ (raise_of c x m).cell
unfolding raise_of
topped c x m =
    let a : ℕ = (cell_position c).0 in
    let b : ℕ = x.0 in
    by_test (ltb a b)
    (λ t.
    let k = ltb-true a b t in
    let e : max a b ≡ b = omega arith in
    ap (λ (y : ℕ). (raise_of c (position y) m).cell) e)
    (λ t.
    let k = ltb-false a b t in
    let e : max a b ≡ a = omega arith in
    let u : ltb a a ≡ false = le-ltb a a (omega arith) in
    ap (λ (y : ℕ). (raise_of c (position y) m).cell) e ∙ rw (t, u))

pub four_reports : FourReports
four_reports ns all x m p =
    let f : Files = p.files in
    let g : Files = raised_all ns x f in
    let k = reports_are ns x m p in
    let e : g ≡ raised_by true true true true x f = raised_one ns x f ∙ rw (all.zero, all.one, all.two, all.three) in (
      ap as_cell k.1
          ∙ raised_to (as_cell p) (smallest g) m k.0
          ∙ ap (λ (y : Lsn). (raise_of (as_cell p) y m).cell) (ap smallest e ∙ all_raised x f)
          ∙ topped (as_cell p) x m,
      ap (λ (y : Progress). y.files) k.1 ∙ e,
    )
