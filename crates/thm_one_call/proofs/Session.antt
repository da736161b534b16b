-- Opening, already open and report as they are defined have what specs/Session.antt says of them.
use Prim.Native.Nat.{ℕ, zero, suc, ◌≤◌, ◌<◌, max}
use native.Mathlib.Omega.{arith}
use mathlib.Core.Bool.{true, false}
use mathlib.Core.List.{List, [], ◌∷◌}
use mathlib.Core.Logic.{⊎_elim}
use mathlib.Core.Path.{◌≡◌, refl, sym, ap, ◌∙◌}
use lib.Dec.{ltb}
use lib.ListN.{get_or}
use borrow.Author.Tests.{lt-ltb, le-ltb, ltb-true, eq-eqb, ne_eqb}
use Rattle.wire.proofs.Laws.{by_test}
use Rattle.lsn.specs.declared.Lsn.{Lsn}
use Rattle.lsn.specs.Position.{is_below}
use Rattle.moment.specs.declared.Moment.{Moment}
use Rattle.progress.specs.declared.ProgressCell.{ProgressCell}
use Rattle.progress.specs.declared.files.Files.{Files}
use Rattle.progress.specs.declared.files.Progress.{Progress}
use Rattle.progress.specs.Progress.{cell, cell_position, cell_signal, cell_pending, cell_timing, stored_by, raise_of}
use Rattle.progress.specs.Files.{smallest, raised_in, as_cell, beside, filed_of}
use Rattle.progress.specs.FileCalls.{reports_of}
use Rattle.progress.proofs.FileLaws.{all_at, raised_at, refused_at, accepted_at, filed_is, filed_cell}
use Rattle.progress.proofs.FileCalls.{four_reports}
use Rattle.worker.specs.declared.Run.{Run}
use Rattle.worker.specs.declared.Settings.{Settings}
use Rattle.worker.specs.Session.{bad_interval, open_of, already_open_of, report_of}
use Rattle.worker.specs.Run.{fresh_run, cell_in, with_progress}
use Rattle.thm_one_call.specs.Session.{day, TooLong, OpenBegins, AlreadyOpenBegins, OpenTooLong, OpenWrites, AlreadyOpenTooLong, AlreadyOpenAccepted, ReportRaises, reports_on, FormerReport, Session}

too_long : (s : Settings) → TooLong s → bad_interval s ≡ true
too_long s h =
    ⊎_elim (λ a. rw (lt-ltb 86400000000000 s.status_interval a))
    (λ a. by_test (ltb 86400000000000 s.status_interval) (λ t. rw t) (λ t. rw (t, lt-ltb 86400000000000 s.idle_wakeup_interval a)))
    h

in_range_lem : (s : Settings) → s.status_interval ≤ day → s.idle_wakeup_interval ≤ day → bad_interval s ≡ false
in_range_lem s h k = rw (le-ltb 86400000000000 s.status_interval h, le-ltb 86400000000000 s.idle_wakeup_interval k)

open_begins : OpenBegins
unfolding open_of fresh_run
open_begins s slot publications position start out =
    by_test (bad_interval s)
    (λ t.
    record {
      settings = rw t;
      in_state = rw t;
      confirms = rw t (all_at start);
      all_files = rw t;
      not_signalled = rw t;
      none_pending = rw t;
      timing = rw t;
      none_sent = rw t;
      none_forwarded = rw t;
      none_confirmed = rw t;
      none_read = rw t;
      not_refused = rw t;
    })
    (λ t.
    record {
      settings = rw t;
      in_state = rw t;
      confirms = rw t (all_at start);
      all_files = rw t;
      not_signalled = rw t;
      none_pending = rw t;
      timing = rw t;
      none_sent = rw t;
      none_forwarded = rw t;
      none_confirmed = rw t;
      none_read = rw t;
      not_refused = rw t;
    })

already_open_begins : AlreadyOpenBegins
unfolding already_open_of fresh_run
already_open_begins s start =
    record {
      settings = refl;
      in_state = refl;
      confirms = all_at start;
      all_files = refl;
      not_signalled = refl;
      none_pending = refl;
      timing = refl;
      none_sent = refl;
      none_forwarded = refl;
      none_confirmed = refl;
      none_read = refl;
      not_refused = refl;
    }

open_too_long : OpenTooLong
unfolding open_of
open_too_long s slot publications position start out h = (rw (too_long s h), rw (too_long s h))

open_writes : OpenWrites
unfolding open_of
open_writes s slot publications position start out h k = rw (in_range_lem s h k)

already_open_too_long : AlreadyOpenTooLong
unfolding already_open_of
already_open_too_long s start h = rw (too_long s h)

already_open_accepted : AlreadyOpenAccepted
unfolding already_open_of
already_open_accepted s start h k = rw (in_range_lem s h k)

-- ---- a report

-- a file by its number, of four by their numbers
abbrev of : ℕ → Files → ℕ
of n f = get_or (f.zero.0 ∷ f.one.0 ∷ f.two.0 ∷ f.three.0 ∷ []) n 0

-- at most 3 is one of four
by_file : (X : ℕ → Type 0) → X 0 → X 1 → X 2 → X 3 → (n : ℕ) → n ≤ 3 → X n
by_file X a b c d zero k = a
by_file X a b c d (suc zero) k = b
by_file X a b c d (suc (suc zero)) k = c
by_file X a b c d (suc (suc (suc zero))) k = d
by_file X a b c d (suc (suc (suc (suc n)))) k = absurd (omega (arith, k))

-- the file is raised
raised_here : (x : Lsn) (f : Files) (n : ℕ) → n ≤ 3 → of n (raised_in n x f) ≡ max (of n f) x.0
unfolding raised_in
raised_here x f = by_file (λ (n : ℕ). of n (raised_in n x f) ≡ max (of n f) x.0) refl refl refl refl

-- no other file is raised
raised_else : (n : ℕ) (x : Lsn) (f : Files) (k : ℕ) → k ≤ 3 → (k ≡ n → ⊥) → of k (raised_in n x f) ≡ of k f
raised_else n x f =
    let e = raised_at n x f.zero.0 f.one.0 f.two.0 f.three.0 in
    by_file (λ (k : ℕ). (k ≡ n → ⊥) → of k (raised_in n x f) ≡ of k f)
    (λ h. ap (of 0) e ∙ rw (ne_eqb n 0 (λ i. h (sym i))))
    (λ h. ap (of 1) e ∙ rw (ne_eqb n 1 (λ i. h (sym i))))
    (λ h. ap (of 2) e ∙ rw (ne_eqb n 2 (λ i. h (sym i))))
    (λ h. ap (of 3) e ∙ rw (ne_eqb n 3 (λ i. h (sym i))))

-- a cell after a raise: where its position rose, and where it did not
rose : (c d : ProgressCell) (s : Lsn) (m : Moment) → d ≡ (raise_of c s m).cell → (cell_position c).0 < (cell_position d).0
    → (cell_signal d ≡ true) × (cell_timing c ≡ true → (cell_pending c).0 ≡ 0 → cell_pending d ≡ m)
unfolding raise_of
rose c d s m e h =
    by_test (is_below (cell_position c) s)
    (λ t.
    let k : d ≡ cell s true (stored_by c m) c.timed = e ∙ rw t in
    (ap cell_signal k, λ a b. ap cell_pending k ∙ simp (a, eq-eqb (cell_pending c).0 0 b)))
    (λ t.
    let k : d ≡ c = e ∙ rw t in
    let n : (cell_position d).0 ≡ (cell_position c).0 = ap (λ (y : ProgressCell). (cell_position y).0) k in
    absurd (omega (arith, n, h)))

stayed : (c d : ProgressCell) (s : Lsn) (m : Moment) → d ≡ (raise_of c s m).cell → (cell_position d).0 ≤ (cell_position c).0 → d ≡ c
unfolding raise_of
stayed c d s m e h =
    by_test (is_below (cell_position c) s)
    (λ t.
    let k : d ≡ cell s true (stored_by c m) c.timed = e ∙ rw t in
    let n : (cell_position d).0 ≡ s.0 = ap (λ (y : ProgressCell). (cell_position y).0) k in
    let a = ltb-true (cell_position c).0 s.0 t in
    absurd (omega (arith, n, h, a)))
    (λ t. e ∙ rw t)

report_raises : ReportRaises
unfolding report_of smallest
report_raises r n x m =
    let p : Progress = r.progress in
    let f : Files = raised_in n x p.files in
    let q : Progress = (filed_of p n x m).1 in
    let e : q ≡ beside f (raise_of (as_cell p) (smallest f) m).cell = filed_is p n x m in
    let c : as_cell q ≡ (raise_of (as_cell p) (smallest f) m).cell = filed_cell p n x m in
    record {
      refused = λ k. ap (λ (a : ℕ × Progress). (a.0, with_progress a.1 r)) (refused_at p n x m k);
      accepted = λ k. accepted_at p n x m k;
      larger = λ k. ap (λ (y : Progress). of n y.files) e ∙ raised_here x p.files n k;
      others = λ j k h. ap (λ (y : Progress). of j y.files) e ∙ raised_else n x p.files j k h;
      smallest = refl;
      signals = λ h. (rose (as_cell p) (as_cell q) (smallest f) m c h).0;
      stores = λ h. (rose (as_cell p) (as_cell q) (smallest f) m c h).1;
      stays = λ h. stayed (as_cell p) (as_cell q) (smallest f) m c h;
      else_same = refl;
    }

-- ---- one report for all four files

reports_on_lem : (ns : List ℕ) (x : Lsn) (m : Moment) (r : Run) → reports_on ns x m r ≡ with_progress (reports_of ns x m r.progress) r
unfolding reports_on reports_of report_of
reports_on_lem [] x m r = refl
reports_on_lem (n ∷ ns) x m r = ap (λ (y : Run). (report_of y n x m).1) (reports_on_lem ns x m r)

former_report : FormerReport
former_report ns all x m r =
    let e : reports_on ns x m r ≡ with_progress (reports_of ns x m r.progress) r = reports_on_lem ns x m r in (
      ap cell_in e ∙ (four_reports ns all x m r.progress).0,
      e ∙ ap (λ (p : Progress). with_progress p r) (sym (ap (λ (y : Run). y.progress) e)),
    )

pub session : Session
session =
    record {
      open_begins = open_begins;
      already_open_begins = already_open_begins;
      open_too_long = open_too_long;
      open_writes = open_writes;
      already_open_too_long = already_open_too_long;
      already_open_accepted = already_open_accepted;
      report_raises = report_raises;
      former_report = former_report;
    }
