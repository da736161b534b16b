-- What a run remembers is what its trace says, until it ends; its counters are the trace's also then. At first, after a report, after a refused
-- step, after a status, and by what else a step changes. StateCases takes these laws for each case of the step, Preserved for any list of calls.
use mathlib.Core.Path.{◌≡◌, refl, ap, ◌∙◌}
use mathlib.Core.Bool.{Bool, true, false}
use mathlib.Core.List.{List, [], ◌∷◌}
use Prim.Native.Nat.{ℕ, ◌+◌, ◌<◌}
use native.Mathlib.Omega.{arith}
use borrow.Author.Tests.{le-ltb}
use lib.ListN.{length}
use Rattle.wire.specs.Bytes.{pick}
use Rattle.wire.proofs.Laws.{impossible}
use Rattle.lsn.specs.declared.Lsn.{Lsn}
use Rattle.lsn.specs.Position.{is_below}
use Rattle.metrics.specs.declared.Metrics.{Metrics}
use Rattle.metrics.specs.Metrics.{more, metrics, with_status, with_reply, with_end}
use Rattle.moment.specs.declared.Moment.{Moment}
use Rattle.moment.specs.Moment.{since_of}
use Rattle.progress.specs.declared.ProgressCell.{ProgressCell}
use Rattle.progress.specs.declared.files.Files.{Files}
use Rattle.progress.specs.declared.files.Progress.{Progress}
use Rattle.progress.specs.Progress.{no_moment, is_none, cell_position, cell_signal, cell_pending, cell_timing, raise_of, reported_of}
use Rattle.progress.specs.Files.{smallest, raised_in, as_cell, beside, filed_of}
use Rattle.progress.proofs.FileLaws.{files_at, raised_at, filed_is}
use Rattle.worker.specs.declared.Clock.{Clock}
use Rattle.worker.specs.declared.Input.{Input}
use Rattle.worker.specs.declared.LastStatus.{LastStatus}
use Rattle.worker.specs.declared.Run.{Run}
use Rattle.worker.specs.declared.Settings.{Settings}
use Rattle.worker.specs.declared.State.{State}
use Rattle.worker.specs.declared.State.TheVariants.{Opening, Turn, Drain, Reading, Waiting, Handling, Offering, Ended}
use Rattle.worker.specs.Tests.{both}
use Rattle.worker.specs.Run.{clock, last_status, fresh_run, accepted, micros}
use Rattle.worker.specs.Step.{confirmed, is_ended, is_stopped_at, takes_pending}
use Rattle.worker.specs.Session.{report_of}
use Rattle.thm_any_calls.specs.Happened.{Happened}
use Rattle.thm_any_calls.specs.Plain.{is_refused_early}
use Rattle.thm_any_calls.specs.Trace.{Setup, Trace, a_step, a_report, nothing, is_status, is_reply, reached_by, confirmed_of, last_accepted, has_sent, sent_at, sent_position, pending_since, wait_began, pending_of, signalled_of, drained_of, read_in_wait, full_before, gone_of}
use Rattle.thm_any_calls.specs.Table.{respond}
use Rattle.thm_any_calls.specs.Counters.{begins_stall, ends_stall, stall_began, last_end}

-- ---- counters of 64 bits, as a run counts them

-- events, by those that a step hands on
abbrev pub counted : List Happened → ℕ → ℕ
counted [] n = n
counted (e ∷ es) n = more n (length es + 1)

unfoldable pub events : Trace → ℕ
events [] = 0
events (a_step i from y ∷ h) = counted y.event (events h)
events (a_report file p m ∷ h) = events h

unfoldable pub statuses : Trace → ℕ
statuses [] = 0
statuses (a_step i from y ∷ h) = pick (is_status y.writing) (more (statuses h) 1) (statuses h)
statuses (a_report file p m ∷ h) = statuses h

unfoldable pub replies : Trace → ℕ
replies [] = 0
replies (a_step i from y ∷ h) = pick (is_reply y.writing) (more (replies h) 1) (replies h)
replies (a_report file p m ∷ h) = replies h

unfoldable pub stalls : Trace → ℕ
stalls [] = 0
stalls (a_step i from y ∷ h) = pick (begins_stall h i from y) (more (stalls h) 1) (stalls h)
stalls (a_report file p m ∷ h) = stalls h

unfoldable pub stall_micros_lem : Trace → ℕ
stall_micros_lem [] = 0
stall_micros_lem (a_step i from y ∷ h) =
    pick (ends_stall h i from y) (more (stall_micros_lem h) (micros (since_of i.moment (stall_began h)))) (stall_micros_lem h)
stall_micros_lem (a_report file p m ∷ h) = stall_micros_lem h

-- ---- facts

-- of the reports: where each file is, the position to confirm, whether a report has raised it since the wait began, the pending moment, whether
-- timing is on
pub record Reports : Type 0 where
  pub files : Files
  pub applied : Lsn
  pub signalled : Bool
  pub since : Moment
  pub timed : Bool

abbrev reports : Files → Lsn → Bool → Moment → Bool → Reports
reports files applied signalled since timed =
    record { files = files; applied = applied; signalled = signalled; since = since; timed = timed }

-- the reports of a run's progress
abbrev told_by_lem : Progress → Reports
told_by_lem p = reports p.files (cell_position (as_cell p)) (cell_signal (as_cell p)) (cell_pending (as_cell p)) (cell_timing (as_cell p))

-- of the offered event: whether its stall has begun, and how many events of its message are gone
pub record Tries : Type 0 where
  pub stalled : Bool
  pub gone : ℕ

abbrev pub tries : Bool → ℕ → Tries
tries stalled gone = record { stalled = stalled; gone = gone }

pub record Facts : Type 0 where
  pub settings : Settings
  pub clock : Clock
  pub reports : Reports
  pub status : LastStatus
  pub drained : ℕ
  pub pending : Bool
  pub tries : Tries
  pub in_wait : Bool
  pub metrics : Metrics

abbrev facts : Settings → Clock → Reports → LastStatus → ℕ → Bool → Tries → Bool → Metrics → Facts
facts settings clock reports status drained pending tries in_wait metrics =
    record {
      settings = settings;
      clock = clock;
      reports = reports;
      status = status;
      drained = drained;
      pending = pending;
      tries = tries;
      in_wait = in_wait;
      metrics = metrics;
    }

-- StoppedAt is the second event of its message
abbrev pub gone_by : Bool → ℕ
gone_by stopped = pick stopped 1 0

-- as a run remembers them
abbrev pub facts_by : Run → Facts
facts_by r =
    facts r.settings r.clock (told_by_lem r.progress)
    r.status r.drained r.pending (tries r.offer.stalled (gone_by (is_stopped_at r.offer.event))) r.whole.in_wait r.metrics

-- where each file is, as the trace says
abbrev files_by : Lsn → Trace → Files
files_by start h = files_at (reached_by 0 start h) (reached_by 1 start h) (reached_by 2 start h) (reached_by 3 start h)

-- as the trace says; unfolding it unfolds each question that is asked of the trace
unfoldable pub facts_of : Setup → Trace → Facts
unfolding last_accepted wait_began stall_began sent_at reached_by confirmed_of sent_position pending_since signalled_of has_sent drained_of pending_of read_in_wait full_before gone_of last_end events statuses replies stalls stall_micros_lem
facts_of s h =
    facts s.settings (clock (last_accepted h) (wait_began h) (stall_began h))
    (reports (files_by s.start h) (confirmed_of s.start h) (signalled_of s.start h) (pending_since s h) s.settings.timing)
    (last_status (has_sent h) (sent_position s.start h) (sent_at h)) (drained_of h) (pending_of s.start h) (tries (full_before h) (gone_of h))
    (read_in_wait h)
    (metrics (events h) (statuses h) (replies h) (stalls h) (stall_micros_lem h) (sent_position s.start h) (last_end s h))

pub fresh_facts : (s : Setup) (state : State) → facts_by (fresh_run s.settings state s.start) ≡ facts_of s []
unfolding fresh_run facts_of smallest
fresh_facts s state = refl

-- ---- a report

-- a file rises; where the smallest does, there is a signal and perhaps a pending moment
abbrev raised_to : Files → Lsn → Moment → Reports → Reports
raised_to f p m c =
    reports f p (pick (is_below c.applied p) true c.signalled)
    (pick (both c.timed (both (is_below c.applied p) (is_none c.since))) m c.since) c.timed

abbrev raised_by : ℕ → Lsn → Moment → Reports → Reports
raised_by file p m c = raised_to (raised_in file p c.files) (smallest (raised_in file p c.files)) m c

abbrev raised : ℕ → Lsn → Moment → Facts → Facts
raised file p m f =
    facts f.settings f.clock (raised_by file p m f.reports) f.status f.drained f.pending f.tries f.in_wait f.metrics

-- a cell that is raised, beside files
raise_cell : (f : Files) (c : ProgressCell) (p : Lsn) (m : Moment)
    → reports f p (cell_signal (raise_of c p m).cell) (cell_pending (raise_of c p m).cell) (cell_timing (raise_of c p m).cell)
    ≡ raised_to f p m (reports f (cell_position c) (cell_signal c) (cell_pending c) (cell_timing c))
unfolding raise_of
raise_cell f c p m = by (is_below (cell_position c) p) (cell_timing c) (is_none (cell_pending c)) refl refl refl
  where
    by : (a b d : Bool) → is_below (cell_position c) p ≡ a → cell_timing c ≡ b → is_none (cell_pending c) ≡ d
        → reports f p (cell_signal (raise_of c p m).cell) (cell_pending (raise_of c p m).cell) (cell_timing (raise_of c p m).cell)
        ≡ raised_to f p m (reports f (cell_position c) (cell_signal c) (cell_pending c) (cell_timing c))
    by true true true ea eb ed = simp (ea, eb, ed)
    by true true false ea eb ed = simp (ea, eb, ed)
    by true false d ea eb ed = simp (ea, eb)
    by false true d ea eb ed = simp (ea, eb)
    by false false d ea eb ed = simp (ea, eb)

-- what a report does to a run's progress
filed_told : (p : Progress) (file : ℕ) (x : Lsn) (m : Moment) → told_by_lem (filed_of p file x m).1 ≡ raised_by file x m (told_by_lem p)
filed_told p file x m =
    let f : Files = raised_in file x p.files in ap told_by_lem (filed_is p file x m) ∙ raise_cell f (as_cell p) (smallest f) m

-- a report changes the facts of a trace as it changes those of a run
raised_trace : (s : Setup) (h : Trace) (file : ℕ) (x : Lsn) (m : Moment) → raised file x m (facts_of s h) ≡ facts_of s (a_report file x m ∷ h)
unfolding facts_of smallest
raised_trace s h file x m =
    let g : Facts = facts_of s h in
    ap (λ (f : Files).
    facts g.settings g.clock (raised_to f (smallest f) m g.reports) g.status g.drained g.pending g.tries g.in_wait
    g.metrics)
    (raised_at file x (reached_by 0 s.start h) (reached_by 1 s.start h) (reached_by 2 s.start h) (reached_by 3 s.start h))

report_facts : (s : Setup) (h : Trace) (r : Run) (file : ℕ) (p : Lsn) (m : Moment) → facts_by r ≡ facts_of s h
    → facts_by (report_of r file p m).1 ≡ facts_of s (a_report file p m ∷ h)
unfolding report_of
report_facts s h r file p m e =
    let f : Facts = facts_by r in
    ap (λ (c : Reports). facts f.settings f.clock c f.status f.drained f.pending f.tries f.in_wait f.metrics)
    (filed_told r.progress file p m)
    ∙ ap (raised file p m) e
    ∙ raised_trace s h file p m

-- ---- a step refused with 2 to 5

pub early_facts : (s : Setup) (h : Trace) (i : Input) (state : State) (n : ℕ) → is_refused_early n ≡ true
    → facts_of s (a_step i state (respond n nothing state []) ∷ h) ≡ facts_of s h
unfolding facts_of
early_facts s h i Opening n e = simp e
early_facts s h i Turn n e = simp e
early_facts s h i Drain n e = simp e
early_facts s h i Reading n e = simp e
early_facts s h i Waiting n e = simp e
early_facts s h i Handling n e = simp e
early_facts s h i Offering n e = simp e
early_facts s h i Ended n e = simp e

-- ---- a status

-- whether it takes the pending moment
abbrev pub takes : Facts → Bool
takes f = both f.reports.timed (pick f.status.sent (is_below f.status.position f.reports.applied) true)

-- the position and the signal stay
abbrev pub reported_by : Bool → Reports → Reports
reported_by b c = reports c.files c.applied c.signalled (pick b no_moment c.since) c.timed

pub status_cell : (b : Bool) (p : Progress) (m : Moment)
    → told_by_lem (beside p.files (pick b (reported_of (as_cell p) (cell_position (as_cell p)) m).cell (as_cell p))) ≡ reported_by b (told_by_lem p)
unfolding reported_of
status_cell true p m =
    let x : Lsn = smallest p.files in
    let e : is_below x x ≡ false = le-ltb x.0 x.0 (omega arith) in
    ap (λ (b : Bool). reports p.files x p.signalled (pick b m no_moment) p.timed) e
status_cell false p m = refl

-- a status was sent now
abbrev pub with_status_lem : Moment → Facts → Facts
with_status_lem m f =
    facts f.settings (clock m f.clock.wait_began f.clock.stall_began) (reported_by (takes f) f.reports)
    (last_status true f.reports.applied m)
    f.drained f.pending f.tries f.in_wait (with_status f.metrics f.reports.applied)

pub confirmed_facts : (r : Run) (m : Moment) → facts_by (confirmed (accepted m r)) ≡ with_status_lem m (facts_by r)
confirmed_facts r m =
    let f : Facts = with_status_lem m (facts_by r) in
    ap (λ (c : Reports). facts f.settings f.clock c f.status f.drained f.pending f.tries f.in_wait f.metrics)
    (status_cell (takes_pending (accepted m r)) r.progress m)

-- ---- what else a step changes

-- a step was accepted
abbrev pub at_moment : Moment → Facts → Facts
at_moment m f =
    facts f.settings (clock m f.clock.wait_began f.clock.stall_began) f.reports f.status f.drained f.pending f.tries
    f.in_wait
    f.metrics

-- so many are drained
abbrev pub with_drained_lem : ℕ → Facts → Facts
with_drained_lem d f = facts f.settings f.clock f.reports f.status d f.pending f.tries f.in_wait f.metrics

-- the wait begins
abbrev pub with_wait : Moment → Facts → Facts
with_wait m f =
    facts f.settings (clock m m f.clock.stall_began) (reports f.reports.files f.reports.applied false f.reports.since f.reports.timed)
    f.status f.drained
    (pick f.status.sent (is_below f.status.position f.reports.applied) true) f.tries f.in_wait f.metrics

-- a message was read, in a wait or not
abbrev pub with_read : Bool → Facts → Facts
with_read b f = facts f.settings f.clock f.reports f.status f.drained f.pending f.tries b f.metrics

-- an event is offered
abbrev pub with_tries : Bool → ℕ → Facts → Facts
with_tries stalled gone f =
    facts f.settings f.clock f.reports f.status f.drained f.pending (tries stalled gone) f.in_wait f.metrics

-- the message at hand told the server's end
abbrev pub with_end_lem : Lsn → Facts → Facts
with_end_lem v f = facts f.settings f.clock f.reports f.status f.drained f.pending f.tries f.in_wait (with_end f.metrics v)

-- a status answers a keepalive
abbrev pub with_reply_lem : Facts → Facts
with_reply_lem f = facts f.settings f.clock f.reports f.status f.drained f.pending f.tries f.in_wait (with_reply f.metrics)

-- the events es were handed on; d: a stall ended
abbrev pub passing : Bool → List Happened → Moment → Facts → Facts
passing d es m f =
    let c : Metrics = f.metrics in
    facts f.settings (clock m f.clock.wait_began f.clock.stall_began) f.reports f.status f.drained f.pending f.tries
    f.in_wait
    (metrics (counted es c.events_forwarded) c.feedback_sent c.keepalive_replies c.stall_count
    (pick d (more c.stall_micros_total (micros (since_of m f.clock.stall_began))) c.stall_micros_total) c.last_applied_lsn
    c.last_wal_end)

-- the queue was full; g: a stall began
abbrev pub stalling : Bool → Moment → Facts → Facts
stalling g m f =
    let c : Metrics = f.metrics in
    facts f.settings (clock m f.clock.wait_began (pick g m f.clock.stall_began)) f.reports f.status f.drained f.pending
    (tries true f.tries.gone) f.in_wait
    (metrics c.events_forwarded c.feedback_sent c.keepalive_replies (pick g (more c.stall_count 1) c.stall_count)
    c.stall_micros_total
    c.last_applied_lsn c.last_wal_end)

-- ---- agreement, by state

-- until the run ends, what it remembers is what the trace says, then its counters are; and where a message is read, fewer than 256 are drained
abbrev pub Agrees : State → Facts → Facts → Type 0
Agrees Opening f g = f ≡ g
Agrees Turn f g = f ≡ g
Agrees Drain f g = f ≡ g
Agrees Reading f g = (f ≡ g) × (f.drained < 256)
Agrees Waiting f g = f ≡ g
Agrees Handling f g = f ≡ g
Agrees Offering f g = f ≡ g
Agrees Ended f g = f.metrics ≡ g.metrics

pub agree_now : (x : State) (f g : Facts) → is_ended x ≡ false → Agrees x f g → f ≡ g
agree_now Opening f g e a = a
agree_now Turn f g e a = a
agree_now Drain f g e a = a
agree_now Reading f g e a = a.0
agree_now Waiting f g e a = a
agree_now Handling f g e a = a
agree_now Offering f g e a = a
agree_now Ended f g e a = impossible cc

pub agree_metrics : (x : State) (f g : Facts) → Agrees x f g → f.metrics ≡ g.metrics
agree_metrics Opening f g a = ap (λ (k : Facts). k.metrics) a
agree_metrics Turn f g a = ap (λ (k : Facts). k.metrics) a
agree_metrics Drain f g a = ap (λ (k : Facts). k.metrics) a
agree_metrics Reading f g a = ap (λ (k : Facts). k.metrics) a.0
agree_metrics Waiting f g a = ap (λ (k : Facts). k.metrics) a
agree_metrics Handling f g a = ap (λ (k : Facts). k.metrics) a
agree_metrics Offering f g a = ap (λ (k : Facts). k.metrics) a
agree_metrics Ended f g a = a

pub report_agrees : (s : Setup) (h : Trace) (x : State) (r : Run) (file : ℕ) (p : Lsn) (m : Moment) → Agrees x (facts_by r) (facts_of s h)
    → Agrees x (facts_by (report_of r file p m).1) (facts_of s (a_report file p m ∷ h))
unfolding report_of facts_of
report_agrees s h Opening r file p m a = report_facts s h r file p m a
report_agrees s h Turn r file p m a = report_facts s h r file p m a
report_agrees s h Drain r file p m a = report_facts s h r file p m a
report_agrees s h Reading r file p m a = (report_facts s h r file p m a.0, a.1)
report_agrees s h Waiting r file p m a = report_facts s h r file p m a
report_agrees s h Handling r file p m a = report_facts s h r file p m a
report_agrees s h Offering r file p m a = report_facts s h r file p m a
report_agrees s h Ended r file p m a = a
