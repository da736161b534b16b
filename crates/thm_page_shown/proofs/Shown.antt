-- The page over any list of calls: the four files are what was reported, the server's end is the metric's until the run ends, and all else is what
-- condition 3 says of the run.
use mathlib.Core.Path.{◌≡◌, refl, sym, ap, ◌∙◌, subst}
use mathlib.Core.Bool.{Bool, true, false, not}
use mathlib.Core.List.{List, [], ◌∷◌}
use Prim.Native.Nat.{ℕ, ◌≤◌}
use native.Mathlib.Omega.{arith}
use lib.ListN.{length, take}
use lib.Dec.{ltb}
use borrow.Author.Tests.{ltb-true, ne_eqb}
use Rattle.wire.proofs.Laws.{by_test, impossible}
use Rattle.lsn.specs.declared.Lsn.{Lsn}
use Rattle.metrics.specs.declared.Metrics.{Metrics}
use Rattle.moment.specs.declared.Moment.{Moment}
use Rattle.page.specs.declared.Page.{Page}
use Rattle.progress.specs.declared.files.Files.{Files}
use Rattle.progress.specs.Files.{smallest}
use Rattle.progress.specs.Progress.{cell_position}
use Rattle.worker.specs.declared.Run.{Run}
use Rattle.worker.specs.declared.Input.{Input}
use Rattle.worker.specs.declared.Settings.{Settings}
use Rattle.worker.specs.declared.State.{State}
use Rattle.worker.specs.declared.State.TheVariants.{Opening, Turn, Drain, Reading, Waiting, Handling, Offering, Ended}
use Rattle.worker.specs.Session.{report_of}
use Rattle.worker.specs.Run.{state_number, cell_in, fresh_run}
use Rattle.worker.specs.Step.{Lent, Outcome, is_ended, step_of}
use Rattle.thm_one_call.specs.Effects.{Heard, stay, offered, ended}
use Rattle.thm_one_call.proofs.Effects.{step_effects, ended_refused}
use Rattle.thm_any_calls.specs.Calls.{Beginning, Call, step, report, Played, is_opening, start_of, run_begun, lent_to, play_one, play_all, begun, played, setup_of}
use Rattle.thm_any_calls.specs.Confirms.{Reached, reached_with}
use Rattle.thm_any_calls.specs.Tests.{both, is_in}
use Rattle.thm_any_calls.specs.Counters.{end_after, last_end}
use Rattle.thm_any_calls.specs.Table.{last_message, limit_by, response_of}
use Rattle.thm_any_calls.specs.Trace.{Setup, Trace, Response, a_step, a_report, went, state_after, taken_by, reached_by, confirmed_of}
use Rattle.thm_any_calls.specs.Traced.{trace_one, trace_all, trace_of}
use Rattle.thm_any_calls.proofs.Beginnings.{first_state, run_begun_lem}
use Rattle.thm_any_calls.proofs.Condition3.{calls_traced}
use Rattle.thm_any_calls.proofs.Confirms.{files_by, files_reach, begun_files}
use Rattle.thm_any_calls.proofs.Counters.{counters_traced}
use Rattle.thm_any_calls.proofs.Facts.{facts_by, facts_of, agree_metrics}
use Rattle.thm_any_calls.proofs.Preserved.{Preserved, step_next, calls_preserved, played_preserved}
use Rattle.thm_any_calls.proofs.Views.{views_traced}
use Rattle.thm_page_shown.specs.PageShown.{server_of, PageTraced}

-- ---- the position

-- what each file has reached, by the trace
abbrev reached_in : Lsn → Trace → Reached
reached_in start h = λ n. reached_by n start h

-- a report of a file, and one of a number that is no file
files_next : (start : Lsn) (h : Trace) (file : ℕ) (p : Lsn) (m : Moment)
    → files_by (reached_with (reached_in start h) file p) ≡ files_by (reached_in start (a_report file p m ∷ h))
unfolding reached_by
files_next start h file p m =
    by_test (ltb 3 file)
    (λ t.
    let k : 4 ≤ file = ltb-true 3 file t in
    rw (t, ne_eqb file 0 (λ e. omega arith), ne_eqb file 1 (λ e. omega arith), ne_eqb file 2 (λ e. omega arith), ne_eqb file 3 (λ e. omega arith)))
    (λ t. rw t)

files_all : (s : Setup) (cs : List Call) (h : Trace) (z : Played) → z.run.progress.files ≡ files_by (reached_in s.start h)
    → (play_all s.bytes z cs).run.progress.files ≡ files_by (reached_in s.start (trace_all s h cs))
unfolding play_all trace_all reached_by
files_all s [] h z e = e
files_all s (step i n out ∷ cs) h z e =
    files_all s cs (trace_one s h (step i n out)) (play_one s.bytes z (step i n out))
    ((step_effects z.run i (lent_to s.bytes z n out)).preserved ∙ e)
files_all s (report file p m ∷ cs) h z e =
    files_all s cs (trace_one s h (report file p m)) (play_one s.bytes z (report file p m))
    (files_reach z.run (reached_in s.start h) file p m e ∙ files_next s.start h file p m)

position_is : (start : Lsn) (h : Trace) (f : Files) → f ≡ files_by (reached_in start h) → smallest f ≡ confirmed_of start h
unfolding smallest confirmed_of
position_is start h f e = ap smallest e

-- ---- the server's end

-- what holds after every list
record Told (s : Setup) (h : Trace) (r : Run) : Type 0 where
  server : r.server ≡ server_of s h
  metric : is_ended r.state ≡ false → r.server ≡ r.metrics.last_wal_end

-- a step of Handling that offers an event handles the last whole message and does not end the run
offers_by : (from to : State) → went Handling Offering from to ≡ true
    → (both (is_in Handling from) (not (is_in Handling to)) ≡ true) × (is_ended to ≡ false)
offers_by Opening to e = impossible cc
offers_by Turn to e = impossible cc
offers_by Drain to e = impossible cc
offers_by Reading to e = impossible cc
offers_by Waiting to e = impossible cc
offers_by Handling Opening e = impossible cc
offers_by Handling Turn e = impossible cc
offers_by Handling Drain e = impossible cc
offers_by Handling Reading e = impossible cc
offers_by Handling Waiting e = impossible cc
offers_by Handling Handling e = impossible cc
offers_by Handling Offering e = (refl, refl)
offers_by Handling Ended e = impossible cc
offers_by Offering to e = impossible cc
offers_by Ended to e = impossible cc

-- a run that has ended offers none
ended_offers : (from to : State) → is_ended from ≡ true → went Handling Offering from to ≡ false
ended_offers Opening to e = impossible cc
ended_offers Turn to e = impossible cc
ended_offers Drain to e = impossible cc
ended_offers Reading to e = impossible cc
ended_offers Waiting to e = impossible cc
ended_offers Handling to e = impossible cc
ended_offers Offering to e = impossible cc
ended_offers Ended to e = refl

ended_told : (s : Setup) (h : Trace) (i : Input) (from : State) (y : Response) (r q : Run) → Told s h r → is_ended r.state ≡ true → r.state ≡ from
    → q ≡ r → Told s (a_step i from y ∷ h) q
unfolding server_of
ended_told s h i from y r q w a hf e =
    let n : went Handling Offering from y.entered ≡ false = ended_offers from y.entered (rw (← hf) a) in
    rw e (record { server = rw n w.server; metric = w.metric })

-- a step more, of a run that had not ended
module _ (s : Setup) (h : Trace) (i : Input) (from : State) (y : Response) (r : Run) (o : Outcome) (w : Told s h r)
    (a : is_ended r.state ≡ false) (ht : o.run.state ≡ y.entered) (he : r.metrics.last_wal_end ≡ last_end s h)
    (hn : o.run.metrics.last_wal_end ≡ last_end s (a_step i from y ∷ h)) where
  -- the two ends are the same before it
  both_are : r.server ≡ r.metrics.last_wal_end
  both_are = w.metric a

  -- the two ends are the same after it, unless it ends the run
  metric_next : Heard r.server r.metrics.last_wal_end o.run → is_ended o.run.state ≡ false
      → o.run.server ≡ o.run.metrics.last_wal_end
  metric_next (stay p q) b = p ∙ both_are ∙ sym q
  metric_next (offered p q) b = q
  metric_next (ended p q) b = let z : is_ended o.run.state ≡ true = ap is_ended p in impossible cc

  -- StoppedAt is offered after the event of its message, and the metric stays
  metric_stays : went Handling Offering from y.entered ≡ false → o.run.state ≡ Offering → o.run.metrics.last_wal_end ≡ last_end s h
  unfolding last_end
  metric_stays e p =
      let j : y.entered ≡ Offering = sym ht ∙ p in
      let k : both (is_in Handling from) (not (is_in Handling y.entered)) ≡ false = rw j (rw j at e) in
      rw k at hn

  kept : went Handling Offering from y.entered ≡ false → Heard r.server r.metrics.last_wal_end o.run → o.run.server ≡ server_of s h
  kept e (stay p q) = p ∙ w.server
  kept e (offered p q) = q ∙ metric_stays e p ∙ sym he ∙ sym both_are ∙ w.server
  kept e (ended p q) = q ∙ w.server

  told_end : went Handling Offering from y.entered ≡ true
      → o.run.metrics.last_wal_end ≡ end_after (last_message (limit_by s) (take (taken_by h) s.bytes)) (server_of s h)
  unfolding last_end
  told_end e =
      let m = last_message (limit_by s) (take (taken_by h) s.bytes) in
      let b = (offers_by from y.entered e).0 in
      let n : o.run.metrics.last_wal_end ≡ end_after m (last_end s h) = rw b at hn in
      n ∙ ap (end_after m) (sym he ∙ sym both_are ∙ w.server)

  server_next : Heard r.server r.metrics.last_wal_end o.run → o.run.server ≡ server_of s (a_step i from y ∷ h)
  unfolding server_of
  server_next x =
      by_test (went Handling Offering from y.entered)
      (λ e. rw e (metric_next x (rw ht (offers_by from y.entered e).1) ∙ told_end e))
      (λ e. rw e (kept e x))

  step_told : Heard r.server r.metrics.last_wal_end o.run → Told s (a_step i from y ∷ h) o.run
  step_told x = record { server = server_next x; metric = metric_next x }

-- the metric's end after a list
metric_is : (s : Setup) (h : Trace) (z : Played) → Preserved s h z → z.run.metrics.last_wal_end ≡ last_end s h
unfolding facts_of
metric_is s h z w = ap (λ (m : Metrics). m.last_wal_end) (agree_metrics z.run.state (facts_by z.run) (facts_of s h) w.agrees)

report_told : (s : Setup) (h : Trace) (r : Run) (file : ℕ) (p : Lsn) (m : Moment) → Told s h r → Told s (a_report file p m ∷ h) (report_of r file p m).1
unfolding report_of server_of
report_told s h r file p m w = record { server = w.server; metric = w.metric }

told_all : (s : Setup) (cs : List Call) (h : Trace) (z : Played) → Preserved s h z → Told s h z.run
    → Told s (trace_all s h cs) (play_all s.bytes z cs).run
unfolding play_all trace_all
told_all s [] h z w v = v
told_all s (step i n out ∷ cs) h z w v =
    let l : Lent = lent_to s.bytes z n out in
    let y : Response = response_of s h i n (length out) in
    let after = calls_preserved s (step i n out ∷ []) h z w in
    told_all s cs (trace_one s h (step i n out)) (play_one s.bytes z (step i n out)) after
    (by_test (is_ended z.run.state)
    (λ a. ended_told s h i (state_after s.opening h) y z.run (step_of z.run i l).run v a w.follows.state
    (ap (λ (o : Outcome). o.run) (ended_refused z.run i l a)))
    (λ a.
    step_told s h i (state_after s.opening h) y z.run (step_of z.run i l) v a (step_next s h z w i n out).answers.state
    (metric_is s h z w) (metric_is s (trace_one s h (step i n out)) (play_one s.bytes z (step i n out)) after)
    (step_effects z.run i l).server))
told_all s (report file p m ∷ cs) h z w v =
    told_all s cs (trace_one s h (report file p m)) (play_one s.bytes z (report file p m)) (calls_preserved s (report file p m ∷ []) h z w)
    (report_told s h z.run file p m v)

first_told : (s : Setup) (x : State) → Told s [] (fresh_run s.settings x s.start)
unfolding fresh_run server_of
first_told s x = record { server = refl; metric = λ e. refl }

-- ---- the page

abbrev page : Lsn → Bool → Lsn → Lsn → ℕ → ℕ → ℕ → Page
page a b c d e f g = record { position = a; sent = b; confirmed = c; server = d; events = e; stalls = f; state = g }

page_by : {a a' c c' d d' : Lsn} {b b' : Bool} {e e' f f' g g' : ℕ} → a ≡ a' → b ≡ b' → c ≡ c' → d ≡ d' → e ≡ e' → f ≡ f' → g ≡ g'
    → page a b c d e f g ≡ page a' b' c' d' e' f' g'
page_by pa pb pc pd pe pf pg = rw (pa, pb, pc, pd, pe, pf, pg)

server_traced : (s : Settings) (b : Beginning) (bytes p : List ℕ) (cs : List Call)
    → let x : Setup = setup_of s b bytes (length p) in (played s b bytes p cs).run.server ≡ server_of x (trace_of x cs)
unfolding played play_all trace_all
server_traced s b bytes p cs =
    let x : Setup = setup_of s b bytes (length p) in
    let first : Played = begun (fresh_run s (first_state (is_opening b)) (start_of b)) p in
    let w : Preserved x [] first = subst (λ (r : Run). Preserved x [] (begun r p)) (run_begun_lem s b) (played_preserved s b bytes p []) in
    rw (run_begun_lem s b) (told_all x cs [] first w (first_told x (first_state (is_opening b)))).server

position_traced : (s : Settings) (b : Beginning) (bytes p : List ℕ) (cs : List Call)
    → let x : Setup = setup_of s b bytes (length p) in cell_position (cell_in (played s b bytes p cs).run) ≡ confirmed_of (start_of b) (trace_of x cs)
unfolding played reached_by
position_traced s b bytes p cs =
    let x : Setup = setup_of s b bytes (length p) in
    position_is (start_of b) (trace_of x cs) _ (files_all x cs [] (begun (run_begun s b) p) (begun_files s b))

pub page_traced : PageTraced
page_traced s b bytes p cs =
    let x : Setup = setup_of s b bytes (length p) in
    let v = views_traced s b bytes p cs in
    let c = counters_traced s b bytes p cs in
    page_by (position_traced s b bytes p cs) v.sent v.sent_position_lem (server_traced s b bytes p cs)
    (ap (λ (m : Metrics). m.events_forwarded) c) (ap (λ (m : Metrics). m.stall_count) c)
    (ap state_number (calls_traced s b bytes p cs).follows.state)
