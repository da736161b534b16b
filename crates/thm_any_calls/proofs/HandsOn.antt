-- What was handed on is the plain reading: after any list of calls, by what holds then (Preserved). Condition3 takes both theorems.
use mathlib.Core.Path.{◌≡◌, refl, sym, ap, ◌∙◌}
use mathlib.Core.Bool.{Bool}
use mathlib.Core.List.{List, [], ◌∷◌}
use mathlib.Core.Logic.{inl, inr}
use Prim.Native.Nat.{ℕ, ◌≤◌}
use native.Mathlib.Omega.{arith}
use borrow.Author.Tests.{ltb-true, ltb-false}
use lib.ListN.{length, take}
use lib.Dec.{ltb}
use Rattle.wire.proofs.Laws.{by_test}
use Rattle.frames.specs.Cut.{cut_of}
use Rattle.worker.specs.declared.Settings.{Settings}
use Rattle.worker.specs.declared.State.{State}
use Rattle.worker.specs.declared.State.TheVariants.{Opening, Turn, Drain, Reading, Waiting, Handling, Offering, Ended}
use Rattle.thm_any_calls.specs.Happened.{Happened}
use Rattle.thm_any_calls.specs.Plain.{Bounds, Msg, Observation, whole_ones, span_of, after_byte, accepted_ones, taken_of, plain_of}
use Rattle.thm_any_calls.specs.Begins.{NoneClosed}
use Rattle.thm_any_calls.specs.Trace.{Setup, Trace, bounds_of, observations_of}
use Rattle.thm_any_calls.specs.Calls.{Beginning, is_opening, run_begun, Call, step, report, Played, play_one, play_all, begun, played, setup_of}
use Rattle.thm_any_calls.specs.Traced.{trace_of}
use Rattle.thm_any_calls.specs.HandsOn.{NoQueueCloses, HandsOn, EventsBegin}
use Rattle.thm_any_calls.proofs.Account.{Account, none_taken}
use Rattle.thm_any_calls.proofs.Begins.{closed_more, plain_agree}
use Rattle.thm_any_calls.proofs.Course.{read_off, Over, nothing_reads, before_reads, going_reads, held_reads, offers_reads}
use Rattle.thm_any_calls.proofs.Preserved.{played_preserved}
use Rattle.thm_any_calls.proofs.Invariant.{Goings, Placed, Invariant, limit, stop, message_of}

no_span : (ms : List Msg) → span_of ms ≤ 0 → ms ≡ []
unfolding span_of
no_span [] h = refl
no_span (m ∷ ms) h = absurd (omega arith)

module _ (s : Setup) where
  -- what was handed on is the plain reading
  abbrev Reads : List Observation → List Happened → Type 0
  Reads ts es = es ≡ plain_of (bounds_of s.settings) s.opening s.bytes ts

  -- the account is the plain reading's
  account_reads : {t : ℕ} {ts : List Observation} {ms : List Msg} {ws : List Observation} {es : List Happened}
      → Account (limit s) s.bytes t ts ms ws
      → Over (stop s) s.opening ms ws es → Reads ts es
  unfolding plain_of
  account_reads {t} {ts} {ms} {ws} a o =
      let e : whole_ones (cut_of (limit s) (take (taken_of ts) s.bytes)).items ≡ ms =
      ap (λ (k : ℕ). whole_ones (cut_of (limit s) (take k s.bytes)).items) a.sum ∙ a.whole in
      rw e
      (o ∙
      by_test (ltb 0 (span_of ms))
      (λ h. ap (read_off (stop s) s.opening ms) (sym (a.since (ltb-true _ _ h))))
      (λ h. rw (no_span ms (ltb-false _ _ h)) (sym (nothing ws) ∙ nothing (accepted_ones (after_byte (span_of []) ts)))))
    where
      nothing : (vs : List Observation) → Over (stop s) s.opening [] vs []
      nothing = nothing_reads (stop s) s.opening

  module _ (z : Played) (q : NoneClosed z.observed) where
    going_read : Goings s z.run.reader z.payload z.taken z.observed z.events → Reads z.observed z.events
    going_read b = account_reads b.base.account (going_reads _ _ (b.course q))

    placed_read : (x : State) → Placed s x z → Reads z.observed z.events
    placed_read Opening b = account_reads b.base.account (before_reads _ _ (b.course q))
    placed_read Turn b = going_read b
    placed_read Drain b = going_read b
    placed_read Reading b = going_read b
    placed_read Waiting b = going_read b
    placed_read Handling h = account_reads h.base.account (held_reads _ _ (message_of z.run.whole z.payload) (h.course q))
    placed_read Offering b = account_reads b.0.base.account (offers_reads _ _ (b.0.course q))
    placed_read Ended o = account_reads o.account (o.course q)

    invariant_read : (x : State) → Invariant s x z → Reads z.observed z.events
    invariant_read x (inl h) = h.none ∙ account_reads (none_taken (limit s) s.bytes h.untaken) (nothing_reads (stop s) s.opening [])
    invariant_read x (inr b) = placed_read x b

-- no queue closes, so none is observed
observed_closed : (bytes : List ℕ) (cs : List Call) (z : Played) → NoQueueCloses cs → NoneClosed z.observed
    → NoneClosed (play_all bytes z cs).observed
unfolding play_all
observed_closed bytes [] z q h = h
observed_closed bytes (step i n out ∷ cs) z q h =
    observed_closed bytes cs (play_one bytes z (step i n out)) q.1 (closed_more z.observed _ h q.0)
observed_closed bytes (report file position moment ∷ cs) z q h = observed_closed bytes cs (play_one bytes z (report file position moment)) q h

module _ (s : Settings) (b : Beginning) (bytes p : List ℕ) (cs : List Call) (q : NoQueueCloses cs) where
  played_closed : NoneClosed (played s b bytes p cs).observed
  unfolding played
  played_closed = observed_closed bytes cs (begun (run_begun s b) p) q tt

  -- what the plain reading is told by the run is what it is told by the trace
  abbrev trace : Trace
  trace = trace_of (setup_of s b bytes (length p)) cs

  trace_closed : NoneClosed (observations_of trace)
  trace_closed = rw (played_preserved s b bytes p cs).follows.observed at played_closed

  read_off_trace : (played s b bytes p cs).events ≡ plain_of (bounds_of s) (is_opening b) bytes (observations_of trace)
  read_off_trace =
      let z = played s b bytes p cs in
      let w = played_preserved s b bytes p cs in
      invariant_read (setup_of s b bytes (length p)) z played_closed z.run.state w.invariant
      ∙ ap (plain_of (bounds_of s) (is_opening b) bytes) w.follows.observed

pub hands_on : HandsOn
hands_on s b bytes p cs q = read_off_trace s b bytes p cs q

pub events_begin : EventsBegin
events_begin s t b d bytes p_s p_t cs ds e o q r =
    let x : List Observation = observations_of (trace s b bytes p_s cs q) in
    let y : List Observation = observations_of (trace t d bytes p_t ds r) in
    let hx : (played s b bytes p_s cs).events ≡ plain_of (bounds_of t) (is_opening d) bytes x =
    hands_on s b bytes p_s cs q ∙ ap (λ (u : Bounds). plain_of u (is_opening b) bytes x) e ∙ ap (λ (v : Bool). plain_of (bounds_of t) v bytes x) o in
    rw (hx, hands_on t d bytes p_t ds r)
    (plain_agree (bounds_of t) (is_opening d) bytes x y (trace_closed s b bytes p_s cs q) (trace_closed t d bytes p_t ds r))
