-- The server says that it is done. After any list of calls whose bytes end with a whole CopyDone of the server, the next accepted step answers it in
-- kind and ends the run; then every step is 2, and no event follows. The event list of a stream stops there. SCOPE 8.10; 02, wish 2.
use Rattle.std.specs.Prelude.{◌≡◌, Bool, true, false, List, [], ◌∷◌, ◌++◌, ℕ, length, take}
use Rattle.std.proofs.Math.Option.{Option, none}
use Rattle.frames.specs.Cut.{cut_of}
use Rattle.frontend.specs.Frontend.{copy_done_message}
use Rattle.worker.specs.declared.Input.{Input}
use Rattle.worker.specs.declared.Settings.{Settings}
use Rattle.worker.specs.declared.State.TheVariants.{Ended}
use Rattle.worker.specs.Events as E
use Rattle.worker.specs.Step.{Outcome, Lent, step_of}
use Rattle.thm_any_calls.specs.Plain.{Msg, whole_ones, has_opened, events_of, span_of, after_byte, accepted_ones, is_refused_early}
use Rattle.thm_any_calls.specs.Tests.{onto}
use Rattle.thm_any_calls.specs.Trace.{Setup, Trace, taken_by, observations_of}
use Rattle.thm_any_calls.specs.Table.{limit_by}
use Rattle.thm_any_calls.specs.Calls.{Beginning, Call, step, Played, played, lent_to, setup_of}
use Rattle.thm_any_calls.specs.Traced.{trace_of}
use Rattle.thm_any_calls.specs.Refused.{unchanged}

-- the server's CopyDone, Byte1('c'), with any payload
abbrev pub done : List ℕ → Msg
done payload = (0x63, payload)

-- the messages before it hold a `W`, where the run began in Opening
abbrev pub AfterOpening : Bool → List Msg → Type 0
AfterOpening opening before = opening ≡ true → has_opened before ≡ true

-- the whole messages of the bytes taken end with it, after the opening, and no step was accepted since its last byte was taken
pub record Arrived (s : Setup) (h : Trace) : Type 0 where
  pub before : List Msg
  pub payload : List ℕ
  pub messages : whole_ones (cut_of (limit_by s) (take (taken_by h) s.bytes)).items ≡ before ++ (done payload ∷ [])
  pub opened : AfterOpening s.opening before
  pub unanswered : accepted_ones (after_byte (span_of (before ++ (done payload ∷ []))) (observations_of h)) ≡ []

-- the answer: CopyDone alone, nothing taken, handed on or told, the run over, and every counter as it was
pub record Answered (z : Played) (l : Lent) (o : Outcome) : Type 0 where
  pub refusal : o.refusal ≡ 0
  pub taken : o.taken ≡ 0
  pub event : o.event ≡ E.nothing
  pub written : take o.written o.out ≡ 0x63 ∷ 0 ∷ 0 ∷ 0 ∷ 4 ∷ []
  pub output : o.out ≡ onto copy_done_message l.out
  pub payload : o.payload ≡ l.payload
  pub waited : o.waited ≡ none
  pub state : o.run.state ≡ Ended
  pub counters : o.run.metrics ≡ z.run.metrics

-- whatever calls follow: no event more, every counter as it was, and each step is 2 and changes nothing
pub record Over (bytes : List ℕ) (z y : Played) : Type 0 where
  pub events : y.events ≡ z.events
  pub counters : y.run.metrics ≡ z.run.metrics
  pub next : (i : Input) (n : ℕ) (out : List ℕ) → let l : Lent = lent_to bytes y n out in step_of y.run i l ≡ unchanged 2 y.run l

-- after any list of calls: a step that is not refused with 2 to 5, and any calls after it
pub record ServerDone (s : Settings) (b : Beginning) (bytes payload : List ℕ) (cs : List Call) : Type 0 where
  pub answer : Arrived (setup_of s b bytes (length payload)) (trace_of (setup_of s b bytes (length payload)) cs) → (i : Input) (n : ℕ) (out : List ℕ)
      → let z : Played = played s b bytes payload cs in
      let l : Lent = lent_to bytes z n out in is_refused_early (step_of z.run i l).refusal ≡ false → Answered z l (step_of z.run i l)
  pub after : Arrived (setup_of s b bytes (length payload)) (trace_of (setup_of s b bytes (length payload)) cs) → (i : Input) (n : ℕ) (out : List ℕ)
      → let z : Played = played s b bytes payload cs in
      is_refused_early (step_of z.run i (lent_to bytes z n out)).refusal ≡ false
      → (ds : List Call) → Over bytes z (played s b bytes payload (cs ++ (step i n out ∷ ds)))

abbrev pub ServerEnds : Type 0
ServerEnds = (s : Settings) (b : Beginning) (bytes payload : List ℕ) (cs : List Call) → ServerDone s b bytes payload cs

-- what comes after it gives no event
abbrev pub EventsStop : Type 0
EventsStop =
    (stop : Option ℕ) (opening : Bool) (before after : List Msg) (payload : List ℕ) → AfterOpening opening before
    → events_of stop opening (before ++ (done payload ∷ after)) ≡ events_of stop opening before
