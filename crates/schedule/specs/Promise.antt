-- What the answer promises of a step that brings nothing new, for every run value. SCOPE 5.9.
use Rattle.std.specs.Prelude.{ℕ, ◌<◌, ◌≤◌, min, false, ◌≡◌, List, [], length, ℤ}
use Rattle.std.proofs.Math.Option.{none}
use Rattle.moment.specs.declared.Moment.{Moment}
use Rattle.worker.specs.declared.Input.{Input}
use Rattle.worker.specs.declared.Queue.{Queue}
use Rattle.worker.specs.declared.Run.{Run}
use Rattle.worker.specs.declared.State.TheVariants.{Ended}
use Rattle.worker.specs.Events as E
use Rattle.worker.specs.Step.{Lent, Outcome, step_of}
use Rattle.schedule.specs.NextStep.{Next, at_once, from, on_input, never, next_step_of}

-- no stop request, no end of the input, and the queue as it is
abbrev pub quiet : Moment → ℤ → Queue → Input
quiet m time q = record { moment = m; client_time = time; stop = false; queue = q; ended = false }

-- no byte unread
abbrev pub no_byte : List ℕ → List ℕ → Lent
no_byte p out = record { unread = []; payload = p; out = out }

-- a step that brings nothing new
abbrev pub quiet_step : Run → Moment → ℤ → Queue → List ℕ → List ℕ → Outcome
quiet_step r m time q p out = step_of r (quiet m time q) (no_byte p out)

-- the step is refused with none of 3, 4 and 5, in the numbers of 01
pub record Accepts (r : Run) (m : Moment) (p out : List ℕ) : Type 0 where
  -- 3: the payload buffer is as long as the setting, and at most 1 GiB is asked
  pub payload_fits : min r.settings.max_message_size 1073741824 ≤ length p
  -- 4: a status update has 39 bytes
  pub status_fits : 39 ≤ length out
  -- 5: the moment is one, and not before the last accepted
  pub not_early : 1 ≤ m.0
  pub not_late : m.0 ≤ 9223372036854775807
  pub not_before : r.clock.last.0 ≤ m.0

-- a step that is refused with a number and changes nothing
abbrev pub unchanged : ℕ → Run → Lent → Outcome
unchanged n r l =
    record { run = r; refusal = n; taken = 0; event = E.nothing; written = 0; waited = none; payload = l.payload; out = l.out }

-- the run leaves its state, or writes bytes, or offers another event: StoppedAt, after one that was handed on or dropped
pub data Moves (r : Run) (o : Outcome) : Type 0 where
  leaves : (o.run.state ≡ r.state → ⊥) → Moves r o
  writes : 0 < o.written → Moves r o
  passes : (o.run.offer.event ≡ r.offer.event → ⊥) → Moves r o

-- the run does none of these, refuses nothing, hands nothing on and takes no byte; and its next answer is the same again, so that this holds for
-- any number of such steps
pub record Stays (r : Run) (n : ℕ) (q : Queue) (o : Outcome) : Type 0 where
  pub same_state : o.run.state ≡ r.state
  pub none_written : o.written ≡ 0
  pub same_offer : o.run.offer.event ≡ r.offer.event
  pub none_refused : o.refusal ≡ 0
  pub none_handed_on : o.event ≡ E.nothing
  pub none_taken : o.taken ≡ 0
  pub same_answer : next_step_of o.run n q ≡ next_step_of r n q

-- no step does both
abbrev pub NotBoth : Type 0
NotBoth = (r : Run) (n : ℕ) (q : Queue) (o : Outcome) → Moves r o → Stays r n q o → ⊥

-- what an answer promises of a step at a moment
abbrev pub Promised : Next → ℕ → Run → ℕ → Queue → Outcome → Type 0
Promised at_once m r n q o = Moves r o
Promised (from t) m r n q o = (m < t → Stays r n q o) × (t ≤ m → Moves r o)
Promised on_input m r n q o = Stays r n q o
Promised never m r n q o = o.refusal ≡ 2

-- the answer keeps its promise, for every run value, at every accepted moment, with every output and client time
abbrev pub NextStepPromised : Type 0
NextStepPromised =
    (r : Run) (q : Queue) (p out : List ℕ) (time : ℤ) (m : Moment) → Accepts r m p out
    → Promised (next_step_of r (length p) q) m.0 r (length p) q (quiet_step r m time q p out)

-- never is the answer exactly where the run has ended, and then every step is refused with 2, whatever it brings
abbrev pub NeverIsEnded : Type 0
NeverIsEnded = (r : Run) (n : ℕ) (q : Queue) → next_step_of r n q ≡ never → r.state ≡ Ended

abbrev pub EndedIsNever : Type 0
EndedIsNever =
    (r : Run) (n : ℕ) (q : Queue) → r.state ≡ Ended
    → (next_step_of r n q ≡ never) × ((i : Input) (l : Lent) → step_of r i l ≡ unchanged 2 r l)
