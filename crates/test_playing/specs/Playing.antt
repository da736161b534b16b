-- What the program `events` plays: a run that is already open, with the settings that are fixed for it, and steps whose queue is free. SCOPE 11.4;
-- 01, "Program `events`".
use Rattle.std.specs.Prelude.{ℕ, ◌+◌, ◌-◌, min, Bool, true, false, not, List, length, pos, ltb, eqb}
use Rattle.wire.specs.Bytes.{pick, at}
use Rattle.test_lines.specs.Line.{pieces, end_texts}
use Rattle.worker.specs.declared.Event.{Event}
use Rattle.worker.specs.declared.Input.{Input}
use Rattle.worker.specs.declared.Queue.TheVariants.{Free}
use Rattle.worker.specs.declared.Run.{Run}
use Rattle.worker.specs.declared.Settings.{Settings}
use Rattle.worker.specs.declared.State.TheVariants.{Turn}
use Rattle.worker.specs.declared.Stepped.{Stepped}
use Rattle.worker.specs.Answer.{verdict_number, lent}
use Rattle.worker.specs.Run.{lsn, fresh_run}
use Rattle.worker.specs.Step.{Outcome, Lent, is_ended, step_of}
use Rattle.test_playing.specs.Spelling.{event_texts, end_texts_of, end_outside}
use Rattle.test_playing.specs.declared.Playing.{Playing}

-- a limit of 65,536 and no stop position; the longest intervals
abbrev pub event_settings : Settings
event_settings =
    record {
      status_interval = 86400000000000;
      idle_wakeup_interval = 86400000000000;
      max_message_size = 65536;
      has_stop = false;
      stop_at_lsn = lsn 0;
      timing = false;
      binary = false;
    }

-- already open, from position 0
abbrev pub first_run : Run
first_run = fresh_run event_settings Turn (lsn 0)

-- the queue free, no stop
abbrev pub input_of : Bool → Input
input_of ended = record { moment = record { 0 = 1 }; client_time = pos 0; stop = false; queue = Free; ended = ended }

-- a run that is reached from the first one by steps of this kind
pub data Plays : Run → Type 0 where
  first : Plays first_run
  next : {r : Run} (ended : Bool) (l : Lent) → Plays r → Plays (step_of r (input_of ended) l).run

abbrev pub playing : Run → ℕ → ℕ → Bool → Bool → Playing
playing run from to ended go = record { run = run; from = from; to = to; ended = ended; go = go }

-- before the first step, with no byte read
abbrev pub begun : Playing
begun = playing first_run 0 0 false true

-- after a read of n bytes, which is made where no byte is unread and the input has not ended
abbrev pub refilled_of : Playing → ℕ → Playing
refilled_of p n = pick (ltb p.from p.to) p (pick p.ended p (playing p.run 0 n (eqb n 0) true))

-- the line buffer after an event's line
unfoldable pub event_line : Event → List ℕ → List ℕ → List ℕ
event_line e payload d =
    let a : ℕ × List ℕ = pieces d 0 (event_texts true payload e) in
    pick (eqb a.0 0) a.1 (pieces a.1 a.0 end_texts).1

-- whether the run goes on after a step, and the line buffer after the step's lines. A step that says that it took more than it was offered is the
-- last one
abbrev pub told_by : Bool → Bool → ℕ → List ℕ → Bool × List ℕ
told_by beyond over n d = pick beyond (false, (pieces d 0 end_outside).1) (pick over (false, (pieces d 0 (end_texts_of n)).1) (true, d))

-- the same of a step that was offered so many bytes
abbrev pub told_of : Stepped → ℕ → List ℕ → List ℕ → Bool × List ℕ
told_of s offered payload d =
    told_by (ltb offered s.taken) (is_ended s.run.state) (verdict_number s.verdict) (event_line s.event payload d)

-- the run goes on: it took no more than it was offered, and has not ended
abbrev pub goes_on : Bool → Bool → Bool
goes_on beyond over = pick beyond false (not over)

-- the step over the unread part of the buffer, as far as that lies within it
abbrev pub stepped_to : ℕ → ℕ → Playing → Outcome → Playing × List ℕ × List ℕ
stepped_to from to p o = (
  playing o.run (from + min o.taken (to - from)) to p.ended (goes_on (ltb (to - from) o.taken) (is_ended o.run.state)),
  o.payload,
  o.out,
)

abbrev pub stepped_from : ℕ → ℕ → Playing → List ℕ → List ℕ → List ℕ → Playing × List ℕ × List ℕ
stepped_from from to p bytes payload out = stepped_to from to p (step_of p.run (input_of p.ended) (lent (at bytes from (to - from)) payload out))

-- one step on the unread part of the bytes
unfoldable pub stepped : Playing → List ℕ → List ℕ → List ℕ → Playing × List ℕ × List ℕ
stepped p bytes payload out =
    let to : ℕ = min p.to (length bytes) in
    stepped_from (min p.from to) to p bytes payload out
