-- When a step moves next while nothing new comes: no byte unread, no end of the input, no stop seen, no change of the queue, no report.
-- SCOPE 5.9. It says nothing of a step that is lent unread bytes.
use Rattle.std.specs.Prelude.{ℕ, ◌+◌, ◌-◌, min, Bool, false, get_or, ltb, leb, eqb}
use Rattle.wire.specs.Bytes.{pick}
use Rattle.framing.specs.declared.MessageReader.{MessageReader}
use Rattle.frames.specs.Tag.{is_error, is_copy_both_response}
use Rattle.moment.specs.declared.Moment.{Moment}
use Rattle.moment.specs.Moment.{last}
use Rattle.progress.specs.Progress.{cell_signal}
use Rattle.worker.specs.declared.Queue.{Queue}
use Rattle.worker.specs.declared.Queue.TheVariants.{Free, Full, Closed}
use Rattle.worker.specs.declared.State.{State}
use Rattle.worker.specs.declared.State.TheVariants.{Opening, Turn, Drain, Reading, Waiting, Handling, Offering, Ended}
use Rattle.worker.specs.declared.Run.{Run}
use Rattle.worker.specs.Run.{cell_in}
use Rattle.schedule.specs.declared.NextStep.{NextStep}
use Rattle.schedule.specs.declared.NextStep.TheVariants.{AtOnce, From, OnInput, Never}

-- the next step moves; each step from a moment on moves, and none before; no step moves until something comes; no step is accepted any more
pub data Next : Type 0 where
  at_once : Next
  from : ℕ → Next
  on_input : Next
  never : Next

-- what the code's answer says
abbrev pub next_by : NextStep → Next
next_by AtOnce = at_once
next_by (From m) = from m.0
next_by OnInput = on_input
next_by Never = never

-- ---- the clock

-- the number after the last moment
abbrev pub beyond : ℕ
beyond = last + 1

-- the first moment at which an interval since another has passed: 0 where the interval is 0, since it has always passed, and the number after the
-- last moment where it never will
unfoldable pub due_of : ℕ → Moment → ℕ
due_of interval at = pick (eqb interval 0) 0 (min (at.0 + interval) beyond)

-- the answer where steps move from a due moment on
unfoldable pub by_clock : ℕ → Next
by_clock due = pick (eqb due 0) at_once (pick (ltb due beyond) (from due) on_input)

-- the status interval since the last status
abbrev pub status_moment : Run → ℕ
status_moment r = due_of r.settings.status_interval r.status.at

-- the idle interval since the wait began
abbrev pub idle_moment : Run → ℕ
idle_moment r = due_of r.settings.idle_wakeup_interval r.clock.wait_began

-- ---- the reader, with a payload buffer of so many bytes

-- the reader's message lacks no byte. No call leaves such a reader: the read that makes a message whole leaves a reader at the next one
unfoldable pub is_whole : MessageReader → ℕ → Bool
is_whole x n = pick (ltb x.filled 5) false (leb (min x.payload_len n) (x.filled - 5))

-- ---- each state

-- Opening: a remembered 7 ends the run; of whole messages CopyBothResponse and ErrorResponse are not skipped
unfoldable pub opening_next : MessageReader → ℕ → Next
opening_next x n =
    let tag : ℕ = get_or x.header 0 0 in
    pick x.refused at_once
    (pick (is_whole x n) (pick (is_copy_both_response tag) at_once (pick (is_error tag) at_once on_input))
    on_input)

-- Reading: a remembered 7 ends the run, and a whole message is never skipped
unfoldable pub reading_next : MessageReader → ℕ → Next
reading_next x n = pick x.refused at_once (pick (is_whole x n) at_once on_input)

-- Waiting: where a position is pending, the status of either interval; else the signal, or the idle interval's status
unfoldable pub waiting_next : Run → Next
waiting_next r =
    pick r.pending (by_clock (min (status_moment r) (idle_moment r)))
    (pick (cell_signal (cell_in r)) at_once
    (by_clock (idle_moment r)))

-- Offering: a full queue leaves only the status of each interval
unfoldable pub offering_next : Run → Queue → Next
offering_next r Free = at_once
offering_next r Closed = at_once
offering_next r Full = by_clock (status_moment r)

-- Turn, Drain and Handling never wait
unfoldable pub state_next : State → Run → ℕ → Queue → Next
state_next Opening r n q = opening_next r.reader n
state_next Turn r n q = at_once
state_next Drain r n q = at_once
state_next Reading r n q = reading_next r.reader n
state_next Waiting r n q = waiting_next r
state_next Handling r n q = at_once
state_next Offering r n q = offering_next r q
state_next Ended r n q = never

-- of a run, with the payload buffer's length and the queue
unfoldable pub next_step_of : Run → ℕ → Queue → Next
next_step_of r n q = state_next r.state r n q
