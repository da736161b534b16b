-- A run and the single changes of it. SCOPE 5; 01, "Events and confirmations".
use Rattle.std.specs.Prelude.{ℕ, ◌/◌, Bool, false, ◌==◌}
use Rattle.framing.specs.declared.MessageReader.{MessageReader}
use Rattle.framing.specs.Read.{fresh}
use Rattle.lsn.specs.declared.Lsn.{Lsn}
use Rattle.metrics.specs.declared.Metrics.{Metrics}
use Rattle.metrics.specs.Metrics.{no_counts}
use Rattle.moment.specs.declared.Moment.{Moment}
use Rattle.progress.specs.declared.ProgressCell.{ProgressCell}
use Rattle.progress.specs.declared.files.Progress.{Progress}
use Rattle.progress.specs.Progress.{no_moment}
use Rattle.progress.specs.Files.{files, as_cell, beside}
use Rattle.progress.specs.Files as F
use Rattle.worker.specs.declared.Settings.{Settings}
use Rattle.worker.specs.declared.Queue.{Queue}
use Rattle.worker.specs.declared.Queue.TheVariants.{Free, Full, Closed}
use Rattle.worker.specs.declared.State.{State}
use Rattle.worker.specs.declared.State.TheVariants.{Opening, Turn, Drain, Reading, Waiting, Handling, Offering, Ended}
use Rattle.worker.specs.declared.Clock.{Clock}
use Rattle.worker.specs.declared.LastStatus.{LastStatus}
use Rattle.worker.specs.declared.Whole.{Whole}
use Rattle.worker.specs.declared.Offer.{Offer}
use Rattle.worker.specs.declared.Event.{Event}
use Rattle.worker.specs.declared.Event.TheVariants.{Nothing}
use Rattle.worker.specs.declared.Run.{Run}

-- ---- states

-- a state's place in the step table, counted from 0; Ended has the next number
abbrev pub state_number : State → ℕ
state_number Opening = 0
state_number Turn = 1
state_number Drain = 2
state_number Reading = 3
state_number Waiting = 4
state_number Handling = 5
state_number Offering = 6
state_number Ended = 7

-- how the consumer's queue is found
abbrev pub queue_number : Queue → ℕ
queue_number Free = 0
queue_number Full = 1
queue_number Closed = 2

-- two states are the same
abbrev pub is_in : State → State → Bool
is_in a b = state_number a == state_number b

-- ---- parts

abbrev pub lsn : ℕ → Lsn
lsn v = record { 0 = v }

abbrev pub clock : Moment → Moment → Moment → Clock
clock last wait stall = record { last = last; wait_began = wait; stall_began = stall }

abbrev pub last_status : Bool → Lsn → Moment → LastStatus
last_status sent position at = record { sent = sent; position = position; at = at }

abbrev pub whole_of : ℕ → ℕ → Bool → Whole
whole_of tag len wait = record { tag = tag; len = len; in_wait = wait }

abbrev pub offer : Event → Bool → Bool → Lsn → Offer
offer event stalled stops reached = record { event = event; stalled = stalled; stops = stops; reached = reached }

abbrev pub run : Settings → State → MessageReader → Clock → Progress → LastStatus → ℕ → Bool → Whole → Offer → Metrics → Lsn → Run
run settings state reader clock progress status drained pending whole offer metrics server =
    record {
      settings = settings;
      state = state;
      reader = reader;
      clock = clock;
      progress = progress;
      status = status;
      drained = drained;
      pending = pending;
      whole = whole;
      offer = offer;
      metrics = metrics;
      server = server;
    }

-- a run before its first step, whose files are all at the start
unfoldable pub fresh_run : Settings → State → Lsn → Run
fresh_run s state start =
    run s state fresh (clock no_moment no_moment no_moment) (F.progress (files start start start start) false no_moment s.timing)
    (last_status false (lsn 0) no_moment) 0 false (whole_of 0 0 false) (offer Nothing false false (lsn 0)) no_counts (lsn 0)

-- ---- one part changed

abbrev pub with_state : State → Run → Run
with_state x r =
    run r.settings x r.reader r.clock r.progress r.status r.drained r.pending r.whole r.offer r.metrics r.server

abbrev pub with_reader : MessageReader → Run → Run
with_reader x r =
    run r.settings r.state x r.clock r.progress r.status r.drained r.pending r.whole r.offer r.metrics r.server

abbrev pub with_clock : Clock → Run → Run
with_clock x r =
    run r.settings r.state r.reader x r.progress r.status r.drained r.pending r.whole r.offer r.metrics r.server

abbrev pub with_progress : Progress → Run → Run
with_progress x r =
    run r.settings r.state r.reader r.clock x r.status r.drained r.pending r.whole r.offer r.metrics r.server

-- the cell that a step sees: its position is the smallest of the four files
abbrev pub cell_in : Run → ProgressCell
cell_in r = as_cell r.progress

-- the signal, pending moment and timing of a cell; the files stay
abbrev pub with_cell : ProgressCell → Run → Run
with_cell c r = with_progress (beside r.progress.files c) r

abbrev pub with_last_status : LastStatus → Run → Run
with_last_status x r =
    run r.settings r.state r.reader r.clock r.progress x r.drained r.pending r.whole r.offer r.metrics r.server

abbrev pub with_drained : ℕ → Run → Run
with_drained x r =
    run r.settings r.state r.reader r.clock r.progress r.status x r.pending r.whole r.offer r.metrics r.server

abbrev pub with_pending : Bool → Run → Run
with_pending x r =
    run r.settings r.state r.reader r.clock r.progress r.status r.drained x r.whole r.offer r.metrics r.server

abbrev pub with_whole : Whole → Run → Run
with_whole x r =
    run r.settings r.state r.reader r.clock r.progress r.status r.drained r.pending x r.offer r.metrics r.server

abbrev pub with_offer : Offer → Run → Run
with_offer x r =
    run r.settings r.state r.reader r.clock r.progress r.status r.drained r.pending r.whole x r.metrics r.server

abbrev pub with_metrics : Metrics → Run → Run
with_metrics x r =
    run r.settings r.state r.reader r.clock r.progress r.status r.drained r.pending r.whole r.offer x r.server

abbrev pub with_server : Lsn → Run → Run
with_server x r =
    run r.settings r.state r.reader r.clock r.progress r.status r.drained r.pending r.whole r.offer r.metrics x

-- ---- moments

-- a step was accepted at a moment, which is from then on the last accepted one
abbrev pub accepted : Moment → Run → Run
accepted m r = with_clock (clock m r.clock.wait_began r.clock.stall_began) r

-- the wait begins now
abbrev pub wait_begun : Run → Run
wait_begun r = with_clock (clock r.clock.last r.clock.last r.clock.stall_began) r

-- the stall begins now
abbrev pub stall_begun : Run → Run
stall_begun r = with_clock (clock r.clock.last r.clock.wait_began r.clock.last) r

-- whole microseconds of nanoseconds
abbrev pub micros : ℕ → ℕ
micros nanos = nanos / 1000
