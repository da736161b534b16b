-- Any list of calls on a run that `open` or `already_open` made: how it is played, each step with the payload buffer and the untaken bytes that
-- the calls before it left. Traced and HandsOn say what holds after it. SCOPE 8.1; 01, "Events and confirmations".
use Rattle.std.specs.Prelude.{ℕ, ◌+◌, Bool, true, false, List, [], ◌∷◌, ◌++◌, take, drop}
use Rattle.std.specs.Borrow.{Bor}
use Rattle.lsn.specs.declared.Lsn.{Lsn}
use Rattle.moment.specs.declared.Moment.{Moment}
use Rattle.worker.specs.declared.Input.{Input}
use Rattle.worker.specs.declared.Run.{Run}
use Rattle.worker.specs.declared.Settings.{Settings}
use Rattle.worker.specs.Step.{Outcome, Lent, step_of}
use Rattle.worker.specs.Session.{open_of, already_open_of, report_of}
use Rattle.thm_any_calls.specs.Happened.{Happened, happened_of}
use Rattle.thm_any_calls.specs.Plain.{Observation}
use Rattle.thm_any_calls.specs.Trace.{Setup}

-- how a run begins: by `open` with a slot, publications, the position that its query names, the start and an output; or already open, with the
-- start
pub data Beginning : Type 0 where
  opens : List ℕ → List (Bor (List ℕ)) → Lsn → Lsn → List ℕ → Beginning
  is_open : Lsn → Beginning

-- the run that it makes
abbrev pub run_begun : Settings → Beginning → Run
run_begun s (opens slot publications position start out) = (open_of s slot publications position start out).run
run_begun s (is_open start) = (already_open_of s start).1

-- whether it begins in Opening
abbrev pub is_opening : Beginning → Bool
is_opening (opens slot publications position start out) = true
is_opening (is_open start) = false

-- the position at which confirmations begin
abbrev pub start_of : Beginning → Lsn
start_of (opens slot publications position start out) = start
start_of (is_open start) = start

-- a step with so many of the next untaken bytes unread and an output, or a report of a file, which may be any number
pub data Call : Type 0 where
  step : Input → ℕ → List ℕ → Call
  report : ℕ → Lsn → Moment → Call

-- what the calls left: the run, the payload buffer, how many bytes the run took, what can be observed of each step, the events handed on, and
-- what each step wrote
pub record Played : Type 0 where
  pub run : Run
  pub payload : List ℕ
  pub taken : ℕ
  pub observed : List Observation
  pub events : List Happened
  pub written : List (List ℕ)

-- one step more
abbrev pub stepped : Played → Input → Outcome → Played
stepped s i o =
    record {
      run = o.run;
      payload = o.payload;
      taken = s.taken + o.taken;
      observed = s.observed ++ (record { stop = i.stop; queue = i.queue; refusal = o.refusal; taken = o.taken } ∷ []);
      events = s.events ++ happened_of o.event o.payload;
      written = s.written ++ (take o.written o.out ∷ []);
    }

-- one report more
abbrev pub reported : Played → Run → Played
reported s r =
    record { run = r; payload = s.payload; taken = s.taken; observed = s.observed; events = s.events; written = s.written }

-- the payload buffer and the untaken bytes are handed on from step to step, the output is any at each step
abbrev pub lent_to : List ℕ → Played → ℕ → List ℕ → Lent
lent_to bytes s n out = record { unread = take n (drop s.taken bytes); payload = s.payload; out = out }

-- one call more
abbrev pub play_one : List ℕ → Played → Call → Played
play_one bytes s (step i n out) = stepped s i (step_of s.run i (lent_to bytes s n out))
play_one bytes s (report file position moment) = reported s (report_of s.run file position moment).1

-- call after call
unfoldable pub play_all : List ℕ → Played → List Call → Played
play_all bytes s [] = s
play_all bytes s (c ∷ cs) = play_all bytes (play_one bytes s c) cs

-- before the first call
abbrev pub begun : Run → List ℕ → Played
begun r payload = record { run = r; payload = payload; taken = 0; observed = []; events = []; written = [] }

-- the whole list
unfoldable pub played : Settings → Beginning → List ℕ → List ℕ → List Call → Played
played s b bytes payload cs = play_all bytes (begun (run_begun s b) payload) cs

-- what the trace of such a list is given
abbrev pub setup_of : Settings → Beginning → List ℕ → ℕ → Setup
setup_of s b bytes room = record { settings = s; opening = is_opening b; start = start_of b; bytes = bytes; room = room }
