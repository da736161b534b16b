-- 01's run cases, computed of the definitions: what the steps hand on, and that the plain reading gives the same. SCOPE 11.2.
use Rattle.std.specs.Prelude.{◌≡◌, refl, Bool, true, false, List, [], ◌∷◌, ◌++◌, ℕ, zero, suc, replicate, pos}
use Rattle.wire.specs.Bytes.{be, be_from, be_bytes, put}
use Rattle.wire.specs.Field.{field_at, signed, unsigned}
use Rattle.frames.specs.Message.{framed, front_of}
use Rattle.frames.specs.Cut.{cut_from, cut_of}
use Rattle.framing.specs.Read.{payload_of, judged_of, header_of, read_of}
use Rattle.frontend.specs.Frontend.{copy_data, copy_done_message, status_body, status_update}
use Rattle.replication.specs.CopyData.{copy_data_of, xlog_data, keep_alive}
use Rattle.pgoutput.specs.Boundary.{boundary_of, begin_bytes, commit_bytes}
use Rattle.progress.specs.Progress.{raise_of, looked_of, reported_of}
use Rattle.progress.specs.Files.{smallest}
use Rattle.worker.specs.declared.Settings.{Settings}
use Rattle.worker.specs.declared.Queue.TheVariants.{Free}
use Rattle.worker.specs.Run.{lsn, fresh_run}
use Rattle.worker.specs.Step.{feedback_of, opening_of, turn_of, drain_of, reading_of, waiting_of, handling_of, stalled_of, offering_of, step_in, step_of}
use Rattle.worker.specs.Session.{already_open_of}
use Rattle.thm_any_calls.specs.Tests.{is_ended}
use Rattle.thm_any_calls.specs.Happened as H
use Rattle.thm_any_calls.specs.Plain.{Observation, whole_ones, after_opening, given, span_of, after_byte, accepted_ones, offered, taken_of, plain_of}
use Rattle.thm_any_calls.specs.Trace.{bounds_of}
use Rattle.thm_any_calls.specs.Calls.{Call, step, Played, play_all, played, is_open}

-- an hour's status interval, a limit of 64 bytes, and a stop position or none
abbrev pub settings : Bool → ℕ → Settings
settings has stop =
    record {
      status_interval = 3600000000000;
      idle_wakeup_interval = 3600000000000;
      max_message_size = 64;
      has_stop = has;
      stop_at_lsn = lsn stop;
      timing = false;
      binary = false;
    }

-- a step with a free queue, by stop seen, how many bytes are unread, and whether the input ended
abbrev pub onward_with : Bool → ℕ → Bool → Call
onward_with stop n ended =
    step (record { moment = record { 0 = 1 }; client_time = pos 0; stop = stop; queue = Free; ended = ended }) n (replicate 39 0)

-- the same with no stop and all untaken bytes unread
abbrev pub onward : Bool → Call
onward ended = onward_with false 1000 ended

-- n of them, one after the other
unfoldable pub steps : ℕ → Bool → List Call
steps zero ended = []
steps (suc n) ended = onward ended ∷ steps n ended

-- a run that was already open, n steps on
abbrev pub after : Settings → List ℕ → ℕ → Bool → Played
after s bytes n ended = played s (is_open (lsn 0)) bytes (replicate 64 0) (steps n ended)

-- 64 00 00 00 16 6B, seven zero bytes, 10, nine zero bytes
abbrev pub keep_alive_bytes : List ℕ
keep_alive_bytes = 0x64 ∷ 0 ∷ 0 ∷ 0 ∷ 0x16 ∷ 0x6B ∷ 0 ∷ 0 ∷ 0 ∷ 0 ∷ 0 ∷ 0 ∷ 0 ∷ 0x10 ∷ replicate 9 0

-- a Begin with a final position
abbrev pub begin_at : ℕ → List ℕ
begin_at final = framed 0x64 (xlog_data 0 0 (pos 0) (begin_bytes final (pos 0) 7))

-- a Commit with a position and an end
abbrev pub commit_at : ℕ → ℕ → List ℕ
commit_at position end = framed 0x64 (xlog_data 0 0 (pos 0) (commit_bytes 0 position end (pos 0)))

-- the numbers that the steps were refused with
unfoldable pub refusals : List Observation → List ℕ
refusals [] = []
refusals (t ∷ ts) = t.refusal ∷ refusals ts

-- stop seen from the first step on, two messages unread
abbrev pub stopping : Played
stopping = played (settings false 0) (is_open (lsn 0)) (begin_at 1 ++ begin_at 2) (replicate 64 0) (replicate 10 (onward_with true 1000 false))

-- intervals of 0: a wait that took three bytes of a header is broken off at once
abbrev pub broken : Played
broken =
    played
    (record {
      status_interval = 0;
      idle_wakeup_interval = 0;
      max_message_size = 64;
      has_stop = false;
      stop_at_lsn = lsn 0;
      timing = false;
      binary = false;
    })
    (is_open (lsn 0)) (begin_at 1) (replicate 64 0)
    (onward false ∷ onward_with false 3 false ∷ onward_with false 3 false ∷ steps 5 false)

-- runs over short streams, computed of the definitions
pub record RunCases : Type 0 where
  -- the program's case: `K 0/10 0 0`, then `END 8`
  pub keepalive_then_end : (after (settings false 0) keep_alive_bytes 9 true).events ≡ H.keep_alive 0x10 (pos 0) false ∷ []
  pub ends_with_eight : refusals (after (settings false 0) keep_alive_bytes 9 true).observed ≡ 0 ∷ 0 ∷ 0 ∷ 0 ∷ 0 ∷ 0 ∷ 0 ∷ 0 ∷ 8 ∷ []
  -- Stop 0x100: Begin 0xFF goes on
  pub begin_goes_on : (after (settings true 0x100) (begin_at 0xFF) 7 false).events ≡ H.begin 0xFF (pos 0) 7 ∷ []
  pub still_running : is_ended (after (settings true 0x100) (begin_at 0xFF) 7 false).run.state ≡ false
  -- Stop 0x100: Begin 0x100 stops
  pub begin_stops : (after (settings true 0x100) (begin_at 0x100) 6 false).events ≡ H.begin 0x100 (pos 0) 7 ∷ H.stopped_at 0x100 ∷ []
  pub ended : is_ended (after (settings true 0x100) (begin_at 0x100) 6 false).run.state ≡ true
  -- the plain reading of the same
  pub keepalive_read :
      plain_of (bounds_of (settings false 0)) false keep_alive_bytes (after (settings false 0) keep_alive_bytes 9 true).observed
      ≡ H.keep_alive 0x10 (pos 0) false ∷ []
  pub begin_read :
      plain_of (bounds_of (settings true 0x100)) false (begin_at 0x100) (after (settings true 0x100) (begin_at 0x100) 6 false).observed
      ≡ H.begin 0x100 (pos 0) 7 ∷ H.stopped_at 0x100 ∷ []
  -- the plain reading of the steps before StoppedAt was offered
  pub begin_read_early :
      plain_of (bounds_of (settings true 0x100)) false (begin_at 0x100) (after (settings true 0x100) (begin_at 0x100) 5 false).observed
      ≡ H.begin 0x100 (pos 0) 7 ∷ []

-- 01's wrong turns (SCOPE 11.3), each with a run that would show it
pub record WrongTurns : Type 0 where
  -- a Commit stops by its end, not by its first position
  pub commit_goes_on : (after (settings true 0x100) (commit_at 0x200 0x50) 6 false).events ≡ H.commit 0x200 0x50 (pos 0) ∷ []
  pub commit_read :
      plain_of (bounds_of (settings true 0x100)) false (commit_at 0x200 0x50) (after (settings true 0x100) (commit_at 0x200 0x50) 6 false).observed
      ≡ H.commit 0x200 0x50 (pos 0) ∷ []
  -- a keepalive that asks for a reply gets reply byte 1
  pub reply_is_asked :
      (after (settings false 0) (framed 0x64 (keep_alive 0x10 (pos 0) 1)) 5 false).written
      ≡ status_update 0 (pos 0) false ∷ [] ∷ [] ∷ status_update 0 (pos 0) true ∷ [] ∷ []
  -- a stop request is not looked at between two messages of a drain
  pub drained_before_stop : stopping.events ≡ H.begin 1 (pos 0) 7 ∷ H.begin 2 (pos 0) 7 ∷ []
  pub then_stopped : stopping.written ≡ status_update 0 (pos 0) false ∷ (replicate 8 [] ++ (copy_done_message ∷ []))
  -- a header that is part read stays when a wait is broken off
  pub header_kept : broken.events ≡ H.begin 1 (pos 0) 7 ∷ []
  pub wait_broken : broken.written ≡ status_update 0 (pos 0) false ∷ [] ∷ status_update 0 (pos 0) false ∷ status_update 0 (pos 0) false ∷ replicate 4 []

-- all that the cases compute
unfoldable pub computed : Unit {0}
unfolding be be_from be_bytes put field_at signed unsigned framed front_of cut_from cut_of payload_of judged_of header_of read_of copy_data copy_done_message status_body status_update copy_data_of xlog_data keep_alive boundary_of begin_bytes smallest raise_of looked_of reported_of fresh_run already_open_of feedback_of opening_of turn_of drain_of reading_of waiting_of handling_of stalled_of offering_of step_in step_of whole_ones after_opening given span_of after_byte accepted_ones offered taken_of plain_of play_all played steps refusals commit_bytes
computed = tt

-- each by computing the definitions
pub run_cases : RunCases
unfolding computed
run_cases =
    record {
      keepalive_then_end = refl;
      ends_with_eight = refl;
      begin_goes_on = refl;
      still_running = refl;
      begin_stops = refl;
      ended = refl;
      keepalive_read = refl;
      begin_read = refl;
      begin_read_early = refl;
    }

-- each by computing the definitions
pub wrong_turns : WrongTurns
unfolding computed
wrong_turns =
    record {
      commit_goes_on = refl;
      commit_read = refl;
      reply_is_asked = refl;
      drained_before_stop = refl;
      then_stopped = refl;
      header_kept = refl;
      wait_broken = refl;
    }
