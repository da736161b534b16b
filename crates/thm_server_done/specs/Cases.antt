-- Run cases of the server's CopyDone, computed of the definitions. SCOPE 11.2; 02, wish 2.
use Rattle.std.specs.Prelude.{◌≡◌, refl, Bool, true, false, List, [], ◌∷◌, ◌++◌, ℕ, take, replicate, pos}
use Rattle.frames.specs.Message.{framed}
use Rattle.frontend.specs.Frontend.{copy_done_message, status_update}
use Rattle.worker.specs.declared.Queue.{Queue}
use Rattle.worker.specs.declared.Queue.TheVariants.{Free, Full}
use Rattle.worker.specs.declared.State.TheVariants.{Opening}
use Rattle.worker.specs.Run.{lsn, fresh_run}
use Rattle.thm_any_calls.specs.Tests.{is_ended}
use Rattle.thm_any_calls.specs.Happened as H
use Rattle.thm_any_calls.specs.Plain.{plain_of}
use Rattle.thm_any_calls.specs.Trace.{bounds_of}
use Rattle.thm_any_calls.specs.Calls.{Call, step, Played, play_all, begun, played, is_open}
use Rattle.thm_any_calls.specs.RunCases.{settings, onward_with, onward, steps, after, keep_alive_bytes, begin_at, refusals, computed}

-- 63 00 00 00 04, or with a payload
abbrev pub server_done : List ℕ → List ℕ
server_done payload = framed 0x63 payload

-- a step with stop seen or not and a queue, all untaken bytes unread
abbrev pub meeting : Bool → Queue → Call
meeting stop queue =
    step (record { moment = record { 0 = 1 }; client_time = pos 0; stop = stop; queue = queue; ended = false }) 1000 (replicate 39 0)

-- n steps on a Begin, a `c` and another Begin: the eighth step answers the `c`
abbrev pub drained_by : List ℕ → ℕ → Played
drained_by payload n = after (settings false 0) (begin_at 1 ++ (server_done payload ++ begin_at 2)) n false

-- a wait to which these bytes come, and calls then
abbrev pub in_wait : List ℕ → List Call → Played
in_wait bytes cs = played (settings false 0) (is_open (lsn 0)) bytes (replicate 64 0) (onward_with false 0 false ∷ onward_with false 0 false ∷ cs)

-- a run in Opening, n steps on
abbrev pub from_opening : List ℕ → ℕ → Played
from_opening bytes n = play_all bytes (begun (fresh_run (settings false 0) Opening (lsn 0)) (replicate 64 0)) (steps n false)

-- the event before the `c` finds a full queue twice; then the steps to the `c` and these calls
abbrev pub behind : List Call → Played
behind cs =
    played (settings false 0) (is_open (lsn 0)) (begin_at 1 ++ server_done []) (replicate 64 0)
    (steps 4 false ++ (meeting false Full ∷ meeting false Full ∷ onward false ∷ onward false ∷ onward false ∷ cs))

-- where a run stands
abbrev pub is_over : Played → Bool
is_over z = is_ended z.run.state

-- the first status, n steps that write nothing, and a CopyDone
abbrev pub done_after : ℕ → List (List ℕ)
done_after n = status_update 0 (pos 0) false ∷ (replicate n [] ++ (copy_done_message ∷ []))

pub record CopyDones : Type 0 where
  -- in a drain: the event before it is handed on, the step writes CopyDone and ends the run, and no counter changes
  pub in_a_drain : (drained_by [] 8).written ≡ done_after 6
  pub events_before : (drained_by [] 8).events ≡ H.begin 1 (pos 0) 7 ∷ []
  pub read_so : plain_of (bounds_of (settings false 0)) false (begin_at 1 ++ (server_done [] ++ begin_at 2)) (drained_by [] 8).observed
      ≡ H.begin 1 (pos 0) 7 ∷ []
  pub not_before : is_over (drained_by [] 7) ≡ false
  pub ended_then : is_over (drained_by [] 8) ≡ true
  pub counters_stay : (drained_by [] 8).run.metrics ≡ (drained_by [] 7).run.metrics
  pub nothing_taken : (drained_by [] 8).taken ≡ (drained_by [] 7).taken
  pub then_two : refusals (drained_by [] 10).observed ≡ replicate 8 0 ++ (2 ∷ 2 ∷ [])
  pub events_stop : (drained_by [] 10).events ≡ H.begin 1 (pos 0) 7 ∷ []
  -- with a payload
  pub with_payload : (drained_by (7 ∷ 8 ∷ 9 ∷ []) 8).written ≡ done_after 6
  -- in a wait: the step that reads it whole does not end the run, the next one does
  pub read_in_a_wait : is_over (in_wait (server_done []) (onward false ∷ [])) ≡ false
  pub in_a_wait : (in_wait (server_done []) (onward false ∷ onward false ∷ [])).written ≡ done_after 2
  pub wait_over : is_over (in_wait (server_done []) (onward false ∷ onward false ∷ [])) ≡ true
  -- stop seen in the same step, in a drain and in a wait
  pub stop_in_a_drain : (behind (meeting true Free ∷ [])).written ≡ done_after 8
  pub stop_in_a_wait : (in_wait (server_done []) (onward false ∷ meeting true Full ∷ [])).written ≡ done_after 2
  -- at a full queue it waits behind the event before it, and is answered whatever the queue is then
  pub event_first : (behind []).events ≡ H.begin 1 (pos 0) 7 ∷ []
  pub queue_full : (behind (meeting false Full ∷ [])).written ≡ done_after 8
  -- before `W` it is skipped
  pub before_opening : (from_opening (server_done [] ++ (framed 0x57 [] ++ keep_alive_bytes)) 7).events ≡ H.keep_alive 0x10 (pos 0) false ∷ []
  pub never_opened : is_over (from_opening (server_done []) 3) ≡ false
  -- after it, it is not
  pub after_opening : (from_opening (framed 0x57 [] ++ server_done []) 5).written ≡ [] ∷ done_after 2
  -- unfinished it waits, or is 9 where the input ends, in its header 8; over the limit it is 7, with a length below 4 it is 6
  pub unfinished : is_over (in_wait (take 7 (server_done (7 ∷ 8 ∷ 9 ∷ []))) (onward false ∷ onward false ∷ [])) ≡ false
  pub input_ends : refusals (in_wait (take 7 (server_done (7 ∷ 8 ∷ 9 ∷ []))) (onward false ∷ onward true ∷ [])).observed ≡ 0 ∷ 0 ∷ 0 ∷ 9 ∷ []
  pub header_ends : refusals (in_wait (take 4 (server_done [])) (onward false ∷ onward true ∷ [])).observed ≡ 0 ∷ 0 ∷ 0 ∷ 8 ∷ []
  pub over_the_limit : refusals (in_wait (server_done (replicate 65 0)) (onward false ∷ [])).observed ≡ 0 ∷ 0 ∷ 7 ∷ []
  pub length_three : refusals (in_wait (0x63 ∷ 0 ∷ 0 ∷ 0 ∷ 3 ∷ []) (onward false ∷ [])).observed ≡ 0 ∷ 0 ∷ 6 ∷ []

-- each by computing the definitions
pub copy_dones : CopyDones
unfolding computed
copy_dones =
    record {
      in_a_drain = refl;
      events_before = refl;
      read_so = refl;
      not_before = refl;
      ended_then = refl;
      counters_stay = refl;
      nothing_taken = refl;
      then_two = refl;
      events_stop = refl;
      with_payload = refl;
      read_in_a_wait = refl;
      in_a_wait = refl;
      wait_over = refl;
      stop_in_a_drain = refl;
      stop_in_a_wait = refl;
      event_first = refl;
      queue_full = refl;
      before_opening = refl;
      never_opened = refl;
      after_opening = refl;
      unfinished = refl;
      input_ends = refl;
      header_ends = refl;
      over_the_limit = refl;
      length_three = refl;
    }
