-- The plain reading, sentence by sentence: what it gives for steps that are made up here. No run is played. SCOPE 8.4, 8.5.
use Rattle.std.specs.Prelude.{◌≡◌, refl, Bool, true, false, List, [], ◌∷◌, ◌++◌, ℕ, take, replicate, pos}
use Rattle.std.proofs.Math.Option.{Option, some, none}
use Rattle.wire.specs.Find.{index_of}
use Rattle.frames.specs.Message.{framed}
use Rattle.replication.specs.CopyData.{xlog_data}
use Rattle.pgoutput.specs.Boundary.{message_bytes}
use Rattle.worker.specs.declared.Queue.{Queue}
use Rattle.worker.specs.declared.Queue.TheVariants.{Free, Full}
use Rattle.thm_any_calls.specs.Happened.{Happened}
use Rattle.thm_any_calls.specs.Happened as H
use Rattle.thm_any_calls.specs.Plain.{Observation, plain_of}
use Rattle.thm_any_calls.specs.RunCases.{keep_alive_bytes, begin_at, commit_at, computed}

-- ---- steps

-- takes so many bytes
abbrev pub takes : ℕ → Observation
takes n = record { stop = false; queue = Free; refusal = 0; taken = n }

-- takes none, with stop seen or not and a queue
abbrev pub meets : Bool → Queue → Observation
meets stop queue = record { stop = stop; queue = queue; refusal = 0; taken = 0 }

-- is refused with a number
abbrev pub is_refused : ℕ → Observation
is_refused n = record { stop = false; queue = Free; refusal = n; taken = 0 }

-- a step that meets a free queue or a full one, without and with a stop request
abbrev pub free : Observation
free = meets false Free

abbrev pub full : Observation
full = meets false Full

abbrev pub free_stop : Observation
free_stop = meets true Free

abbrev pub full_stop : Observation
full_stop = meets true Full

-- ---- messages: a Begin has 51 bytes on the wire

-- data that is no boundary, at a wal end
abbrev pub insert_at : ℕ → List ℕ
insert_at end = framed 0x64 (xlog_data 1 end (pos 3) (0x49 ∷ 0 ∷ []))

-- a message of the server by its tag alone
abbrev pub empty : ℕ → List ℕ
empty tag = framed tag []

-- ---- readings

-- with a limit of 64
abbrev pub reading : Option ℕ → Bool → List ℕ → List Observation → List Happened
reading stop opening bytes ts = plain_of (record { stop = stop; limit = 64 }) opening bytes ts

-- already open, no stop position, all bytes taken by one step, and steps enough for two events after it
abbrev pub all : List ℕ → List Happened
all bytes = reading none false bytes (takes 1000 ∷ free ∷ free ∷ free ∷ [])

-- the events of Begins
abbrev pub begun : ℕ → Happened
begun final = H.begin final (pos 0) 7

-- the plain reading of short streams
pub record PlainCases : Type 0 where
  -- as many of the first bytes are cut into messages as the taken counts add up to
  pub counts_add_up : reading none false (begin_at 1 ++ begin_at 2) (takes 20 ∷ takes 31 ∷ free ∷ free ∷ []) ≡ begun 1 ∷ []
  pub next_bytes : reading none false (begin_at 1 ++ begin_at 2) (takes 20 ∷ takes 31 ∷ takes 51 ∷ free ∷ free ∷ []) ≡ begun 1 ∷ begun 2 ∷ []
  -- a run that began in Opening has no events before the first `W`
  pub after_opening :
      reading none true (keep_alive_bytes ++ (empty 0x57 ++ (begin_at 1 ++ keep_alive_bytes))) (takes 1000 ∷ free ∷ free ∷ [])
      ≡ begun 1 ∷ H.keep_alive 0x10 (pos 0) false ∷ []
  pub never_opened : reading none true (keep_alive_bytes ++ begin_at 1) (takes 1000 ∷ free ∷ free ∷ []) ≡ []
  pub error_in_opening : reading none true (empty 0x45 ++ (empty 0x57 ++ begin_at 1)) (takes 1000 ∷ free ∷ free ∷ []) ≡ []
  -- an unfinished message, one that its header refuses, and an `E` end the reading
  pub unfinished : all (begin_at 1 ++ take 50 (begin_at 2)) ≡ begun 1 ∷ []
  pub length_three : all (begin_at 1 ++ (0x64 ∷ 0 ∷ 0 ∷ 0 ∷ 3 ∷ begin_at 2)) ≡ begun 1 ∷ []
  pub over_the_limit : all (begin_at 1 ++ (framed 0x64 (replicate 65 0) ++ begin_at 2)) ≡ begun 1 ∷ []
  pub server_error : all (begin_at 1 ++ (empty 0x45 ++ begin_at 2)) ≡ begun 1 ∷ []
  -- so does a `c`, the server's CopyDone, with a payload too; not before the first `W`
  pub server_done : all (begin_at 1 ++ (empty 0x63 ++ begin_at 2)) ≡ begun 1 ∷ []
  pub done_with_payload : all (begin_at 1 ++ (framed 0x63 (1 ∷ 2 ∷ 3 ∷ []) ++ begin_at 2)) ≡ begun 1 ∷ []
  pub done_at_first : all (empty 0x63 ++ begin_at 1) ≡ []
  pub done_unfinished : all (begin_at 1 ++ take 4 (empty 0x63)) ≡ begun 1 ∷ []
  pub done_over_the_limit : all (begin_at 1 ++ (framed 0x63 (replicate 65 0) ++ begin_at 2)) ≡ begun 1 ∷ []
  pub done_in_opening :
      reading none true (empty 0x63 ++ (empty 0x57 ++ keep_alive_bytes)) (takes 1000 ∷ free ∷ free ∷ []) ≡ H.keep_alive 0x10 (pos 0) false ∷ []
  pub done_after_opening : reading none true (empty 0x57 ++ (begin_at 1 ++ (empty 0x63 ++ begin_at 2))) (takes 1000 ∷ free ∷ free ∷ []) ≡ begun 1 ∷ []
  -- an event before it waits for the queue, and the `c` behind the event; a stop request seen with the `c` drops nothing
  pub event_before_done : reading none false (begin_at 1 ++ empty 0x63) (takes 51 ∷ free ∷ full ∷ full ∷ []) ≡ []
  pub done_after_event : reading none false (begin_at 1 ++ empty 0x63) (takes 51 ∷ free ∷ full ∷ free ∷ takes 5 ∷ free ∷ []) ≡ begun 1 ∷ []
  pub done_with_stop : reading none false (begin_at 1 ++ empty 0x63) (takes 51 ∷ free ∷ free ∷ takes 5 ∷ full_stop ∷ []) ≡ begun 1 ∷ []
  -- of other messages only a `d` gives events
  pub others_skipped : all (empty 0x4E ++ (begin_at 1 ++ (empty 0x57 ++ begin_at 2))) ≡ begun 1 ∷ begun 2 ∷ []
  -- a `d` gives one event by the rules of CopyData and boundaries; what is no boundary is other data
  pub a_commit : all (commit_at 0x200 0x50) ≡ H.commit 0x200 0x50 (pos 0) ∷ []
  pub a_message :
      all (framed 0x64 (xlog_data 0 0 (pos 0) (message_bytes 1 5 (0x61 ∷ []) (0x62 ∷ 0x63 ∷ []))))
      ≡ H.message true 5 (0x61 ∷ []) (0x62 ∷ 0x63 ∷ []) ∷ []
  pub other_data : all (insert_at 2) ≡ H.xlog_data 1 2 (pos 3) (0x49 ∷ 0 ∷ []) ∷ []
  -- a `d` that is refused ends the reading without an event: an empty CopyData (10), a Begin of its letter alone (16)
  pub copy_data_refused : all (begin_at 1 ++ (empty 0x64 ++ begin_at 2)) ≡ begun 1 ∷ []
  pub boundary_refused : all (begin_at 1 ++ (framed 0x64 (xlog_data 0 0 (pos 0) (66 ∷ [])) ++ begin_at 2)) ≡ begun 1 ∷ []
  -- StoppedAt follows the event that reaches the stop position, and ends the reading
  pub stop_reached :
      reading (some 2) false (begin_at 1 ++ (insert_at 2 ++ begin_at 3)) (takes 1000 ∷ free ∷ free ∷ free ∷ [])
      ≡ begun 1 ∷ H.xlog_data 1 2 (pos 3) (0x49 ∷ 0 ∷ []) ∷ H.stopped_at 2 ∷ []
  pub keepalive_goes_on :
      reading (some 0x10) false (keep_alive_bytes ++ begin_at 1) (takes 1000 ∷ free ∷ free ∷ []) ≡ H.keep_alive 0x10 (pos 0) false ∷ begun 1 ∷ []
  -- events of messages before the last whole one are all handed on
  pub all_but_the_last : reading none false (begin_at 1 ++ begin_at 2) (takes 51 ∷ takes 51 ∷ []) ≡ begun 1 ∷ []
  -- of the accepted steps since its last byte, the first handles the message, each later one offers an event
  pub not_handled : reading none false (begin_at 1) (takes 51 ∷ []) ≡ []
  pub not_offered : reading none false (begin_at 1) (takes 51 ∷ free ∷ []) ≡ []
  pub offered_then : reading none false (begin_at 1) (takes 51 ∷ free ∷ free ∷ []) ≡ begun 1 ∷ []
  pub refused_do_neither : reading none false (begin_at 1) (takes 51 ∷ is_refused 5 ∷ free ∷ is_refused 2 ∷ is_refused 3 ∷ is_refused 4 ∷ []) ≡ []
  -- a free queue takes an event
  pub taken_at_once : reading none false (begin_at 1) (takes 51 ∷ full_stop ∷ free_stop ∷ []) ≡ begun 1 ∷ []
  -- a stop request cuts an event and the rest off, where the queue is full now or was before
  pub dropped_now : reading none false (begin_at 1) (takes 51 ∷ free ∷ full_stop ∷ free ∷ []) ≡ []
  pub dropped_later : reading none false (begin_at 1) (takes 51 ∷ free ∷ full ∷ free_stop ∷ free ∷ []) ≡ []
  pub rest_cut_off : reading (some 1) false (begin_at 1) (takes 51 ∷ free ∷ free ∷ full_stop ∷ free ∷ []) ≡ begun 1 ∷ []
  -- else an event waits
  pub still_waits : reading none false (begin_at 1) (takes 51 ∷ free ∷ full ∷ full ∷ []) ≡ []
  pub waited : reading none false (begin_at 1) (takes 51 ∷ free ∷ full ∷ full ∷ free ∷ []) ≡ begun 1 ∷ []

-- each by computing the definitions
pub plain_cases : PlainCases
unfolding computed index_of message_bytes
plain_cases =
    record {
      counts_add_up = refl;
      next_bytes = refl;
      after_opening = refl;
      never_opened = refl;
      error_in_opening = refl;
      unfinished = refl;
      length_three = refl;
      over_the_limit = refl;
      server_error = refl;
      server_done = refl;
      done_with_payload = refl;
      done_at_first = refl;
      done_unfinished = refl;
      done_over_the_limit = refl;
      done_in_opening = refl;
      done_after_opening = refl;
      event_before_done = refl;
      done_after_event = refl;
      done_with_stop = refl;
      others_skipped = refl;
      a_commit = refl;
      a_message = refl;
      other_data = refl;
      copy_data_refused = refl;
      boundary_refused = refl;
      stop_reached = refl;
      keepalive_goes_on = refl;
      all_but_the_last = refl;
      not_handled = refl;
      not_offered = refl;
      offered_then = refl;
      refused_do_neither = refl;
      taken_at_once = refl;
      dropped_now = refl;
      dropped_later = refl;
      rest_cut_off = refl;
      still_waits = refl;
      waited = refl;
    }
