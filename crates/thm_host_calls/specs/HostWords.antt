-- Words as a host's author reads them, by their numbers: the settings, the input of a step, and what is told of an event, a waiting time, an error
-- and the next step. None of the maps that the code uses stands here. SCOPE 9.1, 9.2.
use Rattle.std.specs.Prelude.{ℕ, ◌+◌, ◌-◌, ◌≤◌, min, Bool, true, false, List, [], ◌∷◌, ◌≡◌, ℤ, pos, negsuc, length, get_or, eqb}
use Rattle.std.proofs.Math.Option.{Option, some, none}
use Rattle.wire.specs.Bytes.{pick}
use Rattle.moment.specs.declared.Moment.{Moment}
use Rattle.worker.specs.declared.Input.{Input}
use Rattle.worker.specs.declared.Queue.{Queue}
use Rattle.worker.specs.declared.Queue.TheVariants.{Free, Full, Closed}
use Rattle.worker.specs.declared.Settings.{Settings}
use Rattle.thm_any_calls.specs.Tests.{part, lsn}
use Rattle.thm_any_calls.specs.Happened.{Happened}
use Rattle.thm_any_calls.specs.Happened as H

-- ---- one word

-- the word of a number
abbrev pub word : List ℕ → ℕ → ℕ
word w k = get_or w k 0

-- a flag is set by every word but 0
abbrev pub is_set : ℕ → Bool
is_set n = pick (eqb n 0) false true

-- a flag is told as 1 or 0
abbrev pub flag : Bool → ℕ
flag b = pick b 1 0

-- a time in two's complement of 64 bits
abbrev pub twos : ℤ → ℕ
twos (pos n) = n
twos (negsuc n) = 18446744073709551615 - n

abbrev pub moment : ℕ → Moment
moment m = record { 0 = m }

-- ---- what a host hands in

-- seven words: status interval, idle interval, limit, whether there is a stop position, the stop position, timing, binary
abbrev pub settings_by : List ℕ → Settings
settings_by w =
    record {
      status_interval = word w 0;
      idle_wakeup_interval = word w 1;
      max_message_size = word w 2;
      has_stop = is_set (word w 3);
      stop_at_lsn = lsn (word w 4);
      timing = is_set (word w 5);
      binary = is_set (word w 6);
    }

-- what a step or an advance is handed beside the lent bytes: moment, client time, stop, queue, whether the input has ended
pub record Words : Type 0 where
  pub moment : ℕ
  pub time : ℤ
  pub stop : Bool
  pub queue : ℕ
  pub ended : Bool

-- 0 free, 1 full, every other word closed
abbrev pub queue_by : ℕ → Queue
queue_by n = pick (eqb n 0) Free (pick (eqb n 1) Full Closed)

-- the words of a call as the input of a step
abbrev pub input_by : Words → Input
input_by a = record { moment = moment a.moment; client_time = a.time; stop = a.stop; queue = queue_by a.queue; ended = a.ended }

-- ---- what a host reads

-- whether a waiting time is told, and which
abbrev pub wait_words : Option ℕ → List ℕ
wait_words none = 0 ∷ 0 ∷ []
wait_words (some n) = 1 ∷ n ∷ []

-- bytes that stand in a buffer at a place
pub record StandsAt (buffer : List ℕ) (place : ℕ) (bytes : List ℕ) : Type 0 where
  pub within : place + length bytes ≤ length buffer
  pub there : part buffer place (length bytes) ≡ bytes

-- a Message: its prefix and its content stand in the payload buffer where the words say
pub record MessageTold (w buffer : List ℕ) (flagged : Bool) (position : ℕ) (prefix content : List ℕ) : Type 0 where
  pub prefix_at : ℕ
  pub content_at : ℕ
  pub words : w ≡ 4 ∷ flag flagged ∷ position ∷ prefix_at ∷ length prefix ∷ content_at ∷ length content ∷ []
  pub prefix_there : StandsAt buffer prefix_at prefix
  pub content_there : StandsAt buffer content_at content

-- other data
pub record DataTold (w buffer : List ℕ) (start end : ℕ) (time : ℤ) (bytes : List ℕ) : Type 0 where
  pub data_at : ℕ
  pub words : w ≡ 5 ∷ start ∷ end ∷ twos time ∷ data_at ∷ length bytes ∷ 0 ∷ []
  pub data_there : StandsAt buffer data_at bytes

-- seven words tell one event, with the payload buffer that its parts stand in
abbrev pub TellsOne : List ℕ → List ℕ → Happened → Type 0
TellsOne w buffer (H.keep_alive end time reply) = w ≡ 1 ∷ end ∷ twos time ∷ flag reply ∷ 0 ∷ 0 ∷ 0 ∷ []
TellsOne w buffer (H.begin final time xid) = w ≡ 2 ∷ final ∷ twos time ∷ xid ∷ 0 ∷ 0 ∷ 0 ∷ []
TellsOne w buffer (H.commit position end time) = w ≡ 3 ∷ position ∷ end ∷ twos time ∷ 0 ∷ 0 ∷ 0 ∷ []
TellsOne w buffer (H.message flagged position prefix content) = MessageTold w buffer flagged position prefix content
TellsOne w buffer (H.xlog_data start end time bytes) = DataTold w buffer start end time bytes
TellsOne w buffer (H.stopped_at reached) = w ≡ 6 ∷ reached ∷ 0 ∷ 0 ∷ 0 ∷ 0 ∷ 0 ∷ []

-- the words tell the one event, or that there is none; no answer of a step tells two
abbrev pub TellsEvent : List ℕ → List ℕ → List Happened → Type 0
TellsEvent w buffer [] = w ≡ 0 ∷ 0 ∷ 0 ∷ 0 ∷ 0 ∷ 0 ∷ 0 ∷ []
TellsEvent w buffer (e ∷ []) = TellsOne w buffer e
TellsEvent w buffer (e ∷ f ∷ es) = ⊥

-- whether an error ended the run, and how many of its bytes a payload buffer of n bytes can have
abbrev pub error_words : Option (List ℕ) → ℕ → List ℕ
error_words none n = 0 ∷ 0 ∷ []
error_words (some p) n = 1 ∷ min (length p) n ∷ []
