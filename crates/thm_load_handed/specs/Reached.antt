-- The end of a generated stream is reached: where every step is lent all bytes that are not taken, a number of accepted steps that grows with the
-- number of messages alone is enough, whatever the clocks, reports, statuses and the input's end are. So LoadHanded does not speak of nothing. 02,
-- wish 13; SCOPE 16.2.
use Rattle.std.specs.Prelude.{◌≡◌, List, [], ◌∷◌, ℕ, ◌+◌, ◌*◌, ◌≤◌, ◌<◌, ◌^◌, min, false, length}
use Rattle.lsn.specs.declared.Lsn.{Lsn}
use Rattle.worker.specs.declared.Settings.{Settings}
use Rattle.thm_any_calls.specs.Plain.{accepted_ones}
use Rattle.thm_any_calls.specs.Calls.{is_open, Call, step, report, Played, played}
use Rattle.load.specs.Load.{stream_of}
use Rattle.thm_load_handed.specs.LoadHanded.{list_of, Undisturbed, holds_back}

-- each step is lent that many bytes, or all that are left
abbrev pub AllUnread : ℕ → List Call → Type 0
AllUnread len [] = Unit
AllUnread len (step i n out ∷ cs) = (len ≤ n) × AllUnread len cs
AllUnread len (report file position moment ∷ cs) = AllUnread len cs

-- four steps for a message, two for a turn, which comes once in 256 messages and is counted for each of them, and the first turn: more than are
-- needed
abbrev pub enough : ℕ → ℕ
enough n = 6 * n + 1

-- every byte is taken, nothing is held back, and the generator's list is handed on
pub record Reached (n seed : ℕ) (z : Played) : Type 0 where
  pub taken : z.taken ≡ length (stream_of n seed)
  pub none_held : holds_back z.run.state ≡ false
  pub events : z.events ≡ list_of n seed

abbrev pub LoadIsReached : Type 0
LoadIsReached =
    (s : Settings) (start : Lsn) (seed n : ℕ) (payload : List ℕ) (cs : List Call)
    → seed < 2 ^ 64 → s.has_stop ≡ false → 100 ≤ s.max_message_size → Undisturbed cs → AllUnread (length (stream_of n seed)) cs
    → let z : Played = played s (is_open start) (stream_of n seed) payload cs in enough n ≤ length (accepted_ones z.observed) → Reached n seed z

-- calls that reach it: none of them disturbed, and each step lent all bytes
pub record Reaching (s : Settings) (start : Lsn) (seed n : ℕ) (payload : List ℕ) : Type 0 where
  pub calls : List Call
  pub undisturbed : Undisturbed calls
  pub all_unread : AllUnread (length (stream_of n seed)) calls
  pub reached : Reached n seed (played s (is_open start) (stream_of n seed) payload calls)

-- there are such calls for every seed and number of messages, so that Load-is-handed-on speaks of each stream: without a stop position, with a limit
-- of at least 100, and a payload buffer as long as the limit, or 1 GiB
abbrev pub LoadCanBeReached : Type 0
LoadCanBeReached =
    (s : Settings) (start : Lsn) (seed n : ℕ) (payload : List ℕ)
    → seed < 2 ^ 64 → s.has_stop ≡ false → 100 ≤ s.max_message_size → min s.max_message_size 1073741824 ≤ length payload
    → Reaching s start seed n payload
