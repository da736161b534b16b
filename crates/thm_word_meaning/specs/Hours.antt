-- What the call about opening hours returns and answers, whatever it is asked: whether the hall is open, whether that changes, and when, in two's
-- complement. SCOPE 9.8.
use Rattle.std.specs.Prelude.{ℕ, ◌≤◌, ◌<◌, List, [], ◌∷◌, ◌≡◌, ℤ, pos, negsuc}
use Rattle.std.proofs.Math.Option.{some, none}
use Rattle.hours.specs.Answer.{next_of}
use Rattle.hours.specs.Calendar.{hours, is_open}
use Rattle.hours.specs.Words.{hours_call}
use Rattle.thm_host_calls.specs.HostWords.{word, flag, twos}

-- no window of the seven days closes before it opens or after minute 1,440
abbrev pub Windows : List ℕ → List ℕ → Type 0
Windows opens closes = (d : ℕ) → d < 7 → (word opens d ≤ word closes d) × (word closes d ≤ 1440)

-- from minus a limit to the limit; negsuc n is minus n + 1
abbrev pub Inside : ℕ → ℤ → Type 0
Inside limit (pos n) = n ≤ limit
Inside limit (negsuc n) = n < limit

-- below minus a limit, or above the limit
abbrev pub Outside : ℕ → ℤ → Type 0
Outside limit (pos n) = limit < n
Outside limit (negsuc n) = limit ≤ n

-- 32 for a window, then 33 for an offset above 840 minutes either way, then 34 for a moment that is too far, with words that are 0; else 0
pub record HoursWords (opens closes : List ℕ) (offset moment : ℤ) : Type 0 where
  pub closes_first : (d : ℕ) → d < 7 → word closes d < word opens d → hours_call opens closes offset moment ≡ (32, 0 ∷ 0 ∷ 0 ∷ [])
  pub past_midnight : (d : ℕ) → d < 7 → 1440 < word closes d → hours_call opens closes offset moment ≡ (32, 0 ∷ 0 ∷ 0 ∷ [])
  pub bad_offset : Windows opens closes → Outside 840 offset → hours_call opens closes offset moment ≡ (33, 0 ∷ 0 ∷ 0 ∷ [])
  pub bad_moment : Windows opens closes → Inside 840 offset → Outside 4611686018427387904 moment
      → hours_call opens closes offset moment ≡ (34, 0 ∷ 0 ∷ 0 ∷ [])
  pub changes : Windows opens closes → Inside 840 offset → Inside 4611686018427387904 moment
      → (later : ℤ) → next_of (hours opens closes offset) moment ≡ some later
      → hours_call opens closes offset moment ≡ (0, flag (is_open (hours opens closes offset) moment) ∷ 1 ∷ twos later ∷ [])
  pub stays : Windows opens closes → Inside 840 offset → Inside 4611686018427387904 moment → next_of (hours opens closes offset) moment ≡ none
      → hours_call opens closes offset moment ≡ (0, flag (is_open (hours opens closes offset) moment) ∷ 0 ∷ 0 ∷ [])

-- of any words, offset and moment
abbrev pub HoursTold : Type 0
HoursTold = (opens closes : List ℕ) (offset moment : ℤ) → HoursWords opens closes offset moment
