-- A second reading of opening hours, by weeks, weekdays and minutes of a day: whether the hall is open, when that changes, and which questions are
-- refused. It shares no definition with Calendar.antt. SCOPE 15; 02, wish 11.
use Rattle.std.specs.Prelude.{◌≡◌, Bool, true, false, not, ◌⊎◌, ℕ, suc, ◌+◌, ◌*◌, ◌≤◌, ◌<◌, get_or, ℤ, pos, negsuc, ◌+ℤ◌, ◌*ℤ◌, ◌<ℤ◌}
use Rattle.std.proofs.Math.Option.{Option, some, none}
use Rattle.hours.specs.declared.Hours.{Hours}
use Rattle.hours.specs.Calendar.{is_open}
use Rattle.hours.specs.Answer.{hours_of}

-- ---- whether the hall is open

-- where a moment stands on the venue's clock: so many weeks after Monday, 27 December 1999, which is five days before Saturday, 1 January 2000; on
-- which weekday, 0 for Monday to 6 for Sunday; in which minute of the day, and so many microseconds into it
pub record Stands (offset t : ℤ) : Type 0 where
  pub weeks : ℤ
  pub weekday : ℕ
  pub in_minute : ℕ
  pub micros : ℕ
  pub seven_days : weekday < 7
  pub day_long : in_minute < 1440
  pub minute_long : micros < 60000000
  pub sum : (t +ℤ offset *ℤ pos 60000000) +ℤ pos 432000000000
      ≡ weeks *ℤ pos 604800000000 +ℤ pos (weekday * 86400000000 + in_minute * 60000000 + micros)

-- a minute of the day is within a window (true) or not (false): the opening minute is, the closing minute is not
abbrev pub Within : ℕ → ℕ → ℕ → Bool → Type 0
Within opens closes m true = (opens ≤ m) × (m < closes)
Within opens closes m false = (m < opens) ⊎ (closes ≤ m)

-- the hall is open (true) or shut (false) at a moment, by the window of the weekday on which it stands
pub record Is (h : Hours) (t : ℤ) (state : Bool) : Type 0 where
  pub stands : Stands h.offset t
  pub by_window : Within (get_or h.opens stands.weekday 0) (get_or h.closes stands.weekday 0) stands.in_minute state

-- the definition says so exactly where the reading does, for every calendar, offset and moment: so each moment has a state, and one only
abbrev pub OpenIsRead : Type 0
OpenIsRead = (h : Hours) (t : ℤ) (state : Bool) → (is_open h t ≡ state → Is h t state) × (Is h t state → is_open h t ≡ state)

-- ---- the next change

-- u is the first later moment with another state
pub record FirstChange (h : Hours) (t : ℤ) (state : Bool) (u : ℤ) : Type 0 where
  pub is_later : t <ℤ u
  pub is_other : Is h u (not state)
  pub as_before : (v : ℤ) → t <ℤ v → v <ℤ u → Is h v state

-- the change that is told: at that moment, or never, where all later moments have the same state
abbrev pub ChangeIs : Hours → ℤ → Bool → Option ℤ → Type 0
ChangeIs h t state none = (v : ℤ) → t <ℤ v → Is h v state
ChangeIs h t state (some u) = FirstChange h t state u

-- ---- refusals

-- a window that opens after it closes, or a minute above 1,440
pub record WrongWindow (h : Hours) : Type 0 where
  pub day : ℕ
  pub seven_days : day < 7
  pub wrong : (get_or h.closes day 0 < get_or h.opens day 0) ⊎ ((1440 < get_or h.opens day 0) ⊎ (1440 < get_or h.closes day 0))

-- no window of the seven is so
abbrev pub RightWindows : Hours → Type 0
RightWindows h =
    (day : ℕ) → day < 7 → (get_or h.opens day 0 ≤ get_or h.closes day 0) × (get_or h.opens day 0 ≤ 1440) × (get_or h.closes day 0 ≤ 1440)

-- a number from minus a limit to the limit: with the limit added it is at most twice the limit
pub record Inside (limit : ℕ) (z : ℤ) : Type 0 where
  pub sum : ℕ
  pub is_sum : z +ℤ pos limit ≡ pos sum
  pub most : sum ≤ limit + limit

-- above a limit, or below minus the limit
pub data Outside : ℕ → ℤ → Type 0 where
  above : {limit : ℕ} (k : ℕ) → Outside limit (pos (limit + suc k))
  below : {limit : ℕ} (k : ℕ) → Outside limit (negsuc (limit + k))

-- what each question is answered: 32, 33 and 34 in their order; else 0, the state and its change. Refused, no state and no change is told
pub data Answered (h : Hours) (t : ℤ) : ℕ → Bool → Option ℤ → Type 0 where
  invalid_window : WrongWindow h → Answered h t 32 false none
  offset_out_of_range : RightWindows h → Outside 840 h.offset → Answered h t 33 false none
  moment_out_of_range : RightWindows h → Inside 840 h.offset → Outside 4611686018427387904 t → Answered h t 34 false none
  answered : {state : Bool} {next : Option ℤ} → RightWindows h → Inside 840 h.offset → Inside 4611686018427387904 t → Is h t state
      → ChangeIs h t state next → Answered h t 0 state next

-- every question has that answer and no other, in both directions
abbrev pub HoursAreAnswered : Type 0
HoursAreAnswered =
    (h : Hours) (t : ℤ) (number : ℕ) (state : Bool) (next : Option ℤ)
    → (hours_of h t ≡ (number, (state, next)) → Answered h t number state next)
    × (Answered h t number state next → hours_of h t ≡ (number, (state, next)))
