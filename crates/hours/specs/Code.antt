-- Steps of the code: moments counted from long ago, boundaries, and minutes as a moment. SCOPE 15.
use Rattle.std.specs.Prelude.{ℕ, ◌+◌, ◌*◌, ◌-◌, ◌/◌, ◌%◌, Bool, true, false, not, get_or, ℤ, pos, negsuc, ◌+ℤ◌, ltb, ◌<◌, ◌≤◌, Option as Answer, Some, None}
use Rattle.std.proofs.Math.Option.{Option, some, none}
use Rattle.wire.specs.Bytes.{pick}
use Rattle.hours.specs.declared.Hours.{Hours}
use Rattle.hours.specs.Calendar.{minute}

-- two states are not the same
abbrev pub differs : Bool → Bool → Bool
differs true b = not b
differs false b = b

-- a moment's microseconds from eight million weeks before moment 0
abbrev pub counted : ℤ → ℕ
counted (pos n) = 4838400000000000000 + n
counted (negsuc k) = 4838400000000000000 - 1 - k

-- the minutes to the opening of a window, to its closing or to the day's end, whichever comes next
abbrev pub boundary_after : ℕ → ℕ → ℕ → ℕ
boundary_after opens closes m = pick (ltb m opens) (opens - m) (pick (ltb m closes) (closes - m) (1440 - m))

-- the minutes to the next boundary of the day in which a minute of the week lies
unfoldable pub until_boundary : Hours → ℕ → ℕ
until_boundary h m = boundary_after (get_or h.opens (m / 1440) 0) (get_or h.closes (m / 1440) 0) (m % 1440)

-- minutes to a change, if there is one: some, and not many more than a week has
abbrev pub AreMinutes : Answer ℕ → Type 0
AreMinutes None = Unit
AreMinutes (Some n) = (0 < n) × (n ≤ 11520)

-- the beginning of the j-th minute after that of a moment, which has lasted for a part of its own
abbrev pub moment_after : ℤ → ℕ → Option ℕ → Option ℤ
moment_after t part none = none
moment_after t part (some j) = some (t +ℤ pos (j * minute - part))
