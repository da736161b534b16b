-- Opening hours: when the hall is open. Moments are microseconds from 2000-01-01 00:00 UTC. 02, wish 11.
use Rattle.std.specs.Prelude.{ℕ, zero, suc, ◌-◌, ◌/◌, ◌%◌, Bool, true, false, List, get_or, ℤ, pos, negsuc, neg_ℤ, ◌+ℤ◌, ◌*ℤ◌, leb, ltb}
use Rattle.std.specs.Int.Signed.{lt_z, le_z}
use Rattle.wire.specs.Bytes.{pick}
use Rattle.hours.specs.declared.Hours.{Hours}

-- opening and closing minutes, Monday first, and an offset
abbrev pub hours : List ℕ → List ℕ → ℤ → Hours
hours opens closes offset = record { opens = opens; closes = closes; offset = offset }

-- microseconds of a minute
abbrev pub minute : ℕ
minute = 60000000

-- microseconds of a week, which has 10,080 minutes
abbrev pub week : ℕ
week = 604800000000

-- the remainder of a division that is rounded down, below zero too: -1 is the last of the d numbers
abbrev pub floor_mod : ℤ → ℕ → ℕ
floor_mod (pos n) d = n % d
floor_mod (negsuc k) d = d - 1 - k % d

-- the microseconds that have passed since Monday 00:00 on the venue's clock: 2000-01-01 was a Saturday, so that moment 0 is 7,200 minutes after
-- a Monday on a clock that shows UTC, and the offset is added
unfoldable pub since_monday : ℤ → ℤ → ℕ
since_monday offset t = floor_mod (t +ℤ (offset +ℤ pos 7200) *ℤ pos minute) week

-- a window has its opening minute and not its closing minute
abbrev pub in_window : ℕ → ℕ → ℕ → Bool
in_window opens closes m = pick (leb opens m) (ltb m closes) false

-- whether the hall is open in a minute of the week, counted from Monday 00:00, by the window of its day
unfoldable pub open_at : Hours → ℕ → Bool
open_at h m = in_window (get_or h.opens (m / 1440) 0) (get_or h.closes (m / 1440) 0) (m % 1440)

-- whether the hall is open at a moment
unfoldable pub is_open : Hours → ℤ → Bool
is_open h t = open_at h (since_monday h.offset t / minute)

-- ---- inputs that are right

-- between a limit and the same with a minus sign
abbrev pub is_within_windows : ℕ → ℤ → Bool
is_within_windows limit z = pick (lt_z z (neg_ℤ (pos limit))) false (le_z z (pos limit))

-- not after its closing, and no minute above 1,440
abbrev pub is_window : ℕ → ℕ → Bool
is_window opens closes = pick (leb opens closes) (leb closes 1440) false

-- the windows of the first n days
unfoldable pub are_windows : List ℕ → List ℕ → ℕ → Bool
are_windows opens closes zero = true
are_windows opens closes (suc n) = pick (is_window (get_or opens n 0) (get_or closes n 0)) (are_windows opens closes n) false
