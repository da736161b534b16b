-- Days whose weekday is known, windows at their edges, and questions at the ends of every range. 02, wish 11.
use Rattle.std.specs.Prelude.{◌≡◌, refl, true, false, [], ◌∷◌, ℕ, ◌+◌, ◌*◌, ℤ, pos, negsuc}
use Rattle.std.proofs.Math.Option.{some, none}
use Rattle.hours.specs.declared.Hours.{Hours}
use Rattle.hours.specs.Calendar.{hours, minute, since_monday, open_at, is_open, are_windows}
use Rattle.hours.specs.Answer.{change_from, next_of, hours_of}

-- microseconds of days
abbrev pub days : ℕ → ℕ
days n = n * 86400000000

-- the microsecond of the week at known days, on a clock that shows UTC
pub record DayCases : Type 0 where
  -- Saturday, 1 January 2000, and the microsecond before it
  pub saturday : since_monday (pos 0) (pos 0) ≡ days 5
  pub friday : since_monday (pos 0) (negsuc 0) + 1 ≡ days 5
  -- Monday, 3 January 2000, and the microsecond before it
  pub monday : since_monday (pos 0) (pos 172800000000) ≡ 0
  pub sunday : since_monday (pos 0) (pos 172799999999) + 1 ≡ days 7
  -- Tuesday, 29 February 2000, 59 days later
  pub leap_day : since_monday (pos 0) (pos 5097600000000) ≡ days 1
  -- Thursday, 1 January 1970, 10,957 days before
  pub epoch : since_monday (pos 0) (negsuc 946684799999999) ≡ days 3
  -- Monday, 16 November 2026, 9,816 days later
  pub later_monday : since_monday (pos 0) (pos 848102400000000) ≡ 0
  -- an offset of an hour: the venue's clock shows Saturday 01:00
  pub ahead : since_monday (pos 60) (pos 0) ≡ days 5 + 60 * minute
  pub behind : since_monday (negsuc 59) (pos 0) + 60 * minute ≡ days 5

-- each by computing
pub day_cases : DayCases
unfolding since_monday
day_cases =
    record { saturday = refl; friday = refl; monday = refl; sunday = refl; leap_day = refl; epoch = refl; later_monday = refl; ahead = refl; behind = refl }

-- ---- questions

-- a moment so many minutes after Monday, 3 January 2000, 00:00 UTC
abbrev pub on_monday : ℕ → ℕ
on_monday m = 172800000000 + m * minute

-- windows on Monday and on Tuesday, none on the other days
abbrev pub two_days : ℕ → ℕ → ℕ → ℕ → ℤ → Hours
two_days a b c d offset = hours (a ∷ c ∷ 0 ∷ 0 ∷ 0 ∷ 0 ∷ 0 ∷ []) (b ∷ d ∷ 0 ∷ 0 ∷ 0 ∷ 0 ∷ 0 ∷ []) offset

-- the refusal's number, whether the hall is open, and when that changes
pub record HoursCases : Type 0 where
  -- Monday 600 to 660: the opening minute is open, the closing minute shut
  pub before : hours_of (two_days 600 660 0 0 (pos 0)) (pos (on_monday 599)) ≡ (0, (false, some (pos (on_monday 600))))
  pub opening : hours_of (two_days 600 660 0 0 (pos 0)) (pos (on_monday 600)) ≡ (0, (true, some (pos (on_monday 660))))
  pub last_minute : hours_of (two_days 600 660 0 0 (pos 0)) (pos (on_monday 659 + 59999999)) ≡ (0, (true, some (pos (on_monday 660))))
  pub tuesday : hours_of (two_days 600 660 30 40 (pos 0)) (pos (on_monday 660)) ≡ (0, (false, some (pos (on_monday 1470))))
  -- an hour ahead of UTC the hall opens an hour sooner
  pub offset_added : hours_of (two_days 600 660 0 0 (pos 60)) (pos (on_monday 500)) ≡ (0, (false, some (pos (on_monday 540))))
  -- open to 1,440 and on from 0 is no change
  pub over_midnight : hours_of (two_days 1430 1440 0 10 (pos 0)) (pos (on_monday 1435)) ≡ (0, (true, some (pos (on_monday 1450))))
  -- open to 1,440 and on from 1 is a change at midnight, and another at minute 1
  pub to_midnight : hours_of (two_days 1430 1440 1 10 (pos 0)) (pos (on_monday 1435)) ≡ (0, (true, some (pos (on_monday 1440))))
  pub from_one : hours_of (two_days 1430 1440 1 10 (pos 0)) (pos (on_monday 1440)) ≡ (0, (false, some (pos (on_monday 1441))))
  -- equal minutes mean shut all day
  pub last_is_shut : hours_of (two_days 1440 1440 1 10 (pos 0)) (pos (on_monday 1439)) ≡ (0, (false, some (pos (on_monday 1441))))
  -- before moment 0: the microsecond before Saturday, which is open from 0 to 10
  pub before_zero : hours_of (hours (0 ∷ 0 ∷ 0 ∷ 0 ∷ 0 ∷ 0 ∷ 0 ∷ []) (0 ∷ 0 ∷ 0 ∷ 0 ∷ 0 ∷ 10 ∷ 0 ∷ []) (pos 0)) (negsuc 0) ≡ (0, (false, some (pos 0)))
  -- 32, then 33, then 34, at their limits
  pub window_late : hours_of (two_days 601 600 0 0 (pos 841)) (pos 0) ≡ (32, (false, none))
  pub window_long : hours_of (two_days 0 1441 0 0 (pos 0)) (pos 0) ≡ (32, (false, none))
  pub offset_far : hours_of (two_days 0 0 0 0 (pos 841)) (pos 4611686018427387905) ≡ (33, (false, none))
  pub offset_back : hours_of (two_days 0 0 0 0 (negsuc 840)) (pos 0) ≡ (33, (false, none))
  pub moment_late : hours_of (two_days 0 0 0 0 (pos 840)) (pos 4611686018427387905) ≡ (34, (false, none))
  pub moment_early : hours_of (two_days 0 0 0 0 (negsuc 839)) (negsuc 4611686018427387904) ≡ (34, (false, none))

-- each by computing
pub hours_cases : HoursCases
unfolding since_monday open_at is_open are_windows change_from next_of hours_of
hours_cases =
    record {
      before = refl;
      opening = refl;
      last_minute = refl;
      tuesday = refl;
      offset_added = refl;
      over_midnight = refl;
      to_midnight = refl;
      from_one = refl;
      last_is_shut = refl;
      before_zero = refl;
      window_late = refl;
      window_long = refl;
      offset_far = refl;
      offset_back = refl;
      moment_late = refl;
      moment_early = refl;
    }
