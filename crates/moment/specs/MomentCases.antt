-- Cases of moments, in plain numbers: SCOPE 5.4; 01, "Events and confirmations", the inputs of a step.
use Rattle.std.specs.Prelude.{◌≡◌, refl, true, false, ℕ}
use Rattle.moment.specs.declared.Moment.{Moment}
use Rattle.moment.specs.Moment.{is_before, in_range, since_of}

abbrev at : ℕ → Moment
at n = record { 0 = n }

pub record MomentCases : Type 0 where
  -- the first moment and the last, and what lies before and after them
  pub too_early : in_range (at 0) ≡ false
  pub first : in_range (at 1) ≡ true
  pub latest : in_range (at 9223372036854775807) ≡ true
  pub too_late : in_range (at 9223372036854775808) ≡ false
  -- a moment is not before itself
  pub before : is_before (at 1) (at 2) ≡ true
  pub same : is_before (at 2) (at 2) ≡ false
  pub after : is_before (at 3) (at 2) ≡ false
  -- the time from one to the other, 0 where the other lies ahead
  pub passed : since_of (at 5) (at 2) ≡ 3
  pub ahead : since_of (at 2) (at 5) ≡ 0

-- they hold, by computing
pub moment_cases : MomentCases
moment_cases =
    record { too_early = refl; first = refl; latest = refl; too_late = refl; before = refl; same = refl; after = refl; passed = refl; ahead = refl }
