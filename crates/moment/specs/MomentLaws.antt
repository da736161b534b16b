-- Moments over all values: which are in range, which come before, and the time between two. SCOPE 4.3, 5.4; 01, "Events and confirmations", the
-- inputs of a step.
use Rattle.std.specs.Prelude.{◌≡◌, true, false, ◌+◌, ◌≤◌, ◌<◌}
use Rattle.moment.specs.declared.Moment.{Moment}
use Rattle.moment.specs.Moment.{is_before, in_range, since_of}

pub record MomentLaws : Type 0 where
  -- in range is every number from 1 to 2^63 - 1, and no other
  pub in_range_lem : (m : Moment) → 1 ≤ m.0 → m.0 ≤ 9223372036854775807 → in_range m ≡ true
  pub too_early : (m : Moment) → m.0 ≡ 0 → in_range m ≡ false
  pub too_late : (m : Moment) → 9223372036854775807 < m.0 → in_range m ≡ false
  -- a moment is before another exactly where its number is below the other's
  pub before : (a b : Moment) → a.0 < b.0 → is_before a b ≡ true
  pub not_before : (a b : Moment) → b.0 ≤ a.0 → is_before a b ≡ false
  -- the time since a moment, added to it, is the later moment; a moment that lies ahead was no time ago
  pub since : (a b : Moment) → b.0 ≤ a.0 → b.0 + since_of a b ≡ a.0
  pub since_ahead : (a b : Moment) → a.0 ≤ b.0 → since_of a b ≡ 0
