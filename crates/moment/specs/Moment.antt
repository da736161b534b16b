-- Moments, in nanoseconds: SCOPE 5.4; 01, "Events and confirmations", the inputs of a step.
use Rattle.std.specs.Prelude.{ℕ, ◌-◌, Bool, false, ltb, leb}
use Rattle.wire.specs.Bytes.{pick}
use Rattle.moment.specs.declared.Moment.{Moment}

-- the order of moments
abbrev pub is_before : Moment → Moment → Bool
is_before a b = ltb a.0 b.0

-- the last moment
abbrev pub last : ℕ
last = 9223372036854775807

-- the moments that a step may be given
abbrev pub in_range : Moment → Bool
in_range m = pick (ltb m.0 1) false (leb m.0 last)

-- how long ago b was at a, 0 where b lies ahead: SCOPE 4.3
abbrev pub since_of : Moment → Moment → ℕ
since_of a b = a.0 - b.0
