-- The words in which the table, the plain reading and the counters make their tests. They are their own, down to the numbers: what the step's
-- definition means by words of the same name plays no part in what condition 3 says. What is shared with it stands in Shared, and nowhere else.
use Rattle.std.specs.Prelude.{Bool, true, false, List, [], ◌∷◌, ◌++◌, ℕ, ◌-◌, ◌/◌, min, length, take, drop, eqb, ltb, leb}
use Rattle.wire.specs.Bytes.{pick}
use Rattle.lsn.specs.declared.Lsn.{Lsn}
use Rattle.moment.specs.declared.Moment.{Moment}
use Rattle.worker.specs.declared.State.{State}
use Rattle.worker.specs.declared.State.TheVariants.{Opening, Turn, Drain, Reading, Waiting, Handling, Offering, Ended}

-- ---- the tests of a case

infixl 20 ◌⇒◌
-- a test, and what it gives where it holds
abbrev pub ◌⇒◌ : {A : Type 0} → Bool → A → Bool × A
c ⇒ y = (c, y)

-- what the first test that holds gives, or what stands after them all
abbrev pub first_of : {A : Type 0} → List (Bool × A) → A → A
first_of [] y = y
first_of (t ∷ ts) y = pick t.0 t.1 (first_of ts y)

-- a and b
abbrev pub both : Bool → Bool → Bool
both a b = pick a b false

-- b and not a
abbrev pub unless : Bool → Bool → Bool
unless a b = pick a false b

-- ---- parts of a buffer

-- the bytes from a place on, so many of them
abbrev pub part : List ℕ → ℕ → ℕ → List ℕ
part s from len = take len (drop from s)

-- d with s over its front; the rest of d is as it was
abbrev pub onto : List ℕ → List ℕ → List ℕ
onto s d = s ++ drop (length s) d

-- ---- tags, by their bytes: PostgreSQL documentation, "Message Formats"

-- in Opening: a CopyBothResponse, `W`; an ErrorResponse, `E`; any other
abbrev pub while_opening : {A : Type 0} → ℕ → A → A → A → A
while_opening tag opened failed other = pick (eqb tag 87) opened (pick (eqb tag 69) failed other)

-- afterwards: an ErrorResponse, `E`; a CopyDone, `c`; a CopyData, `d`; any other
abbrev pub by_tag : {A : Type 0} → ℕ → A → A → A → A → A
by_tag tag failed done copied other = pick (eqb tag 69) failed (pick (eqb tag 99) done (pick (eqb tag 100) copied other))

-- ---- states

-- the place of a state in the step table, from 0
abbrev pub place_of : State → ℕ
place_of Opening = 0
place_of Turn = 1
place_of Drain = 2
place_of Reading = 3
place_of Waiting = 4
place_of Handling = 5
place_of Offering = 6
place_of Ended = 7

-- one state is the other
abbrev pub is_in : State → State → Bool
is_in a b = eqb (place_of a) (place_of b)

-- the run is over
abbrev pub is_ended : State → Bool
is_ended Opening = false
is_ended Turn = false
is_ended Drain = false
is_ended Reading = false
is_ended Waiting = false
is_ended Handling = false
is_ended Offering = false
is_ended Ended = true

-- ---- positions and moments

-- a position of a number
abbrev pub lsn : ℕ → Lsn
lsn v = record { 0 = v }

-- one position lies below another
abbrev pub is_below : Lsn → Lsn → Bool
is_below a b = ltb a.0 b.0

-- 0 stands for no moment
abbrev pub no_moment : Moment
no_moment = record { 0 = 0 }

-- a moment is none
abbrev pub is_none : Moment → Bool
is_none m = eqb m.0 0

-- the moments that a step may be given
abbrev pub is_moment : Moment → Bool
is_moment m = pick (ltb m.0 1) false (leb m.0 9223372036854775807)

-- one moment lies before another
abbrev pub is_before : Moment → Moment → Bool
is_before a b = ltb a.0 b.0

-- the nanoseconds from b to a, 0 where b lies ahead
abbrev pub since : Moment → Moment → ℕ
since a b = a.0 - b.0

-- whole microseconds of nanoseconds
abbrev pub micros : ℕ → ℕ
micros nanos = nanos / 1000

-- ---- the limit

-- the longest payload by a setting: the setting itself, and at most 1 GiB
abbrev pub longest : ℕ → ℕ
longest setting = min setting 1073741824
