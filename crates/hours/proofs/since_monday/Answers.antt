-- The count and the minutes to Saturday, within the week.
use mathlib.Core.Path.{◌≡◌, sym}
use Prim.Native.Nat.{◌≤◌}
use native.Mathlib.Omega.{arith}
use lib.IntN.{pos, ◌+ℤ◌}
use mir.Syntax.{w64}
use mir.ValLaws.{to_z-of_z}
use Rattle.hours.specs.Code.{counted}
use Rattle.hours.proofs.Floor.{counted_most, since_now}
-- what the calls answer, of the numbers that they are given
use Rattle.hours.proofs.since_monday.Goals as goal
use Rattle.hours.proofs.since_monday.Lts as places
use Rattle.hours.proofs.since_monday.Reads.{Pre, Post}
use Rattle.hours.proofs.since_monday.Tie.{the-claims}

count : (c : places.After-to_saturday the-claims Pre Post) → c.count.result ≡ counted c.args.moment
count c = rw (to_z-of_z w64 c.args.moment c.ranges.moment) at c.count.ensures

saturday : (c : places.After-to_saturday the-claims Pre Post) → (c.args.offset +ℤ pos 7200 ≡ pos c.to_saturday.result) × (c.to_saturday.result ≤ 8040)
saturday c = rw (to_z-of_z w64 c.args.offset c.ranges.offset) at c.to_saturday.ensures

pub count-requires : goal.count-requires
count-requires c = rw (to_z-of_z w64 c.args.moment c.ranges.moment) c.requires.1

pub to_saturday-requires : goal.to_saturday-requires
to_saturday-requires c = rw (to_z-of_z w64 c.args.offset c.ranges.offset) c.requires.0

pub overflow_add-result : goal.overflow_add-result
overflow_add-result c =
    omega (arith, counted_most c.args.moment c.requires.1, count c, (saturday c).1)

pub returns : goal.returns
returns c =
    rw (count c) (sym (since_now c.args.offset c.args.moment c.to_saturday.result (saturday c).0 c.requires.1))
