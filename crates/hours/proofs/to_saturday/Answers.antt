-- The sum is not negative.
use mathlib.Core.Path.{◌≡◌}
use native.Mathlib.Omega.{arith}
use lib.IntN.{pos, ◌+ℤ◌}
use mir.Syntax.{w64}
use mir.Val.{to_z, of_z}
use mir.ValLaws.{to_z-of_z, to_z_pos}
use Rattle.hours.proofs.Floor.{Ahead, ahead}
use Rattle.hours.proofs.to_saturday.Goals as goal
use Rattle.hours.proofs.to_saturday.Lts as places
use Rattle.hours.proofs.to_saturday.Reads.{Pre, Post}

sum : (c : places.Start Pre Post) → Ahead c.args.offset
sum c = ahead c.args.offset c.requires

seen : (c : places.Start Pre Post) → to_z w64 (of_z w64 c.args.offset) +ℤ pos 7200 ≡ pos (sum c).n
seen c = rw (to_z-of_z w64 c.args.offset c.ranges.offset) (sum c).same

again : (c : places.Start Pre Post) → to_z w64 (sum c).n ≡ pos (sum c).n
again c = to_z_pos w64 (sum c).n (omega (arith, (sum c).most))

pub overflow_add-result : goal.overflow_add-result
overflow_add-result c = rw (seen c) (record { sfits = omega (arith, (sum c).most) })

pub overflow_cast-result : goal.overflow_cast-result
overflow_cast-result c = rw (seen c, again c) (tt, record { fits = omega (arith, (sum c).most) })

pub returns : goal.returns
returns c = rw (seen c, again c) ((sum c).same, (sum c).most)
