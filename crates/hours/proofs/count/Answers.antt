-- By the sign.
use mathlib.Core.Path.{sym, ap}
use Prim.Native.Nat.{◌^◌, ◌≤◌}
use native.Mathlib.Omega.{arith}
use Rattle.wire.proofs.Signed.{NotNegative, not_negative, Negative, negative}
use Rattle.hours.specs.Code.{counted}
use Rattle.hours.proofs.Floor.{within_pos, within_neg}
use Rattle.hours.proofs.count.Goals as goal
use Rattle.hours.proofs.count.Lts as places
use Rattle.hours.proofs.count.Reads.{Pre, Post}

positive : (c : places.Then1 Pre Post) → NotNegative (2 ^ 63) c.args.moment
positive c = not_negative (2 ^ 63) (omega arith) c.args.moment c.ranges.moment.sfits c.if-moment-ge0.true

flipped : (c : places.Else1 Pre Post) → Negative (2 ^ 63) c.args.moment
flipped c = negative (2 ^ 63) (omega arith) c.args.moment c.ranges.moment.sfits c.if-moment-ge0.false

most : (c : places.Then1 Pre Post) → (positive c).n ≤ 4611686018427387904
most c = within_pos 4611686018427387903 _ (rw (positive c).same at c.requires)

least : (c : places.Else1 Pre Post) → (flipped c).n ≤ 4611686018427387903
least c = within_neg 4611686018427387903 _ (rw (flipped c).same at c.requires)

pub overflow_cast-result : goal.overflow_cast-result
overflow_cast-result c = let k = positive c in rw k.seen (tt, k.fits)

pub overflow_add-result : goal.overflow_add-result
overflow_add-result c = let k = positive c in rw k.seen (record { fits = omega (arith, most c) })

pub overflow_sub-result-else-moment-ge0 : goal.overflow_sub-result-else-moment-ge0
overflow_sub-result-else-moment-ge0 c = let k = flipped c in rw k.flipped (record { sfits = omega (arith, k.below_half) })

pub overflow_cast-result-else-moment-ge0 : goal.overflow_cast-result-else-moment-ge0
overflow_cast-result-else-moment-ge0 c = let k = flipped c in rw (k.flipped, k.seen) (tt, record { fits = omega (arith, k.below_half) })

pub overflow_sub-result-else-moment-ge0-2 : goal.overflow_sub-result-else-moment-ge0-2
overflow_sub-result-else-moment-ge0-2 c = let k = flipped c in rw (k.flipped, k.seen) (omega (arith, least c))

pub returns-then-moment-ge0 : goal.returns-then-moment-ge0
returns-then-moment-ge0 c = let k = positive c in rw k.seen (sym (ap counted k.same))

pub returns-else-moment-ge0 : goal.returns-else-moment-ge0
returns-else-moment-ge0 c = let k = flipped c in rw (k.flipped, k.seen) (sym (ap counted k.same))
