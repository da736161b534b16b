-- By the sign.
use mathlib.Core.Path.{sym, ap, ◌∙◌}
use Prim.Native.Nat.{◌^◌}
use native.Mathlib.Omega.{arith}
use Rattle.wire.proofs.Signed.{NotNegative, not_negative, Negative, negative}
use Rattle.hours.specs.Calendar.{is_within_windows}
use Rattle.hours.proofs.Floor.{within_from_zero, within_below_zero}
use Rattle.hours.proofs.is_within.Goals as goal
use Rattle.hours.proofs.is_within.Lts as places
use Rattle.hours.proofs.is_within.Reads.{Pre, Post}

positive : (c : places.Then1 Pre Post) → NotNegative (2 ^ 63) c.args.v
positive c = not_negative (2 ^ 63) (omega arith) c.args.v c.ranges.v.sfits c.if-v-ge0.true

flipped : (c : places.Else1 Pre Post) → Negative (2 ^ 63) c.args.v
flipped c = negative (2 ^ 63) (omega arith) c.args.v c.ranges.v.sfits c.if-v-ge0.false

pub overflow_cast-result : goal.overflow_cast-result
overflow_cast-result c = let k = positive c in rw k.seen (tt, k.fits)

pub overflow_sub-result : goal.overflow_sub-result
overflow_sub-result c = let k = flipped c in rw k.flipped (record { sfits = omega (arith, k.below_half) })

pub overflow_cast-result-else-v-ge0 : goal.overflow_cast-result-else-v-ge0
overflow_cast-result-else-v-ge0 c = let k = flipped c in rw (k.flipped, k.seen) (tt, record { fits = omega (arith, k.below_half) })

pub returns-then-v-ge0 : goal.returns-then-v-ge0
returns-then-v-ge0 c =
    let k = positive c in
    let l = c.args.limit in
    rw k.seen (sym (ap (is_within_windows l) k.same ∙ within_from_zero l k.n))

pub returns-else-v-ge0 : goal.returns-else-v-ge0
returns-else-v-ge0 c =
    let k = flipped c in
    let l = c.args.limit in
    rw (k.flipped, k.seen) (sym (ap (is_within_windows l) k.same ∙ within_below_zero l k.n))
