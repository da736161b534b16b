use Rattle.wire.proofs.Signed.{NotNegative, not_negative, Negative, negative}
use native.Mathlib.Omega.{arith}
use Rattle.wire.proofs.field.of_signed.Goals as goal
use Rattle.wire.proofs.field.of_signed.Lts as places
use Rattle.wire.proofs.field.of_signed.Reads.{Pre, Post}

positive : (c : places.Then1 Pre Post) → NotNegative c.args.half c.args.v
positive c = not_negative c.args.half c.requires.0 c.args.v c.requires.1 c.if-v-ge0.true

flipped : (c : places.Else1 Pre Post) → Negative c.args.half c.args.v
flipped c = negative c.args.half c.requires.0 c.args.v c.requires.1 c.if-v-ge0.false

pub overflow_cast-result : goal.overflow_cast-result
overflow_cast-result c = let k = positive c in rw k.seen (tt, k.fits)

pub overflow_sub-result-else-v-ge0 : goal.overflow_sub-result-else-v-ge0
overflow_sub-result-else-v-ge0 c = let k = flipped c in rw k.flipped (record { sfits = omega (arith, k.below_half, c.requires.0) })

pub overflow_cast-result-else-v-ge0 : goal.overflow_cast-result-else-v-ge0
overflow_cast-result-else-v-ge0 c = let k = flipped c in rw (k.flipped, k.seen) (tt, record { fits = omega (arith, k.below_half, c.requires.0) })

pub overflow_sub-result-else-v-ge0-2 : goal.overflow_sub-result-else-v-ge0-2
overflow_sub-result-else-v-ge0-2 c = let k = flipped c in rw (k.flipped, k.seen) (omega (arith, k.below_half))

pub returns-then-v-ge0 : goal.returns-then-v-ge0
returns-then-v-ge0 c = let k = positive c in rw k.seen k.value

pub returns-else-v-ge0 : goal.returns-else-v-ge0
returns-else-v-ge0 c = let k = flipped c in rw (k.flipped, k.seen) k.value
