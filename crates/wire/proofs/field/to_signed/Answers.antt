use Rattle.wire.proofs.Signed.{low, high, high_fits}
use mathlib.Core.Path.{refl}
use Rattle.wire.proofs.field.to_signed.Goals as goal

pub overflow_sub-result-else-v-half-3 : goal.overflow_sub-result-else-v-half-3
overflow_sub-result-else-v-half-3 c = high_fits c.args.half c.args.v c.requires.0 c.requires.1 c.if-v-half.false

pub returns-then-v-half : goal.returns-then-v-half
returns-then-v-half c = low c.args.half c.args.v c.requires.0 c.requires.1 c.if-v-half.true

pub returns-else-v-half : goal.returns-else-v-half
returns-else-v-half c = high c.args.half c.args.v c.requires.0 c.requires.1 c.if-v-half.false _ refl
