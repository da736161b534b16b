-- The names are counted, then the value, and where both are within their limits it is filled in.
use Rattle.config.specs.OptionValue.{option_value}
use Rattle.error.specs.Inputs.{total}
use Rattle.error.specs.Writer.{input_limit}
use Rattle.error.proofs.Laws.{too_long, no_room, wrote_to, counted_fits, counted_over}
use Prim.Native.Nat.{◌≤◌}
use lib.ListN.{length}
use native.Mathlib.Omega.{arith}
use Rattle.config.proofs.to_option_value.Goals as goal

pub returns-in_default : goal.returns-in_default
returns-in_default c = too_long _ _ _ (counted_over _ _ c.inputs_len.ensures c.in_default.is)

pub returns-in_default-count : goal.returns-in_default-count
returns-in_default-count c =
    let n : total c.args.names.now ≤ input_limit = let f = counted_fits _ _ _ c.inputs_len.ensures c.in-Some.is in omega arith in
    no_room _ _ _ n (counted_over _ _ c.count.ensures c.in_default-count.is)

pub fill-requires : goal.fill-requires
fill-requires c =
    let f = counted_fits _ _ _ c.count.ensures c.in-Some-count.is in
    omega arith

pub returns : goal.returns
returns c =
    let n : total c.args.names.now ≤ input_limit = let f = counted_fits _ _ _ c.inputs_len.ensures c.in-Some.is in omega arith in
    let v : length (option_value c.args.names.now) ≤ length c.args.out.now = let f = counted_fits _ _ _ c.count.ensures c.in-Some-count.is in omega arith in
    wrote_to _ _ _ n v c.fill.ensures
