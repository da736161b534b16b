-- after the end there is no byte
use Rattle.wire.specs.Find.{index_of}
use mathlib.Core.Path.{sym, ap}
use Prim.Native.Nat.{◌≤◌}
use lib.ListN.{length, drop_of_length-le}
use native.Mathlib.Omega.{arith}
use Rattle.reader.proofs.zero_from.Goals as goal

pub returns-in_default : goal.returns-in_default
unfolding index_of
returns-in_default c =
    let a = c.args in
    let e = c.in_default.ensures.lookup.0 in
    let far : length a.bytes.now ≤ a.at = grind arith in
    sym (ap (index_of 0) (drop_of_length-le a.bytes.now far))
