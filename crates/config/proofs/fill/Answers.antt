-- The names written and those to come are the value.
use Rattle.config.specs.OptionValue.{doubled}
use Rattle.config.specs.Code.{comma_at}
use Rattle.config.proofs.Laws.{listed_start, listed_next, listed_end}
use Rattle.wire.proofs.Pieces.{filling_start, filling_room, filling_next, filling_end}
use Rattle.error.specs.Inputs.{name_at}
use mathlib.Core.Path.{sym}
use native.Mathlib.Omega.{arith}
use Rattle.config.proofs.fill.Goals as goal

pub loop-i-init : goal.loop-i-init
loop-i-init c = filling_start (sym (listed_start c.args.names.now))

pub put_comma-from-requires : goal.put_comma-from-requires
put_comma-from-requires c =
    filling_room c.requires (comma_at c.loop-i.i) _ (rw (listed_next c.args.names.now c.loop-i.i (omega arith)) at c.loop-i.invariant)

pub fill_name-to-requires : goal.fill_name-to-requires
fill_name-to-requires c =
    let f = rw (listed_next c.args.names.now c.loop-i.i (omega arith)) at c.loop-i.invariant in
    filling_room c.requires (doubled (name_at c.args.names.now c.loop-i.i)) _ (filling_next c.requires (comma_at c.loop-i.i) f c.put_comma-from.ensures)

pub loop-i-preserved : goal.loop-i-preserved
loop-i-preserved c =
    let f = rw (listed_next c.args.names.now c.loop-i.i (omega arith)) at c.loop-i.invariant in
    let g = filling_next c.requires (comma_at c.loop-i.i) f c.put_comma-from.ensures in
    filling_next c.requires _ g c.fill_name-to.ensures

pub returns : goal.returns
returns c =
    filling_end c.requires (rw (listed_end c.args.names.now c.loop-i.i (omega arith)) at c.loop-i.invariant)
