-- The bytes written and those to come are the name with its quotes doubled.
use Rattle.config.specs.OptionValue.{quoted}
use Rattle.config.proofs.Laws.{doubled_next, doubled_end}
use Rattle.wire.proofs.Pieces.{filling_room, filling_next, filling_end}
use native.Mathlib.Omega.{arith}
use lib.ListN.{get_or}
use Rattle.config.proofs.fill_name.Goals as goal

pub put_byte-to-requires : goal.put_byte-to-requires
put_byte-to-requires c =
    filling_room c.requires (quoted (get_or c.args.s.now c.loop-c.c-index 0)) _ (rw (doubled_next c.args.s.now c.loop-c.c-index (omega arith)) at c.loop-c.invariant)

pub loop-c-preserved : goal.loop-c-preserved
loop-c-preserved c =
    let a = c.args in
    filling_next c.requires _ (rw (doubled_next a.s.now c.loop-c.c-index (omega arith)) at c.loop-c.invariant) c.put_byte-to.ensures

pub returns : goal.returns
returns c =
    filling_end c.requires (rw (doubled_end c.args.s.now c.loop-c.c-index (omega arith)) at c.loop-c.invariant)
