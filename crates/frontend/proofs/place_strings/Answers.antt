-- The texts written and those to come, each with its zero byte, are all texts.
use Rattle.frontend.proofs.Laws.{strings_next, strings_end}
use Rattle.wire.specs.Bytes.{be_bytes}
use Rattle.wire.proofs.Pieces.{filling_next, filling_end}
use Rattle.error.specs.Inputs.{name_at}
use native.Mathlib.Omega.{arith}
use Rattle.frontend.proofs.place_strings.Goals as goal

pub loop-text-preserved : goal.loop-text-preserved
loop-text-preserved c =
    let t = c.args.texts.now in
    let f = rw (strings_next t c.loop-text.text-index (omega arith)) at c.loop-text.invariant in
    let w = filling_next c.requires (name_at t c.loop-text.text-index) f c.place-end.ensures in
    filling_next c.requires (be_bytes 1 0) w c.write_u8-to.ensures

pub returns : goal.returns
returns c =
    filling_end c.requires (rw (strings_end c.args.texts.now c.loop-text.text-index (omega arith)) at c.loop-text.invariant)
