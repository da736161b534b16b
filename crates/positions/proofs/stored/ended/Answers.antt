use Rattle.test_lines.proofs.Laws.{pieces_next}
use Rattle.positions.proofs.Laws.{held_bytes}
use Rattle.positions.specs.Stored.{end_texts_of}
use Rattle.positions.proofs.stored.ended.Goals as goal

pub returns-in_default : goal.returns-in_default
unfolding end_texts_of
returns-in_default c = rw c.in_default.is c.end.ensures

pub returns : goal.returns
unfolding end_texts_of
returns c =
    let n = held_bytes c.args.line.now c.in-Some.n c.min.result c.min.ensures in
    rw c.in-Some.is (rw n at (pieces_next _ _ _ _ c.shown-a.ensures c.end-2.ensures))
