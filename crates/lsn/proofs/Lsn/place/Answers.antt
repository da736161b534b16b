-- Counted first, then the three pieces, one after the other.
use Rattle.wire.proofs.Laws.{unplaced}
use Rattle.lsn.proofs.Laws.{displayed}
use native.Mathlib.Omega.{arith}
use Rattle.lsn.proofs.Lsn.place.Goals as goal

pub returns-then-out-to : goal.returns-then-out-to
returns-then-out-to c = unplaced _ _ _ (omega arith)

pub returns-then-out-to-2 : goal.returns-then-out-to-2
returns-then-out-to-2 c = unplaced _ _ _ (omega arith)

pub returns : goal.returns
returns c =
    displayed _ _ _ (omega (arith, c.if-out-to-2.false, c.text_len.ensures)) c.place_hex-a.ensures c.place-b.ensures c.place_hex.ensures
