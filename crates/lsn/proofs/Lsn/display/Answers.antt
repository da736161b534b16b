-- The ways out of a writer without inputs, by the length that was counted.
use mathlib.Core.Path.{sym}
use native.Mathlib.Omega.{arith}
use Rattle.error.proofs.Laws.{no_room, wrote_placed}
use Rattle.lsn.proofs.Lsn.display.Goals as goal

pub returns-then-out-n : goal.returns-then-out-n
returns-then-out-n c = no_room _ _ _ (omega arith) (omega arith)

pub returns : goal.returns
returns c =
    wrote_placed _ _ _ (omega arith) (sym c.text_len-n.ensures) c.if-out-n.false c.place.ensures
