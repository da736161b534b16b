use Rattle.wire.proofs.Laws.{unplaced, placed_at, lent_tail}
use Prim.Native.Nat.{◌-◌}
use mathlib.Core.Path.{refl}
use native.Mathlib.Omega.{arith}
use lib.ListN.{length}
use Rattle.wire.proofs.store.place.Goals as goal

pub returns-then-dst-to : goal.returns-then-dst-to
returns-then-dst-to c = unplaced _ _ _ (omega arith)

pub returns-then-dst-to-2 : goal.returns-then-dst-to-2
returns-then-dst-to-2 c = unplaced _ _ _ (omega arith)

pub returns : goal.returns
returns c =
    let a = c.args in
    let w = c.copy_all in
    placed_at a.dst.now a.to (length a.src.now) a.src.now _ refl (omega arith)
    (lent_tail a.dst.now w.new.dst a.src.now a.to (length a.dst.now - a.to) (omega arith) w.ensures)
