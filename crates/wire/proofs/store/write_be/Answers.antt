use Rattle.wire.proofs.Laws.{unplaced, placed_at, length_be_bytes}
use native.Mathlib.Omega.{arith}
use Rattle.wire.proofs.store.write_be.Goals as goal

pub returns-then-dst-to : goal.returns-then-dst-to
returns-then-dst-to c = let a = c.args in unplaced a.dst.now a.to _ (rw length_be_bytes (omega arith))

pub returns-then-dst-to-2 : goal.returns-then-dst-to-2
returns-then-dst-to-2 c = let a = c.args in unplaced a.dst.now a.to _ (rw length_be_bytes (omega arith))

pub returns : goal.returns
returns c =
    let a = c.args in
    placed_at a.dst.now a.to a.n _ _ (length_be_bytes a.n a.v) (omega arith) c.store_be.ensures
