-- Two digits a byte, counted first.
use Rattle.wire.proofs.Laws.{unplaced, placed_at}
use Rattle.text.proofs.Laws.{length_hex_bytes}
use Prim.Native.Nat.{◌*◌}
use native.Mathlib.Omega.{arith}
use lib.ListN.{length}
use Rattle.text.proofs.place_hex_bytes.Goals as goal

pub returns-then-out-to : goal.returns-then-out-to
returns-then-out-to c = unplaced _ _ _ (omega arith)

pub returns-then-out-to-2 : goal.returns-then-out-to-2
returns-then-out-to-2 c = unplaced _ _ _ (omega (arith, length_hex_bytes c.args.s.now))

pub returns : goal.returns
returns c =
    let a = c.args in
    placed_at a.out.now a.to (length a.s.now * 2) _ _ (length_hex_bytes a.s.now) (omega arith) c.spell_bytes.ensures
