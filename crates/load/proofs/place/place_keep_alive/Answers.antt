-- The letter, the end, the time and the reply, one after the other.
use Prim.Native.Nat.{◌+◌, ◌≤◌}
use native.Mathlib.Omega.{arith}
use lib.ListN.{length}
use lib.IntN.{pos}
use Rattle.wire.proofs.Pieces.{filling_start, filling_next, filling_last}
use Rattle.replication.specs.CopyData.{keep_alive}
use Rattle.load.specs.Load.{bit}
use Rattle.load.proofs.Laws.{keep_alive_pieces, length_keep_alive}
use Rattle.load.proofs.place.place_keep_alive.Goals as goal

pub returns : goal.returns
returns c =
    let a = c.args in
    let h : a.to + length (keep_alive a.end (pos 0) (bit a.reply)) ≤ length a.out.now = omega (arith, c.requires, length_keep_alive a.end (bit a.reply)) in
    let w₀ = filling_next h _ (filling_start (keep_alive_pieces a.end a.reply)) c.write_u8-a.ensures in
    let w₁ = filling_next h _ w₀ c.write_u64-b.ensures in
    let w₂ = filling_next h _ w₁ c.write_u64-c.ensures in
    filling_last h w₂ c.write_u8.ensures
