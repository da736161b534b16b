-- The letter, the final position, the time and the xid, one after the other.
use Prim.Native.Nat.{◌+◌, ◌≤◌}
use native.Mathlib.Omega.{arith}
use lib.ListN.{length}
use lib.IntN.{pos}
use Rattle.wire.proofs.Pieces.{filling_start, filling_next, filling_last}
use Rattle.pgoutput.specs.Boundary.{begin_bytes}
use Rattle.load.proofs.Laws.{begin_pieces, length_begin}
use Rattle.load.proofs.place.place_begin.Goals as goal

pub returns : goal.returns
returns c =
    let a = c.args in
    let h : a.to + length (begin_bytes a.final_lsn (pos 0) a.xid) ≤ length a.out.now = omega (arith, c.requires, length_begin a.final_lsn a.xid) in
    let w₀ = filling_next h _ (filling_start (begin_pieces a.final_lsn a.xid)) c.write_u8-a.ensures in
    let w₁ = filling_next h _ w₀ c.write_u64-b.ensures in
    let w₂ = filling_next h _ w₁ c.write_u64-c.ensures in
    filling_last h w₂ c.write_be.ensures
