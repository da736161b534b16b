-- The letter, start, end and time, one after the other.
use Prim.Native.Nat.{◌+◌, ◌≤◌}
use native.Mathlib.Omega.{arith}
use lib.ListN.{length}
use Rattle.wire.proofs.Pieces.{filling_start, filling_next, filling_last}
use Rattle.load.specs.Code.{xlog_head}
use Rattle.load.proofs.Laws.{xlog_pieces, length_xlog}
use Rattle.load.proofs.place.place_xlog_head.Goals as goal

pub returns : goal.returns
returns c =
    let a = c.args in
    let h : a.to + length (xlog_head a.start a.end) ≤ length a.out.now = omega (arith, c.requires, length_xlog a.start a.end) in
    let w₀ = filling_next h _ (filling_start (xlog_pieces a.start a.end)) c.write_u8-a.ensures in
    let w₁ = filling_next h _ w₀ c.write_u64-b.ensures in
    let w₂ = filling_next h _ w₁ c.write_u64-c.ensures in
    filling_last h w₂ c.write_u64.ensures
