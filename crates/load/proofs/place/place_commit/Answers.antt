-- The letter, the flags, two positions and the time, one after the other.
use Prim.Native.Nat.{◌+◌, ◌≤◌}
use native.Mathlib.Omega.{arith}
use lib.ListN.{length}
use lib.IntN.{pos}
use Rattle.wire.proofs.Pieces.{filling_start, filling_next, filling_last}
use Rattle.pgoutput.specs.Boundary.{commit_bytes}
use Rattle.load.proofs.Laws.{commit_pieces, length_commit}
use Rattle.load.proofs.place.place_commit.Goals as goal

pub returns : goal.returns
returns c =
    let a = c.args in
    let h : a.to + length (commit_bytes 0 a.lsn a.end_lsn (pos 0)) ≤ length a.out.now = omega (arith, c.requires, length_commit a.lsn a.end_lsn) in
    let w₀ = filling_next h _ (filling_start (commit_pieces a.lsn a.end_lsn)) c.write_u8-a.ensures in
    let w₁ = filling_next h _ w₀ c.write_u8-b.ensures in
    let w₂ = filling_next h _ w₁ c.write_u64-c.ensures in
    let w₃ = filling_next h _ w₂ c.write_u64-d.ensures in
    filling_last h w₃ c.write_u64.ensures
