-- The letter, the position three times, the time and the flag, one after the other.
use mir.Syntax.{w64}
use mir.ValLaws.{to_z-of_z}
use Rattle.frontend.proofs.Laws.{status_pieces, length_status}
use Rattle.wire.proofs.Pieces.{filling_start, filling_next, filling_last}
use Rattle.wire.specs.Bytes.{be_bytes}
use Rattle.frontend.specs.Frontend.{status_body}
use Prim.Native.Nat.{◌≤◌, ◌+◌}
use native.Mathlib.Omega.{arith}
use lib.ListN.{length}
use Rattle.frontend.proofs.place_status.Goals as goal

pub returns : goal.returns
returns c =
    let a = c.args in
    let l = length_status a.position a.client_time a.reply in
    let h : a.to + length (status_body a.position a.client_time a.reply) ≤ length a.out.now = omega (arith, c.requires) in
    let w₀ = filling_next h (be_bytes 1 114) (filling_start (status_pieces a.position a.client_time a.reply)) c.write_u8-a.ensures in
    let w₁ = filling_next h _ w₀ c.write_u64-b.ensures in
    let w₂ = filling_next h _ w₁ c.write_u64-c.ensures in
    let w₃ = filling_next h _ w₂ c.write_u64-d.ensures in
    let w₄ = filling_next h _ w₃ (rw (to_z-of_z w64 a.client_time c.ranges.client_time) at c.write_i64-e.ensures) in
    filling_last h w₄ c.write_u8.ensures
