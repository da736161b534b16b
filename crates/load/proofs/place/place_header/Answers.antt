-- The tag, and the length field after it.
use Prim.Native.Nat.{◌+◌, ◌≤◌}
use native.Mathlib.Omega.{arith}
use lib.ListN.{length}
use Rattle.wire.proofs.Pieces.{filling_start, filling_next, filling_last}
use Rattle.load.specs.Code.{header}
use Rattle.load.proofs.Laws.{header_pieces, length_header}
use Rattle.load.proofs.place.place_header.Goals as goal

pub returns : goal.returns
returns c =
    let a = c.args in
    let h : a.to + length (header a.n) ≤ length a.out.now = omega (arith, c.requires, length_header a.n) in
    let w₀ = filling_next h _ (filling_start (header_pieces a.n)) c.write_u8-a.ensures in
    filling_last h w₀ c.write_be.ensures
