-- The tag, and the length field after it.
use Rattle.wire.proofs.Pieces.{filling_start, filling_next, filling_last}
use Rattle.frontend.proofs.Laws.{header_pieces, length_header}
use Rattle.frontend.specs.Code.{header}
use Prim.Native.Nat.{◌+◌, ◌≤◌}
use native.Mathlib.Omega.{arith}
use lib.ListN.{length}
use Rattle.frontend.proofs.place_header.Goals as goal

pub returns : goal.returns
returns c =
    let a = c.args in
    let h : 0 + length (header a.tag a.n) ≤ length a.out.now = omega (arith, c.requires, length_header a.tag a.n) in
    filling_last h (filling_next h _ (filling_start (header_pieces a.tag a.n (omega arith))) c.write_u8-a.ensures) c.write_be.ensures
