-- The header, and the payload after it.
use Rattle.frontend.proofs.Laws.{framed_header, length_framed}
use Rattle.wire.proofs.Pieces.{filling_start, filling_next, filling_last}
use Rattle.error.proofs.Laws.{too_long, no_room, wrote_placed}
use Rattle.frames.specs.Message.{framed}
use Prim.Native.Nat.{◌≤◌, ◌+◌}
use mathlib.Core.Path.{◌≡◌}
use native.Mathlib.Omega.{arith}
use lib.ListN.{length}
use Rattle.frontend.proofs.write_framed.Goals as goal

pub returns-then-payload-gt-INPUT_LIMIT : goal.returns-then-payload-gt-INPUT_LIMIT
returns-then-payload-gt-INPUT_LIMIT c = too_long _ _ _ c.if-payload-gt-INPUT_LIMIT.true

pub returns-then-out-n : goal.returns-then-out-n
returns-then-out-n c =
    let a = c.args in
    no_room _ _ _ (omega arith) (omega (arith, length_framed a.tag a.payload.now))

pub returns : goal.returns
returns c =
    let a = c.args in
    let p = a.payload.now in
    let l : length (framed a.tag p) ≡ length p + 5 = length_framed a.tag p in
    let f : 0 + length (framed a.tag p) ≤ length a.out.now = omega (arith, c.if-out-n.false) in
    let w = filling_next f _ (filling_start (framed_header a.tag p)) c.place_header-a.ensures in
    wrote_placed (length p) (framed a.tag p) a.out.now (omega (arith, c.if-payload-gt-INPUT_LIMIT.false)) l (omega arith) (filling_last f w c.place.ensures)
