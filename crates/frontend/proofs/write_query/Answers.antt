-- The header, the text, and the zero byte that ends it.
use Rattle.frontend.proofs.Laws.{query_pieces, length_query}
use Rattle.wire.proofs.Pieces.{filling_start, filling_next, filling_last}
use Rattle.error.proofs.Laws.{too_long, no_room, wrote_placed}
use Rattle.frontend.specs.Frontend.{query}
use Rattle.frontend.specs.Code.{header}
use Prim.Native.Nat.{◌≤◌, ◌+◌}
use mathlib.Core.Path.{◌≡◌}
use native.Mathlib.Omega.{arith}
use lib.ListN.{length}
use Rattle.frontend.proofs.write_query.Goals as goal

pub returns-then-text-gt-INPUT_LIMIT : goal.returns-then-text-gt-INPUT_LIMIT
returns-then-text-gt-INPUT_LIMIT c = too_long _ _ _ c.if-text-gt-INPUT_LIMIT.true

pub returns-then-out-n : goal.returns-then-out-n
returns-then-out-n c = no_room _ _ _ (omega arith) (omega (arith, length_query c.args.text.now))

pub returns : goal.returns
returns c =
    let a = c.args in
    let p = a.text.now in
    let l : length (query p) ≡ length p + 6 = length_query p in
    let f : 0 + length (query p) ≤ length a.out.now = omega (arith, c.if-out-n.false) in
    let w = filling_next f (header 81 (length p + 1)) (filling_start (query_pieces p)) c.place_header-a.ensures in
    let w' = filling_last f (filling_next f p w c.place-b.ensures) c.write_u8.ensures in
    wrote_placed (length p) (query p) a.out.now (omega (arith, c.if-text-gt-INPUT_LIMIT.false)) l (omega arith) w'
