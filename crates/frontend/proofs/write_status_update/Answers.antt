-- The header, and the body after it.
use mir.Syntax.{w64}
use mir.ValLaws.{to_z-of_z}
use Rattle.frontend.proofs.Laws.{length_header, framed_header, length_framed, length_status}
use Rattle.wire.proofs.Laws.{placed_fits}
use Rattle.wire.proofs.Pieces.{filling_start, filling_next, filling_last}
use Rattle.error.proofs.Laws.{no_room, wrote_placed}
use Rattle.frames.specs.Message.{framed}
use Rattle.frontend.specs.Frontend.{copy_data, status_body, status_update}
use Rattle.frontend.specs.Code.{header}
use Prim.Native.Nat.{ℕ, ◌+◌, ◌≤◌}
use mathlib.Core.Path.{◌≡◌, ◌∙◌}
use mathlib.Core.List.{List}
use native.Mathlib.Omega.{arith}
use lib.ListN.{length}
use Rattle.frontend.proofs.write_status_update.Goals as goal

pub returns-then-out-lt39 : goal.returns-then-out-lt39
unfolding status_update copy_data
returns-then-out-lt39 c =
    let a = c.args in
    let l = length_status a.position.0 a.client_time a.reply in
    no_room 0 (status_update a.position.0 a.client_time a.reply) a.out.now (omega arith) (omega (arith, l, length_framed 100 (status_body a.position.0 a.client_time a.reply)))

pub place_status-requires : goal.place_status-requires
place_status-requires c =
    let p = placed_fits _ 0 (header 100 34) (omega (arith, length_header 100 34)) c.place_header-a.ensures in
    omega (arith, p.0, length_header 100 34)

pub returns : goal.returns
unfolding status_update copy_data
returns c =
    let a = c.args in
    let b : List ℕ = status_body a.position.0 a.client_time a.reply in
    let l : length b ≡ 34 = length_status a.position.0 a.client_time a.reply in
    let n : length (framed 100 b) ≡ 39 = length_framed 100 b ∙ omega arith in
    let h : 0 + length (framed 100 b) ≤ length a.out.now = omega (arith, c.if-out-lt39.false) in
    let w = filling_next h (header 100 34) {rest = b} (filling_start (framed_header 100 b ∙ rw l)) c.place_header-a.ensures in
    wrote_placed 0 (framed 100 b) a.out.now (omega arith) n (omega arith)
    (filling_last h w (rw (to_z-of_z w64 a.client_time c.ranges.client_time) at c.place_status.ensures))
