-- The body at the front of the output.
use mir.Syntax.{w64}
use mir.ValLaws.{to_z-of_z}
use Rattle.frontend.proofs.Laws.{length_status}
use Rattle.error.proofs.Laws.{no_room, wrote_placed}
use native.Mathlib.Omega.{arith}
use Rattle.frontend.proofs.encode_standby_status_update.Goals as goal

pub returns-then-out-lt34 : goal.returns-then-out-lt34
returns-then-out-lt34 c = let a = c.args in no_room _ _ _ (omega arith) (omega (arith, length_status a.position.0 a.client_time a.reply))

pub returns : goal.returns
returns c =
    let a = c.args in
    let l = length_status a.position.0 a.client_time a.reply in
    wrote_placed _ _ _ (omega arith) l (omega (arith, c.if-out-lt34.false))
    (rw (to_z-of_z w64 a.client_time c.ranges.client_time) at c.place_status.ensures)
