-- The texts are counted; where all has room, the length, the version, the texts and the end are written one after the other.
use mir.Syntax.{w32}
use mir.ValLaws.{to_z-of_z}
use Rattle.frontend.proofs.Laws.{startup_front, length_startup}
use Rattle.wire.proofs.Pieces.{filling_room, filling_next, filling_last}
use Rattle.error.proofs.Laws.{too_long, no_room, wrote_placed, counted_fits, counted_over}
use Rattle.frontend.specs.Frontend.{startup}
use Rattle.frontend.specs.Code.{strings}
use Prim.Native.Nat.{◌≤◌, ◌+◌}
use native.Mathlib.Omega.{arith}
use lib.ListN.{length}
use Rattle.frontend.proofs.write_startup.Goals as goal

pub returns-in_default : goal.returns-in_default
returns-in_default c = too_long _ _ _ (counted_over _ _ c.inputs_len.ensures c.in_default.is)

pub overflow_add-n : goal.overflow_add-n
overflow_add-n c =
    let k = counted_fits _ _ _ c.inputs_len.ensures c.in-Some.is in
    omega (arith, k.1)

pub overflow_add-n-2 : goal.overflow_add-n-2
overflow_add-n-2 c =
    let k = counted_fits _ _ _ c.inputs_len.ensures c.in-Some.is in
    omega (arith, k.1)

pub overflow_add-n-3 : goal.overflow_add-n-3
overflow_add-n-3 c =
    let k = counted_fits _ _ _ c.inputs_len.ensures c.in-Some.is in
    omega (arith, k.1)

pub returns-then-out-n : goal.returns-then-out-n
returns-then-out-n c =
    let a = c.args in
    let k = counted_fits _ _ _ c.inputs_len.ensures c.in-Some.is in
    no_room _ _ _ (omega arith) (omega (arith, length_startup a.version a.texts.now))

pub place_strings-c-requires : goal.place_strings-c-requires
place_strings-c-requires c =
    let a = c.args in
    let k = counted_fits _ _ _ c.inputs_len.ensures c.in-Some.is in
    let room : 0 + length (startup a.version a.texts.now) ≤ length a.out.now = omega (arith, length_startup a.version a.texts.now) in
    let f = startup_front a.version a.texts.now a.out.now room (rw (← k.0) at c.write_be-a.ensures)
    (rw (to_z-of_z w32 a.version c.ranges.version) at c.write_i32-b.ensures) in
    filling_room room (strings a.texts.now) _ f

pub returns : goal.returns
returns c =
    let a = c.args in
    let k = counted_fits _ _ _ c.inputs_len.ensures c.in-Some.is in
    let room : 0 + length (startup a.version a.texts.now) ≤ length a.out.now = omega (arith, length_startup a.version a.texts.now) in
    let f = startup_front a.version a.texts.now a.out.now room (rw (← k.0) at c.write_be-a.ensures)
    (rw (to_z-of_z w32 a.version c.ranges.version) at c.write_i32-b.ensures) in
    let w = filling_last room (filling_next room (strings a.texts.now) f c.place_strings-c.ensures) c.write_be.ensures in
    rw (← k.0) (wrote_placed _ (startup a.version a.texts.now) _ (omega arith) (length_startup a.version a.texts.now) (omega (arith, c.if-out-n.false)) w)
