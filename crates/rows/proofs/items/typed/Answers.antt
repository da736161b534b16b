-- The type, then the type modifier.
use mir.Syntax.{w32}
use mir.Val.{SFits}
use mir.ValLaws.{to_z-of_z}
use mathlib.Core.Path.{◌≡◌}
use Prim.Native.Nat.{◌+◌}
use Rattle.wire.specs.Answer.{maybe}
use Rattle.wire.proofs.FieldLaws.{told as said, field_within, int_within}
use Rattle.rows.specs.Layout.{number, integer}
use Rattle.rows.proofs.Steps.{number_got, number_cut, integer_got, integer_cut, both_got, both_refused, pair_got}
use native.Mathlib.Omega.{arith}
use Rattle.rows.proofs.items.typed.Goals as goal

pub returns-in_default : goal.returns-in_default
returns-in_default c =
    let a = c.args in
    let e = number_cut a.bytes.now a.at 4 (said maybe c.read_u32.ensures c.in_default.is) in
    rw (both_refused a.bytes.now a.at (number 4) integer 26 e)

pub overflow_add-at : goal.overflow_add-at
overflow_add-at c = omega (arith, field_within 4 _ _ _ (said maybe c.read_u32.ensures c.in-Some.is))

pub returns-in_default-read_i32 : goal.returns-in_default-read_i32
returns-in_default-read_i32 c =
    let a = c.args in
    let e = integer_cut a.bytes.now (a.at + 4) (said maybe c.read_i32.ensures c.in_default-read_i32.is) in
    rw (both_got a.bytes.now a.at (number 4) integer _ _ (number_got a.bytes.now a.at 4 _ (said maybe c.read_u32.ensures c.in-Some.is)), e)

pub overflow_add-result : goal.overflow_add-result
overflow_add-result c = omega (arith, int_within 4 _ _ _ (said maybe c.read_i32.ensures c.in-Some-read_i32.is))

pub returns : goal.returns
returns c =
    let a = c.args in
    let z = c.in-Some-read_i32.modifier in
    let f : SFits w32 z = record { sfits = omega arith } in
    let e = integer_got a.bytes.now (a.at + 4) z (said maybe c.read_i32.ensures c.in-Some-read_i32.is) in
    let n : a.at + 4 + 4 ≡ a.at + 8 = omega arith in
    simp (to_z-of_z w32 z f, pair_got a.bytes.now a.at (number 4) integer _ _ _ _ (number_got a.bytes.now a.at 4 _ (said maybe c.read_u32.ensures c.in-Some.is)) e, n)
