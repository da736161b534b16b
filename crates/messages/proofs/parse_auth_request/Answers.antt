-- A code is read where there are four bytes, and the rest is what is after them.
use native.Mathlib.Omega.{arith}
use mir.Syntax.{w32}
use mir.Val.{SFits}
use mir.ValLaws.{to_z-of_z}
use Rattle.wire.specs.Answer.{maybe}
use Rattle.wire.proofs.FieldLaws.{told, int_within}
use Rattle.messages.specs.Auth.{auth_of}
use Rattle.messages.proofs.parse_auth_request.Goals as goal

pub returns-in_default : goal.returns-in_default
unfolding auth_of
returns-in_default c = simp (told maybe c.read_i32.ensures c.in_default.is)

pub overflow_sub-result : goal.overflow_sub-result
overflow_sub-result c = int_within 4 _ _ _ (told maybe c.read_i32.ensures c.in-Some.is)

pub returns : goal.returns
unfolding auth_of
returns c =
    let z = c.in-Some.code in
    let f : SFits w32 z = record { sfits = omega arith } in
    simp (to_z-of_z w32 z f, told maybe c.read_i32.ensures c.in-Some.is)
