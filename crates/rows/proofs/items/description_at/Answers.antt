-- The flags, the name, and what stands after them.
use mathlib.Core.Path.{sym}
use Rattle.wire.specs.Answer.{maybe}
use Rattle.wire.proofs.FieldLaws.{told as said, field_within}
use Rattle.rows.proofs.Descriptions.{flags_cut, name_cut, described_typed}
use native.Mathlib.Omega.{arith}
use Rattle.rows.proofs.HandedOn.{handed_on}
use Rattle.rows.proofs.items.description_at.Goals as goal

pub returns-in_default : goal.returns-in_default
returns-in_default c =
    let a = c.args in
    sym (flags_cut a.bytes.now a.at (said maybe c.read_u8.ensures c.in_default.is))

pub overflow_add-at : goal.overflow_add-at
overflow_add-at c = omega (arith, field_within 1 _ _ _ (said maybe c.read_u8.ensures c.in-Some.is))

pub returns-in_err-name : goal.returns-in_err-name
returns-in_err-name c =
    let a = c.args in
    rw (handed_on _ c.from_residual.ensures) (sym (name_cut a.bytes.now a.at _ (said maybe c.read_u8.ensures c.in-Some.is) c.in_err-name.ensures))

pub returns : goal.returns
returns c =
    let a = c.args in
    sym (described_typed a.bytes.now a.at _ (said maybe c.read_u8.ensures c.in-Some.is) c.in_ok-name.ensures c.typed.ensures)
