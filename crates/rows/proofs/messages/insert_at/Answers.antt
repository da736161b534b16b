-- The relation and the new tuple.
use Rattle.wire.specs.Answer.{maybe}
use Rattle.wire.proofs.FieldLaws.{told as said}
use Rattle.rows.specs.Rows.{new_layout, insert_of}
use Rattle.rows.specs.Head.{head_of}
use Rattle.rows.proofs.Heads.{first_cut, insert_whole}
use mathlib.Core.Path.{refl}
use Rattle.rows.proofs.HandedOn.{handed_on}
use Rattle.rows.proofs.messages.insert_at.Goals as goal

pub returns-in_default : goal.returns-in_default
returns-in_default c =
    let a = c.args in
    first_cut a.bytes.now 4 new_layout (λ v. head_of (insert_of v)) (said maybe c.read_u32.ensures c.in_default.is)

pub returns-in_err-new : goal.returns-in_err-new
returns-in_err-new c =
    rw (handed_on _ c.from_residual.ensures) (insert_whole c.args.bytes.now _ (said maybe c.read_u32.ensures c.in-Some.is) c.in_err-new.ensures refl)

pub returns : goal.returns
returns c = insert_whole c.args.bytes.now _ (said maybe c.read_u32.ensures c.in-Some.is) c.in_ok-new.ensures refl
