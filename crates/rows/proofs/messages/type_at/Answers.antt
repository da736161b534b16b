-- The identifier and two names.
use Rattle.wire.specs.Answer.{maybe}
use Rattle.wire.proofs.FieldLaws.{told as said}
use Rattle.rows.specs.Layout.{name, both}
use Rattle.rows.specs.Rows.{type_of}
use Rattle.rows.specs.Head.{head_of}
use Rattle.rows.proofs.Heads.{first_cut, name_missing, type_missing, type_whole}
use Rattle.rows.proofs.HandedOn.{handed_on}
use Rattle.rows.proofs.messages.type_at.Goals as goal

pub returns-in_default : goal.returns-in_default
returns-in_default c =
    let a = c.args in
    first_cut a.bytes.now 4 (both name name) (λ v. head_of (type_of v)) (said maybe c.read_u32.ensures c.in_default.is)

pub returns-in_err-namespace : goal.returns-in_err-namespace
returns-in_err-namespace c =
    let a = c.args in
    rw (handed_on _ c.from_residual.ensures)
    (name_missing a.bytes.now 4 _ (said maybe c.read_u32.ensures c.in-Some.is) name (λ v. head_of (type_of v)) c.in_err-namespace.ensures)

pub returns-in_err-name : goal.returns-in_err-name
returns-in_err-name c =
    rw (handed_on _ c.from_residual-in_err-name.ensures)
    (type_missing c.args.bytes.now _ (said maybe c.read_u32.ensures c.in-Some.is) c.in_ok-namespace.ensures c.in_err-name.ensures)

pub returns : goal.returns
returns c = type_whole c.args.bytes.now _ (said maybe c.read_u32.ensures c.in-Some.is) c.in_ok-namespace.ensures c.in_ok-name.ensures
