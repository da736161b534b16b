-- The position and a name.
use Rattle.wire.specs.Answer.{maybe}
use Rattle.wire.proofs.FieldLaws.{told as said}
use Rattle.rows.specs.Layout.{name}
use Rattle.rows.specs.Rows.{origin_of}
use Rattle.rows.specs.Head.{head_of}
use Rattle.rows.proofs.Heads.{first_cut, last_missing, origin_whole}
use Rattle.rows.proofs.HandedOn.{handed_on}
use Rattle.rows.proofs.messages.origin_at.Goals as goal

pub returns-in_default : goal.returns-in_default
returns-in_default c =
    let a = c.args in
    first_cut a.bytes.now 8 name (λ v. head_of (origin_of v)) (said maybe c.read_u64.ensures c.in_default.is)

pub returns-in_err-name : goal.returns-in_err-name
returns-in_err-name c =
    let a = c.args in
    rw (handed_on _ c.from_residual.ensures)
    (last_missing a.bytes.now 8 _ (said maybe c.read_u64.ensures c.in-Some.is) (λ v. head_of (origin_of v)) c.in_err-name.ensures)

pub returns : goal.returns
returns c = origin_whole c.args.bytes.now _ (said maybe c.read_u64.ensures c.in-Some.is) c.in_ok-name.ensures
