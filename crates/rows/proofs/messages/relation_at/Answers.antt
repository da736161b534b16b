-- The identifier, two names, the replica identity, and the columns.
use Rattle.wire.specs.Answer.{maybe}
use Rattle.wire.proofs.FieldLaws.{told as said, field_within}
use native.Mathlib.Omega.{arith}
use Rattle.rows.specs.Layout.{number, name, many, both, nothing}
use Rattle.rows.specs.Rows.{described_layout, relation_of}
use Rattle.rows.specs.Head.{head_of}
use Rattle.rows.proofs.Heads.{first_cut, name_missing, second_missing, identity_missing, relation_whole}
use mathlib.Core.Path.{refl}
use Rattle.rows.proofs.HandedOn.{handed_on}
use Rattle.rows.proofs.messages.relation_at.Goals as goal

pub returns-in_default : goal.returns-in_default
returns-in_default c =
    let a = c.args in
    first_cut a.bytes.now 4 (both name (both name (both (number 1) (many 2 nothing described_layout)))) (λ v. head_of (relation_of v))
    (said maybe c.read_u32.ensures c.in_default.is)

pub returns-in_err-namespace : goal.returns-in_err-namespace
returns-in_err-namespace c =
    let a = c.args in
    rw (handed_on _ c.from_residual.ensures)
    (name_missing a.bytes.now 4 _ (said maybe c.read_u32.ensures c.in-Some.is) (both name (both (number 1) (many 2 nothing described_layout))) (λ v. head_of (relation_of v))
    c.in_err-namespace.ensures)

pub returns-in_err-name : goal.returns-in_err-name
returns-in_err-name c =
    let a = c.args in
    rw (handed_on _ c.from_residual-in_err-name.ensures)
    (second_missing a.bytes.now _ (said maybe c.read_u32.ensures c.in-Some.is) c.in_ok-namespace.ensures
    (both (number 1) (many 2 nothing described_layout)) (λ v. head_of (relation_of v))
    c.in_err-name.ensures)

pub returns-in_default-read_u8 : goal.returns-in_default-read_u8
returns-in_default-read_u8 c =
    identity_missing c.args.bytes.now _ (said maybe c.read_u32.ensures c.in-Some.is) c.in_ok-namespace.ensures c.in_ok-name.ensures
    (said maybe c.read_u8.ensures c.in_default-read_u8.is)

pub overflow_add-next : goal.overflow_add-next
overflow_add-next c = omega (arith, field_within 1 _ _ _ (said maybe c.read_u8.ensures c.in-Some-read_u8.is))

pub returns-in_err-described : goal.returns-in_err-described
returns-in_err-described c =
    rw (handed_on _ c.from_residual-in_err-described.ensures)
    (relation_whole c.args.bytes.now _ (said maybe c.read_u32.ensures c.in-Some.is) c.in_ok-namespace.ensures c.in_ok-name.ensures _
    (said maybe c.read_u8.ensures c.in-Some-read_u8.is) c.in_err-described.ensures refl)

pub returns : goal.returns
returns c =
    relation_whole c.args.bytes.now _ (said maybe c.read_u32.ensures c.in-Some.is) c.in_ok-namespace.ensures c.in_ok-name.ensures _
    (said maybe c.read_u8.ensures c.in-Some-read_u8.is) c.in_ok-described.ensures refl
