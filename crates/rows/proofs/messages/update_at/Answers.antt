-- By the letter after the relation.
use Rattle.wire.specs.Answer.{maybe}
use Rattle.wire.proofs.FieldLaws.{told as said}
use Rattle.rows.specs.Rows.{update_of}
use Rattle.rows.specs.Head.{head_of}
use Rattle.rows.proofs.Heads.{first_cut, letter_missing, update_key, update_old, update_new, update_wrong}
use mathlib.Core.Path.{refl}
use Rattle.rows.proofs.HandedOn.{handed_on}
use Rattle.rows.proofs.messages.update_at.Goals as goal

pub returns-in_default : goal.returns-in_default
returns-in_default c =
    let a = c.args in
    first_cut a.bytes.now 4 _ (λ v. head_of (update_of v)) (said maybe c.read_u32.ensures c.in_default.is)

pub returns-in_default-read_u8 : goal.returns-in_default-read_u8
returns-in_default-read_u8 c =
    let a = c.args in
    letter_missing a.bytes.now _ (said maybe c.read_u32.ensures c.in-Some.is) _ (λ v. head_of (update_of v))
    (said maybe c.read_u8.ensures c.in_default-read_u8.is)

pub returns-then-letter-eq75 : goal.returns-then-letter-eq75
returns-then-letter-eq75 c =
    update_key c.args.bytes.now _ (said maybe c.read_u32.ensures c.in-Some.is) _ (said maybe c.read_u8.ensures c.in-Some-read_u8.is) c.if-letter-eq75.true c.updated_from.ensures

pub returns-then-letter-eq79 : goal.returns-then-letter-eq79
returns-then-letter-eq79 c =
    update_old c.args.bytes.now _ (said maybe c.read_u32.ensures c.in-Some.is) _ (said maybe c.read_u8.ensures c.in-Some-read_u8.is) c.if-letter-eq75.false c.if-letter-eq79.true
    c.updated_from-then-letter-eq79.ensures

pub returns-in_err-new : goal.returns-in_err-new
returns-in_err-new c =
    rw (handed_on _ c.from_residual.ensures)
    (update_new c.args.bytes.now _ (said maybe c.read_u32.ensures c.in-Some.is) _ (said maybe c.read_u8.ensures c.in-Some-read_u8.is) c.if-letter-eq75.false
    c.if-letter-eq79.false c.if-letter-eq78.true
    c.in_err-new.ensures refl)

pub returns-then-letter-eq78 : goal.returns-then-letter-eq78
returns-then-letter-eq78 c =
    update_new c.args.bytes.now _ (said maybe c.read_u32.ensures c.in-Some.is) _ (said maybe c.read_u8.ensures c.in-Some-read_u8.is) c.if-letter-eq75.false
    c.if-letter-eq79.false c.if-letter-eq78.true
    c.in_ok-new.ensures refl

pub returns : goal.returns
returns c =
    update_wrong c.args.bytes.now _ (said maybe c.read_u32.ensures c.in-Some.is) _ (said maybe c.read_u8.ensures c.in-Some-read_u8.is) c.if-letter-eq75.false c.if-letter-eq79.false
    c.if-letter-eq78.false
