-- By the letter after the relation.
use Rattle.wire.specs.Answer.{maybe}
use Rattle.wire.proofs.FieldLaws.{told as said}
use Rattle.rows.specs.Rows.{delete_of}
use Rattle.rows.specs.Head.{head_of}
use Rattle.rows.proofs.Heads.{first_cut, letter_missing, delete_key, delete_old, delete_wrong}
use Rattle.rows.proofs.messages.delete_at.Goals as goal

pub returns-in_default : goal.returns-in_default
returns-in_default c =
    let a = c.args in
    first_cut a.bytes.now 4 _ (λ v. head_of (delete_of v)) (said maybe c.read_u32.ensures c.in_default.is)

pub returns-in_default-read_u8 : goal.returns-in_default-read_u8
returns-in_default-read_u8 c =
    let a = c.args in
    letter_missing a.bytes.now _ (said maybe c.read_u32.ensures c.in-Some.is) _ (λ v. head_of (delete_of v))
    (said maybe c.read_u8.ensures c.in_default-read_u8.is)

pub returns-then-letter-eq75 : goal.returns-then-letter-eq75
returns-then-letter-eq75 c =
    delete_key c.args.bytes.now _ (said maybe c.read_u32.ensures c.in-Some.is) _ (said maybe c.read_u8.ensures c.in-Some-read_u8.is) c.if-letter-eq75.true
    c.deleted.ensures

pub returns-then-letter-eq79 : goal.returns-then-letter-eq79
returns-then-letter-eq79 c =
    delete_old c.args.bytes.now _ (said maybe c.read_u32.ensures c.in-Some.is) _ (said maybe c.read_u8.ensures c.in-Some-read_u8.is)
    c.if-letter-eq75.false c.if-letter-eq79.true c.deleted-then-letter-eq79.ensures

pub returns : goal.returns
returns c =
    delete_wrong c.args.bytes.now _ (said maybe c.read_u32.ensures c.in-Some.is) _ (said maybe c.read_u8.ensures c.in-Some-read_u8.is) c.if-letter-eq75.false c.if-letter-eq79.false
