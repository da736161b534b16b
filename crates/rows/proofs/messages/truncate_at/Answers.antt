-- A count that is not negative, the option bits, and so many identifiers.
use Rattle.wire.specs.Answer.{maybe}
use Rattle.wire.proofs.FieldLaws.{told as said}
use Rattle.rows.proofs.Heads.{truncate_cut, truncate_negative, options_missing, truncate_whole}
use mathlib.Core.Path.{refl}
use Rattle.rows.proofs.HandedOn.{handed_on}
use Rattle.rows.proofs.messages.truncate_at.Goals as goal

pub returns-in_default : goal.returns-in_default
returns-in_default c =
    let a = c.args in
    truncate_cut a.bytes.now (said maybe c.read_u32.ensures c.in_default.is)

pub returns-then-n-ge-FIRST_NEGATIVE_32 : goal.returns-then-n-ge-FIRST_NEGATIVE_32
returns-then-n-ge-FIRST_NEGATIVE_32 c =
    truncate_negative c.args.bytes.now _ (said maybe c.read_u32.ensures c.in-Some.is) c.if-n-ge-FIRST_NEGATIVE_32.true

pub returns-in_default-read_u8 : goal.returns-in_default-read_u8
returns-in_default-read_u8 c =
    options_missing c.args.bytes.now _ (said maybe c.read_u32.ensures c.in-Some.is) c.if-n-ge-FIRST_NEGATIVE_32.false
    (said maybe c.read_u8.ensures c.in_default-read_u8.is)

pub returns-in_err-after_all : goal.returns-in_err-after_all
returns-in_err-after_all c =
    rw (handed_on _ c.from_residual.ensures)
    (truncate_whole c.args.bytes.now _ (said maybe c.read_u32.ensures c.in-Some.is) c.if-n-ge-FIRST_NEGATIVE_32.false _
    (said maybe c.read_u8.ensures c.in-Some-read_u8.is) c.in_err-after_all.ensures refl)

pub returns : goal.returns
returns c =
    truncate_whole c.args.bytes.now _ (said maybe c.read_u32.ensures c.in-Some.is) c.if-n-ge-FIRST_NEGATIVE_32.false _
    (said maybe c.read_u8.ensures c.in-Some-read_u8.is) c.in_ok-after_all.ensures refl
