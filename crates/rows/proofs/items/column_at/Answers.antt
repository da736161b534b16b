-- By the letter: what stands under it.
use mathlib.Core.Path.{sym, refl}
use Rattle.wire.specs.Answer.{maybe}
use Rattle.wire.proofs.FieldLaws.{told as said, field_within}
use Rattle.rows.proofs.Columns.{column_cut, column_null, column_unchanged, column_text, column_binary, column_wrong}
use native.Mathlib.Omega.{arith}
use Rattle.rows.proofs.HandedOn.{handed_on}
use Rattle.rows.proofs.items.column_at.Goals as goal

pub returns-in_default : goal.returns-in_default
returns-in_default c =
    let a = c.args in
    sym (column_cut a.bytes.now a.at (said maybe c.read_u8.ensures c.in_default.is))

pub overflow_add-from : goal.overflow_add-from
overflow_add-from c = omega (arith, field_within 1 _ _ _ (said maybe c.read_u8.ensures c.in-Some.is))

pub returns-then-letter-eq110 : goal.returns-then-letter-eq110
returns-then-letter-eq110 c =
    let a = c.args in
    sym (column_null a.bytes.now a.at _ (said maybe c.read_u8.ensures c.in-Some.is) c.if-letter-eq110.true)

pub returns-then-letter-eq117 : goal.returns-then-letter-eq117
returns-then-letter-eq117 c =
    let a = c.args in
    sym (column_unchanged a.bytes.now a.at _ (said maybe c.read_u8.ensures c.in-Some.is) c.if-letter-eq110.false c.if-letter-eq117.true)

pub returns-in_err-part : goal.returns-in_err-part
returns-in_err-part c =
    let a = c.args in
    rw (handed_on _ c.from_residual.ensures)
    (sym (column_text a.bytes.now a.at _ (said maybe c.read_u8.ensures c.in-Some.is) c.if-letter-eq110.false c.if-letter-eq117.false
    c.if-letter-eq116.true c.in_err-part.ensures refl))

pub returns-then-letter-eq116 : goal.returns-then-letter-eq116
returns-then-letter-eq116 c =
    let a = c.args in
    sym (column_text a.bytes.now a.at _ (said maybe c.read_u8.ensures c.in-Some.is) c.if-letter-eq110.false c.if-letter-eq117.false
    c.if-letter-eq116.true c.in_ok-part.ensures refl)

pub returns-in_err-part-2 : goal.returns-in_err-part-2
returns-in_err-part-2 c =
    let a = c.args in
    rw (handed_on _ c.from_residual-in_err-part-2.ensures)
    (sym (column_binary a.bytes.now a.at _ (said maybe c.read_u8.ensures c.in-Some.is) c.if-letter-eq110.false c.if-letter-eq117.false
    c.if-letter-eq116.false c.if-letter-eq98.true c.in_err-part-2.ensures refl))

pub returns-then-letter-eq98 : goal.returns-then-letter-eq98
returns-then-letter-eq98 c =
    let a = c.args in
    sym (column_binary a.bytes.now a.at _ (said maybe c.read_u8.ensures c.in-Some.is) c.if-letter-eq110.false c.if-letter-eq117.false
    c.if-letter-eq116.false c.if-letter-eq98.true c.in_ok-part-2.ensures refl)

pub returns : goal.returns
returns c =
    let a = c.args in
    sym (column_wrong a.bytes.now a.at _ (said maybe c.read_u8.ensures c.in-Some.is) c.if-letter-eq110.false c.if-letter-eq117.false
    c.if-letter-eq116.false c.if-letter-eq98.false)
