-- By the letter: how far it goes.
use mathlib.Core.Path.{◌≡◌, refl}
use Rattle.wire.specs.Answer.{maybe}
use Rattle.rows.specs.Layout.{got, mapped}
use Rattle.rows.specs.Head.{told_text, told_binary, part_by, end_by}
use Rattle.wire.proofs.FieldLaws.{told as said, field_within}
use Rattle.rows.proofs.Columns.{column_cut, column_null, column_unchanged, column_text, column_binary, column_wrong, column_ended, value_ended}
use native.Mathlib.Omega.{arith}
use Rattle.rows.proofs.Steps.{ended}
use Rattle.rows.proofs.HandedOn.{handed_on}
use Rattle.rows.proofs.walk.ColumnsRepeated.after.Goals.{then-letter-eq116-via-then-letter-eq116, then-letter-eq116-via-else-letter-eq116+then-letter-eq98}
use Rattle.rows.proofs.walk.ColumnsRepeated.after.Goals as goal

pub returns-in_default : goal.returns-in_default
returns-in_default c =
    let a = c.args in
    column_ended a.bytes.now a.at _ (column_cut a.bytes.now a.at
    (said maybe c.read_u8.ensures c.in_default.is)) refl

pub overflow_add-from : goal.overflow_add-from
overflow_add-from c = omega (arith, field_within 1 _ _ _ (said maybe c.read_u8.ensures c.in-Some.is))

pub returns-then-letter-eq110 : goal.returns-then-letter-eq110
returns-then-letter-eq110 c =
    let a = c.args in
    column_ended a.bytes.now a.at _ (column_null a.bytes.now a.at _ (said maybe c.read_u8.ensures c.in-Some.is) c.if-letter-eq110.true) refl

pub returns-then-letter-eq117 : goal.returns-then-letter-eq117
returns-then-letter-eq117 c =
    let a = c.args in
    column_ended a.bytes.now a.at _ (column_unchanged a.bytes.now a.at _ (said maybe c.read_u8.ensures c.in-Some.is) c.if-letter-eq110.false c.if-letter-eq117.true) refl

pub returns-in_err-next : goal.returns-in_err-next
returns-in_err-next c =
    let a = c.args in
    let q = part_by c.bytes_at.result in
    let h : end_by c.from_residual.result ≡ ended q = rw (handed_on _ c.from_residual.ensures, c.in_err-next.was) in
    elim c.then-letter-eq116.branch [
      | then-letter-eq116-via-then-letter-eq116 w ↦ column_ended a.bytes.now a.at (mapped told_text q)
          (column_text a.bytes.now a.at _ (said maybe c.read_u8.ensures c.in-Some.is) c.if-letter-eq110.false c.if-letter-eq117.false w.if-letter-eq116.true
          c.bytes_at.ensures refl)
          (value_ended told_text q h)
      | then-letter-eq116-via-else-letter-eq116+then-letter-eq98 w ↦ column_ended a.bytes.now a.at (mapped told_binary q)
          (column_binary a.bytes.now a.at _ (said maybe c.read_u8.ensures c.in-Some.is) c.if-letter-eq110.false c.if-letter-eq117.false w.if-letter-eq116.false
          w.if-letter-eq98.true c.bytes_at.ensures refl)
          (value_ended told_binary q h)
    ]

pub returns-then-letter-eq116 : goal.returns-then-letter-eq116
returns-then-letter-eq116 c =
    let a = c.args in
    let q = part_by c.bytes_at.result in
    let h : got tt c.in_ok-next.next ≡ ended q = rw c.in_ok-next.was in
    elim c.then-letter-eq116.branch [
      | then-letter-eq116-via-then-letter-eq116 w ↦ column_ended a.bytes.now a.at (mapped told_text q)
          (column_text a.bytes.now a.at _ (said maybe c.read_u8.ensures c.in-Some.is) c.if-letter-eq110.false c.if-letter-eq117.false w.if-letter-eq116.true
          c.bytes_at.ensures refl)
          (value_ended told_text q h)
      | then-letter-eq116-via-else-letter-eq116+then-letter-eq98 w ↦ column_ended a.bytes.now a.at (mapped told_binary q)
          (column_binary a.bytes.now a.at _ (said maybe c.read_u8.ensures c.in-Some.is) c.if-letter-eq110.false c.if-letter-eq117.false w.if-letter-eq116.false
          w.if-letter-eq98.true c.bytes_at.ensures refl)
          (value_ended told_binary q h)
    ]

pub returns : goal.returns
returns c =
    let a = c.args in
    let told =
    column_wrong a.bytes.now a.at _ (said maybe c.read_u8.ensures c.in-Some.is) c.if-letter-eq110.false c.if-letter-eq117.false
    c.if-letter-eq116.false
    c.if-letter-eq98.false in
    column_ended a.bytes.now a.at _ told refl
