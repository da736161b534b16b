-- A count that is not negative, and so many.
use Rattle.wire.specs.Answer.{maybe}
use Rattle.wire.proofs.FieldLaws.{told as said, field_within}
use native.Mathlib.Omega.{arith}
use Rattle.rows.proofs.Heads.{counted_cut, counted_negative, counted_whole}
use mathlib.Core.Path.{refl}
use Rattle.rows.proofs.HandedOn.{handed_on}
use Rattle.rows.proofs.walk.counted_at.Goals as goal

pub returns-in_default : goal.returns-in_default
returns-in_default g c =
    let a = c.args in
    counted_cut a.bytes.now a.at g.R.Repeated.layout (said maybe c.read_u16.ensures c.in_default.is)

pub returns-then-n-ge-FIRST_NEGATIVE_16 : goal.returns-then-n-ge-FIRST_NEGATIVE_16
returns-then-n-ge-FIRST_NEGATIVE_16 g c =
    let a = c.args in
    counted_negative a.bytes.now a.at g.R.Repeated.layout _ (said maybe c.read_u16.ensures c.in-Some.is) c.if-n-ge-FIRST_NEGATIVE_16.true

pub overflow_add-from : goal.overflow_add-from
overflow_add-from g c = omega (arith, field_within 2 _ _ _ (said maybe c.read_u16.ensures c.in-Some.is))

pub returns-in_err-next : goal.returns-in_err-next
returns-in_err-next g c =
    let a = c.args in
    rw (handed_on _ c.from_residual.ensures)
    (counted_whole a.bytes.now a.at g.R.Repeated.layout _ (said maybe c.read_u16.ensures c.in-Some.is) c.if-n-ge-FIRST_NEGATIVE_16.false c.in_err-next.ensures refl)

pub returns : goal.returns
returns g c =
    let a = c.args in
    counted_whole a.bytes.now a.at g.R.Repeated.layout _ (said maybe c.read_u16.ensures c.in-Some.is) c.if-n-ge-FIRST_NEGATIVE_16.false c.in_ok-next.ensures refl
