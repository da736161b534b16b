-- The old tuple, then the new one after it.
use Rattle.rows.proofs.Heads.{old_refused, from_whole}
use mathlib.Core.Path.{refl}
use Rattle.rows.proofs.HandedOn.{handed_on}
use Rattle.rows.proofs.messages.updated_from.Goals as goal

pub returns-in_err-old : goal.returns-in_err-old
returns-in_err-old c =
    let a = c.args in
    rw (handed_on _ c.from_residual.ensures) (old_refused a.bytes.now a.relation a.which _ c.in_err-old.ensures)

pub returns-in_err-new : goal.returns-in_err-new
returns-in_err-new c =
    let a = c.args in
    rw (handed_on _ c.from_residual-in_err-new.ensures) (from_whole a.bytes.now a.relation a.which c.in_ok-old.ensures c.in_err-new.ensures refl)

pub returns : goal.returns
returns c =
    let a = c.args in
    from_whole a.bytes.now a.relation a.which c.in_ok-old.ensures c.in_ok-new.ensures refl
