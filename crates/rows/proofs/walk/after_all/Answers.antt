-- What is left to pass, from the place reached, ends where the whole walk does.
use Rattle.rows.specs.Layout.{read_at}
use Rattle.rows.proofs.Steps.{walk_next, walk_stop, walk_end}
use mathlib.Core.Path.{sym, ◌∙◌}
use native.Mathlib.Omega.{arith}
use Rattle.rows.proofs.HandedOn.{handed_on}
use Rattle.rows.proofs.walk.after_all.Goals as goal

pub returns-in_err-at : goal.returns-in_err-at
returns-in_err-at g c =
    let a = c.args in
    rw (handed_on _ c.from_residual.ensures)
    (sym (c.loop.invariant ∙ walk_stop (λ q. read_at g.R.Repeated.layout a.bytes.now q) a.n c.loop.counter c.loop.at _ (omega arith) c.in_err-at.ensures))

pub loop-preserved : goal.loop-preserved
loop-preserved g c =
    let a = c.args in
    c.loop.invariant
    ∙ walk_next (λ q. read_at g.R.Repeated.layout a.bytes.now q) a.n c.loop.counter c.loop.at _ (omega arith) c.in_ok-at.ensures

pub returns : goal.returns
returns g c =
    let a = c.args in
    sym (c.loop.invariant ∙ walk_end (λ q. read_at g.R.Repeated.layout a.bytes.now q) a.n c.loop.counter c.loop.at (omega arith))
