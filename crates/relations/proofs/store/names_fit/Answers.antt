-- The names passed are short enough.
use mathlib.Core.Path.{sym, ap, ◌∙◌}
use Prim.Native.Nat.{ℕ, ◌≤◌, ◌<◌}
use native.Mathlib.Omega.{arith}
use lib.ListN.{length}
use Rattle.relations.specs.Cache.{names_fit}
use Rattle.relations.proofs.Leaves.{given, described_next, described_stop, described_end, names_one, name_long, names_none}
use Rattle.relations.proofs.store.names_fit.Goals as goal

pub returns-in_default : goal.returns-in_default
returns-in_default c =
    let a = c.args in
    sym (c.loop.invariant ∙ ap names_fit (described_stop a.bytes.now a.n c.loop.counter c.loop.at (omega arith) _ c.in_default.ensures)
    ∙ names_none)

pub returns-then-description-gt-NAME : goal.returns-then-description-gt-NAME
returns-then-description-gt-NAME c =
    let a = c.args in
    let g = given a.bytes.now a.n c.loop.counter c.loop.at _ _ _ _ _ c.in-Ok.ensures in
    let long : 63 < length g.name = omega (arith, ap (λ (x : ℕ × ℕ). x.1) g.stands) in
    sym (c.loop.invariant
    ∙ ap names_fit (described_next a.bytes.now a.n c.loop.counter c.loop.at (omega arith) _ _ g.read)
    ∙ name_long _ g.name _ _ _ long)

pub loop-preserved : goal.loop-preserved
loop-preserved c =
    let a = c.args in
    let g = given a.bytes.now a.n c.loop.counter c.loop.at _ _ _ _ _ c.in-Ok.ensures in
    let short : length g.name ≤ 63 = omega (arith, ap (λ (x : ℕ × ℕ). x.1) g.stands) in
    c.loop.invariant
    ∙ ap names_fit (described_next a.bytes.now a.n c.loop.counter c.loop.at (omega arith) _ _ g.read)
    ∙ names_one _ g.name _ _ _ short

pub returns : goal.returns
returns c =
    let a = c.args in
    sym (c.loop.invariant ∙ ap names_fit (described_end a.bytes.now a.n c.loop.counter c.loop.at (omega arith)) ∙ names_none)
