-- Too many columns, or what the names say.
use borrow.Author.Tests.{lt-leb, le-leb}
use native.Mathlib.Omega.{arith}
use Prim.Native.Nat.{◌≤◌}
use Rattle.relations.specs.Cache.{fits}
use Rattle.packed_relations.proofs.store.fit.Goals as goal

pub returns-then-n-gt-COLUMNS : goal.returns-then-n-gt-COLUMNS
unfolding fits
returns-then-n-gt-COLUMNS c = rw (c.requires, lt-leb _ _ c.if-n-gt-COLUMNS.true)

pub returns : goal.returns
unfolding fits
returns c =
    let a = c.args in
    let few : a.n ≤ 32 = omega arith in
    rw (c.requires, le-leb a.n 32 few) c.names_fit.ensures
