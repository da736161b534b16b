-- The columns passed and those that follow, from the place reached, make the columns of the whole walk.
use Rattle.query.specs.DataRow.{columns_from}
use Rattle.query.specs.Code.{picked_of}
use Rattle.query.proofs.Laws.{walked}
use Prim.Native.Nat.{◌-◌}
use mathlib.Core.Path.{◌≡◌}
use Rattle.query.proofs.data_row.walk.Given as goal

abbrev pub invariant-loop-k : goal.invariant-loop-k
invariant-loop-k l = (walked l.k l.i l.c (columns_from (l.n - l.k) l.payload l.at) ≡ picked_of (columns_from l.n l.payload 2) l.i)
