-- What is left to pass, from the place reached, ends where the whole walk does.
use Rattle.rows.specs.Layout.{read_at, times_at}
use Rattle.rows.proofs.Steps.{ended}
use Prim.Native.Nat.{◌-◌}
use mathlib.Core.Path.{◌≡◌}
use Rattle.rows.proofs.walk.after_all.Given as goal

abbrev pub invariant-loop : goal.invariant-loop
invariant-loop g l =
    ended (times_at (λ q. read_at g.R.Repeated.layout l.bytes q) l.n l.from)
    ≡ ended (times_at (λ q. read_at g.R.Repeated.layout l.bytes q) (l.n - l.counter) l.at)
