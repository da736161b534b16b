-- The names passed are short enough.
use mathlib.Core.Path.{◌≡◌}
use Prim.Native.Nat.{◌-◌}
use Rattle.relations.specs.Cache.{names_fit}
use Rattle.relations.specs.Memory.{described_from}
use Rattle.relations.proofs.store.names_fit.Given as goal

abbrev pub invariant-loop : goal.invariant-loop
invariant-loop l = names_fit (described_from l.bytes l.n l.from) ≡ names_fit (described_from l.bytes (l.n - l.counter) l.at)
