-- Every entry passed is undone for no file.
use mathlib.Core.Path.{◌≡◌}
use Rattle.ledger.specs.Ledger.{settled_from}
use Rattle.ledger.proofs.Ledger.settled.Given as goal

abbrev pub invariant-loop-behind : goal.invariant-loop-behind
invariant-loop-behind l = settled_from l.ring l.self l.front l.behind ≡ settled_from l.ring l.self l.self.front l.self.count
