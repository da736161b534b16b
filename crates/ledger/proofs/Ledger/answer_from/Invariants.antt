-- Every entry passed is done for the file.
use mathlib.Core.Path.{◌≡◌}
use Prim.Native.Nat.{◌-◌}
use Rattle.ledger.specs.Ledger.{answer_from}
use Rattle.ledger.proofs.Ledger.answer_from.Given as goal

abbrev pub invariant-loop : goal.invariant-loop
invariant-loop l =
    answer_from l.ring l.self l.file l.front (l.self.count - l.counter) ≡ answer_from l.ring l.self l.file l.self.front l.self.count
