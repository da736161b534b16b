-- What the walk over a row picks out of it. SCOPE 3.10.
use Rattle.std.specs.Prelude.{ℕ, List, length}
use Rattle.std.proofs.Math.Option.{Option, some, none}
use Rattle.query.specs.DataRow.{nth}
use Rattle.query.specs.declared.Column.{Column}

-- how many columns a row has, and one of them, by its number
abbrev pub picked_of : Option (List Column) → ℕ → Option (ℕ × Column)
picked_of none i = none
picked_of (some cs) i = some (length cs, nth i cs)
