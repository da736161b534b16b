-- What an `Option` of the code says, in the numbers of the definitions: one reading for every reader and every search. SCOPE 1.2.
use Rattle.std.specs.Prelude.{ℕ, Option as Answer, Some, None}
use Rattle.std.proofs.Math.Option.{Option, some, none}

-- the value, or none
abbrev pub maybe : {A : Type 0} → Answer A → Option A
maybe (Some v) = some v
maybe None = none

-- a value's size, 0 where there is none
abbrev pub value_of : Answer ℕ → ℕ
value_of (Some v) = v
value_of None = 0
