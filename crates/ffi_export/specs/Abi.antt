-- The number that a host compares with its own: it grows with every change of a word's place or meaning or of a function's arguments.
-- It stands here, so that moving it proves no crate below again. SCOPE 9.1.
use Rattle.std.specs.Prelude.{ℕ, ◌≡◌}

-- `rufflesquash_abi`
abbrev pub abi_call : ℕ
abi_call = 14

-- literally
abbrev pub AbiNumber : Type 0
AbiNumber = abi_call ≡ 14
