-- Log positions, LSN: their texts and their order. SCOPE 2.1 to 2.3; 01, "Texts and positions".
use Rattle.std.specs.Prelude.{ℕ, ◌+◌, ◌*◌, ◌/◌, ◌%◌, ◌^◌, Bool, List, ◌∷◌, ◌++◌, take, drop, ltb, Result, Ok, Err}
use Rattle.std.proofs.Math.Option.{Option, some, none}
use Rattle.wire.specs.Find.{index_of}
use Rattle.error.specs.Refusal.{number_of}
use Rattle.error.specs.declared.Refusal.{Refusal}
use Rattle.moment.specs.declared.Moment.{Moment}
use Rattle.text.specs.Numeral.{hex_text}
use Rattle.lsn.specs.Hex.{hex_part}
use Rattle.lsn.specs.declared.Lsn.{Lsn}

-- the position whose halves are the two numbers
unfoldable pub joined : ℕ → ℕ → ℕ
joined hi lo = hi * 2 ^ 32 + lo

-- the refusal's number, 0 for none, and the position, by the two parts: 23 before 24
abbrev pub position_by_parts : Option ℕ → Option ℕ → ℕ × ℕ
position_by_parts none lo = (23, 0)
position_by_parts (some hi) none = (24, 0)
position_by_parts (some hi) (some lo) = (0, joined hi lo)

-- the same by the place of the first slash: 22 where there is none
abbrev pub by_slash : List ℕ → Option ℕ → ℕ × ℕ
by_slash s none = (22, 0)
by_slash s (some i) = position_by_parts (hex_part (take i s)) (hex_part (drop (i + 1) s))

-- what a position text says
unfoldable pub position_of : List ℕ → ℕ × ℕ
position_of s = by_slash s (index_of 47 s)

-- what the answer says: the refusal's number, 0 for none, and the position
abbrev pub parse_outcome : Result Lsn Refusal → ℕ × ℕ
parse_outcome (Ok p) = (0, p.0)
parse_outcome (Err r) = (number_of r, 0)

-- Display: the two halves in upper case without leading zeros, and a slash between them
unfoldable pub display_of : ℕ → List ℕ
display_of v = hex_text (v / 2 ^ 32) ++ (47 ∷ hex_text (v % 2 ^ 32))

-- the order of positions
abbrev pub is_below : Lsn → Lsn → Bool
is_below a b = ltb a.0 b.0

-- the order of positions is the same at every moment: a moment is of another type and plays no part in it
abbrev pub is_below_at : Moment → Lsn → Lsn → Bool
is_below_at moment a b = is_below a b
