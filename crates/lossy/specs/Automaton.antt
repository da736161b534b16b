-- The automaton and the parts of a text say the same, after any number of bytes. SCOPE 2.6; 02, wish 8.
use Rattle.std.specs.Prelude.{◌≡◌, refl, List, [], ◌∷◌, ℕ, length, take, drop, get_or}
use Rattle.std.proofs.Math.Option.{Option, some, none}
use Rattle.utf8.specs.WellFormed.{Range, table, row_of}
use Rattle.utf8.specs.Automaton.{after_all}
use Rattle.lossy.specs.Lossy.{Part, well, ill, parts_of}

-- what a row has left behind the bytes of a part; there is no such row where it is empty
abbrev pub left_of : List Range → List ℕ → Option (List Range)
left_of [] x = none
left_of (r ∷ rs) x = some (drop (length x) (r ∷ rs))

-- what is due behind the parts of a text, as the parts say: nothing behind well-formed ones; behind one that the text's end cuts, what its row has
-- left; and a part that is ill-formed before the end was ill-formed for good
abbrev pub due_behind : List Part → Option (List Range)
due_behind [] = some []
due_behind (well x ∷ ps) = due_behind ps
due_behind (ill x ∷ []) = left_of (row_of table (get_or x 0 0)) x
due_behind (ill x ∷ p ∷ ps) = none

-- after the first n bytes of a text the automaton is where the parts of these bytes say
abbrev pub AutomatonSays : Type 0
AutomatonSays = (s : List ℕ) (n : ℕ) → let t : List ℕ = take n s in after_all (some []) t ≡ due_behind (parts_of (length t) t)

abbrev between : Option (List Range)
between = some []

pub record Cases : Type 0 where
  -- a character cut by the end: one more byte is due
  pub cut : after_all between (0xE2 ∷ 0x82 ∷ []) ≡ some (record { low = 0x80; high = 0xBF } ∷ [])
  pub whole : after_all between (0xE2 ∷ 0x82 ∷ 0xAC ∷ []) ≡ between
  -- the letter is ill-formed within the character
  pub letter_within : after_all between (0xE2 ∷ 0x42 ∷ []) ≡ none
  pub surrogate : after_all between (0xED ∷ 0xA0 ∷ []) ≡ none

-- each by computing the definitions
pub cases : Cases
unfolding after_all row_of table
cases = record { cut = refl; whole = refl; letter_within = refl; surrogate = refl }
