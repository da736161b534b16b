-- The option value over all names: where a name has quotes, where a comma stands, and what names with commas and no names at all are read as. SCOPE
-- 2.7; PostgreSQL documentation, "String Constants" and "Logical Streaming Replication Parameters" (publication_names).
use Rattle.std.specs.Prelude.{◌≡◌, List, [], ◌∷◌, ◌++◌, ℕ}
use Prim.Native.Char.{code}
use Rattle.std.specs.Borrow.{Bor}
use Rattle.config.specs.OptionValue.{doubled, option_value}
use Rattle.config.specs.ReadBack.{NoComma, names_of, with_commas}

-- no byte is a quote
abbrev pub NoQuotes : List ℕ → Type 0
NoQuotes [] = Unit
NoQuotes (c ∷ s) = (c ≡ code "'" → ⊥) × NoQuotes s

pub record ValueLaws : Type 0 where
  -- a name without quotes stands as it is, and each quote stands twice
  pub plain : (s : List ℕ) → NoQuotes s → doubled s ≡ s
  pub quote : (s t : List ℕ) → doubled (s ++ (code "'" ∷ t)) ≡ doubled s ++ (code "'" ∷ code "'" ∷ doubled t)
  -- nothing for no name, the name alone for one, and a comma between two
  pub none_given : option_value [] ≡ []
  pub one_name : (n : Bor (List ℕ)) → option_value (n ∷ []) ≡ doubled n.now
  pub more_names : (n m : Bor (List ℕ)) (ns : List (Bor (List ℕ))) → option_value (n ∷ m ∷ ns) ≡ doubled n.now ++ (code "," ∷ option_value (m ∷ ns))
  -- a text without commas is read as one name; each comma parts it, one in a name too; and no names are read as one empty name
  pub one_read : (s : List ℕ) → NoComma s → names_of s ≡ s ∷ []
  pub comma_parts : (s t : List ℕ) → names_of (s ++ (code "," ∷ t)) ≡ names_of s ++ names_of t
  pub none_read : names_of (with_commas []) ≡ [] ∷ []
