-- What a server reads of a startup message of any texts, also of those with a zero byte and of empty names: PostgreSQL documentation, "Message
-- Formats" (StartupMessage), by which the message is Strings, names and values in turn, up to an empty name. SCOPE 3.6; 01, "Messages".
use Rattle.std.specs.Prelude.{◌≡◌, List, [], ◌∷◌, ◌++◌, ℕ, ◌<◌, length, ℤ, eqb}
use Rattle.std.proofs.Math.Option.{Option, some, none}
use Rattle.std.specs.Int.Signed.{mag}
use Rattle.std.specs.Borrow.{Bor}
use Rattle.wire.specs.Bytes.{pick}
use Rattle.wire.specs.Field.{and_then}
use Rattle.wire.specs.Int.{half}
use Rattle.wire.specs.Find.{NoZero}
use Rattle.frontend.specs.Frontend.{startup}
use Rattle.frontend.specs.Startup.{startup_of}

-- ---- the Strings that are sent

-- a byte more in front of the first String
abbrev pub longer : ℕ → List (List ℕ) → List (List ℕ)
longer b [] = (b ∷ []) ∷ []
longer b (s ∷ ss) = (b ∷ s) ∷ ss

-- the Strings of a text: each of its zero bytes ends one, and one more ends with the text
unfoldable pub cut_at_zeros : List ℕ → List (List ℕ)
cut_at_zeros [] = [] ∷ []
cut_at_zeros (b ∷ t) = pick (eqb b 0) ([] ∷ cut_at_zeros t) (longer b (cut_at_zeros t))

-- those of all texts, in order; a last name without a value has the empty one
abbrev pub strings_of : List (Bor (List ℕ)) → List (List ℕ)
strings_of [] = []
strings_of (name ∷ []) = cut_at_zeros name.now ++ ([] ∷ [])
strings_of (name ∷ value ∷ rest) = cut_at_zeros name.now ++ (cut_at_zeros value.now ++ strings_of rest)

-- and at the end the terminator, which is an empty name
abbrev pub strings_sent : List (Bor (List ℕ)) → List (List ℕ)
strings_sent texts = strings_of texts ++ ([] ∷ [])

-- ---- the Strings as they are read

-- the parameters up to the first empty name, and the Strings after that; none where a name has no value, or no empty name comes
abbrev pub read_in_turn : List (List ℕ) → Option (List (List ℕ × List ℕ) × List (List ℕ))
read_in_turn [] = none
read_in_turn ([] ∷ rest) = some ([], rest)
read_in_turn ((c ∷ name) ∷ []) = none
read_in_turn ((c ∷ name) ∷ value ∷ rest) = and_then (read_in_turn rest) (λ r. some ((c ∷ name, value) ∷ r.0, r.1))

-- a server takes the parameters only where nothing stands after the terminator
abbrev pub taken : Option (List (List ℕ × List ℕ) × List (List ℕ)) → Option (List (List ℕ × List ℕ))
taken none = none
taken (some (ps, [])) = some ps
taken (some (ps, s ∷ ss)) = none

pub record StartupLaws : Type 0 where
  -- of any texts the server reads the parameters that their Strings make, or refuses the message
  pub read : (version : ℤ) (texts : List (Bor (List ℕ))) (rest : List ℕ) → mag version < half 4 → length (startup version texts) < half 4
      → startup_of (startup version texts ++ rest)
      ≡ and_then (taken (read_in_turn (strings_sent texts))) (λ ps. some (record { version = version; parameters = ps; rest = rest }))
  -- a text without a zero byte is one String; one with a zero byte is cut there
  pub uncut : (t : List ℕ) → NoZero t → cut_at_zeros t ≡ t ∷ []
  pub cut : (t u : List ℕ) → NoZero t → cut_at_zeros (t ++ (0 ∷ u)) ≡ t ∷ cut_at_zeros u
  -- so a value with a zero byte is cut, and what stands behind that byte is read as the next name
  pub value_cut : (name seen hidden : List ℕ) (more : List (List ℕ)) (c : ℕ) → NoZero seen
      → read_in_turn ((c ∷ name) ∷ (cut_at_zeros (seen ++ (0 ∷ hidden)) ++ more))
      ≡ and_then (read_in_turn (cut_at_zeros hidden ++ more)) (λ r. some ((c ∷ name, seen) ∷ r.0, r.1))
  -- and so a name with a zero byte is cut, and what stands behind it is read as its value
  pub name_cut : (seen hidden : List ℕ) (more : List (List ℕ)) (c : ℕ) → NoZero (c ∷ seen) → NoZero hidden
      → read_in_turn (cut_at_zeros ((c ∷ seen) ++ (0 ∷ hidden)) ++ more) ≡ and_then (read_in_turn more) (λ r. some ((c ∷ seen, hidden) ∷ r.0, r.1))
  -- an empty name among the texts is read as the terminator, and since its value stands after it the message is refused
  pub empty_name : (version : ℤ) (name : Bor (List ℕ)) (texts : List (Bor (List ℕ))) (rest : List ℕ) → name.now ≡ [] → mag version < half 4
      → length (startup version (name ∷ texts)) < half 4 → startup_of (startup version (name ∷ texts) ++ rest) ≡ none
