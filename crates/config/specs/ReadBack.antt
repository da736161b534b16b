-- An option value as the server reads it: a string literal between single quotes, in which two quotes stand for one (PostgreSQL documentation,
-- "String Constants"), and names parted by commas (publication_names of "Logical Streaming Replication Parameters"). SCOPE 2.7; 01, "Texts and
-- positions".
use Rattle.std.specs.Prelude.{◌≡◌, refl, List, [], ◌∷◌, ◌++◌, map, ℕ, eqb}
use Rattle.std.proofs.Math.Option.{Option, some, none}
use Prim.Native.Char.{code}
use Prim.Native.String.{String}
use Rattle.std.specs.Borrow.{Bor}
use Rattle.wire.specs.Bytes.{pick}
use Rattle.text.specs.Ascii.{ascii, on_first}
use Rattle.config.specs.OptionValue.{doubled, following, option_value}

-- a byte more in front of a text that was read, with the bytes after it
abbrev pub with_byte : ℕ → Option (List ℕ × List ℕ) → Option (List ℕ × List ℕ)
with_byte c none = none
with_byte c (some r) = some (c ∷ r.0, r.1)

-- what stands after an opening quote: the text of the literal, and the bytes after its closing quote
unfoldable pub unquoted : List ℕ → Option (List ℕ × List ℕ)
unquoted [] = none
unquoted (c ∷ []) = pick (eqb c (code "'")) (some ([], [])) none
unquoted (c ∷ d ∷ s) =
    pick (eqb c (code "'")) (pick (eqb d (code "'")) (with_byte (code "'") (unquoted s)) (some ([], d ∷ s)))
    (with_byte c (unquoted (d ∷ s)))

-- the names of a text, parted by commas
unfoldable pub names_of : List ℕ → List (List ℕ)
names_of [] = [] ∷ []
names_of (c ∷ s) = pick (eqb c (code ",")) ([] ∷ names_of s) (on_first c (names_of s))

-- ---- what is written is read back

-- the names with a comma between each two
abbrev pub with_commas : List (List ℕ) → List ℕ
with_commas [] = []
with_commas (n ∷ []) = n
with_commas (n ∷ m ∷ ns) = n ++ (code "," ∷ with_commas (m ∷ ns))

-- the bytes do not begin with a quote
abbrev pub NoQuote : List ℕ → Type 0
NoQuote [] = Unit
NoQuote (c ∷ s) = c ≡ code "'" → ⊥

-- no name has a comma
abbrev pub NoComma : List ℕ → Type 0
NoComma [] = Unit
NoComma (c ∷ s) = (c ≡ code "," → ⊥) × NoComma s

abbrev pub NoCommas : List (List ℕ) → Type 0
NoCommas [] = Unit
NoCommas (n ∷ ns) = NoComma n × NoCommas ns

-- whatever the names are, the literal ends where it was closed, and its text is the names with commas between them: no name breaks out of it
abbrev pub ValueReadBack : Type 0
ValueReadBack = (names : List (Bor (List ℕ))) (rest : List ℕ) → NoQuote rest
    → unquoted (option_value names ++ (code "'" ∷ rest)) ≡ some (with_commas (map (λ x. x.now) names), rest)

-- of one name at least, none of which has a comma, the text gives the names back
abbrev pub NamesReadBack : Type 0
NamesReadBack = (n : List ℕ) (ns : List (List ℕ)) → NoCommas (n ∷ ns) → names_of (with_commas (n ∷ ns)) ≡ n ∷ ns

-- ---- values byte by byte

-- an ASCII text as it is lent
abbrev pub lent : String → Bor (List ℕ)
lent s = record { ref_ptr = (0, 0); now = ascii s }

pub record Cases : Type 0 where
  pub none_given : option_value [] ≡ []
  pub one_empty : option_value (lent "" ∷ []) ≡ []
  pub quote_doubled : option_value (lent "o'k" ∷ lent "b" ∷ []) ≡ ascii "o''k,b"
  -- a double quote is a byte like any other
  pub double_quote : option_value (lent "a\"b" ∷ []) ≡ ascii "a\"b"

-- they hold, by computing
pub cases : Cases
unfolding ascii doubled following option_value
cases = record { none_given = refl; one_empty = refl; quote_doubled = refl; double_quote = refl }
