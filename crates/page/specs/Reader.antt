-- The page as it is read from the screen: its lines, of each line the label and the value, and the value that stands beside a label. Nothing here
-- knows the widths or the order of the lines. 02, wish 9.
use Rattle.std.specs.Prelude.{◌≡◌, Bool, true, false, List, [], ◌∷◌, ◌++◌, map, ℕ, ◌^◌, ◌≤◌, ◌<◌, length, eqb}
use Rattle.std.proofs.Math.Option.{Option, some, none}
use Prim.Native.Char.{code}
use Rattle.wire.specs.Bytes.{pick}
use Rattle.wire.specs.Field.{and_then}
use Rattle.text.specs.Ascii.{ascii, on_first}
use Rattle.text.specs.Numeral.{decimal_text}
use Rattle.text.specs.TextCases.{decimal_from}
use Rattle.lsn.specs.Position.{position_of, display_of}
use Rattle.page.specs.declared.Page.{Page}
use Rattle.page.specs.Page.{line_of, state_name, page_of}

-- ---- the reader

-- the lines of a text, each without its newline
unfoldable pub lines_of : List ℕ → List (List ℕ)
lines_of [] = []
lines_of (c ∷ s) = pick (eqb c 10) ([] ∷ lines_of s) (on_first c (lines_of s))

-- the characters before the first space
unfoldable pub label_of : List ℕ → List ℕ
label_of [] = []
label_of (c ∷ s) = pick (eqb c (code " ")) [] (c ∷ label_of s)

-- the characters after the last space, where those since a space are given
unfoldable pub value_from : List ℕ → List ℕ → List ℕ
value_from since [] = since
value_from since (c ∷ s) = pick (eqb c (code " ")) (value_from [] s) (value_from (since ++ (c ∷ [])) s)

-- two texts are the same
unfoldable pub is_same : List ℕ → List ℕ → Bool
is_same [] [] = true
is_same [] (d ∷ t) = false
is_same (c ∷ s) [] = false
is_same (c ∷ s) (d ∷ t) = pick (eqb c d) (is_same s t) false

-- the value of the first line that has the label
unfoldable pub beside : List ℕ → List (List ℕ) → Option (List ℕ)
beside label [] = none
beside label (l ∷ ls) = pick (is_same (label_of l) label) (some (value_from [] l)) (beside label ls)

-- what a page shows beside a label: the characters, a position, a number
abbrev pub shown : List ℕ → List ℕ → Option (List ℕ)
shown label page = beside label (lines_of page)

-- the position that a text spells, or none where it spells none
abbrev pub position_in : List ℕ → Option ℕ
position_in t = pick (eqb (position_of t).0 0) (some (position_of t).1) none

abbrev pub shown_position : List ℕ → List ℕ → Option ℕ
shown_position label page = and_then (shown label page) position_in

abbrev pub shown_number : List ℕ → List ℕ → Option ℕ
shown_number label page = and_then (shown label page) (λ t. some (decimal_from 0 t))

-- ---- what is written is read back

-- positions and counts are numbers of 64 bits, as every page has them
pub record In64 (p : Page) : Type 0 where
  pub position : p.position.0 < 2 ^ 64
  pub confirmed : p.confirmed.0 < 2 ^ 64
  pub server : p.server.0 < 2 ^ 64
  pub events : p.events < 2 ^ 64
  pub stalls : p.stalls < 2 ^ 64

-- each value stands beside its own label and reads back as the value that was given, so that no two can change places
pub record ReadsBack (p : Page) : Type 0 where
  pub position : shown_position (ascii "POSITION") (page_of p) ≡ some p.position.0
  pub sent : p.sent ≡ true → shown_position (ascii "SENT") (page_of p) ≡ some p.confirmed.0
  -- a hyphen, and no position, before the first status
  pub unsent : p.sent ≡ false → shown (ascii "SENT") (page_of p) ≡ some (ascii "-")
  pub no_position : p.sent ≡ false → shown_position (ascii "SENT") (page_of p) ≡ none
  pub server : shown_position (ascii "SERVER") (page_of p) ≡ some p.server.0
  pub events : shown_number (ascii "EVENTS") (page_of p) ≡ some p.events
  pub stalls : shown_number (ascii "STALLS") (page_of p) ≡ some p.stalls
  pub state : shown (ascii "STATE") (page_of p) ≡ some (state_name p.state)

abbrev pub PageReadsBack : Type 0
PageReadsBack = (p : Page) → In64 p → ReadsBack p

-- ---- the screen

-- a newline, or a printable character of ASCII
abbrev pub OnScreen : List ℕ → Type 0
OnScreen [] = Unit
OnScreen (c ∷ s) = ((c ≡ 10 → ⊥) → (32 ≤ c) × (c ≤ 126)) × OnScreen s

-- a page has 198 bytes, six lines of 32 characters each, and no other bytes than printable ones and newlines
pub record Screen (p : Page) : Type 0 where
  pub bytes : length (page_of p) ≡ 198
  pub lines : map length (lines_of (page_of p)) ≡ 32 ∷ 32 ∷ 32 ∷ 32 ∷ 32 ∷ 32 ∷ []
  pub on_screen : OnScreen (page_of p)

abbrev pub PageFitsScreen : Type 0
PageFitsScreen = (p : Page) → In64 p → Screen p

-- every value fits its 20 characters, and a count at its largest fills them
pub record ValuesFit : Type 0 where
  pub position : (v : ℕ) → v < 2 ^ 64 → length (display_of v) ≤ 17
  pub count : (v : ℕ) → length (decimal_text v) ≤ 20
  pub largest_count : length (decimal_text 18446744073709551615) ≡ 20
  pub state : (n : ℕ) → length (state_name n) ≤ 8
  pub line : (label value : List ℕ) → length label ≤ 12 → length value ≤ 20 → length (line_of label value) ≡ 33
