-- Stored positions, one a line, and what is printed of them. SCOPE 11.6; 02, wish 6.
use Rattle.std.specs.Prelude.{ℕ, ◌+◌, List, [], ◌∷◌, ◌++◌, length, take, set, ltb, eqb, Option, Some, None}
use Rattle.wire.specs.Bytes.{pick}
use Rattle.text.specs.Numeral.{decimal_text}
use Rattle.lsn.specs.Position.{position_of, display_of}
use Rattle.test_lines.specs.Line.{end_texts}

-- a refusal's number, a space and the line as stored
abbrev pub refused_texts : ℕ → List ℕ → List (List ℕ)
refused_texts n s = decimal_text n ∷ (32 ∷ []) ∷ s ∷ []

-- a line by what its text says: the refusal's number, 0 for none, and the position
abbrev pub outcome_texts : ℕ × ℕ → List ℕ → List (List ℕ)
outcome_texts o s = pick (eqb o.0 0) (display_of o.1 ∷ []) (refused_texts o.0 s)

-- what is printed of a line before its line feed
unfoldable pub shown_of : List ℕ → List (List ℕ)
shown_of s = outcome_texts (position_of s) s

-- ---- byte by byte: `line` holds the line's first bytes

-- how many of them it holds; none where the line has more than can be held
abbrev pub Held : Type 0
Held = Option ℕ

-- before a line's first byte
abbrev pub fresh : Held
fresh = Some 0

-- what the end of a line prints; of a longer one than is held all but the line feed is printed already
unfoldable pub end_texts_of : Held → List ℕ → List (List ℕ)
end_texts_of None line = end_texts
end_texts_of (Some n) line = shown_of (take n line) ++ end_texts

-- what the first byte prints that cannot be held: the held ones are judged, and both are shown
abbrev pub passed_texts : List ℕ → ℕ → List (List ℕ)
passed_texts line b = shown_of line ++ ((b ∷ []) ∷ [])

-- what a byte of a line prints
abbrev pub byte_texts : Held → List ℕ → ℕ → List (List ℕ)
byte_texts None line b = (b ∷ []) ∷ []
byte_texts (Some n) line b = pick (ltb n (length line)) [] (passed_texts line b)

-- what is held after it
abbrev pub held_after : Held → List ℕ → Held
held_after None line = None
held_after (Some n) line = pick (ltb n (length line)) (Some (n + 1)) None

abbrev pub line_after : Held → List ℕ → ℕ → List ℕ
line_after None line b = line
line_after (Some n) line b = pick (ltb n (length line)) (set line n b) line

-- what is printed for one byte more: a line feed or a byte of the line
unfoldable pub turn_texts : Held → List ℕ → ℕ → List (List ℕ)
turn_texts h line b = pick (eqb b 10) (end_texts_of h line) (byte_texts h line b)

-- what is held after one byte more
unfoldable pub turn_held : Held → List ℕ → ℕ → Held
turn_held h line b = pick (eqb b 10) fresh (held_after h line)

-- the line after one byte more
unfoldable pub turn_line : Held → List ℕ → ℕ → List ℕ
turn_line h line b = pick (eqb b 10) line (line_after h line b)

-- the end of the file: a last line without a line feed is a line, and nothing after the last line feed is none
unfoldable pub last_texts : Held → List ℕ → List (List ℕ)
last_texts None line = end_texts
last_texts (Some n) line = pick (eqb n 0) [] (end_texts_of (Some n) line)
