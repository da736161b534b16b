-- What is printed of a whole file, said of its lines alone, and the theorem that the turns print this. SCOPE 11.6; 02, wish 6.
use Rattle.std.specs.Prelude.{◌≡◌, List, [], ◌∷◌, ◌++◌, ℕ, length, take, eqb}
use Rattle.wire.specs.Bytes.{pick}
use Rattle.text.specs.Numeral.{decimal_text}
use Rattle.lsn.specs.Position.{position_of, display_of}
use Rattle.positions.specs.Stored.{Held, fresh, turn_texts, turn_held, turn_line, last_texts}

-- the lines of a file of which `held` came before: what stands before each line feed, and what stands after the last one, where that is anything
unfoldable pub lines_from : List ℕ → List ℕ → List (List ℕ)
lines_from held [] = pick (eqb (length held) 0) [] (held ∷ [])
lines_from held (b ∷ s) = pick (eqb b 10) (held ∷ lines_from [] s) (lines_from (held ++ (b ∷ [])) s)

-- Display's spelling, or the refusal's number, a space and the line as stored
abbrev pub outcome_text : ℕ × ℕ → List ℕ → List ℕ
outcome_text o s = pick (eqb o.0 0) (display_of o.1) (decimal_text o.0 ++ (32 ∷ s))

-- a stored line has at most 255 bytes; a longer one is judged by its first 255, and printed whole
unfoldable pub line_text : List ℕ → List ℕ
line_text s = outcome_text (position_of (take 255 s)) s

-- the lines one after the other, each with a line feed
unfoldable pub printed_of : List (List ℕ) → List ℕ
printed_of [] = []
printed_of (l ∷ ls) = line_text l ++ (10 ∷ printed_of ls)

-- texts as they are placed, one after the other
unfoldable pub written : List (List ℕ) → List ℕ
written [] = []
written (t ∷ ts) = t ++ written ts

-- what the turns print of the bytes, and then the end of the file
unfoldable pub turns_print : Held → List ℕ → List ℕ → List ℕ
turns_print h line [] = written (last_texts h line)
turns_print h line (b ∷ s) = written (turn_texts h line b) ++ turns_print (turn_held h line b) (turn_line h line b) s

-- the turns print the lines, whatever the file and whatever stood in the buffer for a line
abbrev pub TurnsPrintLines : Type 0
TurnsPrintLines = (line s : List ℕ) → length line ≡ 255 → turns_print fresh line s ≡ printed_of (lines_from [] s)

-- in plain bytes
pub record PrintedCases : Type 0 where
  -- nothing is printed of an empty file
  pub empty : printed_of (lines_from [] []) ≡ []
  -- an empty line prints `22 ` and a line feed
  pub empty_line : printed_of (lines_from [] (10 ∷ [])) ≡ 50 ∷ 50 ∷ 32 ∷ 10 ∷ []
  -- `a/f`, a line feed, `+1/2`, a carriage return, a line feed, `0/0`
  pub three_lines : printed_of (lines_from [] (97 ∷ 47 ∷ 102 ∷ 10 ∷ 43 ∷ 49 ∷ 47 ∷ 50 ∷ 13 ∷ 10 ∷ 48 ∷ 47 ∷ 48 ∷ []))
      ≡ 65 ∷ 47 ∷ 70 ∷ 10 ∷ 50 ∷ 51 ∷ 32 ∷ 43 ∷ 49 ∷ 47 ∷ 50 ∷ 13 ∷ 10 ∷ 48 ∷ 47 ∷ 48 ∷ 10 ∷ []
