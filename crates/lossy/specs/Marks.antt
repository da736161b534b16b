-- The marks of a lossy text: how many U+FFFD were put in, one for each ill-formed part. One that was in the text is not counted. SCOPE 2.6;
-- 02, wish 7.
use Rattle.std.specs.Prelude.{◌≡◌, refl, Bool, false, List, [], ◌∷◌, ℕ, ◌+◌, ◌*◌, ◌≤◌, length, get_or, eqb, leb, Option as Answer, Some, None, Result, Ok, Err}
use Rattle.std.proofs.Math.Option.{Option, some, none}
use Rattle.wire.specs.Bytes.{pick}
use Rattle.error.specs.Refusal.{number_of}
use Rattle.error.specs.declared.Refusal.{Refusal}
use Rattle.utf8.specs.WellFormed.{table, row_of, matched}
use Rattle.lossy.specs.Lossy.{Part, well, ill, parts_of, lossy_of}
use Rattle.lossy.specs.declared.Lossy.{Lossy}

-- whether EF BF BD, the encoding of U+FFFD, stands at the front of a text
abbrev pub is_mark : List ℕ → Bool
is_mark s = pick (eqb (get_or s 0 0) 0xEF) (pick (eqb (get_or s 1 0) 0xBF) (eqb (get_or s 2 0) 0xBD) false) false

-- in how many places of a text it stands
unfoldable pub seen : List ℕ → ℕ
seen [] = 0
seen (b ∷ s) = pick (is_mark (b ∷ s)) 1 0 + seen s

-- the marks that stand for a part
abbrev pub marks_in : Part → ℕ
marks_in (well s) = 0
marks_in (ill s) = 1

-- the marks that stand for parts
unfoldable pub marks_all : List Part → ℕ
marks_all [] = 0
marks_all (p ∷ ps) = marks_in p + marks_all ps

-- the marks that the lossy text of a byte string has put in
unfoldable pub marks_of : List ℕ → ℕ
marks_of s = marks_all (parts_of (length s) s)

-- ---- answers

-- a length and marks, where the length is at most the room
unfoldable pub measured : ℕ → ℕ → ℕ → Option (ℕ × ℕ)
measured room n marks = pick (leb n room) (some (n, marks)) none

-- the values of an answer: the length and the marks, or none where the length is over the room
abbrev pub measure_of : Answer Lossy → Option (ℕ × ℕ)
measure_of (Some l) = some (l.bytes, l.marks)
measure_of None = none

-- what a writer answers and leaves, and the marks of its text; a refused call answers no marks
unfoldable pub with_marks : ℕ → (ℕ × ℕ) × List ℕ → (ℕ × ℕ × ℕ) × List ℕ
with_marks marks w = ((w.0.0, w.0.1, pick (eqb w.0.0 0) marks 0), w.1)

-- the values of an answer: the refusal's number, 0 for none, how many bytes were written, and how many marks are among them
abbrev pub lossy_outcome : Result Lossy Refusal → ℕ × ℕ × ℕ
lossy_outcome (Ok l) = (0, l.bytes, l.marks)
lossy_outcome (Err r) = (number_of r, 0, 0)

-- ---- what is counted and what is seen

-- the lossy text shows U+FFFD in the places where the text has it, and in as many more as are counted
abbrev pub MarksAreSeen : Type 0
MarksAreSeen = (s : List ℕ) → seen (lossy_of s) ≡ seen s + marks_of s

-- a text without marks is its own lossy text
abbrev pub UnmarkedIsUnchanged : Type 0
UnmarkedIsUnchanged = (s : List ℕ) → marks_of s ≡ 0 → lossy_of s ≡ s

-- a mark has three bytes
abbrev pub MarksFit : Type 0
MarksFit = (s : List ℕ) → 3 * marks_of s ≤ length (lossy_of s)

pub record Cases : Type 0 where
  -- U+FFFD that was in the text
  pub none_for_its_own : marks_of (0xEF ∷ 0xBF ∷ 0xBD ∷ []) ≡ 0
  -- beside an ill-formed byte
  pub one_beside : marks_of (0xEF ∷ 0xBF ∷ 0xBD ∷ 0xFF ∷ []) ≡ 1
  -- a maximal subpart of two bytes is one mark, each of its halves alone is one too
  pub one_for_two : marks_of (0xE2 ∷ 0x82 ∷ []) ≡ 1
  pub first_half : marks_of (0xE2 ∷ []) ≡ 1
  pub second_half : marks_of (0x82 ∷ []) ≡ 1
  -- two bytes, neither of which begins a sequence
  pub two : marks_of (0xFF ∷ 0xFF ∷ []) ≡ 2
  pub well_formed : marks_of (0xE2 ∷ 0x82 ∷ 0xAC ∷ []) ≡ 0

-- each by computing the definitions
pub cases : Cases
unfolding seen marks_of marks_all parts_of row_of table matched
cases =
    record {
      none_for_its_own = refl;
      one_beside = refl;
      one_for_two = refl;
      first_half = refl;
      second_half = refl;
      two = refl;
      well_formed = refl;
    }
