-- What the private functions answer: the ranges after a first byte, and a part by its length. SCOPE 2.6.
use Rattle.std.specs.Prelude.{ℕ, ◌+◌, ◌≤◌, ◌≡◌, ◌<◌, Bool, true, false, List, [], ◌∷◌, length, take, drop, get_or, Option as Answer, Some, None}
use Rattle.wire.specs.Bytes.{pick}
use Rattle.utf8.specs.WellFormed.{Range, table, row_of, within}
use Rattle.lossy.specs.Lossy.{Part, well, ill, part_by}
use Rattle.lossy.specs.declared.part.Part.{Part as Cut}
use Rattle.lossy.specs.Stretch.{stretch_of}
use Rattle.lossy.specs.Blocks.{PassedTo}
use Rattle.lossy.specs.declared.part.Lead.{Lead}
use Rattle.lossy.specs.declared.Stretch.{Stretch}

-- whether a row has a first byte, and the ranges after it
abbrev pub behind_first : List Range → Bool × List Range
behind_first [] = (false, [])
behind_first (r ∷ rs) = (true, rs)

-- the ranges of the bytes that a lead says are due
abbrev pub trail : Lead → List Range
trail l = take l.due (record { low = l.low; high = l.high } ∷ record { low = 0x80; high = 0xBF } ∷ record { low = 0x80; high = 0xBF } ∷ [])

-- the same of a row that may begin with no first byte
abbrev pub lead_said : Answer Lead → Bool × List Range
lead_said (Some l) = (true, trail l)
lead_said None = (false, [])

abbrev pub due_in : Answer Lead → ℕ
due_in (Some l) = l.due
due_in None = 0

-- whether the text's first byte is in the range
abbrev pub first_in : Range → List ℕ → Bool
first_in r [] = false
first_in r (b ∷ s) = within r b

-- the part of so many bytes at the front of a text
abbrev pub part_found : Cut → List ℕ → Part
part_found p s = pick p.well (well (take p.len s)) (ill (take p.len s))

-- p is the part of the text at the place
pub record PartAt (s : List ℕ) (i : ℕ) (p : Cut) : Type 0 where
  pub is : part_by (row_of table (get_or s i 0)) (drop i s) ≡ part_found p (drop i s)
  pub some : 1 ≤ p.len
  pub ends : i + p.len ≤ length s

-- t says where the stretch of well-formed parts from the place on ends, and how long the ill-formed part there is, 0 at the text's end
pub record StretchAt (s : List ℕ) (i : ℕ) (t : Stretch) : Type 0 where
  pub is : t.end ≡ i + stretch_of (drop i s)
  pub last : t.ill ≡ 0 → t.end ≡ length s
  pub behind : 1 ≤ t.ill → PartAt s t.end (record { len = t.ill; well = false })

-- a function may be asked at every place of a text but its end, and answers the part there
pub record FindsParts (May : ℕ → Type 0) (Answers : ℕ → Cut → Type 0) (s : List ℕ) : Type 0 where
  pub may : (i : ℕ) → i < length s → May i
  pub answers : (i : ℕ) (p : Cut) → i < length s → Answers i p → PartAt s i p

-- a function may be asked at every place of a text, its end with them, and answers the stretch from there on
pub record FindsStretches (May : ℕ → Type 0) (Answers : ℕ → Stretch → Type 0) (s : List ℕ) : Type 0 where
  pub may : (i : ℕ) → i ≤ length s → May i
  pub answers : (i : ℕ) (t : Stretch) → i ≤ length s → Answers i t → StretchAt s i t

-- t says where well-formed parts that begin at i end, not before the place stop, or how long the ill-formed part there is
pub record WalkedTo (s : List ℕ) (i stop : ℕ) (t : Stretch) : Type 0 where
  pub passed : PassedTo s i t.end
  pub far : t.ill ≡ 0 → stop ≤ t.end
  pub behind : 1 ≤ t.ill → PartAt s t.end (record { len = t.ill; well = false })
