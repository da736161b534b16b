-- The touched files as words: the event by its kind and its data, the files as a number. 02, wish 10; SCOPE 9.7.
use Rattle.std.specs.Prelude.{◌≡◌, false, List, [], ◌∷◌, ℕ, eqb, Result, Ok, Err}
use Rattle.wire.specs.Bytes.{pick}
use Rattle.progress.specs.declared.files.FileRefusal.{FileRefusal}
use Rattle.progress.specs.Files.{file_number}
use Rattle.touched.specs.declared.Files.{Files}
use Rattle.touched.specs.Bits.{bits_of, files_by}
use Rattle.touched.specs.Touched.{entries_of, has_no_file, Told, begins, brings, nothing, after_of}
use Rattle.touched.specs.Walk.{walk_of}

-- what an event tells: kind 2 is a Begin, 5 brings the data, every other number tells nothing
unfoldable pub told_by : ℕ → List ℕ → Told
told_by kind s = pick (eqb kind 2) begins (pick (eqb kind 5) (brings s) nothing)

-- the files as bits; refused, the bits are all as they were
abbrev pub reply_of : ℕ → ℕ × Files → ℕ × ℕ
reply_of bits a = (a.0, pick (eqb a.0 0) (bits_of a.1) bits)

-- `rufflesquash_touched`, with identifiers and files, an event's kind and data, and bits, of which those above the four are not read: the refusal's
-- number, 0 for none, and the bits
abbrev pub touched_call : List ℕ → List ℕ → ℕ → List ℕ → ℕ → ℕ × ℕ
touched_call ids fs kind s bits = reply_of bits (after_of (entries_of ids fs) (told_by kind s) (files_by bits))

-- what the code's own bits after a call say, of those before
abbrev pub bits_by : ℕ → Result ℕ FileRefusal → ℕ × ℕ
bits_by bits (Ok n) = (0, n)
bits_by bits (Err r) = (file_number r, bits)

-- ---- theorems

-- which number tells what, whatever the data are
pub record KindLaws : Type 0 where
  pub begin : (s : List ℕ) → told_by 2 s ≡ begins
  pub xlog_data : (s : List ℕ) → told_by 5 s ≡ brings s
  pub other : (kind : ℕ) (s : List ℕ) → (kind ≡ 2 → ⊥) → (kind ≡ 5 → ⊥) → told_by kind s ≡ nothing

-- what each pair of a kind and data tells
unfoldable pub told_in : List (ℕ × List ℕ) → List Told
told_in [] = []
told_in (c ∷ cs) = told_by c.0 c.1 ∷ told_in cs

-- the bits after calls, each with the same list and the bits as the last one left them
unfoldable pub bits_left : List ℕ → List ℕ → ℕ → List (ℕ × List ℕ) → ℕ
bits_left ids fs bits [] = bits
bits_left ids fs bits (c ∷ cs) = bits_left ids fs (touched_call ids fs c.0 c.1 bits).1 cs

-- with the same unrefused list, from 0, over any list of kinds and data: they are what a full walk finds
abbrev pub BitsAreTheWalk : Type 0
BitsAreTheWalk =
    (ids fs : List ℕ) (cs : List (ℕ × List ℕ)) → has_no_file (entries_of ids fs) ≡ false
    → bits_left ids fs 0 cs ≡ bits_of (walk_of (entries_of ids fs) (told_in cs))
