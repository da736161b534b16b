-- What the call about touched files returns and leaves, whatever its words are: the bits of four files are 1, 2, 4 and 8. SCOPE 9.7, 18.
use Rattle.std.specs.Prelude.{ℕ, ◌+◌, ◌*◌, ◌/◌, ◌%◌, ◌≤◌, ◌<◌, List, ◌≡◌, eqb, length}
use Rattle.rows.specs.Rows.{row_said}
use Rattle.touched.specs.declared.Files.{Files}
use Rattle.touched.specs.Touched.{entries_of, changed_by, with_all}
use Rattle.touched.specs.Words.{touched_call}
use Rattle.thm_host_calls.specs.HostWords.{word, flag}

-- the files whose bits are set
abbrev pub files_in : ℕ → Files
files_in bits =
    record {
      zero = eqb (bits % 2) 1;
      one = eqb (bits / 2 % 2) 1;
      two = eqb (bits / 4 % 2) 1;
      three = eqb (bits / 8 % 2) 1;
    }

-- every file of the first 64 places that both lists have is one of the four
abbrev pub AllFiles : List ℕ → List ℕ → Type 0
AllFiles ids files = (i : ℕ) → i < 64 → i < length ids → i < length files → word files i ≤ 3

-- with identifiers and files, an event's kind and data and the bits before. A file above 3 is refused with 31, and all bits are as they were; else
-- kind 2, a Begin, leaves none, kind 5, data, leaves those before and those of the relations that its row changes, any other number those before;
-- bits above the four are not kept
pub record TouchedWords (ids files : List ℕ) (kind : ℕ) (s : List ℕ) (bits : ℕ) : Type 0 where
  pub refused : (i : ℕ) → i < 64 → i < length ids → i < length files → 3 < word files i → touched_call ids files kind s bits ≡ (31, bits)
  pub begins : AllFiles ids files → kind ≡ 2 → touched_call ids files kind s bits ≡ (0, 0)
  pub brings : AllFiles ids files → kind ≡ 5
      → let f : Files = with_all (entries_of ids files) (changed_by (row_said s)) (files_in bits) in
      touched_call ids files kind s bits ≡ (0, flag f.zero + 2 * flag f.one + 4 * flag f.two + 8 * flag f.three)
  pub nothing : AllFiles ids files → (kind ≡ 2 → ⊥) → (kind ≡ 5 → ⊥) → touched_call ids files kind s bits ≡ (0, bits % 16)

-- of any words and data
abbrev pub TouchedTold : Type 0
TouchedTold = (ids files : List ℕ) (kind : ℕ) (s : List ℕ) (bits : ℕ) → TouchedWords ids files kind s bits
