-- The limit and what goes by it, over all settings and readers: SCOPE 3.2, 3.3; 01, "Messages".
use Rattle.std.specs.Prelude.{◌≡◌, Bool, true, List, ℕ, ◌≤◌, ◌<◌, length, Ok, Err, Some, None}
use Rattle.error.specs.declared.Refusal.{Refusal}
use Rattle.error.specs.Refusal.{number_of}
use Rattle.framing.specs.declared.MessageReader.{MessageReader}
use Rattle.framing.specs.Read.{more, whole, refused, said_by, limit_of, read_of}

pub record LimitLaws : Type 0 where
  -- every setting up to 1 GiB is the limit, and above that 1 GiB is
  pub setting : (n : ℕ) → n ≤ 1073741824 → limit_of n ≡ n
  pub most : (n : ℕ) → 1073741824 ≤ n → limit_of n ≡ 1073741824
  -- 3 exactly where the buffer is shorter than the limit
  pub three : (n : ℕ) (r : MessageReader) (u : List ℕ) (e : Bool) (p : List ℕ) → length p < limit_of n → read_of n r u e p ≡ (refused 3, r, 0, p)
  pub only_then : (n : ℕ) (r : MessageReader) (u : List ℕ) (e : Bool) (p : List ℕ) → limit_of n ≤ length p → (read_of n r u e p).0 ≡ refused 3 → ⊥
  -- a reader that remembers 7 repeats it, and takes and writes nothing
  pub remembered : (n : ℕ) (r : MessageReader) (u : List ℕ) (e : Bool) (p : List ℕ) → limit_of n ≤ length p → r.refused ≡ true
      → read_of n r u e p ≡ (refused 7, r, 0, p)
  -- what each answer says
  pub says_more : said_by (Ok None) ≡ more
  pub says_whole : (tag n : ℕ) → said_by (Ok (Some (record { tag = tag; len = n }))) ≡ whole tag n
  pub says_refused : (r : Refusal) → said_by (Err r) ≡ refused (number_of r)
