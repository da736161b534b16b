-- The list of relations and files, said without its definitions. 02, wish 10; SCOPE 18.
use Rattle.std.specs.Prelude.{◌≡◌, true, false, List, ℕ, ◌<◌, ◌≤◌, min, length, get_or}
use Rattle.touched.specs.Touched.{entries_of, has_no_file}

-- the entry at each place is the identifier and the file there, for the first 64 places that both have
pub record EntryLaws : Type 0 where
  pub how_many : (ids fs : List ℕ) → length (entries_of ids fs) ≡ min 64 (min (length ids) (length fs))
  pub each : (ids fs : List ℕ) (i : ℕ) → i < length (entries_of ids fs) → get_or (entries_of ids fs) i (0, 0) ≡ (get_or ids i 0, get_or fs i 0)

-- a list is refused where, and only where, an entry has a file above 3
pub record RefusedLists : Type 0 where
  pub refused : (es : List (ℕ × ℕ)) (i : ℕ) → i < length es → 3 < (get_or es i (0, 0)).1 → has_no_file es ≡ true
  pub accepted : (es : List (ℕ × ℕ)) → ((i : ℕ) → i < length es → (get_or es i (0, 0)).1 ≤ 3) → has_no_file es ≡ false
