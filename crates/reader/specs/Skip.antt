-- Where a reader stands after it was moved: SCOPE 12; 01, "Rust forms and their Rattle forms".
use Rattle.std.specs.Prelude.{◌≡◌, List, [], ◌∷◌, ℕ, ◌+◌, ◌-◌, ◌≤◌, min, length}

-- the place n bytes after place i of the data, or their end where fewer are left
unfoldable pub skipped : List ℕ → ℕ → ℕ → ℕ
skipped s i n = i + min n (length s - i)

-- a move within the data is by n bytes, one past their end ends there, and two moves are one
pub record SkipLaws : Type 0 where
  pub within : (s : List ℕ) (i n : ℕ) → i + n ≤ length s → skipped s i n ≡ i + n
  pub to_the_end : (s : List ℕ) (i n : ℕ) → i ≤ length s → length s ≤ i + n → skipped s i n ≡ length s
  pub twice : (s : List ℕ) (i n m : ℕ) → skipped s (skipped s i n) m ≡ skipped s i (n + m)
  pub case_within : skipped (7 ∷ 8 ∷ 9 ∷ []) 1 1 ≡ 2
  pub case_end : skipped (7 ∷ 8 ∷ 9 ∷ []) 1 5 ≡ 3
