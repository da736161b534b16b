-- Where a reader stands after it was moved.
use mathlib.Core.Path.{◌≡◌, refl}
use mathlib.Core.List.{List}
use Prim.Native.Nat.{ℕ, ◌+◌, ◌≤◌}
use native.Mathlib.Omega.{arith}
use lib.ListN.{length}
use Rattle.reader.specs.Skip.{skipped, SkipLaws}

module _ (s : List ℕ) (i n : ℕ) where
  pub skipped_within : i + n ≤ length s → skipped s i n ≡ i + n
  unfolding skipped
  skipped_within h = omega arith

  pub skipped_to_end : i ≤ length s → length s ≤ i + n → skipped s i n ≡ length s
  unfolding skipped
  skipped_to_end h k = omega arith

  -- a place after the end stays
  pub skipped_far : length s ≤ i → skipped s i n ≡ i
  unfolding skipped
  skipped_far h = omega arith

pub skipped_none : (s : List ℕ) (i : ℕ) → skipped s i 0 ≡ i
unfolding skipped
skipped_none s i = omega arith

pub skip_laws : SkipLaws
unfolding skipped
skip_laws =
    record {
      within = skipped_within;
      to_the_end = skipped_to_end;
      twice = λ s i n m. omega arith;
      case_within = refl;
      case_end = refl;
    }
