-- Laws of the definitions in specs/: a byte, a name, a piece of the value more.
use mathlib.Core.Path.{◌≡◌, refl}
use mathlib.Core.List.{List, [], ◌∷◌, ◌++◌}
use Prim.Native.Nat.{ℕ, zero, suc, ◌+◌, ◌≤◌, ◌<◌}
use native.Mathlib.Nat.{not-suc-le-zero}
use native.Mathlib.Numerals.{add-one}
use native.Mathlib.Omega.{arith}
use lib.ListN.{length, drop, get_or, length-append, drop_of_length-le}
use lib.Seq.{drop-cons}
use lib.Dec.{eqb}
use mathlib.Core.Bool.{false}
use borrow.Author.Tests.{eq-eqb, ne_eqb}
use denote.Ref.{Bor}
use Rattle.config.specs.OptionValue.{quoted, doubled, following, option_value}
use Rattle.error.specs.Inputs.{no_name, name_at}
use Rattle.config.specs.Code.{comma_at, listed}

pub quote : (c : ℕ) → c ≡ 39 → quoted c ≡ c ∷ c ∷ []
quote c e = simp (eq-eqb c 39 e) (rw e)

pub plain : (c : ℕ) → (c ≡ 39 → ⊥) → quoted c ≡ c ∷ []
plain c n = simp (ne_eqb c 39 n)

pub comma_first : (i : ℕ) → i ≡ 0 → comma_at i ≡ []
comma_first i e = simp (eq-eqb i 0 e)

pub comma_later : (i : ℕ) → (i ≡ 0 → ⊥) → comma_at i ≡ 44 ∷ []
comma_later i n = simp (ne_eqb i 0 n)

pub doubled_next : (s : List ℕ) (i : ℕ) → i < length s → doubled (drop i s) ≡ quoted (get_or s i 0) ++ doubled (drop (i + 1) s)
unfolding doubled
doubled_next s i h = rw (add-one, drop-cons s i 0 h)

pub doubled_length : (s : List ℕ) (i : ℕ) → i < length s → length (doubled (drop i s)) ≡ length (quoted (get_or s i 0)) + length (doubled (drop (i + 1) s))
doubled_length s i h = rw (doubled_next s i h) (length-append (quoted (get_or s i 0)) (doubled (drop (i + 1) s)))

pub doubled_end : (s : List ℕ) (i : ℕ) → length s ≤ i → doubled (drop i s) ≡ []
unfolding doubled
doubled_end s i h = rw (drop_of_length-le s h)

later : (i : ℕ) → eqb (suc i) 0 ≡ false
later i = ne_eqb (suc i) 0 (λ e. omega arith)

pub listed_start : (names : List (Bor (List ℕ))) → listed 0 names ≡ option_value names
unfolding listed
listed_start names = refl

pub listed_next : (names : List (Bor (List ℕ))) (i : ℕ) → i < length names → listed i names ≡ comma_at i ++ (doubled (name_at names i) ++ listed (i + 1) names)
unfolding listed option_value following
listed_next [] i h = absurd (not-suc-le-zero h)
listed_next (n ∷ ns) zero h = refl
listed_next (n ∷ ns) (suc i) h = rw (add-one, drop-cons (n ∷ ns) (suc i) no_name h) (simp later)

pub listed_length : (names : List (Bor (List ℕ))) (i : ℕ) → i < length names
    → length (listed i names) ≡ length (comma_at i) + (length (doubled (name_at names i)) + length (listed (i + 1) names))
listed_length names i h = rw (listed_next names i h) (simp length-append)

pub listed_end : (names : List (Bor (List ℕ))) (i : ℕ) → length names ≤ i → listed i names ≡ []
unfolding listed option_value following
listed_end [] zero h = refl
listed_end (n ∷ ns) zero h = absurd (not-suc-le-zero h)
listed_end names (suc i) h = rw (drop_of_length-le names h, later)
