-- The laws of the option value, byte by byte.
use mathlib.Core.Path.{◌≡◌, refl}
use mathlib.Core.List.{List, [], ◌∷◌, ◌++◌, append-nil}
use Prim.Native.Nat.{ℕ, ◌≤◌}
use native.Mathlib.Omega.{arith}
use lib.ListN.{length}
use lib.Dec.{eqb}
use borrow.Author.Tests.{ne_eqb}
use denote.Ref.{Bor}
use Rattle.wire.proofs.Laws.{by_test}
use Rattle.config.specs.OptionValue.{doubled, following, option_value}
use Rattle.text.specs.Ascii.{on_first}
use Rattle.config.specs.ReadBack.{names_of}
use Rattle.config.specs.ValueLaws.{NoQuotes, ValueLaws}
use Rattle.config.proofs.ReadBack.{name_last}

plain : (s : List ℕ) → NoQuotes s → doubled s ≡ s
unfolding doubled
plain [] n = refl
plain (c ∷ s) n = rw (ne_eqb c 39 n.0, plain s n.1)

quote : (s t : List ℕ) → doubled (s ++ (39 ∷ t)) ≡ doubled s ++ (39 ∷ 39 ∷ doubled t)
unfolding doubled
quote [] t = refl
quote (c ∷ s) t = by_test (eqb c 39) (λ q. rw (q, quote s t)) (λ q. rw (q, quote s t))

one_name : (n : Bor (List ℕ)) → option_value (n ∷ []) ≡ doubled n.now
unfolding option_value following
one_name n = append-nil (doubled n.now)

more_names : (n m : Bor (List ℕ)) (ns : List (Bor (List ℕ))) → option_value (n ∷ m ∷ ns) ≡ doubled n.now ++ (44 ∷ option_value (m ∷ ns))
unfolding option_value following
more_names n m ns = refl

on_first_lem : (c : ℕ) (x y : List (List ℕ)) → 1 ≤ length x → on_first c (x ++ y) ≡ on_first c x ++ y
on_first_lem c [] y h = absurd (omega arith)
on_first_lem c (w ∷ x) y h = refl

first_some : (c : ℕ) (x : List (List ℕ)) → 1 ≤ length (on_first c x)
first_some c [] = omega arith
first_some c (w ∷ x) = omega arith

names_some : (s : List ℕ) → 1 ≤ length (names_of s)
unfolding names_of
names_some [] = omega arith
names_some (c ∷ s) = by_test (eqb c 44) (λ t. rw t (omega arith)) (λ t. rw t (first_some c (names_of s)))

comma_parts : (s t : List ℕ) → names_of (s ++ (44 ∷ t)) ≡ names_of s ++ names_of t
unfolding names_of
comma_parts [] t = refl
comma_parts (c ∷ s) t =
    by_test (eqb c 44)
    (λ q. rw (q, comma_parts s t))
    (λ q. rw (q, comma_parts s t) (on_first_lem c (names_of s) (names_of t) (names_some s)))

none_given : option_value [] ≡ []
unfolding option_value
none_given = refl

none_read : names_of [] ≡ [] ∷ []
unfolding names_of
none_read = refl

pub value_laws : ValueLaws
value_laws =
    record {
      plain = plain;
      quote = quote;
      none_given = none_given;
      one_name = one_name;
      more_names = more_names;
      one_read = name_last;
      comma_parts = comma_parts;
      none_read = none_read;
    }
