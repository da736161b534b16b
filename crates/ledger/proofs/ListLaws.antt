-- Entries from the first that is held on, and the first that is undone.
use mathlib.Core.Path.{◌≡◌, refl}
use mathlib.Core.Bool.{Bool, false}
use mathlib.Core.List.{List, [], ◌∷◌, ◌++◌}
use Prim.Native.Nat.{ℕ}
use Rattle.wire.proofs.Laws.{by_test}
use Rattle.ledger.specs.declared.Entry.{Entry}
use Rattle.ledger.specs.History.{first_undone, from_held}

pub from_ext : (k j : Entry → Bool) → ((e : Entry) → k e ≡ j e) → (xs : List Entry) → from_held k xs ≡ from_held j xs
unfolding from_held
from_ext k j h [] = refl
from_ext k j h (x ∷ xs) = rw (h x, from_ext k j h xs)

-- what is not held stays so: those that are left out may be left out before
pub from_more : (k j : Entry → Bool) → ((e : Entry) → k e ≡ false → j e ≡ false) → (xs ys : List Entry)
    → from_held j (from_held k xs ++ ys) ≡ from_held j (xs ++ ys)
unfolding from_held
from_more k j h [] ys = refl
from_more k j h (x ∷ xs) ys =
    by_test (k x) (λ e. rw e) (λ e. rw (e, h x e) (from_more k j h xs ys))

-- the first undone one is among those that are held
pub first_held : (k u : Entry → Bool) → ((e : Entry) → k e ≡ false → u e ≡ false) → (s : ℕ) (xs : List Entry)
    → first_undone u s (from_held k xs) ≡ first_undone u s xs
unfolding from_held first_undone
first_held k u h s [] = refl
first_held k u h s (x ∷ xs) = by_test (k x) (λ e. rw e) (λ e. rw (e, h x e) (first_held k u h s xs))

pub first_ext : (k j : Entry → Bool) → ((e : Entry) → k e ≡ j e) → (s : ℕ) (xs : List Entry) → first_undone k s xs ≡ first_undone j s xs
unfolding first_undone
first_ext k j h s [] = refl
first_ext k j h s (x ∷ xs) = rw (h x, first_ext k j h s xs)

pub from_again : (k j : Entry → Bool) → ((e : Entry) → k e ≡ false → j e ≡ false) → (xs : List Entry) → from_held j (from_held k xs) ≡ from_held j xs
unfolding from_held
from_again k j h [] = refl
from_again k j h (x ∷ xs) = by_test (k x) (λ e. rw e) (λ e. rw (e, h x e) (from_again k j h xs))
