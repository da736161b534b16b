-- The entries of the table at their places, and what is due in the state of each, tested over all of them once.
use mathlib.Core.Path.{◌≡◌, refl, sym, ap, subst, ◌∙◌}
use mathlib.Core.Bool.{Bool, true, false}
use mathlib.Core.List.{List, [], ◌∷◌}
use mathlib.Core.Option.{Option, some, none}
use Prim.Native.Nat.{ℕ, zero, suc, ◌+◌, ◌*◌, ◌/◌, ◌%◌, ◌≤◌, ◌<◌}
use native.Mathlib.Nat.{add-zero, not-suc-le-zero, le_of_suc-le-suc}
use native.Mathlib.Omega.{arith}
use lib.Dec.{T, eqb, ltb}
use lib.ListN.{length, get_or, replicate, length-replicate}
use borrow.Author.Tests.{eqb-true, ltb-true, ltb-false, le-leb, lt-leb}
use Rattle.wire.specs.Bytes.{pick}
use Rattle.wire.proofs.Laws.{by_test, impossible}
use Rattle.utf8.specs.WellFormed.{Range, table, row_of}
use Rattle.utf8.specs.Automaton.{after, states, nth, due_in, same_range, same_ranges, place_of, state_of, entry_of, entries_from, entries, looked, IsTable}
use Rattle.utf8.specs.Automaton.{EntryLeads, EntriesAreTable, LookedIsEntry, EntriesEnd}
use Rattle.utf8.proofs.Table.{every, at}

-- ---- the test

abbrev same_due : Option (List Range) → Option (List Range) → Bool
same_due none none = true
same_due none (some rs) = false
same_due (some qs) none = false
same_due (some qs) (some rs) = same_ranges qs rs

-- in the state of an entry just the ranges are due that are due after the byte; what stands in the list plays no part
abbrev meant : ℕ → ℕ → Bool
meant k x = same_due (due_in (entry_of (k / 256) (k % 256))) (after (due_in (k / 256)) (k % 256))

all : List ℕ
all = replicate 2048 0

passed : T (every meant 0 all)
unfolding all entry_of state_of due_in states row_of table
passed = tt

-- ---- what was tested

abbrev pair : ℕ → ℕ → Range
pair l h = record { low = l; high = h }

range_same : (a b : Range) → same_range a b ≡ true → a ≡ b
range_same a b e = by (eqb a.low b.low) refl e
  where
    by : (t : Bool) → eqb a.low b.low ≡ t → pick t (eqb a.high b.high) false ≡ true → a ≡ b
    by true q e = ap (λ (l : ℕ). pair l a.high) (eqb-true _ _ q) ∙ ap (λ (h : ℕ). pair b.low h) (eqb-true _ _ e)
    by false q e = impossible cc

ranges_same : (qs rs : List Range) → same_ranges qs rs ≡ true → qs ≡ rs
ranges_same [] [] e = refl
ranges_same [] (r ∷ rs) e = impossible cc
ranges_same (q ∷ qs) [] e = impossible cc
ranges_same (q ∷ qs) (r ∷ rs) e = by (same_range q r) refl (ranges_same qs rs) e
  where
    by : (t : Bool) → same_range q r ≡ t → (same_ranges qs rs ≡ true → qs ≡ rs) → pick t (same_ranges qs rs) false ≡ true → (q ∷ qs) ≡ (r ∷ rs)
    by true p f e = rw (range_same q r p, f e)
    by false p f e = impossible cc

due_same : (d e : Option (List Range)) → same_due d e ≡ true → d ≡ e
due_same none none t = refl
due_same none (some rs) t = impossible cc
due_same (some qs) none t = impossible cc
due_same (some qs) (some rs) t = ap some (ranges_same qs rs t)

true_of : (t : Bool) → T t → t ≡ true
true_of true x = refl
true_of false x = absurd x

-- the place of a state and a byte
module _ (k q b : ℕ) (l : b < 256) (e : k ≡ q * 256 + b) where
  state : k / 256 ≡ q
  state = omega arith

  byte : k % 256 ≡ b
  byte = omega arith

-- the entry at a place of the table
entry_from : (n k j : ℕ) → j < n → get_or (entries_from k n) j 0 ≡ entry_of ((k + j) / 256) ((k + j) % 256)
unfolding entries_from
entry_from zero k j h = absurd (not-suc-le-zero h)
entry_from (suc n) k zero h = let e : k + 0 ≡ k = add-zero k in rw e
entry_from (suc n) k (suc j) h = let e : suc k + j ≡ k + suc j = omega arith in rw e at (entry_from n (suc k) j (le_of_suc-le-suc h))

pub entries_are_table : EntriesAreTable
unfolding entries
entries_are_table =
    record {
      entry = λ q b h l.
          let k : ℕ = q * 256 + b in
          let m : k < 2048 = omega arith in
          let e : 0 + k ≡ k = omega arith in
          rw (e, state k q b l refl, byte k q b l refl) at (entry_from 2048 0 k m);
    }

pub is_table : {t : List ℕ} → t ≡ entries → IsTable t
is_table e = subst IsTable (sym e) entries_are_table

due_at : (q b : ℕ) → q < 8 → b < 256 → due_in (entry_of q b) ≡ after (due_in q) b
unfolding all
due_at q b h l =
    let k : ℕ = q * 256 + b in
    let n : length all ≡ 2048 = length-replicate {0} {A = ℕ} 2048 0 in
    let m : k < length all = omega arith in
    due_same _ _ (rw (state k q b l refl, byte k q b l refl) at (true_of (meant k (get_or all k 0)) (at meant all passed k m)))

-- ---- past the states

nth_past : (xs : List (List Range)) (q : ℕ) → length xs ≤ q → nth xs q ≡ none
nth_past [] q h = refl
nth_past (x ∷ xs) zero h = absurd (not-suc-le-zero h)
nth_past (x ∷ xs) (suc q) h = nth_past xs q (le_of_suc-le-suc h)

pub none_due : (q : ℕ) → 8 ≤ q → due_in q ≡ none
unfolding due_in states
none_due q h = nth_past states q h

pub past : (q b : ℕ) → 8 ≤ q → entry_of q b ≡ 8
unfolding entry_of state_of
past q b h = rw (none_due q h)

-- ---- the laws

pub looked_is_entry : LookedIsEntry
looked_is_entry t i q b l = by_test (ltb q 8) (λ e. below (ltb-true q 8 e)) (λ e. behind (ltb-false q 8 e))
  where
    below : q < 8 → looked t q b ≡ entry_of q b
    below h = let e : 256 * q + b ≡ q * 256 + b = omega arith in rw (lt-leb 8 q h, e) (i.entry q b h l)

    behind : 8 ≤ q → looked t q b ≡ entry_of q b
    behind h = rw (le-leb 8 q h) (sym (past q b h))

pub entry_leads : EntryLeads
entry_leads q b l = by_test (ltb q 8) (λ t. below (ltb-true q 8 t)) (λ t. behind (ltb-false q 8 t))
  where
    below : q < 8 → due_in (entry_of q b) ≡ after (due_in q) b
    below h = due_at q b h l

    behind : 8 ≤ q → due_in (entry_of q b) ≡ after (due_in q) b
    behind h = rw (past q b h, none_due q h, none_due 8 (omega arith))

place_end : (xs : List (List Range)) (rs : List Range) → place_of xs rs ≤ length xs
place_end [] rs = omega arith
place_end (x ∷ xs) rs = by (same_ranges x rs) (place_end xs rs)
  where
    by : (t : Bool) → place_of xs rs ≤ length xs → pick t 0 (suc (place_of xs rs)) ≤ suc (length xs)
    by true h = omega arith
    by false h = omega arith

state_end : (d : Option (List Range)) → state_of d ≤ 8
unfolding state_of states
state_end none = omega arith
state_end (some rs) = place_end states rs

pub entries_end : EntriesEnd
unfolding entry_of
entries_end q b = state_end (after (due_in q) b)

-- ---- what is due in a state

pub due_between : due_in 0 ≡ some []
unfolding due_in states
due_between = refl

-- within a character something is due
pub due_within : (q : ℕ) → 0 < q → q < 8 → (r : Range) × (rs : List Range) × (due_in q ≡ some (r ∷ rs))
unfolding due_in states
due_within zero h l = absurd (not-suc-le-zero h)
due_within (suc zero) h l = (_, _, refl)
due_within (suc (suc zero)) h l = (_, _, refl)
due_within (suc (suc (suc zero))) h l = (_, _, refl)
due_within (suc (suc (suc (suc zero)))) h l = (_, _, refl)
due_within (suc (suc (suc (suc (suc zero))))) h l = (_, _, refl)
due_within (suc (suc (suc (suc (suc (suc zero)))))) h l = (_, _, refl)
due_within (suc (suc (suc (suc (suc (suc (suc zero))))))) h l = (_, _, refl)
due_within (suc (suc (suc (suc (suc (suc (suc (suc q)))))))) h l = absurd (omega arith)
