-- The automaton of well-formed UTF-8: what is due after each byte, by Table 3-7; and the eight states that a table has for it, in the order of 02,
-- wish 8. SCOPE 2.6.
use Rattle.std.specs.Prelude.{◌≡◌, refl, Bool, true, false, List, [], ◌∷◌, ℕ, zero, suc, ◌+◌, ◌*◌, ◌/◌, ◌%◌, ◌≤◌, ◌<◌, eqb, leb, get_or}
use Rattle.std.proofs.Math.Option.{Option, some, none}
use Rattle.wire.specs.Bytes.{pick}
use Rattle.utf8.specs.WellFormed.{Range, table, within, row_of}

-- ---- what is due

-- the ranges after the first of a row; there is no such row where it is empty
abbrev pub begun : List Range → Option (List Range)
begun [] = none
begun (r ∷ rs) = some rs

-- the ranges that are due after a byte: none are due between characters; `none` where the byte is ill-formed
abbrev pub after : Option (List Range) → ℕ → Option (List Range)
after none b = none
after (some []) b = begun (row_of table b)
after (some (r ∷ rs)) b = pick (within r b) (some rs) none

-- the same after several bytes
unfoldable pub after_all : Option (List Range) → List ℕ → Option (List Range)
after_all d [] = d
after_all d (b ∷ s) = after_all (after d b) s

-- ---- the states

abbrev to : ℕ → ℕ → Range
to a b = record { low = a; high = b }

-- a continuation byte
abbrev pub trailing : Range
trailing = to 0x80 0xBF

-- what is due in each state: between characters; one, two or three continuation bytes; after E0, ED, F0, F4
unfoldable pub states : List (List Range)
states =
    []
    ∷ (trailing ∷ [])
    ∷ (trailing ∷ trailing ∷ [])
    ∷ (trailing ∷ trailing ∷ trailing ∷ [])
    ∷ (to 0xA0 0xBF ∷ trailing ∷ [])
    ∷ (to 0x80 0x9F ∷ trailing ∷ [])
    ∷ (to 0x90 0xBF ∷ trailing ∷ trailing ∷ [])
    ∷ (to 0x80 0x8F ∷ trailing ∷ trailing ∷ [])
    ∷ []

abbrev pub nth : List (List Range) → ℕ → Option (List Range)
nth [] q = none
nth (x ∷ xs) zero = some x
nth (x ∷ xs) (suc q) = nth xs q

-- what is due in the state of a number; 8, and any greater number, is "ill-formed here"
unfoldable pub due_in : ℕ → Option (List Range)
due_in q = nth states q

abbrev pub same_range : Range → Range → Bool
same_range a b = pick (eqb a.low b.low) (eqb a.high b.high) false

abbrev pub same_ranges : List Range → List Range → Bool
same_ranges [] [] = true
same_ranges [] (r ∷ rs) = false
same_ranges (q ∷ qs) [] = false
same_ranges (q ∷ qs) (r ∷ rs) = pick (same_range q r) (same_ranges qs rs) false

-- where the ranges stand in a list; its length where they do not
abbrev pub place_of : List (List Range) → List Range → ℕ
place_of [] rs = 0
place_of (x ∷ xs) rs = pick (same_ranges x rs) 0 (suc (place_of xs rs))

-- the number of the state in which these ranges are due
unfoldable pub state_of : Option (List Range) → ℕ
state_of none = 8
state_of (some rs) = place_of states rs

-- an entry of the table: the state after a byte, by what is due then
unfoldable pub entry_of : ℕ → ℕ → ℕ
entry_of q b = state_of (after (due_in q) b)

-- the entries of n places from k on: the one of a state and a byte is at 256 times the state and the byte
unfoldable pub entries_from : ℕ → ℕ → List ℕ
entries_from k zero = []
entries_from k (suc n) = entry_of (k / 256) (k % 256) ∷ entries_from (suc k) n

-- the table: the entries of all eight states and 256 bytes
unfoldable pub entries : List ℕ
entries = entries_from 0 2048

-- what a look-up answers by any table, for any state and byte: the entry, and 8 for a number that is no state
abbrev pub looked : List ℕ → ℕ → ℕ → ℕ
looked t q b = pick (leb 8 q) 8 (get_or t (256 * q + b) 0)

-- a list has the entries of all states and bytes, one after the other
pub record IsTable (xs : List ℕ) : Type 0 where
  pub entry : (q b : ℕ) → q < 8 → b < 256 → get_or xs (q * 256 + b) 0 ≡ entry_of q b

-- ---- what the numbers mean

-- in the state that an entry says, just that is due which is due after the byte
abbrev pub EntryLeads : Type 0
EntryLeads = (q b : ℕ) → b < 256 → due_in (entry_of q b) ≡ after (due_in q) b

-- the table has them, and by such a list a look-up answers the entry, for every number and byte
abbrev pub EntriesAreTable : Type 0
EntriesAreTable = IsTable entries

abbrev pub LookedIsEntry : Type 0
LookedIsEntry = (t : List ℕ) → IsTable t → (q b : ℕ) → b < 256 → looked t q b ≡ entry_of q b

-- no entry is above 8
abbrev pub EntriesEnd : Type 0
EntriesEnd = (q b : ℕ) → entry_of q b ≤ 8

pub record Cases : Type 0 where
  -- the states have the numbers of 02's order: one, two, three continuation bytes due, after E0, ED, F0, F4
  pub one_due : entry_of 0 0xC2 ≡ 1
  pub two_due : entry_of 0 0xE1 ≡ 2
  pub three_due : entry_of 0 0xF1 ≡ 3
  pub after_e0 : entry_of 0 0xE0 ≡ 4
  pub after_ed : entry_of 0 0xED ≡ 5
  pub after_f0 : entry_of 0 0xF0 ≡ 6
  pub after_f4 : entry_of 0 0xF4 ≡ 7
  -- after ED A0 no sequence goes on, after ED 9F one does
  pub surrogate : entry_of (entry_of 0 0xED) 0xA0 ≡ 8
  pub before_surrogates : entry_of (entry_of 0 0xED) 0x9F ≡ 1
  pub overlong : entry_of (entry_of 0 0xE0) 0x9F ≡ 8
  pub above : entry_of (entry_of 0 0xF4) 0x90 ≡ 8
  pub no_first : entry_of 0 0xC1 ≡ 8
  pub continuation : entry_of 0 0x80 ≡ 8
  pub letter : entry_of 0 0x41 ≡ 0
  pub letter_within : entry_of 2 0x41 ≡ 8
  pub euro : entry_of (entry_of (entry_of 0 0xE2) 0x82) 0xAC ≡ 0

-- each by computing the definitions
pub cases : Cases
unfolding entry_of state_of due_in states row_of table
cases =
    record {
      one_due = refl;
      two_due = refl;
      three_due = refl;
      after_e0 = refl;
      after_ed = refl;
      after_f0 = refl;
      after_f4 = refl;
      surrogate = refl;
      before_surrogates = refl;
      overlong = refl;
      above = refl;
      no_first = refl;
      continuation = refl;
      letter = refl;
      letter_within = refl;
      euro = refl;
    }
