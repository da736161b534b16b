-- The kinds are what specs/Kinds.antt says: of the numbers that refusals have one by one, of all others since they are beyond the list.
use mathlib.Core.Path.{◌≡◌, refl}
use mathlib.Core.Bool.{Bool, true, false}
use mathlib.Core.List.{List, [], ◌∷◌}
use Prim.Native.Nat.{ℕ, zero, suc, ◌≤◌, ◌<◌}
use native.Mathlib.Omega.{arith}
use lib.Dec.{eqb, ltb}
use lib.ListN.{length, get_or}
use borrow.Author.Tests.{ne_eqb, le-ltb, lt-leb, eqb-true, eqb-false, ltb-true, ltb-false}
use Rattle.wire.specs.Bytes.{pick}
use Rattle.wire.proofs.Laws.{by_test, impossible}
use Rattle.error.specs.Refusal.{kinds}
use Rattle.ffi_answers.specs.Kinds.{kind_by, transient_at}
use Rattle.progress.specs.declared.files.FileRefusal.{FileRefusal}
use Rattle.progress.specs.declared.files.FileRefusal.TheVariants.{NoSuchFile}
use Rattle.progress.specs.Files.{file_number, file_kind}
use Rattle.rows.specs.declared.Refusal as OfRows
use Rattle.rows.specs.declared.Refusal.TheVariants.{FieldCut, UnknownLetter}
use Rattle.rows.specs.Head as Rows
use Rattle.hours.specs.declared.Refusal as OfHours
use Rattle.hours.specs.declared.Refusal.TheVariants.{InvalidWindow, OffsetOutOfRange, MomentOutOfRange}
use Rattle.hours.specs.Answer as Hours
use Rattle.relations.specs.declared.Refusal as OfCache
use Rattle.relations.specs.declared.Refusal.TheVariants.{CacheFull, TooLarge, Unmatched, NoRoom}
use Rattle.relations.specs.Answers as Cache
use Rattle.thm_word_meaning.specs.Kinds.{RefusalNumbers, KindWords, KindsAgree, TransientWords}

pub refusal_numbers : RefusalNumbers
refusal_numbers =
    record {
      to_five = (refl, refl, refl, refl, refl);
      to_ten = (refl, refl, refl, refl, refl);
      to_fifteen = (refl, refl, refl, refl, refl);
      to_twenty = (refl, refl, refl, refl, refl);
      to_twenty_five = (refl, refl, refl, refl, refl);
      of_rows = (refl, refl);
      of_cache = (refl, refl, refl);
      of_files = refl;
      of_hours = (refl, refl, refl);
      of_load = (refl, refl);
    }

past_the_end : (l : List ℕ) (n : ℕ) → length l ≤ n → get_or l n 0 ≡ 0
past_the_end [] n h = refl
past_the_end (x ∷ l) zero h = absurd (omega arith)
past_the_end (x ∷ l) (suc n) h = past_the_end l n (omega arith)

beyond : (n : ℕ) → 36 ≤ n → kind_by n ≡ 0
beyond n h =
    simp (
      le-ltb n 26 (omega arith),
      lt-leb n 30 (omega arith),
      le-ltb n 31 (omega arith),
      lt-leb n 35 (omega arith),
      past_the_end kinds n (omega arith),
    )

pub kind_words : KindWords
kind_words =
    record {
      none = refl;
      to_five = (refl, refl, refl, refl, refl);
      to_ten = (refl, refl, refl, refl, refl);
      to_fifteen = (refl, refl, refl, refl, refl);
      to_twenty = (refl, refl, refl, refl, refl);
      to_twenty_five = (refl, refl, refl, refl, refl);
      to_thirty = (refl, refl, refl, refl, refl);
      to_thirty_five = (refl, refl, refl, refl, refl);
      beyond = beyond;
    }

of_rows : (r : OfRows.Refusal) → kind_by (Rows.number_of r) ≡ Rows.kind_of r
of_rows FieldCut = refl
of_rows UnknownLetter = refl

of_files : (r : FileRefusal) → kind_by (file_number r) ≡ file_kind r
of_files NoSuchFile = refl

of_hours : (r : OfHours.Refusal) → kind_by (Hours.number_of r) ≡ Hours.kind_of r
of_hours InvalidWindow = refl
of_hours OffsetOutOfRange = refl
of_hours MomentOutOfRange = refl

of_cache : (r : OfCache.Refusal) → kind_by (Cache.number_of r) ≡ Cache.kind_of r
of_cache CacheFull = refl
of_cache TooLarge = refl
of_cache Unmatched = refl
of_cache NoRoom = refl

pub kinds_agree : KindsAgree
kinds_agree = record { of_rows = of_rows; of_files = of_files; of_hours = of_hours; of_cache = of_cache }

-- ---- a test that holds of each number below a bound

unfoldable all_below : (ℕ → Bool) → ℕ → Bool
all_below f zero = true
all_below f (suc n) = pick (f n) (all_below f n) false

first_holds : (a b : Bool) → pick a b false ≡ true → a ≡ true
first_holds true b e = refl
first_holds false b e = e

second_holds : (a b : Bool) → pick a b false ≡ true → b ≡ true
second_holds true b e = e
second_holds false b e = impossible cc

each_below : (f : ℕ → Bool) (k n : ℕ) → all_below f k ≡ true → n < k → f n ≡ true
unfolding all_below
each_below f zero n e h = absurd (omega arith)
each_below f (suc k) n e h =
    by_test (eqb n k)
    (λ t. let i : n ≡ k = eqb-true n k t in rw i (first_holds (f k) (all_below f k) e))
    (λ t. let i : n ≡ k → ⊥ = eqb-false n k t in each_below f k n (second_holds (f k) (all_below f k) e) (omega (arith, i)))

is_permanent : ℕ → Bool
is_permanent n = pick (eqb n 8) true (pick (eqb n 9) true (eqb (transient_at n) 0))

others : (n : ℕ) → (n ≡ 8 → ⊥) → (n ≡ 9 → ⊥) → transient_at n ≡ 0
unfolding all_below is_permanent
others n a b =
    by_test (ltb n 36)
    (λ t.
    let e : is_permanent n ≡ true = each_below is_permanent 36 n refl (ltb-true n 36 t) in
    eqb-true (transient_at n) 0 (rw (ne_eqb n 8 a, ne_eqb n 9 b) at e))
    (λ t. rw (beyond n (ltb-false n 36 t)))

pub transient_words : TransientWords
transient_words = record { in_header = refl; in_payload = refl; others = others }
