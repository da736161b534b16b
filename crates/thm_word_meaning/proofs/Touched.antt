-- The call about touched files returns and leaves what specs/Touched.antt says.
use mathlib.Core.Path.{◌≡◌, ap}
use mathlib.Core.Bool.{true, false}
use mathlib.Core.List.{List}
use Prim.Native.Nat.{ℕ, ◌<◌, min}
use native.Mathlib.Omega.{arith}
use lib.ListN.{length, get_or}
use borrow.Author.Tests.{ne_eqb}
use Rattle.touched.specs.Bits.{bits_of, files_by}
use Rattle.touched.specs.Touched.{after_of, entries_of, has_no_file}
use Rattle.touched.proofs.BitLaws.{bit_laws}
use Rattle.touched.proofs.EntryLaws.{entry_laws, refused_lists}
use Rattle.touched.specs.Words.{told_by}
use Rattle.thm_host_calls.specs.HostWords.{word}
use Rattle.thm_word_meaning.specs.Touched.{AllFiles, TouchedTold}

module _ (ids files : List ℕ) where
  count : length (entries_of ids files) ≡ min 64 (min (length ids) (length files))
  count = entry_laws.how_many ids files

  file_at : (i : ℕ) → i < length (entries_of ids files) → (get_or (entries_of ids files) i (0, 0)).1 ≡ word files i
  file_at i h = ap (λ (e : ℕ × ℕ). e.1) (entry_laws.each ids files i h)

  a_file_is_none : (i : ℕ) → i < 64 → i < length ids → i < length files → 3 < word files i → has_no_file (entries_of ids files) ≡ true
  a_file_is_none i h j k l =
      let e = count in
      let n : i < length (entries_of ids files) = omega (arith, e) in
      refused_lists.refused (entries_of ids files) i n (rw (file_at i n) l)

  all_are_files : AllFiles ids files → has_no_file (entries_of ids files) ≡ false
  all_are_files a =
      refused_lists.accepted (entries_of ids files)
      (λ i n. let e = count in rw (file_at i n) (a i (omega (arith, e)) (omega (arith, e)) (omega (arith, e))))

pub touched_told : TouchedTold
unfolding after_of told_by bits_of files_by
touched_told ids files kind s bits =
    record {
      refused = λ i h j k l. rw (a_file_is_none ids files i h j k l);
      begins = λ a k. rw (all_are_files ids files a, k);
      brings = λ a k. rw (all_are_files ids files a, k);
      nothing = λ a h g. rw (all_are_files ids files a, ne_eqb _ 2 h, ne_eqb _ 5 g) (ap (λ (n : ℕ). (0, n)) (bit_laws.lowest bits));
    }
