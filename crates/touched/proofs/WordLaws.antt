-- What a kind tells; bits go there and back at every call.
use mathlib.Core.Path.{◌≡◌, refl, ap, ◌∙◌}
use mathlib.Core.Bool.{false}
use mathlib.Core.List.{List, [], ◌∷◌}
use Prim.Native.Nat.{ℕ}
use borrow.Author.Tests.{ne_eqb}
use Rattle.progress.specs.declared.files.FileRefusal.{FileRefusal}
use Rattle.progress.specs.declared.files.FileRefusal.TheVariants.{NoSuchFile}
use Rattle.progress.specs.Files.{file_number}
use Rattle.touched.specs.declared.Files.{Files}
use Rattle.touched.specs.Bits.{bits_of}
use Rattle.touched.specs.Touched.{entries_of, has_no_file, clear, after_of}
use Rattle.touched.specs.Walk.{left_by}
use Rattle.touched.specs.Words.{told_by, reply_of, touched_call, KindLaws, told_in, bits_left, BitsAreTheWalk}
use Rattle.touched.proofs.BitLaws.{bit_laws}
use Rattle.touched.proofs.Walk.{left_is_the_walk}

-- no refusal has the number 0
pub refused_reply : (r : FileRefusal) (n bits : ℕ) (b : Files) → n ≡ file_number r → (n, bits) ≡ reply_of bits (file_number r, b)
refused_reply NoSuchFile n bits b e = rw e

pub kind_laws : KindLaws
unfolding told_by
kind_laws = record { begin = λ s. refl; xlog_data = λ s. refl; other = λ kind s h k. rw (ne_eqb kind 2 h, ne_eqb kind 5 k) }

module _ (ids fs : List ℕ) (h : has_no_file (entries_of ids fs) ≡ false) where
  bits_after : (b : Files) (kind : ℕ) (s : List ℕ)
      → (touched_call ids fs kind s (bits_of b)).1 ≡ bits_of (after_of (entries_of ids fs) (told_by kind s) b).1
  unfolding after_of
  bits_after b kind s = rw (bit_laws.back b, h)

  from_bits : (b : Files) (cs : List (ℕ × List ℕ)) → bits_left ids fs (bits_of b) cs ≡ bits_of (left_by (entries_of ids fs) b (told_in cs))
  unfolding bits_left told_in left_by
  from_bits b [] = refl
  from_bits b (c ∷ cs) =
      ap (λ (n : ℕ). bits_left ids fs n cs) (bits_after b c.0 c.1) ∙ from_bits (after_of (entries_of ids fs) (told_by c.0 c.1) b).1 cs

pub bits_are_the_walk : BitsAreTheWalk
unfolding bits_of
bits_are_the_walk ids fs cs h = from_bits ids fs h clear cs ∙ ap bits_of (left_is_the_walk (entries_of ids fs) (told_in cs) h)
