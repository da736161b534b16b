-- The cases by computing, the laws by their tests.
use mathlib.Core.Path.{◌≡◌, refl}
use mathlib.Core.List.{List, [], ◌∷◌, ◌++◌}
use Prim.Native.Nat.{ℕ, ◌+◌}
use native.Mathlib.Omega.{arith}
use lib.ListN.{length, get_or-eq_default}
use borrow.Author.Tests.{le-leb, lt-leb, lt-ltb, le-ltb}
use denote.Ref.{Bor}
use Rattle.wire.specs.Bytes.{put}
use Rattle.error.specs.declared.Refusal.{Refusal}
use Rattle.error.specs.declared.Refusal.TheVariants.{IntervalTooLong, RunEnded, PayloadBufferTooShort, OutputTooShort, MomentOutOfOrder, InvalidLength, MessageTooLarge, EofInHeader, EofInPayload, EmptyCopyData, XLogDataTooShort, KeepaliveTooShort, UnknownCopyData, TruncatedI8, TruncatedI32, TruncatedI64, UnterminatedPrefix, ContentTooShort, ServerError, MalformedDataRow, AuthRequestTooShort, MissingSlash, InvalidHighPart, InvalidLowPart, InputTooLong}
use Rattle.error.specs.Refusal.{number_of, kind_of, kind_at, kinds}
use Rattle.error.specs.Inputs.{total}
use Rattle.error.specs.Writer.{writing, counted}
use Rattle.error.specs.Cases.{RefusalCases, WriterLaws, CountLaws}

by_number : (r : Refusal) → kind_at (number_of r) ≡ kind_of r
by_number IntervalTooLong = refl
by_number RunEnded = refl
by_number PayloadBufferTooShort = refl
by_number OutputTooShort = refl
by_number MomentOutOfOrder = refl
by_number InvalidLength = refl
by_number MessageTooLarge = refl
by_number EofInHeader = refl
by_number EofInPayload = refl
by_number EmptyCopyData = refl
by_number XLogDataTooShort = refl
by_number KeepaliveTooShort = refl
by_number UnknownCopyData = refl
by_number TruncatedI8 = refl
by_number TruncatedI32 = refl
by_number TruncatedI64 = refl
by_number UnterminatedPrefix = refl
by_number ContentTooShort = refl
by_number ServerError = refl
by_number MalformedDataRow = refl
by_number AuthRequestTooShort = refl
by_number MissingSlash = refl
by_number InvalidHighPart = refl
by_number InvalidLowPart = refl
by_number InputTooLong = refl

pub refusal_cases : RefusalCases
refusal_cases =
    record {
      one = refl;
      two = refl;
      three = refl;
      four = refl;
      five = refl;
      six = refl;
      seven = refl;
      eight = refl;
      nine = refl;
      ten = refl;
      eleven = refl;
      twelve = refl;
      thirteen = refl;
      fourteen = refl;
      fifteen = refl;
      sixteen = refl;
      seventeen = refl;
      eighteen = refl;
      nineteen = refl;
      twenty = refl;
      twenty_one = refl;
      twenty_two = refl;
      twenty_three = refl;
      twenty_four = refl;
      twenty_five = refl;
      by_number = by_number;
      no_refusal = refl;
      no_further = λ n h. get_or-eq_default kinds 0 h;
    }

pub writer_laws : WriterLaws
unfolding writing put
writer_laws =
    record {
      inputs_first = λ inputs text out h. simp (lt-ltb _ _ h);
      then_output = λ inputs text out h k. simp (le-ltb _ _ h, lt-ltb _ _ k);
      else_written = λ inputs text out h k. let e : 0 + length text ≡ length text = omega arith in simp (le-ltb _ _ h, le-ltb _ _ k, e);
      at_the_limit = refl;
      past_the_limit = refl;
      both_refusals = refl;
      short_output = refl;
    }

total_append : (a b : List (Bor (List ℕ))) → total (a ++ b) ≡ total a + total b
unfolding total
total_append [] b = omega arith
total_append (n ∷ a) b = let h : total (a ++ b) ≡ total a + total b = total_append a b in omega arith

pub count_laws : CountLaws
unfolding counted total
count_laws =
    record {
      fills_the_room = λ n. simp (le-leb n n (omega arith));
      one_over = λ n. simp (lt-leb (n + 1) n (omega arith));
      no_names = refl;
      names_add_up = total_append;
    }
