-- Cases and laws of the definitions of refusals and writers, in plain numbers: SCOPE 3.5, 7.1, 7.4; 01, "Where each call turns back"; the Rust's
-- error.rs, in which only an end of the input is an I/O error and what a parser refuses is a protocol error.
use Rattle.std.specs.Prelude.{◌≡◌, List, [], ◌∷◌, ◌++◌, ℕ, ◌+◌, ◌≤◌, ◌<◌, length, drop}
use Rattle.std.proofs.Math.Option.{some, none}
use Rattle.std.specs.Borrow.{Bor}
use Rattle.error.specs.declared.Refusal.{Refusal}
use Rattle.error.specs.declared.Refusal.TheVariants.{IntervalTooLong, RunEnded, PayloadBufferTooShort, OutputTooShort, MomentOutOfOrder}
use Rattle.error.specs.declared.Refusal.TheVariants.{InvalidLength, MessageTooLarge, EofInHeader, EofInPayload, EmptyCopyData}
use Rattle.error.specs.declared.Refusal.TheVariants.{XLogDataTooShort, KeepaliveTooShort, UnknownCopyData, TruncatedI8, TruncatedI32}
use Rattle.error.specs.declared.Refusal.TheVariants.{TruncatedI64, UnterminatedPrefix, ContentTooShort, ServerError, MalformedDataRow}
use Rattle.error.specs.declared.Refusal.TheVariants.{AuthRequestTooShort, MissingSlash, InvalidHighPart, InvalidLowPart, InputTooLong}
use Rattle.error.specs.Refusal.{number_of, kind_of, kind_at}
use Rattle.error.specs.Inputs.{total}
use Rattle.error.specs.Writer.{writing, counted}

-- a refusal's number and its kind: 1 Usage, 2 Io, 3 Protocol, 4 Server, 5 MessageTooLarge, 6 ParseLsn
abbrev pub numbers : Refusal → ℕ × ℕ
numbers r = (number_of r, kind_of r)

-- every refusal in plain numbers, and the kinds by number, which are the same, and none beside them
pub record RefusalCases : Type 0 where
  pub one : numbers IntervalTooLong ≡ (1, 1)
  pub two : numbers RunEnded ≡ (2, 1)
  pub three : numbers PayloadBufferTooShort ≡ (3, 1)
  pub four : numbers OutputTooShort ≡ (4, 1)
  pub five : numbers MomentOutOfOrder ≡ (5, 1)
  pub six : numbers InvalidLength ≡ (6, 3)
  pub seven : numbers MessageTooLarge ≡ (7, 5)
  pub eight : numbers EofInHeader ≡ (8, 2)
  pub nine : numbers EofInPayload ≡ (9, 2)
  pub ten : numbers EmptyCopyData ≡ (10, 3)
  pub eleven : numbers XLogDataTooShort ≡ (11, 3)
  pub twelve : numbers KeepaliveTooShort ≡ (12, 3)
  pub thirteen : numbers UnknownCopyData ≡ (13, 3)
  pub fourteen : numbers TruncatedI8 ≡ (14, 3)
  pub fifteen : numbers TruncatedI32 ≡ (15, 3)
  pub sixteen : numbers TruncatedI64 ≡ (16, 3)
  pub seventeen : numbers UnterminatedPrefix ≡ (17, 3)
  pub eighteen : numbers ContentTooShort ≡ (18, 3)
  pub nineteen : numbers ServerError ≡ (19, 4)
  pub twenty : numbers MalformedDataRow ≡ (20, 3)
  pub twenty_one : numbers AuthRequestTooShort ≡ (21, 3)
  pub twenty_two : numbers MissingSlash ≡ (22, 6)
  pub twenty_three : numbers InvalidHighPart ≡ (23, 6)
  pub twenty_four : numbers InvalidLowPart ≡ (24, 6)
  pub twenty_five : numbers InputTooLong ≡ (25, 1)
  pub by_number : (r : Refusal) → kind_at (number_of r) ≡ kind_of r
  pub no_refusal : kind_at 0 ≡ 0
  pub no_further : (n : ℕ) → 26 ≤ n → kind_at n ≡ 0

-- the ways out of a writer, each in the order of its test: inputs of more than 1,048,576 bytes together are 25, whatever the output is; then an
-- output that is shorter than the text is 4; both leave the output as it was. Else the text stands at the front, and the rest of the output is as it
-- was
pub record WriterLaws : Type 0 where
  pub inputs_first : (inputs : ℕ) (text out : List ℕ) → 1048576 < inputs → writing inputs text out ≡ ((25, 0), out)
  pub then_output : (inputs : ℕ) (text out : List ℕ) → inputs ≤ 1048576 → length out < length text → writing inputs text out ≡ ((4, 0), out)
  pub else_written : (inputs : ℕ) (text out : List ℕ) → inputs ≤ 1048576 → length text ≤ length out
      → writing inputs text out ≡ ((0, length text), text ++ drop (length text) out)
  -- the limit itself passes, and one more does not, before any output is looked at
  pub at_the_limit : writing 1048576 (7 ∷ []) (0 ∷ 9 ∷ []) ≡ ((0, 1), 7 ∷ 9 ∷ [])
  pub past_the_limit : writing 1048577 (7 ∷ []) (0 ∷ 9 ∷ []) ≡ ((25, 0), 0 ∷ 9 ∷ [])
  pub both_refusals : writing 1048577 (7 ∷ []) [] ≡ ((25, 0), [])
  pub short_output : writing 1048576 (7 ∷ []) [] ≡ ((4, 0), [])

-- lengths that are counted, and the bytes of names
pub record CountLaws : Type 0 where
  pub fills_the_room : (n : ℕ) → counted n n ≡ some n
  pub one_over : (n : ℕ) → counted n (n + 1) ≡ none
  pub no_names : total [] ≡ 0
  pub names_add_up : (a b : List (Bor (List ℕ))) → total (a ++ b) ≡ total a + total b
