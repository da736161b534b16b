-- The number of every refusal, its kind by that number, and after which refusals a new connection may help. SCOPE 7.1, 7.4, 9.4.
use Rattle.std.specs.Prelude.{ℕ, ◌≤◌, ◌≡◌}
use Rattle.error.specs.declared.Refusal.TheVariants.{IntervalTooLong, RunEnded, PayloadBufferTooShort, OutputTooShort, MomentOutOfOrder}
use Rattle.error.specs.declared.Refusal.TheVariants.{InvalidLength, MessageTooLarge, EofInHeader, EofInPayload, EmptyCopyData}
use Rattle.error.specs.declared.Refusal.TheVariants.{XLogDataTooShort, KeepaliveTooShort, UnknownCopyData, TruncatedI8, TruncatedI32}
use Rattle.error.specs.declared.Refusal.TheVariants.{TruncatedI64, UnterminatedPrefix, ContentTooShort, ServerError, MalformedDataRow}
use Rattle.error.specs.declared.Refusal.TheVariants.{AuthRequestTooShort, MissingSlash, InvalidHighPart, InvalidLowPart, InputTooLong}
use Rattle.error.specs.Refusal.{number_of}
use Rattle.ffi_answers.specs.Kinds.{kind_by, transient_at}
use Rattle.progress.specs.declared.files.FileRefusal.{FileRefusal}
use Rattle.progress.specs.declared.files.FileRefusal.TheVariants.{NoSuchFile}
use Rattle.progress.specs.Files.{file_number, file_kind}
use Rattle.rows.specs.declared.Refusal as OfRows
use Rattle.rows.specs.declared.Refusal.TheVariants.{FieldCut, UnknownLetter}
use Rattle.rows.specs.Head as Rows
use Rattle.hours.specs.declared.Refusal as OfHours
use Rattle.hours.specs.declared.Refusal.TheVariants.{InvalidWindow, OffsetOutOfRange, MomentOutOfRange}
use Rattle.hours.specs.Answer as Hours
use Rattle.relations.specs.declared.Refusal as OfCache
use Rattle.relations.specs.declared.Refusal.TheVariants.{CacheFull, TooLarge, Unmatched}
use Rattle.relations.specs.Answers as Cache
use Rattle.load.specs.declared.Refusal.TheVariants.{Writer, SeedZero}
use Rattle.load.specs.Load as Load

-- the number of every refusal, each by its own crate's name
pub record RefusalNumbers : Type 0 where
  pub to_five : (number_of IntervalTooLong ≡ 1) × (number_of RunEnded ≡ 2) × (number_of PayloadBufferTooShort ≡ 3) × (number_of OutputTooShort ≡ 4)
      × (number_of MomentOutOfOrder ≡ 5)
  pub to_ten : (number_of InvalidLength ≡ 6) × (number_of MessageTooLarge ≡ 7) × (number_of EofInHeader ≡ 8) × (number_of EofInPayload ≡ 9)
      × (number_of EmptyCopyData ≡ 10)
  pub to_fifteen : (number_of XLogDataTooShort ≡ 11) × (number_of KeepaliveTooShort ≡ 12) × (number_of UnknownCopyData ≡ 13)
      × (number_of TruncatedI8 ≡ 14) × (number_of TruncatedI32 ≡ 15)
  pub to_twenty : (number_of TruncatedI64 ≡ 16) × (number_of UnterminatedPrefix ≡ 17) × (number_of ContentTooShort ≡ 18)
      × (number_of ServerError ≡ 19) × (number_of MalformedDataRow ≡ 20)
  pub to_twenty_five : (number_of AuthRequestTooShort ≡ 21) × (number_of MissingSlash ≡ 22) × (number_of InvalidHighPart ≡ 23)
      × (number_of InvalidLowPart ≡ 24) × (number_of InputTooLong ≡ 25)
  pub of_rows : (Rows.number_of FieldCut ≡ 26) × (Rows.number_of UnknownLetter ≡ 27)
  pub of_cache : (Cache.number_of CacheFull ≡ 28) × (Cache.number_of TooLarge ≡ 29) × (Cache.number_of Unmatched ≡ 30)
  pub of_files : file_number NoSuchFile ≡ 31
  pub of_hours : (Hours.number_of InvalidWindow ≡ 32) × (Hours.number_of OffsetOutOfRange ≡ 33) × (Hours.number_of MomentOutOfRange ≡ 34)
  pub of_load : (Load.number_of (Writer OutputTooShort) ≡ 4) × (Load.number_of SeedZero ≡ 35)

-- kinds by number: 0 no refusal, 1 usage, 2 input and output, 3 protocol, 4 server, 5 a message too large, 6 a position that is none
pub record KindWords : Type 0 where
  pub none : kind_by 0 ≡ 0
  pub to_five : (kind_by 1 ≡ 1) × (kind_by 2 ≡ 1) × (kind_by 3 ≡ 1) × (kind_by 4 ≡ 1) × (kind_by 5 ≡ 1)
  pub to_ten : (kind_by 6 ≡ 3) × (kind_by 7 ≡ 5) × (kind_by 8 ≡ 2) × (kind_by 9 ≡ 2) × (kind_by 10 ≡ 3)
  pub to_fifteen : (kind_by 11 ≡ 3) × (kind_by 12 ≡ 3) × (kind_by 13 ≡ 3) × (kind_by 14 ≡ 3) × (kind_by 15 ≡ 3)
  pub to_twenty : (kind_by 16 ≡ 3) × (kind_by 17 ≡ 3) × (kind_by 18 ≡ 3) × (kind_by 19 ≡ 4) × (kind_by 20 ≡ 3)
  pub to_twenty_five : (kind_by 21 ≡ 3) × (kind_by 22 ≡ 6) × (kind_by 23 ≡ 6) × (kind_by 24 ≡ 6) × (kind_by 25 ≡ 1)
  pub to_thirty : (kind_by 26 ≡ 3) × (kind_by 27 ≡ 3) × (kind_by 28 ≡ 3) × (kind_by 29 ≡ 3) × (kind_by 30 ≡ 3)
  pub to_thirty_five : (kind_by 31 ≡ 1) × (kind_by 32 ≡ 1) × (kind_by 33 ≡ 1) × (kind_by 34 ≡ 1) × (kind_by 35 ≡ 1)
  pub beyond : (n : ℕ) → 36 ≤ n → kind_by n ≡ 0

-- each refusal of a crate beside `error` has the kind that its own crate gives it
pub record KindsAgree : Type 0 where
  pub of_rows : (r : OfRows.Refusal) → kind_by (Rows.number_of r) ≡ Rows.kind_of r
  pub of_files : (r : FileRefusal) → kind_by (file_number r) ≡ file_kind r
  pub of_hours : (r : OfHours.Refusal) → kind_by (Hours.number_of r) ≡ Hours.kind_of r
  pub of_cache : (r : OfCache.Refusal) → kind_by (Cache.number_of r) ≡ Cache.kind_of r

-- a new connection may help where the input ended in a message, which is 8 and 9, and after no other number
pub record TransientWords : Type 0 where
  pub in_header : transient_at 8 ≡ 1
  pub in_payload : transient_at 9 ≡ 1
  pub others : (n : ℕ) → (n ≡ 8 → ⊥) → (n ≡ 9 → ⊥) → transient_at n ≡ 0
