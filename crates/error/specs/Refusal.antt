-- Refusals: the number of each (SCOPE 7.1; 01, "Where each call turns back"), and the Rust's kind of each (SCOPE 7.4; error.rs). Other crates
-- number their own refusals from 26 on, each by a definition of its own.
use Rattle.std.specs.Prelude.{ℕ, List, [], ◌∷◌, get_or}
use Rattle.error.specs.declared.Refusal.{Refusal}
use Rattle.error.specs.declared.Refusal.TheVariants.{IntervalTooLong, RunEnded, PayloadBufferTooShort, OutputTooShort, MomentOutOfOrder}
use Rattle.error.specs.declared.Refusal.TheVariants.{InvalidLength, MessageTooLarge, EofInHeader, EofInPayload, EmptyCopyData}
use Rattle.error.specs.declared.Refusal.TheVariants.{XLogDataTooShort, KeepaliveTooShort, UnknownCopyData, TruncatedI8, TruncatedI32}
use Rattle.error.specs.declared.Refusal.TheVariants.{TruncatedI64, UnterminatedPrefix, ContentTooShort, ServerError, MalformedDataRow}
use Rattle.error.specs.declared.Refusal.TheVariants.{AuthRequestTooShort, MissingSlash, InvalidHighPart, InvalidLowPart, InputTooLong}
use Rattle.error.specs.declared.Kind.{Kind}
use Rattle.error.specs.declared.Kind.TheVariants.{Usage, Io, Protocol, Server, MessageTooLarge as TooLarge, ParseLsn}

-- the number of each
abbrev pub number_of : Refusal → ℕ
number_of IntervalTooLong = 1
number_of RunEnded = 2
number_of PayloadBufferTooShort = 3
number_of OutputTooShort = 4
number_of MomentOutOfOrder = 5
number_of InvalidLength = 6
number_of MessageTooLarge = 7
number_of EofInHeader = 8
number_of EofInPayload = 9
number_of EmptyCopyData = 10
number_of XLogDataTooShort = 11
number_of KeepaliveTooShort = 12
number_of UnknownCopyData = 13
number_of TruncatedI8 = 14
number_of TruncatedI32 = 15
number_of TruncatedI64 = 16
number_of UnterminatedPrefix = 17
number_of ContentTooShort = 18
number_of ServerError = 19
number_of MalformedDataRow = 20
number_of AuthRequestTooShort = 21
number_of MissingSlash = 22
number_of InvalidHighPart = 23
number_of InvalidLowPart = 24
number_of InputTooLong = 25

-- ---- kinds: the Rust's (error.rs), and Usage, which is none of the Rust's, since only a caller's own inputs bring it about

-- each has a number, from 1 on; 0 stands for none
abbrev pub usage : ℕ
usage = 1

abbrev pub io : ℕ
io = 2

abbrev pub protocol : ℕ
protocol = 3

abbrev pub server : ℕ
server = 4

abbrev pub too_large : ℕ
too_large = 5

abbrev pub parse_lsn : ℕ
parse_lsn = 6

-- the number of an answer
abbrev pub kind_number : Kind → ℕ
kind_number Usage = usage
kind_number Io = io
kind_number Protocol = protocol
kind_number Server = server
kind_number TooLarge = too_large
kind_number ParseLsn = parse_lsn

-- the kind of each refusal, by case
abbrev pub kind_of : Refusal → ℕ
kind_of IntervalTooLong = usage
kind_of RunEnded = usage
kind_of PayloadBufferTooShort = usage
kind_of OutputTooShort = usage
kind_of MomentOutOfOrder = usage
kind_of InvalidLength = protocol
kind_of MessageTooLarge = too_large
kind_of EofInHeader = io
kind_of EofInPayload = io
kind_of EmptyCopyData = protocol
kind_of XLogDataTooShort = protocol
kind_of KeepaliveTooShort = protocol
kind_of UnknownCopyData = protocol
kind_of TruncatedI8 = protocol
kind_of TruncatedI32 = protocol
kind_of TruncatedI64 = protocol
kind_of UnterminatedPrefix = protocol
kind_of ContentTooShort = protocol
kind_of ServerError = server
kind_of MalformedDataRow = protocol
kind_of AuthRequestTooShort = protocol
kind_of MissingSlash = parse_lsn
kind_of InvalidHighPart = parse_lsn
kind_of InvalidLowPart = parse_lsn
kind_of InputTooLong = usage

-- the kinds by the refusals' numbers, from 0 on, which is no refusal
abbrev pub kinds : List ℕ
kinds =
    0
    ∷ usage ∷ usage ∷ usage ∷ usage ∷ usage
    ∷ protocol ∷ too_large ∷ io ∷ io
    ∷ protocol ∷ protocol ∷ protocol ∷ protocol ∷ protocol ∷ protocol ∷ protocol ∷ protocol ∷ protocol
    ∷ server ∷ protocol ∷ protocol ∷ parse_lsn ∷ parse_lsn ∷ parse_lsn ∷ usage ∷ []

-- the kind that a number has; 0 for a number that none of these refusals has
abbrev pub kind_at : ℕ → ℕ
kind_at n = get_or kinds n 0
