-- The boundaries of a transaction: PostgreSQL documentation, "Logical Replication Message Formats" (Begin, Commit, Message), protocol
-- version 1; SCOPE 3.9. Fields are read in their order; the first that is cut gives the refusal: 14 of 8 bits, 15 of 32, 16 of 64, 17 a prefix
-- without a zero byte, 18 a content that is short or whose length is negative.
use Rattle.std.specs.Prelude.{ℕ, ◌+◌, ◌-◌, ◌%◌, Bool, List, [], ◌∷◌, ◌++◌, length, drop, ℤ, ltb, eqb, Result, Ok, Err, Some, None}
use Rattle.std.specs.Prelude.{Option as Maybe}
use Rattle.std.proofs.Math.Option.{Option, some, none}
use Rattle.wire.specs.Bytes.{pick, be_bytes}
use Rattle.wire.specs.Field.{field_at}
use Rattle.wire.specs.Int.{is_negative, int_at, int_bytes}
use Rattle.wire.specs.Find.{index_of}
use Rattle.error.specs.Refusal.{number_of}
use Rattle.error.specs.declared.Refusal.{Refusal}
use Rattle.pgoutput.specs.declared.Boundary.{Boundary}
use Rattle.pgoutput.specs.declared.Boundary.TheVariants.{Begin, Commit, Message}

-- the values: Begin's final position, time and xid; Commit's position, end and time; Message's flag, position, and where prefix and
-- content begin in the data and how long they are; no boundary; or the refusal's number
pub data Said : Type 0 where
  begin : ℕ → ℤ → ℕ → Said
  commit : ℕ → ℕ → ℤ → Said
  message : Bool → ℕ → ℕ → ℕ → ℕ → ℕ → Said
  no_boundary : Said
  refused : ℕ → Said

-- a field that may be cut: its refusal, or what follows
abbrev pub need : {A : Type 0} → ℕ → Option A → (A → Said) → Said
need n none go = refused n
need n (some v) go = go v

-- Begin, Byte1('B'), then from place i: Int64 final LSN, Int64 commit time, Int32 xid
abbrev pub begin_at : List ℕ → ℕ → Said
begin_at s i =
    need 16 (field_at 8 s i) (λ final.
    need 16 (int_at 8 s (i + 8)) (λ time.
    need 15 (field_at 4 s (i + 16)) (λ xid.
    begin final time xid)))

-- Commit, Byte1('C'), then from place i: Int8 flags, Int64 LSN, Int64 end LSN, Int64 commit time
abbrev pub commit_at : List ℕ → ℕ → Said
commit_at s i =
    need 14 (field_at 1 s i) (λ flags.
    need 16 (field_at 8 s (i + 1)) (λ position.
    need 16 (field_at 8 s (i + 9)) (λ end.
    need 16 (int_at 8 s (i + 17)) (λ time.
    commit position end time))))

-- the end of a Message whose prefix has n bytes from a place, from place i: Int32 length of the content, Byten content
abbrev pub content_at : List ℕ → ℕ → ℕ → ℕ → ℕ → ℕ → Said
content_at s i flags position from n =
    need 15 (field_at 4 s i) (λ len.
    pick (is_negative 4 len) (refused 18)
    (pick (ltb (length s - (i + 4)) len) (refused 18)
    (message (eqb (flags % 2) 1) position from n (i + 4) len)))

-- the same from place i, where the prefix begins, by where its zero byte was found
abbrev pub prefix_by : List ℕ → ℕ → ℕ → ℕ → Option ℕ → Said
prefix_by s i flags position none = refused 17
prefix_by s i flags position (some n) = content_at s (i + n + 1) flags position i n

-- Message, Byte1('M'), then from place i: Int8 flags, Int64 LSN, String prefix, Int32, Byten; the flag is bit 0
abbrev pub message_at : List ℕ → ℕ → Said
message_at s i =
    need 14 (field_at 1 s i) (λ flags.
    need 16 (field_at 8 s (i + 1)) (λ position.
    prefix_by s (i + 9) flags position (index_of 0 (drop (i + 9) s))))

-- by the first byte; data that begin with none of the three letters, or have no byte, are no boundary
unfoldable pub boundary_of : List ℕ → Said
boundary_of [] = no_boundary
boundary_of (letter ∷ s) =
    pick (eqb letter 66) (begin_at (letter ∷ s) 1)
    (pick (eqb letter 67) (commit_at (letter ∷ s) 1)
    (pick (eqb letter 77) (message_at (letter ∷ s) 1)
    no_boundary))

-- the values of a boundary; what an answer of the code says where the letter is a boundary's, and where it may be none
abbrev pub values : Boundary → Said
values (Begin final time xid) = begin final.0 time xid
values (Commit position end time) = commit position.0 end.0 time
values (Message flag position pf pl cf cl) = message flag position.0 pf pl cf cl

abbrev pub read_by : Result Boundary Refusal → Said
read_by (Ok b) = values b
read_by (Err r) = refused (number_of r)

abbrev pub said_by : Result (Maybe Boundary) Refusal → Said
said_by (Ok None) = no_boundary
said_by (Ok (Some b)) = values b
said_by (Err r) = refused (number_of r)

-- the bytes of each message
unfoldable pub begin_bytes : ℕ → ℤ → ℕ → List ℕ
begin_bytes final time xid = 66 ∷ (be_bytes 8 final ++ (int_bytes 8 time ++ be_bytes 4 xid))

-- of a Commit: flags, LSN, end LSN, time
unfoldable pub commit_bytes : ℕ → ℕ → ℕ → ℤ → List ℕ
commit_bytes flags position end time =
    67 ∷ flags ∷ (be_bytes 8 position ++ (be_bytes 8 end ++ int_bytes 8 time))

-- of a Message: flags, LSN, prefix and its zero byte, length of the content, content
unfoldable pub message_bytes : ℕ → ℕ → List ℕ → List ℕ → List ℕ
message_bytes flags position prefix content =
    77 ∷ flags ∷ (be_bytes 8 position ++ (prefix ++ (0 ∷ (be_bytes 4 (length content) ++ content))))
