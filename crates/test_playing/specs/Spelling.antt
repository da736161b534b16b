-- How programs spell an event: a letter and its fields (SCOPE 11.4; 01, "Program `events`"). Brief has parts by their lengths, a prefix by that of
-- its lossy text; else parts stand as their bytes (vectors/README.md, "Runs"). A part that does not lie within the payload is `outside`.
use Rattle.std.specs.Prelude.{ℕ, Bool, List, [], ◌∷◌, ◌++◌, length}
use Rattle.std.proofs.Math.Option.{Option, some, none}
use Rattle.wire.specs.Bytes.{pick, at}
use Rattle.error.specs.Writer.{counted}
use Rattle.lossy.specs.Lossy.{lossy_of}
use Rattle.lsn.specs.declared.Lsn.{Lsn}
use Rattle.test_lines.specs.Line.{number_texts, flag_texts, is_within, outside_texts, part_texts, position_texts, dated_texts, spanned_texts, flagged_texts, end_texts}
use Rattle.worker.specs.declared.Event.{Event}
use Rattle.worker.specs.declared.Event.TheVariants.{Nothing, KeepAlive, Begin, Commit, Message, XLogData, StoppedAt}

-- `S` and a position
abbrev pub stopped_texts : Lsn → List (List ℕ)
stopped_texts p = (83 ∷ []) ∷ position_texts p.0

-- a part of the payload: its length, or its bytes
abbrev pub length_texts : List ℕ → ℕ → ℕ → ℕ → List (List ℕ)
length_texts payload from len n = pick (is_within payload from len) (number_texts n) outside_texts

abbrev pub part_by : Bool → List ℕ → ℕ → ℕ → List (List ℕ)
part_by brief payload from len = pick brief (length_texts payload from len len) (part_texts payload from len)

-- a length that fits, else 0
abbrev pub fitting : Option ℕ → ℕ
fitting (some n) = n
fitting none = 0

-- the length of a part's lossy text, as far as 64 bits have it; 0 for a part that lies outside
unfoldable pub lossy_length : List ℕ → ℕ → ℕ → ℕ
lossy_length payload from len =
    pick (is_within payload from len) (fitting (counted 18446744073709551615 (length (lossy_of (at payload from len))))) 0

-- a prefix: the length of its text, or its bytes
abbrev pub prefix_by : Bool → List ℕ → ℕ → ℕ → List (List ℕ)
prefix_by brief payload from len = pick brief (length_texts payload from len (lossy_length payload from len)) (part_texts payload from len)

-- an event that names parts
abbrev pub data_texts : Bool → List ℕ → Event → List (List ℕ)
data_texts brief payload (Message flag position pf pl cf cl) =
    flagged_texts flag position ++ (prefix_by brief payload pf pl ++ part_by brief payload cf cl)
data_texts brief payload (XLogData start end time from len) = spanned_texts 88 start end time ++ part_by brief payload from len
data_texts brief payload Nothing = []
data_texts brief payload (KeepAlive end time reply) = []
data_texts brief payload (Begin final time xid) = []
data_texts brief payload (Commit position end time) = []
data_texts brief payload (StoppedAt reached) = []

-- an event; nothing for none
abbrev pub event_texts : Bool → List ℕ → Event → List (List ℕ)
event_texts brief payload Nothing = []
event_texts brief payload (KeepAlive end time reply) = dated_texts 75 end time ++ flag_texts reply
event_texts brief payload (Begin final time xid) = dated_texts 66 final time ++ number_texts xid
event_texts brief payload (Commit position end time) = spanned_texts 67 position end time
event_texts brief payload (Message flag position pf pl cf cl) = data_texts brief payload (Message flag position pf pl cf cl)
event_texts brief payload (XLogData start end time from len) = data_texts brief payload (XLogData start end time from len)
event_texts brief payload (StoppedAt reached) = stopped_texts reached

-- the last line: `END` and the refusal's number
abbrev pub end_texts_of : ℕ → List (List ℕ)
end_texts_of n = (69 ∷ 78 ∷ 68 ∷ []) ∷ (number_texts n ++ end_texts)

-- the last line where the last step says that it took more bytes than it was offered: `END outside`
abbrev pub end_outside : List (List ℕ)
end_outside = (69 ∷ 78 ∷ 68 ∷ []) ∷ (outside_texts ++ end_texts)
