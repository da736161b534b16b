-- The plain reading: which events a stream of server bytes gives, and which of them the steps hand on. Its inputs are the stop position and the
-- limit, how the run began, the bytes, and what is observed of each step: its stop request, the queue, and how the step table refused it or how
-- many bytes it took (Trace). It knows no run and no reader. HandsOn holds the events handed on against it. SCOPE 8.4, 8.5; 01, "Events and
-- confirmations".
use Rattle.std.specs.Prelude.{ℕ, ◌+◌, ◌-◌, Bool, true, false, List, [], ◌∷◌, ◌++◌, length, take, drop, ℤ, ltb, leb, eqb}
use Rattle.std.proofs.Math.Option.{Option, some, none}
use Rattle.wire.specs.Bytes.{pick}
use Rattle.frames.specs.Cut.{Item, message, refused, cut_of}
use Rattle.replication.specs.CopyData.{copy_data_of}
use Rattle.replication.specs.CopyData as C
use Rattle.pgoutput.specs.Boundary.{boundary_of}
use Rattle.pgoutput.specs.Boundary as B
use Rattle.worker.specs.declared.Queue.{Queue}
use Rattle.worker.specs.declared.Queue.TheVariants.{Free, Full, Closed}
use Rattle.thm_any_calls.specs.Tests.{part, while_opening, by_tag}
use Rattle.thm_any_calls.specs.Happened.{Happened}
use Rattle.thm_any_calls.specs.Happened as H

-- of the settings: the stop position, if any, and the limit
pub record Bounds : Type 0 where
  pub stop : Option ℕ
  pub limit : ℕ

-- what the plain reading observes of a step
pub record Observation : Type 0 where
  pub stop : Bool
  pub queue : Queue
  pub refusal : ℕ
  pub taken : ℕ

-- ---- what one message gives: its events, and whether the reading ends with it

pub record Gives : Type 0 where
  pub events : List Happened
  pub ends : Bool

abbrev pub gives : List Happened → Bool → Gives
gives es ends = record { events = es; ends = ends }

-- an event that reaches the stop position is followed by StoppedAt, and the reading ends
abbrev pub reaching : Option ℕ → ℕ → Happened → Gives
reaching none position e = gives (e ∷ []) false
reaching (some stop) position e = pick (leb stop position) (gives (e ∷ H.stopped_at position ∷ []) true) (gives (e ∷ []) false)

-- the data of a `w` with its start, end and time; what is no boundary is other data
abbrev pub data_gives : Option ℕ → ℕ → ℕ → ℤ → List ℕ → B.Said → Gives
data_gives stop start end time bytes (B.begin final at_time xid) = reaching stop final (H.begin final at_time xid)
data_gives stop start end time bytes (B.commit position commit_end at_time) = reaching stop commit_end (H.commit position commit_end at_time)
data_gives stop start end time bytes (B.message flag position pf pl cf cl) =
    reaching stop end (H.message flag position (part bytes pf pl) (part bytes cf cl))
data_gives stop start end time bytes B.no_boundary = reaching stop end (H.xlog_data start end time bytes)
data_gives stop start end time bytes (B.refused n) = gives [] true

-- a keepalive stops nothing
abbrev pub payload_gives : Option ℕ → List ℕ → C.Said → Gives
payload_gives stop payload (C.w start end time from len) =
    data_gives stop start end time (part payload from len) (boundary_of (part payload from len))
payload_gives stop payload (C.k end time reply) = gives (H.keep_alive end time reply ∷ []) false
payload_gives stop payload (C.refused n) = gives [] true

-- an `E` and a `c` end the reading; of other messages only a `d` gives events
abbrev pub message_gives : Option ℕ → ℕ → List ℕ → Gives
message_gives stop tag payload =
    by_tag tag
    (gives [] true)
    (gives [] true)
    (payload_gives stop payload (copy_data_of payload))
    (gives [] false)

-- ---- the messages, and what they give in their order

-- a message: its tag and payload
abbrev pub Msg : Type 0
Msg = ℕ × List ℕ

-- the whole messages before a length below 4; after a message that is unfinished or over the limit the cut has no more
unfoldable pub whole_ones : List Item → List Msg
whole_ones [] = []
whole_ones (refused ∷ is) = []
whole_ones (message tag payload ∷ is) = (tag, payload) ∷ whole_ones is

-- the messages after the first `W`, for a run that began in Opening; an `E` before it ends the reading
unfoldable pub after_opening : List Msg → List Msg
after_opening [] = []
after_opening (m ∷ ms) = while_opening m.0 ms [] (after_opening ms)

-- whether a `W`, byte 87, is among the messages
unfoldable pub has_opened : List Msg → Bool
has_opened [] = false
has_opened (m ∷ ms) = pick (eqb m.0 87) true (has_opened ms)

-- what the messages give, one after the other, until one ends the reading
unfoldable pub given : Option ℕ → List Msg → List Happened
given stop [] = []
given stop (m ∷ ms) = let g : Gives = message_gives stop m.0 m.1 in g.events ++ pick g.ends [] (given stop ms)

-- what the messages give; where the run began in Opening, only those after the first `W`
abbrev pub events_of : Option ℕ → Bool → List Msg → List Happened
events_of stop opening ms = given stop (pick opening (after_opening ms) ms)

-- ---- the last whole message

-- how many bytes the messages have on the wire
unfoldable pub span_of : List Msg → ℕ
span_of [] = 0
span_of (m ∷ ms) = 5 + length m.1 + span_of ms

-- the steps after the one that took the n-th byte
unfoldable pub after_byte : ℕ → List Observation → List Observation
after_byte n [] = []
after_byte n (t ∷ ts) = pick (leb n t.taken) ts (after_byte (n - t.taken) ts)

-- a refusal with 2 to 5
abbrev pub is_refused_early : ℕ → Bool
is_refused_early n = pick (ltb n 2) false (leb n 5)

-- the steps that are not
unfoldable pub accepted_ones : List Observation → List Observation
accepted_ones [] = []
accepted_ones (t ∷ ts) = pick (is_refused_early t.refusal) (accepted_ones ts) (t ∷ accepted_ones ts)

-- by the queue: free, full, closed
abbrev pub by_queue : {A : Type 0} → Queue → A → A → A → A
by_queue Free a b c = a
by_queue Full a b c = b
by_queue Closed a b c = c

-- the queue is full
abbrev pub is_full : Queue → Bool
is_full q = by_queue q false true false

-- stop is seen now, and the queue is full now or was at an earlier offer of the event
abbrev pub is_cut_off : Observation → Bool → Bool
is_cut_off t full = pick t.stop (pick (is_full t.queue) true full) false

-- events offered step by step; whether the queue was full at an earlier offer of the first. An event that is cut off ends the list; else a free
-- queue takes it, a full one lets it wait, and a closed one, which condition 3 leaves out, loses it
unfoldable pub offered : List Happened → Bool → List Observation → List Happened
offered es full [] = []
offered [] full (t ∷ ts) = []
offered (e ∷ es) full (t ∷ ts) =
    pick (is_cut_off t full) []
    (by_queue t.queue (e ∷ offered es false ts) (offered (e ∷ es) true ts) (offered es false ts))

-- ---- the reading

-- the sum of the taken counts
unfoldable pub taken_of : List Observation → ℕ
taken_of [] = 0
taken_of (t ∷ ts) = t.taken + taken_of ts

-- all events but the last whole message's are handed on; of its own, those that the accepted steps since its last byte offer, of which the
-- first handles the message
unfoldable pub plain_of : Bounds → Bool → List ℕ → List Observation → List Happened
plain_of b opening bytes ts =
    let ms : List Msg = whole_ones (cut_of b.limit (take (taken_of ts) bytes)).items in
    let before : List Happened = events_of b.stop opening (take (length ms - 1) ms) in
    let last : List Happened = drop (length before) (events_of b.stop opening ms) in
    before ++ offered last false (drop 1 (accepted_ones (after_byte (span_of ms) ts)))
