-- A message that lies whole at the front of the unread bytes, and what four steps make of it, found before any byte is taken. SCOPE 5.10.
use Rattle.std.specs.Prelude.{◌≡◌, ℕ, ◌+◌, ◌-◌, Bool, true, false, not, ltb, List, [], ◌∷◌, length, ◌==◌, nat_lt, slice_index, ◌<◌, ◌≤◌}
use Rattle.std.specs.Prelude.{Option as Answer, Some, None}
use Rattle.std.proofs.Math.Option.{none}
use Rattle.wire.specs.Bytes.{pick, at, be, put}
use Rattle.wire.specs.Int.{is_negative}
use Rattle.framing.specs.Read.{fresh, limit_of}
use Rattle.frames.specs.Tag.{is_copy_data}
use Rattle.lsn.specs.declared.Lsn.{Lsn}
use Rattle.metrics.specs.Metrics.{more, with_event, with_end}
use Rattle.moment.specs.declared.Moment.{Moment}
use Rattle.pgoutput.specs.Boundary.{boundary_of}
use Rattle.replication.specs.CopyData.{copy_data_of}
use Rattle.replication.specs.CopyData as C
use Rattle.worker.specs.declared.Event.{Event}
use Rattle.worker.specs.declared.Event.TheVariants.{Nothing}
use Rattle.worker.specs.declared.Input.{Input}
use Rattle.worker.specs.declared.Queue.{Queue}
use Rattle.worker.specs.declared.Queue.TheVariants.{Free, Full, Closed}
use Rattle.worker.specs.declared.Run.{Run}
use Rattle.worker.specs.declared.State.{State}
use Rattle.worker.specs.declared.State.TheVariants.{Opening, Turn, Drain, Reading, Waiting, Handling, Offering, Ended}
use Rattle.worker.specs.Answer.{lent}
use Rattle.worker.specs.Events.{data_gives}
use Rattle.worker.specs.Events as E
use Rattle.worker.specs.Tests.{◌⇒◌, first_of, both, unless}
use Rattle.worker.specs.Run.{lsn, clock, whole_of, offer, run}
use Rattle.worker.specs.Step.{Outcome, bad_moment, reaches}
use Rattle.advance.specs.declared.at_hand.AtHand.{AtHand}
use Rattle.advance.specs.Advance.{advance_of}

-- the payload's length, 0 where no message is at hand; the server's end; the position that it reaches; its event
abbrev pub at_hand : ℕ → Lsn → Lsn → Event → AtHand
at_hand len end reached event = record { len = len; wal_end = end; reached = reached; event = event }

abbrev pub nothing : AtHand
nothing = at_hand 0 (lsn 0) (lsn 0) Nothing

-- an answer of the code: the message, or that none is at hand
abbrev pub hand_by : Answer AtHand → AtHand
hand_by (Some a) = a
hand_by None = nothing

-- the payload's length of a message that is answered
abbrev pub HasLength : Answer AtHand → ℕ → Type 0
HasLength (Some a) n = a.len ≡ n
HasLength None n = Unit {0}

-- a message that is answered has a payload, of at most so many bytes
abbrev pub Holds : Answer AtHand → ℕ → Type 0
Holds (Some a) n = (0 < a.len) × (a.len ≤ n)
Holds None n = Unit {0}

-- the payload's length by a message's length field n, of a message that is whole in this many unread bytes and long enough for an XLogData; else 0
unfoldable pub within : ℕ → ℕ → ℕ
within n unread = first_of ((ltb n 29 ⇒ 0) ∷ (is_negative 4 n ⇒ 0) ∷ (ltb unread (n + 1) ⇒ 0) ∷ []) (n - 4)

-- the payload's length of the CopyData message at the front of the unread bytes, 0 where there is no such message
unfoldable pub whole_at : List ℕ → ℕ
whole_at u = pick (nat_lt (length u) 30) 0 (pick (is_copy_data (slice_index u 0)) (within (be (at u 1 4)) (length u)) 0)

-- by what the data give, with the payload's length and the server's end
abbrev pub by_given : ℕ → Lsn → E.Given → AtHand
by_given n end (E.given event reached) = at_hand n end reached event
by_given n end (E.refused number) = nothing

-- by what a payload says: a keepalive and a refused payload are left to the steps
abbrev pub by_copy_data : List ℕ → C.Said → AtHand
by_copy_data s (C.w start end time from len) = by_given (length s) (lsn end) (data_gives (boundary_of (at s from len)) start end time from len)
by_copy_data s (C.k end time reply) = nothing
by_copy_data s (C.refused number) = nothing

-- of the payload of a CopyData message
unfoldable pub copy_data_at_hand : List ℕ → AtHand
copy_data_at_hand s = by_copy_data s (copy_data_of s)

-- of the unread bytes
unfoldable pub at_hand_of : List ℕ → AtHand
at_hand_of u = pick (whole_at u == 0) nothing (copy_data_at_hand (at u 5 (whole_at u)))

-- ---- whether four steps hand it on

abbrev pub is_drain : State → Bool
is_drain Opening = false
is_drain Turn = false
is_drain Drain = true
is_drain Reading = false
is_drain Waiting = false
is_drain Handling = false
is_drain Offering = false
is_drain Ended = false

abbrev pub is_free : Queue → Bool
is_free Free = true
is_free Full = false
is_free Closed = false

-- the run is in Drain, between two messages
unfoldable pub is_between : Run → Bool
is_between r = both (is_drain r.state) (both (r.reader.filled == 0) (unless r.reader.refused (nat_lt r.drained 256)))

-- a step is accepted, with a payload buffer and an output of these lengths, and the message's payload is within the limit
unfoldable pub has_room_for : Run → Moment → ℕ → ℕ → ℕ → Bool
has_room_for r m p o n =
    let limit : ℕ = limit_of r.settings.max_message_size in
    unless (nat_lt p limit) (unless (nat_lt limit n) (unless (nat_lt o 39) (not (bad_moment r m))))

-- four steps hand the message on: there is one, the queue is free, the run is between two messages, there is room, and the stop position is not
-- reached
unfoldable pub applies_of : Run → Moment → Queue → ℕ → ℕ → AtHand → Bool
applies_of r m q p o a =
    unless (a.len == 0) (both (is_free q) (both (is_between r) (both (has_room_for r m p o a.len) (not (reaches r a.reached)))))

-- ---- after the four steps

-- back in Drain, with one message more
abbrev pub handed_run : Run → Moment → AtHand → Run
handed_run r m a =
    run r.settings Drain fresh (clock m r.clock.wait_began r.clock.stall_began) r.progress r.status (more r.drained 1)
    r.pending (whole_of 100 a.len false) (offer a.event false false a.reached) (with_event (with_end r.metrics a.wal_end))
    a.wal_end

-- the message is taken, its payload at the buffer's front, its event handed on
abbrev pub handed_of : Run → Moment → AtHand → List ℕ → List ℕ → List ℕ → Outcome
handed_of r m a u p o =
    record {
      run = handed_run r m a;
      refusal = 0;
      taken = 5 + a.len;
      event = E.said_by a.event;
      written = 0;
      waited = none;
      payload = put p 0 (at u 5 a.len);
      out = o;
    }

-- where it applies, four steps one by one do the same, for every run value
abbrev pub HandsOnAtOnce : Type 0
HandsOnAtOnce =
    (r : Run) (i : Input) (u p o : List ℕ)
    → applies_of r i.moment i.queue (length p) (length o) (at_hand_of u) ≡ true
    → advance_of r i (lent u p o) ≡ handed_of r i.moment (at_hand_of u) u p o

-- a message that is no CopyData, the server's CopyDone among them, is left to the steps one by one
abbrev pub OthersAreLeft : Type 0
OthersAreLeft = (u : List ℕ) → is_copy_data (slice_index u 0) ≡ false → at_hand_of u ≡ nothing
