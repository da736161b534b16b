-- The step table once more: what each call answers and which state it enters, from the server's bytes and the trace of the calls so far. It looks
-- at no run. SCOPE 6.11 and 8.3; 01, "Events and confirmations", step table, and "Where each call turns back".
use Rattle.std.specs.Prelude.{Bool, true, false, List, [], ◌∷◌, ◌++◌, ℕ, ◌+◌, ◌-◌, length, take, drop, ltb, leb, eqb}
use Rattle.wire.specs.Bytes.{pick}
use Rattle.frames.specs.Cut.{Item, message, Ending, header, payload, over, Cut, cut_of}
use Rattle.frames.specs.Cut.{refused as bad}
use Rattle.moment.specs.declared.Moment.{Moment}
use Rattle.pgoutput.specs.Boundary.{boundary_of}
use Rattle.pgoutput.specs.Boundary as B
use Rattle.replication.specs.CopyData.{copy_data_of}
use Rattle.replication.specs.CopyData as C
use Rattle.worker.specs.declared.State.{State}
use Rattle.worker.specs.declared.State.TheVariants.{Opening, Turn, Drain, Reading, Waiting, Handling, Offering, Ended}
use Rattle.worker.specs.declared.Input.{Input}
use Rattle.thm_any_calls.specs.Tests.{◌⇒◌, first_of, both, unless, part, while_opening, by_tag, is_ended, is_moment, is_before, since, longest}
use Rattle.thm_any_calls.specs.Happened.{Happened}
use Rattle.thm_any_calls.specs.Plain.{Msg, Gives, message_gives, whole_ones, by_queue}
use Rattle.thm_any_calls.specs.Trace.{Setup, bounds_of, Writing, nothing, done, status, Response, Trace, state_after, taken_by, last_accepted, has_sent, sent_at, wait_began, pending_of, signalled_of, drained_of, read_in_wait, full_before, gone_of}

-- a response that takes no byte: its refusal, writing, state entered and event
abbrev pub respond : ℕ → Writing → State → List Happened → Response
respond n w to es = record { refusal = n; taken = 0; stored = []; writing = w; entered = to; event = es }

-- a state is entered, or stays
abbrev pub enters : State → Response
enters to = respond 0 nothing to []

-- something is written, and a state entered
abbrev pub writes : Writing → State → Response
writes w to = respond 0 w to []

-- refused with 6 or above: the run is over
abbrev pub refuses : ℕ → Response
refuses n = respond n nothing Ended []

-- the longest payload that the settings admit
abbrev pub limit_by : Setup → ℕ
limit_by s = longest s.settings.max_message_size

-- ---- clocks

-- the status interval has passed since the last status
abbrev pub is_passed : Setup → Trace → Input → Bool
is_passed s h i = leb s.settings.status_interval (since i.moment (sent_at h))

-- the idle interval has passed since the wait began
abbrev pub is_idle : Setup → Trace → Input → Bool
is_idle s h i = leb s.settings.idle_wakeup_interval (since i.moment (wait_began h))

-- a status where a test holds
abbrev pub status_if : Bool → Writing
status_if c = pick c (status false) nothing

-- ---- a read: what the message still lacks is what the cut of the server's bytes says

-- what is found of the message: it is still unfinished, it is whole and has a tag, or it is refused
pub data Found : Type 0 where
  unfinished : Found
  whole : ℕ → Found
  refused : ℕ → Found

-- the input's end counts where no byte is unread: 8 in a header, 9 in a payload
abbrev pub ended_in : ℕ → ℕ → Bool → Found
ended_in n unread ended = pick (eqb unread 0) (pick ended (refused n) unfinished) unfinished

-- by the cut: its first message is whole; a length below 4 is 6, a payload over the limit 7; else the bytes end within the message
abbrev pub found_by : List Item → Ending → ℕ → Bool → Found
found_by (message tag p ∷ is) end unread ended = whole tag
found_by (bad ∷ is) end unread ended = refused 6
found_by [] header unread ended = ended_in 8 unread ended
found_by [] payload unread ended = ended_in 9 unread ended
found_by [] over unread ended = refused 7

-- how many of the bytes s are used: the whole message, the header with a refused length, or all that is there of an unfinished message
abbrev pub used_by : List Item → Ending → List ℕ → ℕ
used_by (message tag p ∷ is) end s = 5 + length p
used_by (bad ∷ is) end s = 5
used_by [] header s = length s
used_by [] payload s = length s
used_by [] over s = 5

-- the payload bytes of the message, as far as they are there: those after the five of the header
abbrev pub payload_by : List Item → Ending → List ℕ → List ℕ
payload_by (message tag p ∷ is) end s = p
payload_by (bad ∷ is) end s = []
payload_by [] header s = []
payload_by [] payload s = drop 5 s
payload_by [] over s = []

-- b are the bytes taken, u those unread; what is found decides refusal, writing and state
abbrev pub read_response : ℕ → List ℕ → List ℕ → Bool → (Found → Response) → Response
read_response limit b u ended f =
    let rest : List ℕ = (cut_of limit b).rest in
    let c : Cut = cut_of limit (rest ++ u) in
    let y : Response = f (found_by c.items c.ending (length u) ended) in
    record {
      refusal = y.refusal;
      taken = used_by c.items c.ending (rest ++ u) - length rest;
      stored = payload_by c.items c.ending (rest ++ u);
      writing = y.writing;
      entered = y.entered;
      event = y.event;
    }

-- a `W` opens the stream, an `E` is 19, other messages are skipped
abbrev pub opening_response : Found → Response
opening_response unfinished = enters Opening
opening_response (whole tag) = while_opening tag (enters Turn) (refuses 19) (enters Opening)
opening_response (refused n) = refuses n

-- a message that is whole is handled in the next step
abbrev pub reading_response : Found → Response
reading_response unfinished = enters Reading
reading_response (whole tag) = enters Handling
reading_response (refused n) = refuses n

-- the idle test: a status, and the wait ends
abbrev pub idle_response : Bool → Response
idle_response idle = pick idle (writes (status false) Turn) (enters Waiting)

-- a message that is still unfinished leads to the idle test
abbrev pub waiting_response : Bool → Found → Response
waiting_response idle unfinished = idle_response idle
waiting_response idle (whole tag) = enters Handling
waiting_response idle (refused n) = refuses n

-- ---- the last whole message of the bytes taken

-- the last of a list, or what stands before it
unfoldable pub last_or : Msg → List Msg → Msg
last_or m [] = m
last_or m (n ∷ ns) = last_or n ns

-- the last of the whole messages in the taken bytes
abbrev pub last_message : ℕ → List ℕ → Msg
last_message limit b = last_or (0, []) (whole_ones (cut_of limit b).items)

-- what it gives by the plain reading: its events, StoppedAt among them, and whether the reading ends with it
abbrev pub last_gives : Setup → List ℕ → Gives
last_gives s b = let m : Msg = last_message (limit_by s) b in message_gives (bounds_of s.settings).stop m.0 m.1

-- where a message leads once none of its events is left: to Turn where it was read in a wait, else to Drain
abbrev pub back_of : Trace → State
back_of h = pick (read_in_wait h) Turn Drain

-- ---- Handling

-- an event of the data is offered, unless a boundary's field is refused
abbrev pub boundary_response : B.Said → Response
boundary_response (B.begin final time xid) = enters Offering
boundary_response (B.commit position end time) = enters Offering
boundary_response (B.message flag position pf pl cf cl) = enters Offering
boundary_response B.no_boundary = enters Offering
boundary_response (B.refused n) = refuses n

-- a keepalive that asks for a reply gets a status with reply byte 1; its event is offered then
abbrev pub copy_data_response : List ℕ → C.Said → Response
copy_data_response p (C.w start end time from len) = boundary_response (boundary_of (part p from len))
copy_data_response p (C.k end time reply) = writes (pick reply (status true) nothing) Offering
copy_data_response p (C.refused n) = refuses n

-- an `E` is 19; the server's `c` is answered in kind, and the run ends; of other messages only a `d` is not skipped
abbrev pub handling_response : Trace → Msg → Response
handling_response h m =
    by_tag m.0
    (refuses 19)
    (writes done Ended)
    (copy_data_response m.1 (copy_data_of m.1))
    (enters (back_of h))

-- ---- Turn, Drain, Waiting

-- a status where none was sent yet or the interval has passed; then Drain
abbrev pub turn_response : Setup → Trace → Input → Response
turn_response s h i = writes (status_if (pick (has_sent h) (is_passed s h i) true)) Drain

-- fewer than 256 drained and a header unread: a read; none drained: a wait; a stop request, where some are drained, ends the run
abbrev pub drain_response : Trace → Input → List ℕ → Response
drain_response h i u =
    first_of
    ((both (ltb (drained_of h) 256) (leb 5 (length u)) ⇒ enters Reading)
    ∷ (eqb (drained_of h) 0 ⇒ enters Waiting)
    ∷ (i.stop ⇒ writes done Ended)
    ∷ [])
    (enters Turn)

-- a stop request; a pending position whose interval has passed; a signal while none is pending; a read; the idle test
abbrev pub waiting_tests : Setup → Trace → Input → List ℕ → List ℕ → Response
waiting_tests s h i b u =
    first_of
    ((i.stop ⇒ writes done Ended)
    ∷ (both (pending_of s.start h) (is_passed s h i) ⇒ writes (status false) Turn)
    ∷ (unless (pending_of s.start h) (signalled_of s.start h) ⇒ enters Turn)
    ∷ (pick (eqb (length u) 0) i.ended true ⇒ read_response (limit_by s) b u i.ended (waiting_response (is_idle s h i)))
    ∷ [])
    (idle_response (is_idle s h i))

-- ---- Offering

-- what of the message's events is neither handed on nor dropped: the offered event first
abbrev pub left_of : Setup → Trace → List ℕ → List Happened
left_of s h b = drop (gone_of h) (last_gives s b).events

-- after the offered event, which was handed on (es) or dropped: the next is offered; or, with StoppedAt gone, CopyDone and the end; or back
abbrev pub passed_on : Setup → Trace → List ℕ → List Happened → Response
passed_on s h b es =
    first_of
    ((ltb 1 (length (left_of s h b)) ⇒ respond 0 nothing Offering es)
    ∷ ((last_gives s b).ends ⇒ respond 0 done Ended es)
    ∷ [])
    (respond 0 nothing (back_of h) es)

-- a free queue takes the event
abbrev pub hands_over : Setup → Trace → List ℕ → Response
hands_over s h b = passed_on s h b (take 1 (left_of s h b))

-- a closed one lets it drop
abbrev pub drops : Setup → Trace → List ℕ → Response
drops s h b = passed_on s h b (take 0 (left_of s h b))

-- a later try: a stop request drops the event and ends the run; a full queue: a status where the interval has passed
abbrev pub again_response : Setup → Trace → Input → List ℕ → Response
again_response s h i b =
    pick i.stop (writes done Ended)
    (by_queue i.queue (hands_over s h b) (writes (status_if (is_passed s h i)) Offering) (drops s h b))

-- the first try goes on as a later one where the queue is full
abbrev pub offering_response : Setup → Trace → Input → List ℕ → Response
offering_response s h i b = pick (full_before h) (again_response s h i b) (by_queue i.queue (hands_over s h b) (again_response s h i b) (drops s h b))

-- ---- one step

-- the case of a state; b are the bytes taken so far, u those unread
abbrev pub table_of : State → Setup → Trace → Input → List ℕ → List ℕ → Response
table_of Opening s h i b u = read_response (limit_by s) b u i.ended opening_response
table_of Turn s h i b u = turn_response s h i
table_of Drain s h i b u = drain_response h i u
table_of Reading s h i b u = read_response (limit_by s) b u i.ended reading_response
table_of Waiting s h i b u = waiting_tests s h i b u
table_of Handling s h i b u = handling_response h (last_message (limit_by s) b)
table_of Offering s h i b u = offering_response s h i b
table_of Ended s h i b u = respond 2 nothing Ended []

-- 5: no moment at all, or one before the last accepted step
abbrev pub is_bad_moment : Trace → Moment → Bool
is_bad_moment h m = pick (is_moment m) (is_before m (last_accepted h)) true

-- a step in a state, with an output of so many bytes: 2 to 5 in their order, which leave the state; then the state's case
abbrev pub step_response : State → Setup → Trace → Input → List ℕ → List ℕ → ℕ → Response
step_response x s h i b u out =
    first_of
    ((is_ended x ⇒ respond 2 nothing x [])
    ∷ (ltb s.room (limit_by s) ⇒ respond 3 nothing x [])
    ∷ (ltb out 39 ⇒ respond 4 nothing x [])
    ∷ (is_bad_moment h i.moment ⇒ respond 5 nothing x [])
    ∷ [])
    (table_of x s h i b u)

-- the response after a trace, in the state that it leads to, with n of the next untaken bytes unread
abbrev pub response_of : Setup → Trace → Input → ℕ → ℕ → Response
response_of s h i n out =
    step_response (state_after s.opening h) s h i (take (taken_by h) s.bytes) (take n (drop (taken_by h) s.bytes)) out
