-- All messages at hand in one call: as many whole messages as lie in the unread bytes and as there is room for are handed on, as the same steps
-- would. Nothing is copied; parts of an event are places in the unread bytes. SCOPE 8.14.
use Rattle.std.specs.Prelude.{ℕ, zero, suc, ◌+◌, ◌/◌, min, Bool, List, [], ◌∷◌, drop, ltb, eqb}
use Rattle.std.proofs.Math.Option.{Option, some, none}
use Rattle.wire.specs.Bytes.{pick, at}
use Rattle.frames.specs.Message.{Front, in_header, in_payload, bad_length, too_large, whole, front_of}
use Rattle.frames.specs.Tag.{is_copy_data}
use Rattle.framing.specs.Read.{limit_of}
use Rattle.lsn.specs.declared.Lsn.{Lsn}
use Rattle.moment.specs.declared.Moment.{Moment}
use Rattle.pgoutput.specs.Boundary.{boundary_of}
use Rattle.replication.specs.CopyData.{copy_data_of}
use Rattle.replication.specs.CopyData as C
use Rattle.worker.specs.declared.Event.TheVariants.{KeepAlive}
use Rattle.worker.specs.declared.Run.{Run}
use Rattle.worker.specs.declared.State.{State}
use Rattle.worker.specs.declared.State.TheVariants.{Opening, Turn, Drain, Reading, Waiting, Handling, Offering, Ended}
use Rattle.worker.specs.Events.{data_gives}
use Rattle.worker.specs.Events as E
use Rattle.worker.specs.Tests.{both, unless}
use Rattle.worker.specs.Run.{lsn, with_state, with_drained, accepted}
use Rattle.worker.specs.Step.{reaches, status_due}
use Rattle.advance.specs.declared.at_hand.AtHand.{AtHand}
use Rattle.advance.specs.AtHand.{at_hand, nothing, has_room_for, handed_run}

-- ---- the message at the front, where four steps only hand its event on: its payload's length is 0 where there is none

-- what data give, where they do not reach the stop position
abbrev pub hand_given : Run → ℕ → Lsn → E.Given → AtHand
hand_given r n end (E.given event reached) = pick (reaches r reached) nothing (at_hand n end reached event)
hand_given r n end (E.refused number) = nothing

-- what a CopyData payload says: a keepalive that asks for a reply, and a refused payload, are left to the steps
abbrev pub hand_payload : Run → List ℕ → ℕ → C.Said → AtHand
hand_payload r s n (C.w start end time from len) = hand_given r n (lsn end) (data_gives (boundary_of (at s from len)) start end time from len)
hand_payload r s n (C.k end time reply) = pick reply nothing (at_hand n (lsn end) (lsn 0) (KeepAlive (lsn end) time reply))
hand_payload r s n (C.refused number) = nothing

-- only a whole CopyData is at hand
abbrev pub hand_front : Run → List ℕ → Front → AtHand
hand_front r u in_header = nothing
hand_front r u in_payload = nothing
hand_front r u bad_length = nothing
hand_front r u too_large = nothing
hand_front r u (whole tag n) = pick (is_copy_data tag) (hand_payload r (at u 5 n) n (copy_data_of (at u 5 n))) nothing

unfoldable pub hand_of : Run → List ℕ → AtHand
hand_of r u = hand_front r u (front_of (limit_of r.settings.max_message_size) u)

-- ---- a run that can hand one on

-- a round begins, without a status
abbrev pub round_begun : Moment → Run → Run
round_begun m r = with_state Drain (with_drained 0 (accepted m r))

-- how many steps lead to a message of a round, and to which run, where they have nothing to send: none within a round; one from Turn; two at a
-- round's end, where no stop is seen
abbrev pub entered_in : State → Run → Moment → Bool → Option (ℕ × Run)
entered_in Opening r m stop = none
entered_in Turn r m stop = pick (status_due (accepted m r)) none (some (1, round_begun m r))
entered_in Drain r m stop =
    pick (ltb r.drained 256) (some (0, r)) (pick stop none (pick (status_due (accepted m r)) none (some (2, round_begun m r))))
entered_in Reading r m stop = none
entered_in Waiting r m stop = none
entered_in Handling r m stop = none
entered_in Offering r m stop = none
entered_in Ended r m stop = none

-- the reader holds nothing and remembers no refusal, and steps with buffers of these lengths are accepted
unfoldable pub is_ready : Run → Moment → ℕ → ℕ → Bool
is_ready r m p o = both (eqb r.reader.filled 0) (unless r.reader.refused (has_room_for r m p o 0))

-- ---- all of them

-- an event whose parts count from a place of the unread bytes, at which its message's payload begins; the place behind the message
pub record Handed : Type 0 where
  pub event : E.Said
  pub base : ℕ
  pub end : ℕ

-- the run, how many steps that stands for, how many bytes were taken, and the events
pub record Drained : Type 0 where
  pub run : Run
  pub steps : ℕ
  pub taken : ℕ
  pub events : List Handed

-- nothing more is handed on
abbrev pub stays : Run → ℕ → Drained
stays r place = record { run = r; steps = 0; taken = place; events = [] }

-- the message at a place is handed on after so many steps, and then others
abbrev pub further : ℕ → ℕ → AtHand → Drained → Drained
further k place a d =
    record {
      run = d.run;
      steps = k + (4 + d.steps);
      taken = d.taken;
      events = record { event = E.said_by a.event; base = place + 5; end = place + (5 + a.len) } ∷ d.events;
    }

abbrev pub entering : Option (ℕ × Run) → Drained → (ℕ → Run → Drained) → Drained
entering none d f = d
entering (some e) d f = f e.0 e.1

-- at most so many messages, from a place of the unread bytes on
unfoldable pub drain_from : ℕ → Moment → Bool → ℕ → ℕ → List ℕ → ℕ → Run → Drained
drain_from zero m stop p o u place r = stays r place
drain_from (suc n) m stop p o u place r =
    pick (is_ready r m p o)
    (entering (entered_in r.state r m stop) (stays r place) (λ k x.
    let a : AtHand = hand_of x (drop place u) in
    pick (eqb a.len 0) (stays r place)
    (further k place a (drain_from n m stop p o u (place + (5 + a.len)) (handed_run x m a)))))
    (stays r place)

-- the call: as many as the queue has room for and as there are lent words for, eight an event
abbrev pub drained_of : Run → Moment → Bool → ℕ → List ℕ → ℕ → ℕ → ℕ → Drained
drained_of r m stop room u p o words = drain_from (min room (words / 8)) m stop p o u 0 r
