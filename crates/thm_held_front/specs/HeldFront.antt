-- A step sees only the held front of the payload buffer: how many of its first bytes a run holds, and that two buffers which agree in them give the
-- same step, the same event with its bytes, and again agree in what the run then holds. SCOPE 5.4, 8.13.
use Rattle.std.specs.Prelude.{ℕ, ◌+◌, ◌-◌, ◌≤◌, max, ◌≡◌, true, false, List, [], ◌∷◌, length, take}
use Rattle.wire.specs.Bytes.{pick, at}
use Rattle.frames.specs.Tag.{is_error}
use Rattle.worker.specs.declared.Event.{Event}
use Rattle.worker.specs.declared.Event.TheVariants.{Nothing, KeepAlive, Begin, Commit, Message, XLogData, StoppedAt}
use Rattle.worker.specs.declared.Input.{Input}
use Rattle.worker.specs.declared.Run.{Run}
use Rattle.worker.specs.declared.State.{State}
use Rattle.worker.specs.declared.State.TheVariants.{Opening, Turn, Drain, Reading, Waiting, Handling, Offering, Ended}
use Rattle.worker.specs.Answer.{lent}
use Rattle.worker.specs.Events as E
use Rattle.worker.specs.Step.{Outcome, step_of}

-- ---- the held front

-- the place in the payload buffer behind the parts of an event
abbrev pub parts_end : Event → ℕ
parts_end Nothing = 0
parts_end (KeepAlive end time reply) = 0
parts_end (Begin final time xid) = 0
parts_end (Commit position end time) = 0
parts_end (Message flag position pf pl cf cl) = max (pf + pl) (cf + cl)
parts_end (XLogData start end time from len) = from + len
parts_end (StoppedAt reached) = 0

-- an error's payload stays shown. The tag alone says so, whatever the state: a run that no call made may have one in any, and end
abbrev pub error_held : Run → ℕ
error_held r = pick (is_error r.whole.tag) r.whole.len 0

-- of the last whole message: its payload while it is handled, and while its event is offered, with all that the event names
abbrev pub whole_held : State → Run → ℕ
whole_held Opening r = error_held r
whole_held Turn r = error_held r
whole_held Drain r = error_held r
whole_held Reading r = error_held r
whole_held Waiting r = error_held r
whole_held Handling r = r.whole.len
whole_held Offering r = max r.whole.len (parts_end r.offer.event)
whole_held Ended r = error_held r

-- of the message that is read, the payload bytes that came, behind the five of its header; and of the last whole one
abbrev pub held : Run → ℕ
held r = max (r.reader.filled - 5) (whole_held r.state r)

-- two payload buffers are the same to a run
pub record SameHeld (r : Run) (p q : List ℕ) : Type 0 where
  pub size : length p ≡ length q
  pub front : take (held r) p ≡ take (held r) q

-- ---- two steps

-- the bytes that an event's parts name
abbrev pub parts : E.Said → List ℕ → List (List ℕ)
parts E.nothing p = []
parts (E.keep_alive end time reply) p = []
parts (E.begin final time xid) p = []
parts (E.commit position end time) p = []
parts (E.message flag position pf pl cf cl) p = at p pf pl ∷ at p cf cl ∷ []
parts (E.xlog_data start end time from len) p = at p from len ∷ []
parts (E.stopped_at reached) p = []

-- the same answer, the same output, the same bytes of the event, and buffers that are again the same to the run
pub record SameOutcome (o o' : Outcome) : Type 0 where
  pub run : o.run ≡ o'.run
  pub refusal : o.refusal ≡ o'.refusal
  pub taken : o.taken ≡ o'.taken
  pub event : o.event ≡ o'.event
  pub written : o.written ≡ o'.written
  pub waited : o.waited ≡ o'.waited
  pub out : o.out ≡ o'.out
  pub bytes : parts o.event o.payload ≡ parts o'.event o'.payload
  pub held : SameHeld o.run o.payload o'.payload

-- for every run value, input, unread bytes and output
abbrev pub StepSeesHeld : Type 0
StepSeesHeld =
    (r : Run) (i : Input) (u p q out : List ℕ) → SameHeld r p q → SameOutcome (step_of r i (lent u p out)) (step_of r i (lent u q out))

-- ---- how little is held

-- between two messages nothing, of a run that calls made; of a message in its payload what came; of a whole one its payload; after 19 the error's
pub record HeldCases : Type 0 where
  pub in_turn : (r : Run) → r.state ≡ Turn → r.reader.filled ≡ 0 → is_error r.whole.tag ≡ false → held r ≡ 0
  pub in_drain : (r : Run) → r.state ≡ Drain → r.reader.filled ≡ 0 → is_error r.whole.tag ≡ false → held r ≡ 0
  pub in_reading : (r : Run) → r.state ≡ Reading → is_error r.whole.tag ≡ false → held r ≡ r.reader.filled - 5
  pub in_waiting : (r : Run) → r.state ≡ Waiting → is_error r.whole.tag ≡ false → held r ≡ r.reader.filled - 5
  pub in_handling : (r : Run) → r.state ≡ Handling → r.reader.filled ≡ 0 → held r ≡ r.whole.len
  pub in_offering : (r : Run) → r.state ≡ Offering → r.reader.filled ≡ 0 → parts_end r.offer.event ≤ r.whole.len → held r ≡ r.whole.len
  pub after_error : (r : Run) → r.state ≡ Ended → r.reader.filled ≡ 0 → is_error r.whole.tag ≡ true → held r ≡ r.whole.len
