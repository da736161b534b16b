-- Handing on all messages at hand together is a list of steps with a free queue and the same moment: four a message, one before them where it
-- begins in Turn, two at each border of 256 messages. SCOPE 8.14.
use Rattle.std.specs.Prelude.{ℕ, suc, ◌+◌, ◌≤◌, ◌≡◌, List, [], ◌∷◌, ◌++◌, length, drop}
use Rattle.wire.specs.Bytes.{pick}
use Rattle.worker.specs.declared.Input.{Input}
use Rattle.worker.specs.declared.Queue.TheVariants.{Free}
use Rattle.worker.specs.declared.Run.{Run}
use Rattle.worker.specs.Answer.{lent}
use Rattle.worker.specs.Events as E
use Rattle.worker.specs.Step.{Lent, Outcome, step_of}
use Rattle.advance.specs.Advance.{is_nothing, lent_after}
use Rattle.drain.specs.Drain.{Handed, Drained, drain_from}
use Rattle.thm_held_front.specs.HeldFront.{SameHeld, parts}

-- an event, and the bytes that its parts name
abbrev pub Told : Type 0
Told = E.Said × List (List ℕ)

-- what a step tells
abbrev pub told_by : Outcome → List Told
told_by o = pick (is_nothing o.event) [] ((o.event, parts o.event o.payload) ∷ [])

-- what a call tells, of which the parts lie in the unread bytes
unfoldable pub told_in : List ℕ → List Handed → List Told
told_in u [] = []
told_in u (h ∷ hs) = (h.event, parts h.event (drop h.base u)) ∷ told_in u hs

-- no refusal, nothing written, and the output as it was
pub record Silent (l : Lent) (o : Outcome) : Type 0 where
  pub none_refused : o.refusal ≡ 0
  pub none_written : o.written ≡ 0
  pub same_out : o.out ≡ l.out

-- this many silent steps with one input, each lent the bytes that the former left unread and the buffers as it left them: what they tell, the run
-- after them, how many bytes they took together, and the payload buffer
pub data Steps (i : Input) : ℕ → Run → Lent → List Told → Run → ℕ → List ℕ → Type 0 where
  none : {r : Run} {l : Lent} → Steps i 0 r l [] r 0 l.payload
  more : {n : ℕ} {r last : Run} {l : Lent} {ts : List Told} {k : ℕ} {p : List ℕ} → Silent l (step_of r i l)
      → Steps i n (step_of r i l).run (lent_after l (step_of r i l)) ts last k p
      → Steps i (suc n) r l (told_by (step_of r i l) ++ ts) last ((step_of r i l).taken + k) p

-- messages handed on together, of the unread bytes u, and steps with a payload buffer and an output: the same run, bytes and events; the payload
-- buffer, which the steps write, is the same to the run
pub record AsSteps (i : Input) (r : Run) (u p out : List ℕ) (n : ℕ) (d : Drained) : Type 0 where
  pub buffer : List ℕ
  pub steps : Steps i d.steps r (lent u p out) (told_in u d.events) d.run d.taken buffer
  pub held : SameHeld d.run p buffer
  pub within : d.taken ≤ length u
  pub at_most : length d.events ≤ n

-- for every run value
abbrev pub DrainIsSteps : Type 0
DrainIsSteps =
    (i : Input) (r : Run) (u p out : List ℕ) (n : ℕ) → i.queue ≡ Free
    → AsSteps i r u p out n (drain_from n i.moment i.stop (length p) (length out) u 0 r)
