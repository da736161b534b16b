-- A call made twice sees only the held front where the call does, and so do four steps.
use Prim.Native.Nat.{ℕ, ◌+◌}
use mathlib.Core.Path.{◌≡◌, refl, ap}
use mathlib.Core.Bool.{Bool, true, false}
use mathlib.Core.List.{List}
use lib.ListN.{drop}
use Rattle.wire.specs.Bytes.{pick}
use Rattle.worker.specs.declared.Input.{Input}
use Rattle.worker.specs.declared.Run.{Run}
use Rattle.worker.specs.Answer.{lent}
use Rattle.worker.specs.Step.{Lent, Outcome, step_of}
use Rattle.advance.specs.Advance.{tells, after, twice}
use Rattle.thm_held_front.specs.HeldFront.{SameHeld, SameOutcome}
use Rattle.thm_held_front.specs.SeveralSteps.{AdvanceSeesHeld}
use Rattle.thm_held_front.proofs.HeldFront.{step_sees_held}

abbrev Sees : (Run → Input → Lent → Outcome) → Type 0
Sees f = (r : Run) (i : Input) (u p q out : List ℕ) → SameHeld r p q → SameOutcome (f r i (lent u p out)) (f r i (lent u q out))

after_same : (k : ℕ) {x y : Outcome} → SameOutcome x y → SameOutcome (after k x) (after k y)
after_same k h =
    record {
      run = h.run;
      refusal = h.refusal;
      taken = ap (λ (n : ℕ). k + n) h.taken;
      event = h.event;
      written = h.written;
      waited = h.waited;
      out = h.out;
      bytes = h.bytes;
      held = h.held;
    }

tells_same : (o o' : Outcome) → SameOutcome o o' → tells o' ≡ tells o
tells_same o o' h = rw (h.refusal, h.written, h.event) refl

either : (b : Bool) {x x' y y' : Outcome} → SameOutcome x x' → SameOutcome y y' → SameOutcome (pick b x y) (pick b x' y')
either true h k = h
either false h k = k

module _ (f : Run → Input → Lent → Outcome) (s : Sees f) (i : Input) (u : List ℕ) where
  -- the call after an outcome
  abbrev next : Outcome → Outcome
  next o = f o.run i (lent (drop o.taken u) o.payload o.out)

  goes_on : (o o' : Outcome) → SameOutcome o o' → SameOutcome (after o.taken (next o)) (after o'.taken (next o'))
  goes_on o o' k =
      rw (← k.run, ← k.taken, ← k.out)
      (after_same o.taken (s o.run i (drop o.taken u) o.payload o'.payload o.out k.held))

  both_same : (o o' : Outcome) → SameOutcome o o'
      → SameOutcome (pick (tells o) o (after o.taken (next o))) (pick (tells o') o' (after o'.taken (next o')))
  both_same o o' k = rw (tells_same o o' k) (either (tells o) k (goes_on o o' k))

twice_sees : (f : Run → Input → Lent → Outcome) → Sees f → Sees (twice f)
unfolding twice
twice_sees f s r i u p q out h = both_same f s i u (f r i (lent u p out)) (f r i (lent u q out)) (s r i u p q out h)

pub advance_sees_held : AdvanceSeesHeld
advance_sees_held = twice_sees (twice step_of) (twice_sees step_of step_sees_held)
