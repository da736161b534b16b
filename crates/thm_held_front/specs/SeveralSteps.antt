-- Up to four steps in one call see only the held front, too. SCOPE 5.10, 8.13.
use Rattle.std.specs.Prelude.{List, ℕ}
use Rattle.worker.specs.declared.Input.{Input}
use Rattle.worker.specs.declared.Run.{Run}
use Rattle.worker.specs.Answer.{lent}
use Rattle.advance.specs.Advance.{advance_of}
use Rattle.thm_held_front.specs.HeldFront.{SameHeld, SameOutcome}

abbrev pub AdvanceSeesHeld : Type 0
AdvanceSeesHeld =
    (r : Run) (i : Input) (u p q out : List ℕ) → SameHeld r p q → SameOutcome (advance_of r i (lent u p out)) (advance_of r i (lent u q out))
