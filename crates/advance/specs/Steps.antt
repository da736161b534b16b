-- One call of advance is one to four steps with the same input. SCOPE 5.10, 8.8.
use Rattle.std.specs.Prelude.{◌≡◌, ℕ, ◌+◌, ◌<◌, ◌≤◌}
use Rattle.worker.specs.declared.Input.{Input}
use Rattle.worker.specs.declared.Run.{Run}
use Rattle.worker.specs.Events as E
use Rattle.worker.specs.Step.{Lent, Outcome, step_of}
use Rattle.advance.specs.Advance.{lent_after, after, advance_of}

-- no refusal, nothing to send, no event
pub record Quiet (o : Outcome) : Type 0 where
  pub none_refused : o.refusal ≡ 0
  pub none_written : o.written ≡ 0
  pub none_handed_on : o.event ≡ E.nothing

-- this many steps, each lent the bytes after those that the one before it took, and the buffers as that one left them; all but the last are quiet.
-- The outcome is the last one's, with all that was taken
pub data Several : ℕ → Run → Input → Lent → Outcome → Type 0 where
  one : {r : Run} {i : Input} {l : Lent} → Several 1 r i l (step_of r i l)
  more : {n : ℕ} {r : Run} {i : Input} {l : Lent} {o : Outcome} → Quiet (step_of r i l)
      → Several n (step_of r i l).run i (lent_after l (step_of r i l)) o
      → Several (1 + n) r i l (after (step_of r i l).taken o)

-- at least one step and at most n; fewer only where the last is not quiet
pub record UpTo (n : ℕ) (r : Run) (i : Input) (l : Lent) (o : Outcome) : Type 0 where
  pub count : ℕ
  pub at_least : 1 ≤ count
  pub at_most : count ≤ n
  pub steps : Several count r i l o
  pub not_fewer : count < n → Quiet o → ⊥

abbrev pub AdvanceIsSteps : Type 0
AdvanceIsSteps = (r : Run) (i : Input) (l : Lent) → UpTo 4 r i l (advance_of r i l)
