-- What an answer says about time, whatever the search is. 02, wish 11.
use Rattle.std.specs.Prelude.{◌≡◌, Bool, not, ℤ, ◌<ℤ◌}
use Rattle.std.proofs.Math.Option.{Option, some, none}
use Rattle.hours.specs.declared.Hours.{Hours}
use Rattle.hours.specs.Calendar.{is_open}
use Rattle.hours.specs.Answer.{hours_of}

-- u is the first moment after t at which the hall's state is not as it is at t
pub record ChangesAt (h : Hours) (t u : ℤ) : Type 0 where
  pub is_later : t <ℤ u
  pub is_other : is_open h u ≡ not (is_open h t)
  pub none_between : (v : ℤ) → t <ℤ v → v <ℤ u → is_open h v ≡ is_open h t

-- it is the same at every moment after t
abbrev pub NeverChanges : Hours → ℤ → Type 0
NeverChanges h t = (v : ℤ) → t <ℤ v → is_open h v ≡ is_open h t

-- what an answer's change says: never, or at a moment
abbrev pub NextIs : Hours → ℤ → Option ℤ → Type 0
NextIs h t none = NeverChanges h t
NextIs h t (some u) = ChangesAt h t u

-- every answer that is no refusal says whether the hall is open at the moment, and when that next changes. The moment of the change is any number: it
-- may lie after the last moment that can be asked for
-- (which questions are not refused, and that no other answer is given, stands in Reading.antt)
abbrev pub AnswersAreRight : Type 0
AnswersAreRight = (h : Hours) (t : ℤ) (state : Bool) (next : Option ℤ) → hours_of h t ≡ (0, (state, next)) → (state ≡ is_open h t) × NextIs h t next
