-- What each answer about the next step says, over all moments. SCOPE 5.9.
use Rattle.std.specs.Prelude.{◌≡◌, ℕ}
use Rattle.schedule.specs.declared.NextStep.TheVariants.{AtOnce, From, OnInput, Never}
use Rattle.schedule.specs.NextStep.{at_once, from, on_input, never, next_by}

-- an answer says its own moment, whatever that is
pub record NextSaid : Type 0 where
  pub of_at_once : next_by AtOnce ≡ at_once
  pub of_from : (m : ℕ) → next_by (From (record { 0 = m })) ≡ from m
  pub of_on_input : next_by OnInput ≡ on_input
  pub of_never : next_by Never ≡ never
