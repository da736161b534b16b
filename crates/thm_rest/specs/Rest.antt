-- A run comes to rest: with both intervals above 0 and nothing new, a few steps at one moment lead to an answer of `next_step` that asks for no
-- step at that moment. SCOPE 5.9, 8.9.
use Rattle.std.specs.Prelude.{ℕ, zero, suc, ◌<◌, List, ◌⊎◌, length, ℤ}
use Rattle.moment.specs.declared.Moment.{Moment}
use Rattle.worker.specs.declared.Queue.{Queue}
use Rattle.worker.specs.declared.Run.{Run}
use Rattle.schedule.specs.NextStep.{Next, at_once, from, on_input, never, next_step_of}
use Rattle.schedule.specs.Promise.{quiet_step, Accepts}

-- an answer that asks for no step at a moment: a later one, input, or none ever
abbrev pub NotNow : Next → ℕ → Type 0
NotNow at_once m = ⊥
NotNow (from t) m = m < t
NotNow on_input m = Unit
NotNow never m = Unit

-- what is the same at each step: moment, client time, queue, payload buffer and output
module _ (m : Moment) (time : ℤ) (q : Queue) (p out : List ℕ) where
  -- the answer for a run is such
  abbrev pub AtRest : Run → Type 0
  AtRest r = NotNow (next_step_of r (length p) q) m.0

  -- the run rests now, or after at most so many steps that bring nothing new
  abbrev pub Rests : ℕ → Run → Type 0
  Rests zero r = AtRest r
  Rests (suc n) r = AtRest r ⊎ Rests n (quiet_step r m time q p out).run

-- for every run value, whose steps at this moment are accepted
abbrev pub ComesToRest : Type 0
ComesToRest =
    (r : Run) (m : Moment) (time : ℤ) (q : Queue) (p out : List ℕ) → 0 < r.settings.status_interval → 0 < r.settings.idle_wakeup_interval
    → Accepts r m p out → Rests m time q p out 7 r
