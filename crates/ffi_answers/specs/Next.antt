-- When to step again, as words. SCOPE 9.2, 5.9.
use Rattle.std.specs.Prelude.{ℕ, List, [], ◌∷◌}
use Rattle.schedule.specs.NextStep.{Next, at_once, from, on_input, never, next_step_of}
use Rattle.ffi_words.specs.Step.{queue_of}
use Rattle.ffi_words.specs.Words.{run_of}

-- 0 at once, 1 from a moment on, 2 when something comes, 3 never; and the moment
abbrev pub next_words : Next → List ℕ
next_words at_once = 0 ∷ 0 ∷ []
next_words (from m) = 1 ∷ m ∷ []
next_words on_input = 2 ∷ 0 ∷ []
next_words never = 3 ∷ 0 ∷ []

-- `rufflesquash_next_step`, with the payload buffer's length and the queue's word
abbrev pub next_step_call : List ℕ → ℕ → ℕ → List ℕ
next_step_call w n queue = next_words (next_step_of (run_of w) n (queue_of queue))
