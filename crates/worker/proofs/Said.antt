-- Each answer of the worker says its own values.
use Rattle.std.proofs.Common.{ℕ, List, refl}
use Rattle.worker.specs.declared.Stepped.{Stepped}
use Rattle.worker.specs.Said.{EventsSaid, PartsSaid, StepSaid, AnswersSaid}

pub events_said : EventsSaid
events_said =
    record {
      of_nothing = refl;
      of_keep_alive = λ end time reply. refl;
      of_begin = λ final time xid. refl;
      of_commit = λ position end time. refl;
      of_message = λ flag position prefix_from prefix_len from len. refl;
      of_xlog_data = λ start end time from len. refl;
      of_stopped_at = λ reached. refl;
      of_offered = λ e reached. refl;
      of_refused = λ r. refl;
    }

pub parts_said : PartsSaid
parts_said =
    record { of_accepted = refl; of_refused = λ r. refl; of_untold = refl; of_nanos = λ n. refl; of_absent = refl; of_front = λ n. refl }

step_said : (s : Stepped) (p o : List ℕ) → StepSaid s p o
step_said s p o =
    record { run = refl; refusal = refl; taken = refl; event = refl; written = refl; waited = refl; payload = refl; out = refl }

pub answers_said : AnswersSaid
answers_said =
    record { of_step = step_said; of_opened = λ a out. (refl, refl, refl); of_already_open = λ a. refl; of_report = λ a. refl }
