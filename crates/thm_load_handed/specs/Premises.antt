-- What the premises of LoadHanded and Reached ask for, and nothing more: with a premise that asks for more they would say less. SCOPE 16.2.
use Rattle.std.specs.Prelude.{◌≡◌, true, false, List, [], ◌∷◌, ℕ, ◌+◌, ◌*◌, ◌≤◌}
use Rattle.lsn.specs.declared.Lsn.{Lsn}
use Rattle.moment.specs.declared.Moment.{Moment}
use Rattle.worker.specs.declared.Input.{Input}
use Rattle.worker.specs.declared.Queue.TheVariants.{Free}
use Rattle.worker.specs.declared.State.TheVariants.{Opening, Turn, Drain, Reading, Waiting, Handling, Offering, Ended}
use Rattle.thm_any_calls.specs.Calls.{Call, step, report}
use Rattle.thm_load_handed.specs.LoadHanded.{Undisturbed, holds_back}
use Rattle.thm_load_handed.specs.Reached.{AllUnread, enough}

-- a step without a stop request and with a free queue is undisturbed, a report always; a step that is lent so many bytes or more is lent them all;
-- only Handling and Offering hold back; and 6 n + 1 accepted steps are enough
pub record PremisesSay : Type 0 where
  pub no_calls : Undisturbed []
  pub a_step : (i : Input) (n : ℕ) (out : List ℕ) (cs : List Call)
      → i.stop ≡ false → i.queue ≡ Free → Undisturbed cs → Undisturbed (step i n out ∷ cs)
  pub a_report : (file : ℕ) (position : Lsn) (moment : Moment) (cs : List Call) → Undisturbed cs → Undisturbed (report file position moment ∷ cs)
  pub none_unread : (len : ℕ) → AllUnread len []
  pub step_unread : (len n : ℕ) (i : Input) (out : List ℕ) (cs : List Call) → len ≤ n → AllUnread len cs → AllUnread len (step i n out ∷ cs)
  pub report_unread : (len file : ℕ) (position : Lsn) (moment : Moment) (cs : List Call)
      → AllUnread len cs → AllUnread len (report file position moment ∷ cs)
  pub held : (holds_back Handling ≡ true) × (holds_back Offering ≡ true)
  pub not_held : (holds_back Opening ≡ false) × (holds_back Turn ≡ false) × (holds_back Drain ≡ false) × (holds_back Reading ≡ false)
      × (holds_back Waiting ≡ false) × (holds_back Ended ≡ false)
  pub many : (n : ℕ) → enough n ≤ 6 * n + 1
