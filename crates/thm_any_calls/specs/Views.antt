-- Condition 3, what can be asked of a run after any list of calls, also where it has ended: the last status, and no error unless a step was refused
-- with 19. Failed says which error is shown then, Counters what the metrics are. SCOPE 5.8, 8.9.
use Rattle.std.specs.Prelude.{◌≡◌, Bool, true, false, List, [], ◌∷◌, ℕ, length, eqb}
use Rattle.std.proofs.Math.Option.{none}
use Rattle.wire.specs.Bytes.{pick}
use Rattle.worker.specs.declared.Run.{Run}
use Rattle.worker.specs.declared.Settings.{Settings}
use Rattle.worker.specs.Answer.{error_part_of}
use Rattle.thm_any_calls.specs.Trace.{Setup, Trace, a_step, a_report, has_sent, sent_at, sent_position}
use Rattle.thm_any_calls.specs.Calls.{Beginning, Call, played, setup_of}
use Rattle.thm_any_calls.specs.Traced.{trace_of}

-- a step was refused with 19
unfoldable pub has_failed : Trace → Bool
has_failed [] = false
has_failed (a_step i from y ∷ h) = pick (eqb y.refusal 19) true (has_failed h)
has_failed (a_report file p m ∷ h) = has_failed h

-- what a run shows after a trace
pub record Seen (s : Setup) (h : Trace) (r : Run) : Type 0 where
  pub sent : r.status.sent ≡ has_sent h
  pub sent_position_lem : r.status.position ≡ sent_position s.start h
  pub sent_at_lem : r.status.at ≡ sent_at h
  pub no_error : has_failed h ≡ false → error_part_of r ≡ none

-- after any list of calls, whatever queue closes
abbrev pub ViewsTraced : Type 0
ViewsTraced =
    (s : Settings) (b : Beginning) (bytes payload : List ℕ) (cs : List Call)
    → let x : Setup = setup_of s b bytes (length payload) in Seen x (trace_of x cs) (played s b bytes payload cs).run
