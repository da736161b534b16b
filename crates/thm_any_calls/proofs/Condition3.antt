-- Condition 3, its eleven parts together; one of them, that each call answers as the table says, is read off what holds after any list of
-- calls (Preserved).
use mathlib.Core.Path.{ap}
use Prim.Native.Nat.{ℕ}
use lib.ListN.{length}
use Rattle.progress.specs.declared.files.Progress.{Progress}
use Rattle.progress.proofs.FileLaws.{refused_at, accepted_at}
use Rattle.worker.specs.declared.Run.{Run}
use Rattle.worker.specs.Session.{report_of}
use Rattle.worker.specs.Run.{with_progress}
use Rattle.thm_any_calls.specs.Trace.{Setup}
use Rattle.thm_any_calls.specs.Calls.{played, setup_of}
use Rattle.thm_any_calls.specs.Traced.{trace_of, CallsTraced}
use Rattle.thm_any_calls.specs.Refused.{RefusedLeaves, ReportsAnswer}
use Rattle.thm_any_calls.specs.Condition3.{Condition3}
use Rattle.thm_any_calls.proofs.Beginnings.{beginnings_answer}
use Rattle.thm_any_calls.proofs.Confirms.{confirms_smallest, no_file_behind}
use Rattle.thm_any_calls.proofs.Counters.{counters_traced}
use Rattle.thm_any_calls.proofs.Failed.{error_shown, error_traced}
use Rattle.thm_any_calls.proofs.HandsOn.{hands_on, events_begin}
use Rattle.thm_any_calls.proofs.Preserved.{step_next, refused_leaves, played_preserved}
use Rattle.thm_any_calls.proofs.Views.{views_traced}

pub calls_traced : CallsTraced
calls_traced s b bytes p cs =
    let x : Setup = setup_of s b bytes (length p) in
    let w = played_preserved s b bytes p cs in
    record { follows = w.follows; next = λ i n out. (step_next x (trace_of x cs) (played s b bytes p cs) w i n out).answers }

pub calls_refused : RefusedLeaves
calls_refused s b bytes p cs i n out =
    let x : Setup = setup_of s b bytes (length p) in
    (refused_leaves x (trace_of x cs) (played s b bytes p cs) (played_preserved s b bytes p cs) i n out).left

-- whatever the run is
pub reports_answer : ReportsAnswer
unfolding report_of
reports_answer s b bytes p cs =
    let r : Run = (played s b bytes p cs).run in
    record {
      refused = λ file x m k. ap (λ (a : ℕ × Progress). (a.0, with_progress a.1 r)) (refused_at r.progress file x m k);
      accepted = λ file x m k. accepted_at r.progress file x m k;
    }

pub condition_3 : Condition3
condition_3 =
    record {
      beginnings = beginnings_answer;
      confirms = confirms_smallest;
      none_behind = no_file_behind;
      answers = calls_traced;
      refused = calls_refused;
      reports = reports_answer;
      error = error_shown;
      error_stays = error_traced;
      views = views_traced;
      counters = counters_traced;
      events = hands_on;
      begins = events_begin;
    }
