-- What each end of a step answers, in the table's words: a law for each of worker's `handing`, `refused_with`, `done_with` and `feedback_of`. StateCases and
-- Preserved take them.
use mathlib.Core.Path.{◌≡◌, refl, ap, ◌∙◌}
use mathlib.Core.Bool.{Bool}
use mathlib.Core.List.{List, []}
use Prim.Native.Nat.{ℕ}
use lib.ListN.{length, take}
use Rattle.frontend.specs.Frontend.{status_update, copy_done_message}
use Rattle.lsn.specs.declared.Lsn.{Lsn}
use Rattle.progress.specs.Progress.{cell_position}
use Rattle.worker.specs.declared.State.{State}
use Rattle.worker.specs.declared.State.TheVariants.{Ended}
use Rattle.worker.specs.declared.Input.{Input}
use Rattle.worker.specs.declared.Event.{Event}
use Rattle.worker.specs.declared.Event.TheVariants.{Nothing}
use Rattle.worker.specs.declared.Run.{Run}
use Rattle.worker.specs.Run.{cell_in}
use Rattle.worker.specs.Step.{Lent, done_with, handing, moved, refused_with, feedback_of, waited_by}
use Rattle.worker.specs.Events as E
use Rattle.thm_any_calls.specs.Tests.{onto}
use Rattle.thm_any_calls.specs.Happened.{Happened, happened_of, Parts}
use Rattle.thm_any_calls.specs.Trace.{Setup, Trace, taken_by, nothing, done, status, confirmed_of}
use Rattle.thm_any_calls.specs.Table.{limit_by, last_message, respond, enters, writes}
use Rattle.thm_any_calls.specs.Traced.{Answers}
use Rattle.thm_any_calls.specs.Traced as T
use Rattle.thm_any_calls.proofs.Tests.{put_front}

-- nothing is taken, so the payload buffer stays
module _ {s : Setup} {h : Trace} {i : Input} {l : Lent} where
  pub handing_answers : (e : Event) (r : Run) {es : List Happened} → happened_of (E.said_by e) l.payload ≡ es
      → Parts (E.said_by e) (length (last_message (limit_by s) (take (taken_by h) s.bytes)).1)
      → Answers s h i l (respond 0 nothing r.state es) (handing e r l)
  handing_answers e r he w =
      record {
        refusal = refl;
        taken = refl;
        payload = refl;
        output = refl;
        waited = refl;
        state = refl;
        event = he;
        parts =
            w;
      }

  pub moved_answers : (r : Run) → Answers s h i l (enters r.state) (moved r l)
  moved_answers r = handing_answers Nothing r refl tt

  pub refused_answers : (n : ℕ) (r : Run) → Answers s h i l (respond n nothing r.state []) (refused_with n r l)
  refused_answers n r =
      record {
        refusal = refl;
        taken = refl;
        payload = refl;
        output = refl;
        waited = refl;
        state = refl;
        event = refl;
        parts = tt;
      }

  pub done_answers : (e : Event) (r : Run) {es : List Happened} → happened_of (E.said_by e) l.payload ≡ es
      → Parts (E.said_by e) (length (last_message (limit_by s) (take (taken_by h) s.bytes)).1)
      → Answers s h i l (respond 0 done Ended es) (done_with e r l)
  done_answers e r he w =
      record {
        refusal = refl;
        taken = refl;
        payload = refl;
        output = ap (λ (o : List ℕ). (5, o)) (put_front l.out copy_done_message);
        waited = refl;
        state = refl;
        event = he;
        parts = w;
      }

  pub status_answers : (reply : Bool) (to : State) (r : Run) → cell_position (cell_in r) ≡ confirmed_of s.start h
      → waited_by r ≡ T.waited_by s h i (status reply)
      → Answers s h i l (writes (status reply) to) (feedback_of reply to r i l)
  unfolding feedback_of
  status_answers reply to r e w =
      record {
        refusal = refl;
        taken = refl;
        payload = refl;
        output =
            ap (λ (o : List ℕ). (39, o)) (put_front l.out (status_update (cell_position (cell_in r)).0 i.client_time reply))
            ∙ ap (λ (p : Lsn). (39, onto (status_update p.0 i.client_time reply) l.out)) e;
        waited = w;
        state = refl;
        event = refl;
        parts = tt;
      }
