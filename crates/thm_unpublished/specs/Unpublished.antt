-- Unpublished wordings: two fresh runs whose server bytes differ in hidden places alone, with equal settings, query and start positions and the same
-- calls, are the same run value after every call and answer the same. The payload buffers may begin with any bytes, as may the outputs; lengths are
-- equal. SCOPE 8.12; 02, wish 14.
use Rattle.std.specs.Prelude.{◌≡◌, List, [], ◌∷◌, ℕ, length, get_or, take}
use Rattle.std.proofs.Math.Option.{some}
use Rattle.std.specs.Borrow.{Bor}
use Rattle.lsn.specs.declared.Lsn.{Lsn}
use Rattle.moment.specs.declared.Moment.{Moment}
use Rattle.worker.specs.declared.Input.{Input}
use Rattle.worker.specs.declared.Queue.{Queue}
use Rattle.worker.specs.declared.Run.{Run}
use Rattle.worker.specs.declared.Settings.{Settings}
use Rattle.worker.specs.Answer.{error_part_of}
use Rattle.worker.specs.Session.{open_of, report_of}
use Rattle.worker.specs.Step.{step_of}
use Rattle.advance.specs.Advance.{advance_of}
use Rattle.schedule.specs.NextStep.{next_step_of}
use Rattle.run_page.specs.RunPage.{shown_by}
use Rattle.ffi_words.specs.Words.{words_of}
use Rattle.thm_any_calls.specs.Tests.{longest}
use Rattle.thm_any_calls.specs.Calls.{Played, lent_to, begun, run_begun, Beginning}
use Rattle.thm_any_calls.specs.Calls as C
use Rattle.thm_host_calls.specs.Mixed.{Call, mix_all}
use Rattle.thm_host_calls.specs.Mixed as M
use Rattle.thm_unpublished.specs.Hidden.{DifferHidden}
use Rattle.thm_unpublished.specs.Alike.{Alike}
use Rattle.thm_unpublished.specs.Same.{Same, all_left_out}

-- both runs begin in Opening or both already open; only the output that `open` is lent may differ, and not in length
pub data AlikeBeginning : Beginning → Beginning → Type 0 where
  opens : {slot : List ℕ} {publications : List (Bor (List ℕ))} {position start : Lsn} {out out' : List ℕ} → length out ≡ length out'
      → AlikeBeginning (C.opens slot publications position start out) (C.opens slot publications position start out')
  is_open : {start : Lsn} → AlikeBeginning (C.is_open start) (C.is_open start)

-- the same steps, advances and reports, each with as many unread bytes and an output as long
pub data AlikeCalls : List Call → List Call → Type 0 where
  none : AlikeCalls [] []
  step : {i : Input} {n : ℕ} {out out' : List ℕ} {cs ds : List Call} → length out ≡ length out' → AlikeCalls cs ds
      → AlikeCalls (M.step i n out ∷ cs) (M.step i n out' ∷ ds)
  advance : {i : Input} {n : ℕ} {out out' : List ℕ} {cs ds : List Call} → length out ≡ length out' → AlikeCalls cs ds
      → AlikeCalls (M.advance i n out ∷ cs) (M.advance i n out' ∷ ds)
  report : {file : ℕ} {p : Lsn} {m : Moment} {cs ds : List Call} → AlikeCalls cs ds → AlikeCalls (M.report file p m ∷ cs) (M.report file p m ∷ ds)

-- what calls have left: the run, how many bytes were taken, each step's refusal and taken count, what each wrote, the events with data and content
-- left out, and the payload buffer's length
pub record Equal (z y : Played) : Type 0 where
  pub run : z.run ≡ y.run
  pub taken : z.taken ≡ y.taken
  pub observed : z.observed ≡ y.observed
  pub written : z.written ≡ y.written
  pub events : all_left_out z.events ≡ all_left_out y.events
  pub buffer : length z.payload ≡ length y.payload

-- what can be asked of a run: the service page, the metrics, when a step moves next, the error, and its words
pub record Looks (r q : Run) : Type 0 where
  pub page : shown_by r ≡ shown_by q
  pub metrics : r.metrics ≡ q.metrics
  pub next_step : (n : ℕ) (queue : Queue) → next_step_of r n queue ≡ next_step_of q n queue
  pub error_part : error_part_of r ≡ error_part_of q
  pub words : words_of r ≡ words_of q

-- after calls on two runs over the server's bytes a and b: what was left, what can be asked, the next step, advance or report, and the bytes of an
-- error that the runs show
pub record Indistinct (a b : List ℕ) (z y : Played) : Type 0 where
  pub left : Equal z y
  pub looks : Looks z.run y.run
  pub step : (i : Input) (n : ℕ) (out out' : List ℕ) → length out ≡ length out'
      → Same out out' (step_of z.run i (lent_to a z n out)) (step_of y.run i (lent_to b y n out'))
  pub advance : (i : Input) (n : ℕ) (out out' : List ℕ) → length out ≡ length out'
      → Same out out' (advance_of z.run i (lent_to a z n out)) (advance_of y.run i (lent_to b y n out'))
  pub report : (file : ℕ) (p : Lsn) (m : Moment) → report_of z.run file p m ≡ report_of y.run file p m
  pub error : (n : ℕ) → error_part_of z.run ≡ some n → take n z.payload ≡ take n y.payload

-- any list of calls, of the wider relation
abbrev pub AlikeIndistinct : Type 0
AlikeIndistinct =
    (s : Settings) (c d : Beginning) (a b p q : List ℕ) → AlikeBeginning c d → Alike (longest s.max_message_size) a b → length p ≡ length q
    → (cs ds : List Call) → AlikeCalls cs ds → Indistinct a b (mix_all a (begun (run_begun s c) p) cs) (mix_all b (begun (run_begun s d) q) ds)

-- any list of calls, of streams that differ in hidden places alone
abbrev pub HiddenIndistinct : Type 0
HiddenIndistinct =
    (s : Settings) (c d : Beginning) (a b p q : List ℕ) → AlikeBeginning c d → DifferHidden (longest s.max_message_size) a b
    → length p ≡ length q → (cs ds : List Call) → AlikeCalls cs ds
    → Indistinct a b (mix_all a (begun (run_begun s c) p) cs) (mix_all b (begun (run_begun s d) q) ds)

-- what `open` answers and writes depends on no server bytes: it is lent none. With outputs of one length it answers the same, and writes the same
-- over them
pub record OpensAlike : Type 0 where
  pub opens : (s : Settings) (slot : List ℕ) (publications : List (Bor (List ℕ))) (position start : Lsn) (out out' : List ℕ)
      → length out ≡ length out'
      → (open_of s slot publications position start out).outcome ≡ (open_of s slot publications position start out').outcome
  pub output : (s : Settings) (slot : List ℕ) (publications : List (Bor (List ℕ))) (position start : Lsn) (out out' : List ℕ)
      → length out ≡ length out' → (j : ℕ) → get_or out j 0 ≡ get_or out' j 0
      → get_or (open_of s slot publications position start out).out j 0 ≡ get_or (open_of s slot publications position start out').out j 0
