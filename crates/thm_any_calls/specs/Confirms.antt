-- Condition 3, confirmations: each status confirms the smallest over the four files of the largest of the start and that file's reports before it
-- that were not refused, whatever each step is lent. SCOPE 8.2; 01, "Events and confirmations"; 02, wish 5.
use Rattle.std.specs.Prelude.{ℕ, min, max, ◌≤◌, ◌%◌, ◌^◌, Bool, ◌≡◌, List, [], ◌∷◌, eqb, ltb, take, ℤ}
use Rattle.std.proofs.Math.Option.{some}
use Rattle.wire.specs.Bytes.{pick}
use Rattle.wire.specs.Int.{int, value}
use Rattle.frontend.specs.Frontend.{status_update, copy_done_message}
use Rattle.frontend.specs.ReadBack.{status_of, Status, confirming}
use Rattle.lsn.specs.declared.Lsn.{Lsn}
use Rattle.moment.specs.declared.Moment.{Moment}
use Rattle.worker.specs.declared.Input.{Input}
use Rattle.worker.specs.declared.Run.{Run}
use Rattle.worker.specs.declared.Settings.{Settings}
use Rattle.worker.specs.Step.{Outcome, Lent, step_of}
use Rattle.worker.specs.Session.{report_of}
use Rattle.thm_any_calls.specs.Tests.{onto}
use Rattle.thm_any_calls.specs.Calls.{Beginning, start_of, run_begun}

-- a call, with whatever bytes and buffers it is lent
pub data AnyCall : Type 0 where
  step : Input → Lent → AnyCall
  report : ℕ → Lsn → Moment → AnyCall

-- what a server reads of the bytes that a step wrote: the position as written, flushed and applied, each by its lowest 64 bits, the client's time
-- and the reply byte
abbrev pub ReadAs : ℕ → ℤ → Bool → Outcome → Type 0
ReadAs position time reply o =
    status_of (take o.written o.out) ≡ some (confirming (position % 2 ^ 64) (int 8 (value 8 time % 2 ^ 64)) reply)

-- what a step wrote: nothing, a CopyDone, or a status that confirms this position; the rest of the output is as it was
pub data Writes (position : ℕ) (i : Input) (l : Lent) (o : Outcome) : Type 0 where
  nothing : o.written ≡ 0 → o.out ≡ l.out → Writes position i l o
  done : o.written ≡ 5 → o.out ≡ onto copy_done_message l.out → Writes position i l o
  status : (reply : Bool) → o.written ≡ 39 → o.out ≡ onto (status_update position i.client_time reply) l.out
      → ReadAs position i.client_time reply o → Writes position i l o

-- what each file has reached, by its number
abbrev pub Reached : Type 0
Reached = ℕ → ℕ

-- a report takes its file to the larger of the two; one of a number above 3 is refused and counts for nothing
abbrev pub reached_with : Reached → ℕ → Lsn → Reached
reached_with reached file position = pick (ltb 3 file) reached (λ (n : ℕ). pick (eqb file n) (max (reached n) position.0) (reached n))

-- the smallest over the four files
abbrev pub least_of : Reached → ℕ
least_of reached = min (min (reached 0) (reached 1)) (min (reached 2) (reached 3))

-- from a run on, with what each file has reached so far
abbrev pub Confirmed : Reached → Run → List AnyCall → Type 0
Confirmed reached r [] = Unit
Confirmed reached r (step i l ∷ cs) = Writes (least_of reached) i l (step_of r i l) × Confirmed reached (step_of r i l).run cs
Confirmed reached r (report file position moment ∷ cs) = Confirmed (reached_with reached file position) (report_of r file position moment).1 cs

-- on a run that `open` or `already_open` made, where each file has reached the start
abbrev pub ConfirmsSmallest : Type 0
ConfirmsSmallest = (s : Settings) (b : Beginning) (cs : List AnyCall) → Confirmed (λ n. (start_of b).0) (run_begun s b) cs

-- ---- no file lies behind a confirmation

-- whatever status a server reads of the bytes that a step wrote, none of its positions is above this
abbrev pub NotAbove : ℕ → Outcome → Type 0
NotAbove reached o =
    (x : Status) → status_of (take o.written o.out) ≡ some x → (x.written ≤ reached) × (x.flushed ≤ reached) × (x.applied ≤ reached)

-- no status confirms more than each file has reached when its step is made
abbrev pub NoneBehind : Reached → Run → List AnyCall → Type 0
NoneBehind reached r [] = Unit
NoneBehind reached r (step i l ∷ cs) = ((file : ℕ) → file ≤ 3 → NotAbove (reached file) (step_of r i l)) × NoneBehind reached (step_of r i l).run cs
NoneBehind reached r (report file position moment ∷ cs) = NoneBehind (reached_with reached file position) (report_of r file position moment).1 cs

-- from the start, at which each file begins
abbrev pub NoFileBehind : Type 0
NoFileBehind = (s : Settings) (b : Beginning) (cs : List AnyCall) → NoneBehind (λ n. (start_of b).0) (run_begun s b) cs
