-- Nothing is lost: over any list of calls of a run and of a ledger, in which no report is above the ledger's answer for its file then, every entry that
-- a status confirms was told and is done. SCOPE 19.
use Rattle.std.specs.Prelude.{◌≡◌, true, List, [], ◌∷◌, ℕ, ◌≤◌, ◌<◌, length, take}
use Rattle.std.proofs.Math.Option.{some}
use Rattle.frontend.specs.ReadBack.{status_of, Status}
use Rattle.lsn.specs.declared.Lsn.{Lsn}
use Rattle.moment.specs.declared.Moment.{Moment}
use Rattle.worker.specs.declared.Input.{Input}
use Rattle.worker.specs.declared.Run.{Run}
use Rattle.worker.specs.declared.Settings.{Settings}
use Rattle.worker.specs.Step.{Outcome, Lent, step_of}
use Rattle.worker.specs.Session.{report_of}
use Rattle.thm_any_calls.specs.Calls.{Beginning, start_of, run_begun}
use Rattle.touched.specs.Touched.{entries_of}
use Rattle.ledger.specs.declared.Ledger.{Ledger}
use Rattle.ledger.specs.declared.Entry.{Entry}
use Rattle.ledger.specs.Ledger.{cap_of, bit_for, answer_of}
use Rattle.ledger.specs.History.{Call, History, start_in, seen_in}
use Rattle.ledger.specs.Stands.{call_on, answers_in, mark_after, history_after, Stands}
use Rattle.ledger.specs.Laws.{Accepted, Covered, EntryIn, Within}

-- a call of the run, with whatever it is lent, or of the ledger
pub data BothCall : Type 0 where
  step : Input → Lent → BothCall
  report : ℕ → Lsn → Moment → BothCall
  ledger : Call → BothCall

-- ---- what is asked of the host

-- every report of a file is at most the answer of the ledger's words for that file then, and no ledger call begins a further stream
abbrev pub Allowed : List ℕ → List ℕ → Ledger → List ℕ → List BothCall → Type 0
Allowed ids fs l ring [] = Unit
Allowed ids fs l ring (step i t ∷ cs) = Allowed ids fs l ring cs
Allowed ids fs l ring (report f q m ∷ cs) = (f ≤ 3 → q.0 ≤ (answer_of f l ring).1) × Allowed ids fs l ring cs
Allowed ids fs l ring (ledger c ∷ cs) = Within c × Allowed ids fs (call_on ids fs c l ring).1 (call_on ids fs c l ring).2 cs

-- ---- what is promised of each status

-- a position that is confirmed, where the ledger was told the history h before: each entry of the stream that ends at or below it, and above the
-- first start p and the stream's start, is covered for every file that it touches; and an entry that is still to come, which ends above the start
-- and above what was seen, is above it
pub record NothingLost (p : ℕ) (es : List (ℕ × ℕ)) (h : History) (q : ℕ) : Type 0 where
  pub done : (e : Entry) (f : ℕ) → EntryIn p es h e → f ≤ 3 → bit_for f e.touched ≡ true → p < e.end → start_in p h < e.end → e.end ≤ q
      → Covered f e.end h
  pub to_come : (x : ℕ) → start_in p h < x → seen_in h < x → q < x

-- so of the three positions of whatever status a server reads of the bytes that a step wrote
abbrev pub Told : ℕ → List (ℕ × ℕ) → History → Outcome → Type 0
Told p es h o =
    (x : Status) → status_of (take o.written o.out) ≡ some x
    → NothingLost p es h x.written × NothingLost p es h x.flushed × NothingLost p es h x.applied

-- at every step, with the history as the ledger's calls before it left it
abbrev pub NoneLost : ℕ → List (ℕ × ℕ) → ℕ → ℕ → History → Run → List BothCall → Type 0
NoneLost p es cap mark h r [] = Unit
NoneLost p es cap mark h r (step i t ∷ cs) = Told p es h (step_of r i t) × NoneLost p es cap mark h (step_of r i t).run cs
NoneLost p es cap mark h r (report f q m ∷ cs) = NoneLost p es cap mark h (report_of r f q m).1 cs
NoneLost p es cap mark h r (ledger c ∷ cs) =
    NoneLost p es cap (mark_after mark c (answers_in p es cap mark c h)) (history_after (answers_in p es cap mark c h) c h) r cs

-- a ledger that stands for some accepted history, in its first stream or a further one, and a run with the same start as that stream
pub record Begins (p : ℕ) (es : List (ℕ × ℕ)) (h : History) (l : Ledger) (ring : List ℕ) (b : Beginning) : Type 0 where
  pub stands : Stands p es 0 h l ring
  pub accepted : Accepted p es (cap_of (length ring)) h
  pub start : start_in p h ≡ (start_of b).0

-- for any settings, beginning, list of relations, ring and list of calls, whatever each call is lent
abbrev pub NothingIsLost : Type 0
NothingIsLost =
    (s : Settings) (b : Beginning) (p : ℕ) (ids fs : List ℕ) (h : History) (l : Ledger) (ring : List ℕ) (cs : List BothCall)
    → Begins p (entries_of ids fs) h l ring b → Allowed ids fs l ring cs
    → NoneLost p (entries_of ids fs) (cap_of (length ring)) 0 h (run_begun s b) cs
