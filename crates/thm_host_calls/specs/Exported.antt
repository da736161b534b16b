-- Lists of exported calls, which is what a host in Rust or C makes: a run is words, and so is an answer. The host lends each call the words and the
-- payload buffer as the last call left them, and the server's bytes after those that the answers say were taken. Each call is what its contract in
-- `ffi_export` says, by the same definition. SCOPE 8.8, 9.2.
use Rattle.std.specs.Prelude.{◌≡◌, List, [], ◌∷◌, ◌++◌, ℕ, ◌+◌, take, drop}
use Rattle.std.specs.Borrow.{Bor}
use Rattle.worker.specs.declared.Input.{Input}
use Rattle.worker.specs.declared.Run.{Run}
use Rattle.worker.specs.Answer.{lent}
use Rattle.worker.specs.Step.{Lent, Outcome, step_of}
use Rattle.advance.specs.Advance.{advance_of}
use Rattle.ffi_words.specs.Calls.{standing, step_call, open_call, already_open_call, report_call, report_each_call, state_call, metrics_call, position_call, last_sent_call}
use Rattle.ffi_answers.specs.Next.{next_step_call}
use Rattle.ffi_answers.specs.Parts.{error_part_call}
use Rattle.ffi_answers.specs.Pages.{page_call}
use Rattle.thm_any_calls.specs.Tests.{lsn}
use Rattle.thm_any_calls.specs.Calls.{Beginning, opens, is_open}
use Rattle.thm_host_calls.specs.Mixed as M
use Rattle.thm_host_calls.specs.HostWords.{word, moment, Words, input_by}

-- an exported call: a step or an advance with so many of the next untaken bytes and an output; a report of a file at a position and a moment; one of
-- all files at four positions and a moment; a look at the state, the metrics, the position, the last status, the error with a payload buffer's length,
-- the next step with that length and the queue's word, the page with an output
pub data HostCall : Type 0 where
  step advance : Words → ℕ → List ℕ → HostCall
  report : ℕ → ℕ → ℕ → HostCall
  report_each : List ℕ → ℕ → HostCall
  state metrics position last_sent : HostCall
  error_part : ℕ → HostCall
  next_step : ℕ → ℕ → HostCall
  page : List ℕ → HostCall

-- what the host has between two calls: the run's words, the payload buffer, how many bytes were taken
pub record Held : Type 0 where
  pub words : List ℕ
  pub payload : List ℕ
  pub taken : ℕ

-- what a call gives back: the number that it returns, the words that it answers, the output
pub record Reply : Type 0 where
  pub result : ℕ
  pub answer : List ℕ
  pub out : List ℕ

-- ---- one call, by its contract

-- `rufflesquash_step` and `rufflesquash_advance`. The second word of the answer is how many bytes were taken
pub record Stepped (f : Run → Input → Lent → Outcome) (bytes : List ℕ) (h : Held) (a : Words) (n : ℕ) (out : List ℕ) (g : Held) (y : Reply)
    : Type 0 where
  pub ensures :
      (standing g.words, y.answer, g.payload, y.out)
      ≡ step_call f h.words a.moment a.time a.stop a.queue a.ended (lent (take n (drop h.taken bytes)) h.payload out)
  pub taken : g.taken ≡ h.taken + word y.answer 1

-- `rufflesquash_report`
pub record Reported (h : Held) (file p m : ℕ) (g : Held) (y : Reply) : Type 0 where
  pub ensures : (y.result, standing g.words) ≡ report_call h.words file p m
  pub payload : g.payload ≡ h.payload
  pub taken : g.taken ≡ h.taken

-- `rufflesquash_report_each`
pub record ReportedEach (h : Held) (ps : List ℕ) (m : ℕ) (g : Held) (y : Reply) : Type 0 where
  pub ensures : (y.result, standing g.words) ≡ report_each_call h.words ps m
  pub payload : g.payload ≡ h.payload
  pub taken : g.taken ≡ h.taken

-- one exported call, from what the host has before to what it has after, and its reply; a look changes nothing
abbrev pub Called : List ℕ → Held → HostCall → Held → Reply → Type 0
Called bytes h (step a n out) g y = Stepped step_of bytes h a n out g y
Called bytes h (advance a n out) g y = Stepped advance_of bytes h a n out g y
Called bytes h (report file p m) g y = Reported h file p m g y
Called bytes h (report_each ps m) g y = ReportedEach h ps m g y
Called bytes h state g y = (g ≡ h) × (y.result ≡ state_call h.words)
Called bytes h metrics g y = (g ≡ h) × (y.answer ≡ metrics_call h.words)
Called bytes h position g y = (g ≡ h) × (y.result ≡ position_call h.words)
Called bytes h last_sent g y = (g ≡ h) × (y.answer ≡ last_sent_call h.words)
Called bytes h (error_part n) g y = (g ≡ h) × (y.answer ≡ error_part_call h.words n)
Called bytes h (next_step n queue) g y = (g ≡ h) × (y.answer ≡ next_step_call h.words n queue)
Called bytes h (page out) g y = (g ≡ h) × (((y.result, word y.answer 0), y.out) ≡ page_call h.words out)

-- call after call
pub data CalledAll (bytes : List ℕ) : Held → List HostCall → Held → Type 0 where
  none : {h : Held} → CalledAll bytes h [] h
  next : {h g k : Held} {c : HostCall} {cs : List HostCall} (y : Reply) → Called bytes h c g y → CalledAll bytes g cs k
      → CalledAll bytes h (c ∷ cs) k

-- ---- the same calls without the looks, for theorems about lists that mix steps, advances and reports

abbrev pub mixed_in : HostCall → List M.Call
mixed_in (step a n out) = M.step (input_by a) n out ∷ []
mixed_in (advance a n out) = M.advance (input_by a) n out ∷ []
mixed_in (report file p m) = M.report file (lsn p) (moment m) ∷ []
mixed_in (report_each ps m) =
    M.report 0 (lsn (word ps 0)) (moment m) ∷ M.report 1 (lsn (word ps 1)) (moment m) ∷ M.report 2 (lsn (word ps 2)) (moment m)
    ∷ M.report 3 (lsn (word ps 3)) (moment m) ∷ []
mixed_in state = []
mixed_in metrics = []
mixed_in position = []
mixed_in last_sent = []
mixed_in (error_part n) = []
mixed_in (next_step n queue) = []
mixed_in (page out) = []

-- of a list
unfoldable pub mixed_of : List HostCall → List M.Call
mixed_of [] = []
mixed_of (c ∷ cs) = mixed_in c ++ mixed_of cs

-- ---- the opening

-- `rufflesquash_open` and `rufflesquash_already_open`, not refused, with these words of settings; `before` are the run's words as they were lent
pub data Opened (settings words : List ℕ) : Beginning → Type 0 where
  by_open : (before : List ℕ) {slot : List ℕ} {publications : List (Bor (List ℕ))} {position start : ℕ} {out left : List ℕ} {written : ℕ}
      → (0, standing words, written, left) ≡ open_call before settings slot publications position start out
      → Opened settings words (opens slot publications (lsn position) (lsn start) out)
  already : (before : List ℕ) {start : ℕ} → (0, standing words) ≡ already_open_call before settings start → Opened settings words (is_open (lsn start))

-- what the host has before the first call
abbrev pub held_first : List ℕ → List ℕ → Held
held_first words payload = record { words = words; payload = payload; taken = 0 }
