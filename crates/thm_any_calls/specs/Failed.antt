-- Condition 3, errors of the server: after a step that is refused with 19, in Opening too, `error_part` names the payload of the last whole
-- message, which stands at the front of the payload buffer, whatever calls follow. SCOPE 5.8, 8.9; 01, "Where each call turns back", 19.
use Rattle.std.specs.Prelude.{◌≡◌, true, List, ◌∷◌, ◌++◌, ℕ, ◌+◌, length, take}
use Rattle.std.proofs.Math.Option.{some}
use Rattle.worker.specs.declared.Input.{Input}
use Rattle.worker.specs.declared.Run.{Run}
use Rattle.worker.specs.declared.Settings.{Settings}
use Rattle.worker.specs.Answer.{error_part_of}
use Rattle.thm_any_calls.specs.Trace.{Setup, Trace, Response, taken_by}
use Rattle.thm_any_calls.specs.Calls.{Beginning, Call, step, Played, played, setup_of}
use Rattle.thm_any_calls.specs.Table.{limit_by, last_message, response_of}
use Rattle.thm_any_calls.specs.Traced.{trace_of}
use Rattle.thm_any_calls.specs.Views.{has_failed}

-- a run with this payload buffer shows a message's payload
pub record Shows (payload : List ℕ) (r : Run) (p : List ℕ) : Type 0 where
  pub part : error_part_of r ≡ some (length payload)
  pub bytes : take (length payload) p ≡ payload

-- after any list of calls, a step to which the table responds with 19, and any calls after it
abbrev pub ErrorShown : Type 0
ErrorShown =
    (s : Settings) (b : Beginning) (bytes payload : List ℕ) (cs : List Call) (i : Input) (n : ℕ) (out : List ℕ) (ds : List Call)
    → let x : Setup = setup_of s b bytes (length payload) in
    let h : Trace = trace_of x cs in
    let y : Response = response_of x h i n (length out) in
    let z : Played = played s b bytes payload (cs ++ (step i n out ∷ ds)) in
    y.refusal ≡ 19 → Shows (last_message (limit_by x) (take (taken_by h + y.taken) bytes)).1 z.run z.payload

-- so after any list in which a step was refused with 19: no byte is taken from then on
abbrev pub ErrorTraced : Type 0
ErrorTraced =
    (s : Settings) (b : Beginning) (bytes payload : List ℕ) (cs : List Call)
    → let x : Setup = setup_of s b bytes (length payload) in
    let h : Trace = trace_of x cs in
    let z : Played = played s b bytes payload cs in
    has_failed h ≡ true → Shows (last_message (limit_by x) (take (taken_by h) bytes)).1 z.run z.payload
