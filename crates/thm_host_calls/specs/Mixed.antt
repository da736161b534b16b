-- Lists that mix steps, advances and reports. An advance is one to four steps of the list, of which all but the last are quiet (`advance`, Steps). So
-- what condition 3 says of lists of steps and reports holds of mixed lists. SCOPE 5.10, 8.8.
use Rattle.std.specs.Prelude.{◌≡◌, List, [], ◌∷◌, ◌++◌, ℕ, ◌-◌}
use Rattle.lsn.specs.declared.Lsn.{Lsn}
use Rattle.moment.specs.declared.Moment.{Moment}
use Rattle.worker.specs.declared.Input.{Input}
use Rattle.worker.specs.declared.Run.{Run}
use Rattle.worker.specs.Step.{Outcome, Lent, step_of}
use Rattle.advance.specs.Advance.{advance_of}
use Rattle.advance.specs.Steps.{Several, one, more, UpTo}
use Rattle.thm_any_calls.specs.Calls.{Played, stepped, lent_to, play_one, play_all}
use Rattle.thm_any_calls.specs.Calls as C

-- a step or an advance with so many of the next untaken bytes unread and an output, or a report
pub data Call : Type 0 where
  step : Input → ℕ → List ℕ → Call
  advance : Input → ℕ → List ℕ → Call
  report : ℕ → Lsn → Moment → Call

-- one call more; of an advance one answer is seen, as of a step
abbrev pub mix_one : List ℕ → Played → Call → Played
mix_one bytes z (step i n out) = play_one bytes z (C.step i n out)
mix_one bytes z (advance i n out) = stepped z i (advance_of z.run i (lent_to bytes z n out))
mix_one bytes z (report file p m) = play_one bytes z (C.report file p m)

-- call after call
unfoldable pub mix_all : List ℕ → Played → List Call → Played
mix_all bytes z [] = z
mix_all bytes z (c ∷ cs) = mix_all bytes (mix_one bytes z c) cs

-- ---- a mixed list as steps and reports

-- the steps of an advance as calls of a list: each has the unread bytes and the output that the one before it left
unfoldable pub steps_of : {k : ℕ} {r : Run} {i : Input} {l : Lent} {o : Outcome} → Several k r i l o → ℕ → List ℕ → List C.Call
steps_of {i = i} one n out = C.step i n out ∷ []
steps_of {r = r} {i = i} {l = l} (more q s) n out = C.step i n out ∷ steps_of s (n - (step_of r i l).taken) (step_of r i l).out

-- from what calls have left on, the mixed list is this list of steps and reports
pub data Unrolls (bytes : List ℕ) : Played → List Call → List C.Call → Type 0 where
  none : {z : Played} → Unrolls bytes z [] []
  steps : {z : Played} {i : Input} {n : ℕ} {out : List ℕ} {cs : List Call} {ds : List C.Call}
      → Unrolls bytes (play_one bytes z (C.step i n out)) cs ds → Unrolls bytes z (step i n out ∷ cs) (C.step i n out ∷ ds)
  reports : {z : Played} {file : ℕ} {p : Lsn} {m : Moment} {cs : List Call} {ds : List C.Call}
      → Unrolls bytes (play_one bytes z (C.report file p m)) cs ds → Unrolls bytes z (report file p m ∷ cs) (C.report file p m ∷ ds)
  advances : {z : Played} {i : Input} {n : ℕ} {out : List ℕ} {cs : List Call} {ds : List C.Call}
      → (u : UpTo 4 z.run i (lent_to bytes z n out) (advance_of z.run i (lent_to bytes z n out)))
      → Unrolls bytes (play_all bytes z (steps_of u.steps n out)) cs ds
      → Unrolls bytes z (advance i n out ∷ cs) (steps_of u.steps n out ++ ds)

-- what was written, one piece after the other
unfoldable pub joined : List (List ℕ) → List ℕ
joined [] = []
joined (s ∷ ss) = s ++ joined ss

-- the same run, payload buffer, number of bytes taken, events handed on and bytes for the server
pub record Same (z y : Played) : Type 0 where
  pub run : z.run ≡ y.run
  pub payload : z.payload ≡ y.payload
  pub taken : z.taken ≡ y.taken
  pub events : z.events ≡ y.events
  pub written : joined z.written ≡ joined y.written

-- a list of steps and reports that leaves what a mixed list leaves
pub record AsSteps (bytes : List ℕ) (z : Played) (cs : List Call) : Type 0 where
  pub calls : List C.Call
  pub unrolls : Unrolls bytes z cs calls
  pub same : Same (mix_all bytes z cs) (play_all bytes z calls)

-- so is every list, from anything that calls left
abbrev pub MixedIsSteps : Type 0
MixedIsSteps = (bytes : List ℕ) (z : Played) (cs : List Call) → AsSteps bytes z cs
