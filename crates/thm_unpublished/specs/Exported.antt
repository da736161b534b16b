-- The same of lists of exported calls, which is what a host in Rust or C makes, looks in between: the run's words and every answer, word by word, and
-- the service page. SCOPE 8.12, 8.8; 02, wish 14.
use Rattle.std.specs.Prelude.{◌≡◌, List, [], ◌∷◌, ℕ, length, get_or, take}
use Rattle.thm_any_calls.specs.Tests.{longest}
use Rattle.thm_any_calls.specs.Calls.{Beginning}
use Rattle.thm_host_calls.specs.HostWords.{word, Words, settings_by}
use Rattle.thm_host_calls.specs.Exported.{HostCall, Held, Reply, Called, CalledAll, Opened, held_first}
use Rattle.thm_host_calls.specs.Exported as X
use Rattle.thm_unpublished.specs.Alike.{Alike}
use Rattle.thm_unpublished.specs.Hidden.{DifferHidden}
use Rattle.thm_unpublished.specs.Unpublished.{AlikeBeginning}

-- ---- the same calls

-- a call that is made on both sides, with as many unread bytes and an output as long
pub data AlikeCall : HostCall → HostCall → Type 0 where
  step : {a : Words} {n : ℕ} {out out' : List ℕ} → length out ≡ length out' → AlikeCall (X.step a n out) (X.step a n out')
  advance : {a : Words} {n : ℕ} {out out' : List ℕ} → length out ≡ length out' → AlikeCall (X.advance a n out) (X.advance a n out')
  report : {file p m : ℕ} → AlikeCall (X.report file p m) (X.report file p m)
  report_each : {ps : List ℕ} {m : ℕ} → AlikeCall (X.report_each ps m) (X.report_each ps m)
  state : AlikeCall X.state X.state
  metrics : AlikeCall X.metrics X.metrics
  position : AlikeCall X.position X.position
  last_sent : AlikeCall X.last_sent X.last_sent
  error_part : {n : ℕ} → AlikeCall (X.error_part n) (X.error_part n)
  next_step : {n queue : ℕ} → AlikeCall (X.next_step n queue) (X.next_step n queue)
  page : {out out' : List ℕ} → length out ≡ length out' → AlikeCall (X.page out) (X.page out')

-- call by call
pub data AlikeHostCalls : List HostCall → List HostCall → Type 0 where
  none : AlikeHostCalls [] []
  next : {c d : HostCall} {cs ds : List HostCall} → AlikeCall c d → AlikeHostCalls cs ds → AlikeHostCalls (c ∷ cs) (d ∷ ds)

-- ---- the same replies

-- a call that writes, with the outputs that the two were lent: the same words, of which word k says how many bytes are for the server or for the
-- page, the same such bytes, and the output the same wherever it was
pub record Writes (out out' : List ℕ) (k : ℕ) (y y' : Reply) : Type 0 where
  pub count : word y.answer k ≡ word y'.answer k
  pub written : take (word y.answer k) y.out ≡ take (word y'.answer k) y'.out
  pub output : (j : ℕ) → get_or out j 0 ≡ get_or out' j 0 → get_or y.out j 0 ≡ get_or y'.out j 0

-- the output that a call is lent
abbrev pub output_of : HostCall → List ℕ
output_of (X.step a n out) = out
output_of (X.advance a n out) = out
output_of (X.report file p m) = []
output_of (X.report_each ps m) = []
output_of X.state = []
output_of X.metrics = []
output_of X.position = []
output_of X.last_sent = []
output_of (X.error_part n) = []
output_of (X.next_step n queue) = []
output_of (X.page out) = out

-- what the two replies have in common: every number and word that the call answers, and what it writes
abbrev pub RepliesAlike : HostCall → List ℕ → Reply → Reply → Type 0
RepliesAlike (X.step a n out) out' y y' = (y.answer ≡ y'.answer) × Writes out out' 2 y y'
RepliesAlike (X.advance a n out) out' y y' = (y.answer ≡ y'.answer) × Writes out out' 2 y y'
RepliesAlike (X.report file p m) out' y y' = y.result ≡ y'.result
RepliesAlike (X.report_each ps m) out' y y' = y.result ≡ y'.result
RepliesAlike X.state out' y y' = y.result ≡ y'.result
RepliesAlike X.metrics out' y y' = y.answer ≡ y'.answer
RepliesAlike X.position out' y y' = y.result ≡ y'.result
RepliesAlike X.last_sent out' y y' = y.answer ≡ y'.answer
RepliesAlike (X.error_part n) out' y y' = y.answer ≡ y'.answer
RepliesAlike (X.next_step n queue) out' y y' = y.answer ≡ y'.answer
RepliesAlike (X.page out) out' y y' = (y.result ≡ y'.result) × Writes out out' 0 y y'

-- what two hosts have after their calls over the server's bytes a and b: the same words and taken counts, payload buffers as long, the same reply to
-- whatever call comes next, and the same bytes of an error that is told
pub record HeldAlike (a b : List ℕ) (g g' : Held) : Type 0 where
  pub words : g.words ≡ g'.words
  pub taken : g.taken ≡ g'.taken
  pub buffer : length g.payload ≡ length g'.payload
  pub next : {c d : HostCall} → AlikeCall c d → (k k' : Held) (y y' : Reply) → Called a g c k y → Called b g' d k' y'
      → RepliesAlike c (output_of d) y y'
  pub error : (n : ℕ) (k k' : Held) (y y' : Reply) → Called a g (X.error_part n) k y → Called b g' (X.error_part n) k' y'
      → take (word y.answer 1) g.payload ≡ take (word y'.answer 1) g'.payload

-- ---- any list of exported calls

-- of the wider relation
abbrev pub ExportedAlike : Type 0
ExportedAlike =
    (settings words words' : List ℕ) (c d : Beginning) → Opened settings words c → Opened settings words' d → AlikeBeginning c d
    → (a b p q : List ℕ) → Alike (longest (settings_by settings).max_message_size) a b → length p ≡ length q
    → (cs ds : List HostCall) → AlikeHostCalls cs ds → (g g' : Held) → CalledAll a (held_first words p) cs g → CalledAll b (held_first words' q) ds g'
    → HeldAlike a b g g'

-- and of streams that differ in hidden places alone
abbrev pub ExportedIndistinct : Type 0
ExportedIndistinct =
    (settings words words' : List ℕ) (c d : Beginning) → Opened settings words c → Opened settings words' d → AlikeBeginning c d
    → (a b p q : List ℕ) → DifferHidden (longest (settings_by settings).max_message_size) a b → length p ≡ length q
    → (cs ds : List HostCall) → AlikeHostCalls cs ds → (g g' : Held) → CalledAll a (held_first words p) cs g → CalledAll b (held_first words' q) ds g'
    → HeldAlike a b g g'
