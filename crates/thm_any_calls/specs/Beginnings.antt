-- Condition 3, beginnings: what `open` and `already_open` answer, from their arguments. The runs that they make are the subject of the other
-- parts. SCOPE 5.2, 5.3 and 8.1; 01, "Events and confirmations" and "Where each call turns back".
use Rattle.std.specs.Prelude.{◌≡◌, List, [], ◌∷◌, Bool, ℕ, ◌+◌, length, ltb}
use Rattle.std.specs.Borrow.{Bor}
use Rattle.frontend.specs.Frontend.{query}
use Rattle.lsn.specs.declared.Lsn.{Lsn}
use Rattle.request.specs.Request.{start_replication}
use Rattle.worker.specs.declared.Settings.{Settings}
use Rattle.worker.specs.Session.{open_of, already_open_of}
use Rattle.thm_any_calls.specs.Tests.{◌⇒◌, first_of, onto}

-- an interval has at most a day, in nanoseconds
abbrev pub over_aday : ℕ → Bool
over_aday interval = ltb 86400000000000 interval

-- the bytes of all names together
unfoldable pub bytes_in : List (Bor (List ℕ)) → ℕ
bytes_in [] = 0
bytes_in (n ∷ ns) = length n.now + bytes_in ns

-- `open`: 1 for either interval, 25, 4, each with the output as it was; else the query that names the slot, the publications and the query position
abbrev pub open_answer : Settings → List ℕ → List (Bor (List ℕ)) → Lsn → List ℕ → (ℕ × ℕ) × List ℕ
open_answer s slot publications position out =
    let text : List ℕ = query (start_replication s.binary slot publications position) in
    first_of
    ((over_aday s.status_interval ⇒ ((1, 0), out))
    ∷ (over_aday s.idle_wakeup_interval ⇒ ((1, 0), out))
    ∷ (ltb 1048576 (length slot + bytes_in publications) ⇒ ((25, 0), out))
    ∷ (ltb (length out) (length text) ⇒ ((4, 0), out))
    ∷ [])
    ((0, length text), onto text out)

-- `already_open`: 1 alone
abbrev pub opened_answer : Settings → ℕ
opened_answer s = first_of ((over_aday s.status_interval ⇒ 1) ∷ (over_aday s.idle_wakeup_interval ⇒ 1) ∷ []) 0

-- refusal and bytes written with the whole output; refusal alone
pub record BeginningsAnswer : Type 0 where
  pub opens : (s : Settings) (slot : List ℕ) (publications : List (Bor (List ℕ))) (position start : Lsn) (out : List ℕ)
      → ((open_of s slot publications position start out).outcome, (open_of s slot publications position start out).out)
      ≡ open_answer s slot publications position out
  pub is_open : (s : Settings) (start : Lsn) → (already_open_of s start).0 ≡ opened_answer s
