-- No file's reports pass the ledger's answer, no answer falls, and no file lies behind a confirmation.
use mathlib.Core.Path.{◌≡◌, refl, subst, ◌∙◌}
use mathlib.Core.List.{List, [], ◌∷◌}
use Prim.Native.Nat.{ℕ, ◌≤◌, ◌<◌}
use native.Mathlib.Omega.{arith}
use lib.ListN.{length}
use lib.Dec.{eqb, ltb}
use borrow.Author.Tests.{eqb-true}
use Rattle.wire.proofs.Laws.{by_test}
use Rattle.lsn.specs.declared.Lsn.{Lsn}
use Rattle.worker.specs.declared.Run.{Run}
use Rattle.worker.specs.Step.{step_of}
use Rattle.worker.specs.Session.{report_of}
use Rattle.thm_any_calls.specs.Calls.{start_of, run_begun}
use Rattle.thm_any_calls.specs.Confirms.{AnyCall, Reached, reached_with, NotAbove, NoneBehind}
use Rattle.thm_any_calls.specs.Confirms as any
use Rattle.thm_any_calls.proofs.Confirms.{no_file_behind}
use Rattle.touched.specs.Touched.{entries_of}
use Rattle.ledger.specs.declared.Ledger.{Ledger}
use Rattle.ledger.specs.Ledger.{cap_of}
use Rattle.ledger.specs.History.{Call, History, start_in, seen_in, stable_in, answer_in}
use Rattle.ledger.specs.Stands.{call_on, answers_in, mark_after, history_after, Stands, Called}
use Rattle.ledger.specs.Laws.{Accepted, Within}
use Rattle.ledger.proofs.OneCall.{one_call, asked}
use Rattle.ledger.proofs.Laws.{answer_laws, accepted_after}
use Rattle.thm_confirmed.specs.Confirmed.{BothCall, step, report, ledger, Allowed, NothingLost, NoneLost, NothingIsLost}

-- the calls of the run among them
abbrev run_calls : List BothCall → List AnyCall
run_calls [] = []
run_calls (step i t ∷ cs) = any.step i t ∷ run_calls cs
run_calls (report f q m ∷ cs) = any.report f q m ∷ run_calls cs
run_calls (ledger c ∷ cs) = run_calls cs

-- what each file has reached is at most its answer
abbrev Kept : ℕ → List (ℕ × ℕ) → History → Reached → Type 0
Kept p es h reached = (f : ℕ) → f ≤ 3 → reached f ≤ answer_in p es f h

stable_below : (p : ℕ) (h : History) (x q : ℕ) → start_in p h < x → seen_in h < x → q ≤ stable_in p h → q < x
unfolding stable_in
stable_below p h x q s t o = omega arith

position_done : (p cap : ℕ) (es : List (ℕ × ℕ)) (h : History) → Accepted p es cap h → (reached : Reached) → Kept p es h reached
    → (q : ℕ) → ((f : ℕ) → f ≤ 3 → q ≤ reached f) → NothingLost p es h q
position_done p cap es h a reached k q n =
    record {
      done = λ e f i u b l s o. let x = k f u in let y = n f u in answer_laws.done_before p cap f es h e a i b s l (omega arith);
      to_come = λ x s t.
          let y = n 0 (omega arith) in
          let z = k 0 (omega arith) in
          let w = answer_laws.at_most_stable p 0 es h in
          stable_below p h x q s t (omega arith);
    }

reports_kept : (p : ℕ) (es : List (ℕ × ℕ)) (h : History) (reached : Reached) (f : ℕ) (q : Lsn) → Kept p es h reached
    → (f ≤ 3 → q.0 ≤ answer_in p es f h) → Kept p es h (reached_with reached f q)
reports_kept p es h reached f q k o g u =
    by_test (ltb 3 f) (λ t. rw t (k g u))
    (λ t. by_test (eqb f g)
    (λ i. let e : f ≡ g = eqb-true f g i in
    let v : f ≤ 3 = omega arith in
    let x : q.0 ≤ answer_in p es g h = subst (λ (j : ℕ). q.0 ≤ answer_in p es j h) e (o v) in
    let y = k g u in
    rw (t, i) (omega arith))
    (λ i. rw (t, i) (k g u)))

calls_kept : (p : ℕ) (es : List (ℕ × ℕ)) (h : History) (reached : Reached) (c : Call) (r : ℕ) → Within c → Kept p es h reached
    → Kept p es (history_after r c h) reached
calls_kept p es h reached c r w k g u =
    by_test (eqb r 0) (λ t. rw t (let x = k g u in let y = answer_laws.never_falls p g es c h w in omega arith)) (λ t. rw t (k g u))

module _ (p n : ℕ) (ids fs : List ℕ) where
  abbrev es : List (ℕ × ℕ)
  es = entries_of ids fs

  none_lost : (cs : List BothCall) (mark : ℕ) (h : History) (l : Ledger) (ring : List ℕ) (r : Run) (reached : Reached) → length ring ≡ n
      → Stands p es mark h l ring → Accepted p es (cap_of n) h → Kept p es h reached → Allowed ids fs l ring cs
      → NoneBehind reached r (run_calls cs) → NoneLost p es (cap_of n) mark h r cs
  none_lost [] mark h l ring r reached e st a k o b = tt
  none_lost (step i t ∷ cs) mark h l ring r reached e st a k o b = (
    λ x y. (
      position_done p (cap_of n) es h a reached k x.written (λ f u. (b.0 f u x y).0),
      position_done p (cap_of n) es h a reached k x.flushed (λ f u. (b.0 f u x y).1),
      position_done p (cap_of n) es h a reached k x.applied (λ f u. (b.0 f u x y).2),
    ),
    none_lost cs mark h l ring (step_of r i t).run reached e st a k o b.1,
  )
  none_lost (report f q m ∷ cs) mark h l ring r reached e st a k o b =
      none_lost cs mark h l ring (report_of r f q m).1 (reached_with reached f q) e st a
      (reports_kept p es h reached f q k (λ u. subst (λ (x : ℕ × ℕ). q.0 ≤ x.1) (asked.answer p mark es h l ring f st u) (o.0 u))) o.1 b
  none_lost (ledger c ∷ cs) mark h l ring r reached e st a k o b =
      let v : ℕ = answers_in p es (cap_of n) mark c h in
      let g : Called p es mark h c ring v (call_on ids fs c l ring) =
      subst (λ (x : ℕ). Called p es mark h c ring (answers_in p es (cap_of x) mark c h) (call_on ids fs c l ring)) e
      (one_call p mark ids fs h c l ring st) in
      none_lost cs (mark_after mark c v) (history_after v c h) (call_on ids fs c l ring).1 (call_on ids fs c l ring).2 r reached (g.memory ∙ e)
      g.stands (accepted_after p (cap_of n) mark es c h a) (calls_kept p es h reached c v o.0 k) o.1 b

pub nothing_lost : NothingIsLost
nothing_lost s b p ids fs h l ring cs begin allowed =
    none_lost p (length ring) ids fs cs 0 h l ring (run_begun s b) (λ (n : ℕ). (start_of b).0) refl begin.stands begin.accepted
    (λ f u. subst (λ (x : ℕ). x ≤ answer_in p (entries_of ids fs) f h) begin.start (answer_laws.at_least_start p f (entries_of ids fs) h)) allowed
    (no_file_behind s b (run_calls cs))
