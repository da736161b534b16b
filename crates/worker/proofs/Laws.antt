-- Laws of the definitions in specs/: what the writers leave where the output has room.
use Rattle.std.proofs.Common.{◌≡◌, ℕ, ◌≤◌, min, Bool, true, false, ltb, List, [], length, take, ℤ, sym, ap, ◌∙◌, arith, take_all, ltb-false, ltb-true, le-ltb}
use Rattle.std.specs.Prelude.{Result, Err, IsErrAnd}
use Rattle.std.proofs.lemmas.Result.{err_from_is_err_and}
use lib.Seq.{take-length}
use Rattle.wire.proofs.Laws.{by_test}
use Rattle.wire.specs.Bytes.{pick, put}
use Rattle.error.specs.Writer.{writing}
use Rattle.progress.specs.Progress.{cell_signal}
use Rattle.frontend.specs.Frontend.{status_body, status_update, copy_done_message, copy_data}
use Rattle.frontend.proofs.Laws.{length_framed, length_status}
use Rattle.error.specs.Refusal.{number_of}
use Rattle.error.specs.declared.Refusal.{Refusal}
use Rattle.worker.specs.declared.DataEvent.{DataEvent}
use Rattle.worker.specs.Events.{Given, refused, given_by}
use Rattle.worker.specs.Step.{Outcome, Lent, having, interval_passed, is_readable, waiting_read, waiting_of}
use Rattle.worker.specs.declared.Run.{Run}
use Rattle.worker.specs.Run.{cell_in}
use Rattle.worker.specs.declared.Input.{Input}

written_out : (text out q : List ℕ) (r : ℕ × ℕ) → length text ≤ length out → (r, q) ≡ writing 0 text out → q ≡ put out 0 text
unfolding writing
written_out text out q r h e = ap (λ (x : (ℕ × ℕ) × List ℕ). x.1) (simp (le-ltb _ _ h) at e)

length_done : length copy_done_message ≡ 5
unfolding copy_done_message
length_done = length_framed 99 []

length_update : (p : ℕ) (t : ℤ) (r : Bool) → length (status_update p t r) ≡ 39
unfolding status_update copy_data
length_update p t r = let l = length_framed 100 (status_body p t r) in omega (arith, length_status p t r)

pub done_written : (out q : List ℕ) (r : ℕ × ℕ) → 39 ≤ length out → (r, q) ≡ writing 0 copy_done_message out → q ≡ put out 0 copy_done_message
done_written out q r h e = written_out copy_done_message out q r (omega (arith, length_done)) e

pub status_written : (p : ℕ) (t : ℤ) (b : Bool) (out q : List ℕ) (r : ℕ × ℕ) → 39 ≤ length out → (r, q) ≡ writing 0 (status_update p t b) out
    → q ≡ put out 0 (status_update p t b)
status_written p t b out q r h e = written_out (status_update p t b) out q r (omega (arith, length_update p t b)) e

-- equal outcomes with the same bytes taken and the same payload buffer
pub having_same : (k : ℕ) (p : List ℕ) {a b : Outcome} → a ≡ b → having k p a ≡ having k p b
having_same k p e = ap (λ (x : Outcome). having k p x) e

-- the fourth of five by four tests; over variables, since rewriting in the definition itself takes too long
fourth : {A : Type 0} (a b c d : Bool) (v w x y z : A) → a ≡ false → b ≡ false → c ≡ false → d ≡ true
    → pick a v (pick b w (pick c x (pick d y z))) ≡ y
fourth a b c d v w x y z p q r s = rw (p, q, r, s)

-- a wait that reads: the tests before the read fail
pub waiting_reads : (r : Run) (i : Input) (l : Lent) → i.stop ≡ false → pick r.pending (interval_passed r) false ≡ false
    → pick r.pending false (cell_signal (cell_in r)) ≡ false → is_readable i l ≡ true → waiting_of r i l ≡ waiting_read r i l
unfolding waiting_of
waiting_reads r i l p q s t = fourth _ _ _ _ _ _ _ _ _ p q s t

-- a refusal that is handed on gives what it gave
pub handed_on : {x : Given} (r : Result DataEvent Refusal) (e : Refusal) → IsErrAnd r (λ y. y ≡ e) → refused (number_of e) ≡ x → given_by r ≡ x
handed_on r e h p = let q = err_from_is_err_and r h in ap given_by (q.1 ∙ ap Err q.2) ∙ p

-- ---- parts of a payload

pub take_least : (n : ℕ) (s : List ℕ) → take (min n (length s)) s ≡ take n s
take_least n s =
    by_test (ltb n (length s))
    (λ h. let l = ltb-true n (length s) h in let e : min n (length s) ≡ n = omega arith in rw e)
    (λ h.
    let l = ltb-false n (length s) h in
    let e : min n (length s) ≡ length s = omega arith in
    rw e (take-length s ∙ sym (take_all n s l)))
