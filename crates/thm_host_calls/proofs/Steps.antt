-- An advance makes the steps that the table names: all but the last have nothing to tell, by the run as by the table. And what the steps of a call tell
-- is what the trace says. Told takes both.
use mathlib.Core.Path.{◌≡◌, refl, sym, ap, ◌∙◌, subst}
use mathlib.Core.Bool.{Bool, true, false}
use mathlib.Core.List.{List, [], ◌∷◌, ◌++◌, append-nil}
use Prim.Native.Nat.{ℕ, zero, suc, ◌+◌, ◌-◌, ◌≤◌, ◌<◌}
use native.Mathlib.Omega.{arith}
use borrow.Author.Tests.{eqb-true}
use lib.ListN.{length}
use lib.IntN.{ℤ}
use lib.Dec.{eqb}
use Rattle.wire.specs.Bytes.{pick}
use Rattle.wire.proofs.Laws.{impossible}
use Rattle.lsn.specs.declared.Lsn.{Lsn}
use Rattle.worker.specs.declared.Input.{Input}
use Rattle.worker.specs.declared.Run.{Run}
use Rattle.worker.specs.Events as E
use Rattle.worker.specs.Step.{Lent, Outcome, step_of}
use Rattle.advance.specs.Advance.{lent_after}
use Rattle.advance.specs.Advance as A
use Rattle.advance.specs.Steps.{Quiet, Several, one, more}
use Rattle.thm_any_calls.specs.Tests.{both, onto}
use Rattle.thm_any_calls.specs.Happened.{Happened, happened_of}
use Rattle.thm_any_calls.specs.Trace.{Setup, Trace, Response, Writing, nothing, done, status, taken_by, handed_by, confirmed_of}
use Rattle.thm_any_calls.specs.Calls.{Call, step, Played, stepped, lent_to, play_one}
use Rattle.thm_any_calls.specs.Table.{response_of}
use Rattle.thm_any_calls.specs.Traced.{Answers, written_by, trace_one, trace_all}
use Rattle.thm_any_calls.proofs.Confirms.{length_update, length_done}
use Rattle.thm_any_calls.proofs.Preserved.{Preserved, step_next, step_preserved}
use Rattle.thm_host_calls.specs.Mixed.{steps_of}
use Rattle.thm_host_calls.specs.Told.{is_silent, is_empty, is_quiet, up_to, refused_by, waited_after, bytes_by, sent_by}
use Rattle.thm_host_calls.proofs.Mixed.{next_lent}

-- ---- nothing to tell, by the run and by the table

silent_is : (w : Writing) (p : Lsn) (time : ℤ) (out : List ℕ) (n : ℕ) (o : List ℕ) → (n, o) ≡ written_by w p time out → n ≡ 0 → is_silent w ≡ true
silent_is nothing p time out n o e z = refl
silent_is done p time out n o e z = let k : ◌≡◌ {A = ℕ} n 5 = ap (λ (x : ℕ × List ℕ). x.0) e in absurd (omega arith)
silent_is (status reply) p time out n o e z = let k : ◌≡◌ {A = ℕ} n 39 = ap (λ (x : ℕ × List ℕ). x.0) e in absurd (omega arith)

-- a step that writes nothing leaves the output
left_alone : (w : Writing) (p : Lsn) (time : ℤ) (out : List ℕ) → is_silent w ≡ true → written_by w p time out ≡ (0, out)
left_alone nothing p time out e = refl
left_alone done p time out e = impossible cc
left_alone (status reply) p time out e = impossible cc

is_empty_lem : (es : List Happened) → is_empty es ≡ true → es ≡ []
is_empty_lem [] e = refl
is_empty_lem (x ∷ es) e = impossible cc

-- an event that names nothing is none
no_event : (e : E.Said) (p : List ℕ) → happened_of e p ≡ [] → e ≡ E.nothing
no_event E.nothing p h = refl
no_event (E.keep_alive end time reply) p h = impossible (ap length (sym h))
no_event (E.begin final time xid) p h = impossible (ap length (sym h))
no_event (E.commit position end time) p h = impossible (ap length (sym h))
no_event (E.message flag position pf pl cf cl) p h = impossible (ap length (sym h))
no_event (E.xlog_data start end time from len) p h = impossible (ap length (sym h))
no_event (E.stopped_at reached) p h = impossible (ap length (sym h))

-- three tests that hold together
first_holds : (a b : Bool) → both a b ≡ true → a ≡ true
first_holds true b e = refl
first_holds false b e = e

second_holds : (a b : Bool) → both a b ≡ true → b ≡ true
second_holds true b e = e
second_holds false b e = impossible cc

module _ {s : Setup} {h : Trace} {i : Input} {l : Lent} {y : Response} {o : Outcome} (a : Answers s h i l y o) where
  quiet_told : Quiet o → is_quiet y ≡ true
  quiet_told q =
      let none : y.event ≡ [] = sym a.event ∙ ap (λ (e : E.Said). happened_of e o.payload) q.none_handed_on in
      let zero_told : y.refusal ≡ 0 = sym a.refusal ∙ q.none_refused in
      let silent : is_silent y.writing ≡ true = silent_is y.writing _ _ _ o.written o.out a.output q.none_written in
      rw (zero_told, silent, none) refl

  told_quiet : is_quiet y ≡ true → Quiet o
  told_quiet e =
      let rest : both (is_silent y.writing) (is_empty y.event) ≡ true = second_holds (eqb y.refusal 0) _ e in
      let silent : is_silent y.writing ≡ true = first_holds _ (is_empty y.event) rest in
      let empty : y.event ≡ [] = is_empty_lem y.event (second_holds (is_silent y.writing) _ rest) in
      let left = a.output ∙ left_alone y.writing (confirmed_of s.start h) i.client_time l.out silent in
      record {
        none_refused = a.refusal ∙ eqb-true y.refusal 0 (first_holds (eqb y.refusal 0) _ e);
        none_written = ap (λ (x : ℕ × List ℕ). x.0) left;
        none_handed_on = no_event o.event o.payload (a.event ∙ empty);
      }

  -- a quiet step leaves the output
  quiet_out : Quiet o → o.out ≡ l.out
  quiet_out q =
      ap (λ (x : ℕ × List ℕ). x.1)
      (a.output ∙ left_alone y.writing (confirmed_of s.start h) i.client_time l.out
      (silent_is y.writing _ _ _ o.written o.out a.output q.none_written))

-- ---- the steps of an advance

-- steps joined are quiet where the last one is
joined_quiet : (t : ℕ) (o : Outcome) → Quiet o → Quiet (A.after t o)
joined_quiet t o q = record { none_refused = q.none_refused; none_written = q.none_written; none_handed_on = q.none_handed_on }

module _ (s : Setup) where
  abbrev answers_at : (h : Trace) (z : Played) → Preserved s h z → (i : Input) (n : ℕ) (out : List ℕ)
      → Answers s h i (lent_to s.bytes z n out) (response_of s h i n (length out)) (step_of z.run i (lent_to s.bytes z n out))
  answers_at h z w i n out = (step_next s h z w i n out).answers

  no_more : (k : ℕ) (h : Trace) (z : Played) (w : Preserved s h z) (i : Input) (n : ℕ) (out : List ℕ)
      → (1 < suc k → Quiet (step_of z.run i (lent_to s.bytes z n out)) → ⊥) → (b : Bool) → is_quiet (response_of s h i n (length out)) ≡ b
      → (g : Trace) (m : ℕ) → pick {A = List Call} b (up_to k s g i m out) [] ≡ []
  unfolding up_to
  no_more zero h z w i n out f true e g m = refl
  no_more (suc k) h z w i n out f true e g m = absurd (f (omega arith) (told_quiet (answers_at h z w i n out) e))
  no_more k h z w i n out f false e g m = refl

  -- several steps of which each is lent what the one before it left are those that the table names
  pub steps_named : (k : ℕ) {c : ℕ} {r : Run} {i : Input} {l : Lent} {o : Outcome} (v : Several c r i l o) (h : Trace) (z : Played)
      → Preserved s h z → (n : ℕ) (out : List ℕ) → r ≡ z.run → l ≡ lent_to s.bytes z n out → c ≤ k → (c < k → Quiet o → ⊥)
      → steps_of v n out ≡ up_to k s h i n out
  unfolding steps_of up_to
  steps_named zero one h z w n out er el le f = absurd (omega arith)
  steps_named zero (more {n = c} q v) h z w n out er el le f = absurd (omega arith)
  steps_named (suc k) {r = r} {i = i} {l = l} one h z w n out er el le f =
      let e : step_of r i l ≡ step_of z.run i (lent_to s.bytes z n out) =
      ap (λ (x : Run). step_of x i l) er ∙ ap (step_of z.run i) el in
      let y : Response = response_of s h i n (length out) in
      ap (λ (cs : List Call). step i n out ∷ cs)
      (sym (no_more k h z w i n out (subst (λ (x : Outcome). 1 < suc k → Quiet x → ⊥) e f) (is_quiet y) refl _ _))
  steps_named (suc k) {r = r} {i = i} {l = l} (more {n = c} {o = p} q v) h z w n out er el le f =
      let t : Outcome = step_of r i l in
      let e : t ≡ step_of z.run i (lent_to s.bytes z n out) =
      ap (λ (x : Run). step_of x i l) er ∙ ap (step_of z.run i) el in
      let y : Response = response_of s h i n (length out) in
      let a = answers_at h z w i n out in
      let quiet : Quiet (step_of z.run i (lent_to s.bytes z n out)) = subst Quiet e q in
      let taken_is : t.taken ≡ y.taken = ap (λ (x : Outcome). x.taken) e ∙ a.taken in
      let out_is : t.out ≡ out = ap (λ (x : Outcome). x.out) e ∙ quiet_out a quiet in
      let next : lent_after l t ≡ lent_to s.bytes (stepped z i t) (n - t.taken) t.out =
      ap (λ (x : Lent). lent_after x t) el ∙ next_lent s.bytes z i n out t in
      let next' : lent_after l t ≡ lent_to s.bytes (play_one s.bytes z (step i n out)) (n - t.taken) t.out =
      next ∙ ap (λ (x : Outcome). lent_to s.bytes (stepped z i x) (n - t.taken) t.out) e in
      let rest : steps_of v (n - t.taken) t.out ≡ up_to k s (trace_one s h (step i n out)) i (n - t.taken) t.out =
      steps_named k v (trace_one s h (step i n out)) (play_one s.bytes z (step i n out)) (step_preserved s h z w i n out) (n - t.taken) t.out
      (ap (λ (x : Outcome). x.run) e) next' (omega arith) (λ b u. f (omega arith) (joined_quiet t.taken p u)) in
      let same : up_to k s (trace_one s h (step i n out)) i (n - t.taken) t.out ≡ up_to k s (trace_one s h (step i n out)) i (n - y.taken) out =
      ap (λ (m : ℕ). up_to k s (trace_one s h (step i n out)) i (n - m) t.out) taken_is
      ∙ ap (up_to k s (trace_one s h (step i n out)) i (n - y.taken)) out_is in
      ap (λ (cs : List Call). step i n out ∷ cs)
      (rest ∙ (same ∙ ap (λ (b : Bool). pick b (up_to k s (trace_one s h (step i n out)) i (n - y.taken) out) []) (sym (quiet_told a quiet))))

-- ---- what the steps of a call tell

-- the outcome o of steps that lead from the trace h to g, with an output
pub record Tells (s : Setup) (h g : Trace) (out : List ℕ) (o : Outcome) : Type 0 where
  pub sent : List ℕ
  pub refusal : o.refusal ≡ refused_by g
  pub taken : taken_by h + o.taken ≡ taken_by g
  pub waited : o.waited ≡ waited_after s g
  pub sent_now : sent_by s g ≡ sent_by s h ++ sent
  pub written : o.written ≡ length sent
  pub output : o.out ≡ onto sent out
  pub handed_now : handed_by g ≡ handed_by h ++ happened_of o.event o.payload

wrote : (w : Writing) (p : Lsn) (time : ℤ) (out : List ℕ) (n : ℕ) (o : List ℕ) → (n, o) ≡ written_by w p time out
    → (n ≡ length (bytes_by w p time)) × (o ≡ onto (bytes_by w p time) out)
wrote nothing p time out n o e = (ap (λ (x : ℕ × List ℕ). x.0) e, ap (λ (x : ℕ × List ℕ). x.1) e)
wrote done p time out n o e = (ap (λ (x : ℕ × List ℕ). x.0) e ∙ sym length_done, ap (λ (x : ℕ × List ℕ). x.1) e)
wrote (status reply) p time out n o e =
    (ap (λ (x : ℕ × List ℕ). x.0) e ∙ sym (length_update p.0 time reply), ap (λ (x : ℕ × List ℕ). x.1) e)

module _ (s : Setup) where
  pub one_tells : (h : Trace) (z : Played) → Preserved s h z → (i : Input) (n : ℕ) (out : List ℕ)
      → Tells s h (trace_one s h (step i n out)) out (step_of z.run i (lent_to s.bytes z n out))
  unfolding refused_by taken_by waited_after sent_by handed_by
  one_tells h z w i n out =
      let a = answers_at s h z w i n out in
      let y : Response = response_of s h i n (length out) in
      let v = wrote y.writing (confirmed_of s.start h) i.client_time out _ _ a.output in
      record {
        sent = bytes_by y.writing (confirmed_of s.start h) i.client_time;
        refusal = a.refusal;
        taken = ap (λ (k : ℕ). taken_by h + k) a.taken;
        waited = a.waited;
        sent_now = refl;
        written = v.0;
        output = v.1;
        handed_now = ap (λ (es : List Happened). handed_by h ++ es) (sym a.event);
      }

  -- a quiet step before others adds nothing but the bytes that it took
  quiet_then : (h : Trace) (i : Input) (n : ℕ) (out : List ℕ) (g : Trace) (t : ℕ) (o : Outcome) → is_quiet (response_of s h i n (length out)) ≡ true
      → (response_of s h i n (length out)).taken ≡ t → Tells s (trace_one s h (step i n out)) g out o → Tells s h g out (A.after t o)
  unfolding taken_by sent_by handed_by
  quiet_then h i n out g t o q e v =
      let y : Response = response_of s h i n (length out) in
      let rest : both (is_silent y.writing) (is_empty y.event) ≡ true = second_holds (eqb y.refusal 0) _ q in
      let none : bytes_by y.writing (confirmed_of s.start h) i.client_time ≡ [] = unsent y.writing (first_holds _ _ rest) in
      let empty : y.event ≡ [] = is_empty_lem y.event (second_holds (is_silent y.writing) _ rest) in
      record {
        sent = v.sent;
        refusal = v.refusal;
        taken = (let k : taken_by h + y.taken + o.taken ≡ taken_by g = v.taken in omega (arith, k, e));
        waited = v.waited;
        sent_now =
            v.sent_now
            ∙ ap (λ (b : List ℕ). b ++ v.sent) (ap (λ (b : List ℕ). sent_by s h ++ b) none ∙ append-nil (sent_by s h));
        written = v.written;
        output = v.output;
        handed_now =
            v.handed_now
            ∙ ap (λ (b : List Happened). b ++ happened_of o.event o.payload)
            (ap (λ (b : List Happened). handed_by h ++ b) empty ∙ append-nil (handed_by h));
      }
    where
      unsent : (w : Writing) → is_silent w ≡ true → bytes_by w (confirmed_of s.start h) i.client_time ≡ []
      unsent nothing e = refl
      unsent done e = impossible cc
      unsent (status reply) e = impossible cc

  pub several_tell : {c : ℕ} {r : Run} {i : Input} {l : Lent} {o : Outcome} (v : Several c r i l o) (h : Trace) (z : Played) → Preserved s h z
      → (n : ℕ) (out : List ℕ) → r ≡ z.run → l ≡ lent_to s.bytes z n out → Tells s h (trace_all s h (steps_of v n out)) out o
  unfolding steps_of trace_all
  several_tell {r = r} {i = i} {l = l} one h z w n out er el =
      let e : step_of r i l ≡ step_of z.run i (lent_to s.bytes z n out) =
      ap (λ (x : Run). step_of x i l) er ∙ ap (step_of z.run i) el in
      subst (Tells s h (trace_one s h (step i n out)) out) (sym e) (one_tells h z w i n out)
  several_tell {r = r} {i = i} {l = l} (more {o = p} q v) h z w n out er el =
      let t : Outcome = step_of r i l in
      let e : t ≡ step_of z.run i (lent_to s.bytes z n out) =
      ap (λ (x : Run). step_of x i l) er ∙ ap (step_of z.run i) el in
      let a = answers_at s h z w i n out in
      let quiet : Quiet (step_of z.run i (lent_to s.bytes z n out)) = subst Quiet e q in
      let out_is : t.out ≡ out = ap (λ (x : Outcome). x.out) e ∙ quiet_out a quiet in
      let next : lent_after l t ≡ lent_to s.bytes (play_one s.bytes z (step i n out)) (n - t.taken) t.out =
      ap (λ (x : Lent). lent_after x t) el ∙ next_lent s.bytes z i n out t
      ∙ ap (λ (x : Outcome). lent_to s.bytes (stepped z i x) (n - t.taken) t.out) e in
      let k = several_tell v (trace_one s h (step i n out)) (play_one s.bytes z (step i n out)) (step_preserved s h z w i n out) (n - t.taken) t.out
      (ap (λ (x : Outcome). x.run) e) next in
      quiet_then h i n out _ t.taken p (quiet_told a quiet) (sym (ap (λ (x : Outcome). x.taken) e ∙ a.taken))
      (subst (λ (b : List ℕ). Tells s (trace_one s h (step i n out)) (trace_all s (trace_one s h (step i n out)) (steps_of v (n - t.taken) t.out)) b p)
      out_is k)
