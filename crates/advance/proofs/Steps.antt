-- Steps made together are steps one after another.
use Rattle.std.proofs.Common.{◌≡◌, ℕ, ◌+◌, ◌<◌, true, false, eqb, ltb, List, drop, sym, refl, ap, ◌∙◌, arith, drop-drop, ltb-false, ltb-true, eq-eqb, eqb-true}
use Rattle.wire.proofs.Laws.{by_test, impossible}
use Rattle.worker.specs.declared.Input.{Input}
use Rattle.worker.specs.declared.Run.{Run}
use Rattle.worker.specs.Answer.{lent}
use Rattle.worker.specs.Events as E
use Rattle.worker.specs.Step.{Lent, Outcome, step_of}
use Rattle.advance.specs.Advance.{is_nothing, tells, lent_after, after, twice}
use Rattle.advance.specs.Steps.{Quiet, Several, one, more, UpTo, AdvanceIsSteps}

-- ---- quiet is to tell nothing

nothing_is : (e : E.Said) → is_nothing e ≡ true → e ≡ E.nothing
nothing_is E.nothing h = refl
nothing_is (E.keep_alive end time reply) h = impossible cc
nothing_is (E.begin final time xid) h = impossible cc
nothing_is (E.commit position end time) h = impossible cc
nothing_is (E.message flag position pf pl cf cl) h = impossible cc
nothing_is (E.xlog_data start end time from len) h = impossible cc
nothing_is (E.stopped_at reached) h = impossible cc

quiet : (o : Outcome) → tells o ≡ false → Quiet o
quiet o h =
    by_test (eqb o.refusal 0)
    (λ a. by_test (eqb o.written 0)
    (λ b. by_test (is_nothing o.event)
    (λ c. record { none_refused = eqb-true _ _ a; none_written = eqb-true _ _ b; none_handed_on = nothing_is o.event c })
    (λ c. let z : true ≡ false = rw (a, b, c) at h in impossible cc))
    (λ b. let z : true ≡ false = rw (a, b) at h in impossible cc))
    (λ a. let z : true ≡ false = rw a at h in impossible cc)

tells_nothing : (o : Outcome) → Quiet o → tells o ≡ false
tells_nothing o q = rw (eq-eqb o.refusal 0 q.none_refused, eq-eqb o.written 0 q.none_written, q.none_handed_on)

-- ---- one after another

-- what is lent after two steps, and what both took
lent_twice : (l : Lent) (k : ℕ) (o : Outcome) (x : Outcome) → x.taken ≡ k → lent_after (lent_after l x) o ≡ lent_after l (after k o)
lent_twice l k o x e = ap (λ (v : List ℕ). lent v o.payload o.out) (ap (λ (n : ℕ). drop o.taken (drop n l.unread)) e ∙ drop-drop o.taken k l.unread)

after_twice : (k n : ℕ) (o : Outcome) → after k (after n o) ≡ after (k + n) o
after_twice k n o = ap (λ (t : ℕ). record { run = o.run; refusal = o.refusal; taken = t; event = o.event; written = o.written; waited = o.waited; payload = o.payload; out = o.out }) (omega arith)

joined : {m n : ℕ} {r : Run} {i : Input} {l : Lent} {x y : Outcome} → Several m r i l x → Quiet x → Several n x.run i (lent_after l x) y
    → Several (m + n) r i l (after x.taken y)
joined one q s = more q s
joined {m} {n} {r} {i} {l} {x} {y} (more {n = k} {o = o} p t) q s =
    let first : Outcome = step_of r i l in
    let v : lent_after l (after first.taken o) ≡ lent_after (lent_after l first) o = sym (lent_twice l first.taken o first refl) in
    let s2 : Several n o.run i (lent_after (lent_after l first) o) y = rw v at s in
    let q2 : Quiet o = record { none_refused = q.none_refused; none_written = q.none_written; none_handed_on = q.none_handed_on } in
    let z : Several (1 + (k + n)) r i l (after first.taken (after o.taken y)) = more p (joined t q2 s2) in
    let e : 1 + (k + n) ≡ 1 + k + n = omega arith in
    let w : after first.taken (after o.taken y) ≡ after (first.taken + o.taken) y = after_twice first.taken o.taken y in
    rw e at (rw w at z)

doubled : (f : Run → Input → Lent → Outcome) (n : ℕ) → ((r : Run) (i : Input) (l : Lent) → UpTo n r i l (f r i l))
    → (r : Run) (i : Input) (l : Lent) → UpTo (n + n) r i l (twice f r i l)
unfolding twice
doubled f n h r i l =
    let x : Outcome = f r i l in
    let a : UpTo n r i l x = h r i l in
    let b : UpTo n x.run i (lent_after l x) (f x.run i (lent_after l x)) = h x.run i (lent_after l x) in
    let la = a.at_least in
    let ma = a.at_most in
    let lb = b.at_least in
    let mb = b.at_most in
    by_test (tells (f r i l))
    (λ t. rw t
    (record {
      count = a.count;
      at_least = la;
      at_most = omega arith;
      steps = a.steps;
      not_fewer = λ k q. let z : true ≡ false = sym t ∙ tells_nothing (f r i l) q in impossible cc;
    }))
    (λ t. rw t
    (record {
      count = a.count + b.count;
      at_least = omega arith;
      at_most = omega arith;
      steps = joined a.steps (quiet (f r i l) t) b.steps;
      not_fewer = λ k q.
          let all : a.count < n → ⊥ = λ j. a.not_fewer j (quiet (f r i l) t) in
          by_test (ltb a.count n)
          (λ j. all (ltb-true _ _ j))
          (λ j.
          let m = ltb-false a.count n j in
          let q2 : Quiet (f x.run i (lent_after l x)) = record { none_refused = q.none_refused; none_written = q.none_written; none_handed_on = q.none_handed_on } in
          b.not_fewer (omega arith) q2);
    }))

single : (r : Run) (i : Input) (l : Lent) → UpTo 1 r i l (step_of r i l)
single r i l = record { count = 1; at_least = omega arith; at_most = omega arith; steps = one; not_fewer = λ k q. omega arith }

pub advance_is_steps : AdvanceIsSteps
advance_is_steps r i l = doubled (twice step_of) 2 (doubled step_of 1 single) r i l
