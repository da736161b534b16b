-- A mixed list leaves what its steps and reports leave: each step of an advance is held against a step of the list.
use mathlib.Core.Path.{◌≡◌, refl, sym, ap, subst, ◌∙◌}
use mathlib.Core.List.{List, [], ◌∷◌, ◌++◌, append_assoc, append-nil}
use Prim.Native.Nat.{ℕ, zero, suc, ◌+◌, ◌-◌}
use native.Mathlib.Nat.{add_assoc}
use native.Mathlib.Omega.{arith}
use lib.ListN.{take, drop}
use lib.Seq.{drop-drop, take-nil}
use Rattle.lsn.specs.declared.Lsn.{Lsn}
use Rattle.moment.specs.declared.Moment.{Moment}
use Rattle.worker.specs.declared.Input.{Input}
use Rattle.worker.specs.declared.Run.{Run}
use Rattle.worker.specs.Answer.{lent}
use Rattle.worker.specs.Events as E
use Rattle.worker.specs.Session.{report_of}
use Rattle.worker.specs.Step.{Lent, Outcome, step_of}
use Rattle.advance.specs.Advance.{lent_after, after, advance_of}
use Rattle.advance.specs.Steps.{Quiet, Several, one, more}
use Rattle.advance.proofs.Steps.{advance_is_steps}
use Rattle.thm_any_calls.specs.Happened.{Happened, happened_of}
use Rattle.thm_any_calls.specs.Calls.{Played, stepped, lent_to, play_one, play_all}
use Rattle.thm_any_calls.specs.Calls as C
use Rattle.thm_host_calls.specs.Mixed.{Call, step, advance, report, mix_all, steps_of, Unrolls, none, steps, reports, advances, joined, Same, MixedIsSteps}

-- ---- lists

pub joined_append : (a b : List (List ℕ)) → joined (a ++ b) ≡ joined a ++ joined b
unfolding joined
joined_append [] b = refl
joined_append (s ∷ a) b = ap (λ (x : List ℕ). s ++ x) (joined_append a b) ∙ sym (append_assoc s (joined a) (joined b))

pub joined_one : (a : List (List ℕ)) (s : List ℕ) → joined (a ++ (s ∷ [])) ≡ joined a ++ s
unfolding joined
joined_one a s = joined_append a (s ∷ []) ∙ ap (λ (x : List ℕ). joined a ++ x) (append-nil s)

pub play_append : (bytes : List ℕ) (z : Played) (cs ds : List C.Call) → play_all bytes z (cs ++ ds) ≡ play_all bytes (play_all bytes z cs) ds
unfolding play_all
play_append bytes z [] ds = refl
play_append bytes z (c ∷ cs) ds = play_append bytes (play_one bytes z c) cs ds

-- of n bytes t were taken: what is left of them
left_of : (n t : ℕ) (s : List ℕ) → drop t (take n s) ≡ take (n - t) (drop t s)
left_of n zero s = let e : n ≡ n - 0 = omega arith in ap (λ (m : ℕ). take m s) e
left_of zero (suc t) s = let e : 0 ≡ 0 - suc t = omega arith in ap (λ (m : ℕ). take m (drop (suc t) s)) e
left_of (suc n) (suc t) [] = sym (take-nil (suc n - suc t))
left_of (suc n) (suc t) (x ∷ s) = let e : n - t ≡ suc n - suc t = omega arith in left_of n t s ∙ ap (λ (m : ℕ). take m (drop t s)) e

-- ---- what is the same

same_as : (z : Played) → Same z z
same_as z = record { run = refl; payload = refl; taken = refl; events = refl; written = refl }

then : {x y z : Played} → Same x y → Same y z → Same x z
then a b =
    record {
      run = a.run ∙ b.run;
      payload = a.payload ∙ b.payload;
      taken = a.taken ∙ b.taken;
      events = a.events ∙ b.events;
      written = a.written ∙ b.written;
    }

-- a quiet step, and what follows it, seen as one
quiet_step : (z : Played) (i : Input) (o p : Outcome) → Quiet o → Same (stepped z i (after o.taken p)) (stepped (stepped z i o) i p)
quiet_step z i o p q =
    let w : List ℕ = take p.written p.out in
    let quiet_event : happened_of o.event o.payload ≡ [] = ap (λ (x : E.Said). happened_of x o.payload) q.none_handed_on in
    let quiet_bytes : take o.written o.out ≡ [] = ap (λ (x : ℕ). take x o.out) q.none_written in
    record {
      run = refl;
      payload = refl;
      taken = sym (add_assoc z.taken o.taken p.taken);
      events =
          ap (λ (x : List Happened). x ++ happened_of p.event p.payload)
          (sym (ap (λ (x : List Happened). z.events ++ x) quiet_event ∙ append-nil z.events));
      written =
          joined_one z.written w
          ∙ sym (joined_one (z.written ++ (take o.written o.out ∷ [])) w
          ∙ ap (λ (x : List ℕ). x ++ w)
          (joined_one z.written (take o.written o.out) ∙ ap (λ (x : List ℕ). joined z.written ++ x) quiet_bytes ∙ append-nil (joined z.written)));
    }

-- the next step of the list is lent what the next step of an advance is
pub next_lent : (bytes : List ℕ) (z : Played) (i : Input) (n : ℕ) (out : List ℕ) (o : Outcome)
    → lent_after (lent_to bytes z n out) o ≡ lent_to bytes (stepped z i o) (n - o.taken) o.out
next_lent bytes z i n out o =
    ap (λ (u : List ℕ). lent u o.payload o.out)
    (left_of n o.taken (drop z.taken bytes) ∙ ap (take (n - o.taken)) (drop-drop o.taken z.taken bytes))

same_at : {x y z : Played} → y ≡ z → Same x y → Same x z
same_at {x} e a = subst (λ (w : Played). Same x w) e a

-- steps that are made together leave what they leave as calls of the list
pub together : (bytes : List ℕ) (z : Played) (n : ℕ) (out : List ℕ) {k : ℕ} {r : Run} {i : Input} {l : Lent} {o : Outcome} (s : Several k r i l o)
    → r ≡ z.run → l ≡ lent_to bytes z n out → Same (stepped z i o) (play_all bytes z (steps_of s n out))
unfolding steps_of play_all
together bytes z n out {r = r} {i = i} {l = l} one er el =
    same_at (ap (stepped z i) (ap (λ (x : Run). step_of x i l) er ∙ ap (step_of z.run i) el)) (same_as (stepped z i (step_of r i l)))
together bytes z n out {r = r} {i = i} {l = l} (more {o = p} q s) er el =
    let t : Outcome = step_of r i l in
    let e : t ≡ step_of z.run i (lent_to bytes z n out) = ap (λ (x : Run). step_of x i l) er ∙ ap (step_of z.run i) el in
    let next : lent_after l t ≡ lent_to bytes (stepped z i t) (n - t.taken) t.out =
    ap (λ (x : Lent). lent_after x t) el ∙ next_lent bytes z i n out t in
    same_at (ap (λ (x : Outcome). play_all bytes (stepped z i x) (steps_of s (n - t.taken) t.out)) e)
    (then (quiet_step z i t p q) (together bytes (stepped z i t) (n - t.taken) t.out s refl next))

-- ---- one call after what is the same

module _ (bytes : List ℕ) {z y : Played} (s : Same z y) where
  same_lent : (n : ℕ) (out : List ℕ) → lent_to bytes z n out ≡ lent_to bytes y n out
  same_lent n out =
      ap (λ (t : ℕ). lent (take n (drop t bytes)) z.payload out) s.taken
      ∙ ap (λ (p : List ℕ). lent (take n (drop y.taken bytes)) p out) s.payload

  same_call : (f : Run → Input → Lent → Outcome) (i : Input) (n : ℕ) (out : List ℕ)
      → f z.run i (lent_to bytes z n out) ≡ f y.run i (lent_to bytes y n out)
  same_call f i n out = ap (λ (r : Run). f r i (lent_to bytes z n out)) s.run ∙ ap (f y.run i) (same_lent n out)

  with_outcome : (i : Input) (p : Outcome) → Same (stepped z i p) (stepped y i p)
  with_outcome i p =
      record {
        run = refl;
        payload = refl;
        taken = ap (λ (t : ℕ). t + p.taken) s.taken;
        events = ap (λ (x : List Happened). x ++ happened_of p.event p.payload) s.events;
        written =
            joined_one z.written (take p.written p.out)
            ∙ ap (λ (x : List ℕ). x ++ take p.written p.out) s.written
            ∙ sym (joined_one y.written (take p.written p.out));
      }

  same_stepped : (f : Run → Input → Lent → Outcome) (i : Input) (n : ℕ) (out : List ℕ)
      → Same (stepped z i (f z.run i (lent_to bytes z n out))) (stepped y i (f y.run i (lent_to bytes y n out)))
  same_stepped f i n out = same_at (ap (stepped y i) (same_call f i n out)) (with_outcome i (f z.run i (lent_to bytes z n out)))

  same_report : (file : ℕ) (q : Lsn) (m : Moment) → Same (play_one bytes z (C.report file q m)) (play_one bytes y (C.report file q m))
  same_report file q m =
      record { run = ap (λ (r : Run). (report_of r file q m).1) s.run; payload = s.payload; taken = s.taken; events = s.events; written = s.written }

-- ---- call after call

-- from what is the same on
pub record Leaves (bytes : List ℕ) (z y : Played) (cs : List Call) : Type 0 where
  pub calls : List C.Call
  pub unrolls : Unrolls bytes y cs calls
  pub same : Same (mix_all bytes z cs) (play_all bytes y calls)

mixed : (bytes : List ℕ) (z y : Played) (cs : List Call) → Same z y → Leaves bytes z y cs
unfolding mix_all play_all
mixed bytes z y [] s = record { calls = []; unrolls = none; same = s }
mixed bytes z y (step i n out ∷ cs) s =
    let x = mixed bytes (play_one bytes z (C.step i n out)) (play_one bytes y (C.step i n out)) cs (same_stepped bytes s step_of i n out) in
    record { calls = C.step i n out ∷ x.calls; unrolls = steps x.unrolls; same = x.same }
mixed bytes z y (report file q m ∷ cs) s =
    let x = mixed bytes (play_one bytes z (C.report file q m)) (play_one bytes y (C.report file q m)) cs (same_report bytes s file q m) in
    record { calls = C.report file q m ∷ x.calls; unrolls = reports x.unrolls; same = x.same }
mixed bytes z y (advance i n out ∷ cs) s =
    let u = advance_is_steps y.run i (lent_to bytes y n out) in
    let ds : List C.Call = steps_of u.steps n out in
    let after_it : Same (stepped z i (advance_of z.run i (lent_to bytes z n out))) (play_all bytes y ds) =
    then (same_stepped bytes s advance_of i n out) (together bytes y n out u.steps refl refl) in
    let x = mixed bytes (stepped z i (advance_of z.run i (lent_to bytes z n out))) (play_all bytes y ds) cs after_it in
    record { calls = ds ++ x.calls; unrolls = advances u x.unrolls; same = same_at (sym (play_append bytes y ds x.calls)) x.same }

pub mixed_is_steps : MixedIsSteps
mixed_is_steps bytes z cs =
    let x = mixed bytes z z cs (same_as z) in record { calls = x.calls; unrolls = x.unrolls; same = x.same }
