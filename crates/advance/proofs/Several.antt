-- Calls one after another: the second where the first told nothing; and a message at hand, handed on at once.
use Rattle.std.proofs.Common.{◌≡◌, ℕ, ◌+◌, ◌-◌, ◌^◌, ◌<◌, ◌≤◌, min, Bool, true, false, List, [], length, take, drop, sym, ap, ◌∙◌, arith, length-drop, length-take}
use Rattle.std.proofs.lemmas.List.{drop-drop}
use Rattle.wire.specs.Bytes.{at, put, copied}
use Rattle.wire.proofs.Laws.{tail_whole, by_test}
use Rattle.framing.proofs.Laws.{copied_all}
use Rattle.worker.specs.declared.Input.{Input}
use Rattle.worker.specs.declared.Run.{Run}
use Rattle.worker.specs.Answer.{lent}
use Rattle.worker.specs.Step.{Lent, Outcome, having, handing, step_of}
use Rattle.advance.specs.declared.at_hand.AtHand.{AtHand}
use Rattle.advance.specs.Advance.{tells, lent_after, after, one_more, twice, advance_of}
use Rattle.advance.specs.AtHand.{at_hand_of, applies_of, handed_run, handed_of}
use Rattle.advance.proofs.Taken.{step_taken, twice_taken}
use Rattle.advance.proofs.FourSteps.{hands_on_at_once, applies_room}

-- a call made twice, by whether the first told something
module _ (f : Run → Input → Lent → Outcome) (r : Run) (i : Input) (l : Lent) where
  twice_told : tells (f r i l) ≡ true → twice f r i l ≡ f r i l
  unfolding twice
  twice_told t = rw t

  twice_quiet : tells (f r i l) ≡ false → twice f r i l ≡ after (f r i l).taken (f (f r i l).run i (lent_after l (f r i l)))
  unfolding twice
  twice_quiet t = rw t

-- one step more
module _ (i : Input) (u : List ℕ) (o : Outcome) where
  pub more_told : tells o ≡ true → one_more i u o ≡ o
  unfolding one_more
  more_told t = rw t

  pub more_quiet : o.taken ≤ length u → tells o ≡ false → one_more i u o ≡ after o.taken (step_of o.run i (lent (drop o.taken u) o.payload o.out))
  unfolding one_more
  more_quiet h t = let e : min o.taken (length u) ≡ o.taken = omega arith in rw (t, e)

  -- by how many bytes are left out, and the step's outcome
  module _ (k : ℕ) (z : Outcome) (took : k ≡ min o.taken (length u))
      (second : z ≡ step_of o.run i (lent (take (length u - k) (drop k u)) o.payload o.out)) where
    pub went_on : tells o ≡ false → after k z ≡ one_more i u o
    unfolding one_more
    went_on t =
        let e : z ≡ step_of o.run i (lent (drop k u) o.payload o.out) = second ∙ ap (λ (x : List ℕ). step_of o.run i (lent x o.payload o.out)) (tail_whole u k) in
        rw (t, ← took) (ap (after k) e)

    pub sum_fits : length u < 2 ^ 64 → k + z.taken < 2 ^ 64
    sum_fits big =
        let v : List ℕ = take (length u - k) (drop k u) in
        let a : z.taken ≤ length v = rw second (step_taken o.run i (lent v o.payload o.out)) in
        let b : length v ≡ length u - k = ap length (tail_whole u k) ∙ length-drop k u in
        omega arith

-- a step more after two parts, and a second step of the second part
part : (i : Input) (l : Lent) (o : Outcome) → o.taken ≤ length l.unread
    → one_more i l.unread (after o.taken (step_of o.run i (lent_after l o))) ≡ after o.taken (twice step_of o.run i (lent_after l o))
part i l o h =
    let u : List ℕ = l.unread in
    let k : ℕ = o.taken in
    let m : Lent = lent_after l o in
    let x : Outcome = step_of o.run i m in
    let a : x.taken ≤ length (drop k u) = step_taken o.run i m in
    let d : length (drop k u) ≡ length u - k = length-drop k u in
    let f : k + x.taken ≤ length u = omega arith in
    let next : List ℕ → Outcome = λ v. step_of x.run i (lent v x.payload x.out) in
    by_test (tells x)
    (λ t. more_told i u (after k x) t ∙ ap (after k) (sym (twice_told step_of o.run i m t)))
    (λ t.
    let z : Outcome = next (drop x.taken (drop k u)) in
    let s : (k + x.taken) + z.taken ≡ k + (x.taken + z.taken) = omega arith in
    more_quiet i u (after k x) f t
    ∙ (ap (λ (v : List ℕ). after (k + x.taken) (next v)) (sym (drop-drop x.taken k u))
    ∙ (ap (λ (n : ℕ). having n z.payload z) s ∙ ap (after k) (sym (twice_quiet step_of o.run i m t)))))

-- three steps more make four
pub four : (r : Run) (i : Input) (l : Lent)
    → one_more i l.unread (one_more i l.unread (one_more i l.unread (step_of r i l))) ≡ advance_of r i l
four r i l =
    let u : List ℕ = l.unread in
    let a : (step_of r i l).taken ≤ length u = step_taken r i l in
    let two : one_more i u (step_of r i l) ≡ twice step_of r i l =
    by_test (tells (step_of r i l))
    (λ t. more_told i u (step_of r i l) t ∙ sym (twice_told step_of r i l t))
    (λ t. more_quiet i u (step_of r i l) a t ∙ sym (twice_quiet step_of r i l t)) in
    let o : Outcome = twice step_of r i l in
    let b : o.taken ≤ length u = twice_taken step_of step_taken r i l in
    ap (λ (x : Outcome). one_more i u (one_more i u x)) two
    ∙ by_test (tells o)
    (λ t. ap (one_more i u) (more_told i u o t) ∙ (more_told i u o t ∙ sym (twice_told (twice step_of) r i l t)))
    (λ t. ap (one_more i u) (more_quiet i u o b t) ∙ (part i l o b ∙ sym (twice_quiet (twice step_of) r i l t)))

-- a first step that tells something is the last
pub first_told : (r : Run) (i : Input) (l : Lent) → tells (step_of r i l) ≡ true → step_of r i l ≡ advance_of r i l
first_told r i l t =
    let e : twice step_of r i l ≡ step_of r i l = twice_told step_of r i l t in
    sym (twice_told (twice step_of) r i l (ap tells e ∙ t) ∙ e)

-- ---- a message at hand

module _ (r : Run) (i : Input) (u p o : List ℕ) {a : AtHand} {b : Bool} (is : a ≡ at_hand_of u)
    (by : b ≡ applies_of r i.moment i.queue (length p) (length o) a) (applies : b ≡ true) where
  pub has_room : (0 < a.len) × (a.len ≤ length p)
  has_room = applies_room r i.moment i.queue (length p) (length o) a (sym by ∙ applies)

  pub at_once_lem : {n : ℕ} {p1 : List ℕ} → (n, p1) ≡ copied p (take (5 + a.len - 5) (drop 5 u))
      → having (5 + a.len) p1 (handing a.event (handed_run r i.moment a) (lent [] p1 o)) ≡ advance_of r i (lent u p o)
  at_once_lem {n} {p1} copy =
      let k = has_room in
      let h : applies_of r i.moment i.queue (length p) (length o) a ≡ true = sym by ∙ applies in
      let m : 5 + a.len - 5 ≡ a.len = omega arith in
      let s : length (at u 5 a.len) ≤ length p = simp length-take (omega arith) in
      let e : p1 ≡ put p 0 (at u 5 a.len) = copied_all p (at u 5 a.len) p1 n s (copy ∙ ap (λ (x : ℕ). copied p (take x (drop 5 u))) m) in
      ap (λ (x : List ℕ). having (5 + a.len) x (handing a.event (handed_run r i.moment a) (lent [] x o))) e
      ∙ (ap (λ (x : AtHand). handed_of r i.moment x u p o) is ∙ sym (hands_on_at_once r i u p o (rw is at h)))
