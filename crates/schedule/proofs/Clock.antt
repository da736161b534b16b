-- An interval has passed from its due moment on.
use Prim.Native.Nat.{ℕ, ◌+◌, ◌-◌, ◌<◌, ◌≤◌, min}
use native.Mathlib.Omega.{arith}
use borrow.Author.Tests.{ltb-false, leb-true, leb-false, eqb-true, eqb-false, le-ltb, le-leb, lt-leb}
use mathlib.Core.Bool.{Bool, true, false}
use mathlib.Core.List.{List}
use mathlib.Core.Path.{◌≡◌, sym, ◌∙◌}
use lib.Dec.{ltb, leb, eqb}
use Rattle.wire.specs.Bytes.{pick}
use Rattle.wire.proofs.Laws.{by_test}
use Rattle.moment.specs.declared.Moment.{Moment}
use Rattle.moment.specs.Moment.{last, since_of}
use Rattle.worker.specs.declared.Queue.{Queue}
use Rattle.worker.specs.declared.Run.{Run}
use Rattle.worker.specs.Step.{Outcome, bad_moment}
use Rattle.schedule.specs.NextStep.{beyond, by_clock, due_of}
use Rattle.schedule.specs.Promise.{Accepts, Moves, Stays, Promised}

-- the one law of intervals
pub passed_by : (interval : ℕ) (at m : Moment) → m.0 < beyond → leb interval (since_of m at) ≡ leb (due_of interval at) m.0
unfolding due_of
passed_by interval at m h =
    by_test (eqb interval 0)
    (λ t. let e : interval ≡ 0 = eqb-true interval 0 t in rw (t, e) (le-leb 0 (since_of m at) (omega arith) ∙ sym (le-leb 0 m.0 (omega arith))))
    (λ t. let e : (interval ≡ 0) → ⊥ = eqb-false interval 0 t in by_test (leb interval (m.0 - at.0))
    (λ k. let a : interval ≤ m.0 - at.0 = leb-true interval (m.0 - at.0) k in let b : min (at.0 + interval) beyond ≤ m.0 = omega arith in rw (t, k) (sym (le-leb _ _ b)))
    (λ k. let a : m.0 - at.0 < interval = leb-false interval (m.0 - at.0) k in let b : m.0 < min (at.0 + interval) beyond = omega arith in rw (t, k) (sym (lt-leb _ _ b))))

-- a moment that is accepted is none that 5 refuses
pub good_moment : (r : Run) (m : Moment) (p out : List ℕ) → Accepts r m p out → bad_moment r m ≡ false
good_moment r m p out a = simp (le-ltb _ _ a.not_early, le-leb _ _ a.not_late, le-ltb _ _ a.not_before)

-- a moment that is accepted lies in the range of moments
pub in_range_lem : (r : Run) (m : Moment) (p out : List ℕ) → Accepts r m p out → m.0 < beyond
in_range_lem r m p out a = let b : m.0 ≤ last = a.not_late in omega arith

-- ---- outcomes that move from a moment on

pub record Timed (due m : ℕ) (r : Run) (n : ℕ) (q : Queue) (o : Outcome) : Type 0 where
  pub early : m < due → Stays r n q o
  pub late : due ≤ m → Moves r o

module _ {m : ℕ} {r : Run} {n : ℕ} {q : Queue} where
  pub one_clock : (due : ℕ) (b : Bool) {x y : Outcome} → b ≡ leb due m → Moves r x → Stays r n q y → Timed due m r n q (pick b x y)
  one_clock due true h moves stays = record { early = λ k. absurd (let a : due ≤ m = leb-true due m (sym h) in omega arith); late = λ k. moves }
  one_clock due false h moves stays = record { early = λ k. stays; late = λ k. absurd (let a : m < due = leb-false due m (sym h) in omega arith) }

  -- two tests, one after the other: the earlier moment counts
  pub two_clocks : (due other : ℕ) (b : Bool) {x y : Outcome} → b ≡ leb due m → Moves r x → Timed other m r n q y → Timed (min due other) m r n q (pick b x y)
  two_clocks due other true h moves timed = record { early = λ k. absurd (let a : due ≤ m = leb-true due m (sym h) in omega arith); late = λ k. moves }
  two_clocks due other false h moves timed =
      let a : m < due = leb-false due m (sym h) in
      record { early = λ k. timed.early (omega arith); late = λ k. timed.late (omega arith) }

  pub by_clock_lem : (due : ℕ) {o : Outcome} → m < beyond → Timed due m r n q o → Promised (by_clock due) m r n q o
  unfolding by_clock
  by_clock_lem due h timed =
      by_test (eqb due 0)
      (λ t. let e : due ≡ 0 = eqb-true due 0 t in rw t (timed.late (omega arith)))
      (λ t. by_test (ltb due beyond)
      (λ k. rw (t, k) (timed.early, timed.late))
      (λ k. let a : beyond ≤ due = ltb-false due beyond k in rw (t, k) (timed.early (omega arith))))
