-- What the search says is what happens at every later moment: a moment's minute of the week is found from its count, and so is that of each moment
-- after it.
use mathlib.Core.Path.{◌≡◌, refl, sym, ap, ◌∙◌}
use mathlib.Core.Bool.{Bool, true, false, not}
use mathlib.Core.Option.{Option, some, none}
use Prim.Native.Nat.{ℕ, ◌+◌, ◌*◌, ◌-◌, ◌/◌, ◌%◌, ◌≤◌, ◌<◌}
use native.Mathlib.Omega.{arith}
use lib.IntN.{ℤ, pos, ◌+ℤ◌}
use lib.Dec.{ltb}
use borrow.Author.Tests.{ltb-true, ltb-false}
use Rattle.wire.specs.Bytes.{pick}
use Rattle.wire.proofs.Laws.{by_test}
use Rattle.hours.specs.declared.Hours.{Hours}
use Rattle.hours.specs.Calendar.{minute, week, since_monday, open_at, is_open, is_within_windows, are_windows}
use Rattle.hours.specs.Answer.{change_from, next_of, hours_of}
use Rattle.hours.specs.Code.{counted, moment_after}
use Rattle.hours.specs.Time.{NextIs, AnswersAreRight}
use Rattle.hours.proofs.Floor.{Ahead, ahead, since_now, since_counted, after, later, shorter}
use Rattle.hours.proofs.Laws.{Same, same_always, different, found_is, none_is}

module _ (h : Hours) (t : ℤ) (in_range_lem : is_within_windows 4611686018427387904 t ≡ true) (a : Ahead h.offset) where
  -- the microseconds from a Monday long ago to the moment, on the venue's clock
  abbrev clock : ℕ
  clock = counted t + a.n * minute

  -- its minute of the week
  abbrev first : ℕ
  first = clock / minute % 10080

  minute_of : (y : ℕ) → y % week / minute ≡ y / minute % 10080
  minute_of y = omega arith

  now : is_open h t ≡ open_at h first
  unfolding is_open
  now = rw (since_now h.offset t a.n a.same in_range_lem, minute_of clock)

  -- the state some time later, by the minutes that have begun since
  then : (k i : ℕ) → (clock + k) / minute ≡ clock / minute + i → is_open h (t +ℤ pos k) ≡ open_at h ((first + i) % 10080)
  unfolding is_open
  then k i e =
      let y : counted t + (k + a.n * minute) ≡ clock + k = omega arith in
      let w : (clock / minute + i) % 10080 ≡ (first + i) % 10080 = omega arith in
      rw (since_counted h.offset t a.n k a.same in_range_lem, y, minute_of (clock + k), e, w)

  -- a state that lasts so many minutes is that of every moment in them
  same : (k : ℕ) → ((i : ℕ) → i ≤ (clock + k) / minute - clock / minute → Same h first i) → is_open h (t +ℤ pos k) ≡ is_open h t
  same k s =
      let i : ℕ = (clock + k) / minute - clock / minute in
      let e : (clock + k) / minute ≡ clock / minute + i = omega arith in
      then k i e ∙ s i (omega arith) ∙ sym now

  start : Same h first 0
  start = let e : (first + 0) % 10080 ≡ first = omega arith in rw e

  never : change_from h first 10080 1 ≡ none → NextIs h t none
  never e v l =
      let f = after t v l.lt in
      let s : (i : ℕ) → i < 10080 → Same h first i =
      λ i q. by_test (ltb 0 i)
      (λ p. none_is h first 10080 1 e i (ltb-true 0 i p) (omega arith))
      (λ p. let z : i ≡ 0 = omega (arith, ltb-false 0 i p) in rw z start) in
      rw f.there (same f.k (λ i q. same_always h first s i))

  -- the time to the beginning of the j-th minute
  abbrev time : ℕ → ℕ
  time j = j * minute - clock % minute

  changes : (j : ℕ) → change_from h first 10080 1 ≡ some j → NextIs h t (some (t +ℤ pos (time j)))
  changes j e =
      let f = found_is h first 10080 1 j e in
      let b : 1 ≤ j = f.not_before in
      let m : (clock + time j) / minute ≡ clock / minute + j = omega arith in
      record {
        is_later = record { lt = later t (time j) (omega arith) };
        is_other = then (time j) j m ∙ different _ _ f.differs_there ∙ ap not (sym now);
        none_between =
            λ v l u.
            let g = after t v l.lt in
            let n : g.k < time j = shorter t g.k (time j) (rw g.there at u.lt) in
            rw g.there
            (same g.k
            (λ i q. by_test (ltb 0 i)
            (λ p. f.same_till i (ltb-true 0 i p) (omega arith))
            (λ p. let z : i ≡ 0 = omega (arith, ltb-false 0 i p) in rw z start)));
      }

  pub next_is : NextIs h t (next_of h t)
  unfolding next_of
  next_is =
      let s : since_monday h.offset t ≡ clock % week = since_now h.offset t a.n a.same in_range_lem in
      let m : clock % week / minute ≡ first = minute_of clock in
      let p : clock % week % minute ≡ clock % minute = omega arith in
      rw (s, m, p) (by (change_from h first 10080 1) refl)
    where
      by : (o : Option ℕ) → change_from h first 10080 1 ≡ o → NextIs h t (moment_after t (clock % minute) o)
      by none e = never e
      by (some j) e = changes j e

-- what an answer says: the refusal's number, the state, the change
abbrev Said : Type 0
Said = ℕ × (Bool × Option ℤ)

pub answers_are_right : AnswersAreRight
unfolding hours_of
answers_are_right h t state next e =
    by (are_windows h.opens h.closes 7) (is_within_windows 840 h.offset) (is_within_windows 4611686018427387904 t) refl refl e
  where
    by : (w o m : Bool) → is_within_windows 840 h.offset ≡ o → is_within_windows 4611686018427387904 t ≡ m
        → ◌≡◌ {A = Said} (pick w (pick o (pick m (0, (is_open h t, next_of h t)) (34, (false, none))) (33, (false, none))) (32, (false, none))) (0, (state, next))
        → (state ≡ is_open h t) × NextIs h t next
    by true true true p q e =
        let s : is_open h t ≡ state = ap (λ (x : Said). x.1.0) e in
        let n : next_of h t ≡ next = ap (λ (x : Said). x.1.1) e in
        (sym s, rw n at (next_is h t q (ahead h.offset p)))
    by true true false p q e = let z : ◌≡◌ {A = ℕ} 34 0 = ap (λ (x : Said). x.0) e in absurd (omega arith)
    by true false m p q e = let z : ◌≡◌ {A = ℕ} 33 0 = ap (λ (x : Said). x.0) e in absurd (omega arith)
    by false o m p q e = let z : ◌≡◌ {A = ℕ} 32 0 = ap (λ (x : Said). x.0) e in absurd (omega arith)
