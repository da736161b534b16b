-- A cell after any list of calls, call by call.
use Prim.Native.Nat.{ℕ, max, ◌<◌, ◌≤◌}
use native.Mathlib.Omega.{arith}
use mathlib.Core.Bool.{Bool, true, false, not}
use mathlib.Core.List.{List, [], ◌∷◌}
use mathlib.Core.Path.{◌≡◌, refl, sym, ap, ◌∙◌}
use lib.Dec.{ltb, eqb}
use borrow.Author.Tests.{ltb-true, ltb-false}
use Rattle.wire.specs.Bytes.{pick}
use Rattle.wire.proofs.Laws.{by_test}
use Rattle.lsn.specs.declared.Lsn.{Lsn}
use Rattle.moment.specs.declared.Moment.{Moment}
use Rattle.progress.specs.declared.ProgressCell.{ProgressCell}
use Rattle.progress.specs.Progress.{cell, raise_of, looked_of, reported_of, carried_of}
use Rattle.progress.specs.Calls.{Call, raise, take_signal, take_pending, carry_pending, cell_after, largest, signalled, or_else, older, pending_since, CellsAsCalled}

-- a cell by its position, signal, pending moment and timing
abbrev cell_of : ℕ → Bool → ℕ → Bool → ProgressCell
cell_of l s p t = cell (record { 0 = l }) s (record { 0 = p }) t

raised : (l : ℕ) (s : Bool) (p : ℕ) (t : Bool) (x : Lsn) (m : Moment)
    → (raise_of (cell_of l s p t) x m).cell
    ≡ cell_of (max x.0 l) (pick (ltb l x.0) true s) (pick t (pick (ltb l x.0) (or_else p m.0) p) p) t
unfolding raise_of
raised l s p t x m =
    by_test (ltb l x.0)
    (λ h. let k = ltb-true l x.0 h in let e : max x.0 l ≡ x.0 = omega arith in rw (h, e) (stored t (eqb p 0)))
    (λ h. let k = ltb-false l x.0 h in let e : max x.0 l ≡ l = omega arith in rw (h, e) (kept t))
  where
    stored : (t none : Bool)
        → cell x true (pick t (pick none m (record { 0 = p })) (record { 0 = p })) t ≡ cell_of x.0 true (pick t (pick none m.0 p) p) t
    stored true true = refl
    stored true false = refl
    stored false none = refl

    kept : (t : Bool) → cell_of l s p t ≡ cell_of l s (pick t p p) t
    kept true = refl
    kept false = refl

reported : (l : ℕ) (s : Bool) (p : ℕ) (t : Bool) (x : Lsn) (m : Moment)
    → (reported_of (cell_of l s p t) x m).cell ≡ cell_of l s (pick (ltb x.0 l) m.0 0) t
unfolding reported_of
reported l s p t x m = by_test (ltb x.0 l) (λ h. rw h) (λ h. rw h)

-- the older of two moments that are there
older_is : (a b : ℕ) → eqb a 0 ≡ false → eqb b 0 ≡ false → (a < b → older a b ≡ a) × (b ≤ a → older a b ≡ b)
older_is a b ea eb = (λ k. rw (ea, eb) (omega arith), λ k. rw (ea, eb) (omega arith))

carried : (l : ℕ) (s : Bool) (p : ℕ) (t : Bool) (m : Moment) → carried_of (cell_of l s p t) m ≡ cell_of l s (pick t (older m.0 p) p) t
unfolding carried_of
carried l s p false m = refl
carried l s p true m =
    by_test (eqb m.0 0) (λ a. rw a)
    (λ a. by_test (eqb p 0) (λ b. rw (a, b))
    (λ b. by_test (ltb m.0 p)
    (λ c.
    let e : carried_of (cell_of l s p true) m ≡ cell_of l s m.0 true = rw (a, b, c) in
    e ∙ ap (λ (x : ℕ). cell_of l s x true) (sym ((older_is m.0 p a b).0 (ltb-true _ _ c))))
    (λ c.
    let e : carried_of (cell_of l s p true) m ≡ cell_of l s p true = rw (a, b, c) in
    e ∙ ap (λ (x : ℕ). cell_of l s x true) (sym ((older_is m.0 p a b).1 (ltb-false _ _ c))))))

after : (start : Lsn) (t : Bool) (h : List Call) → cell_after start t h ≡ cell_of (largest start h) (signalled start h) (pending_since start t h) t
unfolding cell_after largest signalled pending_since looked_of
after start t [] = refl
after start t (raise x m ∷ h) = ap (λ (c : ProgressCell). (raise_of c x m).cell) (after start t h) ∙ raised (largest start h) (signalled start h) (pending_since start t h) t x m
after start t (take_signal ∷ h) = ap (λ (c : ProgressCell). (looked_of c).cell) (after start t h)
after start t (take_pending x m ∷ h) =
    ap (λ (c : ProgressCell). (reported_of c x m).cell) (after start t h) ∙ reported (largest start h) (signalled start h) (pending_since start t h) t x m
after start t (carry_pending m ∷ h) = ap (λ (c : ProgressCell). carried_of c m) (after start t h) ∙ carried (largest start h) (signalled start h) (pending_since start t h) t m

wakes : (l : ℕ) (s : Bool) (p : ℕ) (t : Bool) (x : Lsn) (m : Moment) → (raise_of (cell_of l s p t) x m).wake ≡ pick (ltb l x.0) (not s) false
unfolding raise_of
wakes l s p t x m = by_test (ltb l x.0) (λ h. rw h) (λ h. rw h)

pub cells_as_called : CellsAsCalled
unfolding looked_of reported_of
cells_as_called start t h =
    let e = after start t h in
    record {
      position = ap (λ (c : ProgressCell). c.applied.0) e;
      signal = ap (λ (c : ProgressCell). c.signalled) e;
      pending = ap (λ (c : ProgressCell). c.pending_since.0) e;
      timing = ap (λ (c : ProgressCell). c.timed) e;
      wake = λ x m. ap (λ (c : ProgressCell). (raise_of c x m).wake) e ∙ wakes (largest start h) (signalled start h) (pending_since start t h) t x m;
      looked = ap (λ (c : ProgressCell). c.applied.0) e;
      taken = λ x m. ap (λ (c : ProgressCell). c.pending_since.0) e;
    }
