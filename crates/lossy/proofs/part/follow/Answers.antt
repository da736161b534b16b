-- A byte of the trail at each test.
use mathlib.Core.Path.{◌≡◌, refl}
use mathlib.Core.List.{[], ◌∷◌}
use Rattle.utf8.specs.WellFormed.{Range, matched}
use Rattle.lossy.specs.Code.{trail}
use Rattle.lossy.proofs.Table.{matched_end, matched_all, matched_next, matched_stop}
use Prim.Native.Nat.{ℕ, suc, ◌+◌, ◌-◌, ◌≤◌, ◌<◌}
use native.Mathlib.Omega.{arith}
use mathlib.Core.Bool.{Bool, true, false}
use mathlib.Core.List.{List}
use Rattle.lossy.specs.declared.part.Lead.{Lead}
use Rattle.lossy.specs.declared.part.Part.{Part}
use Rattle.lossy.specs.Code.{first_in}
use lib.ListN.{take, drop}
use lib.Dec.{eqb}
use borrow.Author.Tests.{eq-eqb, ne_eqb}
use Rattle.lossy.proofs.part.follow.Goals as goal

-- the range of every byte after the second
abbrev later : Range
later = record { low = 0x80; high = 0xBF }

-- the first byte that is due is there: what follows it counts with it
behind_one : (l : Lead) (at : ℕ) (s : List ℕ) {t : Bool} {n : ℕ} → 1 ≤ l.due → t ≡ first_in (record { low = l.low; high = l.high }) (drop at s) → t ≡ true
    → n ≡ matched (take (l.due - 1) (later ∷ later ∷ [])) (drop (at + 1) s) → suc n ≡ matched (trail l) (drop at s)
behind_one l at s h e y i = matched_next l.due at (at + 1) _ _ s (omega arith) (omega arith) e y i

-- the second byte is in its range too
behind_two : (l : Lead) (at : ℕ) (s : List ℕ) {t u : Bool} {n : ℕ} → 2 ≤ l.due → t ≡ first_in (record { low = l.low; high = l.high }) (drop at s) → t ≡ true
    → u ≡ first_in later (drop (at + 1) s) → u ≡ true
    → n ≡ matched (take (l.due - 1 - 1) (later ∷ [])) (drop (at + 2) s) → suc (suc n) ≡ matched (trail l) (drop at s)
behind_two l at s h e y f z i =
    behind_one l at s (omega arith) e y (matched_next (l.due - 1) (at + 1) (at + 2) _ _ s (omega arith) (omega arith) f z i)

-- a part of so many bytes behind the first, of which so many are due
abbrev part_of : ℕ → ℕ → Part
part_of m due = record { len = 1 + m; well = eqb m due }

well_of : (k due : ℕ) {m : ℕ} {p : Part} → p ≡ record { len = 1 + k; well = true } → k ≡ m → k ≡ due → p ≡ part_of m due
well_of k due p e f = rw (p, ← e, eq-eqb k due f) refl

ill_of : (k due : ℕ) {m : ℕ} {p : Part} → p ≡ record { len = 1 + k; well = false } → k ≡ m → k < due → p ≡ part_of m due
ill_of k due p e f = rw (p, ← e, ne_eqb k due (λ h. absurd (omega (arith, f, h)))) refl

-- none is due
pub returns-in-0 : goal.returns-in-0
returns-in-0 c = let l = c.args.l in well_of 0 l.due c.well.ensures (matched_end l.due _ _ c.in-0.is) (omega (arith, c.in-0.is))

-- one is
pub returns-then-next_in : goal.returns-then-next_in
returns-then-next_in c =
    let a = c.args in
    let d = c.in-1.is in
    well_of 1 a.l.due c.well-then-next_in.ensures
    (behind_one a.l a.at a.s.now (omega (arith, d)) c.next_in.ensures c.if-next_in.true (matched_end (a.l.due - 1) _ _ (omega (arith, d)))) (omega (arith, d))

pub returns-else-next_in : goal.returns-else-next_in
returns-else-next_in c =
    let a = c.args in
    let d = c.in-1.is in
    ill_of 0 a.l.due c.ill.ensures (matched_stop a.l.due a.at _ _ a.s.now (omega (arith, d)) c.next_in.ensures c.if-next_in.false) (omega (arith, d))

-- two are
pub returns-then-not-next_in : goal.returns-then-not-next_in
returns-then-not-next_in c =
    let a = c.args in
    let d = c.in-2.is in
    ill_of 0 a.l.due c.ill-then-not-next_in.ensures
    (matched_stop a.l.due a.at _ _ a.s.now (omega (arith, d)) c.next_in-in-2.ensures c.if-not-next_in.true) (omega (arith, d))

pub returns-then-next_in-2 : goal.returns-then-next_in-2
returns-then-next_in-2 c =
    let a = c.args in
    let d = c.in-2.is in
    well_of 2 a.l.due c.well-then-next_in-2.ensures
    (behind_two a.l a.at a.s.now (omega (arith, d)) c.next_in-in-2.ensures c.if-not-next_in.false c.next_in-else-not-next_in.ensures c.if-next_in-2.true
    (matched_end (a.l.due - 1 - 1) _ _ (omega (arith, d)))) (omega (arith, d))

pub returns-else-next_in-2 : goal.returns-else-next_in-2
returns-else-next_in-2 c =
    let a = c.args in
    let d = c.in-2.is in
    ill_of 1 a.l.due c.ill-else-next_in-2.ensures
    (behind_one a.l a.at a.s.now (omega (arith, d)) c.next_in-in-2.ensures c.if-not-next_in.false
    (matched_stop (a.l.due - 1) (a.at + 1) _ _ a.s.now (omega (arith, d)) c.next_in-else-not-next_in.ensures c.if-next_in-2.false)) (omega (arith, d))

-- three are
pub returns-then-not-next_in-2 : goal.returns-then-not-next_in-2
returns-then-not-next_in-2 c =
    let a = c.args in
    ill_of 0 a.l.due c.ill-then-not-next_in-2.ensures
    (matched_stop a.l.due a.at _ _ a.s.now (omega arith) c.next_in-in_default.ensures c.if-not-next_in-2.true) (omega arith)

pub returns-then-not-next_in-3 : goal.returns-then-not-next_in-3
returns-then-not-next_in-3 c =
    let a = c.args in
    ill_of 1 a.l.due c.ill-then-not-next_in-3.ensures
    (behind_one a.l a.at a.s.now (omega arith) c.next_in-in_default.ensures c.if-not-next_in-2.false
    (matched_stop (a.l.due - 1) (a.at + 1) _ _ a.s.now (omega arith) c.next_in-else-not-next_in-2.ensures c.if-not-next_in-3.true)) (omega arith)

pub returns-then-next_in-3 : goal.returns-then-next_in-3
returns-then-next_in-3 c =
    let a = c.args in
    well_of 3 a.l.due c.well-then-next_in-3.ensures
    (behind_two a.l a.at a.s.now (omega arith) c.next_in-in_default.ensures c.if-not-next_in-2.false
    c.next_in-else-not-next_in-2.ensures c.if-not-next_in-3.false
    (matched_next (a.l.due - 1 - 1) (a.at + 2) (a.at + 3) _ _ a.s.now (omega arith) (omega arith) c.next_in-else-not-next_in-3.ensures c.if-next_in-3.true
    (matched_all (a.l.due - 1 - 1 - 1) (drop (a.at + 3) a.s.now)))) (omega arith)

pub returns-else-next_in-3 : goal.returns-else-next_in-3
returns-else-next_in-3 c =
    let a = c.args in
    ill_of 2 a.l.due c.ill-else-next_in-3.ensures
    (behind_two a.l a.at a.s.now (omega arith) c.next_in-in_default.ensures c.if-not-next_in-2.false
    c.next_in-else-not-next_in-2.ensures c.if-not-next_in-3.false
    (matched_stop (a.l.due - 1 - 1) (a.at + 2) _ _ a.s.now (omega arith) c.next_in-else-not-next_in-3.ensures c.if-next_in-3.false)) (omega arith)
