-- 32, 33, 34, then the answer, in which the state and the change are those of the moment's minute.
use mathlib.Core.Path.{◌≡◌, sym, ◌∙◌}
use mathlib.Core.Bool.{Bool, true}
use mathlib.Core.Option.{Option}
use Prim.Native.Nat.{ℕ, ◌/◌, ◌%◌}
use native.Mathlib.Omega.{arith}
use lib.IntN.{ℤ}
use mir.Syntax.{w64}
use mir.Val.{to_z, of_z}
use mir.ValLaws.{to_z-of_z}
use borrow.Author.Rules.{rules}
use Rattle.hours.specs.declared.Hours.{Hours}
use Rattle.hours.specs.Calendar.{are_windows, is_within_windows, since_monday, open_at, is_open}
use Rattle.hours.specs.Answer.{change_from, next_of, hours_of}
use Rattle.hours.specs.Code.{moment_after}
use Rattle.hours.proofs.Floor.{since_below}
use Rattle.hours.proofs.Hours.ask.Goals as goal

pub returns-then-not-are_windows : goal.returns-then-not-are_windows
unfolding hours_of
returns-then-not-are_windows c = simp (sym c.are_windows.ensures ∙ c.if-not-are_windows.true)

pub returns-then-not-is_within : goal.returns-then-not-is_within
unfolding hours_of
returns-then-not-is_within c =
    let h = c.args.self in
    let o : to_z w64 (of_z w64 h.offset) ≡ h.offset = search rules in
    let w : are_windows h.opens h.closes 7 ≡ true = sym c.are_windows.ensures ∙ c.if-not-are_windows.false in
    simp (w, sym (rw o at c.is_within.ensures) ∙ c.if-not-is_within.true)

pub returns-then-not-is_within-2 : goal.returns-then-not-is_within-2
unfolding hours_of
returns-then-not-is_within-2 c =
    let h = c.args.self in
    let o : to_z w64 (of_z w64 h.offset) ≡ h.offset = search rules in
    let t : to_z w64 (of_z w64 c.args.moment) ≡ c.args.moment = to_z-of_z w64 c.args.moment c.ranges.moment in
    let w : are_windows h.opens h.closes 7 ≡ true = sym c.are_windows.ensures ∙ c.if-not-are_windows.false in
    let p : is_within_windows 840 h.offset ≡ true = sym (rw o at c.is_within.ensures) ∙ c.if-not-is_within.false in
    simp (w, p, sym (rw t at c.is_within-2.ensures) ∙ c.if-not-is_within-2.true)

pub minutes_to_change-requires : goal.minutes_to_change-requires
minutes_to_change-requires c =
    let h = c.args.self in
    let o : to_z w64 (of_z w64 h.offset) ≡ h.offset = search rules in
    let t : to_z w64 (of_z w64 c.args.moment) ≡ c.args.moment = to_z-of_z w64 c.args.moment c.ranges.moment in
    let w : are_windows h.opens h.closes 7 ≡ true = sym c.are_windows.ensures ∙ c.if-not-are_windows.false in
    let s : c.since_monday-since.result ≡ since_monday h.offset c.args.moment = rw (o, t) at c.since_monday-since.ensures in
    (omega (arith, since_below h.offset c.args.moment, s), w)

pub open_at-is_open-requires : goal.open_at-is_open-requires
open_at-is_open-requires c =
    let h = c.args.self in
    let o : to_z w64 (of_z w64 h.offset) ≡ h.offset = search rules in
    let t : to_z w64 (of_z w64 c.args.moment) ≡ c.args.moment = to_z-of_z w64 c.args.moment c.ranges.moment in
    let s : c.since_monday-since.result ≡ since_monday h.offset c.args.moment = rw (o, t) at c.since_monday-since.ensures in
    omega (arith, since_below h.offset c.args.moment, s)

-- the state and the change of the minute in which the moment stands
state : (h : Hours) (t : ℤ) (since : ℕ) → since ≡ since_monday h.offset t → (r : Bool) → r ≡ open_at h (since / 60000000) → r ≡ is_open h t
unfolding is_open
state h t since s r e = rw s at e

change : (h : Hours) (t : ℤ) (since : ℕ) → since ≡ since_monday h.offset t → (r : Option ℤ)
    → r ≡ moment_after t (since % 60000000) (change_from h (since / 60000000) 10080 1) → r ≡ next_of h t
unfolding next_of
change h t since s r e = rw s at e

pub returns : goal.returns
unfolding hours_of
returns c =
    let h = c.args.self in
    let o : to_z w64 (of_z w64 h.offset) ≡ h.offset = search rules in
    let t : to_z w64 (of_z w64 c.args.moment) ≡ c.args.moment = to_z-of_z w64 c.args.moment c.ranges.moment in
    let w : are_windows h.opens h.closes 7 ≡ true = sym c.are_windows.ensures ∙ c.if-not-are_windows.false in
    let p : is_within_windows 840 h.offset ≡ true = sym (rw o at c.is_within.ensures) ∙ c.if-not-is_within.false in
    let q : is_within_windows 4611686018427387904 c.args.moment ≡ true = sym (rw t at c.is_within-2.ensures) ∙ c.if-not-is_within-2.false in
    let s : c.since_monday-since.result ≡ since_monday h.offset c.args.moment = rw (o, t) at c.since_monday-since.ensures in
    let since = c.since_monday-since.result in
    let e = rw (t, c.minutes_to_change.ensures.0) at c.change_after-change.ensures in
    simp (w, p, q) (rw (state h c.args.moment since s c.open_at-is_open.result c.open_at-is_open.ensures, change h c.args.moment since s _ e))
