-- What is unread at the place, entered into the fields so far, gives the fields of the payload.
use mathlib.Core.Option.{some, none}
use mathlib.Core.Path.{◌≡◌, refl}
use Prim.Native.Nat.{ℕ, ◌<◌, ◌+◌, ◌-◌}
use mathlib.Core.List.{List}
use native.Mathlib.Omega.{arith}
use lib.ListN.{length, take, drop, length-drop}
use Rattle.wire.specs.Answer.{maybe}
use Rattle.wire.specs.Find.{index_of}
use Rattle.wire.proofs.FieldLaws.{told}
use Rattle.wire.proofs.Laws.{tail_whole}
use Rattle.wire.proofs.FindLaws.{found_below}
use Rattle.messages.proofs.Laws.{after_start, unread_zero, unread_cut, unread_end, ended, turn}
use Rattle.messages.proofs.ErrorFields.parse.Goals as goal

pub loop-at-init : goal.loop-at-init
loop-at-init c = (refl, after_start c.args.payload.now)

pub returns-then-letter-eq0 : goal.returns-then-letter-eq0
returns-then-letter-eq0 c =
    let s = c.args.payload.now in
    ended s c.loop-at.r.fields c.loop-at.at c.loop-at.invariant.0 (unread_zero s c.loop-at.at (omega arith) c.if-letter-eq0.true) c.loop-at.invariant.1

pub returns-in_default : goal.returns-in_default
returns-in_default c =
    let s = c.args.payload.now in
    let e : index_of 0 (drop (c.loop-at.at + 1) s) ≡ none = rw (tail_whole s (c.loop-at.at + 1)) at (told maybe c.find_zero.ensures c.in_default.is) in
    ended s c.loop-at.r.fields c.loop-at.at c.loop-at.invariant.0 (unread_cut s c.loop-at.at (omega arith) c.if-letter-eq0.false e) c.loop-at.invariant.1

-- the zero byte that ends the value stands in the payload
zero_found : (s : List ℕ) (i len : ℕ) → i < length s → index_of 0 (take (length s - (i + 1)) (drop (i + 1) s)) ≡ some len
    → (index_of 0 (drop (i + 1) s) ≡ some len) × (i + 1 + len < length s)
zero_found s i len h t =
    let e : index_of 0 (drop (i + 1) s) ≡ some len = rw (tail_whole s (i + 1)) at t in
    let b = found_below 0 (drop (i + 1) s) len e in
    let k = length-drop (i + 1) s in
    (e, omega arith)

pub overflow_add-at : goal.overflow_add-at
overflow_add-at c = let z = zero_found c.args.payload.now c.loop-at.at c.in-Some.len (omega arith) (told maybe c.find_zero.ensures c.in-Some.is) in omega (arith, z.1)

pub overflow_add-at-in-loop-at : goal.overflow_add-at-in-loop-at
overflow_add-at-in-loop-at c = let z = zero_found c.args.payload.now c.loop-at.at c.in-Some.len (omega arith) (told maybe c.find_zero.ensures c.in-Some.is) in omega (arith, z.1)

pub loop-at-preserved : goal.loop-at-preserved
loop-at-preserved c =
    let s = c.args.payload.now in
    let z = zero_found c.args.payload.now c.loop-at.at c.in-Some.len (omega arith) (told maybe c.find_zero.ensures c.in-Some.is) in
    turn s c.loop-at.r.fields c.with-r.result.fields c.loop-at.at c.in-Some.len (omega arith) c.if-letter-eq0.false z.0 c.loop-at.invariant.0 c.loop-at.invariant.1 c.with-r.ensures

pub returns : goal.returns
returns c =
    let s = c.args.payload.now in
    ended s c.loop-at.r.fields c.loop-at.at c.loop-at.invariant.0 (unread_end s c.loop-at.at (omega arith)) c.loop-at.invariant.1
