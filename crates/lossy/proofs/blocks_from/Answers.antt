-- What blocks have passed is well-formed; where a part is ill-formed, the stretch ends.
use Rattle.lossy.specs.Stretch.{stretch_of}
use Rattle.lossy.proofs.Laws.{stretch_none}
use Rattle.lossy.proofs.Turns.{stretch_ends, passed_on}
use Prim.Native.Nat.{◌≤◌, ◌+◌}
use mathlib.Core.Path.{◌≡◌, refl}
use mathlib.Core.Bool.{false}
use native.Mathlib.Omega.{arith}
use lib.ListN.{length, drop, drop_of_length-le}
use Rattle.lossy.proofs.blocks_from.Goals as goal

pub returns-then-t-ne0 : goal.returns-then-t-ne0
returns-then-t-ne0 c =
    let s = c.args.text.now in
    let t = c.unblocked-t.result in
    let o : 1 ≤ t.ill = omega arith in
    let p = c.unblocked-t.ensures.behind o in
    let h : t.end + t.ill ≤ length s = p.ends in
    let z : stretch_of (drop t.end s) ≡ 0 = stretch_ends s t.end (record { len = t.ill; well = false }) (omega arith) p refl in
    let e = (passed_on (passed_on c.loop-i.invariant.1 c.passed-a.ensures) c.unblocked-t.ensures.passed).is in
    record { is = omega arith; last = λ n. absurd (omega arith); behind = c.unblocked-t.ensures.behind }

pub returns : goal.returns
returns c =
    let s = c.args.text.now in
    let h : length s ≤ c.loop-i.i = omega arith in
    let z : stretch_of (drop c.loop-i.i s) ≡ 0 = rw (drop_of_length-le s h) stretch_none in
    let e = c.loop-i.invariant.1.is in
    record { is = omega arith; last = λ n. omega arith; behind = λ n. absurd (omega arith) }
