-- What is left of the lossy text, put where the loop stands, gives what is asked, a stretch and the mark after it at a time.
use Rattle.wire.proofs.Laws.{put_none}
use Rattle.lossy.specs.Lossy.{lossy_of}
use Rattle.lossy.proofs.Laws.{lossy_end}
use Rattle.lossy.proofs.Stretches.{behind_within}
use Rattle.lossy.proofs.Written.{stretch_written, mark_written, all_written}
use Prim.Native.Nat.{◌≤◌}
use mathlib.Core.Path.{◌≡◌, sym, ◌∙◌}
use mathlib.Core.List.{[]}
use native.Mathlib.Omega.{arith}
use lib.ListN.{length, drop}
use Rattle.lossy.proofs.fill.Goals as goal

pub returns-then-t-eq0 : goal.returns-then-t-eq0
returns-then-t-eq0 g c =
    let w = c.stretch-t in
    let found = c.requires.1.answers c.loop-i.i w.result (omega arith) w.ensures in
    let s = c.args.text.now in
    let h : c.loop-i.i ≤ length s = omega arith in
    all_written s c.loop-i.i w.result h found (omega arith)
    (stretch_written s c.loop-i.i w.result h found c.requires.0 c.loop-i.invariant.1 c.place-at.ensures)

pub loop-i-preserved : goal.loop-i-preserved
loop-i-preserved g c =
    let w = c.stretch-t in
    let found = c.requires.1.answers c.loop-i.i w.result (omega arith) w.ensures in
    let s = c.args.text.now in
    let h : c.loop-i.i ≤ length s = omega arith in
    let o : 1 ≤ w.result.ill = omega arith in
    let k = behind_within s c.loop-i.i w.result h found o in (
      omega arith,
      mark_written s c.loop-i.i w.result h found o c.requires.0
          (stretch_written s c.loop-i.i w.result h found c.requires.0 c.loop-i.invariant.1 c.place-at.ensures) c.place-at-in-loop-i.ensures,
    )

pub returns : goal.returns
returns g c =
    let e : lossy_of (drop c.loop-i.i c.args.text.now) ≡ [] = lossy_end c.args.text.now c.loop-i.i (omega arith) in
    sym (put_none c.loop-i.out c.loop-i.at) ∙ rw e at c.loop-i.invariant.1.text
