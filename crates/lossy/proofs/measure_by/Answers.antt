-- What is counted and what is left make the whole length, and so do the marks, a stretch and the mark after it at a time.
use Rattle.lossy.specs.Lossy.{lossy_of}
use Rattle.lossy.specs.Marks.{marks_of}
use Rattle.lossy.proofs.Laws.{lossy_end, marks_end, measured_within, measured_past}
use Rattle.lossy.proofs.Stretches.{stretch_within, stretch_length, stretch_marks, last_text, last_marks, behind_within, mark_text, mark_marks}
use Prim.Native.Nat.{◌≤◌, ◌+◌, ◌-◌}
use mathlib.Core.Path.{◌≡◌, ap}
use native.Mathlib.Omega.{arith}
use lib.ListN.{length}
-- no more marks than bytes are behind the loop, so their count has room
use Rattle.lossy.proofs.measure_by.Goals as goal

pub returns-then-room-bytes : goal.returns-then-room-bytes
returns-then-room-bytes g c =
    let w = c.stretch-t in
    let found = c.requires.answers c.loop-i.i w.result (omega arith) w.ensures in
    let a = c.args in
    let e = stretch_length a.text.now c.loop-i.i w.result (omega arith) found in
    measured_past a.room (length (lossy_of a.text.now)) _ (omega arith)

pub returns-then-t-eq0 : goal.returns-then-t-eq0
returns-then-t-eq0 g c =
    let w = c.stretch-t in
    let found = c.requires.answers c.loop-i.i w.result (omega arith) w.ensures in
    let a = c.args in
    let h : c.loop-i.i ≤ length a.text.now = omega arith in
    let z : w.result.ill ≡ 0 = omega arith in
    let e = stretch_length a.text.now c.loop-i.i w.result h found in
    let f = ap length (last_text a.text.now c.loop-i.i w.result h found z) in
    let g = stretch_marks a.text.now c.loop-i.i w.result h found in
    let k = last_marks a.text.now c.loop-i.i w.result h found z in
    measured_within a.room (length (lossy_of a.text.now)) (marks_of a.text.now) (c.loop-i.bytes + (w.result.end - c.loop-i.i)) c.loop-i.marks
    (omega arith) (omega arith) (omega arith)

pub returns-then-room-bytes-lt3 : goal.returns-then-room-bytes-lt3
returns-then-room-bytes-lt3 g c =
    let w = c.stretch-t in
    let found = c.requires.answers c.loop-i.i w.result (omega arith) w.ensures in
    let a = c.args in
    let h : c.loop-i.i ≤ length a.text.now = omega arith in
    let o : 1 ≤ w.result.ill = omega arith in
    let e = stretch_length a.text.now c.loop-i.i w.result h found in
    let f = ap length (mark_text a.text.now c.loop-i.i w.result h found o) in
    measured_past a.room (length (lossy_of a.text.now)) _ (omega arith)

pub loop-i-preserved : goal.loop-i-preserved
loop-i-preserved g c =
    let w = c.stretch-t in
    let found = c.requires.answers c.loop-i.i w.result (omega arith) w.ensures in
    let s = c.args.text.now in
    let h : c.loop-i.i ≤ length s = omega arith in
    let o : 1 ≤ w.result.ill = omega arith in
    let k = behind_within s c.loop-i.i w.result h found o in
    let j = stretch_within s c.loop-i.i w.result h found in
    let e = stretch_length s c.loop-i.i w.result h found in
    let f = ap length (mark_text s c.loop-i.i w.result h found o) in
    let g = stretch_marks s c.loop-i.i w.result h found in
    let m = mark_marks s c.loop-i.i w.result h found o in
    (omega arith, omega arith, omega arith, omega arith, omega arith)

pub returns : goal.returns
returns g c =
    let a = c.args in
    let e = ap length (lossy_end a.text.now c.loop-i.i (omega arith)) in
    let f = marks_end a.text.now c.loop-i.i (omega arith) in
    measured_within a.room (length (lossy_of a.text.now)) (marks_of a.text.now) c.loop-i.bytes c.loop-i.marks (omega arith) (omega arith) (omega arith)
