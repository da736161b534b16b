-- Counted first, then the five pieces, one after the other.
use Prim.Native.Nat.{◌+◌, ◌-◌, ◌≤◌}
use native.Mathlib.Omega.{arith}
use lib.ListN.{length}
use Rattle.wire.proofs.Laws.{unplaced}
use Rattle.wire.proofs.Pieces.{filling_start, filling_next, filling_last}
use Rattle.page.specs.Page.{spaces, line_of}
use Rattle.page.proofs.Laws.{line_pieces, length_line}
use Rattle.page.proofs.place_line.Goals as goal

pub returns-then-out-to : goal.returns-then-out-to
returns-then-out-to c = unplaced _ _ _ (omega arith)

pub returns-then-out-to-lt-LINE : goal.returns-then-out-to-lt-LINE
returns-then-out-to-lt-LINE c =
    unplaced _ _ _ (omega (arith, length_line c.args.label.now c.args.value.now c.requires.0 c.requires.1))

pub returns : goal.returns
returns c =
    let a = c.args in
    let l = length_line a.label.now a.value.now c.requires.0 c.requires.1 in
    let h : a.to + length (line_of a.label.now a.value.now) ≤ length a.out.now = omega (arith, c.if-out-to-lt-LINE.false) in
    let f₁ = filling_next h a.label.now (filling_start (line_pieces a.label.now a.value.now)) c.place-a.ensures in
    let f₂ = filling_next h (spaces (12 - length a.label.now)) f₁ c.place_spaces-b.ensures in
    let f₃ = filling_next h (spaces (20 - length a.value.now)) f₂ c.place_spaces-c.ensures in
    let f₄ = filling_next h a.value.now f₃ c.place-d.ensures in
    filling_last h f₄ c.place.ensures
