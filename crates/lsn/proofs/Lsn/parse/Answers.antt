-- The slash, the high part, then the low part: the first that is missing or bad gives the refusal.
use Prim.Native.Nat.{◌+◌}
use native.Mathlib.Omega.{arith}
use lib.ListN.{length-take}
use Rattle.wire.specs.Answer.{maybe}
use Rattle.wire.proofs.Laws.{tail_whole}
use Rattle.wire.proofs.FieldLaws.{told}
use Rattle.wire.proofs.FindLaws.{found_below}
use Rattle.lsn.specs.Position.{position_of, joined}
use Rattle.lsn.proofs.Spelled.{part_below}
use Rattle.lsn.proofs.Lsn.parse.Goals as goal

pub returns-in_default : goal.returns-in_default
unfolding position_of
returns-in_default c = simp (told maybe c.find.ensures c.in_default.is)

pub slice_bounds-part-end : goal.slice_bounds-part-end
slice_bounds-part-end c = simp length-take (omega (arith, found_below 47 _ _ (told maybe c.find.ensures c.in-Some.is)))

pub returns-in_default-part : goal.returns-in_default-part
unfolding position_of
returns-in_default-part c = simp (told maybe c.find.ensures c.in-Some.is, told maybe c.part.ensures c.in_default-part.is)

pub overflow_add-i : goal.overflow_add-i
overflow_add-i c = omega (arith, found_below 47 _ _ (told maybe c.find.ensures c.in-Some.is))

pub slice_bounds-part-count : goal.slice_bounds-part-count
slice_bounds-part-count c = omega (arith, found_below 47 _ _ (told maybe c.find.ensures c.in-Some.is))

pub slice_bounds-part-start : goal.slice_bounds-part-start
slice_bounds-part-start c = omega (arith, found_below 47 _ _ (told maybe c.find.ensures c.in-Some.is))

pub returns-in_default-part-2 : goal.returns-in_default-part-2
unfolding position_of
returns-in_default-part-2 c =
    let s = c.args.s.now in
    let low = rw (tail_whole s (c.in-Some.i + 1)) at (told maybe c.part-2.ensures c.in_default-part-2.is) in
    simp (told maybe c.find.ensures c.in-Some.is, told maybe c.part.ensures c.in-Some-part.is, low)

-- both halves stay below 2^32
pub overflow_mul-result : goal.overflow_mul-result
overflow_mul-result c = omega (arith, part_below _ _ (told maybe c.part.ensures c.in-Some-part.is))

pub overflow_add-result : goal.overflow_add-result
overflow_add-result c = omega (arith, part_below _ _ (told maybe c.part.ensures c.in-Some-part.is), part_below _ _ (told maybe c.part-2.ensures c.in-Some-part-2.is))

pub returns : goal.returns
unfolding position_of joined
returns c =
    let s = c.args.s.now in
    let low = rw (tail_whole s (c.in-Some.i + 1)) at (told maybe c.part-2.ensures c.in-Some-part-2.is) in
    simp (told maybe c.find.ensures c.in-Some.is, told maybe c.part.ensures c.in-Some-part.is, low)
