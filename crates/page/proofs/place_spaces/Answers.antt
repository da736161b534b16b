-- The front of a row of spaces.
use native.Mathlib.Omega.{arith}
use lib.ListN.{length-take}
use Rattle.page.proofs.Laws.{spaces_front}
use Rattle.page.proofs.place_spaces.Goals as goal

pub slice_bounds-place-end : goal.slice_bounds-place-end
slice_bounds-place-end c = simp length-take (omega arith)

pub returns : goal.returns
returns c =
    rw (spaces_front 20 c.args.n c.requires) at c.place.ensures
