use Rattle.wire.proofs.Laws.{copied_at}
use Rattle.wire.specs.Bytes.{copied}
use native.Mathlib.Omega.{arith}
use lib.ListN.{length-take}
use Rattle.wire.proofs.store.copy.Goals as goal

pub slice_bounds-copy_all-end : goal.slice_bounds-copy_all-end
slice_bounds-copy_all-end c = simp length-take (omega arith)

pub copy_all-requires : goal.copy_all-requires
copy_all-requires c = simp length-take (omega arith)

pub returns : goal.returns
unfolding copied
returns c =
    copied_at _ _ _ _ c.min-n.ensures c.copy_all.ensures
