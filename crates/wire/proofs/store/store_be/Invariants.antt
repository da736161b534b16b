-- With i bytes to go, the i lowest bytes of x written over dst give what is asked.
use mathlib.Core.Path.{◌≡◌}
use Rattle.wire.specs.Bytes.{be_bytes, put}
use Rattle.wire.proofs.store.store_be.Given as goal

abbrev pub invariant-loop-i : goal.invariant-loop-i
invariant-loop-i l = put l.dst l.to (be_bytes l.i l.x) ≡ put l.initial.dst l.to (be_bytes l.n l.v)
