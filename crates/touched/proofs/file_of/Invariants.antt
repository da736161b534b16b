-- No entry passed has the identifier.
use Rattle.touched.specs.Touched.{entries_of, file_of}
use mathlib.Core.Path.{◌≡◌}
use lib.ListN.{drop}
use Rattle.touched.proofs.file_of.Given as goal

abbrev pub invariant-loop-i : goal.invariant-loop-i
invariant-loop-i l = file_of (entries_of l.identifiers l.files) l.id ≡ file_of (drop l.i (entries_of l.identifiers l.files)) l.id
