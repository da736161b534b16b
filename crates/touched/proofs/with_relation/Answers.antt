-- By whether the relation has a file.
use Rattle.touched.proofs.Laws.{with_found, with_unlisted}
use mathlib.Core.Path.{◌∙◌}
use Rattle.touched.proofs.with_relation.Goals as goal

pub returns-in-Some : goal.returns-in-Some
returns-in-Some c =
    let f = c.file_of.ensures in
    c.with.ensures ∙ with_found _ _ _ _ (rw c.in-Some.is at f)

pub returns-in-None : goal.returns-in-None
returns-in-None c = with_unlisted _ _ _ (rw c.in-None.is at c.file_of.ensures)
