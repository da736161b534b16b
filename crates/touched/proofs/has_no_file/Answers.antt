-- The files that are read, by the library's search.
use mathlib.Core.Path.{◌∙◌}
use Rattle.touched.proofs.EntryLaws.{other_among}
use Rattle.touched.proofs.has_no_file.Goals as goal

pub returns : goal.returns
returns c =
    let a = c.args in
    c.has_other.ensures ∙ other_among 64 a.identifiers.now a.files.now c.entries-n.result c.entries-n.ensures
