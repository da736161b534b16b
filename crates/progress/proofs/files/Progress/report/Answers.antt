-- A number above 3 is refused; else the file is raised, then the cell.
use borrow.Author.Tests.{lt-ltb, le-ltb}
use Rattle.progress.specs.Files.{filed_of}
use Rattle.progress.proofs.files.Progress.report.Goals as goal

pub returns-then-file-gt-LAST_FILE : goal.returns-then-file-gt-LAST_FILE
unfolding filed_of
returns-then-file-gt-LAST_FILE c = rw (lt-ltb _ _ c.if-file-gt-LAST_FILE.true)

pub returns : goal.returns
unfolding filed_of
returns c =
    simp (le-ltb _ _ c.if-file-gt-LAST_FILE.false) (rw (
      c.beside-progress.ensures,
      c.raise-raised.ensures,
      c.cell-cell.ensures,
      c.smallest-smallest.ensures,
      c.raised-after.ensures,
    ))
