-- Two pairs, and the two that are left.
use Rattle.progress.specs.Files.{smallest}
use Rattle.progress.proofs.files.Files.smallest.Goals as goal

pub returns : goal.returns
unfolding smallest
returns c = rw (c.smaller.ensures, c.smaller-b.ensures, c.smaller-a.ensures)
