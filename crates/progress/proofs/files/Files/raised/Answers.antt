-- By the file's number.
use borrow.Author.Tests.{ne_eqb}
use Rattle.progress.specs.Files.{raised_in}
use Rattle.progress.proofs.files.Files.raised.Goals as goal

pub returns-then-file-eq0 : goal.returns-then-file-eq0
unfolding raised_in
returns-then-file-eq0 c = rw (c.larger-at.ensures, c.if-file-eq0.true)

pub returns-then-file-eq1 : goal.returns-then-file-eq1
unfolding raised_in
returns-then-file-eq1 c = rw (c.larger-at-then-file-eq1.ensures, c.if-file-eq1.true)

pub returns-then-file-eq2 : goal.returns-then-file-eq2
unfolding raised_in
returns-then-file-eq2 c = rw (c.larger-at-then-file-eq2.ensures, c.if-file-eq2.true)

pub returns-then-file-eq3 : goal.returns-then-file-eq3
unfolding raised_in
returns-then-file-eq3 c = rw (c.larger-at-then-file-eq3.ensures, c.if-file-eq3.true)

pub returns : goal.returns
unfolding raised_in
returns c =
    simp (
      ne_eqb _ _ c.if-file-eq0.false,
      ne_eqb _ _ c.if-file-eq1.false,
      ne_eqb _ _ c.if-file-eq2.false,
      ne_eqb _ _ c.if-file-eq3.false,
    )
