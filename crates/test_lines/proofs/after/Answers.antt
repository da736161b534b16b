use borrow.Author.Tests.{lt-ltb, le-ltb}
use Rattle.test_lines.proofs.after.Goals as goal

pub returns-then-to-from : goal.returns-then-to-from
returns-then-to-from c = rw (lt-ltb _ _ c.if-to-from.true)

pub returns : goal.returns
returns c = rw (c.min.ensures, le-ltb _ _ c.if-to-from.false)
