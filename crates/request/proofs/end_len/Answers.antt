use Rattle.request.specs.Request.{end_text}
use Rattle.request.proofs.end_len.Goals as goal

pub returns-then-binary : goal.returns-then-binary
unfolding end_text
returns-then-binary c = rw c.if-binary.true

pub returns-else-binary : goal.returns-else-binary
unfolding end_text
returns-else-binary c = rw c.if-binary.false
