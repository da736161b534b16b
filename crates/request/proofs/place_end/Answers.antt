use Rattle.request.specs.Request.{end_text}
use Rattle.request.proofs.place_end.Goals as goal

pub returns-then-binary : goal.returns-then-binary
unfolding end_text
returns-then-binary c =
    rw c.if-binary.true c.place.ensures

pub returns : goal.returns
unfolding end_text
returns c =
    rw c.if-binary.false c.place-2.ensures
