-- A position, or a hyphen.
use Rattle.text.specs.Ascii.{ascii}
use Rattle.page.proofs.place_sent.Goals as goal

pub returns-then-sent : goal.returns-then-sent
unfolding ascii
returns-then-sent c =
    rw c.if-sent.true c.place_position.ensures

pub returns : goal.returns
unfolding ascii
returns c =
    rw c.if-sent.false c.place_line.ensures
