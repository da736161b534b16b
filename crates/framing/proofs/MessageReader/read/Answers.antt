-- The tests in their order: 3, a remembered 7, then the header or the payload.
use Rattle.framing.specs.Read.{read_of}
use borrow.Author.Tests.{lt-ltb, le-ltb}
use Rattle.framing.proofs.MessageReader.read.Goals as goal

pub returns-then-payload-limit : goal.returns-then-payload-limit
unfolding read_of
returns-then-payload-limit c = rw (← c.limit_of-limit.ensures) (simp (lt-ltb _ _ c.if-payload-limit.true))

pub returns-then-self : goal.returns-then-self
unfolding read_of
returns-then-self c = rw (← c.limit_of-limit.ensures) (simp (le-ltb _ _ c.if-payload-limit.false, c.if-self.true))

pub returns-then-self-lt5 : goal.returns-then-self-lt5
unfolding read_of
returns-then-self-lt5 c =
    rw (← c.limit_of-limit.ensures) (simp (le-ltb _ _ c.if-payload-limit.false, c.if-self.false, lt-ltb _ _ c.if-self-lt5.true) c.fill_header.ensures)

pub returns : goal.returns
unfolding read_of
returns c =
    rw (← c.limit_of-limit.ensures) (simp (le-ltb _ _ c.if-payload-limit.false, c.if-self.false, le-ltb _ _ c.if-self-lt5.false) c.fill_payload.ensures)
