use Rattle.std.proofs.Common.{eq-eqb, ne_eqb}
use Rattle.advance.specs.AtHand.{is_between}
use Rattle.advance.proofs.at_hand.is_between.Goals as goal

pub returns-then-reader : goal.returns-then-reader
unfolding is_between
returns-then-reader c =
    rw (← c.is_drain.ensures, c.if-is_drain.true, eq-eqb _ _ c.if-reader-eq0.true, c.if-reader.true)

pub returns-then-reader-eq0 : goal.returns-then-reader-eq0
unfolding is_between
returns-then-reader-eq0 c =
    rw (← c.is_drain.ensures, c.if-is_drain.true, eq-eqb _ _ c.if-reader-eq0.true, c.if-reader.false)

pub returns-then-is_drain : goal.returns-then-is_drain
unfolding is_between
returns-then-is_drain c =
    rw (← c.is_drain.ensures, c.if-is_drain.true, ne_eqb _ _ c.if-reader-eq0.false)

pub returns : goal.returns
unfolding is_between
returns c = rw (← c.is_drain.ensures, c.if-is_drain.false)
