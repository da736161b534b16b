use Rattle.test_playing.proofs.spelling.by_length.Goals as goal

pub returns-then-within : goal.returns-then-within
returns-then-within c =
    rw (← c.within.ensures, c.if-within.true) c.number.ensures

pub returns : goal.returns
returns c =
    rw (← c.within.ensures, c.if-within.false) c.outside.ensures
