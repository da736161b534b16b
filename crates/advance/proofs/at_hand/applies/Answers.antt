use Rattle.advance.specs.AtHand.{applies_of}
use Rattle.advance.proofs.at_hand.applies.Goals as goal

pub returns-then-has_room : goal.returns-then-has_room
unfolding applies_of
returns-then-has_room c =
    rw (
      c.reaches.ensures,
      ← c.is_free.ensures,
      c.if-is_free.true,
      ← c.is_between.ensures,
      c.if-is_between.true,
      ← c.has_room.ensures,
      c.if-has_room.true,
    )

pub returns-then-is_between : goal.returns-then-is_between
unfolding applies_of
returns-then-is_between c =
    rw (
      ← c.is_free.ensures,
      c.if-is_free.true,
      ← c.is_between.ensures,
      c.if-is_between.true,
      ← c.has_room.ensures,
      c.if-has_room.false,
    )

pub returns-then-is_free : goal.returns-then-is_free
unfolding applies_of
returns-then-is_free c =
    rw (← c.is_free.ensures, c.if-is_free.true, ← c.is_between.ensures, c.if-is_between.false)

pub returns : goal.returns
unfolding applies_of
returns c = rw (← c.is_free.ensures, c.if-is_free.false)
