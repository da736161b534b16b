use Rattle.std.proofs.Common.{le-ltb, lt-ltb}
use Rattle.advance.specs.AtHand.{has_room_for}
use Rattle.advance.proofs.at_hand.has_room.Goals as goal

pub returns-then-payload_len-limit : goal.returns-then-payload_len-limit
unfolding has_room_for
returns-then-payload_len-limit c = rw (← c.limit_of-limit.ensures, lt-ltb _ _ c.if-payload_len-limit.true)

pub returns-then-limit-len : goal.returns-then-limit-len
unfolding has_room_for
returns-then-limit-len c = rw (← c.limit_of-limit.ensures, le-ltb _ _ c.if-payload_len-limit.false, lt-ltb _ _ c.if-limit-len.true)

pub returns-then-out_len-lt39 : goal.returns-then-out_len-lt39
unfolding has_room_for
returns-then-out_len-lt39 c = rw (
  ← c.limit_of-limit.ensures,
  le-ltb _ _ c.if-payload_len-limit.false,
  le-ltb _ _ c.if-limit-len.false,
  lt-ltb _ _ c.if-out_len-lt39.true,
)

pub returns-then-is_in_range : goal.returns-then-is_in_range
unfolding has_room_for
returns-then-is_in_range c =
    rw (
      c.is_before.ensures,
      ← c.limit_of-limit.ensures,
      le-ltb _ _ c.if-payload_len-limit.false,
      le-ltb _ _ c.if-limit-len.false,
      le-ltb _ _ c.if-out_len-lt39.false,
      ← c.is_in_range.ensures,
      c.if-is_in_range.true,
    )

pub returns : goal.returns
unfolding has_room_for
returns c =
    rw (
      ← c.limit_of-limit.ensures,
      le-ltb _ _ c.if-payload_len-limit.false,
      le-ltb _ _ c.if-limit-len.false,
      le-ltb _ _ c.if-out_len-lt39.false,
      ← c.is_in_range.ensures,
      c.if-is_in_range.false,
    )
