use Rattle.std.proofs.Common.{◌≡◌, ◌∙◌, arith, le-ltb, lt-ltb}
use Rattle.wire.specs.Answer.{maybe}
use Rattle.wire.specs.Bytes.{at, be}
use Rattle.wire.proofs.FieldLaws.{told, field_whole}
use Rattle.wire.proofs.Laws.{impossible}
use Rattle.advance.specs.AtHand.{whole_at}
use Rattle.advance.proofs.at_hand.whole_at.Goals as goal

pub returns-then-unread-lt30 : goal.returns-then-unread-lt30
unfolding whole_at
returns-then-unread-lt30 c = (rw (lt-ltb _ _ c.if-unread-lt30.true), omega arith)

pub returns-in_err-n : goal.returns-in_err-n
returns-in_err-n c =
    let u = c.args.unread.now in
    impossible (cc (told maybe c.read_u32.ensures c.in_err-n.was, field_whole 4 u 1 (omega arith)))

pub returns-then-is_copy_data : goal.returns-then-is_copy_data
unfolding whole_at
returns-then-is_copy_data c =
    let u = c.args.unread.now in
    let v : c.in_ok-n.n ≡ be (at u 1 4) = cc (told maybe c.read_u32.ensures c.in_ok-n.was, field_whole 4 u 1 (omega arith)) in (
      c.within.ensures.0 ∙ rw (
        v,
        le-ltb _ _ c.if-unread-lt30.false,
        ← c.is_copy_data.ensures,
        c.if-is_copy_data.true,
      ),
      c.within.ensures.1,
    )

pub returns : goal.returns
unfolding whole_at
returns c = (rw (le-ltb _ _ c.if-unread-lt30.false, ← c.is_copy_data.ensures, c.if-is_copy_data.false), omega arith)
