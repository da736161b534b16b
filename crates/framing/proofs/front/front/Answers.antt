-- The tests in the order in which the front is judged: a header, its length, the limit, and the payload.
use mathlib.Core.Path.{◌≡◌}
use native.Mathlib.Omega.{arith}
use Rattle.wire.specs.Answer.{maybe}
use Rattle.wire.proofs.FieldLaws.{told, field_whole}
use Rattle.wire.proofs.Laws.{impossible}
use Rattle.frames.specs.Message.{length_field}
use Rattle.framing.proofs.Length.{length_good, header_none, length_none, over_none, cut_none, whole_some}
use Rattle.framing.proofs.front.front.Goals as goal

pub returns-then-unread-lt5 : goal.returns-then-unread-lt5
returns-then-unread-lt5 c = (header_none _ _ c.if-unread-lt5.true, omega arith)

pub returns-in_err-read_u32 : goal.returns-in_err-read_u32
returns-in_err-read_u32 c =
    let u = c.args.unread.now in
    impossible (cc (told maybe c.read_u32.ensures c.in_err-read_u32.was, field_whole 4 u 1 (omega arith)))

pub returns-in_err-len : goal.returns-in_err-len
returns-in_err-len c =
    let u = c.args.unread.now in
    let v : c.in_ok-read_u32.field-0 ≡ length_field u = cc (told maybe c.read_u32.ensures c.in_ok-read_u32.was, field_whole 4 u 1 (omega arith)) in
    rw c.from_residual-in_err-len.ensures (
      length_none c.args.max_message_size u c.if-unread-lt5.false _ v (told maybe c.payload_len.ensures c.in_err-len.was),
      omega arith,
    )

pub returns-then-limit_of-len : goal.returns-then-limit_of-len
returns-then-limit_of-len c =
    let u = c.args.unread.now in
    let v : c.in_ok-read_u32.field-0 ≡ length_field u = cc (told maybe c.read_u32.ensures c.in_ok-read_u32.was, field_whole 4 u 1 (omega arith)) in
    let g = length_good _ _ (told maybe c.payload_len.ensures c.in_ok-len.was) in
    (over_none _ u c.if-unread-lt5.false _ v _ g (rw c.limit_of.ensures at c.if-limit_of-len.true), omega arith)

pub returns-then-unread-len : goal.returns-then-unread-len
returns-then-unread-len c =
    let u = c.args.unread.now in
    let v : c.in_ok-read_u32.field-0 ≡ length_field u = cc (told maybe c.read_u32.ensures c.in_ok-read_u32.was, field_whole 4 u 1 (omega arith)) in
    let g = length_good _ _ (told maybe c.payload_len.ensures c.in_ok-len.was) in (
      cut_none _ u c.if-unread-lt5.false _ v _ g (rw c.limit_of.ensures at c.if-limit_of-len.false) c.if-unread-len.true,
      omega arith,
    )

pub returns : goal.returns
returns c =
    let u = c.args.unread.now in
    let v : c.in_ok-read_u32.field-0 ≡ length_field u = cc (told maybe c.read_u32.ensures c.in_ok-read_u32.was, field_whole 4 u 1 (omega arith)) in
    let g = length_good _ _ (told maybe c.payload_len.ensures c.in_ok-len.was) in (
      whole_some _ u c.if-unread-lt5.false _ v _ g (rw c.limit_of.ensures at c.if-limit_of-len.false) c.if-unread-len.false,
      omega arith,
    )
