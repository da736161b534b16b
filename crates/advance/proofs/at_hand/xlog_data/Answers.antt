use Rattle.std.proofs.Common.{◌≡◌, ◌-◌, length, sym, ap, ◌∙◌, arith, w64, SFits}
use mir.ValLaws.{to_z-of_z}
use Rattle.wire.specs.Answer.{maybe}
use Rattle.wire.proofs.FieldLaws.{told}
use Rattle.replication.specs.CopyData as C
use Rattle.advance.specs.AtHand.{hand_by, by_copy_data}
use Rattle.advance.proofs.Laws.{field_short, int_short, xlog_short, xlog_fields}
use Rattle.advance.proofs.at_hand.xlog_data.Goals as goal

pub returns-in_err-start : goal.returns-in_err-start
returns-in_err-start c =
    let s = c.args.payload.now in
    let h = field_short 8 s 1 (sym (told maybe c.read_u64.ensures c.in_err-start.was)) in
    rw c.from_residual.ensures (xlog_short s (omega arith), tt)

pub returns-in_err-end : goal.returns-in_err-end
returns-in_err-end c =
    let s = c.args.payload.now in
    let h = field_short 8 s 9 (sym (told maybe c.read_u64-2.ensures c.in_err-end.was)) in
    rw c.from_residual-in_err-end.ensures (xlog_short s (omega arith), tt)

pub returns-in_err-server_time : goal.returns-in_err-server_time
returns-in_err-server_time c =
    let s = c.args.payload.now in
    let h = int_short 8 s 17 (sym (told maybe c.read_i64.ensures c.in_err-server_time.was)) in
    rw c.from_residual-in_err-server_time.ensures (xlog_short s (omega arith), tt)

pub overflow_sub-n : goal.overflow_sub-n
overflow_sub-n c =
    let x =
    xlog_fields c.args.payload.now _ _ _
    (sym (told maybe c.read_u64.ensures c.in_ok-start.was))
    (sym (told maybe c.read_u64-2.ensures c.in_ok-end.was))
    (sym (told maybe c.read_i64.ensures c.in_ok-server_time.was)) in
    x.0

pub returns : goal.returns
returns c =
    let s = c.args.payload.now in
    let z = c.in_ok-server_time.server_time in
    let f : SFits w64 z = record { sfits = omega arith } in
    let x =
    xlog_fields s _ _ z
    (sym (told maybe c.read_u64.ensures c.in_ok-start.was))
    (sym (told maybe c.read_u64-2.ensures c.in_ok-end.was))
    (sym (told maybe c.read_i64.ensures c.in_ok-server_time.was)) in
    let e : hand_by c.by_event.result ≡ by_copy_data s (C.w c.in_ok-start.start c.in_ok-end.end z 25 (length s - 25)) =
    c.by_event.ensures.0 ∙ rw (c.event_at-given.ensures, to_z-of_z w64 z f) in
    (e ∙ ap (by_copy_data s) x.1, c.by_event.ensures.1)
