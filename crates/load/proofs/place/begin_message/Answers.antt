-- Header, the head of the XLogData, and the Begin.
use Prim.Native.Nat.{◌+◌, ◌≤◌}
use mathlib.Core.Path.{sym}
use mathlib.Core.List.{append-nil}
use native.Mathlib.Omega.{arith}
use lib.ListN.{length}
use lib.IntN.{pos}
use Rattle.wire.proofs.Pieces.{filling_start, filling_next, filling_last, filling_room}
use Rattle.pgoutput.specs.Boundary.{begin_bytes}
use Rattle.load.specs.Load.{bytes_of}
use Rattle.load.specs.Code.{header, xlog_head}
use Rattle.load.specs.declared.Message.TheVariants.{Begin}
use Rattle.load.proofs.Laws.{begin_whole, len_begin, length_xlog, length_begin}
use Rattle.load.proofs.place.begin_message.Goals as goal

pub place_xlog_head-b-requires : goal.place_xlog_head-b-requires
place_xlog_head-b-requires c =
    let a = c.args in
    let h : a.to + length (bytes_of (Begin a.start a.end a.final_lsn a.xid)) ≤ length a.out.now = omega (arith, c.requires, len_begin a.start a.end a.final_lsn a.xid) in
    let w₀ = filling_next h (header 46) (filling_start (begin_whole a.start a.end a.final_lsn a.xid)) c.place_header-a.ensures in
    omega (arith, filling_room h (xlog_head a.start a.end) _ w₀, length_xlog a.start a.end)

pub place_begin-requires : goal.place_begin-requires
place_begin-requires c =
    let a = c.args in
    let h : a.to + length (bytes_of (Begin a.start a.end a.final_lsn a.xid)) ≤ length a.out.now = omega (arith, c.requires, len_begin a.start a.end a.final_lsn a.xid) in
    let w₀ = filling_next h (header 46) (filling_start (begin_whole a.start a.end a.final_lsn a.xid)) c.place_header-a.ensures in
    let w₁ = filling_next h (xlog_head a.start a.end) w₀ c.place_xlog_head-b.ensures in
    omega (arith, filling_room h (begin_bytes a.final_lsn (pos 0) a.xid) _ (rw (sym (append-nil (begin_bytes a.final_lsn (pos 0) a.xid))) at w₁), length_begin a.final_lsn a.xid)

pub returns : goal.returns
returns c =
    let a = c.args in
    let h : a.to + length (bytes_of (Begin a.start a.end a.final_lsn a.xid)) ≤ length a.out.now = omega (arith, c.requires, len_begin a.start a.end a.final_lsn a.xid) in
    let w₀ = filling_next h (header 46) (filling_start (begin_whole a.start a.end a.final_lsn a.xid)) c.place_header-a.ensures in
    let w₁ = filling_next h (xlog_head a.start a.end) w₀ c.place_xlog_head-b.ensures in
    filling_last h w₁ c.place_begin.ensures
