-- Header, the head of the XLogData, and the Commit.
use Prim.Native.Nat.{◌+◌, ◌≤◌}
use mathlib.Core.Path.{sym}
use mathlib.Core.List.{append-nil}
use native.Mathlib.Omega.{arith}
use lib.ListN.{length}
use lib.IntN.{pos}
use Rattle.wire.proofs.Pieces.{filling_start, filling_next, filling_last, filling_room}
use Rattle.pgoutput.specs.Boundary.{commit_bytes}
use Rattle.load.specs.Load.{bytes_of}
use Rattle.load.specs.Code.{header, xlog_head}
use Rattle.load.specs.declared.Message.TheVariants.{Commit}
use Rattle.load.proofs.Laws.{commit_whole, len_commit, length_xlog, length_commit}
use Rattle.load.proofs.place.commit_message.Goals as goal

pub place_xlog_head-b-requires : goal.place_xlog_head-b-requires
place_xlog_head-b-requires c =
    let a = c.args in
    let h : a.to + length (bytes_of (Commit a.start a.end a.lsn a.end_lsn)) ≤ length a.out.now = omega (arith, c.requires, len_commit a.start a.end a.lsn a.end_lsn) in
    let w₀ = filling_next h (header 51) (filling_start (commit_whole a.start a.end a.lsn a.end_lsn)) c.place_header-a.ensures in
    omega (arith, filling_room h (xlog_head a.start a.end) _ w₀, length_xlog a.start a.end)

pub place_commit-requires : goal.place_commit-requires
place_commit-requires c =
    let a = c.args in
    let h : a.to + length (bytes_of (Commit a.start a.end a.lsn a.end_lsn)) ≤ length a.out.now = omega (arith, c.requires, len_commit a.start a.end a.lsn a.end_lsn) in
    let w₀ = filling_next h (header 51) (filling_start (commit_whole a.start a.end a.lsn a.end_lsn)) c.place_header-a.ensures in
    let w₁ = filling_next h (xlog_head a.start a.end) w₀ c.place_xlog_head-b.ensures in
    omega (arith, filling_room h (commit_bytes 0 a.lsn a.end_lsn (pos 0)) _ (rw (sym (append-nil (commit_bytes 0 a.lsn a.end_lsn (pos 0)))) at w₁), length_commit a.lsn a.end_lsn)

pub returns : goal.returns
returns c =
    let a = c.args in
    let h : a.to + length (bytes_of (Commit a.start a.end a.lsn a.end_lsn)) ≤ length a.out.now = omega (arith, c.requires, len_commit a.start a.end a.lsn a.end_lsn) in
    let w₀ = filling_next h (header 51) (filling_start (commit_whole a.start a.end a.lsn a.end_lsn)) c.place_header-a.ensures in
    let w₁ = filling_next h (xlog_head a.start a.end) w₀ c.place_xlog_head-b.ensures in
    filling_last h w₁ c.place_commit.ensures
