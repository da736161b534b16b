-- Header and keepalive.
use Prim.Native.Nat.{◌+◌, ◌≤◌}
use mathlib.Core.Path.{sym}
use mathlib.Core.List.{append-nil}
use native.Mathlib.Omega.{arith}
use lib.ListN.{length}
use lib.IntN.{pos}
use Rattle.wire.proofs.Pieces.{filling_start, filling_next, filling_last, filling_room}
use Rattle.replication.specs.CopyData.{keep_alive}
use Rattle.load.specs.Load.{bit, bytes_of}
use Rattle.load.specs.Code.{header}
use Rattle.load.specs.declared.Message.TheVariants.{KeepAlive}
use Rattle.load.proofs.Laws.{keep_alive_whole, len_keep_alive, length_keep_alive}
use Rattle.load.proofs.place.keep_alive_message.Goals as goal

pub place_keep_alive-requires : goal.place_keep_alive-requires
place_keep_alive-requires c =
    let a = c.args in
    let h : a.to + length (bytes_of (KeepAlive a.end a.reply)) ≤ length a.out.now = omega (arith, c.requires, len_keep_alive a.end a.reply) in
    let w₀ = filling_next h (header 18) (filling_start (keep_alive_whole a.end a.reply)) c.place_header-a.ensures in
    omega (arith, filling_room h (keep_alive a.end (pos 0) (bit a.reply)) _ (rw (sym (append-nil (keep_alive a.end (pos 0) (bit a.reply)))) at w₀), length_keep_alive a.end (bit a.reply))

pub returns : goal.returns
returns c =
    let a = c.args in
    let h : a.to + length (bytes_of (KeepAlive a.end a.reply)) ≤ length a.out.now = omega (arith, c.requires, len_keep_alive a.end a.reply) in
    let w₀ = filling_next h (header 18) (filling_start (keep_alive_whole a.end a.reply)) c.place_header-a.ensures in
    filling_last h w₀ c.place_keep_alive.ensures
