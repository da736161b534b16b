-- The messages written and those to come are the whole stream.
use Prim.Native.Nat.{◌+◌, ◌-◌, ◌≤◌}
use mathlib.Core.Path.{◌≡◌}
use native.Mathlib.Omega.{arith}
use lib.ListN.{length}
use Rattle.wire.proofs.Pieces.{filling_next, filling_end, filling_room}
use Rattle.wire.proofs.Laws.{placed_fits}
use Rattle.load.specs.Load.{stream_of, made_of, bytes_of}
use Rattle.load.proofs.Laws.{stream_some, stream_none}
use Rattle.load.proofs.fill.Goals as goal

pub message-at-requires : goal.message-at-requires
message-at-requires c =
    let h : 0 + length (stream_of c.args.messages c.args.seed) ≤ length c.args.out.now = omega (arith, c.requires) in
    let f = rw (stream_some (c.args.messages - c.loop.counter) c.loop.state (omega arith)) at c.loop.invariant in
    rw c.message_from-m.ensures (filling_room h (bytes_of (made_of c.loop.state).message) _ f)

pub loop-preserved : goal.loop-preserved
loop-preserved c =
    let h : 0 + length (stream_of c.args.messages c.args.seed) ≤ length c.args.out.now = omega (arith, c.requires) in
    let f = rw (stream_some (c.args.messages - c.loop.counter) c.loop.state (omega arith)) at c.loop.invariant in
    let z : c.args.messages - (c.loop.counter + 1) ≡ c.args.messages - c.loop.counter - 1 = omega arith in
    rw (z, c.message_from-m.ensures) (filling_next h (bytes_of (made_of c.loop.state).message) f (rw c.message_from-m.ensures at c.message-at.ensures))

pub returns : goal.returns
returns c =
    let h : 0 + length (stream_of c.args.messages c.args.seed) ≤ length c.args.out.now = omega (arith, c.requires) in
    let f = rw (stream_none (c.args.messages - c.loop.counter) c.loop.state (omega arith)) at c.loop.invariant in
    (placed_fits _ 0 _ h (filling_end h f)).1
