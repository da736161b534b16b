-- What was measured and what is to come is the whole stream.
use Prim.Native.Nat.{◌+◌, ◌-◌, ◌<◌}
use mathlib.Core.Path.{◌≡◌, ap}
use native.Mathlib.Omega.{arith}
use lib.ListN.{length}
use borrow.Author.Tests.{le-leb, lt-leb}
use Rattle.error.specs.Writer.{counted}
use Rattle.load.specs.Load.{stream_of}
use Rattle.load.proofs.Laws.{stream_left, stream_none}
use Rattle.load.proofs.measure.Goals as goal

pub returns-then-room-used : goal.returns-then-room-used
unfolding counted
returns-then-room-used c =
    let e = stream_left (c.args.messages - c.loop.counter) c.loop.state (omega arith) in
    let n = rw c.message_from-m.ensures at c.message_len-n.ensures in
    let a = c.args in
    let over : a.room < length (stream_of a.messages a.seed) = omega (arith, e, n, c.loop.invariant.0) in
    simp (lt-leb _ _ over)

pub loop-preserved : goal.loop-preserved
loop-preserved c =
    let e = stream_left (c.args.messages - c.loop.counter) c.loop.state (omega arith) in
    let n = rw c.message_from-m.ensures at c.message_len-n.ensures in
    let z : c.args.messages - (c.loop.counter + 1) ≡ c.args.messages - c.loop.counter - 1 = omega arith in
    (rw (z, c.message_from-m.ensures) (omega (arith, e, n, c.loop.invariant.0)), omega arith)

pub returns : goal.returns
unfolding counted
returns c =
    let none = stream_none (c.args.messages - c.loop.counter) c.loop.state (omega arith) in
    let all : c.loop.used ≡ length (stream_of c.args.messages c.args.seed) = omega (arith, ap length none, c.loop.invariant.0) in
    rw (← all) (simp (le-leb _ _ c.loop.invariant.1))
