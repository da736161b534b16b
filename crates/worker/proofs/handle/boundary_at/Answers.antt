use Rattle.std.proofs.Common.{◌≤◌, length, arith, drop_of_length-le}
use lib.Seq.{take-nil}
use Rattle.pgoutput.specs.Boundary.{boundary_of}
use Rattle.worker.proofs.handle.boundary_at.Goals as goal

pub returns-then-payload-from : goal.returns-then-payload-from
unfolding boundary_of
returns-then-payload-from c =
    let h : length c.args.payload.now ≤ c.args.from = omega arith in
    rw (drop_of_length-le c.args.payload.now h, take-nil c.args.len)
