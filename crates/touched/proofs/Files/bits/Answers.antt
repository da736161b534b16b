-- The sum of the four bits' values.
use Rattle.touched.specs.Bits.{bits_of}
use Rattle.touched.proofs.Files.bits.Goals as goal

pub returns : goal.returns
unfolding bits_of
returns c =
    rw (c.bit-a.ensures.0, c.bit-b.ensures.0, c.bit-c.ensures.0, c.bit-d.ensures.0)
