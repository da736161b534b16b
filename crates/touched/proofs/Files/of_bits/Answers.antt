-- Bit by bit.
use Rattle.touched.specs.Bits.{files_by}
use Rattle.touched.proofs.Files.of_bits.Goals as goal

pub returns : goal.returns
unfolding files_by
returns c =
    rw (c.is_odd.ensures, c.is_odd-2.ensures, c.is_odd-3.ensures, c.is_odd-4.ensures)
