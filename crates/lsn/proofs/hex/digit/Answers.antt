use Rattle.lsn.proofs.Laws.{digit_read}
use Rattle.lsn.proofs.hex.digit.Goals as goal

pub returns : goal.returns
returns c = rw c.from.ensures at (digit_read c.from.result c.to_digit.result c.to_digit.ensures.value)
