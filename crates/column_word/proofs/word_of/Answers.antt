use native.Mathlib.Omega.{arith}
use Rattle.column_word.specs.Bits.{bits, packed}
use Rattle.column_word.specs.Word.{word_of}
use Rattle.column_word.proofs.word_of.Goals as goal

pub returns : goal.returns
unfolding word_of packed bits
returns c = omega arith
