use Rattle.wire.specs.Field.{unsigned}
use Rattle.ffi_answers.proofs.part.auth_words.Goals as goal

pub returns-in-Err : goal.returns-in-Err
unfolding unsigned
returns-in-Err c = rw (c.number.ensures, c.in-Err.is)
