use Rattle.ffi_export.proofs.ServerLaws.{read}
use Rattle.ffi_export.proofs.server.rufflesquash_read.Goals as goal

pub returns : goal.returns
returns c =
    read c.reader_of-before.ensures _ _ _ _ c.read-step.result c.read-step.ensures c.reader_words.ensures c.read_words.ensures
