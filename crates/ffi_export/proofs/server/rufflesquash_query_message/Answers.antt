use Rattle.ffi_export.proofs.ServerLaws.{folded}
use Rattle.ffi_export.proofs.server.rufflesquash_query_message.Goals as goal

pub returns : goal.returns
returns c =
    folded c.query_of-before.ensures _ _ _ c.message-step.result c.message-step.ensures c.query_words.ensures c.fold_words.ensures
