use Rattle.ffi_export.proofs.ServerLaws.{field_of}
use Rattle.ffi_export.proofs.server.rufflesquash_error_field.Goals as goal

pub returns : goal.returns
returns c = field_of c.args.field c.parse-fields.ensures c.field-one.ensures c.field_words.ensures
