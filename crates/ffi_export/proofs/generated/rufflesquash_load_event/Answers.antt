use Rattle.ffi_export.proofs.generated.rufflesquash_load_event.Goals as goal

pub returns : goal.returns
returns c = rw (c.event_words.ensures, c.message_from-made.ensures)
