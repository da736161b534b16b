use Rattle.advance.specs.Advance.{advance_of}
use Rattle.ffi_export.proofs.Laws.{made}
use mir.Syntax.{w64}
use mir.ValLaws.{to_z-of_z}
use Rattle.ffi_export.proofs.rufflesquash_advance.Goals as goal

pub returns : goal.returns
returns c =
    let back = to_z-of_z w64 c.args.client_time c.ranges.client_time in
    made c.run_of-before.ensures advance_of _ c.advance-s.result (rw back at c.input_of-input.ensures) c.advance-s.ensures c.words_of.ensures c.answer_words.ensures
