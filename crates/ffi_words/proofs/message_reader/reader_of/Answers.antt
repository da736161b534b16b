use Rattle.ffi_words.proofs.message_reader.reader_of.Goals as goal

pub returns : goal.returns
returns c =
    rw (
      c.flag_of.ensures,
      c.byte_of-5.ensures,
      c.byte_of-4.ensures,
      c.byte_of-3.ensures,
      c.byte_of-2.ensures,
      c.byte_of.ensures,
    )
