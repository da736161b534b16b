-- The cases, computed.
use mathlib.Core.Path.{refl}
use Rattle.wire.specs.Bytes.{be, be_from, put, placed}
use Rattle.wire.specs.Field.{field_at, signed}
use Rattle.wire.specs.Find.{index_of}
use Rattle.rows.specs.Layout.{count_at, bytes_at, times_at, read_at, all_bytes}
use Rattle.rows.specs.Rows.{row_said}
use Rattle.relations.specs.Cache.{names_fit, fits, judged}
use Rattle.relations.specs.Memory.{place_of}
use Rattle.column_word.specs.Bits.{bits, packed as packed_bits, unpacked}
use Rattle.column_word.specs.Word.{word_of, column_in}
use Rattle.packed_relations.specs.Packed.{lens_from, slot_lens, new_lens, lie_in, place_words, place_slots, store_words, message_of}
use Rattle.packed_relations.specs.PackedCases.{PackedCases}

pub packed_cases : PackedCases
unfolding be be_from put placed field_at signed index_of count_at bytes_at times_at read_at all_bytes row_said names_fit fits judged place_of bits packed_bits unpacked word_of column_in lens_from slot_lens new_lens lie_in place_words place_slots store_words message_of
packed_cases = record { ones = refl; last = refl; beyond = refl; less_lent = refl; text_key = refl; held_after = refl; no_byte = refl; moved_behind = refl }
