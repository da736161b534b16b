-- The cases, computed.
use mathlib.Core.Path.{refl}
use Rattle.wire.specs.Bytes.{be, be_from}
use Rattle.wire.specs.Field.{field_at, signed}
use Rattle.wire.specs.Find.{index_of}
use Rattle.rows.specs.Layout.{count_at, bytes_at, times_at, read_at}
use Rattle.rows.specs.Rows.{row_said}
use Rattle.touched.specs.Bits.{bits_of, files_by}
use Rattle.touched.specs.Touched.{paired, has_no_file, file_of, is_among, after_of}
use Rattle.touched.specs.TouchedCases.{TouchedCases, MessageCases, BitCases}

pub touched_cases : TouchedCases
unfolding be be_from field_at signed index_of count_at bytes_at times_at read_at row_said paired has_no_file file_of is_among after_of
touched_cases =
    record {
      a_row = refl;
      a_cut_row = refl;
      every_relation = refl;
      a_cut_truncate_lem = refl;
      an_unlisted_relation = refl;
      a_begin = refl;
      a_commit = refl;
      a_bad_file = refl;
      a_lone_file = refl;
      a_lone_identifier = refl;
      the_sixty_fourth = refl;
      the_sixty_fourth_bad = refl;
      the_sixty_fifth = refl;
      the_sixty_fifth_bad = refl;
    }

pub message_cases : MessageCases
unfolding be be_from field_at signed index_of count_at bytes_at times_at read_at row_said paired has_no_file file_of is_among after_of
message_cases =
    record {
      an_update_lem = refl;
      with_a_key = refl;
      with_an_old_row = refl;
      a_delete = refl;
      of_an_old_row = refl;
      an_update_without_new = refl;
      a_wrong_letter = refl;
      no_relations = refl;
      a_relation_lem = refl;
      a_type = refl;
      an_origin = refl;
      a_boundary = refl;
      no_data = refl;
    }

pub bit_cases : BitCases
unfolding bits_of files_by
bit_cases =
    record {
      file_zero = refl;
      file_one = refl;
      file_two = refl;
      file_three = refl;
      above_the_four = refl;
    }
