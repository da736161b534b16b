-- The cases, computed.
use mathlib.Core.Path.{refl}
use Rattle.wire.specs.Bytes.{be, be_from}
use Rattle.wire.specs.Field.{field_at, signed}
use Rattle.wire.specs.Find.{index_of}
use Rattle.rows.specs.Layout.{count_at, bytes_at, times_at, read_at, all_bytes}
use Rattle.rows.specs.Rows.{cell_bytes, row_said}
use Rattle.rows.specs.RowCases.{NoRowCases, RefusalCases, RowCases}

pub no_row_cases : NoRowCases
unfolding be be_from field_at signed index_of count_at bytes_at times_at read_at all_bytes cell_bytes row_said
no_row_cases =
    record {
      begin = refl;
      commit = refl;
      message = refl;
    }

pub refusal_cases : RefusalCases
unfolding be be_from field_at signed index_of count_at bytes_at times_at read_at all_bytes cell_bytes row_said
refusal_cases =
    record {
      no_data = refl;
      stream_start = refl;
      zero = refl;
      begin_prepare = refl;
      letter_cut = refl;
      letter_wrong = refl;
      column_wrong = refl;
      count_negative = refl;
      length_negative = refl;
      value_cut = refl;
      delete_new = refl;
      update_without_new = refl;
      update_key_and_old = refl;
      name_unterminated = refl;
      many_relations = refl;
      relations_negative = refl;
    }

pub row_cases : RowCases
unfolding be be_from field_at signed index_of count_at bytes_at times_at read_at all_bytes cell_bytes row_said
row_cases =
    record {
      an_insert_lem = refl;
      an_update_lem = refl;
      its_head = refl;
      new_alone = refl;
      a_delete = refl;
      a_truncate = refl;
      no_relations = refl;
      an_origin = refl;
      a_type = refl;
      a_relation_lem = refl;
      inside_a_value = refl;
      past_the_end = refl;
      column_there = refl;
    }
