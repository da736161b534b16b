-- The cases, computed.
use mathlib.Core.Path.{refl}
use Rattle.wire.specs.Bytes.{be, be_from}
use Rattle.wire.specs.Field.{field_at, signed}
use Rattle.wire.specs.Find.{index_of}
use Rattle.rows.specs.Layout.{count_at, bytes_at, times_at, read_at, all_bytes}
use Rattle.rows.specs.Rows.{row_said}
use Rattle.relations.specs.Cache.{columns_of, superseded, names_fit, fits, judged, took}
use Rattle.relations.specs.CacheCases.{CacheCases}

pub cache_cases : CacheCases
unfolding be be_from field_at signed index_of count_at bytes_at times_at read_at all_bytes row_said columns_of superseded names_fit fits judged took
cache_cases =
    record {
      flags_fe = refl;
      flags_ff = refl;
      most_columns = refl;
      columns_33 = refl;
      bytes_64 = refl;
      no_columns = refl;
      others_64 = refl;
      one_of_64 = refl;
      others_63 = refl;
      not_held = refl;
      too_many = refl;
      old_short = refl;
      as_many = refl;
      emptied_unheld = refl;
      held_after = refl;
      former_stays = refl;
    }
