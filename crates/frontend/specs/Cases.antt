-- Messages of a client byte by byte, computed of the definitions. SCOPE 3.6, 3.7.
use Rattle.std.specs.Prelude.{◌≡◌, refl, true, false, [], ◌∷◌, pos, negsuc}
use Rattle.wire.specs.Bytes.{be_bytes}
use Rattle.wire.specs.Field.{unsigned}
use Rattle.frames.specs.Message.{framed}
use Rattle.frontend.specs.Frontend.{query, copy_data, copy_done_message, terminate, status_body, status_update, pairs, startup}

pub record Cases : Type 0 where
  -- 0/16B374D8 confirmed at one microsecond after 2000-01-01, no reply asked for
  pub status : status_update 0x16B374D8 (pos 1) false
      ≡ 0x64 ∷ 0 ∷ 0 ∷ 0 ∷ 38 ∷ 0x72
      ∷ 0 ∷ 0 ∷ 0 ∷ 0 ∷ 0x16 ∷ 0xB3 ∷ 0x74 ∷ 0xD8
      ∷ 0 ∷ 0 ∷ 0 ∷ 0 ∷ 0x16 ∷ 0xB3 ∷ 0x74 ∷ 0xD8
      ∷ 0 ∷ 0 ∷ 0 ∷ 0 ∷ 0x16 ∷ 0xB3 ∷ 0x74 ∷ 0xD8
      ∷ 0 ∷ 0 ∷ 0 ∷ 0 ∷ 0 ∷ 0 ∷ 0 ∷ 1 ∷ 0 ∷ []
  -- one microsecond before 2000-01-01, a reply asked for
  pub status_before : status_body 1 (negsuc 0) true
      ≡ 0x72
      ∷ 0 ∷ 0 ∷ 0 ∷ 0 ∷ 0 ∷ 0 ∷ 0 ∷ 1
      ∷ 0 ∷ 0 ∷ 0 ∷ 0 ∷ 0 ∷ 0 ∷ 0 ∷ 1
      ∷ 0 ∷ 0 ∷ 0 ∷ 0 ∷ 0 ∷ 0 ∷ 0 ∷ 1
      ∷ 0xFF ∷ 0xFF ∷ 0xFF ∷ 0xFF ∷ 0xFF ∷ 0xFF ∷ 0xFF ∷ 0xFF ∷ 1 ∷ []
  pub done : copy_done_message ≡ 0x63 ∷ 0 ∷ 0 ∷ 0 ∷ 4 ∷ []
  pub end : terminate ≡ 0x58 ∷ 0 ∷ 0 ∷ 0 ∷ 4 ∷ []
  -- "BEGIN"
  pub begin : query (0x42 ∷ 0x45 ∷ 0x47 ∷ 0x49 ∷ 0x4E ∷ []) ≡ 0x51 ∷ 0 ∷ 0 ∷ 0 ∷ 10 ∷ 0x42 ∷ 0x45 ∷ 0x47 ∷ 0x49 ∷ 0x4E ∷ 0 ∷ []
  pub data_of_one : copy_data (7 ∷ []) ≡ 0x64 ∷ 0 ∷ 0 ∷ 0 ∷ 5 ∷ 7 ∷ []
  -- protocol 3.0 and no pair: the version and the terminator
  pub startup_bare : startup (pos 196608) [] ≡ 0 ∷ 0 ∷ 0 ∷ 9 ∷ 0 ∷ 3 ∷ 0 ∷ 0 ∷ 0 ∷ []

-- they hold, by computing
pub cases : Cases
unfolding be_bytes unsigned framed query copy_data copy_done_message terminate status_body status_update pairs startup
cases =
    record {
      status = refl;
      status_before = refl;
      done = refl;
      end = refl;
      begin = refl;
      data_of_one = refl;
      startup_bare = refl;
    }
