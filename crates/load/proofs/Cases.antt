-- The cases hold, by computing.
use mathlib.Core.Path.{refl}
use Rattle.wire.specs.Bytes.{be_bytes, put}
use Rattle.wire.specs.Field.{unsigned}
use Rattle.error.specs.Writer.{writing}
use Rattle.frames.specs.Message.{framed}
use Rattle.replication.specs.CopyData.{xlog_data, keep_alive}
use Rattle.pgoutput.specs.Boundary.{begin_bytes, commit_bytes}
use Rattle.load.specs.Load.{bytes_of, payload_of, messages_of, all_bytes, loading}
use Rattle.load.specs.LoadCases.{LoadCases}

pub load_cases : LoadCases
unfolding bytes_of payload_of framed xlog_data keep_alive begin_bytes commit_bytes be_bytes unsigned messages_of all_bytes loading writing put
load_cases =
    record {
      kinds = (refl, refl, refl, refl);
      keepalive = refl;
      begin = refl;
      other = refl;
      commit = refl;
      none = refl;
      seed_zero = refl;
      nothing_to_write = refl;
    }
