-- Each answer about a boundary says its own values.
use mathlib.Core.Path.{refl}
use Rattle.pgoutput.specs.Said.{BoundarySaid}

pub boundary_said : BoundarySaid
boundary_said =
    record {
      of_begin = λ final time xid. refl;
      of_commit = λ position end time. refl;
      of_message = λ flag position prefix_from prefix_len from len. refl;
      of_none = refl;
      of_refused = λ r. refl;
    }
