-- The refusal that a `?` hands on.
use mathlib.Core.Path.{◌≡◌, ap}
use Rattle.std.specs.Prelude.{Result, Ok, Err}
use Rattle.std.specs.Result.{IsErr, IsErrAnd}

pub handed_on : {T E : Type 0} {e : E} (r : Result T E) → IsErr r × IsErrAnd r (λ d. d ≡ e) → r ≡ Err e
handed_on (Ok x) h = absurd h.1
handed_on (Err d) h = ap (λ x. Err x) h.1
