-- Counted first, so that nothing is written where it does not fit.
use Rattle.wire.proofs.Laws.{unplaced, placed_at}
use Rattle.text.specs.Numeral.{numeral}
use mathlib.Core.Path.{sym}
use native.Mathlib.Omega.{arith}
use Rattle.text.proofs.place_number.Goals as goal

pub returns-then-out-to : goal.returns-then-out-to
returns-then-out-to c = unplaced _ _ _ (omega arith)

pub returns-then-out-to-2 : goal.returns-then-out-to-2
returns-then-out-to-2 c = unplaced _ _ _ (omega arith)

pub returns : goal.returns
returns c =
    let a = c.args in
    placed_at a.out.now a.to c.places-n.result (numeral a.base 20 a.v) _
    (sym c.places-n.ensures) (omega arith) c.spell.ensures
