-- A sign, then the digits.
use Rattle.wire.proofs.Laws.{unplaced, placed_at}
use Rattle.text.specs.Numeral.{decimal_text}
use Rattle.text.proofs.Laws.{numeral_length, signed_digits}
use Prim.Native.Nat.{◌+◌}
use mathlib.Core.Path.{sym}
use mathlib.Core.List.{◌∷◌}
use native.Mathlib.Omega.{arith}
use Rattle.text.proofs.place_negative.Goals as goal

pub returns-then-out-to : goal.returns-then-out-to
returns-then-out-to c = unplaced _ _ _ (omega arith)

pub overflow_add-n : goal.overflow_add-n
overflow_add-n c = omega (arith, numeral_length 10 20 c.args.m)

pub returns-then-out-to-2 : goal.returns-then-out-to-2
returns-then-out-to-2 c = unplaced _ _ _ (omega arith)

pub returns : goal.returns
returns c =
    let a = c.args in
    let n = c.places-n in
    placed_at a.out.now a.to (n.result + 1) (45 ∷ decimal_text a.m) _ (omega arith) (omega arith)
    (signed_digits a.out.now _ a.to n.result (decimal_text a.m) (sym n.ensures) (omega arith) c.spell.ensures)
