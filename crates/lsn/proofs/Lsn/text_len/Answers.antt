use Prim.Native.Nat.{ℕ, ◌+◌, ◌/◌, ◌%◌, ◌^◌, ◌≤◌}
use lib.ListN.{length}
use Rattle.text.specs.Numeral.{hex_text}
use native.Mathlib.Omega.{arith}
use Rattle.text.proofs.Laws.{numeral_length}
use Rattle.lsn.proofs.Laws.{length_display}
-- two halves of 20 digits at most
use Rattle.lsn.proofs.Lsn.text_len.Goals as goal

short : (v : ℕ) → length (hex_text (v / 2 ^ 32)) + length (hex_text (v % 2 ^ 32)) ≤ 40
short v = omega (arith, numeral_length 16 20 (v / 2 ^ 32), numeral_length 16 20 (v % 2 ^ 32))

pub overflow_add-result : goal.overflow_add-result
overflow_add-result c = omega (arith, short c.args.self.0)

pub overflow_add-result-2 : goal.overflow_add-result-2
overflow_add-result-2 c = omega (arith, short c.args.self.0)

pub returns : goal.returns
returns c = omega (arith, length_display c.args.self.0)
