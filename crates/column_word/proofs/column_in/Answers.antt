use Prim.Native.Nat.{ℕ}
use mathlib.Core.Path.{◌≡◌}
use mathlib.Core.Bool.{Bool}
use Rattle.column_word.specs.declared.Column.{Column}
use native.Mathlib.Omega.{arith}
use Rattle.column_word.specs.Bits.{bits, unpacked}
use Rattle.column_word.specs.Word.{column_in}
-- columns of equal numbers
use Rattle.column_word.proofs.column_in.Goals as goal

same : (k : Bool) {t t2 l l2 a a2 : ℕ} → t ≡ t2 → l ≡ l2 → a ≡ a2
    → ◌≡◌ {A = Column} (record { key = k; type_oid = t; name_len = l; name_at = a }) (record { key = k; type_oid = t2; name_len = l2; name_at = a2 })
same k q r s = rw (q, r, s)

pub returns : goal.returns
unfolding column_in unpacked bits
returns c = same _ (omega arith) (omega arith) (omega arith)
