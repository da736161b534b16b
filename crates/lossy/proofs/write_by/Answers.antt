-- The three ways out of a writer, by the length that was measured.
use Rattle.wire.specs.Bytes.{placed}
use Rattle.error.specs.Writer.{input_limit, writing}
use Rattle.error.proofs.Laws.{too_long, no_room, wrote, wrote_placed}
use Rattle.lossy.specs.Lossy.{lossy_of}
use Rattle.lossy.specs.Marks.{marks_of}
use Rattle.lossy.proofs.Laws.{measured_fits, measured_over, marked}
use Rattle.lossy.proofs.Stretches.{unmarked_is_unchanged}
use Prim.Native.Nat.{ℕ, ◌≤◌}
use mathlib.Core.Path.{◌≡◌, refl, sym, ap, ◌∙◌}
use mathlib.Core.List.{List}
use native.Mathlib.Omega.{arith}
use lib.ListN.{length}
use Rattle.lossy.proofs.write_by.Goals as goal

pub returns-then-text-gt-INPUT_LIMIT : goal.returns-then-text-gt-INPUT_LIMIT
returns-then-text-gt-INPUT_LIMIT g c = marked 25 0 0 _ (too_long _ _ _ c.if-text-gt-INPUT_LIMIT.true) refl

pub returns-in_default : goal.returns-in_default
returns-in_default g c = marked 4 0 0 _ (no_room _ _ _ (omega arith) (measured_over _ _ _ c.measure_by.ensures c.in_default.is)) refl

-- a text without marks was placed as it is
unmarked : (s out : List ℕ) {q : List ℕ} {n r : ℕ} → length s ≤ input_limit → length (lossy_of s) ≡ n → n ≤ length out → marks_of s ≡ 0 → (r, q) ≡ placed out 0 s
    → ((0, n), q) ≡ writing (length s) (lossy_of s) out
unmarked s out h e k z p = wrote_placed (length s) (lossy_of s) out h e k (p ∙ ap (λ (x : List ℕ). placed out 0 x) (sym (unmarked_is_unchanged s z)))

pub returns-then-length-eq0 : goal.returns-then-length-eq0
returns-then-length-eq0 g c =
    let h = measured_fits _ _ _ c.measure_by.ensures c.in-Some.is in
    marked 0 _ _ _ (unmarked _ _ (omega arith) h.0 h.1 (omega arith) c.place.ensures) (sym h.2)

pub fill-requires : goal.fill-requires
fill-requires g c = let h = measured_fits _ _ _ c.measure_by.ensures c.in-Some.is in (omega arith, c.requires)

pub returns : goal.returns
returns g c =
    let h = measured_fits _ _ _ c.measure_by.ensures c.in-Some.is in
    marked 0 _ _ _ (wrote _ _ _ _ _ (omega arith) h.0 h.1 c.fill.ensures) (sym h.2)
