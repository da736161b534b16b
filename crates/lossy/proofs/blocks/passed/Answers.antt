-- Block after block of a text is well-formed.
use Rattle.lossy.specs.Blocks.{trails, unfit_at, PassedTo}
use Rattle.lossy.proofs.Pairs.{block_passed, trail_few}
use Prim.Native.Nat.{ℕ, ◌+◌, ◌≤◌, ◌<◌}
use mathlib.Core.Path.{◌≡◌, sym, ◌∙◌}
use native.Mathlib.Omega.{arith}
use mathlib.Core.List.{List}
use lib.ListN.{length, get_or}
use Rattle.lossy.proofs.blocks.passed.Goals as goal

-- the character that goes over the block's end
over : (s : List ℕ) (from i : ℕ) {t u v : ℕ} → PassedTo s from i → i + 32 < length s → t ≡ trails (get_or s i 0) → (t ≡ 1 → ⊥) → u ≡ unfit_at s i 32 → u ≡ 0
    → v ≡ trails (get_or s (i + 32) 0) → (v ≤ 1) × PassedTo s from (i + 32 + v)
over s from i p h e n u z f =
    let m = trail_few (get_or s (i + 32) 0) in
    (rw f m, rw f (block_passed s from i p h (λ y. n (e ∙ y)) (sym u ∙ z)))

pub loop-i-preserved : goal.loop-i-preserved
loop-i-preserved c =
    let o = over c.args.text.now c.args.from c.loop-i.i c.loop-i.invariant.1 (omega arith) c.trail.ensures c.if-trail-eq1.false c.unfit_in.ensures (omega arith) c.trail-in-loop-i.ensures in
    (o.1.within, o.1)
