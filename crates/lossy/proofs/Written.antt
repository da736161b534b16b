-- What a writer has written, a stretch and the mark after it at a time. Over variables, so that no rewriting meets the code.
use mathlib.Core.Path.{◌≡◌, sym, ◌∙◌}
use mathlib.Core.List.{List, [], ◌∷◌}
use Prim.Native.Nat.{ℕ, ◌≤◌, ◌+◌, ◌-◌}
use lib.ListN.{length, take, drop}
use Rattle.wire.specs.Bytes.{put, placed}
use Rattle.wire.proofs.Laws.{put_none}
use Rattle.wire.proofs.Pieces.{Filling, filling_next}
use Rattle.lossy.specs.Lossy.{lossy_of}
use Rattle.lossy.specs.Code.{StretchAt}
use Rattle.lossy.specs.declared.Stretch.{Stretch}
use Rattle.lossy.proofs.Stretches.{stretch_text, last_text, mark_text}

-- d₀ is the output at first, d what it has become
module _ (s : List ℕ) (i : ℕ) (t : Stretch) (h : i ≤ length s) (a : StretchAt s i t) {d₀ : List ℕ} {to : ℕ} where
  pub stretch_written : {d e : List ℕ} {r q : ℕ} → to + length (lossy_of s) ≤ length d₀ → Filling d₀ to (lossy_of s) d r (lossy_of (drop i s))
      → (q, e) ≡ placed d r (take (t.end - i) (drop i s)) → Filling d₀ to (lossy_of s) e q (lossy_of (drop t.end s))
  stretch_written f g p = filling_next f (take (t.end - i) (drop i s)) (rw (stretch_text s i t h a) at g) p

  pub mark_written : {d e : List ℕ} {r q : ℕ} → 1 ≤ t.ill → to + length (lossy_of s) ≤ length d₀ → Filling d₀ to (lossy_of s) d r (lossy_of (drop t.end s))
      → (q, e) ≡ placed d r (0xEF ∷ 0xBF ∷ 0xBD ∷ []) → Filling d₀ to (lossy_of s) e q (lossy_of (drop (t.end + t.ill) s))
  mark_written o f g p = filling_next f (0xEF ∷ 0xBF ∷ 0xBD ∷ []) (rw (mark_text s i t h a o) at g) p

  pub all_written : {d : List ℕ} {r : ℕ} → t.ill ≡ 0 → Filling d₀ to (lossy_of s) d r (lossy_of (drop t.end s)) → d ≡ put d₀ to (lossy_of s)
  all_written {d} {r} z g = sym (put_none d r) ∙ rw (last_text s i t h a z) at g.text
