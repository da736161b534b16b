-- A text written piece by piece, each after the one before: what is still to be written, put where the writing stands, gives the whole.
use mathlib.Core.Path.{◌≡◌, refl, sym, ◌∙◌}
use mathlib.Core.List.{List, [], ◌++◌, append-nil}
use Prim.Native.Nat.{ℕ, ◌+◌, ◌≤◌}
use native.Mathlib.Omega.{arith}
use lib.ListN.{length, length-append}
use Rattle.wire.specs.Bytes.{put, placed}
use Rattle.wire.proofs.Laws.{put_none, put_next, length_put, placed_at, placed_fits}

-- d₀ is to have whole at place i; it has become d, and rest is still to be written at place r
pub record Filling (d₀ : List ℕ) (i : ℕ) (whole d : List ℕ) (r : ℕ) (rest : List ℕ) : Type 0 where
  pub left : r + length rest ≡ i + length whole
  pub text : put d r rest ≡ put d₀ i whole
  pub same : length d ≡ length d₀

pub filling_start : {d : List ℕ} {i : ℕ} {whole rest : List ℕ} → whole ≡ rest → Filling d i whole d i rest
filling_start {d} {i} {whole} {rest} e = rw e (record { left = refl; text = refl; same = refl })

module _ {d₀ : List ℕ} {i : ℕ} {whole : List ℕ} (h : i + length whole ≤ length d₀) where
  -- the next piece has room
  pub filling_room : {d : List ℕ} {r : ℕ} (piece rest : List ℕ) → Filling d₀ i whole d r (piece ++ rest) → r + length piece ≤ length d
  filling_room piece rest f = omega (arith, length-append piece rest)

  -- the next piece is written
  pub filling_next : {d : List ℕ} {r : ℕ} (piece : List ℕ) {rest e : List ℕ} {q : ℕ} → Filling d₀ i whole d r (piece ++ rest) → (q, e) ≡ placed d r piece → Filling d₀ i whole e q rest
  filling_next {d} {r} piece {rest} {e} {q} f p =
      let k : r + length piece ≤ length d = filling_room piece rest f in
      let w = placed_fits d r piece k p in
      record {
        left = omega (arith, w.0, length-append piece rest);
        text = rw (w.1, w.0) (put_next d piece rest r (length piece) refl k ∙ f.text);
        same = rw w.1 (length_put d piece r k ∙ f.same);
      }

  -- nothing is left
  pub filling_end : {d : List ℕ} {r : ℕ} → Filling d₀ i whole d r [] → (r, d) ≡ placed d₀ i whole
  filling_end {d} {r} f =
      let e : r ≡ i + length whole = omega arith in
      rw e (placed_at d₀ i (length whole) whole d refl h (sym (put_none d r) ∙ f.text))

  -- the last piece
  pub filling_last : {d : List ℕ} {r : ℕ} {piece e : List ℕ} {q : ℕ} → Filling d₀ i whole d r piece → (q, e) ≡ placed d r piece → (q, e) ≡ placed d₀ i whole
  filling_last {d} {r} {piece} {e} {q} f p = filling_end (filling_next piece {rest = []} (rw (append-nil piece) f) p)
