-- The letter `I`, and the letters after it.
use Prim.Native.Nat.{ℕ, ◌+◌, ◌≤◌}
use mathlib.Core.List.{◌∷◌}
use native.Mathlib.Omega.{arith}
use lib.ListN.{length, replicate}
use Rattle.wire.proofs.Pieces.{filling_start, filling_next, filling_last}
use Rattle.load.proofs.Laws.{letters_pieces, length_letters, take_letters}
use Rattle.load.proofs.place.place_letters.Goals as goal

pub returns : goal.returns
returns c =
    let a = c.args in
    let h : a.to + length {A = ℕ} (73 ∷ replicate a.n 65) ≤ length a.out.now = omega (arith, c.requires, length_letters a.n) in
    let w = filling_next h _ (filling_start (letters_pieces a.n)) c.write_u8-a.ensures in
    filling_last h w (rw (take_letters 255 a.n (omega arith)) at c.place.ensures)
