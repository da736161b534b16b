-- The lines one after the other: what is still to be written, put where the writing stands, gives the page (Filling).
use mathlib.Core.Path.{◌≡◌}
use Prim.Native.Nat.{◌+◌, ◌≤◌}
use native.Mathlib.Omega.{arith}
use lib.ListN.{length}
use Rattle.wire.proofs.Pieces.{filling_start, filling_next, filling_last}
use Rattle.text.specs.Ascii.{ascii}
use Rattle.error.proofs.Laws.{no_room, wrote_placed}
use Rattle.page.specs.Page.{page_of}
use Rattle.page.specs.Reader.{In64}
use Rattle.page.proofs.Laws.{length_page, page_pieces}
use Rattle.page.proofs.Page.write.Goals as goal

pub returns-then-out-lt-PAGE : goal.returns-then-out-lt-PAGE
returns-then-out-lt-PAGE c =
    let b : In64 c.args.self = record { position = omega arith; confirmed = omega arith; server = omega arith; events = omega arith; stalls = omega arith } in
    no_room 0 _ _ (omega arith) (omega (arith, length_page c.args.self b))

pub returns : goal.returns
unfolding ascii
returns c =
    let b : In64 c.args.self = record { position = omega arith; confirmed = omega arith; server = omega arith; events = omega arith; stalls = omega arith } in
    let a = c.args in
    let l : length (page_of a.self) ≡ 198 = length_page a.self b in
    let h : 0 + length (page_of a.self) ≤ length a.out.now = omega (arith, c.if-out-lt-PAGE.false) in
    let f₁ = filling_next h _ (filling_start (page_pieces a.self)) c.place_position-a.ensures in
    let f₂ = filling_next h _ f₁ c.place_sent-b.ensures in
    let f₃ = filling_next h _ f₂ c.place_position-c.ensures in
    let f₄ = filling_next h _ f₃ c.place_count-d.ensures in
    let f₅ = filling_next h _ f₄ c.place_count-e.ensures in
    wrote_placed 0 (page_of a.self) a.out.now (omega arith) l (omega arith) (filling_last h f₅ c.place_state.ensures)
