-- The pieces one after the other: what is still to be written, put where the writing stands, gives the whole (Filling).
use Prim.Native.Nat.{◌+◌, ◌-◌, ◌≤◌}
use native.Mathlib.Omega.{arith}
use lib.ListN.{length}
use Rattle.wire.specs.Bytes.{be_bytes}
use Rattle.wire.proofs.Pieces.{filling_start, filling_next, filling_last}
use Rattle.config.specs.OptionValue.{option_value}
use Rattle.frontend.specs.Frontend.{query}
use Rattle.lsn.specs.Position.{display_of}
use Rattle.request.specs.Request.{start_replication, slot_part, position_part, names_part}
use Rattle.request.proofs.Laws.{length_request, pieces}
use Rattle.request.proofs.place_query.Goals as goal

pub overflow_sub-n : goal.overflow_sub-n
overflow_sub-n c =
    let a = c.args in
    omega (arith, length_request a.binary a.slot.now a.publications.now a.position, c.requires.0)

pub returns : goal.returns
returns c =
    let a = c.args in
    let h : 0 + length (query (start_replication a.binary a.slot.now a.publications.now a.position)) ≤ length a.out.now =
    omega (arith, c.requires.0, c.requires.1) in
    let f₀ = filling_start (pieces a.binary a.slot.now a.publications.now a.position a.n c.requires.0) in
    let f₁ = filling_next h (be_bytes 1 81) f₀ c.write_u8-a.ensures in
    let f₂ = filling_next h (be_bytes 4 (a.n - 1)) f₁ c.write_be-b.ensures in
    let f₃ = filling_next h slot_part f₂ c.place-c.ensures in
    let f₄ = filling_next h a.slot.now f₃ c.place-d.ensures in
    let f₅ = filling_next h position_part f₄ c.place-e.ensures in
    let f₆ = filling_next h (display_of a.position.0) f₅ c.place-f.ensures in
    let f₇ = filling_next h names_part f₆ c.place-g.ensures in
    let f₈ = filling_next h (option_value a.publications.now) f₇ c.place-h.ensures in
    filling_last h f₈ c.place_end.ensures
