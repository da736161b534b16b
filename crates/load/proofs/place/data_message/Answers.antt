-- Header, the head of the XLogData, and the letters.
use Prim.Native.Nat.{ℕ, ◌+◌, ◌≤◌}
use mathlib.Core.List.{◌∷◌}
use mathlib.Core.Path.{sym}
use mathlib.Core.List.{append-nil}
use native.Mathlib.Omega.{arith}
use lib.ListN.{length, replicate}
use Rattle.wire.proofs.Pieces.{filling_start, filling_next, filling_last, filling_room}
use Rattle.load.specs.Load.{bytes_of}
use Rattle.load.specs.Code.{header, xlog_head}
use Rattle.load.specs.declared.Message.TheVariants.{Data}
use Rattle.load.proofs.Laws.{data_whole, len_data, length_xlog, length_letters}
use Rattle.load.proofs.place.data_message.Goals as goal

pub place_xlog_head-b-requires : goal.place_xlog_head-b-requires
place_xlog_head-b-requires c =
    let a = c.args in
    let h : a.to + length (bytes_of (Data a.start a.end a.letters)) ≤ length a.out.now = omega (arith, c.requires, len_data a.start a.end a.letters) in
    let w₀ = filling_next h (header (a.letters + 26)) (filling_start (data_whole a.start a.end a.letters)) c.place_header-a.ensures in
    omega (arith, filling_room h (xlog_head a.start a.end) _ w₀, length_xlog a.start a.end)

pub place_letters-requires : goal.place_letters-requires
place_letters-requires c =
    let a = c.args in
    let h : a.to + length (bytes_of (Data a.start a.end a.letters)) ≤ length a.out.now = omega (arith, c.requires, len_data a.start a.end a.letters) in
    let w₀ = filling_next h (header (a.letters + 26)) (filling_start (data_whole a.start a.end a.letters)) c.place_header-a.ensures in
    let w₁ = filling_next h (xlog_head a.start a.end) w₀ c.place_xlog_head-b.ensures in
    omega (arith, filling_room h (73 ∷ replicate a.letters 65) _ (rw (sym (append-nil {A = ℕ} (73 ∷ replicate a.letters 65))) at w₁), length_letters a.letters)

pub returns : goal.returns
returns c =
    let a = c.args in
    let h : a.to + length (bytes_of (Data a.start a.end a.letters)) ≤ length a.out.now = omega (arith, c.requires, len_data a.start a.end a.letters) in
    let w₀ = filling_next h (header (a.letters + 26)) (filling_start (data_whole a.start a.end a.letters)) c.place_header-a.ensures in
    let w₁ = filling_next h (xlog_head a.start a.end) w₀ c.place_xlog_head-b.ensures in
    filling_last h w₁ c.place_letters.ensures
