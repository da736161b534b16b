-- 25, then 4, then the query. Three ways out need that the inputs are short enough, which two tests say together; and the sum that the code
-- makes is the query's length.
use mathlib.Core.Path.{◌≡◌, sym}
use Prim.Native.Nat.{◌+◌, ◌≤◌}
use native.Mathlib.Omega.{arith}
use lib.ListN.{length}
use Rattle.error.specs.Inputs.{total}
use Rattle.error.specs.Writer.{input_limit}
use Rattle.error.proofs.Laws.{too_long, no_room, wrote_placed, counted_fits, counted_over}
use Rattle.frontend.specs.Frontend.{query}
use Rattle.request.specs.Request.{start_replication}
use Rattle.request.proofs.Laws.{length_end, length_position, length_request}
use Rattle.request.proofs.start_replication.Goals as goal

-- `i` is that the inputs together are within 25's bound, `s` that the sum is the query's length
pub returns-then-slot-gt-INPUT_LIMIT : goal.returns-then-slot-gt-INPUT_LIMIT
returns-then-slot-gt-INPUT_LIMIT c = too_long _ _ _ (omega arith)

pub returns-in_default : goal.returns-in_default
returns-in_default c =
    let f = counted_over _ _ c.inputs_len.ensures c.in_default.is in
    too_long _ _ _ (omega arith)

pub returns-in_default-count : goal.returns-in_default-count
returns-in_default-count c =
    let a = c.args in
    let i : length a.slot.now + total a.publications.now ≤ input_limit =
    let t = counted_fits _ _ _ c.inputs_len.ensures c.in-Some.is in omega (arith, c.if-slot-gt-INPUT_LIMIT.false)
    in
    let f = counted_over _ _ c.count.ensures c.in_default-count.is in
    let l = length_request a.binary a.slot.now a.publications.now a.position in
    no_room _ _ _ i (omega arith)

pub request_len-n-requires : goal.request_len-n-requires
request_len-n-requires c =
    let a = c.args in
    let i : length a.slot.now + total a.publications.now ≤ input_limit =
    let t = counted_fits _ _ _ c.inputs_len.ensures c.in-Some.is in omega (arith, c.if-slot-gt-INPUT_LIMIT.false)
    in
    let f = counted_fits _ _ _ c.count.ensures c.in-Some-count.is in
    omega (arith, length_position a.position.0, length_end a.binary, i, c.end_len.ensures, c.text_len.ensures, c.well_formed)

pub returns-then-out-n : goal.returns-then-out-n
returns-then-out-n c =
    let a = c.args in
    let i : length a.slot.now + total a.publications.now ≤ input_limit =
    let t = counted_fits _ _ _ c.inputs_len.ensures c.in-Some.is in omega (arith, c.if-slot-gt-INPUT_LIMIT.false)
    in
    let s : length (query (start_replication a.binary a.slot.now a.publications.now a.position)) ≡ c.request_len-n.result =
    let f = counted_fits _ _ _ c.count.ensures c.in-Some-count.is in
    omega (
      arith,
      length_request a.binary a.slot.now a.publications.now a.position,
      c.request_len-n.ensures,
      c.end_len.ensures,
      c.text_len.ensures,
    )
    in
    no_room _ _ _ i (omega (arith, c.if-out-n.true, s))

pub place_query-requires : goal.place_query-requires
place_query-requires c =
    let a = c.args in
    let s : length (query (start_replication a.binary a.slot.now a.publications.now a.position)) ≡ c.request_len-n.result =
    let f = counted_fits _ _ _ c.count.ensures c.in-Some-count.is in
    omega (
      arith,
      length_request a.binary a.slot.now a.publications.now a.position,
      c.request_len-n.ensures,
      c.end_len.ensures,
      c.text_len.ensures,
    )
    in
    (sym s, omega (arith, c.if-out-n.false))

pub returns : goal.returns
returns c =
    let a = c.args in
    let i : length a.slot.now + total a.publications.now ≤ input_limit =
    let t = counted_fits _ _ _ c.inputs_len.ensures c.in-Some.is in omega (arith, c.if-slot-gt-INPUT_LIMIT.false)
    in
    let s : length (query (start_replication a.binary a.slot.now a.publications.now a.position)) ≡ c.request_len-n.result =
    let f = counted_fits _ _ _ c.count.ensures c.in-Some-count.is in
    omega (
      arith,
      length_request a.binary a.slot.now a.publications.now a.position,
      c.request_len-n.ensures,
      c.end_len.ensures,
      c.text_len.ensures,
    )
    in
    wrote_placed _ _ _ i s (omega (arith, c.if-out-n.false)) c.place_query.ensures
