-- Each case by computing the definitions, or by the law of its leaf.
use mathlib.Core.Path.{◌≡◌, refl}
use mathlib.Core.List.{List, ◌∷◌}
use mathlib.Core.Option.{some}
use Prim.Native.Nat.{ℕ, ◌+◌, ◌-◌, ◌≤◌, ◌<◌, ◌^◌}
use native.Mathlib.Omega.{arith}
use lib.ListN.{length, length-append}
use lib.Seq.{take_at}
use borrow.Author.Tests.{lt-ltb, le-ltb, lt-leb}
use Rattle.wire.specs.Bytes.{be, be_from, be_bytes, put}
use Rattle.wire.specs.Field.{field_at, signed}
use Rattle.wire.specs.Find.{index_of}
use Rattle.wire.proofs.Laws.{length_be_bytes}
use Rattle.wire.proofs.FieldLaws.{be_be_bytes}
use Rattle.frames.specs.Message.{length_field, framed, front_of, too_large, whole}
use Rattle.framing.specs.Read.{payload_of, judged_of, header_of, read_of}
use Rattle.replication.specs.CopyData.{copy_data_of}
use Rattle.replication.proofs.Cases.{copy_data_laws}
use Rattle.pgoutput.specs.Boundary.{boundary_of}
use Rattle.pgoutput.proofs.Cases.{begin_refusals, commit_refusals}
use Rattle.lsn.specs.Hex.{digit_of, value_from, hex_part}
use Rattle.lsn.specs.Position.{joined, position_of}
use Rattle.utf8.specs.WellFormed.{table, row_of, matched}
use Rattle.lossy.specs.Lossy.{parts_of, shown_all, lossy_of}
use Rattle.thm_proved_table.specs.ProvedTable.{ProvedTable, RefusalTable, data_part}

-- a message whose payload is whole: its length field is 4 more than the payload's length
module _ (tag : ℕ) (payload : List ℕ) (h : length payload < 2 ^ 31 - 4) where
  field_is : length_field (framed tag payload) ≡ length payload + 4
  unfolding framed
  field_is = rw (take_at (be_bytes 4 (length payload + 4)) payload 4 (length_be_bytes 4 (length payload + 4))) (be_be_bytes 4 (length payload + 4) (omega arith))

  long : length (framed tag payload) ≡ 5 + length payload
  unfolding framed
  long = simp (length-append, length_be_bytes) (omega arith)

  at_the_limit : front_of (length payload) (framed tag payload) ≡ whole tag (length payload)
  unfolding front_of framed
  at_the_limit =
      let a : 5 ≤ length (framed tag payload) = omega (arith, long) in
      let b : length payload + 4 < 2147483648 = omega arith in
      let c : 4 ≤ length payload + 4 = omega arith in
      let e : length payload + 4 + 1 ≤ length (framed tag payload) = omega (arith, long) in
      let f : length payload + 4 - 4 ≡ length payload = omega arith in
      let g : length payload ≤ length payload = omega arith in
      simp (le-ltb _ _ a, field_is, lt-leb _ _ b, le-ltb _ _ c, le-ltb _ _ g, le-ltb _ _ e, f)

  past_the_limit : (limit : ℕ) → length payload ≡ limit + 1 → front_of limit (framed tag payload) ≡ too_large
  unfolding front_of framed
  past_the_limit limit q =
      let a : 5 ≤ length (framed tag payload) = omega (arith, long) in
      let b : length payload + 4 < 2147483648 = omega arith in
      let c : 4 ≤ length payload + 4 = omega arith in
      let d : limit < length payload + 4 - 4 = omega arith in
      simp (le-ltb _ _ a, field_is, lt-leb _ _ b, le-ltb _ _ c, lt-ltb _ _ d)

xlog_data_empty : (s : List ℕ) → length s ≡ 24 → data_part (copy_data_of (119 ∷ s)) ≡ some (25, 0)
unfolding copy_data_of
xlog_data_empty s e =
    let h : 24 ≤ length s = omega arith in
    let z : length s - 24 ≡ 0 = omega arith in
    simp (le-ltb _ _ h, z)

pub proved_table : ProvedTable
unfolding be be_from be_bytes field_at signed front_of put payload_of judged_of header_of read_of index_of digit_of value_from hex_part joined position_of table row_of matched parts_of shown_all lossy_of
proved_table =
    record {
      length_four = λ limit tag. simp (le-ltb limit 0 (omega arith));
      length_three = λ limit tag. refl;
      within_limit = λ tag. refl;
      over_limit = λ tag. refl;
      at_the_limit = λ tag payload h. at_the_limit tag payload (omega arith);
      past_the_limit = λ tag limit payload q h. past_the_limit tag payload (omega arith) limit q;
      read_four = refl;
      read_three = refl;
      read_within = refl;
      read_over = refl;
      keepalive_sixteen = λ s e. copy_data_laws.k_short s (omega arith);
      keepalive_eighteen = λ s e. copy_data_laws.k_whole s (omega arith);
      xlog_data_short = λ s e. copy_data_laws.w_short s (omega arith);
      xlog_data_empty = xlog_data_empty;
      begin_twenty = λ s e. begin_refusals.whole s (omega arith);
      begin_nineteen = λ s e. begin_refusals.cut_32 s (omega arith) (omega arith);
      commit_twenty_five = λ s e. commit_refusals.whole s (omega arith);
      commit_twenty_four = λ s e. commit_refusals.cut_64 s (omega arith) (omega arith);
      plain_position = refl;
      signed_position = refl;
      nine_digits = refl;
      one_mark = refl;
      three_marks = refl;
    }

pub refusal_table : RefusalTable
unfolding be be_from be_bytes field_at signed put payload_of judged_of header_of read_of copy_data_of boundary_of index_of digit_of value_from hex_part joined position_of
refusal_table =
    record {
      three = refl;
      six = refl;
      six_negative = refl;
      seven = refl;
      eight = refl;
      eight_within = refl;
      nine = refl;
      still_more = refl;
      ten = refl;
      eleven = refl;
      twelve = refl;
      thirteen = refl;
      fourteen = refl;
      fifteen = refl;
      sixteen = refl;
      seventeen = refl;
      eighteen = refl;
      twenty_two = refl;
      twenty_three = refl;
      twenty_four = refl;
    }
