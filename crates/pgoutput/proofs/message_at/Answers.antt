-- As for the other messages, with a prefix that ends at the first zero byte and a content that must be there.
use mathlib.Core.Option.{some}
use Rattle.wire.specs.Answer.{maybe}
use Rattle.wire.specs.Field.{field_at}
use Rattle.wire.proofs.FieldLaws.{told, field_within}
use Rattle.reader.specs.Skip.{skipped}
use Rattle.reader.proofs.Laws.{skipped_none, skipped_within}
use Rattle.pgoutput.proofs.Laws.{message_values, message_same, prefix_within, over_prefix, over_count}
use Rattle.wire.specs.Find.{index_of}
use Prim.Native.Nat.{◌<◌, ◌≤◌, ◌+◌}
use mathlib.Core.Path.{◌≡◌, ◌∙◌}
use native.Mathlib.Omega.{arith}
use lib.ListN.{length, drop}
use borrow.Author.Tests.{le-leb, lt-leb, lt-ltb}
use Rattle.pgoutput.proofs.message_at.Goals as goal

pub returns-in_default : goal.returns-in_default
returns-in_default c =
    let a = c.args in
    simp (rw (skipped_none a.bytes.now a.at) at (told maybe c.u8_after.ensures c.in_default.is))

pub returns-in_default-u64_after : goal.returns-in_default-u64_after
returns-in_default-u64_after c =
    let a = c.args in
    let flags : field_at 1 a.bytes.now a.at ≡ some c.in-Some.flags = rw (skipped_none a.bytes.now a.at) at (told maybe c.u8_after.ensures c.in-Some.is) in
    let flags_end : a.at + 1 ≤ length a.bytes.now = field_within 1 _ _ _ flags in
    simp (flags, rw (skipped_within a.bytes.now a.at 1 flags_end) at (told maybe c.u64_after.ensures c.in_default-u64_after.is))

pub returns-in_default-zero_after : goal.returns-in_default-zero_after
returns-in_default-zero_after c =
    let a = c.args in
    let flags : field_at 1 a.bytes.now a.at ≡ some c.in-Some.flags = rw (skipped_none a.bytes.now a.at) at (told maybe c.u8_after.ensures c.in-Some.is) in
    let flags_end : a.at + 1 ≤ length a.bytes.now = field_within 1 _ _ _ flags in
    let lsn : field_at 8 a.bytes.now (a.at + 1) ≡ some c.in-Some-u64_after.lsn = rw (skipped_within a.bytes.now a.at 1 flags_end) at (told maybe c.u64_after.ensures c.in-Some-u64_after.is) in
    let lsn_within : a.at + 1 + 8 ≤ length a.bytes.now = field_within 8 _ _ _ lsn in
    let lsn_ends : a.at + 9 ≤ length a.bytes.now = omega arith in
    -- where the prefix begins
    let from_is : c.place_after-from.result ≡ a.at + 9 = c.place_after-from.ensures ∙ skipped_within a.bytes.now a.at 9 lsn_ends in
    let missing = rw (skipped_none a.bytes.now c.place_after-from.result, from_is) at (told maybe c.zero_after.ensures c.in_default-zero_after.is) in
    simp (flags, lsn, missing)

pub overflow_add-len : goal.overflow_add-len
overflow_add-len c =
    let a = c.args in
    let flags : field_at 1 a.bytes.now a.at ≡ some c.in-Some.flags = rw (skipped_none a.bytes.now a.at) at (told maybe c.u8_after.ensures c.in-Some.is) in
    let flags_end : a.at + 1 ≤ length a.bytes.now = field_within 1 _ _ _ flags in
    let lsn : field_at 8 a.bytes.now (a.at + 1) ≡ some c.in-Some-u64_after.lsn = rw (skipped_within a.bytes.now a.at 1 flags_end) at (told maybe c.u64_after.ensures c.in-Some-u64_after.is) in
    let lsn_within : a.at + 1 + 8 ≤ length a.bytes.now = field_within 8 _ _ _ lsn in
    let lsn_ends : a.at + 9 ≤ length a.bytes.now = omega arith in
    -- where the prefix begins
    let from_is : c.place_after-from.result ≡ a.at + 9 = c.place_after-from.ensures ∙ skipped_within a.bytes.now a.at 9 lsn_ends in
    let prefix : index_of 0 (drop (a.at + 9) a.bytes.now) ≡ some c.in-Some-zero_after.len = rw (skipped_none a.bytes.now c.place_after-from.result, from_is) at (told maybe c.zero_after.ensures c.in-Some-zero_after.is) in
    let prefix_ends : a.at + 9 + c.in-Some-zero_after.len < length a.bytes.now = prefix_within _ _ _ prefix in
    omega arith

pub returns-in_default-u32_after : goal.returns-in_default-u32_after
returns-in_default-u32_after c =
    let a = c.args in
    let flags : field_at 1 a.bytes.now a.at ≡ some c.in-Some.flags = rw (skipped_none a.bytes.now a.at) at (told maybe c.u8_after.ensures c.in-Some.is) in
    let flags_end : a.at + 1 ≤ length a.bytes.now = field_within 1 _ _ _ flags in
    let lsn : field_at 8 a.bytes.now (a.at + 1) ≡ some c.in-Some-u64_after.lsn = rw (skipped_within a.bytes.now a.at 1 flags_end) at (told maybe c.u64_after.ensures c.in-Some-u64_after.is) in
    let lsn_within : a.at + 1 + 8 ≤ length a.bytes.now = field_within 8 _ _ _ lsn in
    let lsn_ends : a.at + 9 ≤ length a.bytes.now = omega arith in
    -- where the prefix begins
    let from_is : c.place_after-from.result ≡ a.at + 9 = c.place_after-from.ensures ∙ skipped_within a.bytes.now a.at 9 lsn_ends in
    let prefix : index_of 0 (drop (a.at + 9) a.bytes.now) ≡ some c.in-Some-zero_after.len = rw (skipped_none a.bytes.now c.place_after-from.result, from_is) at (told maybe c.zero_after.ensures c.in-Some-zero_after.is) in
    let prefix_ends : a.at + 9 + c.in-Some-zero_after.len < length a.bytes.now = prefix_within _ _ _ prefix in
    -- the reader over the prefix and its zero byte
    let count_place : skipped a.bytes.now c.place_after-from.result (c.in-Some-zero_after.len + 1) ≡ a.at + 9 + c.in-Some-zero_after.len + 1 = over_prefix a.bytes.now c.place_after-from.result (a.at + 9) c.in-Some-zero_after.len from_is prefix_ends in
    let cut = rw count_place at (told maybe c.u32_after.ensures c.in_default-u32_after.is) in
    simp (flags, lsn, prefix, cut)

pub returns-then-n-ge-FIRST_NEGATIVE_32 : goal.returns-then-n-ge-FIRST_NEGATIVE_32
returns-then-n-ge-FIRST_NEGATIVE_32 c =
    let a = c.args in
    let flags : field_at 1 a.bytes.now a.at ≡ some c.in-Some.flags = rw (skipped_none a.bytes.now a.at) at (told maybe c.u8_after.ensures c.in-Some.is) in
    let flags_end : a.at + 1 ≤ length a.bytes.now = field_within 1 _ _ _ flags in
    let lsn : field_at 8 a.bytes.now (a.at + 1) ≡ some c.in-Some-u64_after.lsn = rw (skipped_within a.bytes.now a.at 1 flags_end) at (told maybe c.u64_after.ensures c.in-Some-u64_after.is) in
    let lsn_within : a.at + 1 + 8 ≤ length a.bytes.now = field_within 8 _ _ _ lsn in
    let lsn_ends : a.at + 9 ≤ length a.bytes.now = omega arith in
    -- where the prefix begins
    let from_is : c.place_after-from.result ≡ a.at + 9 = c.place_after-from.ensures ∙ skipped_within a.bytes.now a.at 9 lsn_ends in
    let prefix : index_of 0 (drop (a.at + 9) a.bytes.now) ≡ some c.in-Some-zero_after.len = rw (skipped_none a.bytes.now c.place_after-from.result, from_is) at (told maybe c.zero_after.ensures c.in-Some-zero_after.is) in
    let prefix_ends : a.at + 9 + c.in-Some-zero_after.len < length a.bytes.now = prefix_within _ _ _ prefix in
    -- the reader over the prefix and its zero byte
    let count_place : skipped a.bytes.now c.place_after-from.result (c.in-Some-zero_after.len + 1) ≡ a.at + 9 + c.in-Some-zero_after.len + 1 = over_prefix a.bytes.now c.place_after-from.result (a.at + 9) c.in-Some-zero_after.len from_is prefix_ends in
    let count : field_at 4 a.bytes.now (a.at + 9 + c.in-Some-zero_after.len + 1) ≡ some c.in-Some-u32_after.n = rw count_place at (told maybe c.u32_after.ensures c.in-Some-u32_after.is) in
    let count_ends : a.at + 9 + c.in-Some-zero_after.len + 1 + 4 ≤ length a.bytes.now = field_within 4 _ _ _ count in
    simp (flags, lsn, prefix, count, le-leb _ _ c.if-n-ge-FIRST_NEGATIVE_32.true)

pub overflow_add-len-2 : goal.overflow_add-len-2
overflow_add-len-2 c =
    let a = c.args in
    let flags : field_at 1 a.bytes.now a.at ≡ some c.in-Some.flags = rw (skipped_none a.bytes.now a.at) at (told maybe c.u8_after.ensures c.in-Some.is) in
    let flags_end : a.at + 1 ≤ length a.bytes.now = field_within 1 _ _ _ flags in
    let lsn : field_at 8 a.bytes.now (a.at + 1) ≡ some c.in-Some-u64_after.lsn = rw (skipped_within a.bytes.now a.at 1 flags_end) at (told maybe c.u64_after.ensures c.in-Some-u64_after.is) in
    let lsn_within : a.at + 1 + 8 ≤ length a.bytes.now = field_within 8 _ _ _ lsn in
    let lsn_ends : a.at + 9 ≤ length a.bytes.now = omega arith in
    -- where the prefix begins
    let from_is : c.place_after-from.result ≡ a.at + 9 = c.place_after-from.ensures ∙ skipped_within a.bytes.now a.at 9 lsn_ends in
    let prefix : index_of 0 (drop (a.at + 9) a.bytes.now) ≡ some c.in-Some-zero_after.len = rw (skipped_none a.bytes.now c.place_after-from.result, from_is) at (told maybe c.zero_after.ensures c.in-Some-zero_after.is) in
    let prefix_ends : a.at + 9 + c.in-Some-zero_after.len < length a.bytes.now = prefix_within _ _ _ prefix in
    -- the reader over the prefix and its zero byte
    let count_place : skipped a.bytes.now c.place_after-from.result (c.in-Some-zero_after.len + 1) ≡ a.at + 9 + c.in-Some-zero_after.len + 1 = over_prefix a.bytes.now c.place_after-from.result (a.at + 9) c.in-Some-zero_after.len from_is prefix_ends in
    let count : field_at 4 a.bytes.now (a.at + 9 + c.in-Some-zero_after.len + 1) ≡ some c.in-Some-u32_after.n = rw count_place at (told maybe c.u32_after.ensures c.in-Some-u32_after.is) in
    let count_ends : a.at + 9 + c.in-Some-zero_after.len + 1 + 4 ≤ length a.bytes.now = field_within 4 _ _ _ count in
    omega arith

pub returns-then-left_after-n : goal.returns-then-left_after-n
returns-then-left_after-n c =
    let a = c.args in
    let flags : field_at 1 a.bytes.now a.at ≡ some c.in-Some.flags = rw (skipped_none a.bytes.now a.at) at (told maybe c.u8_after.ensures c.in-Some.is) in
    let flags_end : a.at + 1 ≤ length a.bytes.now = field_within 1 _ _ _ flags in
    let lsn : field_at 8 a.bytes.now (a.at + 1) ≡ some c.in-Some-u64_after.lsn = rw (skipped_within a.bytes.now a.at 1 flags_end) at (told maybe c.u64_after.ensures c.in-Some-u64_after.is) in
    let lsn_within : a.at + 1 + 8 ≤ length a.bytes.now = field_within 8 _ _ _ lsn in
    let lsn_ends : a.at + 9 ≤ length a.bytes.now = omega arith in
    -- where the prefix begins
    let from_is : c.place_after-from.result ≡ a.at + 9 = c.place_after-from.ensures ∙ skipped_within a.bytes.now a.at 9 lsn_ends in
    let prefix : index_of 0 (drop (a.at + 9) a.bytes.now) ≡ some c.in-Some-zero_after.len = rw (skipped_none a.bytes.now c.place_after-from.result, from_is) at (told maybe c.zero_after.ensures c.in-Some-zero_after.is) in
    let prefix_ends : a.at + 9 + c.in-Some-zero_after.len < length a.bytes.now = prefix_within _ _ _ prefix in
    -- the reader over the prefix and its zero byte
    let count_place : skipped a.bytes.now c.place_after-from.result (c.in-Some-zero_after.len + 1) ≡ a.at + 9 + c.in-Some-zero_after.len + 1 = over_prefix a.bytes.now c.place_after-from.result (a.at + 9) c.in-Some-zero_after.len from_is prefix_ends in
    let count : field_at 4 a.bytes.now (a.at + 9 + c.in-Some-zero_after.len + 1) ≡ some c.in-Some-u32_after.n = rw count_place at (told maybe c.u32_after.ensures c.in-Some-u32_after.is) in
    let count_ends : a.at + 9 + c.in-Some-zero_after.len + 1 + 4 ≤ length a.bytes.now = field_within 4 _ _ _ count in
    -- the reader stands behind the content's length
    let content : c.place_after-content.result ≡ a.at + 9 + c.in-Some-zero_after.len + 1 + 4 = c.place_after-content.ensures ∙ over_count a.bytes.now c.place_after-from.result (a.at + 9) c.in-Some-zero_after.len from_is count_ends in
    let left = rw (c.left_after.ensures, skipped_none a.bytes.now c.place_after-content.result, content) at c.if-left_after-n.true in
    simp (flags, lsn, prefix, count, lt-leb _ _ c.if-n-ge-FIRST_NEGATIVE_32.false, lt-ltb _ _ left)

pub returns : goal.returns
returns c =
    let a = c.args in
    let flags : field_at 1 a.bytes.now a.at ≡ some c.in-Some.flags = rw (skipped_none a.bytes.now a.at) at (told maybe c.u8_after.ensures c.in-Some.is) in
    let flags_end : a.at + 1 ≤ length a.bytes.now = field_within 1 _ _ _ flags in
    let lsn : field_at 8 a.bytes.now (a.at + 1) ≡ some c.in-Some-u64_after.lsn = rw (skipped_within a.bytes.now a.at 1 flags_end) at (told maybe c.u64_after.ensures c.in-Some-u64_after.is) in
    let lsn_within : a.at + 1 + 8 ≤ length a.bytes.now = field_within 8 _ _ _ lsn in
    let lsn_ends : a.at + 9 ≤ length a.bytes.now = omega arith in
    -- where the prefix begins
    let from_is : c.place_after-from.result ≡ a.at + 9 = c.place_after-from.ensures ∙ skipped_within a.bytes.now a.at 9 lsn_ends in
    let prefix : index_of 0 (drop (a.at + 9) a.bytes.now) ≡ some c.in-Some-zero_after.len = rw (skipped_none a.bytes.now c.place_after-from.result, from_is) at (told maybe c.zero_after.ensures c.in-Some-zero_after.is) in
    let prefix_ends : a.at + 9 + c.in-Some-zero_after.len < length a.bytes.now = prefix_within _ _ _ prefix in
    -- the reader over the prefix and its zero byte
    let count_place : skipped a.bytes.now c.place_after-from.result (c.in-Some-zero_after.len + 1) ≡ a.at + 9 + c.in-Some-zero_after.len + 1 = over_prefix a.bytes.now c.place_after-from.result (a.at + 9) c.in-Some-zero_after.len from_is prefix_ends in
    let count : field_at 4 a.bytes.now (a.at + 9 + c.in-Some-zero_after.len + 1) ≡ some c.in-Some-u32_after.n = rw count_place at (told maybe c.u32_after.ensures c.in-Some-u32_after.is) in
    let count_ends : a.at + 9 + c.in-Some-zero_after.len + 1 + 4 ≤ length a.bytes.now = field_within 4 _ _ _ count in
    -- the reader stands behind the content's length
    let content : c.place_after-content.result ≡ a.at + 9 + c.in-Some-zero_after.len + 1 + 4 = c.place_after-content.ensures ∙ over_count a.bytes.now c.place_after-from.result (a.at + 9) c.in-Some-zero_after.len from_is count_ends in
    let left = rw (c.left_after.ensures, skipped_none a.bytes.now c.place_after-content.result, content) at c.if-left_after-n.false in
    let v = message_values _ _ _ _ _ _ flags lsn prefix count c.if-n-ge-FIRST_NEGATIVE_32.false left in
    message_same from_is content v
