-- A field that was read ends within the bytes, so the reader is moved to the next one; the first that is cut gives the refusal.
use mir.Syntax.{w64}
use mir.Val.{SFits}
use mir.ValLaws.{to_z-of_z}
use Prim.Native.Nat.{◌+◌, ◌≤◌}
use lib.ListN.{length}
use Rattle.reader.proofs.Laws.{skipped_none, skipped_within}
use mathlib.Core.Path.{◌≡◌}
use mathlib.Core.Option.{some}
use Rattle.wire.specs.Answer.{maybe}
use Rattle.wire.specs.Field.{field_at}
use Rattle.wire.proofs.FieldLaws.{told, field_within}
use native.Mathlib.Omega.{arith}
use Rattle.pgoutput.proofs.commit_at.Goals as goal

pub returns-in_default : goal.returns-in_default
returns-in_default c =
    let a = c.args in
    simp (rw (skipped_none a.bytes.now a.at) at (told maybe c.u8_after.ensures c.in_default.is))

pub returns-in_default-u64_after : goal.returns-in_default-u64_after
returns-in_default-u64_after c =
    let a = c.args in
    let flags : field_at 1 a.bytes.now a.at ≡ some c.in-Some.field-0 = rw (skipped_none a.bytes.now a.at) at (told maybe c.u8_after.ensures c.in-Some.is) in
    let flags_end : a.at + 1 ≤ length a.bytes.now = field_within 1 _ _ _ flags in
    simp (flags, rw (skipped_within a.bytes.now a.at 1 flags_end) at (told maybe c.u64_after.ensures c.in_default-u64_after.is))

pub returns-in_default-u64_after-2 : goal.returns-in_default-u64_after-2
returns-in_default-u64_after-2 c =
    let a = c.args in
    let flags : field_at 1 a.bytes.now a.at ≡ some c.in-Some.field-0 = rw (skipped_none a.bytes.now a.at) at (told maybe c.u8_after.ensures c.in-Some.is) in
    let flags_end : a.at + 1 ≤ length a.bytes.now = field_within 1 _ _ _ flags in
    let lsn : field_at 8 a.bytes.now (a.at + 1) ≡ some c.in-Some-u64_after.lsn = rw (skipped_within a.bytes.now a.at 1 flags_end) at (told maybe c.u64_after.ensures c.in-Some-u64_after.is) in
    let lsn_within : a.at + 1 + 8 ≤ length a.bytes.now = field_within 8 _ _ _ lsn in
    let lsn_ends : a.at + 9 ≤ length a.bytes.now = omega arith in
    simp (flags, lsn, rw (skipped_within a.bytes.now a.at 9 lsn_ends) at (told maybe c.u64_after-2.ensures c.in_default-u64_after-2.is))

pub returns-in_default-i64_after : goal.returns-in_default-i64_after
returns-in_default-i64_after c =
    let a = c.args in
    let flags : field_at 1 a.bytes.now a.at ≡ some c.in-Some.field-0 = rw (skipped_none a.bytes.now a.at) at (told maybe c.u8_after.ensures c.in-Some.is) in
    let flags_end : a.at + 1 ≤ length a.bytes.now = field_within 1 _ _ _ flags in
    let lsn : field_at 8 a.bytes.now (a.at + 1) ≡ some c.in-Some-u64_after.lsn = rw (skipped_within a.bytes.now a.at 1 flags_end) at (told maybe c.u64_after.ensures c.in-Some-u64_after.is) in
    let lsn_within : a.at + 1 + 8 ≤ length a.bytes.now = field_within 8 _ _ _ lsn in
    let lsn_ends : a.at + 9 ≤ length a.bytes.now = omega arith in
    let end : field_at 8 a.bytes.now (a.at + 9) ≡ some c.in-Some-u64_after-2.end = rw (skipped_within a.bytes.now a.at 9 lsn_ends) at (told maybe c.u64_after-2.ensures c.in-Some-u64_after-2.is) in
    let end_within : a.at + 9 + 8 ≤ length a.bytes.now = field_within 8 _ _ _ end in
    let end_ends : a.at + 17 ≤ length a.bytes.now = omega arith in
    simp (flags, lsn, end, rw (skipped_within a.bytes.now a.at 17 end_ends) at (told maybe c.i64_after.ensures c.in_default-i64_after.is))

pub returns : goal.returns
returns c =
    let a = c.args in
    let flags : field_at 1 a.bytes.now a.at ≡ some c.in-Some.field-0 = rw (skipped_none a.bytes.now a.at) at (told maybe c.u8_after.ensures c.in-Some.is) in
    let flags_end : a.at + 1 ≤ length a.bytes.now = field_within 1 _ _ _ flags in
    let lsn : field_at 8 a.bytes.now (a.at + 1) ≡ some c.in-Some-u64_after.lsn = rw (skipped_within a.bytes.now a.at 1 flags_end) at (told maybe c.u64_after.ensures c.in-Some-u64_after.is) in
    let lsn_within : a.at + 1 + 8 ≤ length a.bytes.now = field_within 8 _ _ _ lsn in
    let lsn_ends : a.at + 9 ≤ length a.bytes.now = omega arith in
    let end : field_at 8 a.bytes.now (a.at + 9) ≡ some c.in-Some-u64_after-2.end = rw (skipped_within a.bytes.now a.at 9 lsn_ends) at (told maybe c.u64_after-2.ensures c.in-Some-u64_after-2.is) in
    let end_within : a.at + 9 + 8 ≤ length a.bytes.now = field_within 8 _ _ _ end in
    let end_ends : a.at + 17 ≤ length a.bytes.now = omega arith in
    let z = c.in-Some-i64_after.commit_time in
    let f : SFits w64 z = record { sfits = omega arith } in
    simp (
      to_z-of_z w64 z f,
      flags,
      lsn,
      end,
      rw (skipped_within a.bytes.now a.at 17 end_ends) at (told maybe c.i64_after.ensures c.in-Some-i64_after.is),
    )
