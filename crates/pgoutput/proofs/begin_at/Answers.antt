-- A field that was read ends within the bytes, so the reader is moved to the next one; the first that is cut gives the refusal.
use mir.Syntax.{w64}
use mir.Val.{SFits}
use mir.ValLaws.{to_z-of_z}
use mathlib.Core.Path.{◌≡◌}
use mathlib.Core.Option.{some}
use Prim.Native.Nat.{◌+◌, ◌≤◌}
use lib.ListN.{length}
use Rattle.reader.proofs.Laws.{skipped_none, skipped_within}
use Rattle.wire.specs.Answer.{maybe}
use Rattle.wire.specs.Field.{field_at}
use Rattle.wire.specs.Int.{int_at}
use Rattle.wire.proofs.FieldLaws.{told, field_within, int_within}
use native.Mathlib.Omega.{arith}
use Rattle.pgoutput.proofs.begin_at.Goals as goal

pub returns-in_default : goal.returns-in_default
returns-in_default c =
    let a = c.args in
    simp (rw (skipped_none a.bytes.now a.at) at (told maybe c.u64_after.ensures c.in_default.is))

pub returns-in_default-i64_after : goal.returns-in_default-i64_after
returns-in_default-i64_after c =
    let a = c.args in
    let lsn : field_at 8 a.bytes.now a.at ≡ some c.in-Some.lsn = rw (skipped_none a.bytes.now a.at) at (told maybe c.u64_after.ensures c.in-Some.is) in
    let lsn_ends : a.at + 8 ≤ length a.bytes.now = field_within 8 _ _ _ lsn in
    simp (lsn, rw (skipped_within a.bytes.now a.at 8 lsn_ends) at (told maybe c.i64_after.ensures c.in_default-i64_after.is))

pub returns-in_default-u32_after : goal.returns-in_default-u32_after
returns-in_default-u32_after c =
    let a = c.args in
    let lsn : field_at 8 a.bytes.now a.at ≡ some c.in-Some.lsn = rw (skipped_none a.bytes.now a.at) at (told maybe c.u64_after.ensures c.in-Some.is) in
    let lsn_ends : a.at + 8 ≤ length a.bytes.now = field_within 8 _ _ _ lsn in
    let time : int_at 8 a.bytes.now (a.at + 8) ≡ some c.in-Some-i64_after.commit_time = rw (skipped_within a.bytes.now a.at 8 lsn_ends) at (told maybe c.i64_after.ensures c.in-Some-i64_after.is) in
    let time_within : a.at + 8 + 8 ≤ length a.bytes.now = int_within 8 _ _ _ time in
    let time_ends : a.at + 16 ≤ length a.bytes.now = omega arith in
    simp (lsn, time, rw (skipped_within a.bytes.now a.at 16 time_ends) at (told maybe c.u32_after.ensures c.in_default-u32_after.is))

pub returns : goal.returns
returns c =
    let a = c.args in
    let lsn : field_at 8 a.bytes.now a.at ≡ some c.in-Some.lsn = rw (skipped_none a.bytes.now a.at) at (told maybe c.u64_after.ensures c.in-Some.is) in
    let lsn_ends : a.at + 8 ≤ length a.bytes.now = field_within 8 _ _ _ lsn in
    let time : int_at 8 a.bytes.now (a.at + 8) ≡ some c.in-Some-i64_after.commit_time = rw (skipped_within a.bytes.now a.at 8 lsn_ends) at (told maybe c.i64_after.ensures c.in-Some-i64_after.is) in
    let time_within : a.at + 8 + 8 ≤ length a.bytes.now = int_within 8 _ _ _ time in
    let time_ends : a.at + 16 ≤ length a.bytes.now = omega arith in
    let z = c.in-Some-i64_after.commit_time in
    let f : SFits w64 z = record { sfits = omega arith } in
    simp (to_z-of_z w64 z f, lsn, time, rw (skipped_within a.bytes.now a.at 16 time_ends) at (told maybe c.u32_after.ensures c.in-Some-u32_after.is))
