-- The first field that is cut shows that the body is short; with all three there the values are what the fields spell.
use mir.Syntax.{w64}
use mir.Val.{SFits}
use mir.ValLaws.{to_z-of_z}
use Rattle.wire.specs.Answer.{maybe}
use Rattle.wire.proofs.FieldLaws.{told, int_within}
use Rattle.replication.proofs.Laws.{xlog_cut, xlog_time_cut, xlog_read}
use mathlib.Core.Path.{sym, ap, ◌∙◌}
use Prim.Native.Nat.{◌≤◌}
use lib.ListN.{length}
use native.Mathlib.Omega.{arith}
use Rattle.replication.proofs.xlog_data.Goals as goal

pub returns-in_default : goal.returns-in_default
returns-in_default c = xlog_cut 8 _ 0 (omega arith) (sym (ap maybe c.in_default.is) ∙ c.read_u64.ensures)

pub returns-in_default-read_u64 : goal.returns-in_default-read_u64
returns-in_default-read_u64 c = xlog_cut 8 _ 8 (omega arith) (sym (ap maybe c.in_default-read_u64.is) ∙ c.read_u64-2.ensures)

pub returns-in_default-read_i64 : goal.returns-in_default-read_i64
returns-in_default-read_i64 c = xlog_time_cut 8 _ 16 (omega arith) (sym (ap maybe c.in_default-read_i64.is) ∙ c.read_i64.ensures)

pub returns : goal.returns
returns c =
    let z = c.in-Some-read_i64.server_time in
    let f : SFits w64 z = record { sfits = omega arith } in
    -- the last field ends within the body
    let ends : 24 ≤ length c.args.body.now = omega (arith, int_within 8 _ 16 _ (told maybe c.read_i64.ensures c.in-Some-read_i64.is)) in
    rw (to_z-of_z w64 z f)
    (xlog_read _ _ _ z ends
    (sym (ap maybe c.in-Some.is) ∙ c.read_u64.ensures)
    (sym (ap maybe c.in-Some-read_u64.is) ∙ c.read_u64-2.ensures)
    (sym (ap maybe c.in-Some-read_i64.is) ∙ c.read_i64.ensures))

pub overflow_sub-result : goal.overflow_sub-result
overflow_sub-result c = omega (arith, int_within 8 _ 16 _ (told maybe c.read_i64.ensures c.in-Some-read_i64.is))
