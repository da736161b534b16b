-- The first field that is cut shows that the body is short; with all three there the values are what the fields spell.
use mir.Syntax.{w64}
use mir.Val.{SFits}
use mir.ValLaws.{to_z-of_z}
use Rattle.wire.specs.Answer.{maybe}
use Rattle.wire.proofs.FieldLaws.{told, field_within}
use Rattle.replication.proofs.Laws.{keep_alive_cut, keep_alive_time_cut, keep_alive_read}
use mathlib.Core.Path.{sym, ap, ◌∙◌}
use native.Mathlib.Omega.{arith}
use Rattle.replication.proofs.keep_alive.Goals as goal

pub returns-in_default : goal.returns-in_default
returns-in_default c = keep_alive_cut 8 _ 0 (omega arith) (sym (ap maybe c.in_default.is) ∙ c.read_u64.ensures)

pub returns-in_default-read_i64 : goal.returns-in_default-read_i64
returns-in_default-read_i64 c = keep_alive_time_cut 8 _ 8 (omega arith) (sym (ap maybe c.in_default-read_i64.is) ∙ c.read_i64.ensures)

pub returns-in_default-read_u8 : goal.returns-in_default-read_u8
returns-in_default-read_u8 c = keep_alive_cut 1 _ 16 (omega arith) (sym (ap maybe c.in_default-read_u8.is) ∙ c.read_u8.ensures)

pub returns : goal.returns
returns c =
    let z = c.in-Some-read_i64.server_time in
    let f : SFits w64 z = record { sfits = omega arith } in
    let h = field_within 1 _ 16 _ (told maybe c.read_u8.ensures c.in-Some-read_u8.is) in
    rw (to_z-of_z w64 z f)
    (keep_alive_read _ _ z _ (omega (arith, h))
    (sym (ap maybe c.in-Some.is) ∙ c.read_u64.ensures)
    (sym (ap maybe c.in-Some-read_i64.is) ∙ c.read_i64.ensures)
    (sym (ap maybe c.in-Some-read_u8.is) ∙ c.read_u8.ensures))
