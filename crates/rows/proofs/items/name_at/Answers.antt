-- A name ends before the first zero byte.
use mathlib.Core.Path.{sym}
use Rattle.wire.specs.Answer.{maybe}
use Rattle.wire.proofs.FieldLaws.{told as said}
use Rattle.reader.proofs.Laws.{skipped_none}
use Rattle.rows.proofs.Steps.{name_got, name_cut, name_within}
use native.Mathlib.Omega.{arith}
use Rattle.rows.proofs.items.name_at.Goals as goal

pub returns-in_default : goal.returns-in_default
returns-in_default c =
    let a = c.args in
    let missing = rw (skipped_none a.bytes.now a.at) at (said maybe c.zero_after.ensures c.in_default.is) in
    sym (name_cut a.bytes.now a.at missing)

pub overflow_add-result : goal.overflow_add-result
overflow_add-result c =
    let a = c.args in
    omega (arith, name_within a.bytes.now a.at c.in-Some.len (rw (skipped_none a.bytes.now a.at) at (said maybe c.zero_after.ensures c.in-Some.is)))

pub overflow_add-result-2 : goal.overflow_add-result-2
overflow_add-result-2 c =
    let a = c.args in
    omega (arith, name_within a.bytes.now a.at c.in-Some.len (rw (skipped_none a.bytes.now a.at) at (said maybe c.zero_after.ensures c.in-Some.is)))

pub returns : goal.returns
returns c =
    let a = c.args in
    sym (name_got a.bytes.now a.at c.in-Some.len (rw (skipped_none a.bytes.now a.at) at (said maybe c.zero_after.ensures c.in-Some.is)))
