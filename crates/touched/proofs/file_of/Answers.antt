-- No entry passed has the identifier.
use Rattle.touched.proofs.EntryLaws.{file_here, file_next, file_end}
use mathlib.Core.Path.{sym, ◌∙◌}
use native.Mathlib.Omega.{arith}
use Rattle.touched.proofs.file_of.Goals as goal

pub returns-then-identifiers-i : goal.returns-then-identifiers-i
returns-then-identifiers-i c =
    let a = c.args in
    sym (c.loop-i.invariant ∙ file_here a.identifiers.now a.files.now c.loop-i.i a.id (omega arith) c.if-identifiers-i.true)

pub loop-i-preserved : goal.loop-i-preserved
loop-i-preserved c =
    let a = c.args in
    (c.loop-i.invariant ∙ file_next a.identifiers.now a.files.now c.loop-i.i a.id (omega arith) c.if-identifiers-i.false)

pub returns : goal.returns
returns c =
    let a = c.args in
    sym (c.loop-i.invariant ∙ file_end a.identifiers.now a.files.now c.loop-i.i a.id (omega arith))
