-- The digits of the bytes that are left, written over out, give what is asked.
use Rattle.text.proofs.Laws.{bytes_turn, bytes_end}
use mathlib.Core.Path.{sym, ◌∙◌}
use native.Mathlib.Omega.{arith}
use lib.ListN.{length-set}
use Rattle.text.proofs.spell_bytes.Goals as goal

pub loop-b-preserved : goal.loop-b-preserved
loop-b-preserved c =
    let l = c.loop-b in
    let a = c.args in
    (omega arith, rw (c.digit.ensures, c.digit-in-loop-b.ensures) (bytes_turn l.out a.out.now a.s.now l.at l.b-index a.to _ (omega arith) (omega arith) l.invariant.1), simp length-set l.invariant.2)

pub returns : goal.returns
returns c =
    let l = c.loop-b in
    let a = c.args in
    sym (bytes_end l.out a.s.now l.at l.b-index (omega arith)) ∙ l.invariant.1
