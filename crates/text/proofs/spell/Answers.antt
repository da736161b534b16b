-- With i digits to go, the i digits of x written over out give what is asked.
use Rattle.text.proofs.Laws.{digit_there, stays, several, single, numeral_longer, spell_turn, spell_end}
use native.Mathlib.Omega.{arith}
use lib.ListN.{length-set}
use Rattle.text.proofs.spell.Goals as goal

pub loop-i-preserved : goal.loop-i-preserved
loop-i-preserved c =
    let l = c.loop-i in
    let a = c.args in
    let t = several a.base l.x (omega arith) in
    let g = numeral_longer a.base l.x (omega arith) t l.invariant.0 in
    (stays a.base l.x l.invariant.0, omega arith, rw c.digit.ensures (spell_turn a.base l.out a.out.now a.to l.i l.x _ (omega arith) t l.invariant.0 l.invariant.1 (omega arith) l.invariant.2), simp length-set l.invariant.3)

pub digit-requires-2 : goal.digit-requires-2
digit-requires-2 c =
    let s = single c.args.base c.loop-i.x (omega arith) c.loop-i.invariant.0 (omega arith) in
    omega arith

pub overflow_cast-x-2 : goal.overflow_cast-x-2
overflow_cast-x-2 c =
    let s = single c.args.base c.loop-i.x (omega arith) c.loop-i.invariant.0 (omega arith) in
    omega arith

pub bounds-out-to-2 : goal.bounds-out-to-2
bounds-out-to-2 c = let d = digit_there c.args.base c.args.v in omega arith

pub returns : goal.returns
returns c =
    let d = digit_there c.args.base c.args.v in
    let l = c.loop-i in
    let a = c.args in
    let s = single a.base l.x (omega arith) l.invariant.0 (omega arith) in
    rw c.digit-2.ensures (spell_end a.base l.out a.out.now a.to l.x _ s (omega arith) l.invariant.2)
