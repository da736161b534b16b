use Rattle.worker.specs.Answer.{lent}
use Rattle.std.proofs.Common.{sym, ap, ◌∙◌}
use Rattle.advance.specs.Advance.{tells}
use Rattle.advance.proofs.Several.{first_told, four}
use Rattle.advance.proofs.four_steps.Goals as goal

pub returns-then-tells : goal.returns-then-tells
returns-then-tells c =
    let a = c.args in
    let s = c.step-first in
    let t = sym (c.tells.ensures s.new.payload s.new.out) ∙ c.if-tells.true in
    s.ensures ∙ first_told a.run a.input (lent a.unread.now a.payload.now a.out.now) (sym (ap tells s.ensures) ∙ t)

pub returns : goal.returns
returns c =
    let a = c.args in
    rw (c.one_more.ensures, c.one_more-third.ensures, c.one_more-second.ensures, c.step-first.ensures) (four a.run a.input (lent a.unread.now a.payload.now a.out.now))
