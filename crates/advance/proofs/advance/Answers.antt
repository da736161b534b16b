use Rattle.std.proofs.Common.{◌≡◌, ◌<◌, ◌≤◌, length, ◌-◌, ◌∙◌, arith, ne_eqb}
use Rattle.advance.specs.AtHand.{at_hand_of, applies_of}
use Rattle.advance.proofs.Several.{at_once_lem}
use Rattle.advance.proofs.advance.Goals as goal

pub returns-then-applies : goal.returns-then-applies
returns-then-applies c =
    let a = c.args in
    let m = c.in-Some.message in
    let h : (m ≡ at_hand_of a.unread.now) × ((0 < m.len) × (m.len ≤ length a.unread.now - 5)) = rw c.in-Some.is at c.at_hand.ensures in
    let z : (m.len ≡ 0) → ⊥ = λ q. omega (arith, h.1.0) in
    let e : c.applies.result ≡ applies_of a.run a.input.moment a.input.queue (length a.payload.now) (length a.out.now) m =
    rw (ne_eqb _ _ z) at c.applies.ensures in
    c.hands_on.ensures _ _ ∙ at_once_lem a.run a.input a.unread.now a.payload.now a.out.now h.0 e c.if-applies.true c.copy.ensures
