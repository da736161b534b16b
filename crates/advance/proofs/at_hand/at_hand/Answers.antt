use Rattle.std.proofs.Common.{◌≡◌, ◌+◌, ◌-◌, ◌≤◌, length, take, drop, sym, ◌∙◌, arith, length-drop, length-take, eq-eqb, ne_eqb}
use Rattle.wire.specs.Answer.{maybe}
use Rattle.wire.proofs.FieldLaws.{told}
use Rattle.advance.specs.AtHand.{at_hand_of, whole_at}
use Rattle.advance.proofs.Laws.{no_length, some_length, held}
use Rattle.advance.proofs.at_hand.at_hand.Goals as goal

pub returns-in_err-n : goal.returns-in_err-n
unfolding at_hand_of
returns-in_err-n c =
    let u = c.args.unread.now in
    let z = no_length (whole_at u) (sym (told maybe c.whole_at.ensures.0 c.in_err-n.was)) in
    rw c.from_residual.ensures (rw (eq-eqb _ _ z), tt)

pub returns : goal.returns
unfolding at_hand_of
returns c =
    let u = c.args.unread.now in
    let n = c.in_ok-n.n in
    let k = some_length (whole_at u) n (sym (told maybe c.whole_at.ensures.0 c.in_ok-n.was)) in
    let m : 5 + n - 5 ≡ n = omega arith in
    let z : (whole_at u ≡ 0) → ⊥ = λ q. omega (arith, k.1) in
    let b : n ≤ length u - 5 = rw c.in_ok-n.was at c.whole_at.ensures.1 in
    let l : length (take (5 + n - 5) (drop 5 u)) ≡ n = simp (length-take, length-drop) (omega arith) in (
      c.message.ensures.0 ∙ rw (m, k.0, ne_eqb _ _ z),
      held c.message.result n (length u - 5) (omega (arith, k.0, k.1)) b (rw l at c.message.ensures.1),
    )
