use Rattle.std.proofs.Common.{◌≡◌, ◌-◌, arith, le-ltb, lt-ltb, le-leb, ne_eqb}
use borrow.Author.Tests.{lt-leb}
use Rattle.advance.specs.AtHand.{within}
use Rattle.advance.proofs.at_hand.within.Goals as goal

pub returns-then-n-lt29 : goal.returns-then-n-lt29
unfolding within
returns-then-n-lt29 c = (rw (lt-ltb _ _ c.if-n-lt29.true), omega arith)

pub returns-then-n-ge-FIRST_NEGATIVE : goal.returns-then-n-ge-FIRST_NEGATIVE
unfolding within
returns-then-n-ge-FIRST_NEGATIVE c = (rw (le-ltb _ _ c.if-n-lt29.false, le-leb _ _ c.if-n-ge-FIRST_NEGATIVE.true), omega arith)

pub returns-then-unread-n : goal.returns-then-unread-n
unfolding within
returns-then-unread-n c = (rw (le-ltb _ _ c.if-n-lt29.false, lt-leb _ _ c.if-n-ge-FIRST_NEGATIVE.false, lt-ltb _ _ c.if-unread-n.true), omega arith)

pub returns : goal.returns
unfolding within
returns c =
    let z : (c.args.n - 4 ≡ 0) → ⊥ = λ q. omega arith in
    (rw (le-ltb _ _ c.if-n-lt29.false, lt-leb _ _ c.if-n-ge-FIRST_NEGATIVE.false, le-ltb _ _ c.if-unread-n.false, ne_eqb _ _ z), omega arith)
