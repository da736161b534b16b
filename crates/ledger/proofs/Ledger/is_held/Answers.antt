-- File by file.
use Rattle.ledger.specs.Ledger.{undone_some}
use Rattle.ledger.proofs.Ledger.is_held.Goals as goal

pub returns-then-is_undone : goal.returns-then-is_undone
unfolding undone_some
returns-then-is_undone c = rw (← c.is_undone.ensures, c.if-is_undone.true)

pub returns-then-is_undone-2 : goal.returns-then-is_undone-2
unfolding undone_some
returns-then-is_undone-2 c =
    rw (← c.is_undone.ensures, c.if-is_undone.false, ← c.is_undone-2.ensures, c.if-is_undone-2.true)

pub returns-then-is_undone-3 : goal.returns-then-is_undone-3
unfolding undone_some
returns-then-is_undone-3 c =
    rw (
      ← c.is_undone.ensures,
      c.if-is_undone.false,
      ← c.is_undone-2.ensures,
      c.if-is_undone-2.false,
      ← c.is_undone-3.ensures,
      c.if-is_undone-3.true,
    )

pub returns : goal.returns
unfolding undone_some
returns c =
    rw (
      ← c.is_undone.ensures,
      c.if-is_undone.false,
      ← c.is_undone-2.ensures,
      c.if-is_undone-2.false,
      ← c.is_undone-3.ensures,
      c.if-is_undone-3.false,
    ) c.is_undone-4.ensures
