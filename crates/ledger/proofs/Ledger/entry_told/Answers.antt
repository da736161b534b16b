-- By the tests; an entry that is kept goes after the others.
use mathlib.Core.Path.{sym, ◌∙◌}
use Rattle.ledger.proofs.CallLaws.{refused_left, entry_below, entry_full, entry_kept, kept_is}
use Rattle.ledger.proofs.Ledger.entry_told.Goals as goal

pub returns-then-position-self : goal.returns-then-position-self
returns-then-position-self c =
    refused_left _ _ _ c.args.self _ c.number.ensures c.refused.ensures ∙ sym (entry_below _ _ _ _ c.args.self _ c.if-position-self.true)

pub returns-then-n-self : goal.returns-then-n-self
returns-then-n-self c =
    refused_left _ _ _ c.args.self _ c.number-then-n-self.ensures c.refused-then-n-self.ensures
    ∙ sym (entry_full _ _ _ _ c.args.self _ c.if-position-self.false _ c.capacity-n.ensures c.if-n-self.true)

pub returns : goal.returns
returns c =
    kept_is _ _ _ _ _ _ _ _ _ _ _ _ c.capacity-n.ensures c.slot_after-slot.ensures c.stable.ensures c.set_entry.ensures
    c.with_entry-more.ensures c.settled-ledger.ensures
    ∙ sym (entry_kept _ _ _ _ _ _ c.if-position-self.false _ c.capacity-n.ensures c.if-n-self.false)
