-- One answer for each tag.
use Rattle.query.specs.Fold.{error_kept, message_of}
use mathlib.Core.Path.{ap}
use borrow.Author.Tests.{ne_eqb}
use Rattle.query.proofs.simple.SimpleQuery.message.Goals as goal

pub returns-in-68 : goal.returns-in-68
unfolding message_of
returns-in-68 c = rw c.in-68.is (rw (← c.with_data_row.ensures))

pub returns-in-69 : goal.returns-in-69
unfolding message_of
returns-in-69 c = rw c.in-69.is (ap (error_kept _) c.copy-kept.ensures)

pub returns-in-90 : goal.returns-in-90
unfolding message_of
returns-in-90 c = rw (c.in-90.is, c.new.ensures, c.end-answer.ensures)

pub returns-in_default : goal.returns-in_default
unfolding message_of
returns-in_default c = simp (ne_eqb _ _ c.in_default.in_default-own.rest.1, ne_eqb _ _ c.in_default.in_default-own.rest.0.1, ne_eqb _ _ c.in_default.in_default-own.rest.0.0.1)
