-- The list first, then what the event tells.
use Rattle.touched.specs.Touched.{after_of}
use mathlib.Core.Path.{sym, ◌∙◌}
use Rattle.touched.proofs.after.Goals as goal

pub returns-then-has_no_file : goal.returns-then-has_no_file
unfolding after_of
returns-then-has_no_file c = rw (sym c.has_no_file.ensures ∙ c.if-has_no_file.true)

pub returns-in-Begin : goal.returns-in-Begin
unfolding after_of
returns-in-Begin c =
    rw (sym c.has_no_file.ensures ∙ c.if-has_no_file.false, c.in-Begin.is, c.clear.ensures)

pub returns-in-Data : goal.returns-in-Data
unfolding after_of
returns-in-Data c =
    rw (sym c.has_no_file.ensures ∙ c.if-has_no_file.false, c.in-Data.is, c.after_data-touched.ensures)

pub returns-in-Nothing : goal.returns-in-Nothing
unfolding after_of
returns-in-Nothing c =
    rw (sym c.has_no_file.ensures ∙ c.if-has_no_file.false, c.in-Nothing.is)
