-- By the letter: what the message says is what the data say.
use mathlib.Core.Path.{sym, ap, ◌∙◌}
use Rattle.pgoutput.specs.Boundary.{read_by}
use Rattle.pgoutput.proofs.Laws.{handed_on, no_data, by_b, by_c, by_m, by_other}
use Rattle.pgoutput.proofs.parse_pgoutput_boundary.Goals as goal

pub returns-then-bytes-eq0 : goal.returns-then-bytes-eq0
returns-then-bytes-eq0 c = no_data _ c.if-bytes-eq0.true

pub returns-in_err-begin_at : goal.returns-in_err-begin_at
returns-in_err-begin_at c =
    handed_on c.from_residual.result _ c.from_residual.ensures.1 (by_b _ _ c.if-bytes-eq0.false c.if-letter-eq66.true (sym (ap read_by c.in_err-begin_at.was) ∙ c.begin_at.ensures))

pub returns-then-letter-eq66 : goal.returns-then-letter-eq66
returns-then-letter-eq66 c = by_b _ _ c.if-bytes-eq0.false c.if-letter-eq66.true (sym (ap read_by c.in_ok-begin_at.was) ∙ c.begin_at.ensures)

pub returns-in_err-commit_at : goal.returns-in_err-commit_at
returns-in_err-commit_at c =
    handed_on c.from_residual-in_err-commit_at.result _ c.from_residual-in_err-commit_at.ensures.1
    (by_c _ _ c.if-bytes-eq0.false c.if-letter-eq66.false c.if-letter-eq67.true (sym (ap read_by c.in_err-commit_at.was) ∙ c.commit_at.ensures))

pub returns-then-letter-eq67 : goal.returns-then-letter-eq67
returns-then-letter-eq67 c = by_c _ _ c.if-bytes-eq0.false c.if-letter-eq66.false c.if-letter-eq67.true (sym (ap read_by c.in_ok-commit_at.was) ∙ c.commit_at.ensures)

pub returns-in_err-message_at : goal.returns-in_err-message_at
returns-in_err-message_at c =
    handed_on c.from_residual-in_err-message_at.result _ c.from_residual-in_err-message_at.ensures.1
    (by_m _ _ c.if-bytes-eq0.false c.if-letter-eq66.false c.if-letter-eq67.false c.if-letter-eq77.true (sym (ap read_by c.in_err-message_at.was) ∙ c.message_at.ensures))

pub returns-then-letter-eq77 : goal.returns-then-letter-eq77
returns-then-letter-eq77 c =
    by_m _ _ c.if-bytes-eq0.false c.if-letter-eq66.false c.if-letter-eq67.false c.if-letter-eq77.true (sym (ap read_by c.in_ok-message_at.was) ∙ c.message_at.ensures)

pub returns : goal.returns
returns c = by_other _ c.if-bytes-eq0.false c.if-letter-eq66.false c.if-letter-eq67.false c.if-letter-eq77.false
