-- 31, or the walk's answer.
use mathlib.Core.Path.{refl, sym}
use Rattle.ledger.proofs.CallLaws.{asked_file, asked_taken}
use Rattle.ledger.proofs.Ledger.answer.Goals as goal

pub returns-then-file-gt-LAST_FILE : goal.returns-then-file-gt-LAST_FILE
returns-then-file-gt-LAST_FILE c = sym (asked_file _ 0 _ _ _ _ refl refl c.if-file-gt-LAST_FILE.true)

pub returns : goal.returns
returns c =
    sym (asked_taken _ 0 _ _ _ _ c.capacity-n.ensures c.fitted-fitted.ensures c.if-file-gt-LAST_FILE.false _ c.answer_from.ensures)
