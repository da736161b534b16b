-- The three places where a move ends.
use mathlib.Core.Path.{sym}
use native.Mathlib.Omega.{arith}
use Rattle.reader.proofs.Laws.{skipped_within, skipped_to_end, skipped_far}
use Rattle.reader.proofs.skip_from.Goals as goal

pub returns-then-bytes-at : goal.returns-then-bytes-at
returns-then-bytes-at c = sym (skipped_far _ _ _ (omega arith))

pub returns-then-bytes-at-2 : goal.returns-then-bytes-at-2
returns-then-bytes-at-2 c = sym (skipped_to_end _ _ _ (omega arith) (omega arith))

pub returns : goal.returns
returns c = sym (skipped_within _ _ _ (omega arith))
