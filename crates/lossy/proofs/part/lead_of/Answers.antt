-- Each branch's bounds say which rows the byte is past.
use Rattle.utf8.specs.WellFormed.{table}
use Rattle.lossy.proofs.Table.{row_at, row_none}
use native.Mathlib.Omega.{arith}
use Rattle.lossy.proofs.part.lead_of.Goals as goal

pub returns-then-b-lt128 : goal.returns-then-b-lt128
unfolding table
returns-then-b-lt128 c = rw c.due.ensures (row_at 0 table _ (omega arith) (omega arith), omega arith)

pub returns-then-b-lt194 : goal.returns-then-b-lt194
unfolding table
returns-then-b-lt194 c = (row_none 1 table _ (omega arith) (omega arith), omega arith)

pub returns-then-b-lt224 : goal.returns-then-b-lt224
unfolding table
returns-then-b-lt224 c = rw c.due-then-b-lt224.ensures (row_at 1 table _ (omega arith) (omega arith), omega arith)

pub returns-then-b-lt225 : goal.returns-then-b-lt225
unfolding table
returns-then-b-lt225 c = rw c.due-then-b-lt225.ensures (row_at 2 table _ (omega arith) (omega arith), omega arith)

pub returns-then-b-lt237 : goal.returns-then-b-lt237
unfolding table
returns-then-b-lt237 c = rw c.due-then-b-lt237.ensures (row_at 3 table _ (omega arith) (omega arith), omega arith)

pub returns-then-b-lt238 : goal.returns-then-b-lt238
unfolding table
returns-then-b-lt238 c = rw c.due-then-b-lt238.ensures (row_at 4 table _ (omega arith) (omega arith), omega arith)

pub returns-then-b-lt240 : goal.returns-then-b-lt240
unfolding table
returns-then-b-lt240 c = rw c.due-then-b-lt240.ensures (row_at 5 table _ (omega arith) (omega arith), omega arith)

pub returns-then-b-lt241 : goal.returns-then-b-lt241
unfolding table
returns-then-b-lt241 c = rw c.due-then-b-lt241.ensures (row_at 6 table _ (omega arith) (omega arith), omega arith)

pub returns-then-b-lt244 : goal.returns-then-b-lt244
unfolding table
returns-then-b-lt244 c = rw c.due-then-b-lt244.ensures (row_at 7 table _ (omega arith) (omega arith), omega arith)

pub returns-then-b-lt245 : goal.returns-then-b-lt245
unfolding table
returns-then-b-lt245 c = rw c.due-then-b-lt245.ensures (row_at 8 table _ (omega arith) (omega arith), omega arith)

pub returns-else-b-lt245 : goal.returns-else-b-lt245
unfolding table
returns-else-b-lt245 c = (row_none 9 table _ (omega arith) (omega arith), omega arith)
