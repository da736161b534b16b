-- The lent table is the automaton's.
use Rattle.std.proofs.Common.{rules}
use Rattle.utf8.proofs.Entries.{is_table}
use Rattle.lossy.proofs.by_table.write_lossy.Goals as goal

pub write_by-requires : goal.write_by-requires
write_by-requires c = let t = is_table c.states-table.ensures in search rules
