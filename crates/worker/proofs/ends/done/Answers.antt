use Rattle.worker.proofs.Laws.{done_written}
use Rattle.worker.proofs.ends.done.Goals as goal

pub returns : goal.returns
returns c = λ u p.
    let w = c.write_copy_done in
    rw (c.with_state-ended.ensures, done_written _ _ _ c.requires w.ensures)
