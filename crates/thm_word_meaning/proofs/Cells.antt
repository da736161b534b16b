-- Each word of a cell and of the calls over it means what specs/Cells.antt says.
use mathlib.Core.Path.{refl}
use Rattle.progress.specs.declared.ProgressCell.{ProgressCell}
use Rattle.progress.specs.declared.Raised.{Raised}
use Rattle.progress.specs.Progress.{raise_of, looked_of, reported_of, carried_of}
use Rattle.thm_any_calls.specs.Tests.{lsn}
use Rattle.ffi_words.specs.Cells.{cell_written}
use Rattle.thm_host_calls.specs.HostWords.{moment}
use Rattle.thm_word_meaning.specs.Cells.{CellWords, Leaves, cell_in, CellCalls}
use Rattle.thm_word_meaning.proofs.OneWord.{flag_is}

pub cell_words : CellWords
cell_words = ((λ a b c d. refl), λ a c b d. rw (flag_is b, flag_is d))

leaves : (c : ProgressCell) → Leaves (cell_written c) c
leaves c = rw (flag_is c.signalled, flag_is c.timed)

pub cell_calls : CellCalls
cell_calls =
    record {
      new = λ start timed. rw (flag_is timed);
      load = λ w. refl;
      pending_since = λ w. refl;
      raise =
          λ w position at.
          let r : Raised = raise_of (cell_in w) (lsn position) (moment at) in
          (flag_is r.wake, leaves r.cell);
      take_signal = λ w. (refl, leaves (looked_of (cell_in w)).cell);
      take_pending = λ w sent at. (refl, leaves (reported_of (cell_in w) (lsn sent) (moment at)).cell);
      carry_pending = λ w since. leaves (carried_of (cell_in w) (moment since));
    }
