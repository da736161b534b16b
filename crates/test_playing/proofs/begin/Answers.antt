use Prim.Native.Nat.{ℕ}
use mathlib.Core.Path.{ap}
use mathlib.Core.Bool.{true, false}
use Rattle.worker.specs.declared.Run.{Run}
use Rattle.worker.specs.Session.{already_open_of}
use Rattle.test_playing.specs.Playing.{playing}
use Rattle.test_playing.proofs.begin.Goals as goal

pub returns : goal.returns
unfolding already_open_of
returns c =
    ap (λ (x : ℕ × Run). playing x.1 0 0 false true) (rw c.settings.ensures at c.already_open-opened.ensures)
