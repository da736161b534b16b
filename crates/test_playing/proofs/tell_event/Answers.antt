use mathlib.Core.Path.{ap}
use mathlib.Core.List.{List}
use Prim.Native.Nat.{ℕ}
use borrow.Author.Tests.{eq-eqb, ne_eqb}
use Rattle.test_playing.specs.Playing.{event_line}
use Rattle.test_playing.proofs.tell_event.Goals as goal

pub returns-then-a-eq0 : goal.returns-then-a-eq0
unfolding event_line
returns-then-a-eq0 c = rw (← c.event-a.ensures, eq-eqb _ _ c.if-a-eq0.true)

pub returns : goal.returns
unfolding event_line
returns c =
    rw (← c.event-a.ensures, ne_eqb _ _ c.if-a-eq0.false) (ap (λ (x : ℕ × List ℕ). x.1) c.end-b.ensures)
