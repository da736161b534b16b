use mathlib.Core.Path.{ap}
use mathlib.Core.Bool.{false}
use mathlib.Core.List.{List}
use Prim.Native.Nat.{ℕ}
use borrow.Author.Tests.{lt-ltb, le-ltb}
use Rattle.test_playing.proofs.told.Goals as goal

pub returns-then-offered-taken : goal.returns-then-offered-taken
returns-then-offered-taken c =
    rw (← c.tell_event.ensures, lt-ltb _ _ c.if-offered-taken.true)
    (ap (λ (l : List ℕ). (false, l)) c.tell_outside.ensures)

pub returns-then-is_over : goal.returns-then-is_over
returns-then-is_over c =
    rw (← c.tell_event.ensures, le-ltb _ _ c.if-offered-taken.false, ← c.is_over.ensures, c.if-is_over.true)
    (ap (λ (l : List ℕ). (false, l)) c.tell_end.ensures)

pub returns : goal.returns
returns c =
    rw (← c.tell_event.ensures, le-ltb _ _ c.if-offered-taken.false, ← c.is_over.ensures, c.if-is_over.false)
