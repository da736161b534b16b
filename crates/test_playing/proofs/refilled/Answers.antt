use Rattle.test_playing.proofs.Laws.{picked, unpicked}
use mathlib.Core.Path.{◌∙◌}
use borrow.Author.Tests.{lt-ltb, le-ltb}
use Rattle.test_playing.proofs.refilled.Goals as goal

pub returns-then-p : goal.returns-then-p
returns-then-p g c = picked _ _ _ (lt-ltb _ _ c.if-p.true)

pub returns-then-p-2 : goal.returns-then-p-2
returns-then-p-2 g c = picked _ _ _ c.if-p-2.true ∙ unpicked _ _ _ (le-ltb _ _ c.if-p.false)

pub returns : goal.returns
returns g c =
    unpicked _ _ _ c.if-p-2.false ∙ unpicked _ _ _ (le-ltb _ _ c.if-p.false)
