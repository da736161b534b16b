-- An ill-formed part that soon follows ends the stretch; else blocks find it.
use Rattle.lossy.proofs.Turns.{walked_ends}
use native.Mathlib.Omega.{arith}
use Rattle.lossy.proofs.behind_ill.Goals as goal

pub returns-then-t-ne0 : goal.returns-then-t-ne0
returns-then-t-ne0 c = walked_ends _ _ _ _ c.plain_to-t.ensures (omega arith)
