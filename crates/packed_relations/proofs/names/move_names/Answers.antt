-- Down, up, or not at all.
use mathlib.Core.Path.{ap, ◌∙◌}
use Prim.Native.Nat.{ℕ}
use Rattle.wire.specs.Bytes.{at, put}
use Rattle.packed_relations.proofs.Moved.{stay}
use Rattle.packed_relations.proofs.names.move_names.Goals as goal

pub returns-then-from-to : goal.returns-then-from-to
returns-then-from-to c =
    let a = c.args in
    stay a.names.now a.from a.n c.requires.0 ∙ ap (λ (i : ℕ). put a.names.now i (at a.names.now a.from a.n)) c.if-from-to.true
