-- What is unread at the place, entered into the fields so far, gives the fields of the payload.
use mathlib.Core.Path.{◌≡◌}
use Prim.Native.Nat.{◌-◌}
use lib.ListN.{length}
use Rattle.messages.specs.Fields.{letters, fields_of}
use Rattle.messages.proofs.Laws.{unread, after}
use Rattle.messages.proofs.ErrorFields.parse.Given as goal

abbrev pub invariant-loop-at : goal.invariant-loop-at
invariant-loop-at l = (length l.r.fields ≡ 15) × (after letters l.r.fields (unread l.payload l.at) ≡ fields_of l.payload)

abbrev pub decreases-loop-at : goal.decreases-loop-at
decreases-loop-at l = length l.payload - l.at
