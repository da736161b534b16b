-- A letter that is found stands at the index of its field.
use native.Mathlib.Omega.{arith}
use Rattle.wire.specs.Answer.{maybe}
use Rattle.wire.proofs.FieldLaws.{told}
use Rattle.wire.proofs.FindLaws.{found_below}
use Rattle.messages.specs.Fields.{letters}
use Rattle.messages.proofs.ErrorFields.with.Goals as goal

pub offset_bounds-self-i : goal.offset_bounds-self-i
offset_bounds-self-i c = omega (arith, found_below c.args.letter letters _ (told maybe c.index_of.ensures c.in-Some.is))

pub bounds-self-i : goal.bounds-self-i
bounds-self-i c = found_below c.args.letter letters _ (told maybe c.index_of.ensures c.in-Some.is)
