use mathlib.Core.Path.{◌∙◌, ap}
use Rattle.wire.specs.Answer.{maybe}
use Rattle.wire.proofs.FindLaws.{place_is}
use Rattle.wire.proofs.find.find.Goals as goal

pub returns : goal.returns
returns c = ap maybe c.place_of.ensures ∙ place_is c.args.b c.args.s.now
