use Rattle.std.proofs.Common.{◌∙◌}
use Rattle.advance.proofs.Laws.{no_payload, is_xlog, is_other}
use Rattle.advance.proofs.at_hand.message.Goals as goal

pub returns-then-payload-eq0 : goal.returns-then-payload-eq0
returns-then-payload-eq0 c = (no_payload _ c.if-payload-eq0.true, tt)

pub returns-then-payload-eq119 : goal.returns-then-payload-eq119
returns-then-payload-eq119 c = (c.xlog_data.ensures.0 ∙ is_xlog _ c.if-payload-eq0.false c.if-payload-eq119.true, c.xlog_data.ensures.1)

pub returns : goal.returns
returns c = (is_other _ c.if-payload-eq0.false c.if-payload-eq119.false, tt)
