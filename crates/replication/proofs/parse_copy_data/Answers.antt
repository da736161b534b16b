-- By the letter: what the body says is what the payload says.
use Rattle.replication.proofs.Laws.{empty, by_w, by_k, by_other}
use Rattle.replication.proofs.parse_copy_data.Goals as goal

pub returns-then-payload-eq0 : goal.returns-then-payload-eq0
returns-then-payload-eq0 c = empty _ c.if-payload-eq0.true

pub returns-then-letter-eq119 : goal.returns-then-letter-eq119
returns-then-letter-eq119 c = by_w _ _ c.if-payload-eq0.false c.if-letter-eq119.true c.xlog_data.ensures

pub returns-then-letter-eq107 : goal.returns-then-letter-eq107
returns-then-letter-eq107 c =
    by_k _ _ c.if-payload-eq0.false c.if-letter-eq119.false c.if-letter-eq107.true c.keep_alive.ensures

pub returns : goal.returns
returns c = by_other _ c.if-payload-eq0.false c.if-letter-eq119.false c.if-letter-eq107.false
