use Rattle.test_playing.proofs.spelling.prefix.Goals as goal

pub returns-then-brief : goal.returns-then-brief
returns-then-brief c =
    rw (
      c.if-brief.true,
      ← c.lossy_len.ensures,
    ) c.by_length.ensures

pub returns : goal.returns
returns c = rw c.if-brief.false c.part.ensures
