use mathlib.Core.Path.{sym, ◌∙◌}
use Rattle.ffi_answers.proofs.Laws.{no_kind}
use Rattle.ffi_answers.proofs.kind.kind_word.Goals as goal

pub returns-then-is_between : goal.returns-then-is_between
returns-then-is_between c = rw (sym c.is_between.ensures ∙ c.if-is_between.true)

pub returns-then-is_between-2 : goal.returns-then-is_between-2
returns-then-is_between-2 c =
    rw (sym c.is_between.ensures ∙ c.if-is_between.false, sym c.is_between-2.ensures ∙ c.if-is_between-2.true)

pub returns-then-refusal-gt255 : goal.returns-then-refusal-gt255
returns-then-refusal-gt255 c =
    rw (sym c.is_between.ensures ∙ c.if-is_between.false, sym c.is_between-2.ensures ∙ c.if-is_between-2.false)
    (no_kind _ c.if-refusal-gt255.true)

pub returns : goal.returns
returns c =
    rw (sym c.is_between.ensures ∙ c.if-is_between.false, sym c.is_between-2.ensures ∙ c.if-is_between-2.false)
    c.kind_by_number.ensures
