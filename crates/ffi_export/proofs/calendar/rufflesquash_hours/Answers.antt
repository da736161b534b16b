use mathlib.Core.Path.{ap, ◌∙◌}
use mir.Syntax.{w64}
use mir.ValLaws.{to_z-of_z}
use Rattle.hours.specs.Words.{answer_reply}
use Rattle.ffi_export.proofs.calendar.rufflesquash_hours.Goals as goal

pub returns : goal.returns
returns c =
    let offset = to_z-of_z w64 c.args.offset c.ranges.offset in
    let moment = to_z-of_z w64 c.args.moment c.ranges.moment in
    c.answer_reply-reply.ensures ∙ ap answer_reply (rw (offset, moment) at c.ask.ensures)
