use mathlib.Core.Path.{ap, ◌∙◌}
use Rattle.ffi_words.specs.Words.{Fits, run_of}
use Rattle.ffi_words.proofs.Laws.{words_are}
use Rattle.ffi_words.proofs.RoundTrip.{round_trip}
use Rattle.ffi_words.proofs.run.words_of.Goals as goal

pub returns : goal.returns
returns c =
    let r = c.args.run in
    let fits : Fits r = record { header = c.header_words-header.ensures.1; tag = c.wide.ensures.1; event = c.event_words-event.ensures.1 } in
    let words = words_are r c.event_words-event.ensures.0 c.flag.ensures c.flag-2.ensures c.flag-3.ensures c.state_word.ensures c.header_words-header.ensures.0 c.flag-4.ensures c.flag-5.ensures c.flag-6.ensures c.flag-7.ensures c.flag-8.ensures c.wide.ensures.0 c.flag-9.ensures c.flag-10.ensures c.flag-11.ensures in
    (words, ap run_of words ∙ round_trip r fits)
