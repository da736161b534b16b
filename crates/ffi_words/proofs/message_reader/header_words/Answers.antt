use mathlib.Core.Path.{◌≡◌}
use lib.ListN.{length}
use Rattle.ffi_words.proofs.RoundTrip.{five_bytes}
use borrow.Author.Rules.{rules}
use Rattle.ffi_words.proofs.message_reader.header_words.Goals as goal

pub returns : goal.returns
returns c =
    let h = c.args.h in
    let five : length h ≡ 5 = search rules in (
      rw (
        c.wide-5.ensures.0,
        c.wide-4.ensures.0,
        c.wide-3.ensures.0,
        c.wide-2.ensures.0,
        c.wide.ensures.0,
      ),
      (five, five_bytes h c.wide.ensures.1 c.wide-2.ensures.1 c.wide-3.ensures.1 c.wide-4.ensures.1 c.wide-5.ensures.1),
    )
