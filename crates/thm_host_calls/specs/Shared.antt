-- What the theorem about exported calls shares with the machine beside the list of thm_any_calls/specs/Shared.antt: the text of a page. SCOPE 5.12.
use Rattle.page.specs.PageLines.{PageHasLines}
use Rattle.page.specs.Reader.{PageReadsBack}

-- `page_of`: six lines, each a label, blanks and a value that is spelled as the value is; and a reader of labels and values reads the page back
pub record PageHeld : Type 0 where
  pub lines : PageHasLines
  pub read_back : PageReadsBack
