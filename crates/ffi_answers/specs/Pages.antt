-- The service page over a run's words. SCOPE 5.12, 9.2; 02, wish 9.
use Rattle.std.specs.Prelude.{ℕ, List}
use Rattle.error.specs.Writer.{writing}
use Rattle.page.specs.Page.{page_of}
use Rattle.run_page.specs.RunPage.{shown_by}
use Rattle.ffi_words.specs.Words.{run_of}

-- `rufflesquash_page`, over a run's words: refusal, bytes written, output
abbrev pub page_call : List ℕ → List ℕ → (ℕ × ℕ) × List ℕ
page_call w out = writing 0 (page_of (shown_by (run_of w))) out
