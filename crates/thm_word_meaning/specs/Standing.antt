-- Beside the words at exit a contract has what they stand for: it is the words themselves, and the run, reader, query or cell that these words are.
-- SCOPE 9.1, 9.3, 9.4.
use Rattle.std.specs.Prelude.{ℕ, List, ◌≡◌}
use Rattle.ffi_words.specs.Calls.{standing}
use Rattle.ffi_words.specs.Cells.{cell_standing}
use Rattle.ffi_words.specs.Words.{run_of}
use Rattle.ffi_answers.specs.Fold.{query_standing}
use Rattle.ffi_answers.specs.Read.{reader_standing}
use Rattle.thm_word_meaning.specs.Answers.{reader_by, query_by}
use Rattle.thm_word_meaning.specs.Cells.{cell_in}

-- of any words; which word of a run is which is said in Words
pub record Standings : Type 0 where
  pub run : (w : List ℕ) → standing w ≡ (w, run_of w)
  pub reader : (w : List ℕ) → reader_standing w ≡ (w, reader_by w)
  pub query : (w : List ℕ) → query_standing w ≡ (w, query_by w)
  pub cell : (w : List ℕ) → cell_standing w ≡ (w, cell_in w)
