-- What each answer about a row, a column and a query says, over all values. SCOPE 3.10, 3.11.
use Rattle.std.specs.Prelude.{◌≡◌, ℕ, Ok, Err}
use Rattle.error.specs.declared.Refusal.{Refusal}
use Rattle.error.specs.Refusal.{number_of}
use Rattle.query.specs.declared.Column.TheVariants.{Null, Part, Absent}
use Rattle.query.specs.declared.simple.Answer.{Answer}
use Rattle.error.specs.Writer.{outcome}
use Rattle.query.specs.DataRow.{column_outcome}
use Rattle.query.specs.Fold.{more, data_row, ready, failed, refused, answer_outcome}

-- an answer says its own values in their order: the refusal's number first, 0 for none; of a column then 0 for no such column, 1 for a null, 2 for
-- a value
pub record AnswersSaid : Type 0 where
  pub of_columns : (n : ℕ) → outcome (Ok n) ≡ (0, n)
  pub of_refused_row : (r : Refusal) → outcome (Err r) ≡ (number_of r, 0)
  pub of_absent : column_outcome (Ok Absent) ≡ (0, 0, 0, 0)
  pub of_null : column_outcome (Ok Null) ≡ (0, 1, 0, 0)
  pub of_part : (from len : ℕ) → column_outcome (Ok (Part from len)) ≡ (0, 2, from, len)
  pub of_malformed : (r : Refusal) → column_outcome (Err r) ≡ (number_of r, 0, 0, 0)
  pub of_more : answer_outcome (Ok Answer.More) ≡ more
  pub of_row : (n : ℕ) → answer_outcome (Ok (Answer.DataRow n)) ≡ data_row n
  pub of_ready : answer_outcome (Ok Answer.Ready) ≡ ready
  pub of_failed : (kept len : ℕ) → answer_outcome (Ok (Answer.Failed kept len)) ≡ failed kept len
  pub of_refused : (r : Refusal) → answer_outcome (Err r) ≡ refused (number_of r)
