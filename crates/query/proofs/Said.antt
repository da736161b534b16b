-- Each answer about a row, a column and a query says its own values.
use mathlib.Core.Path.{refl}
use Rattle.query.specs.Said.{AnswersSaid}

pub answers_said : AnswersSaid
answers_said =
    record {
      of_columns = λ n. refl;
      of_refused_row = λ r. refl;
      of_absent = refl;
      of_null = refl;
      of_part = λ from len. refl;
      of_malformed = λ r. refl;
      of_more = refl;
      of_row = λ n. refl;
      of_ready = refl;
      of_failed = λ kept len. refl;
      of_refused = λ r. refl;
    }
