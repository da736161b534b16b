-- The laws of the answers, by their tests.
use mathlib.Core.Path.{refl}
use native.Mathlib.Omega.{arith}
use borrow.Author.Tests.{le-leb, lt-leb, ne_eqb}
use Rattle.lossy.specs.Marks.{measured, with_marks}
use Rattle.lossy.specs.Answers.{AnswerLaws}

pub answer_laws : AnswerLaws
unfolding measured with_marks
answer_laws =
    record {
      within = λ room n marks h. simp (le-leb _ _ h);
      past = λ room n marks h. simp (lt-leb _ _ h);
      written = λ marks n out. refl;
      unwritten = λ marks number n out h. simp (ne_eqb number 0 (λ e. omega arith));
      fits = λ bytes marks. refl;
      over = refl;
      wrote = λ bytes marks. refl;
      refused = λ r. refl;
    }
