-- The laws of moments, by their tests.
use native.Mathlib.Omega.{arith}
use borrow.Author.Tests.{lt-ltb, le-ltb, le-leb, lt-leb}
use Rattle.moment.specs.Moment.{last}
use Rattle.moment.specs.MomentLaws.{MomentLaws}

pub moment_laws : MomentLaws
moment_laws =
    record {
      in_range_lem = λ m h k. simp (le-ltb _ _ h, le-leb _ _ k);
      too_early = λ m e. simp (lt-ltb m.0 1 (omega arith));
      too_late = λ m h. simp (le-ltb m.0 1 (omega arith), lt-leb m.0 last (omega arith));
      before = λ a b h. lt-ltb _ _ h;
      not_before = λ a b h. le-ltb _ _ h;
      since = λ a b h. omega arith;
      since_ahead = λ a b h. omega arith;
    }
