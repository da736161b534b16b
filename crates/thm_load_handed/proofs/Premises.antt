-- Each by computing.
use mathlib.Core.Path.{refl}
use native.Mathlib.Omega.{arith}
use Rattle.thm_load_handed.specs.Premises.{PremisesSay}

pub premises_say : PremisesSay
premises_say =
    record {
      no_calls = tt;
      a_step = λ i n out cs s q u. (s, q, u);
      a_report = λ file position moment cs u. u;
      none_unread = λ len. tt;
      step_unread = λ len n i out cs l u. (l, u);
      report_unread = λ len file position moment cs u. u;
      held = (refl, refl);
      not_held = (refl, refl, refl, refl, refl, refl);
      many = λ n. omega arith;
    }
