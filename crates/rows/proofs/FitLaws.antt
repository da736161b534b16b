-- The bounds of what can be sent, with each number written out.
use mathlib.Core.List.{List, [], ◌∷◌}
use Prim.Native.Nat.{ℕ, ◌<◌, ◌≤◌, ◌^◌}
use native.Mathlib.Omega.{arith}
use Rattle.rows.specs.Layout.{All}
use Rattle.rows.specs.RowLayout.{FitLaws}

ids_below : (ids : List ℕ) → All (λ id. id < 2 ^ 32) ids → All (λ id. id ≤ 4294967295) ids
ids_below [] a = tt
ids_below (x ∷ ids) a = (omega (arith, a.0), ids_below ids a.1)

ids_above : (ids : List ℕ) → All (λ id. id ≤ 4294967295) ids → All (λ id. id < 2 ^ 32) ids
ids_above [] a = tt
ids_above (x ∷ ids) a = (omega (arith, a.0), ids_above ids a.1)

pub fit_laws : FitLaws
fit_laws = record {
  of_null = tt;
  of_unchanged = tt;
  of_text = λ v. ((λ f. omega (arith, f)), (λ f. omega (arith, f)));
  of_binary = λ v. ((λ f. omega (arith, f)), (λ f. omega (arith, f)));
  of_tuple = λ cs. ((λ f. (omega (arith, f.0), f.1)), (λ f. (omega (arith, f.0), f.1)));
  of_described = λ flags v oid modifier. (
    (λ f. (omega (arith, f.0), f.1, omega (arith, f.2), omega (arith, f.3))),
    (λ f. (omega (arith, f.0), f.1, omega (arith, f.2), omega (arith, f.3))),
  );
  of_relation = λ id space v identity cs. (
    (λ f. (omega (arith, f.0), f.1, f.2, omega (arith, f.3), omega (arith, f.4), f.5)),
    (λ f. (omega (arith, f.0), f.1, f.2, omega (arith, f.3), omega (arith, f.4), f.5)),
  );
  of_type = λ id space v. ((λ f. (omega (arith, f.0), f.1, f.2)), (λ f. (omega (arith, f.0), f.1, f.2)));
  of_origin = λ position v. ((λ f. (omega (arith, f.0), f.1)), (λ f. (omega (arith, f.0), f.1)));
  of_insert = λ id new. ((λ f. (omega (arith, f.0), f.1)), (λ f. (omega (arith, f.0), f.1)));
  of_update = λ id new. ((λ f. (omega (arith, f.0), f.1)), (λ f. (omega (arith, f.0), f.1)));
  of_update_from = λ id which old new. ((λ f. (omega (arith, f.0), f.1, f.2)), (λ f. (omega (arith, f.0), f.1, f.2)));
  of_delete = λ id which old. ((λ f. (omega (arith, f.0), f.1)), (λ f. (omega (arith, f.0), f.1)));
  of_truncate = λ options ids. (
    (λ f. (omega (arith, f.0), omega (arith, f.1), ids_below ids f.2)),
    (λ f. (omega (arith, f.0), omega (arith, f.1), ids_above ids f.2)),
  );
}
