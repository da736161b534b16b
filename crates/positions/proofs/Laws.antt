-- Laws of the lines that are printed.
use mathlib.Core.Path.{◌≡◌, sym, ap, ◌∙◌}
use mathlib.Core.List.{List, [], ◌∷◌}
use Prim.Native.Nat.{ℕ, min, ◌≤◌, ◌<◌}
use native.Mathlib.Omega.{arith}
use lib.ListN.{length, take}
use lib.Seq.{take_all}
use lib.Dec.{leb}
use borrow.Author.Tests.{ne_eqb, leb-true, leb-false}
use Rattle.wire.proofs.Laws.{by_test}
use Rattle.error.specs.declared.Refusal.{Refusal}
use Rattle.error.specs.Refusal.{number_of}
use Rattle.error.proofs.Laws.{numbered}
use Rattle.lsn.specs.Position.{position_of, display_of}
use Rattle.positions.specs.Stored.{refused_texts, outcome_texts, shown_of}

pub shown_accepted : (s : List ℕ) (p : ℕ) → position_of s ≡ (0, p) → shown_of s ≡ display_of p ∷ []
unfolding shown_of
shown_accepted s p e = ap (λ (o : ℕ × ℕ). outcome_texts o s) e

pub shown_refused : (s : List ℕ) (r : Refusal) → position_of s ≡ (number_of r, 0) → shown_of s ≡ refused_texts (number_of r) s
unfolding shown_of
shown_refused s r e = ap (λ (o : ℕ × ℕ). outcome_texts o s) e ∙ simp (ne_eqb _ _ (numbered r))

-- as many of the held bytes as there are
pub held_bytes : (l : List ℕ) (n m : ℕ) → m ≡ min n (length l) → take m l ≡ take n l
held_bytes l n m e =
    by_test (leb n (length l))
    (λ t.
    let h : n ≤ length l = leb-true _ _ t in
    let q : m ≡ n = omega arith in
    rw q)
    (λ t.
    let h : length l < n = leb-false _ _ t in
    let p : length l ≤ m = omega arith in
    let q : length l ≤ n = omega arith in
    take_all m l p ∙ sym (take_all n l q))
