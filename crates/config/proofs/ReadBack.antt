-- An option value read back: a doubled quote never closes the literal, and the commas part the names.
use mathlib.Core.Path.{◌≡◌, refl, ap, ◌∙◌}
use mathlib.Core.List.{List, [], ◌∷◌, ◌++◌, map, append_assoc, append-nil}
use mathlib.Core.Option.{some, none}
use Prim.Native.Nat.{ℕ}
use native.Mathlib.Omega.{arith}
use lib.Dec.{eqb}
use borrow.Author.Tests.{ne_eqb, eqb-true, eqb-false}
use denote.Ref.{Bor}
use Rattle.wire.proofs.Laws.{by_test}
use Rattle.config.specs.OptionValue.{doubled, following, option_value}
use Rattle.config.specs.ReadBack.{unquoted, names_of, with_commas, NoQuote, NoComma, ValueReadBack, NamesReadBack}

-- ---- the literal

-- a byte that is no quote goes on
plain_byte : (c : ℕ) (s : List ℕ) (r : List ℕ × List ℕ) → (c ≡ 39 → ⊥) → unquoted s ≡ some r → unquoted (c ∷ s) ≡ some (c ∷ r.0, r.1)
unfolding unquoted
plain_byte c [] r n e = let z : none ≡ some r = e in cc
plain_byte c (d ∷ s) r n e = rw (ne_eqb c 39 n, e)

-- two quotes are one
two_quotes : (s : List ℕ) (r : List ℕ × List ℕ) → unquoted s ≡ some r → unquoted (39 ∷ 39 ∷ s) ≡ some (39 ∷ r.0, r.1)
unfolding unquoted
two_quotes s r e = rw e

-- one quote closes the literal
closed : (rest : List ℕ) → NoQuote rest → unquoted (39 ∷ rest) ≡ some ([], rest)
unfolding unquoted
closed [] n = refl
closed (c ∷ s) n = rw (ne_eqb c 39 n)

-- a name with its quotes doubled, before a text that is read
name_back : (name s t u : List ℕ) → unquoted s ≡ some (t, u) → unquoted (doubled name ++ s) ≡ some (name ++ t, u)
unfolding doubled
name_back [] s t u e = e
name_back (c ∷ name) s t u e =
    by_test (eqb c 39)
    (λ q.
    let h : c ≡ 39 = eqb-true c 39 q in
    rw h (two_quotes (doubled name ++ s) (name ++ t, u) (name_back name s t u e)))
    (λ q. rw q (plain_byte c (doubled name ++ s) (name ++ t, u) (eqb-false c 39 q) (name_back name s t u e)))

-- the names after the first
tail_back : (ns : List (Bor (List ℕ))) (s rest : List ℕ) → unquoted s ≡ some ([], rest) → (n : Bor (List ℕ))
    → unquoted (doubled n.now ++ (following ns ++ s)) ≡ some (with_commas (map (λ x. x.now) (n ∷ ns)), rest)
unfolding following
tail_back [] s rest e n = name_back n.now s [] rest e ∙ ap (λ (x : List ℕ). some (x, rest)) (append-nil n.now)
tail_back (m ∷ ns) s rest e n =
    let t : List ℕ = with_commas (map (λ x. x.now) (m ∷ ns)) in
    let r : unquoted (doubled m.now ++ (following ns ++ s)) ≡ some (t, rest) = tail_back ns s rest e m in
    let a : ◌≡◌ {A = ℕ} 44 39 → ⊥ = λ z. omega arith in
    let c : unquoted (44 ∷ (doubled m.now ++ (following ns ++ s))) ≡ some (44 ∷ t, rest) = plain_byte 44 (doubled m.now ++ (following ns ++ s)) (t, rest) a r in
    rw (append_assoc (doubled m.now) (following ns) s) (name_back n.now (44 ∷ (doubled m.now ++ (following ns ++ s))) (44 ∷ t) rest c)

pub value_read_back : ValueReadBack
unfolding option_value
value_read_back [] rest n = closed rest n
value_read_back (m ∷ ns) rest n = rw (append_assoc (doubled m.now) (following ns) (39 ∷ rest)) (tail_back ns (39 ∷ rest) rest (closed rest n) m)

-- ---- the names

-- a name without a comma, before names that are read
name_first : (name s : List ℕ) (ns : List (List ℕ)) → NoComma name → names_of s ≡ ns → names_of (name ++ (44 ∷ s)) ≡ name ∷ ns
unfolding names_of
name_first [] s ns h e = rw e
name_first (c ∷ name) s ns h e = rw (ne_eqb c 44 h.0, name_first name s ns h.1 e)

pub name_last : (name : List ℕ) → NoComma name → names_of name ≡ name ∷ []
unfolding names_of
name_last [] h = refl
name_last (c ∷ name) h = rw (ne_eqb c 44 h.0, name_last name h.1)

pub names_read_back : NamesReadBack
names_read_back n [] h = name_last n h.0
names_read_back n (m ∷ ns) h = name_first n (with_commas (m ∷ ns)) (m ∷ ns) h.0 (names_read_back m ns h.1)
