-- A startup message of any texts is the Strings of the texts, and is read String by String.
use mathlib.Core.Path.{◌≡◌, refl, sym, ap, ◌∙◌}
use mathlib.Core.List.{List, [], ◌∷◌, ◌++◌, append_assoc}
use mathlib.Core.Option.{Option, some, none}
use Prim.Native.Nat.{ℕ, zero, suc, ◌+◌, ◌≤◌, ◌<◌}
use native.Mathlib.Omega.{arith}
use lib.ListN.{length, length-append}
use lib.Seq.{take-append_seam, drop-append_seam}
use lib.IntN.{ℤ}
use lib.Signed.{mag}
use lib.Dec.{eqb}
use denote.Ref.{Bor}
use borrow.Author.Tests.{eqb-true, eqb-false, ne_eqb, le-ltb, lt-leb}
use Rattle.wire.specs.Field.{and_then}
use Rattle.wire.specs.Int.{half}
use Rattle.wire.specs.Find.{index_of, NoZero}
use Rattle.wire.proofs.Laws.{by_test}
use Rattle.frontend.specs.Frontend.{pairs, startup}
use Rattle.frontend.specs.Startup.{string_of, pair_by, pairs_from, pairs_of, startup_of}
use Rattle.frontend.specs.StartupStrings.{longer, cut_at_zeros, strings_of, strings_sent, read_in_turn, taken, StartupLaws}
use Rattle.frontend.proofs.StartupBack.{string_back, length_back, fields_back}

-- ---- the bytes of Strings

-- each with its zero byte
abbrev ended : List (List ℕ) → List ℕ
ended [] = []
ended (s ∷ ss) = s ++ (0 ∷ ended ss)

abbrev NoZeros : List (List ℕ) → Type 0
NoZeros [] = Unit
NoZeros (s ∷ ss) = NoZero s × NoZeros ss

ended_append : (a b : List (List ℕ)) → ended (a ++ b) ≡ ended a ++ ended b
ended_append [] b = refl
ended_append (s ∷ a) b = rw (ended_append a b) (simp append_assoc)

no_zeros_append : (a b : List (List ℕ)) → NoZeros a → NoZeros b → NoZeros (a ++ b)
no_zeros_append [] b n m = m
no_zeros_append (s ∷ a) b n m = (n.0, no_zeros_append a b n.1 m)

longer_ended : (b : ℕ) (ss : List (List ℕ)) (t : List ℕ) → ended ss ≡ t ++ (0 ∷ []) → ended (longer b ss) ≡ b ∷ (t ++ (0 ∷ []))
longer_ended b [] t e = let l : 0 ≡ length t + 1 = ap length e ∙ length-append t (0 ∷ []) in absurd (omega arith)
longer_ended b (s ∷ ss) t e = ap (λ (l : List ℕ). b ∷ l) e

cut_ended : (t : List ℕ) → ended (cut_at_zeros t) ≡ t ++ (0 ∷ [])
unfolding cut_at_zeros
cut_ended [] = refl
cut_ended (b ∷ t) =
    by_test (eqb b 0)
    (λ q. let h : b ≡ 0 = eqb-true b 0 q in rw (q, h) (ap (λ (l : List ℕ). 0 ∷ l) (cut_ended t)))
    (λ q. rw q (longer_ended b (cut_at_zeros t) t (cut_ended t)))

longer_no_zeros : (b : ℕ) (ss : List (List ℕ)) → (b ≡ 0 → ⊥) → NoZeros ss → NoZeros (longer b ss)
longer_no_zeros b [] n m = ((n, tt), tt)
longer_no_zeros b (s ∷ ss) n m = ((n, m.0), m.1)

cut_no_zeros : (t : List ℕ) → NoZeros (cut_at_zeros t)
unfolding cut_at_zeros
cut_no_zeros [] = (tt, tt)
cut_no_zeros (b ∷ t) =
    by_test (eqb b 0)
    (λ q. rw q (tt, cut_no_zeros t))
    (λ q. rw q (longer_no_zeros b (cut_at_zeros t) (eqb-false b 0 q) (cut_no_zeros t)))

texts_ended : (texts : List (Bor (List ℕ))) → ended (strings_sent texts) ≡ pairs texts
unfolding pairs
texts_ended [] = refl
texts_ended (name ∷ []) =
    ended_append (cut_at_zeros name.now ++ ([] ∷ [])) ([] ∷ [])
    ∙ rw (ended_append (cut_at_zeros name.now) ([] ∷ []), cut_ended name.now) (simp append_assoc)
texts_ended (name ∷ value ∷ rest) =
    let a : List (List ℕ) = cut_at_zeros name.now in
    let b : List (List ℕ) = cut_at_zeros value.now in
    let e : strings_sent (name ∷ value ∷ rest) ≡ a ++ (b ++ strings_sent rest) = simp append_assoc in
    ap ended e ∙ ended_append a (b ++ strings_sent rest)
    ∙ rw (ended_append b (strings_sent rest), cut_ended name.now, cut_ended value.now, texts_ended rest) (simp append_assoc)

texts_no_zeros : (texts : List (Bor (List ℕ))) → NoZeros (strings_sent texts)
texts_no_zeros [] = (tt, tt)
texts_no_zeros (name ∷ []) =
    no_zeros_append (cut_at_zeros name.now ++ ([] ∷ [])) ([] ∷ [])
    (no_zeros_append (cut_at_zeros name.now) ([] ∷ []) (cut_no_zeros name.now) (tt, tt)) (tt, tt)
texts_no_zeros (name ∷ value ∷ rest) =
    let a : List (List ℕ) = cut_at_zeros name.now in
    let b : List (List ℕ) = cut_at_zeros value.now in
    let e : strings_sent (name ∷ value ∷ rest) ≡ a ++ (b ++ strings_sent rest) = simp append_assoc in
    rw e
    (no_zeros_append a (b ++ strings_sent rest) (cut_no_zeros name.now)
    (no_zeros_append b (strings_sent rest) (cut_no_zeros value.now) (texts_no_zeros rest)))

-- ---- the bytes read String by String

-- something stands after the terminator
more_bytes : (s : List ℕ) (ss : List (List ℕ)) (go : List ℕ → Option (List (List ℕ × List ℕ))) → pair_by [] (ended (s ∷ ss)) go ≡ none
more_bytes [] ss go = refl
more_bytes (c ∷ s) ss go = refl

taken_more : (p : List ℕ × List ℕ) (o : Option (List (List ℕ × List ℕ) × List (List ℕ)))
    → and_then (taken o) (λ ps. some (p ∷ ps)) ≡ taken (and_then o (λ r. some (p ∷ r.0, r.1)))
taken_more p none = refl
taken_more p (some (ps, [])) = refl
taken_more p (some (ps, s ∷ ss)) = refl

none_read : (n : ℕ) → pairs_from n [] ≡ none
unfolding pairs_from string_of index_of
none_read zero = refl
none_read (suc n) = refl

no_string : string_of [] ≡ none
unfolding string_of index_of
no_string = refl

strings_read : (n : ℕ) (ss : List (List ℕ)) → length ss ≤ n → NoZeros ss → pairs_from n (ended ss) ≡ taken (read_in_turn ss)
unfolding pairs_from
strings_read n [] h z = none_read n
strings_read zero (s ∷ ss) h z = absurd (omega arith)
strings_read (suc n) ([] ∷ []) h z = rw (string_back [] [] tt)
strings_read (suc n) ([] ∷ s ∷ ss) h z = rw (string_back [] (ended (s ∷ ss)) tt) (more_bytes s ss (pairs_from n))
strings_read (suc n) ((c ∷ name) ∷ []) h z = rw (string_back (c ∷ name) [] z.0, no_string)
strings_read (suc n) ((c ∷ name) ∷ value ∷ rest) h z =
    rw (
      string_back (c ∷ name) (value ++ (0 ∷ ended rest)) z.0,
      string_back value (ended rest) z.1.0,
      strings_read n rest (omega arith) z.1.1,
    )
    (taken_more (c ∷ name, value) (read_in_turn rest))

enough : (ss : List (List ℕ)) → length ss ≤ length (ended ss)
enough [] = omega arith
enough (s ∷ ss) = let i = enough ss in simp length-append (omega arith)

pairs_read : (texts : List (Bor (List ℕ))) → pairs_of (pairs texts) ≡ taken (read_in_turn (strings_sent texts))
unfolding pairs_of
pairs_read texts =
    let ss : List (List ℕ) = strings_sent texts in
    ap (λ (l : List ℕ). pairs_from (length l) l) (sym (texts_ended texts)) ∙ strings_read (length (ended ss)) ss (enough ss) (texts_no_zeros texts)

read : (version : ℤ) (texts : List (Bor (List ℕ))) (rest : List ℕ) → mag version < half 4 → length (startup version texts) < half 4
    → startup_of (startup version texts ++ rest)
    ≡ and_then (taken (read_in_turn (strings_sent texts))) (λ ps. some (record { version = version; parameters = ps; rest = rest }))
unfolding startup_of
read version texts rest h k =
    let m : List ℕ = startup version texts in
    let n : length m ≤ length (m ++ rest) = omega (arith, length-append m rest) in
    let f = fields_back version texts h in
    rw (length_back version texts rest (omega arith))
    (simp (lt-leb (half 4) (length m) k, le-ltb (length (m ++ rest)) (length m) n)
    (rw (take-append_seam m rest, drop-append_seam m rest, f.0, f.1, pairs_read texts)))

-- ---- where a text is cut

uncut : (t : List ℕ) → NoZero t → cut_at_zeros t ≡ t ∷ []
unfolding cut_at_zeros
uncut [] n = refl
uncut (b ∷ t) n = rw (ne_eqb b 0 n.0, uncut t n.1)

cut : (t u : List ℕ) → NoZero t → cut_at_zeros (t ++ (0 ∷ u)) ≡ t ∷ cut_at_zeros u
unfolding cut_at_zeros
cut [] u n = refl
cut (b ∷ t) u n = rw (ne_eqb b 0 n.0, cut t u n.1)

-- the terminator comes later
not_last : (a : List (List ℕ)) → taken (some ([], a ++ ([] ∷ []))) ≡ none
not_last [] = refl
not_last (s ∷ a) = refl

empty_name : (name : Bor (List ℕ)) (texts : List (Bor (List ℕ))) → name.now ≡ [] → taken (read_in_turn (strings_sent (name ∷ texts))) ≡ none
unfolding cut_at_zeros
empty_name name [] e = rw e
empty_name name (value ∷ rest) e = rw e (not_last (cut_at_zeros value.now ++ strings_of rest))

pub startup_laws : StartupLaws
startup_laws =
    record {
      read = read;
      uncut = uncut;
      cut = cut;
      value_cut = λ name seen hidden more c n. rw (cut seen hidden n);
      name_cut = λ seen hidden more c n m. rw (cut (c ∷ seen) hidden n, uncut hidden m);
      empty_name = λ version name texts rest e h k. read version (name ∷ texts) rest h k ∙ rw (empty_name name texts e);
    }
