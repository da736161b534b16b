-- The automaton is where the parts say: over the bytes of a part it goes through what its row has left.
use mathlib.Core.Path.{◌≡◌, refl, sym, ap, ◌∙◌}
use mathlib.Core.Bool.{Bool, true, false}
use mathlib.Core.List.{List, [], ◌∷◌}
use mathlib.Core.Option.{Option, some, none}
use Prim.Native.Nat.{ℕ, zero, suc, ◌≤◌, ◌<◌, max}
use native.Mathlib.Nat.{not-suc-le-zero}
use native.Mathlib.Omega.{arith}
use lib.ListN.{length, take, drop, get_or, length-drop, drop_of_length-le}
use lib.Seq.{length-take-le}
use lib.Dec.{eqb}
use borrow.Author.Tests.{eq-eqb, ne_eqb, eqb-true, eqb-false}
use Rattle.wire.specs.Bytes.{pick}
use Rattle.wire.proofs.Laws.{by_test}
use Rattle.utf8.specs.WellFormed.{Range, table, within, row_of, matched}
use Rattle.utf8.specs.Automaton.{after, after_all}
use Rattle.lossy.specs.Lossy.{Part, well, ill, part_by, bytes_of, parts_of}
use Rattle.lossy.specs.Automaton.{left_of, due_behind, AutomatonSays}
use Rattle.lossy.proofs.Table.{Own, own, matched_fits}
use Rattle.lossy.proofs.Laws.{parts_next}

-- ---- the automaton over bytes

ill_stays : (s : List ℕ) → after_all none s ≡ none
unfolding after_all
ill_stays [] = refl
ill_stays (b ∷ s) = ill_stays s

-- the bytes that are due
run_all : (rs : List Range) (s : List ℕ) → matched rs s ≡ length rs → after_all (some rs) s ≡ after_all (some []) (drop (length rs) s)
unfolding matched after_all
run_all [] s e = refl
run_all (r ∷ rs) [] e = absurd (omega arith)
run_all (r ∷ rs) (b ∷ s) e = by (within r b) (run_all rs s) e
  where
    by : (t : Bool) → (matched rs s ≡ length rs → after_all (some rs) s ≡ after_all (some []) (drop (length rs) s))
        → pick t (suc (matched rs s)) 0 ≡ suc (length rs) → after_all (pick t (some rs) none) s ≡ after_all (some []) (drop (length rs) s)
    by true f e = f (omega arith)
    by false f e = absurd (omega arith)

-- the text ends before
run_cut : (rs : List Range) (s : List ℕ) → matched rs s < length rs → matched rs s ≡ length s → after_all (some rs) s ≡ some (drop (length s) rs)
unfolding matched after_all
run_cut [] s h e = absurd (not-suc-le-zero h)
run_cut (r ∷ rs) [] h e = refl
run_cut (r ∷ rs) (b ∷ s) h e = by (within r b) (run_cut rs s) h e
  where
    by : (t : Bool) → (matched rs s < length rs → matched rs s ≡ length s → after_all (some rs) s ≡ some (drop (length s) rs))
        → pick t (suc (matched rs s)) 0 < suc (length rs) → pick t (suc (matched rs s)) 0 ≡ suc (length s)
        → after_all (pick t (some rs) none) s ≡ some (drop (length s) rs)
    by true f h e = f (omega arith) (omega arith)
    by false f h e = absurd (omega arith)

-- a byte is ill-formed before
run_ill : (rs : List Range) (s : List ℕ) → matched rs s < length rs → matched rs s < length s → after_all (some rs) s ≡ none
unfolding matched after_all
run_ill [] s h k = absurd (not-suc-le-zero h)
run_ill (r ∷ rs) [] h k = absurd (not-suc-le-zero k)
run_ill (r ∷ rs) (b ∷ s) h k = by (within r b) (run_ill rs s) h k
  where
    by : (t : Bool) → (matched rs s < length rs → matched rs s < length s → after_all (some rs) s ≡ none)
        → pick t (suc (matched rs s)) 0 < suc (length rs) → pick t (suc (matched rs s)) 0 < suc (length s) → after_all (pick t (some rs) none) s ≡ none
    by true f h k = f (omega arith) (omega arith)
    by false f h k = ill_stays s

-- ---- a part and those after it

-- an ill-formed part before a byte
ill_before : (x t : List ℕ) → 0 < length t → due_behind (ill x ∷ parts_of (length t) t) ≡ none
unfolding parts_of
ill_before x [] h = absurd (not-suc-le-zero h)
ill_before x (b ∷ t) h = refl

ill_last : (x t : List ℕ) → t ≡ [] → due_behind (ill x ∷ parts_of (length t) t) ≡ left_of (row_of table (get_or x 0 0)) x
unfolding parts_of
ill_last x t e = rw e refl

parts_none : parts_of 0 [] ≡ []
unfolding parts_of
parts_none = refl

-- a first byte that begins no row
none_begun : (b : ℕ) (s : List ℕ) → row_of table b ≡ [] → due_behind (ill (b ∷ []) ∷ parts_of (length s) s) ≡ none
none_begun b [] e = ill_last (b ∷ []) [] refl ∙ rw e refl
none_begun b (c ∷ s) e = ill_before (b ∷ []) (c ∷ s) (omega arith)

-- what the automaton reaches over a text and what its parts say
abbrev Said : List ℕ → Type 0
Said s = after_all (some []) s ≡ due_behind (parts_of (length s) s)

-- a first byte that begins a row, of which so many more bytes match
module _ (b : ℕ) (s : List ℕ) (r : Range) (rs : List Range) (e : row_of table b ≡ r ∷ rs) (o : within r b ≡ true) where
  count : matched (r ∷ rs) (b ∷ s) ≡ suc (matched rs s)
  unfolding matched
  count = rw o refl

  first : after (some []) b ≡ some rs
  first = rw e refl

  -- the part, and the bytes after it
  module _ (m : matched rs s ≡ length rs) where
    part_well : part_by (row_of table b) (b ∷ s) ≡ well (take (suc (length rs)) (b ∷ s))
    part_well = rw e (rw (count, m) (simp (eq-eqb (suc (length rs)) (suc (length rs)) refl)))

  module _ (m : matched rs s < length rs) where
    part_ill : part_by (row_of table b) (b ∷ s) ≡ ill (take (suc (matched rs s)) (b ∷ s))
    part_ill =
        let n : ℕ = matched rs s in
        let k : max 1 (suc n) ≡ suc n = omega arith in
        rw e (rw (count, k) (simp (ne_eqb (suc n) (suc (length rs)) (λ z. omega arith))))

parts_front : (b : ℕ) (s : List ℕ) (p : Part) (n : ℕ) → part_by (row_of table b) (b ∷ s) ≡ p → length (bytes_of p) ≡ suc n
    → parts_of (length (b ∷ s)) (b ∷ s) ≡ p ∷ parts_of (length (drop n s)) (drop n s)
parts_front b s p n e l = parts_next b s ∙ go (part_by (row_of table b) (b ∷ s)) e
  where
    go : (q : Part) → q ≡ p
        → q ∷ parts_of (length (drop (length (bytes_of q)) (b ∷ s))) (drop (length (bytes_of q)) (b ∷ s)) ≡ p ∷ parts_of (length (drop n s)) (drop n s)
    go q e = rw (e, l) refl

matched_most : (rs : List Range) (s : List ℕ) → matched rs s ≤ length rs
unfolding matched
matched_most [] s = omega arith
matched_most (r ∷ rs) [] = omega arith
matched_most (r ∷ rs) (b ∷ s) = by (within r b) (matched_most rs s)
  where
    by : (t : Bool) → matched rs s ≤ length rs → pick t (suc (matched rs s)) 0 ≤ suc (length rs)
    by true h = omega arith
    by false h = omega arith

none_said : (b : ℕ) (s : List ℕ) → row_of table b ≡ [] → Said (b ∷ s)
unfolding after_all
none_said b s e =
    let x : part_by (row_of table b) (b ∷ s) ≡ ill (b ∷ []) = rw e refl in
    rw e (ill_stays s) ∙ sym (ap due_behind (parts_front b s (ill (b ∷ [])) 0 x refl) ∙ none_begun b s e)

module _ (b : ℕ) (s : List ℕ) (r : Range) (rs : List Range) (e : row_of table b ≡ r ∷ rs) (o : within r b ≡ true) where
  fits : matched rs s ≤ length s
  fits = matched_fits rs s

  run : (d : Option (List Range)) → after_all (some rs) s ≡ d → after_all (some []) (b ∷ s) ≡ d
  unfolding after_all
  run d f = ap (λ (x : Option (List Range)). after_all x s) (first b s r rs e o) ∙ f

  front : (n : ℕ) → n ≤ length s → length (take (suc n) (b ∷ s)) ≡ suc n
  front n h = length-take-le (suc n) (b ∷ s) (omega arith)

  well_said : matched rs s ≡ length rs → Said (drop (length rs) s) → Said (b ∷ s)
  well_said m i =
      let f = fits in
      let x : List ℕ = take (suc (length rs)) (b ∷ s) in
      run (due_behind (parts_of (length (b ∷ s)) (b ∷ s)))
      (run_all rs s m ∙ i ∙ sym (ap due_behind (parts_front b s (well x) (length rs) (part_well b s r rs e o m) (front (length rs) (omega arith)))))

  cut_said : matched rs s < length rs → matched rs s ≡ length s → Said (b ∷ s)
  cut_said h m =
      let n : ℕ = matched rs s in
      let x : List ℕ = take (suc n) (b ∷ s) in
      let q : length s ≤ n = omega arith in
      let t : drop n s ≡ [] = drop_of_length-le s q in
      let l : left_of (row_of table b) x ≡ some (drop n rs) = rw e (ap (λ (k : ℕ). some (drop k (r ∷ rs))) (front n (omega arith))) in
      let p = parts_front b s (ill x) n (part_ill b s r rs e o h) (front n (omega arith)) in
      run (due_behind (parts_of (length (b ∷ s)) (b ∷ s)))
      (run_cut rs s h m ∙ ap (λ (k : ℕ). some (drop k rs)) (sym m) ∙ sym (ap due_behind p ∙ ill_last x (drop n s) t ∙ l))

  ill_said : matched rs s < length rs → matched rs s < length s → Said (b ∷ s)
  ill_said h m =
      let n : ℕ = matched rs s in
      let x : List ℕ = take (suc n) (b ∷ s) in
      let p = parts_front b s (ill x) n (part_ill b s r rs e o h) (front n (omega arith)) in
      let k : 0 < length (drop n s) = simp length-drop (omega arith) in
      run (due_behind (parts_of (length (b ∷ s)) (b ∷ s))) (run_ill rs s h m ∙ sym (ap due_behind p ∙ ill_before x (drop n s) k))

  begun_said : Said (drop (length rs) s) → Said (b ∷ s)
  begun_said i =
      let f = fits in
      let g = matched_most rs s in
      by_test (eqb (matched rs s) (length rs)) (λ t. well_said (eqb-true _ _ t) i)
      (λ t. let a = less (eqb-false (matched rs s) (length rs) t) g in
      by_test (eqb (matched rs s) (length s)) (λ u. cut_said a (eqb-true _ _ u)) (λ u. ill_said a (less (eqb-false (matched rs s) (length s) u) f)))
    where
      less : {m n : ℕ} → (m ≡ n → ⊥) → m ≤ n → m < n
      less f h = omega (arith, f)

row_said : (b : ℕ) (s : List ℕ) (row : List Range) → row_of table b ≡ row → Own row b → ((t : List ℕ) → length t ≤ length s → Said t) → Said (b ∷ s)
row_said b s [] e o f = none_said b s e
row_said b s (r ∷ rs) e o f = begun_said b s r rs e o (f (drop (length rs) s) (simp length-drop (omega arith)))

all_said : (n : ℕ) (s : List ℕ) → length s ≤ n → Said s
unfolding after_all parts_of
all_said zero [] h = refl
all_said (suc n) [] h = refl
all_said zero (b ∷ s) h = absurd (not-suc-le-zero h)
all_said (suc n) (b ∷ s) h = row_said b s (row_of table b) refl (own table b) (λ t l. all_said n t (omega arith))

pub automaton_says : AutomatonSays
automaton_says s n = all_said (length (take n s)) (take n s) (omega arith)
