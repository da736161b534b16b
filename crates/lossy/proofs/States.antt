-- A part that is found by the table: in each state just the ranges are due that the part's row has left.
use mathlib.Core.Path.{◌≡◌, refl, sym, ap, ◌∙◌}
use mathlib.Core.Bool.{Bool, true, false}
use mathlib.Core.List.{List, [], ◌∷◌}
use mathlib.Core.Option.{Option, some, none}
use Prim.Native.Nat.{ℕ, suc, ◌+◌, ◌-◌, ◌≤◌, ◌<◌}
use native.Mathlib.Omega.{arith}
use lib.ListN.{length, drop, get_or, drop_of_length-le}
use lib.Seq.{drop-cons}
use lib.Dec.{eqb}
use borrow.Author.Tests.{eq-eqb, ne_eqb, eqb-true, eqb-false}
use Rattle.wire.specs.Bytes.{pick}
use Rattle.wire.proofs.Laws.{by_test, impossible}
use Rattle.utf8.specs.WellFormed.{Range, table, within, row_of, matched}
use Rattle.utf8.specs.Automaton.{begun, after, due_in, entry_of}
use Rattle.utf8.proofs.Entries.{entry_leads, entries_end, none_due, due_between, due_within}
use Rattle.lossy.specs.Code.{behind_first, PartAt}
use Rattle.lossy.proofs.Table.{at_ill, at_begun}

-- ---- a state

some_apart : {X : Type 0} {d : Option (List Range)} {rs : List Range} → d ≡ none → d ≡ some rs → X
some_apart e f = impossible cc

same_due : {d : Option (List Range)} {qs rs : List Range} → d ≡ some qs → d ≡ some rs → qs ≡ rs
same_due e f = cc

due_below : (q : ℕ) → q < 8 → (rs : List Range) × (due_in q ≡ some rs)
due_below q h =
    by_test (eqb q 0) (λ t. ([], ap due_in (eqb-true q 0 t) ∙ due_between)) (λ t. let w = due_within q (positive q (eqb-false q 0 t)) h in (w.0 ∷ w.1, w.2))
  where
    positive : (n : ℕ) → (n ≡ 0 → ⊥) → 0 < n
    positive n f = omega (arith, f)

-- ---- the first byte

begun_none : (row : List Range) → begun row ≡ none → (false, []) ≡ behind_first row
begun_none [] e = refl
begun_none (r ∷ rs) e = impossible cc

begun_some : (row rs : List Range) → begun row ≡ some rs → (true, rs) ≡ behind_first row
begun_some [] rs e = impossible cc
begun_some (r ∷ row) rs e = let q : row ≡ rs = same_due {d = some row} refl e in ap (λ (x : List Range). (true, x)) (sym q)

module _ (b n : ℕ) (l : b < 256) (e : n ≡ entry_of 0 b) where
  led : due_in n ≡ begun (row_of table b)
  led = ap due_in e ∙ entry_leads 0 b l ∙ ap (λ (d : Option (List Range)). after d b) due_between

  first_ill : n ≡ 8 → (false, []) ≡ behind_first (row_of table b)
  first_ill z = begun_none (row_of table b) (sym led ∙ ap due_in z ∙ none_due 8 (omega arith))

  first_some : (rs : List Range) → due_in n ≡ some rs → (true, rs) ≡ behind_first (row_of table b)
  first_some rs d = begun_some (row_of table b) rs (sym led ∙ d)

below : (q b n : ℕ) → n ≡ entry_of q b → (n ≡ 8 → ⊥) → n < 8
below q b n e f = let h : entry_of q b ≤ 8 = entries_end q b in omega (arith, f)

-- ---- a byte after it

picked_none : (t : Bool) (rs : List Range) → pick t (some rs) none ≡ none → t ≡ false
picked_none true rs e = impossible cc
picked_none false rs e = refl

picked_some : (t : Bool) (rs qs : List Range) → pick t (some rs) none ≡ some qs → (t ≡ true) × (rs ≡ qs)
picked_some true rs qs e = (refl, same_due {d = some rs} refl e)
picked_some false rs qs e = impossible cc

module _ (q b n : ℕ) (l : b < 256) (e : n ≡ entry_of q b) (r : Range) (rs : List Range) (d : due_in q ≡ some (r ∷ rs)) where
  leads : due_in n ≡ pick (within r b) (some rs) none
  leads = ap due_in e ∙ entry_leads q b l ∙ ap (λ (x : Option (List Range)). after x b) d

  byte_ill : n ≡ 8 → within r b ≡ false
  byte_ill z = picked_none (within r b) rs (sym leads ∙ ap due_in z ∙ none_due 8 (omega arith))

  byte_within : (n ≡ 8 → ⊥) → (within r b ≡ true) × (due_in n ≡ some rs)
  byte_within f =
      let w = due_below n (below q b n e f) in
      let p = picked_some (within r b) rs w.0 (sym leads ∙ w.1) in
      (p.0, w.1 ∙ ap some (sym p.1))

-- ---- a part, from its first byte on

-- the bytes from `at` to `i` are in the ranges of their row, and those are left that are due in the state
pub record Going (s : List ℕ) (at i q : ℕ) : Type 0 where
  pub row : List Range
  pub due : List Range
  pub first : (true, row) ≡ behind_first (row_of table (get_or s at 0))
  pub now : due_in q ≡ some due
  pub found : matched row (drop (at + 1) s) ≡ i - (at + 1) + matched due (drop i s)
  pub size : length row ≡ i - (at + 1) + length due
  pub below_8 : q < 8

module _ (s : List ℕ) (at : ℕ) (h : at < length s) where
  pub lead_ill : (n : ℕ) → get_or s at 0 < 256 → n ≡ entry_of 0 (get_or s at 0) → n ≡ 8 → PartAt s at (record { len = 1; well = false })
  lead_ill n l e z = at_ill s at h [] (first_ill (get_or s at 0) n l e z) refl

  pub lead_going : (n i : ℕ) → get_or s at 0 < 256 → n ≡ entry_of 0 (get_or s at 0) → (n ≡ 8 → ⊥) → i ≡ at + 1 → Going s at i n
  lead_going n i l e f j =
      let w = due_below n (below 0 (get_or s at 0) n e f) in
      let z : i - (at + 1) ≡ 0 = omega arith in
      record {
        row = w.0;
        due = w.0;
        first = first_some (get_or s at 0) n l e w.0 w.1;
        now = w.1;
        found = rw (z, j) (omega arith);
        size = rw z (omega arith);
        below_8 = below 0 (get_or s at 0) n e f;
      }

matched_none : (r : Range) (rs : List Range) → matched (r ∷ rs) [] ≡ 0
unfolding matched
matched_none r rs = refl

matched_at : (s : List ℕ) (i : ℕ) (r : Range) (rs : List Range) → i < length s
    → matched (r ∷ rs) (drop i s) ≡ pick (within r (get_or s i 0)) (suc (matched rs (drop (suc i) s))) 0
unfolding matched
matched_at s i r rs j = rw (drop-cons s i 0 j) refl

-- a part of which so many bytes were found
part_of : (s : List ℕ) (at n m len : ℕ) (w : Bool) → len ≡ 1 + n → eqb n m ≡ w → PartAt s at (record { len = 1 + n; well = eqb n m })
    → PartAt s at (record { len = len; well = w })
part_of s at n m len w e f a = rw (e, ← f) a

module _ (s : List ℕ) (at i q : ℕ) (h : at < length s) (o : at + 1 ≤ i) (g : Going s at i q) where
  -- the part ends here, with so many ranges left
  ended : (w : Bool) → matched g.due (drop i s) ≡ 0 → eqb (i - (at + 1)) (length g.row) ≡ w → PartAt s at (record { len = i - at; well = w })
  ended w z e =
      let n : ℕ = i - (at + 1) in
      let f : n ≡ matched g.row (drop (at + 1) s) = sym (g.found ∙ rw z (omega arith)) in
      part_of s at n (length g.row) (i - at) w (omega arith) e (at_begun s at h g.row g.first n (length g.row) refl f refl)

  pub part_whole : q ≡ 0 → PartAt s at (record { len = i - at; well = true })
  unfolding matched
  part_whole z =
      let d : g.due ≡ [] = same_due g.now (ap due_in z ∙ due_between) in
      let m : matched g.due (drop i s) ≡ 0 = rw d refl in
      let k : length g.due ≡ 0 = rw d refl in
      let e : length g.row ≡ i - (at + 1) + length g.due = g.size in
      ended true m (eq-eqb (i - (at + 1)) (length g.row) (omega arith))

  module _ (p : 0 < q) where
    within_one : (r : Range) × (rs : List Range) × (g.due ≡ r ∷ rs)
    within_one = let w = due_within q p g.below_8 in (w.0, w.1, same_due g.now w.2)

    cut : matched g.due (drop i s) ≡ 0 → PartAt s at (record { len = i - at; well = false })
    cut m =
        let w = within_one in
        let k : length g.due ≡ suc (length w.1) = ap length w.2 in
        let e : length g.row ≡ i - (at + 1) + length g.due = g.size in
        ended false m (ne_eqb (i - (at + 1)) (length g.row) (λ x. omega arith))

    pub part_cut : length s ≤ i → PartAt s at (record { len = i - at; well = false })
    part_cut l =
        let w = within_one in
        cut (ap (λ (x : List Range). matched x (drop i s)) w.2 ∙ ap (λ (x : List ℕ). matched (w.0 ∷ w.1) x) (drop_of_length-le s l) ∙ matched_none w.0 w.1)

    module _ (j : i < length s) (n : ℕ) (l : get_or s i 0 < 256) (e : n ≡ entry_of q (get_or s i 0)) where
      turn : (r : Range) (rs : List Range) (t : Bool) → g.due ≡ r ∷ rs → within r (get_or s i 0) ≡ t
          → matched g.due (drop i s) ≡ pick t (suc (matched rs (drop (suc i) s))) 0
      turn r rs t e f = ap (λ (x : List Range). matched x (drop i s)) e ∙ matched_at s i r rs j ∙ rw f refl

      pub part_ill : n ≡ 8 → PartAt s at (record { len = i - at; well = false })
      part_ill z =
          let w = within_one in
          let t : within w.0 (get_or s i 0) ≡ false = byte_ill q (get_or s i 0) n l e w.0 w.1 (g.now ∙ ap some w.2) z in
          cut (turn w.0 w.1 false w.2 t)

      pub part_goes : (k : ℕ) → k ≡ i + 1 → (n ≡ 8 → ⊥) → Going s at k n
      part_goes k x f =
          let w = within_one in
          let t = byte_within q (get_or s i 0) n l e w.0 w.1 (g.now ∙ ap some w.2) f in
          let m : matched g.due (drop i s) ≡ suc (matched w.1 (drop (suc i) s)) = turn w.0 w.1 true w.2 t.0 in
          let y : length g.due ≡ suc (length w.1) = ap length w.2 in
          let z : suc i ≡ k = omega arith in
          let a : matched g.row (drop (at + 1) s) ≡ i - (at + 1) + matched g.due (drop i s) = g.found in
          let b : length g.row ≡ i - (at + 1) + length g.due = g.size in
          let u : matched g.due (drop i s) ≡ suc (matched w.1 (drop k s)) = rw z at m in
          record {
            row = g.row;
            due = w.1;
            first = g.first;
            now = t.1;
            found = omega arith;
            size = omega arith;
            below_8 = below q (get_or s i 0) n e f;
          }

-- an ill-formed part by its length
pub of_length : {s : List ℕ} {at m n : ℕ} → PartAt s at (record { len = n; well = false }) → m ≡ n → PartAt s at (record { len = m; well = false })
of_length p e = rw e p
