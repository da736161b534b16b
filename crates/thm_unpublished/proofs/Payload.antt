-- The view of a CopyData payload depends on public places alone.
use mathlib.Core.Path.{◌≡◌, refl, sym, ap, ◌∙◌, subst}
use mathlib.Core.Bool.{Bool, true, false, not}
use mathlib.Core.List.{List, [], ◌∷◌}
use Prim.Native.Nat.{ℕ, ◌+◌, ◌-◌, ◌≤◌}
use native.Mathlib.Omega.{arith}
use lib.ListN.{length, get_or, take, drop}
use lib.Dec.{ltb, leb, eqb}
use borrow.Author.Tests.{lt-leb, le-leb, le-ltb, ltb-false, eqb-true}
use Rattle.wire.specs.Bytes.{pick, at}
use Rattle.wire.proofs.Laws.{by_test}
use Rattle.worker.specs.Tests.{both}
use Rattle.frames.specs.Tag.{is_copy_data}
use Rattle.replication.specs.CopyData.{Said, w, k, refused, lsn_at, time_at, keep_alive_of, copy_data_of}
use Rattle.pgoutput.specs.Boundary.{boundary_of}
use Rattle.pgoutput.specs.Boundary as B
use Rattle.thm_unpublished.specs.Hidden.{hidden_by, hidden_by_payload}
use Rattle.thm_unpublished.specs.Alike.{boundary_in, prefix_in, view_of, AlikePayload}
use Rattle.thm_unpublished.proofs.Lists.{same_part, front_by, all_by, part_agree, part_length}
use Rattle.thm_unpublished.proofs.Boundary.{Common, common}

abbrev Agree : (ℕ → Bool) → List ℕ → List ℕ → Type 0
Agree hidden p q = (j : ℕ) → hidden j ≡ false → get_or p j 0 ≡ get_or q j 0

equal_view : (p q : List ℕ) → p ≡ q → view_of p ≡ view_of q
equal_view p q e = ap view_of e

-- by what both payloads say
view_by : (p q : List ℕ) (x : Said) → copy_data_of p ≡ x → copy_data_of q ≡ x → boundary_in p x ≡ boundary_in q x → prefix_in p x ≡ prefix_in q x
    → view_of p ≡ view_of q
view_by p q x ep eq b f = rw (ep, eq, b, f)

-- a place of the data is one of the payload
place : (x : B.Said) (j : ℕ) → hidden_by x j ≡ false → both (leb 25 (25 + j)) (hidden_by x (25 + j - 25)) ≡ false
place x j e = let a : 25 + j - 25 ≡ j = omega arith in let b : leb 25 (25 + j) ≡ true = le-leb 25 (25 + j) (omega arith) in rw (b, a, e)

-- an XLogData: the fields before its data are the same, and the data have the same boundary
xlog_view : (xs ys : List ℕ) → length (119 ∷ xs) ≡ length (119 ∷ ys) → 24 ≤ length xs
    → Agree (hidden_by_payload (119 ∷ xs) (w (lsn_at xs 0) (lsn_at xs 8) (time_at xs 16) 25 (length xs - 24))) (119 ∷ xs) (119 ∷ ys)
    → copy_data_of (119 ∷ xs) ≡ w (lsn_at xs 0) (lsn_at xs 8) (time_at xs 16) 25 (length xs - 24)
    → copy_data_of (119 ∷ ys) ≡ pick (ltb (length ys) 24) (refused 11) (w (lsn_at ys 0) (lsn_at ys 8) (time_at ys 16) 25 (length ys - 24))
    → view_of (119 ∷ xs) ≡ view_of (119 ∷ ys)
xlog_view xs ys size long h ep eq =
    let p : List ℕ = 119 ∷ xs in
    let q : List ℕ = 119 ∷ ys in
    let n : ℕ = length xs - 24 in
    let l : length ys ≡ length xs = omega arith in
    let front : take 25 p ≡ take 25 q = front_by p q 25 size (λ j m. h j (rw (lt-leb 25 j m))) in
    let f : take 24 xs ≡ take 24 ys = ap (drop 1) front in
    let a : at xs 0 8 ≡ at ys 0 8 = same_part xs ys 24 0 8 (omega arith) f in
    let b : at xs 8 8 ≡ at ys 8 8 = same_part xs ys 24 8 8 (omega arith) f in
    let c : at xs 16 8 ≡ at ys 16 8 = same_part xs ys 24 16 8 (omega arith) f in
    let short : ltb (length ys) 24 ≡ false = le-ltb (length ys) 24 (rw l long) in
    let eq' : copy_data_of q ≡ w (lsn_at xs 0) (lsn_at xs 8) (time_at xs 16) 25 n = eq ∙ rw (short, l, a, b, c) refl in
    let d : Common (at p 25 n) (at q 25 n) =
    common (at p 25 n) (at q 25 n) (part_length p q 25 n size)
    (λ j e. part_agree p q 25 n j size (λ m. h (25 + j) (place (boundary_of (at p 25 n)) j e))) in
    view_by p q (w (lsn_at xs 0) (lsn_at xs 8) (time_at xs 16) 25 n) ep eq' d.boundary d.prefix

-- a keepalive has no hidden place
keep_public : (p s : List ℕ) (j : ℕ) → hidden_by_payload p (keep_alive_of s) j ≡ false
keep_public p s j = by (ltb (length s) 17)
  where
    by : (b : Bool) → hidden_by_payload p (pick b (refused 12) (k (lsn_at s 0) (time_at s 8) (not (eqb (get_or s 16 0) 0)))) j ≡ false
    by true = refl
    by false = refl

-- by the letter
letter_view : (x : ℕ) (xs ys : List ℕ) → length (x ∷ xs) ≡ length (x ∷ ys)
    → Agree (hidden_by_payload (x ∷ xs) (copy_data_of (x ∷ xs))) (x ∷ xs) (x ∷ ys) → view_of (x ∷ xs) ≡ view_of (x ∷ ys)
unfolding copy_data_of
letter_view x xs ys l h =
    by_test (eqb x 119)
    (λ e. is_w (eqb-true _ _ e) l h)
    (λ e.
    by_test (eqb x 107)
    (λ f.
    let q : copy_data_of (x ∷ xs) ≡ keep_alive_of xs = rw (e, f) in
    equal_view (x ∷ xs) (x ∷ ys) (all_by (x ∷ xs) (x ∷ ys) l (λ j. h j (rw q (keep_public (x ∷ xs) xs j)))))
    (λ f. let q : copy_data_of (x ∷ xs) ≡ refused 13 = rw (e, f) in equal_view (x ∷ xs) (x ∷ ys) (all_by (x ∷ xs) (x ∷ ys) l (λ j. h j (rw q refl)))))
  where
    by_length : (b : Bool) → ltb (length xs) 24 ≡ b → length (119 ∷ xs) ≡ length (119 ∷ ys)
        → Agree (hidden_by_payload (119 ∷ xs) (pick b (refused 11) (w (lsn_at xs 0) (lsn_at xs 8) (time_at xs 16) 25 (length xs - 24))))
        (119 ∷ xs) (119 ∷ ys)
        → view_of (119 ∷ xs) ≡ view_of (119 ∷ ys)
    by_length true e m q = equal_view (119 ∷ xs) (119 ∷ ys) (all_by (119 ∷ xs) (119 ∷ ys) m (λ j. q j refl))
    by_length false e m q = xlog_view xs ys m (ltb-false (length xs) 24 e) q (rw e) refl

    is_w : x ≡ 119 → length (x ∷ xs) ≡ length (x ∷ ys) → Agree (hidden_by_payload (x ∷ xs) (copy_data_of (x ∷ xs))) (x ∷ xs) (x ∷ ys)
        → view_of (x ∷ xs) ≡ view_of (x ∷ ys)
    is_w e =
        subst
        (λ (y : ℕ). length (y ∷ xs) ≡ length (y ∷ ys) → Agree (hidden_by_payload (y ∷ xs) (copy_data_of (y ∷ xs))) (y ∷ xs) (y ∷ ys)
        → view_of (y ∷ xs) ≡ view_of (y ∷ ys))
        (sym e) (λ m q. by_length (ltb (length xs) 24) refl m q)

-- the letter is public
letter_public : (x : ℕ) (xs : List ℕ) → hidden_by_payload (x ∷ xs) (copy_data_of (x ∷ xs)) 0 ≡ false
unfolding copy_data_of
letter_public x xs = by (eqb x 119) (eqb x 107) (ltb (length xs) 24)
  where
    by : (a b c : Bool)
        → hidden_by_payload (x ∷ xs)
        (pick a (pick c (refused 11) (w (lsn_at xs 0) (lsn_at xs 8) (time_at xs 16) 25 (length xs - 24))) (pick b (keep_alive_of xs) (refused 13))) 0
        ≡ false
    by true b true = refl
    by true b false = refl
    by false true c = keep_public (x ∷ xs) xs 0
    by false false c = refl

pub same_view : (p q : List ℕ) → length p ≡ length q → Agree (hidden_by_payload p (copy_data_of p)) p q → view_of p ≡ view_of q
same_view [] [] l h = refl
same_view [] (y ∷ ys) l h = absurd (omega arith)
same_view (x ∷ xs) [] l h = absurd (omega arith)
same_view (x ∷ xs) (y ∷ ys) l h =
    let e : x ≡ y = h 0 (letter_public x xs) in
    subst (λ (z : ℕ). Agree (hidden_by_payload (x ∷ xs) (copy_data_of (x ∷ xs))) (x ∷ xs) (z ∷ ys) → view_of (x ∷ xs) ≡ view_of (z ∷ ys)) e
    (letter_view x xs ys l) h

-- ---- the payload of a message

pub alike_payload : (tag : ℕ) (p q : List ℕ) → length p ≡ length q
    → ((j : ℕ) → both (is_copy_data tag) (hidden_by_payload p (copy_data_of p) j) ≡ false → get_or p j 0 ≡ get_or q j 0) → AlikePayload tag p q
alike_payload tag p q l h =
    record {
      size = l;
      error = λ e. let t : tag ≡ 69 = eqb-true _ _ e in all_by p q l (λ j. h j (rw t refl));
      copied = λ e. same_view p q l (λ j g. h j (rw (e, g)));
    }
