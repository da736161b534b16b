-- What is accepted has a letter and all its fields.
use mathlib.Core.Path.{◌≡◌, refl, ap}
use mathlib.Core.Bool.{Bool, true, false}
use mathlib.Core.List.{List, [], ◌∷◌}
use mathlib.Core.Option.{Option, some, none}
use Prim.Native.Nat.{ℕ, ◌+◌, ◌-◌, ◌%◌, ◌≤◌, ◌<◌}
use lib.ListN.{length, drop}
use lib.IntN.{ℤ}
use lib.Dec.{eqb, ltb}
use borrow.Author.Tests.{eqb-true, leb-false, ltb-false}
use Rattle.wire.specs.Bytes.{pick}
use Rattle.wire.specs.Field.{field_at}
use Rattle.wire.specs.Int.{half, is_negative, int_at}
use Rattle.wire.specs.Find.{index_of}
use Rattle.wire.proofs.Laws.{by_test}
use Rattle.pgoutput.specs.Boundary.{Said, begin, commit, message, no_boundary, refused, need, begin_at, commit_at, content_at, prefix_by, message_at, boundary_of}

-- what data say is what one of the three messages says, or that they are no boundary
pub by_letter : {X : Type 0} (s : List ℕ) → ((t : List ℕ) → s ≡ 66 ∷ t → boundary_of s ≡ begin_at s 1 → X) → ((t : List ℕ) → s ≡ 67 ∷ t → boundary_of s ≡ commit_at s 1 → X)
    → ((t : List ℕ) → s ≡ 77 ∷ t → boundary_of s ≡ message_at s 1 → X) → (boundary_of s ≡ no_boundary → X) → X
unfolding boundary_of
by_letter [] f g h k = k refl
by_letter (b ∷ t) f g h k =
    by_test (eqb b 66)
    (λ p. f t (ap (λ (x : ℕ). x ∷ t) (eqb-true b 66 p)) (simp p))
    (λ p. by_test (eqb b 67)
    (λ q. g t (ap (λ (x : ℕ). x ∷ t) (eqb-true b 67 q)) (simp (p, q)))
    (λ q. by_test (eqb b 77)
    (λ r. h t (ap (λ (x : ℕ). x ∷ t) (eqb-true b 77 r)) (simp (p, q, r)))
    (λ r. k (simp (p, q, r)))))

module _ (x : Said) (accepted : (n : ℕ) → refused n ≡ x → ⊥) where
  needed : {A : Type 0} (n : ℕ) (o : Option A) (go : A → Said) → need n o go ≡ x → (v : A) × (o ≡ some v) × (go v ≡ x)
  needed n none go e = absurd (accepted n e)
  needed n (some v) go e = (v, refl, e)

  picked : (n : ℕ) (b : Bool) (y : Said) → pick b (refused n) y ≡ x → (b ≡ false) × (y ≡ x)
  picked n true y e = absurd (accepted n e)
  picked n false y e = (refl, e)

  module _ (s : List ℕ) (i : ℕ) where
    pub begin_fields : begin_at s i ≡ x
        → (a : ℕ) × (z : ℤ) × (y : ℕ) × (field_at 8 s i ≡ some a) × (int_at 8 s (i + 8) ≡ some z) × (field_at 4 s (i + 16) ≡ some y) × (begin a z y ≡ x)
    begin_fields e =
        let p = needed 16 (field_at 8 s i) _ e in
        let q = needed 16 (int_at 8 s (i + 8)) _ p.2 in
        let r = needed 15 (field_at 4 s (i + 16)) _ q.2 in
        (p.0, q.0, r.0, p.1, q.1, r.1, r.2)

    pub commit_fields : commit_at s i ≡ x
        → (v a b : ℕ) × (z : ℤ) × (field_at 1 s i ≡ some v) × (field_at 8 s (i + 1) ≡ some a) × (field_at 8 s (i + 9) ≡ some b) × (int_at 8 s (i + 17) ≡ some z)
        × (commit a b z ≡ x)
    commit_fields e =
        let p = needed 14 (field_at 1 s i) _ e in
        let q = needed 16 (field_at 8 s (i + 1)) _ p.2 in
        let r = needed 16 (field_at 8 s (i + 9)) _ q.2 in
        let w = needed 16 (int_at 8 s (i + 17)) _ r.2 in
        (p.0, q.0, r.0, w.0, p.1, q.1, r.1, w.1, w.2)

    found : (v a : ℕ) (f : Option ℕ) → prefix_by s i v a f ≡ x → (n : ℕ) × (f ≡ some n) × (content_at s (i + n + 1) v a i n ≡ x)
    found v a none e = absurd (accepted 17 e)
    found v a (some n) e = (n, refl, e)

    content_fields : (v a from n : ℕ) → content_at s i v a from n ≡ x
        → (len : ℕ) × (field_at 4 s i ≡ some len) × (len < half 4) × (len ≤ length s - (i + 4)) × (message (eqb (v % 2) 1) a from n (i + 4) len ≡ x)
    content_fields v a from n e =
        let p = needed 15 (field_at 4 s i) _ e in
        let q = picked 18 (is_negative 4 p.0) _ p.2 in
        let r = picked 18 (ltb (length s - (i + 4)) p.0) _ q.1 in
        (p.0, p.1, leb-false (half 4) p.0 q.0, ltb-false (length s - (i + 4)) p.0 r.0, r.1)

  pub message_fields : (s : List ℕ) (i : ℕ) → message_at s i ≡ x
      → (v a n len : ℕ) × (field_at 1 s i ≡ some v) × (field_at 8 s (i + 1) ≡ some a) × (index_of 0 (drop (i + 9) s) ≡ some n) × (field_at 4 s (i + 9 + n + 1) ≡ some len)
      × (len < half 4) × (len ≤ length s - (i + 9 + n + 1 + 4)) × (message (eqb (v % 2) 1) a (i + 9) n (i + 9 + n + 1 + 4) len ≡ x)
  message_fields s i e =
      let p = needed 14 (field_at 1 s i) _ e in
      let q = needed 16 (field_at 8 s (i + 1)) _ p.2 in
      let f = found s (i + 9) p.0 q.0 (index_of 0 (drop (i + 9) s)) q.2 in
      let c = content_fields s (i + 9 + f.0 + 1) p.0 q.0 (i + 9) f.0 f.2 in
      (p.0, q.0, f.0, c.0, p.1, q.1, f.1, c.1, c.2, c.3, c.4)
