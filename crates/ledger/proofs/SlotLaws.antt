-- The ring as a list: one entry more at its end, and entries that leave from its front.
use mathlib.Core.Path.{◌≡◌, refl, sym, ap, ◌∙◌}
use mathlib.Core.List.{List, [], ◌∷◌, ◌++◌}
use Prim.Native.Nat.{ℕ, zero, suc, ◌+◌, ◌*◌, ◌-◌, ◌<◌, ◌≤◌}
use native.Mathlib.Omega.{arith}
use native.Mathlib.Numerals.{add-one}
use lib.ListN.{length, get_or, set, length-set}
use lib.Seq.{get_or-set_same, get_or-set_other}
use borrow.Author.Tests.{lt-leb, lt-ltb, le-ltb, ltb-true, ltb-false}
use lib.Dec.{ltb, leb}
use Rattle.wire.proofs.Laws.{by_test}
use Rattle.ledger.specs.declared.Ledger.{Ledger}
use Rattle.ledger.specs.declared.Entry.{Entry}
use Rattle.ledger.specs.Ledger.{cap_of, next_of, slot_of, entry, entry_at, entry_in, undone_some, settled_from}
use Rattle.ledger.specs.History.{from_held}
use Rattle.ledger.specs.Stands.{ring_from, Fits}

pub written_length : (ring : List ℕ) (slot : ℕ) (e : Entry) → length (entry_in ring slot e) ≡ length ring
unfolding entry_in
written_length ring slot e =
    by_test (leb (cap_of (length ring)) slot) (λ t. rw t) (λ t. rw t (simp length-set))

-- three words in a row, each of them, and any other one
module _ (r : List ℕ) (a x y z : ℕ) (h : a + 2 < length r) where
  first : get_or (set (set (set r a x) (a + 1) y) (a + 2) z) a 0 ≡ x
  first =
      get_or-set_other (set (set r a x) (a + 1) y) (a + 2) a z 0 (λ q. omega arith)
      ∙ get_or-set_other (set r a x) (a + 1) a y 0 (λ q. omega arith) ∙ get_or-set_same r a x 0 (omega arith)

  second : get_or (set (set (set r a x) (a + 1) y) (a + 2) z) (a + 1) 0 ≡ y
  second =
      get_or-set_other (set (set r a x) (a + 1) y) (a + 2) (a + 1) z 0 (λ q. omega arith)
      ∙ get_or-set_same (set r a x) (a + 1) y 0 (rw (length-set r a x) (omega arith))

  third : get_or (set (set (set r a x) (a + 1) y) (a + 2) z) (a + 2) 0 ≡ z
  third = get_or-set_same (set (set r a x) (a + 1) y) (a + 2) z 0 (rw (length-set (set r a x) (a + 1) y, length-set r a x) h)

other_word : (r : List ℕ) (a x y z i : ℕ) → (i ≡ a → ⊥) → (i ≡ a + 1 → ⊥) → (i ≡ a + 2 → ⊥)
    → get_or (set (set (set r a x) (a + 1) y) (a + 2) z) i 0 ≡ get_or r i 0
other_word r a x y z i f g h =
    get_or-set_other (set (set r a x) (a + 1) y) (a + 2) i z 0 h ∙ get_or-set_other (set r a x) (a + 1) i y 0 g ∙ get_or-set_other r a i x 0 f

within_words : (ring : List ℕ) (slot : ℕ) (e : Entry) → slot < cap_of (length ring)
    → entry_in ring slot e ≡ set (set (set ring (3 * slot) e.end) (3 * slot + 1) e.before) (3 * slot + 2) e.touched
unfolding entry_in
within_words ring slot e h = simp (lt-leb _ _ h)

read_words : (ring : List ℕ) (slot x y z : ℕ) → slot < cap_of (length ring) → get_or ring (3 * slot) 0 ≡ x → get_or ring (3 * slot + 1) 0 ≡ y
    → get_or ring (3 * slot + 2) 0 ≡ z → entry_at ring slot ≡ entry x y z
unfolding entry_at
read_words ring slot x y z h a b c = rw (lt-leb _ _ h, a, b, c)

same_words : (r s : List ℕ) (slot : ℕ) → length r ≡ length s → get_or r (3 * slot) 0 ≡ get_or s (3 * slot) 0
    → get_or r (3 * slot + 1) 0 ≡ get_or s (3 * slot + 1) 0 → get_or r (3 * slot + 2) 0 ≡ get_or s (3 * slot + 2) 0 → entry_at r slot ≡ entry_at s slot
unfolding entry_at
same_words r s slot l a b c = rw (l, a, b, c)

-- a slot within the ring holds what is written there, and no other one changes
pub written_there : (ring : List ℕ) (slot : ℕ) (e : Entry) → slot < cap_of (length ring) → entry_at (entry_in ring slot e) slot ≡ e
written_there ring slot e h =
    let k : 3 * slot + 2 < length ring = omega arith in
    let w = within_words ring slot e h in
    read_words (entry_in ring slot e) slot e.end e.before e.touched (rw (written_length ring slot e) h)
    (rw w (first ring (3 * slot) _ _ _ k)) (rw w (second ring (3 * slot) _ _ _ k)) (rw w (third ring (3 * slot) _ _ _ k))

pub written_elsewhere : (ring : List ℕ) (slot other : ℕ) (e : Entry) → slot < cap_of (length ring) → (other ≡ slot → ⊥)
    → entry_at (entry_in ring slot e) other ≡ entry_at ring other
written_elsewhere ring slot other e h n =
    let w = within_words ring slot e h in
    same_words (entry_in ring slot e) ring other (written_length ring slot e)
    (rw w (other_word ring (3 * slot) _ _ _ (3 * other) (λ q. n (omega arith)) (λ q. omega arith) (λ q. omega arith)))
    (rw w (other_word ring (3 * slot) _ _ _ (3 * other + 1) (λ q. omega arith) (λ q. n (omega arith)) (λ q. omega arith)))
    (rw w (other_word ring (3 * slot) _ _ _ (3 * other + 2) (λ q. omega arith) (λ q. omega arith) (λ q. n (omega arith))))

-- a front that fits, where there is a slot, is one
pub fits_below : (cap front : ℕ) → 0 < cap → Fits cap front → front < cap
fits_below cap front h f = by_test (ltb front cap) (λ t. ltb-true _ _ t) (λ t. let z : 0 ≡ front = rw t at f in omega (arith, ltb-false front cap t))

pub zero_fits : (cap : ℕ) → Fits cap 0
zero_fits cap = by_test (ltb 0 cap) (λ t. rw t) (λ t. rw t)

pub next_fits : (cap front : ℕ) → Fits cap (next_of cap front)
unfolding next_of
next_fits cap front = by_test (ltb (front + 1) cap) (λ t. rw (t, t)) (λ t. rw t (zero_fits cap))

-- ---- slots

slot_low : (cap front n : ℕ) → front < cap → n < cap - front → slot_of cap front n ≡ front + n
unfolding slot_of
slot_low cap front n h k = simp (lt-leb _ _ h, lt-ltb _ _ k)

slot_high : (cap front n : ℕ) → front < cap → cap - front ≤ n → slot_of cap front n ≡ n - (cap - front)
unfolding slot_of
slot_high cap front n h k = simp (lt-leb _ _ h, le-ltb _ _ k)

next_low : (cap front : ℕ) → front + 1 < cap → next_of cap front ≡ front + 1
unfolding next_of
next_low cap front h = simp (lt-ltb _ _ h)

next_high : (cap front : ℕ) → cap ≤ front + 1 → next_of cap front ≡ 0
unfolding next_of
next_high cap front h = simp (le-ltb _ _ h)

pub by_order : {X : Type 0} (a b : ℕ) → (a < b → X) → (b ≤ a → X) → X
by_order a b f g = by_test (ltb a b) (λ t. f (ltb-true _ _ t)) (λ t. g (ltb-false _ _ t))

pub slot_below : (cap front n : ℕ) → front < cap → n < cap → slot_of cap front n < cap
slot_below cap front n h k =
    by_order n (cap - front) (λ i. rw (slot_low cap front n h i) (omega arith)) (λ i. rw (slot_high cap front n h i) (omega arith))

slot_none : (cap front : ℕ) → front < cap → slot_of cap front 0 ≡ front
slot_none cap front h = slot_low cap front 0 h (omega arith) ∙ (omega arith)

slot_next : (cap front m : ℕ) → front < cap → suc m < cap → slot_of cap front (suc m) ≡ slot_of cap (next_of cap front) m
slot_next cap front m h k =
    by_order (suc m) (cap - front)
    (λ i. rw (slot_low cap front (suc m) h i, next_low cap front (omega arith), slot_low cap (front + 1) m (omega arith) (omega arith)) (omega arith))
    (λ i. by_order (front + 1) cap
    (λ j. rw (slot_high cap front (suc m) h i, next_low cap front j, slot_high cap (front + 1) m j (omega arith)) (omega arith))
    (λ j. rw (slot_high cap front (suc m) h i, next_high cap front j, slot_low cap 0 m (omega arith) (omega arith)) (omega arith)))

slot_other : (cap front m : ℕ) → front < cap → suc m < cap → front ≡ slot_of cap front (suc m) → ⊥
slot_other cap front m h k e =
    by_order (suc m) (cap - front)
    (λ i. omega (arith, slot_low cap front (suc m) h i)) (λ i. omega (arith, slot_high cap front (suc m) h i))

next_below : (cap front : ℕ) → 0 < cap → next_of cap front < cap
next_below cap front h = fits_below cap (next_of cap front) h (next_fits cap front)

-- ---- the ring as a list

ring_cons : (ring : List ℕ) (front n : ℕ) → ring_from ring front (suc n) ≡ entry_at ring front ∷ ring_from ring (next_of (cap_of (length ring)) front) n
unfolding ring_from
ring_cons ring front n = refl

ring_none : (ring : List ℕ) (front : ℕ) → ring_from ring front zero ≡ []
unfolding ring_from
ring_none ring front = refl

ring_push : (ring written : List ℕ) (e : Entry) (n front s : ℕ) → cap_of (length written) ≡ cap_of (length ring) → front < cap_of (length ring)
    → n < cap_of (length ring) → s ≡ slot_of (cap_of (length ring)) front n → entry_at written s ≡ e
    → ((o : ℕ) → (o ≡ s → ⊥) → entry_at written o ≡ entry_at ring o) → ring_from written front (suc n) ≡ ring_from ring front n ++ (e ∷ [])
ring_push ring written e zero front s q h k t there elsewhere =
    let f : front ≡ s = sym (t ∙ slot_none (cap_of (length ring)) front h) in
    ring_cons written front zero ∙ ap (λ (es : List Entry). entry_at written front ∷ es) (ring_none written _)
    ∙ ap (λ (x : Entry). x ∷ []) (ap (λ (i : ℕ). entry_at written i) f ∙ there) ∙ sym (ap (λ (es : List Entry). es ++ (e ∷ [])) (ring_none ring front))
ring_push ring written e (suc m) front s q h k t there elsewhere =
    let cap : ℕ = cap_of (length ring) in
    ring_cons written front (suc m)
    ∙ ap (λ (x : Entry). x ∷ ring_from written (next_of (cap_of (length written)) front) (suc m))
    (elsewhere front (λ i. slot_other cap front m h k (i ∙ t)))
    ∙ ap (λ (c : ℕ). entry_at ring front ∷ ring_from written (next_of c front) (suc m)) q
    ∙ ap (λ (es : List Entry). entry_at ring front ∷ es)
    (ring_push ring written e m (next_of cap front) s q (next_below cap front (omega arith)) (omega arith) (t ∙ slot_next cap front m h k) there
    elsewhere)
    ∙ sym (ap (λ (es : List Entry). es ++ (e ∷ [])) (ring_cons ring front m))

pub ring_length : (ring : List ℕ) (front n : ℕ) → length (ring_from ring front n) ≡ n
unfolding ring_from
ring_length ring front zero = refl
ring_length ring front (suc n) = ap suc (ring_length ring (next_of (cap_of (length ring)) front) n)

-- an entry more, after those that are there
pub ring_more : (ring : List ℕ) (e : Entry) (front n : ℕ) → front < cap_of (length ring) → n < cap_of (length ring)
    → ring_from (entry_in ring (slot_of (cap_of (length ring)) front n) e) front (n + 1) ≡ ring_from ring front n ++ (e ∷ [])
ring_more ring e front n h k =
    let s : ℕ = slot_of (cap_of (length ring)) front n in
    let b : s < cap_of (length ring) = slot_below (cap_of (length ring)) front n h k in
    rw (add-one n)
    (ring_push ring (entry_in ring s e) e n front s (ap cap_of (written_length ring s e)) h k refl (written_there ring s e b)
    (λ o i. written_elsewhere ring s o e b i))

-- those from the first that is undone for some file on
pub settled_ring : (ring : List ℕ) (l : Ledger) (front n : ℕ)
    → ring_from ring (settled_from ring l front n).0 (settled_from ring l front n).1 ≡ from_held (λ e. undone_some l e) (ring_from ring front n)
unfolding ring_from settled_from from_held
settled_ring ring l front zero = refl
settled_ring ring l front (suc n) =
    by_test (undone_some l (entry_at ring front)) (λ t. rw t) (λ t. rw t (settled_ring ring l (next_of (cap_of (length ring)) front) n))

pub settled_fits : (ring : List ℕ) (l : Ledger) (front n : ℕ) → Fits (cap_of (length ring)) front
    → Fits (cap_of (length ring)) (settled_from ring l front n).0
unfolding settled_from
settled_fits ring l front zero h = h
settled_fits ring l front (suc n) h =
    by_test (undone_some l (entry_at ring front)) (λ t. rw t h)
    (λ t. rw t (settled_fits ring l (next_of (cap_of (length ring)) front) n (next_fits (cap_of (length ring)) front)))

pub settled_count : (ring : List ℕ) (l : Ledger) (front n : ℕ) → (settled_from ring l front n).1 ≤ n
unfolding settled_from
settled_count ring l front zero = omega arith
settled_count ring l front (suc n) =
    by_test (undone_some l (entry_at ring front)) (λ t. rw t (omega arith))
    (λ t. rw t (omega (arith, settled_count ring l (next_of (cap_of (length ring)) front) n)))
