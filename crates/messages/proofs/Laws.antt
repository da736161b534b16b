-- Laws of the walk over an error's fields: one entry after the other, and what an entry does to the fifteen fields.
use Rattle.std.specs.Prelude.{Option as Answer, Some}
use mathlib.Core.Option.{Option, some, none}
use mathlib.Core.Path.{◌≡◌, refl, sym, ap, ◌∙◌}
use mathlib.Core.Bool.{Bool, true, false}
use mathlib.Core.List.{List, [], ◌∷◌}
use Prim.Native.Nat.{ℕ, zero, suc, ◌+◌, ◌-◌, ◌≤◌, ◌<◌}
use native.Mathlib.Nat.{not-suc-le-zero, le_of_suc-le-suc}
use native.Mathlib.Numerals.{add-one, one-add}
use native.Mathlib.Omega.{arith}
use lib.ListN.{length, drop, get_or, replicate, length-drop, length-set}
use lib.Seq.{drop-cons, drop-drop}
use lib.Dec.{eqb}
use borrow.Author.Tests.{eq-eqb, ne_eqb, eqb-true, eqb-false}
use Rattle.wire.specs.Bytes.{pick}
use Rattle.wire.specs.Find.{index_of, later}
use Rattle.wire.proofs.Laws.{by_test, impossible}
use Rattle.wire.proofs.FindLaws.{nothing_later}
use Rattle.messages.specs.declared.Field.{Field}
use Rattle.messages.specs.Fields.{Entry, kept, entries_from, entries_of, absent, last_of, entered, letters, fields_of, replaced}

-- ---- the entries

kept_same : (letter from : ℕ) (f : Option ℕ) (g h : ℕ → List Entry) → ((len : ℕ) → g len ≡ h len) → kept letter from f g ≡ kept letter from f h
kept_same letter from (some len) g h e = ap (λ (l : List Entry). record { letter = letter; from = from; len = len } ∷ l) (e len)
kept_same letter from none g h e = refl

shorter : (n k : ℕ) (s : List ℕ) → length s ≤ n → length (drop k s) ≤ n
shorter n k s h = simp length-drop (omega arith)

-- how many entries are asked for does not matter where there are that many bytes
enough : (n m i : ℕ) (s : List ℕ) → length s ≤ n → length s ≤ m → entries_from n i s ≡ entries_from m i s
unfolding entries_from
enough zero zero i s h k = refl
enough zero (suc m) i [] h k = refl
enough zero (suc m) i (x ∷ s) h k = absurd (not-suc-le-zero h)
enough (suc n) zero i [] h k = refl
enough (suc n) zero i (x ∷ s) h k = absurd (not-suc-le-zero k)
enough (suc n) (suc m) i [] h k = refl
enough (suc n) (suc m) i (x ∷ s) h k =
    ap (λ (l : List Entry). pick (eqb x 0) [] l)
    (kept_same x (i + 1) (index_of 0 s) _ _
    (λ len. enough n m (i + 1 + len + 1) (drop (len + 1) s) (shorter n (len + 1) s (le_of_suc-le-suc h)) (shorter m (len + 1) s (le_of_suc-le-suc k))))

-- the entries from place i on
unfoldable pub unread : List ℕ → ℕ → List Entry
unread s i = entries_from (length s - i) i (drop i s)

pub unread_start : (s : List ℕ) → entries_of s ≡ unread s 0
unfolding unread entries_of
unread_start s = let e : length s - 0 ≡ length s = omega arith in rw e

pub unread_end : (s : List ℕ) (i : ℕ) → length s ≤ i → unread s i ≡ []
unfolding unread entries_from
unread_end s i h = let e : length s - i ≡ 0 = omega arith in rw e

pub at_place : (s : List ℕ) (i : ℕ) → i < length s → drop i s ≡ get_or s i 0 ∷ drop (i + 1) s
at_place s i h = rw (add-one, drop-cons s i 0)

pub unread_next : (s : List ℕ) (i : ℕ) → i < length s
    → unread s i ≡ pick (eqb (get_or s i 0) 0) [] (kept (get_or s i 0) (i + 1) (index_of 0 (drop (i + 1) s)) (λ len. unread s (i + 1 + len + 1)))
unfolding unread entries_from
unread_next s i h =
    let e : length s - i ≡ suc (length s - (i + 1)) = omega arith in
    rw (e, at_place s i h)
    (ap (λ (l : List Entry). pick (eqb (get_or s i 0) 0) [] l)
    (kept_same (get_or s i 0) (i + 1) (index_of 0 (drop (i + 1) s)) _ _ rest))
  where
    rest : (len : ℕ) → entries_from (length s - (i + 1)) (i + 1 + len + 1) (drop (len + 1) (drop (i + 1) s)) ≡ unread s (i + 1 + len + 1)
    rest len =
        let p : i + 1 + (len + 1) ≡ i + 1 + len + 1 = omega arith in
        let l : length (drop (i + 1 + len + 1) s) ≡ length s - (i + 1 + len + 1) = length-drop (i + 1 + len + 1) s in
        rw (drop-drop, p) (enough (length s - (i + 1)) (length s - (i + 1 + len + 1)) (i + 1 + len + 1) (drop (i + 1 + len + 1) s) (omega arith) (omega arith))

-- ---- the fields

abbrev absent_from : Option ℕ → Bool
absent_from (some i) = false
absent_from none = true

abbrev both : Bool → Bool → Bool
both true b = b
both false b = false

-- no letter stands twice
abbrev pub distinct : List ℕ → Bool
distinct [] = true
distinct (l ∷ ls) = both (absent_from (index_of l ls)) (distinct ls)

absent_from_lem : (f : Option ℕ) (b : Bool) → both (absent_from f) b ≡ true → (f ≡ none) × (b ≡ true)
absent_from_lem (some i) b e = impossible cc
absent_from_lem none b e = (refl, e)

pub letters_distinct : distinct letters ≡ true
unfolding index_of
letters_distinct = refl

-- the fields of these letters once the entries are entered
unfoldable pub after : List ℕ → List (Answer Field) → List Entry → List (Answer Field)
after [] fs es = []
after (l ∷ ls) [] es = []
after (l ∷ ls) (f ∷ fs) es = last_of l f es ∷ after ls fs es

pub after_start : (s : List ℕ) → after letters (replicate 15 absent) (unread s 0) ≡ fields_of s
unfolding after fields_of
after_start s = rw (← unread_start s)

pub after_none : (ls : List ℕ) (fs : List (Answer Field)) → length fs ≡ length ls → after ls fs [] ≡ fs
unfolding after last_of
after_none [] [] h = refl
after_none [] (f ∷ fs) h = absurd (omega arith)
after_none (l ∷ ls) [] h = absurd (omega arith)
after_none (l ∷ ls) (f ∷ fs) h = ap (λ (t : List (Answer Field)). f ∷ t) (after_none ls fs (omega arith))

unequal : (a b : ℕ) → eqb a b ≡ false → eqb b a ≡ false
unequal a b t = ne_eqb b a (λ p. eqb-false a b t (sym p))

-- an entry of another letter
after_skip : (ls : List ℕ) (fs : List (Answer Field)) (e : Entry) (es : List Entry) → index_of e.letter ls ≡ none → after ls fs (e ∷ es) ≡ after ls fs es
unfolding after last_of index_of
after_skip [] fs e es h = refl
after_skip (l ∷ ls) [] e es h = refl
after_skip (l ∷ ls) (f ∷ fs) e es h =
    by_test (eqb l e.letter)
    (λ t. impossible cc)
    (λ t.
    let n : eqb e.letter l ≡ false = unequal l e.letter t in
    rw (n, after_skip ls fs e es (nothing_later _ (rw t at h))))

replaced_later : (f : Option ℕ) (g x : Answer Field) (fs : List (Answer Field)) → replaced (later 1 f) g (x ∷ fs) ≡ x ∷ replaced f g fs
replaced_later (some i) g x fs = rw one-add
replaced_later none g x fs = refl

-- an entry puts its part into the field of its letter, the others stay
pub after_next : (ls : List ℕ) (fs : List (Answer Field)) (e : Entry) (es : List Entry) → distinct ls ≡ true → length fs ≡ length ls
    → after ls fs (e ∷ es) ≡ after ls (replaced (index_of e.letter ls) (entered e) fs) es
unfolding after last_of index_of
after_next [] fs e es d h = refl
after_next (l ∷ ls) [] e es d h = absurd (omega arith)
after_next (l ∷ ls) (f ∷ fs) e es d h =
    let a = absent_from_lem (index_of l ls) (distinct ls) d in
    by_test (eqb l e.letter)
    (λ t.
    let p : l ≡ e.letter = eqb-true _ _ t in
    let n : eqb e.letter l ≡ true = eq-eqb _ _ (sym p) in
    let m : index_of e.letter ls ≡ none = rw (← p) a.0 in
    rw (t, n, after_skip ls fs e es m))
    (λ t.
    let n : eqb e.letter l ≡ false = unequal l e.letter t in
    rw (t, n, replaced_later, after_next ls fs e es a.1 (omega arith)))

pub length_replaced : (f : Option ℕ) (g : Answer Field) (fs : List (Answer Field)) → length (replaced f g fs) ≡ length fs
length_replaced (some i) g fs = length-set fs i g
length_replaced none g fs = refl

-- ---- a turn of the walk

pub unread_zero : (s : List ℕ) (i : ℕ) → i < length s → get_or s i 0 ≡ 0 → unread s i ≡ []
unread_zero s i h e = unread_next s i h ∙ simp (eq-eqb _ _ e)

pub unread_cut : (s : List ℕ) (i : ℕ) → i < length s → (get_or s i 0 ≡ 0 → ⊥) → index_of 0 (drop (i + 1) s) ≡ none → unread s i ≡ []
unread_cut s i h n e = unread_next s i h ∙ simp (ne_eqb _ _ n, e)

pub unread_field : (s : List ℕ) (i len : ℕ) → i < length s → (get_or s i 0 ≡ 0 → ⊥) → index_of 0 (drop (i + 1) s) ≡ some len
    → unread s i ≡ record { letter = get_or s i 0; from = i + 1; len = len } ∷ unread s (i + 1 + len + 1)
unread_field s i len h n e = unread_next s i h ∙ simp (ne_eqb _ _ n, e)

-- nothing is left to enter
pub ended : (s : List ℕ) (fs : List (Answer Field)) (i : ℕ) → length fs ≡ 15 → unread s i ≡ [] → after letters fs (unread s i) ≡ fields_of s → fs ≡ fields_of s
ended s fs i l e h = sym (after_none letters fs l) ∙ (rw e at h)

-- a field is entered
pub turn : (s : List ℕ) (fs gs : List (Answer Field)) (i len : ℕ) → i < length s → (get_or s i 0 ≡ 0 → ⊥) → index_of 0 (drop (i + 1) s) ≡ some len
    → length fs ≡ 15 → after letters fs (unread s i) ≡ fields_of s → gs ≡ replaced (index_of (get_or s i 0) letters) (Some (record { from = i + 1; len = len })) fs
    → (length gs ≡ 15) × (after letters gs (unread s (i + 1 + len + 1)) ≡ fields_of s)
turn s fs gs i len h n e l inv p =
    let entry : Entry = record { letter = get_or s i 0; from = i + 1; len = len } in
    let q : after letters fs (entry ∷ unread s (i + 1 + len + 1)) ≡ fields_of s = rw (unread_field s i len h n e) at inv in
    rw p (length_replaced (index_of (get_or s i 0) letters) (entered entry) fs ∙ l, sym (after_next letters fs entry (unread s (i + 1 + len + 1)) letters_distinct l) ∙ q)
