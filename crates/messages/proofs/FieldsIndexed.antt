-- The fields by index, along the list of letters; and the place of each, along the walk over the payload.
use Rattle.std.specs.Prelude.{Option as Answer, Some}
use mathlib.Core.Path.{◌≡◌, refl, sym, ap, ◌∙◌}
use mathlib.Core.Bool.{true, false}
use mathlib.Core.List.{List, [], ◌∷◌, ◌++◌, map}
use mathlib.Core.Option.{Option, some, none}
use Prim.Native.Nat.{ℕ, zero, suc, ◌+◌, ◌-◌, ◌≤◌, ◌<◌}
use native.Mathlib.Omega.{arith}
use lib.ListN.{length, take, drop, get_or, length-drop, take-append-drop, get_or-eq_default}
use lib.Seq.{drop-drop, length-take-le}
use lib.Dec.{eqb, ltb}
use borrow.Author.Tests.{eqb-true, eqb-false, eq-eqb, ne_eqb, ltb-true, ltb-false, le-ltb}
use Rattle.wire.specs.Bytes.{pick, at, be}
use Rattle.wire.specs.Int.{int}
use Rattle.wire.specs.Find.{index_of}
use Rattle.wire.proofs.Laws.{by_test, impossible}
use Rattle.wire.proofs.FindLaws.{found_at, found_below}
use Rattle.wire.proofs.FieldLaws.{int_whole}
use Rattle.messages.specs.declared.Field.{Field}
use Rattle.messages.specs.Fields.{Entry, entries_of, absent, entered, last_of, letters, fields_of, indexed, is_given, named}
use Rattle.messages.specs.FieldLayout.{Laid}
use Rattle.messages.specs.Auth.{auth_of}
use Rattle.messages.specs.ErrorText.{error_text, error_marks}
use Rattle.messages.specs.FieldsSent.{fifteen, last_value, value_given}
use Rattle.messages.specs.FieldsIndexed.{letter_at, NoLetter, Behind, IndexLaws}
use Rattle.messages.proofs.Laws.{at_place, unread, unread_start, unread_end, unread_zero, unread_cut, unread_field}
use Rattle.messages.proofs.FieldsSent.{one_field, text_by_lem, marks_by}

-- ---- an index

past : (fields : List (Answer Field)) (i : ℕ) → 15 ≤ i → indexed fields i ≡ absent
past fields i h = simp (le-ltb _ _ h)

-- of fifteen fields at most, an index that has no place has the field that is not given anyway
in_list : (fields : List (Answer Field)) (i : ℕ) → length fields ≤ 15 → indexed fields i ≡ get_or fields i absent
in_list fields i h =
    by_test (ltb i 15)
    (λ t. rw t)
    (λ t.
    let k : 15 ≤ i = ltb-false i 15 t in
    let l : length fields ≤ i = omega arith in
    rw t (sym (get_or-eq_default fields absent l)))

fifteen_fields : (payload : List ℕ) → length (fields_of payload) ≤ 15
unfolding fields_of
fifteen_fields payload = omega arith

module _ (payload : List ℕ) (fs : List (ℕ × List ℕ)) (x : Laid payload fs) where
  by_place : (ls : List ℕ) (i letter : ℕ) → letter_at ls i ≡ some letter
      → value_given payload (get_or (map (λ l. last_of l absent (entries_of payload)) ls) i absent) ≡ last_value letter fs
  by_place [] i letter e = impossible cc
  by_place (l ∷ ls) zero letter e = let q : l ≡ letter = cc in rw q (one_field payload fs x letter)
  by_place (l ∷ ls) (suc i) letter e = by_place ls i letter e

by_letter : (payload : List ℕ) (fs : List (ℕ × List ℕ)) (i letter : ℕ) → Laid payload fs → letter_at fifteen i ≡ some letter
    → value_given payload (indexed (fields_of payload) i) ≡ last_value letter fs
unfolding fields_of
by_letter payload fs i letter x e =
    ap (value_given payload) (in_list (fields_of payload) i (fifteen_fields payload)) ∙ by_place payload fs x letters i letter e

-- ---- where the fields stand

abbrev EntriesBehind : List ℕ → List Entry → Type 0
EntriesBehind s [] = Unit
EntriesBehind s (e ∷ es) = Behind s e.letter (entered e) × EntriesBehind s es

letter_behind : (s : List ℕ) (i : ℕ) (f : Option ℕ) → i < length s → (get_or s i 0 ≡ 0 → ⊥) → index_of 0 (drop (i + 1) s) ≡ f
    → ((k : ℕ) → EntriesBehind s (unread s (i + 1 + k + 1))) → EntriesBehind s (unread s i)
letter_behind s i (some k) h n e more =
    let w = found_at (drop (i + 1) s) k e in
    let p : i + 1 + (k + 1) ≡ i + 1 + k + 1 = omega arith in
    let q : drop (i + 1) s ≡ at s (i + 1) k ++ (0 ∷ drop (i + 1 + k + 1) s) = rw (drop-drop, p) at w.1 in
    let c : drop i s ≡ get_or s i 0 ∷ (at s (i + 1) k ++ (0 ∷ drop (i + 1 + k + 1) s)) = at_place s i h ∙ ap (λ (l : List ℕ). get_or s i 0 ∷ l) q in
    let b : k < length s - (i + 1) = rw (length-drop (i + 1) s) at (found_below 0 (drop (i + 1) s) k e) in
    let l : length (take i s) ≡ i = length-take-le i s (omega arith) in
    let m : length (at s (i + 1) k) ≡ k = length-take-le k (drop (i + 1) s) (simp length-drop (omega arith)) in
    let one : Behind s (get_or s i 0) (Some (record { from = i + 1; len = k })) =
    record {
      before = take i s;
      value = at s (i + 1) k;
      rest = drop (i + 1 + k + 1) s;
      whole = sym (take-append-drop i s) ∙ ap (λ (t : List ℕ). take i s ++ t) c;
      no_zero = w.0;
      from = rw l;
      len = sym m;
    } in
    rw (unread_field s i k h n e) (one, more k)
letter_behind s i none h n e more = rw (unread_cut s i h n e) tt

walk_behind : (n : ℕ) (s : List ℕ) (i : ℕ) → length s - i ≤ n → EntriesBehind s (unread s i)
walk_behind zero s i h = rw (unread_end s i (omega arith)) tt
walk_behind (suc n) s i h =
    by_test (ltb i (length s))
    (λ t. by_test (eqb (get_or s i 0) 0)
    (λ z. rw (unread_zero s i (ltb-true i (length s) t) (eqb-true (get_or s i 0) 0 z)) tt)
    (λ z.
    letter_behind s i (index_of 0 (drop (i + 1) s)) (ltb-true i (length s) t) (eqb-false (get_or s i 0) 0 z) refl
    (λ k. walk_behind n s (i + 1 + k + 1) (omega arith))))
    (λ t. rw (unread_end s i (ltb-false i (length s) t)) tt)

-- a field that is given stands behind its letter, and one that is not is the absent one
pub record Placed (s : List ℕ) (letter : ℕ) (f : Answer Field) : Type 0 where
  pub behind : is_given f ≡ true → Behind s letter f
  pub none : is_given f ≡ false → f ≡ absent

absent_placed : (s : List ℕ) (letter : ℕ) → Placed s letter absent
absent_placed s letter = record { behind = λ e. impossible cc; none = λ e. refl }

last_placed : (s : List ℕ) (letter : ℕ) (f : Answer Field) (es : List Entry) → Placed s letter f → EntriesBehind s es → Placed s letter (last_of letter f es)
unfolding last_of
last_placed s letter f [] h w = h
last_placed s letter f (e ∷ es) h w =
    last_placed s letter (pick (eqb e.letter letter) (entered e) f) es
    (by_test (eqb e.letter letter)
    (λ t. rw t (record { behind = λ z. rw (eqb-true e.letter letter t) at w.0; none = λ z. impossible cc }))
    (λ t. rw t h))
    w.1

nth_placed : (s : List ℕ) (es : List Entry) (ls : List ℕ) (i letter : ℕ) → EntriesBehind s es → letter_at ls i ≡ some letter
    → Placed s letter (get_or (map (λ l. last_of l absent es) ls) i absent)
nth_placed s es [] i letter w e = impossible cc
nth_placed s es (l ∷ ls) zero letter w e = let q : l ≡ letter = cc in rw q (last_placed s letter absent es (absent_placed s letter) w)
nth_placed s es (l ∷ ls) (suc i) letter w e = nth_placed s es ls i letter w e

field_placed : (payload : List ℕ) (i letter : ℕ) → letter_at fifteen i ≡ some letter → Placed payload letter (indexed (fields_of payload) i)
unfolding fields_of
field_placed payload i letter e =
    rw (in_list (fields_of payload) i (fifteen_fields payload))
    (nth_placed payload (entries_of payload) letters i letter (rw (unread_start payload) (walk_behind (length payload) payload 0 (omega arith))) e)

-- every index below fifteen has a letter
has_letter : (ls : List ℕ) (i : ℕ) → i < length ls → (letter : ℕ) × (letter_at ls i ≡ some letter)
has_letter [] i h = absurd (omega arith)
has_letter (l ∷ ls) zero h = (l, refl)
has_letter (l ∷ ls) (suc i) h = has_letter ls i (omega arith)

not_given : (payload : List ℕ) (i : ℕ) → is_given (indexed (fields_of payload) i) ≡ false → indexed (fields_of payload) i ≡ absent
not_given payload i e =
    by_test (ltb i 15)
    (λ t. let w = has_letter fifteen i (ltb-true i 15 t) in (field_placed payload i w.0 w.1).none e)
    (λ t. past (fields_of payload) i (ltb-false i 15 t))

-- ---- the last value

no_letter : (letter : ℕ) (fs : List (ℕ × List ℕ)) → NoLetter letter fs → last_value letter fs ≡ none
unfolding last_value
no_letter letter [] n = refl
no_letter letter (f ∷ fs) n = rw (no_letter letter fs n.1, ne_eqb f.0 letter n.0)

last : (letter : ℕ) (v : List ℕ) (a b : List (ℕ × List ℕ)) → NoLetter letter b → last_value letter (a ++ ((letter, v) ∷ b)) ≡ some v
unfolding last_value
last letter v [] b n = rw (no_letter letter b n, eq-eqb letter letter refl)
last letter v (f ∷ a) b n = rw (last letter v a b n)

-- ---- an authentication request

auth_read : (a b c d : ℕ) (rest : List ℕ) → auth_of (a ∷ b ∷ c ∷ d ∷ rest) ≡ (0, int 4 (be (a ∷ b ∷ c ∷ d ∷ [])), 4, length rest)
unfolding auth_of
auth_read a b c d rest =
    let s : List ℕ = a ∷ b ∷ c ∷ d ∷ rest in
    let n : suc (suc (suc (suc (length rest)))) - 4 ≡ length rest = omega arith in
    rw (int_whole 4 s 0 (omega arith), n)

pub index_laws : IndexLaws
unfolding error_text error_marks
index_laws =
    record {
      by_letter = by_letter;
      behind = λ payload i letter e g. (field_placed payload i letter e).behind g;
      not_given = not_given;
      fifteen_letters = refl;
      no_other = past;
      last = last;
      last_none = no_letter;
      text =
          λ fields payload.
          let m : Answer Field = get_or fields 2 absent in
          let c : Answer Field = get_or fields 1 absent in
          text_by_lem (is_given m) (is_given c) (named payload m) (named payload c);
      text_marks =
          λ fields payload.
          let m : Answer Field = get_or fields 2 absent in
          let c : Answer Field = get_or fields 1 absent in
          rw (marks_by (is_given m) (named payload m), marks_by (is_given c) (named payload c));
      auth_read = auth_read;
      asked = λ code from len. refl;
      not_asked = λ r. refl;
    }
