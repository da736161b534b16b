-- The fields and the text of an error by the layout of its payload.
use Rattle.std.specs.Prelude.{Option as Answer}
use mathlib.Core.Path.{◌≡◌, refl, ap, ◌∙◌}
use mathlib.Core.Bool.{Bool, true, false}
use mathlib.Core.List.{List, [], ◌∷◌, ◌++◌, map}
use mathlib.Core.Logic.{inl}
use mathlib.Core.Option.{Option, some, none}
use Prim.Native.Nat.{ℕ, zero, suc, ◌+◌, ◌-◌, ◌≤◌, ◌<◌}
use Prim.Native.Char.{code}
use native.Mathlib.Omega.{arith}
use lib.ListN.{length, drop, get_or, length-drop}
use lib.Dec.{eqb, ltb}
use borrow.Author.Tests.{eqb-true, eqb-false, ltb-true, ltb-false}
use Rattle.wire.specs.Bytes.{pick, at}
use Rattle.wire.specs.Find.{index_of}
use Rattle.wire.proofs.Laws.{by_test}
use Rattle.wire.proofs.FindLaws.{found_below}
use Rattle.lossy.specs.Lossy.{lossy_of}
use Rattle.lossy.specs.Marks.{seen, marks_of}
use Rattle.lossy.proofs.Marks.{marks_are_seen, seen_joined}
use Rattle.messages.specs.declared.Field.{Field}
use Rattle.messages.specs.Fields.{Entry, entries_of, absent, entered, last_of, letters, fields_of, is_given, part_of, named}
use Rattle.messages.specs.FieldLayout.{encode, Laid, said, fields_read}
use Rattle.messages.specs.ErrorText.{opened, closed, plain, coded, text_by, error_text, error_marks}
use Rattle.text.specs.Ascii.{ascii}
use Rattle.messages.specs.FieldsSent.{either, last_value, value_given, FieldsAreLaid, FieldsAreSent, FieldIsWithin, text_of, TextIsLaid, value_marks, MarksAreLaid, value_seen, TextShowsMarks}
use Rattle.messages.proofs.Laws.{unread, unread_start, unread_end, unread_zero, unread_cut, unread_field}
use Rattle.messages.proofs.FieldLayout.{laid_is_read}

-- ---- the last value of a letter

either_none : {A : Type 0} (x : Option A) → either x none ≡ x
either_none none = refl
either_none (some a) = refl

either_either : {A : Type 0} (x y z : Option A) → either x (either y z) ≡ either (either x y) z
either_either none y z = refl
either_either (some a) y z = refl

entry_value : (payload : List ℕ) (letter : ℕ) (e : Entry) (f : Answer Field)
    → value_given payload (pick (eqb e.letter letter) (entered e) f) ≡ either (pick (eqb e.letter letter) (some (at payload e.from e.len)) none) (value_given payload f)
entry_value payload letter e f = by_test (eqb e.letter letter) (λ t. rw t) (λ t. rw t)

last_value_lem : (payload : List ℕ) (letter : ℕ) (f : Answer Field) (es : List Entry)
    → value_given payload (last_of letter f es) ≡ either (last_value letter (map (said payload) es)) (value_given payload f)
unfolding last_of last_value
last_value_lem payload letter f [] = refl
last_value_lem payload letter f (e ∷ es) =
    let x : Option (List ℕ) = last_value letter (map (said payload) es) in
    let y : Option (List ℕ) = pick (eqb e.letter letter) (some (at payload e.from e.len)) none in
    last_value_lem payload letter (pick (eqb e.letter letter) (entered e) f) es
    ∙ ap (either x) (entry_value payload letter e f) ∙ either_either x y (value_given payload f)

module _ (payload : List ℕ) (fs : List (ℕ × List ℕ)) (l : Laid payload fs) where
  pub one_field : (letter : ℕ) → value_given payload (last_of letter absent (entries_of payload)) ≡ last_value letter fs
  unfolding fields_read
  one_field letter =
      last_value_lem payload letter absent (entries_of payload) ∙ either_none (last_value letter (map (said payload) (entries_of payload)))
      ∙ ap (last_value letter) (laid_is_read payload fs l)

  all_fields : (ls : List ℕ) → map (value_given payload) (map (λ letter. last_of letter absent (entries_of payload)) ls) ≡ map (λ letter. last_value letter fs) ls
  all_fields [] = refl
  all_fields (x ∷ ls) = rw (one_field x, all_fields ls)

pub fields_are_laid : FieldsAreLaid
unfolding fields_of
fields_are_laid payload fs l = all_fields payload fs l letters

pub fields_are_sent : FieldsAreSent
fields_are_sent fs surplus n = fields_are_laid (encode fs ++ (0 ∷ surplus)) fs (record { sendable = n; rest = 0 ∷ surplus; whole = refl; ended = inl refl })

-- ---- the text

pub text_by_lem : (a b : Bool) (m c : List ℕ) → text_by a b m c ≡ text_of (pick a (some m) none) (pick b (some c) none)
unfolding coded ascii
text_by_lem true true m c = refl
text_by_lem true false m c = refl
text_by_lem false true m c = refl
text_by_lem false false m c = refl

pub text_is_laid : TextIsLaid
unfolding error_text fields_of
text_is_laid payload fs l =
    let m : Answer Field = last_of (code "M") absent (entries_of payload) in
    let c : Answer Field = last_of (code "C") absent (entries_of payload) in
    text_by_lem (is_given m) (is_given c) (named payload m) (named payload c) ∙ rw (one_field payload fs l (code "M"), one_field payload fs l (code "C"))

-- ---- its marks

pub marks_by : (a : Bool) (s : List ℕ) → pick a (marks_of s) 0 ≡ value_marks (pick a (some s) none)
marks_by true s = refl
marks_by false s = refl

pub marks_are_laid : MarksAreLaid
unfolding error_marks fields_of
marks_are_laid payload fs l =
    let m : Answer Field = last_of (code "M") absent (entries_of payload) in
    let c : Answer Field = last_of (code "C") absent (entries_of payload) in
    rw (marks_by (is_given m) (named payload m), marks_by (is_given c) (named payload c), one_field payload fs l (code "M"), one_field payload fs l (code "C"))

opened_seen : (s : List ℕ) → seen (opened ++ s) ≡ seen s
unfolding seen
opened_seen s = omega arith

closed_seen : seen closed ≡ 0
unfolding seen
closed_seen = refl

coded_seen : (a b : List ℕ) → seen (coded a b) ≡ seen a + seen b
unfolding coded
coded_seen a b =
    seen_joined a 32 (drop 1 opened ++ (b ++ closed)) (omega arith)
    ∙ rw (opened_seen (b ++ closed), seen_joined b 41 [] (omega arith), closed_seen) (omega arith)

-- the text shows what the values have, and the marks
text_seen : (m c : Option (List ℕ)) → seen (text_of m c) ≡ value_seen m + value_seen c + (value_marks m + value_marks c)
unfolding seen ascii coded
text_seen (some m) (some c) = coded_seen (lossy_of m) (lossy_of c) ∙ rw (marks_are_seen m, marks_are_seen c) (omega arith)
text_seen (some m) none = rw (marks_are_seen m) (omega arith)
text_seen none (some c) = coded_seen plain (lossy_of c) ∙ rw (marks_are_seen c) (omega arith)
text_seen none none = refl

pub text_shows_marks : TextShowsMarks
text_shows_marks payload fs l = rw (text_is_laid payload fs l, marks_are_laid payload fs l) (text_seen (last_value (code "M") fs) (last_value (code "C") fs))

-- ---- parts in the payload

abbrev EntriesWithin : List ℕ → List Entry → Type 0
EntriesWithin s [] = Unit
EntriesWithin s (e ∷ es) = (e.from + e.len ≤ length s) × EntriesWithin s es

letter_within : (s : List ℕ) (i : ℕ) (f : Option ℕ) → i < length s → (get_or s i 0 ≡ 0 → ⊥) → index_of 0 (drop (i + 1) s) ≡ f
    → ((k : ℕ) → EntriesWithin s (unread s (i + 1 + k + 1))) → EntriesWithin s (unread s i)
letter_within s i (some k) h n e more =
    let b : k < length s - (i + 1) = rw (length-drop (i + 1) s) at (found_below 0 (drop (i + 1) s) k e) in
    rw (unread_field s i k h n e) (omega arith, more k)
letter_within s i none h n e more = rw (unread_cut s i h n e) tt

walk_within : (n : ℕ) (s : List ℕ) (i : ℕ) → length s - i ≤ n → EntriesWithin s (unread s i)
walk_within zero s i h = rw (unread_end s i (omega arith)) tt
walk_within (suc n) s i h =
    by_test (ltb i (length s))
    (λ t. by_test (eqb (get_or s i 0) 0)
    (λ z. rw (unread_zero s i (ltb-true i (length s) t) (eqb-true (get_or s i 0) 0 z)) tt)
    (λ z. letter_within s i (index_of 0 (drop (i + 1) s)) (ltb-true i (length s) t) (eqb-false (get_or s i 0) 0 z) refl (λ k. walk_within n s (i + 1 + k + 1) (omega arith))))
    (λ t. rw (unread_end s i (ltb-false i (length s) t)) tt)

last_within : (s : List ℕ) (letter : ℕ) (f : Answer Field) (es : List Entry) → (part_of f).0 + (part_of f).1 ≤ length s → EntriesWithin s es
    → (part_of (last_of letter f es)).0 + (part_of (last_of letter f es)).1 ≤ length s
unfolding last_of
last_within s letter f [] h w = h
last_within s letter f (e ∷ es) h w =
    last_within s letter (pick (eqb e.letter letter) (entered e) f) es
    (by_test (eqb e.letter letter) (λ t. rw t w.0) (λ t. rw t h))
    w.1

nth_within : (s : List ℕ) (es : List Entry) (ls : List ℕ) (i : ℕ) → EntriesWithin s es
    → let p = part_of (get_or (map (λ letter. last_of letter absent es) ls) i absent) in p.0 + p.1 ≤ length s
nth_within s es [] i w = omega arith
nth_within s es (l ∷ ls) zero w = last_within s l absent es (omega arith) w
nth_within s es (l ∷ ls) (suc i) w = nth_within s es ls i w

pub field_is_within : FieldIsWithin
unfolding fields_of
field_is_within payload i =
    nth_within payload (entries_of payload) letters i (rw (unread_start payload) (walk_within (length payload) payload 0 (omega arith)))
