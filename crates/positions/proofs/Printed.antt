-- The turns print the lines: by what the state stands for, a line that is held whole or one that has more bytes than are held.
use mathlib.Core.Path.{◌≡◌, refl, sym, ap, ◌∙◌}
use mathlib.Core.Bool.{true, false}
use mathlib.Core.List.{List, [], ◌∷◌, ◌++◌, append_assoc, append-nil}
use Prim.Native.Nat.{ℕ, ◌+◌, ◌≤◌, ◌<◌}
use native.Mathlib.Numerals.{add-one}
use native.Mathlib.Omega.{arith}
use lib.ListN.{length, take, set, length-append, length-take, length-set}
use lib.Seq.{take_all, take-append-le, take-suc-set}
use lib.Dec.{eqb, ltb}
use borrow.Author.Tests.{eqb-true, ne_eqb, ltb-true, ltb-false}
use Rattle.wire.proofs.Laws.{by_test}
use Rattle.wire.specs.Find.{index_of}
use Rattle.text.specs.Numeral.{decimal_text, numeral}
use Rattle.lsn.specs.Hex.{digit_of, value_from, hex_part}
use Rattle.lsn.specs.Position.{joined, position_of, display_of}
use Rattle.lsn.proofs.Spelled.{spelled_laws}
use Rattle.test_lines.specs.Line.{end_texts}
use Rattle.std.proofs.Common.{Some, None}
use Rattle.positions.specs.Stored.{shown_of, end_texts_of, fresh, turn_texts, turn_held, turn_line, last_texts}
use Rattle.positions.specs.Printed.{lines_from, line_text, printed_of, written, turns_print, TurnsPrintLines, PrintedCases}

written_append : (a b : List (List ℕ)) → written (a ++ b) ≡ written a ++ written b
unfolding written
written_append [] b = refl
written_append (t ∷ a) b = ap (λ (x : List ℕ). t ++ x) (written_append a b) ∙ sym (append_assoc t (written a) (written b))

-- ---- one line

-- a line of at most 255 bytes is judged whole
shown_line : (t : List ℕ) → length t ≤ 255 → written (shown_of t) ≡ line_text t
unfolding written shown_of line_text
shown_line t h =
    rw (take_all 255 t h)
    (by_test (eqb (position_of t).0 0) (λ e. simp (e, append-nil)) (λ e. simp (e, append-nil)))

-- more than 17 bytes are never accepted
never_accepted : (s : List ℕ) → 17 < length s → eqb (position_of s).0 0 ≡ false
never_accepted s h =
    by_test (eqb (position_of s).0 0)
    (λ e.
    let z : position_of s ≡ (0, (position_of s).1) = ap (λ (n : ℕ). (n, (position_of s).1)) (eqb-true _ _ e) in
    let x = spelled_laws.spelled s (position_of s).1 z in
    absurd (omega (arith, (spelled_laws.halves s (position_of s).1 x).3)))
    (λ e. e)

-- of a longer line each byte more is one more that is shown
longer_line : (t : List ℕ) (b : ℕ) → 255 ≤ length t → line_text (t ++ (b ∷ [])) ≡ line_text t ++ (b ∷ [])
unfolding line_text
longer_line t b h =
    let l : length (take 255 t) ≡ 255 = simp length-take (omega arith) in
    rw (take-append-le 255 t (b ∷ []) h)
    (simp (never_accepted (take 255 t) (omega arith)) (sym (append_assoc (decimal_text (position_of (take 255 t)).0) (32 ∷ t) (b ∷ []))))

line_ends : (t rest : List ℕ) → length t ≤ 255 → written (shown_of t ++ end_texts) ++ rest ≡ line_text t ++ (10 ∷ rest)
unfolding written
line_ends t rest h =
    rw (written_append (shown_of t) end_texts, shown_line t h) (append_assoc (line_text t) (10 ∷ []) rest)

-- ---- what a state stands for

-- the line so far is held whole
record Short (n : ℕ) (line t : List ℕ) : Type 0 where
  count : n ≡ length t
  fits : length t ≤ 255
  bytes : take n line ≡ t
  room : length line ≡ 255

-- it has more bytes, and all were printed
record Long (line t : List ℕ) : Type 0 where
  more : 255 < length t
  room : length line ≡ 255

first : (line : List ℕ) → length line ≡ 255 → Short 0 line []
first line e = record { count = refl; fits = omega arith; bytes = refl; room = e }

one_more : (t : List ℕ) (b : ℕ) → length (t ++ (b ∷ [])) ≡ length t + 1
one_more t b = simp length-append

-- a byte that is held
held : (n : ℕ) (line t : List ℕ) (b : ℕ) → Short n line t → length t < 255 → Short (n + 1) (set line n b) (t ++ (b ∷ []))
held n line t b x l =
    let i : n < length line = omega (arith, x.count, x.room) in
    record {
      count = ap (λ (k : ℕ). k + 1) x.count ∙ sym (one_more t b);
      fits = omega (arith, one_more t b);
      bytes = rw add-one (take-suc-set line n b i ∙ ap (λ (s : List ℕ). s ++ (b ∷ [])) x.bytes);
      room = simp length-set x.room;
    }

-- ---- the turns

-- what is owed of the bytes s
Prints : List ℕ → Type 0
Prints s =
    ((n : ℕ) (line t : List ℕ) → Short n line t → turns_print (Some n) line s ≡ printed_of (lines_from t s))
    × ((line t : List ℕ) → Long line t → line_text t ++ turns_print None line s ≡ printed_of (lines_from t s))

short_end : (n : ℕ) (line t : List ℕ) → Short n line t → turns_print (Some n) line [] ≡ printed_of (lines_from t [])
unfolding turns_print lines_from printed_of last_texts end_texts_of written
short_end n line t x =
    by_test (eqb (length t) 0)
    (λ e.
    let z : eqb n 0 ≡ true = ap (λ (k : ℕ). eqb k 0) x.count ∙ e in
    simp (z, e))
    (λ e.
    let z : eqb n 0 ≡ false = ap (λ (k : ℕ). eqb k 0) x.count ∙ e in
    simp (z, e, x.bytes) (sym (append-nil (written (shown_of t ++ end_texts))) ∙ line_ends t [] x.fits))

long_end : (line t : List ℕ) → Long line t → line_text t ++ turns_print None line [] ≡ printed_of (lines_from t [])
unfolding turns_print lines_from printed_of last_texts written
long_end line t x =
    let n : length t ≡ 0 → ⊥ = λ e. omega (arith, x.more) in
    simp (ne_eqb _ _ n)

module _ (b : ℕ) (s : List ℕ) (rest : Prints s) where
  short_turn : (n : ℕ) (line t : List ℕ) → Short n line t → turns_print (Some n) line (b ∷ s) ≡ printed_of (lines_from t (b ∷ s))
  unfolding Prints turns_print turn_texts turn_held turn_line lines_from printed_of end_texts_of written
  short_turn n line t x =
      by_test (eqb b 10)
      (λ e.
      simp (e, x.bytes)
      (line_ends t (turns_print fresh line s) x.fits ∙ ap (λ (r : List ℕ). line_text t ++ (10 ∷ r)) (rest.0 0 line [] (first line x.room))))
      (λ e.
      by_test (ltb n (length line))
      (λ u.
      let k : n < length line = ltb-true _ _ u in
      let l : length t < 255 = omega (arith, x.count, x.room) in
      simp (e, u)
      (rest.0 (n + 1) (set line n b) (t ++ (b ∷ [])) (held n line t b x l)))
      (λ u.
      let k : length line ≤ n = ltb-false _ _ u in
      let l : length t ≡ 255 = omega (arith, x.count, x.room, x.fits) in
      let all : line ≡ t = sym (take_all n line k) ∙ x.bytes in
      let m : 255 < length (t ++ (b ∷ [])) = omega (arith, one_more t b) in
      let shown : written (shown_of line ++ ((b ∷ []) ∷ [])) ≡ line_text (t ++ (b ∷ [])) = written_append (shown_of line) ((b ∷ []) ∷ [])
      ∙ ap (λ (y : List ℕ). y ++ (b ∷ [])) (ap (λ (y : List ℕ). written (shown_of y)) all ∙ shown_line t x.fits)
      ∙ sym (longer_line t b (omega arith)) in
      simp (e, u)
      (ap (λ (y : List ℕ). y ++ turns_print None line s) shown
      ∙ rest.1 line (t ++ (b ∷ [])) (record { more = m; room = x.room }))))

  long_turn : (line t : List ℕ) → Long line t → line_text t ++ turns_print None line (b ∷ s) ≡ printed_of (lines_from t (b ∷ s))
  unfolding Prints turns_print turn_texts turn_held turn_line lines_from printed_of end_texts_of written
  long_turn line t x =
      by_test (eqb b 10)
      (λ e. simp e (ap (λ (r : List ℕ). line_text t ++ (10 ∷ r)) (rest.0 0 line [] (first line x.room))))
      (λ e.
      let m : 255 < length (t ++ (b ∷ [])) = omega (arith, one_more t b, x.more) in
      simp e
      (sym (append_assoc (line_text t) (b ∷ []) (turns_print None line s))
      ∙ ap (λ (y : List ℕ). y ++ turns_print None line s) (sym (longer_line t b (omega (arith, x.more))))
      ∙ rest.1 line (t ++ (b ∷ [])) (record { more = m; room = x.room })))

prints : (s : List ℕ) → Prints s
unfolding Prints
prints [] = (short_end, long_end)
prints (b ∷ s) = (short_turn b s (prints s), long_turn b s (prints s))

pub turns_print_lines : TurnsPrintLines
unfolding Prints
turns_print_lines line s e = (prints s).0 0 line [] (first line e)

pub printed_cases : PrintedCases
unfolding lines_from line_text printed_of position_of index_of digit_of value_from hex_part joined display_of numeral
printed_cases = record { empty = refl; empty_line = refl; three_lines = refl }
