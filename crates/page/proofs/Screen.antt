-- The page read back: its characters are printable, its lines are the six that were written, and of each line the label and the value are found.
use mathlib.Core.Path.{◌≡◌, refl, ap, ◌∙◌}
use mathlib.Core.Bool.{Bool, true, false}
use mathlib.Core.List.{List, [], ◌∷◌, ◌++◌, append_assoc, append-nil}
use mathlib.Core.Option.{Option, some, none}
use Prim.Native.Nat.{ℕ, zero, suc, ◌-◌, ◌/◌, ◌%◌, ◌^◌, ◌≤◌, ◌<◌}
use native.Mathlib.Omega.{arith}
use lib.ListN.{length, length-append, length-replicate}
use lib.Dec.{leb, ltb}
use borrow.Author.Tests.{ltb-true, leb-true, ne_eqb}
use Rattle.wire.specs.Bytes.{pick}
use Rattle.wire.specs.Find.{index_of}
use Rattle.wire.specs.Field.{and_then}
use Rattle.wire.proofs.Laws.{by_test, impossible}
use Rattle.text.specs.Ascii.{ascii}
use Rattle.text.specs.Numeral.{glyph_of, numeral, decimal_text}
use Rattle.text.proofs.Laws.{digit_below, numeral_length}
use Rattle.text.proofs.Cases.{text_laws}
use Rattle.lsn.specs.Position.{position_of, display_of}
use Rattle.lsn.proofs.ReadBack.{read_back}
use Rattle.page.specs.declared.Page.{Page}
use Rattle.page.specs.Page.{spaces, flush_left, flush_right, line_of, sent_text, state_names, state_name, page_of}
use Rattle.page.specs.Reader.{lines_of, label_of, value_from, is_same, beside, shown, position_in, shown_position, shown_number}
use Rattle.page.specs.Reader.{PageReadsBack, OnScreen, PageFitsScreen, ValuesFit}
use Rattle.page.proofs.Laws.{display_short, sent_short, state_short, length_line, length_page}

-- ---- printable characters

-- every character is printable, and not below the given one: 33 leaves out the space
abbrev Within : ℕ → List ℕ → Type 0
Within low [] = Unit
Within low (c ∷ s) = ((low ≤ c) × (c ≤ 126)) × Within low s

within_append : (low : ℕ) (a b : List ℕ) → Within low a → Within low b → Within low (a ++ b)
within_append low [] b h k = k
within_append low (c ∷ a) b h k = (h.0, within_append low a b h.1 k)

-- a visible text may stand among spaces
with_spaces : (s : List ℕ) → Within 33 s → Within 32 s
with_spaces [] h = tt
with_spaces (c ∷ s) h = ((omega (arith, h.0.0), h.0.1), with_spaces s h.1)

spaces_within : (n : ℕ) → Within 32 (spaces n)
spaces_within zero = tt
spaces_within (suc n) = ((omega arith, omega arith), spaces_within n)

-- the same as a test, for texts that are given
is_visible : List ℕ → Bool
is_visible [] = true
is_visible (c ∷ s) = pick (leb 33 c) (pick (leb c 126) (is_visible s) false) false

visible : (s : List ℕ) → is_visible s ≡ true → Within 33 s
unfolding is_visible
visible [] e = tt
visible (c ∷ s) e = by (leb 33 c) (leb c 126) refl refl (λ r. visible s r) e
  where
    by : (a b : Bool) → leb 33 c ≡ a → leb c 126 ≡ b → (is_visible s ≡ true → Within 33 s) → pick a (pick b (is_visible s) false) false ≡ true
        → Within 33 (c ∷ s)
    by true true p q f e = ((leb-true 33 c p, leb-true c 126 q), f e)
    by true false p q f e = impossible cc
    by false b p q f e = impossible cc

glyph_visible : (d : ℕ) → d < 16 → Within 33 (glyph_of d ∷ [])
glyph_visible d h =
    by_test (ltb d 10)
    (λ t. let k : d < 10 = ltb-true d 10 t in simp t ((omega arith, omega arith), tt))
    (λ t. simp t ((omega arith, omega arith), tt))

numeral_visible : (base n x : ℕ) → 2 ≤ base → base ≤ 16 → Within 33 (numeral base n x)
unfolding numeral
numeral_visible base zero x p q = tt
numeral_visible base (suc n) x p q =
    by_test (ltb x base)
    (λ t. let k : x < base = ltb-true x base t in simp t (glyph_visible x (omega arith)))
    (λ t.
    simp t
    (within_append 33 (numeral base n (x / base)) (glyph_of (x % base) ∷ []) (numeral_visible base n (x / base) p q)
    (glyph_visible (x % base) (digit_below base x p q))))

decimal_visible : (v : ℕ) → Within 33 (decimal_text v)
decimal_visible v = numeral_visible 10 20 v (omega arith) (omega arith)

display_visible : (v : ℕ) → Within 33 (display_of v)
unfolding display_of
display_visible v =
    within_append 33 (numeral 16 20 (v / 2 ^ 32)) (47 ∷ numeral 16 20 (v % 2 ^ 32)) (numeral_visible 16 20 (v / 2 ^ 32) (omega arith) (omega arith))
    ((omega arith, omega arith), numeral_visible 16 20 (v % 2 ^ 32) (omega arith) (omega arith))

sent_visible : (sent : Bool) (v : ℕ) → Within 33 (sent_text sent v)
unfolding ascii is_visible
sent_visible true v = display_visible v
sent_visible false v = visible (ascii "-") refl

state_visible : (n : ℕ) → Within 33 (state_name n)
unfolding ascii is_visible state_names
state_visible zero = visible (ascii "OPENING") refl
state_visible (suc zero) = visible (ascii "TURN") refl
state_visible (suc (suc zero)) = visible (ascii "DRAIN") refl
state_visible (suc (suc (suc zero))) = visible (ascii "READING") refl
state_visible (suc (suc (suc (suc zero)))) = visible (ascii "WAITING") refl
state_visible (suc (suc (suc (suc (suc zero))))) = visible (ascii "HANDLING") refl
state_visible (suc (suc (suc (suc (suc (suc zero)))))) = visible (ascii "OFFERING") refl
state_visible (suc (suc (suc (suc (suc (suc (suc n))))))) = visible (ascii "ENDED") refl

-- ---- lines

-- a line without its newline
abbrev line_text : List ℕ → List ℕ → List ℕ
line_text label value = flush_left 12 label ++ flush_right 20 value

text_within : (label value : List ℕ) → Within 33 label → Within 33 value → Within 32 (line_text label value)
text_within label value h k =
    within_append 32 (flush_left 12 label) (flush_right 20 value)
    (within_append 32 label (spaces (12 - length label)) (with_spaces label h) (spaces_within (12 - length label)))
    (within_append 32 (spaces (20 - length value)) value (spaces_within (20 - length value)) (with_spaces value k))

length_text : (label value : List ℕ) → length label ≤ 12 → length value ≤ 20 → length (line_text label value) ≡ 32
length_text label value h k = simp (length-append, length-replicate) (omega arith)

lines_next : (l rest : List ℕ) → Within 32 l → lines_of (l ++ (10 ∷ rest)) ≡ l ∷ lines_of rest
unfolding lines_of
lines_next [] rest h = refl
lines_next (c ∷ l) rest h =
    let n : c ≡ 10 → ⊥ = λ e. omega (arith, h.0.0) in
    rw (ne_eqb c 10 n, lines_next l rest h.1)

-- a line of a visible label and value, with what follows it
line_next : (label value rest : List ℕ) → is_visible label ≡ true → Within 33 value
    → lines_of (line_of label value ++ rest) ≡ line_text label value ∷ lines_of rest
unfolding line_of
line_next label value rest h k =
    let e : (flush_left 12 label ++ (flush_right 20 value ++ (10 ∷ []))) ++ rest ≡ line_text label value ++ (10 ∷ rest) = simp append_assoc in
    ap lines_of e ∙ lines_next (line_text label value) rest (text_within label value (visible label h) k)

-- the last line, with nothing after it
line_last : (label value : List ℕ) → is_visible label ≡ true → Within 33 value → lines_of (line_of label value) ≡ line_text label value ∷ []
unfolding line_of lines_of
line_last label value h k =
    let e : flush_left 12 label ++ (flush_right 20 value ++ (10 ∷ [])) ≡ line_text label value ++ (10 ∷ []) = simp append_assoc in
    ap lines_of e ∙ lines_next (line_text label value) [] (text_within label value (visible label h) k)

-- the page's lines
unfoldable texts : Page → List (List ℕ)
texts p =
    line_text (ascii "POSITION") (display_of p.position.0)
    ∷ line_text (ascii "SENT") (sent_text p.sent p.confirmed.0)
    ∷ line_text (ascii "SERVER") (display_of p.server.0)
    ∷ line_text (ascii "EVENTS") (decimal_text p.events)
    ∷ line_text (ascii "STALLS") (decimal_text p.stalls)
    ∷ line_text (ascii "STATE") (state_name p.state)
    ∷ []

page_lines : (p : Page) → lines_of (page_of p) ≡ texts p
unfolding ascii is_visible texts page_of
page_lines p =
    line_next (ascii "POSITION") _ _ refl (display_visible p.position.0)
    ∙ ap (λ (l : List (List ℕ)). line_text (ascii "POSITION") (display_of p.position.0) ∷ l)
    (line_next (ascii "SENT") _ _ refl (sent_visible p.sent p.confirmed.0)
    ∙ ap (λ (l : List (List ℕ)). line_text (ascii "SENT") (sent_text p.sent p.confirmed.0) ∷ l)
    (line_next (ascii "SERVER") _ _ refl (display_visible p.server.0)
    ∙ ap (λ (l : List (List ℕ)). line_text (ascii "SERVER") (display_of p.server.0) ∷ l)
    (line_next (ascii "EVENTS") _ _ refl (decimal_visible p.events)
    ∙ ap (λ (l : List (List ℕ)). line_text (ascii "EVENTS") (decimal_text p.events) ∷ l)
    (line_next (ascii "STALLS") _ _ refl (decimal_visible p.stalls)
    ∙ ap (λ (l : List (List ℕ)). line_text (ascii "STALLS") (decimal_text p.stalls) ∷ l)
    (line_last (ascii "STATE") _ refl (state_visible p.state))))))

-- ---- the value beside a label

-- a visible text has no space, so that all of it is its value
value_word : (since v : List ℕ) → Within 33 v → value_from since v ≡ since ++ v
unfolding value_from
value_word since [] h = simp append-nil
value_word since (c ∷ v) h =
    let n : c ≡ 32 → ⊥ = λ e. omega (arith, h.0.0) in
    rw (ne_eqb c 32 n) (value_word (since ++ (c ∷ [])) v h.1 ∙ simp append_assoc)

value_right : (k : ℕ) (v : List ℕ) → Within 33 v → value_from [] (spaces k ++ v) ≡ v
unfolding value_from
value_right zero v h = value_word [] v h
value_right (suc k) v h = value_right k v h

flushed : (v : List ℕ) → Within 33 v → value_from [] (flush_right 20 v) ≡ v
flushed v h = value_right (20 - length v) v h

-- what is shown beside a label, by the lines
by_lines : (label : List ℕ) (p : Page) {v : Option (List ℕ)} → beside label (texts p) ≡ v → shown label (page_of p) ≡ v
by_lines label p e = ap (beside label) (page_lines p) ∙ e

read_position : (v : ℕ) → v < 2 ^ 64 → position_in (display_of v) ≡ some v
read_position v h = rw (read_back v h)

module _ (p : Page) where
  position_beside : shown (ascii "POSITION") (page_of p) ≡ some (display_of p.position.0)
  unfolding ascii texts label_of value_from is_same beside
  position_beside = by_lines (ascii "POSITION") p (ap some (flushed _ (display_visible p.position.0)))

  sent_beside : shown (ascii "SENT") (page_of p) ≡ some (sent_text p.sent p.confirmed.0)
  unfolding ascii texts label_of value_from is_same beside
  sent_beside = by_lines (ascii "SENT") p (ap some (flushed _ (sent_visible p.sent p.confirmed.0)))

  server_beside : shown (ascii "SERVER") (page_of p) ≡ some (display_of p.server.0)
  unfolding ascii texts label_of value_from is_same beside
  server_beside = by_lines (ascii "SERVER") p (ap some (flushed _ (display_visible p.server.0)))

  events_beside : shown (ascii "EVENTS") (page_of p) ≡ some (decimal_text p.events)
  unfolding ascii texts label_of value_from is_same beside
  events_beside = by_lines (ascii "EVENTS") p (ap some (flushed _ (decimal_visible p.events)))

  stalls_beside : shown (ascii "STALLS") (page_of p) ≡ some (decimal_text p.stalls)
  unfolding ascii texts label_of value_from is_same beside
  stalls_beside = by_lines (ascii "STALLS") p (ap some (flushed _ (decimal_visible p.stalls)))

  state_beside : shown (ascii "STATE") (page_of p) ≡ some (state_name p.state)
  unfolding ascii texts label_of value_from is_same beside
  state_beside = by_lines (ascii "STATE") p (ap some (flushed _ (state_visible p.state)))

-- a position that is shown
position_shown : (label page : List ℕ) (v : ℕ) → v < 2 ^ 64 → shown label page ≡ some (display_of v) → shown_position label page ≡ some v
position_shown label page v h e = ap (λ (t : Option (List ℕ)). and_then t position_in) e ∙ read_position v h

number_shown : (label page : List ℕ) (v : ℕ) → v < 2 ^ 64 → shown label page ≡ some (decimal_text v) → shown_number label page ≡ some v
number_shown label page v h e = rw e (ap some (text_laws.decimal_spells v (omega arith)))

-- a hyphen is no position
hyphen : position_in (ascii "-") ≡ none
unfolding ascii position_of index_of
hyphen = refl

hyphen_shown : (label page : List ℕ) → shown label page ≡ some (ascii "-") → shown_position label page ≡ none
hyphen_shown label page e = ap (λ (t : Option (List ℕ)). and_then t position_in) e ∙ hyphen

pub page_reads_back : PageReadsBack
page_reads_back p h =
    record {
      position = position_shown _ _ _ h.position (position_beside p);
      sent = λ t. position_shown _ _ _ h.confirmed (sent_beside p ∙ rw t);
      unsent = λ t. sent_beside p ∙ rw t;
      no_position = λ t. hyphen_shown _ _ (sent_beside p ∙ rw t);
      server = position_shown _ _ _ h.server (server_beside p);
      events = number_shown _ _ _ h.events (events_beside p);
      stalls = number_shown _ _ _ h.stalls (stalls_beside p);
      state = state_beside p;
    }

-- ---- the screen

on_screen : (s rest : List ℕ) → Within 32 s → OnScreen rest → OnScreen (s ++ rest)
on_screen [] rest h k = k
on_screen (c ∷ s) rest h k = ((λ n. h.0), on_screen s rest h.1 k)

line_on_screen : (label value rest : List ℕ) → is_visible label ≡ true → Within 33 value → OnScreen rest → OnScreen (line_of label value ++ rest)
unfolding line_of
line_on_screen label value rest h k o =
    let e : (flush_left 12 label ++ (flush_right 20 value ++ (10 ∷ []))) ++ rest ≡ line_text label value ++ (10 ∷ rest) = simp append_assoc in
    rw e (on_screen (line_text label value) (10 ∷ rest) (text_within label value (visible label h) k) ((λ n. absurd (n refl)), o))

page_on_screen : (p : Page) → OnScreen (page_of p)
unfolding ascii is_visible page_of
page_on_screen p =
    line_on_screen (ascii "POSITION") _ _ refl (display_visible p.position.0)
    (line_on_screen (ascii "SENT") _ _ refl (sent_visible p.sent p.confirmed.0)
    (line_on_screen (ascii "SERVER") _ _ refl (display_visible p.server.0)
    (line_on_screen (ascii "EVENTS") _ _ refl (decimal_visible p.events)
    (line_on_screen (ascii "STALLS") _ _ refl (decimal_visible p.stalls)
    (rw (← append-nil (line_of (ascii "STATE") (state_name p.state))) (line_on_screen (ascii "STATE") _ [] refl (state_visible p.state) tt))))))

pub page_fits_screen : PageFitsScreen
unfolding ascii texts
page_fits_screen p h =
    let a = length_text (ascii "POSITION") (display_of p.position.0) (omega arith) (omega (arith, display_short p.position.0 h.position)) in
    let s = sent_short p.sent p.confirmed.0 h.confirmed in
    let b = length_text (ascii "SENT") (sent_text p.sent p.confirmed.0) (omega arith) (omega (arith, s)) in
    let c = length_text (ascii "SERVER") (display_of p.server.0) (omega arith) (omega (arith, display_short p.server.0 h.server)) in
    let d = length_text (ascii "EVENTS") (decimal_text p.events) (omega arith) (numeral_length 10 20 p.events) in
    let e = length_text (ascii "STALLS") (decimal_text p.stalls) (omega arith) (numeral_length 10 20 p.stalls) in
    let f = length_text (ascii "STATE") (state_name p.state) (omega arith) (omega (arith, state_short p.state)) in
    record { bytes = length_page p h; lines = rw (page_lines p) (simp (a, b, c, d, e, f)); on_screen = page_on_screen p }

pub values_fit : ValuesFit
unfolding numeral
values_fit =
    record {
      position = display_short;
      count = λ v. numeral_length 10 20 v;
      largest_count = refl;
      state = state_short;
      line = length_line;
    }
