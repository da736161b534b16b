-- Laws of the inner functions: one column and many, a Relation, one message, a column that is told.
use mathlib.Core.Path.{◌≡◌, refl, sym, ap, ◌∙◌}
use mathlib.Core.Bool.{Bool, true, false}
use mathlib.Core.List.{List, [], ◌∷◌}
use mathlib.Core.Option.{Option, some, none}
use Prim.Native.Nat.{ℕ, zero, suc, ◌+◌, ◌*◌, ◌-◌, ◌<◌, ◌≤◌, min, max}
use native.Mathlib.Omega.{arith}
use native.Mathlib.Numerals.{add-one}
use lib.ListN.{length, take, get_or, set, length-take, length-drop}
use lib.Seq.{get_or-set_other}
use lib.IntN.{ℤ}
use lib.Dec.{eqb, leb}
use borrow.Author.Tests.{eqb-true, leb-true, le-leb, lt-leb}
use Rattle.wire.specs.Bytes.{pick, at, put, placed}
use Rattle.wire.proofs.Laws.{impossible, by_test}
use Rattle.rows.specs.Rows.{Described, described, Row, relation, type, origin, insert, update, update_from, delete, truncate, Said, row, no_row, refused_by, row_said}
use Rattle.rows.specs.Head.{Answer, head, head_of, answer_of, refusal}
use Rattle.relations.specs.Cache.{is_key, fits, first_of, judged, answered}
use Rattle.relations.specs.Memory.{Memory, slot_in, count_at, count_in, count_held, place_of, judged_by, described_from, message_of as former_message}
use Rattle.relations.specs.Answers.{Told, answer_as, related_of, head_judged}
use Rattle.relations.proofs.Messages.{Relation, other_answered}
use Rattle.column_word.specs.Word.{word_of, column_in}
use Rattle.packed_relations.specs.Packed.{Words, Packed, words_of, packed, common, room_in, len_of, lens_from, slot_lens, new_lens, next_slot, lens_before, own_lens, later_lens, lie_in, has_room_for, word_column, word_at, place_words, place_slots, moved, store_word, store_words, judged_in, leaves, message_of, told_of, column_told, made_room, kept}

-- ---- one column

part_length : (s : List ℕ) (from len : ℕ) → from + len ≤ length s → length (at s from len) ≡ len
part_length s from len h = simp (length-take, length-drop) (omega arith)

pub stored_word : (i place flag oid : ℕ) (s : List ℕ) (from len : ℕ) (w₀ n₀ : List ℕ) {w n : List ℕ} {r x : ℕ} (p : List ℕ) → from + len ≤ length s
    → x ≡ word_of (word_column (is_key flag) oid len place) → w ≡ set w₀ i x → (r, n) ≡ placed n₀ place p → p ≡ at s from len
    → words_of w n ≡ store_word i place flag (at s from len) oid (words_of w₀ n₀)
stored_word i place flag oid s from len w₀ n₀ {w} {n} {r} {x} p h ex ew en ep =
    let en' : n ≡ (placed n₀ place (at s from len)).1 = ap (λ (y : ℕ × List ℕ). y.1) en ∙ ap (λ (q : List ℕ). (placed n₀ place q).1) ep in
    rw (ew, ex, en', part_length s from len h)

store_next : (i place flags : ℕ) (v : List ℕ) (oid : ℕ) (modifier : ℤ) (ds : List Described) (c : Words)
    → store_words i place (described flags v oid modifier ∷ ds) c ≡ store_words (i + 1) (place + length v) ds (store_word i place flags v oid c)
unfolding store_words
store_next i place flags v oid modifier ds c = rw (add-one i)

pub store_turn : (first k place len : ℕ) (all : Words) (ds rest : List Described) (flags : ℕ) (v : List ℕ) (oid : ℕ) (modifier : ℤ) (c c' : Words)
    → all ≡ store_words (first + k) place ds c → len ≡ length v
    → ds ≡ described flags v oid modifier ∷ rest → c' ≡ store_word (first + k) place flags v oid c
    → all ≡ store_words (first + (k + 1)) (place + len) rest c'
store_turn first k place len all ds rest flags v oid modifier c c' h l e st =
    let y : first + k + 1 ≡ first + (k + 1) = omega arith in
    h ∙ rw (e, st, l, ← y) (store_next (first + k) place flags v oid modifier rest c)

pub store_none : (i place : ℕ) (c : Words) → store_words i place [] c ≡ c
unfolding store_words
store_none i place c = refl

-- ---- where names lie

pub lens_turn : (ws : List ℕ) (first k n sum all x : ℕ) → k < n → all ≡ sum + lens_from ws (first + k) (n - k) → x ≡ len_of (get_or ws (first + k) 0)
    → all ≡ (sum + x) + lens_from ws (first + (k + 1)) (n - (k + 1))
unfolding lens_from
lens_turn ws first k n sum all x h e ex =
    let z : n - k ≡ suc (n - (k + 1)) = omega arith in
    let y : suc (first + k) ≡ first + (k + 1) = omega arith in
    let e' : all ≡ sum + (len_of (get_or ws (first + k) 0) + lens_from ws (suc (first + k)) (n - (k + 1))) = rw z at e in
    let e'' : all ≡ sum + (len_of (get_or ws (first + k) 0) + lens_from ws (first + (k + 1)) (n - (k + 1))) = rw y at e' in
    omega (arith, e'', ex)

pub lens_frame : (ws ws' : List ℕ) (n i : ℕ) → ((j : ℕ) → i ≤ j → get_or ws' j 0 ≡ get_or ws j 0) → lens_from ws' i n ≡ lens_from ws i n
unfolding lens_from
lens_frame ws ws' zero i h = refl
lens_frame ws ws' (suc n) i h = rw (h i (omega arith), lens_frame ws ws' n (suc i) (λ j g. h j (omega arith)))

pub lens_done : (ws : List ℕ) (first k n : ℕ) → n ≤ k → lens_from ws (first + k) (n - k) ≡ 0
unfolding lens_from
lens_done ws first k n h = let z : n - k ≡ 0 = omega arith in rw z

pub slots_turn : (counts ws : List ℕ) (first k n sum all x : ℕ) → k < n → all ≡ sum + slot_lens counts ws (first + k) (n - k)
    → x ≡ lens_from ws (32 * (first + k)) (count_at counts (first + k))
    → all ≡ (sum + x) + slot_lens counts ws (first + (k + 1)) (n - (k + 1))
unfolding slot_lens
slots_turn counts ws first k n sum all x h e ex =
    let z : n - k ≡ suc (n - (k + 1)) = omega arith in
    let y : suc (first + k) ≡ first + (k + 1) = omega arith in
    let g : ℕ = lens_from ws (32 * (first + k)) (count_at counts (first + k)) in
    let e' : all ≡ sum + (g + slot_lens counts ws (suc (first + k)) (n - (k + 1))) = rw z at e in
    let e'' : all ≡ sum + (g + slot_lens counts ws (first + (k + 1)) (n - (k + 1))) = rw y at e' in
    omega (arith, e'', ex)

pub slots_done : (counts ws : List ℕ) (first k n : ℕ) → n ≤ k → slot_lens counts ws (first + k) (n - k) ≡ 0
unfolding slot_lens
slots_done counts ws first k n h = let z : n - k ≡ 0 = omega arith in rw z

pub new_turn : (sum all x : ℕ) (ds rest : List Described) (flags : ℕ) (v : List ℕ) (oid : ℕ) (modifier : ℤ) → all ≡ sum + new_lens ds
    → ds ≡ described flags v oid modifier ∷ rest → x ≡ length v → all ≡ (sum + x) + new_lens rest
unfolding new_lens
new_turn sum all x ds rest flags v oid modifier h e l =
    let h' : all ≡ sum + (length v + new_lens rest) = rw e at h in
    omega (arith, h', l)

pub new_none : new_lens [] ≡ 0
unfolding new_lens
new_none = refl

pub words_turn : (first k n place x w y : ℕ) (all ws ws' : List ℕ) → k < n → all ≡ place_words (first + k) (n - k) place ws
    → w ≡ get_or ws (first + k) 0 → x ≡ len_of w → y ≡ word_at place w → ws' ≡ set ws (first + k) y
    → all ≡ place_words (first + (k + 1)) (n - (k + 1)) (place + x) ws'
unfolding place_words
words_turn first k n place x w y all ws ws' h e ew ex ey es =
    let z : n - k ≡ suc (n - (k + 1)) = omega arith in
    let q : suc (first + k) ≡ first + (k + 1) = omega arith in
    e ∙ rw (z, ← q, es, ey, ex, ew)

pub lens_kept : (first k n place x w start all : ℕ) (ws ws' : List ℕ) → k < n → all ≡ place + lens_from ws (first + k) (n - k)
    → w ≡ get_or ws (first + k) 0 → x ≡ len_of w → ws' ≡ set ws (first + k) start → all ≡ (place + x) + lens_from ws' (first + (k + 1)) (n - (k + 1))
lens_kept first k n place x w start all ws ws' h e ew ex es =
    let f : lens_from (set ws (first + k) start) (first + (k + 1)) (n - (k + 1)) ≡ lens_from ws (first + (k + 1)) (n - (k + 1)) =
    lens_frame ws (set ws (first + k) start) (n - (k + 1)) (first + (k + 1)) (λ j g. get_or-set_other ws (first + k) j start 0 (λ y. omega arith)) in
    lens_turn ws first k n place all x h e (ex ∙ ap len_of ew) ∙ rw (es, f)

pub words_done : (first k n place : ℕ) (ws : List ℕ) → n ≤ k → place_words (first + k) (n - k) place ws ≡ ws
unfolding place_words
words_done first k n place ws h = let z : n - k ≡ 0 = omega arith in rw z

pub place_turn : (counts : List ℕ) (first k n place place' : ℕ) (all ws ws' : List ℕ) → k < n → all ≡ place_slots counts (first + k) (n - k) place ws
    → ws' ≡ place_words (32 * (first + k)) (count_at counts (first + k)) place ws
    → place' ≡ place + lens_from ws (32 * (first + k)) (count_at counts (first + k))
    → all ≡ place_slots counts (first + (k + 1)) (n - (k + 1)) place' ws'
unfolding place_slots
place_turn counts first k n place place' all ws ws' h e es ep =
    let z : n - k ≡ suc (n - (k + 1)) = omega arith in
    let y : suc (first + k) ≡ first + (k + 1) = omega arith in
    e ∙ rw (z, ← y, es, ep)

pub place_done : (counts : List ℕ) (first k n place : ℕ) (ws : List ℕ) → n ≤ k → place_slots counts (first + k) (n - k) place ws ≡ ws
unfolding place_slots
place_done counts first k n place ws h = let z : n - k ≡ 0 = omega arith in rw z

pub lie_fits : (room before own later new : ℕ) → true ≡ lie_in room before own later new → (before + own + later ≤ room) × (before + new + later ≤ room)
unfolding lie_in
lie_fits room before own later new h =
    by_test (leb (before + own + later) room)
    (λ t. (leb-true (before + own + later) room t, leb-true (before + new + later) room (sym (h ∙ rw t))))
    (λ f. let z : true ≡ false = h ∙ rw f in let y : ◌≡◌ {A = ℕ} 0 1 = cc in impossible y)

-- room for the names of slot r, by its parts
module _ (held r new : ℕ) (ids counts words names : List ℕ) (slots next place own later room : ℕ) (es : slots ≡ min held 64) (en : next ≡ min (r + 1) slots) (ep : place ≡ slot_lens counts words 0 r) (eo : own ≡ slot_lens counts words r (next - r)) (el : later ≡ slot_lens counts words next (slots - next)) (er : room ≡ min (length names) 129024) where
  abbrev q : Packed
  q = packed held ids counts (words_of words names)

  next_is : next_slot q r ≡ next
  next_is = omega (arith, es, en)

  own_is : own ≡ own_lens q r
  own_is = eo ∙ ap (λ (y : ℕ). slot_lens counts words r (y - r)) (sym next_is)

  later_is : later ≡ later_lens q r
  later_is =
      el
      ∙ ap (λ (y : ℕ). slot_lens counts words y (slots - y)) (sym next_is)
      ∙ ap (λ (y : ℕ). slot_lens counts words (next_slot q r) (y - next_slot q r)) es

  has : lie_in room place own later new ≡ has_room_for q r new
  has = rw (ep, own_is, later_is, er)

  pub made_not : false ≡ lie_in room place own later new → (none, words_of words names) ≡ made_room q r new
  unfolding made_room
  made_not f = let h : has_room_for q r new ≡ false = sym has ∙ sym f in rw h

  moved_is : moved q r new ≡ words_of (place_slots counts next (slots - next) (place + new) words) (put names (place + new) (at names (place + own) later))
  moved_is = rw (← ep, ← own_is, ← later_is, next_is, ← es)

  pub made : true ≡ lie_in room place own later new → {w n : List ℕ} → n ≡ put names (place + new) (at names (place + own) later)
      → w ≡ place_slots counts next (slots - next) (place + new) words → (some place, words_of w n) ≡ made_room q r new
  unfolding made_room
  made f {w} {n} gn gw =
      let h : has_room_for q r new ≡ true = sym has ∙ sym f in
      let x : ◌≡◌ {A = Option ℕ × Words} (some place, words_of w n) (some place, moved q r new) =
      rw (gn, gw) (ap (λ (y : Words). (some place, y)) (sym moved_is)) in
      x ∙ rw (h, ep)

-- ---- a column that is told

module _ (held : ℕ) (ids counts : List ℕ) (id : ℕ) (s : Words) (index : ℕ) where
  abbrev Tells : Option Told → Type 0
  Tells x = x ≡ column_told (packed held ids counts s) id index

  pub told_full : (r : ℕ) → r ≡ place_of id (take held ids) → 64 ≤ r → Tells none
  told_full r e h = rw (← e, le-leb 64 r h)

  module _ (r : ℕ) (e : r ≡ place_of id (take held ids)) (h : r < 64) where
    pub told_none : none ≡ count_held held ids counts id → Tells none
    told_none g = rw (← g, ← e, lt-leb 64 r h)

    pub told_out : (k : ℕ) → some k ≡ count_held held ids counts id → k ≤ index → Tells none
    told_out k g m = rw (← g, ← e, lt-leb 64 r h, le-leb k index m)

    pub told_at : (k : ℕ) → some k ≡ count_held held ids counts id → index < k → {x : Option Told}
        → x ≡ some (told_of (room_in s.names) (column_in (get_or s.words (32 * r + index) 0))) → Tells x
    told_at k g m y = rw (← g, ← e, lt-leb 64 r h, lt-leb k index m) y

-- ---- a Relation

none_picked : (t : Bool) (x : ℕ) → none ≡ pick t (some x) none → t ≡ false
none_picked true x h = impossible cc
none_picked false x h = refl

some_picked : (t : Bool) (x y : ℕ) → some y ≡ pick t (some x) none → (t ≡ true) × (y ≡ x)
some_picked true x y h = (refl, cc)
some_picked false x y h = impossible cc

module _ (p : Packed) (id : ℕ) (ds : List Described) (r : ℕ) (e : r ≡ slot_in (common p) id) where
  pub kept_full : 64 ≤ r → (28, p) ≡ kept p id ds
  unfolding kept
  kept_full h = rw (← e, le-leb 64 r h)

  module _ (h : r < 64) where
    pub kept_large : false ≡ fits ds → (29, p) ≡ kept p id ds
    unfolding kept
    kept_large f = rw (← e, lt-leb 64 r h, ← f)

    module _ (f : true ≡ fits ds) {c : Words} where
      pub kept_crowded : (none, c) ≡ made_room p r (new_lens ds) → (4, packed p.held p.ids p.counts c) ≡ kept p id ds
      unfolding kept made_room
      kept_crowded m =
          let b : has_room_for p r (new_lens ds) ≡ false = none_picked _ (lens_before p r) (ap (λ (x : Option ℕ × Words). x.0) m) in
          let s : c ≡ p.columns = ap (λ (x : Option ℕ × Words). x.1) m ∙ rw b in
          rw (← e, lt-leb 64 r h, ← f, b, s)

      pub kept_stored : {place : ℕ} → (some place, c) ≡ made_room p r (new_lens ds) → (n : ℕ) → length ds ≡ n → {h' : ℕ} {ids' counts' : List ℕ} {c' : Words}
          → h' ≡ max p.held (r + 1)
          → ids' ≡ set p.ids r id
          → counts' ≡ set p.counts r n → c' ≡ store_words (32 * r) place ds c → (0, packed h' ids' counts' c') ≡ kept p id ds
      unfolding kept made_room
      kept_stored {place} m n l eh ei ec es =
          let w = some_picked (has_room_for p r (new_lens ds)) (lens_before p r) place (ap (λ (x : Option ℕ × Words). x.0) m) in
          let b : has_room_for p r (new_lens ds) ≡ true = w.0 in
          let q : place ≡ lens_before p r = w.1 in
          let s : c ≡ moved p r (new_lens ds) = ap (λ (x : Option ℕ × Words). x.1) m ∙ rw b in
          rw (← e, lt-leb 64 r h, ← f, b, eh, ei, ec, es, q, s, l, add-one r)

-- ---- one message

pub both : {a a' : Answer} {p p' : Packed} → a ≡ a' → p ≡ p' → ◌≡◌ {A = Answer × Packed} (a, p) (a', p')
both e f = rw (e, f)

-- a row that changes nothing
stays : (p : Packed) (r : Row) (j : ℕ) → p ≡ leaves p (row r) → p ≡ leaves p (pick (eqb j 0) (row r) (refused_by j))
stays p r j e = by_test (eqb j 0) (λ t. rw t e) (λ f. rw f)

left_alone : (p : Packed) (said : Said) → none ≡ related_of (answer_of said) → p ≡ leaves p (answered (judged_in p) said)
left_alone p (row (relation id space v identity cs)) e = let z : ◌≡◌ {A = ℕ} 0 1 = cc in impossible z
left_alone p (row (type id space v)) e = stays p (type id space v) (judged_in p (type id space v)) refl
left_alone p (row (origin position v)) e = stays p (origin position v) (judged_in p (origin position v)) refl
left_alone p (row (insert id new)) e = stays p (insert id new) (judged_in p (insert id new)) refl
left_alone p (row (update id new)) e = stays p (update id new) (judged_in p (update id new)) refl
left_alone p (row (update_from id which old new)) e = stays p (update_from id which old new) (judged_in p (update_from id which old new)) refl
left_alone p (row (delete id which old)) e = stays p (delete id which old) (judged_in p (delete id which old)) refl
left_alone p (row (truncate options ids)) e = stays p (truncate options ids) (judged_in p (truncate options ids)) refl
left_alone p no_row e = refl
left_alone p (refused_by n) e = refl

-- what is refused beside a Relation is refused alike
by_zero : (j : ℕ) (r : Row)
    → pick (eqb (first_of j 0) 0) (row r) (refused_by (first_of j 0)) ≡ pick (eqb j 0) (row r) (refused_by j)
by_zero j r = by_test (eqb j 0) (λ t. let z : j ≡ 0 = eqb-true j 0 t in rw z) (λ f. rw (f, f))

pub same_answered : (p : Packed) (said : Said) → none ≡ related_of (answer_of said) → answered (judged_in p) said ≡ answered (judged_by (common p)) said
same_answered p (row (relation id space v identity cs)) e = let z : ◌≡◌ {A = ℕ} 0 1 = cc in impossible z
same_answered p (row (type id space v)) e = by_zero (judged_by (common p) (type id space v)) (type id space v)
same_answered p (row (origin position v)) e = by_zero (judged_by (common p) (origin position v)) (origin position v)
same_answered p (row (insert id new)) e = by_zero (judged_by (common p) (insert id new)) (insert id new)
same_answered p (row (update id new)) e = by_zero (judged_by (common p) (update id new)) (update id new)
same_answered p (row (update_from id which old new)) e =
    by_zero (judged_by (common p) (update_from id which old new)) (update_from id which old new)
same_answered p (row (delete id which old)) e = by_zero (judged_by (common p) (delete id which old)) (delete id which old)
same_answered p (row (truncate options ids)) e = by_zero (judged_by (common p) (truncate options ids)) (truncate options ids)
same_answered p no_row e = refl
same_answered p (refused_by n) e = refl

pub other_left : (p : Packed) (said : Said) → none ≡ related_of (answer_of said)
    → (answer_as (head_judged (count_in (common p)) (answer_of said)) (answer_of said), p) ≡ message_of p said
unfolding message_of former_message
other_left p said e =
    both (ap (λ (x : Answer × Memory). x.0) (other_answered (common p) said e) ∙ ap answer_of (sym (same_answered p said e))) (left_alone p said e)

-- the same of what the code reads, by the number that the cache gives
pub read_left : (p : Packed) (said : Said) {h : ℕ} {i k : List ℕ} → h ≡ p.held → i ≡ p.ids → k ≡ p.counts → {x : Answer} → x ≡ answer_of said
    → none ≡ related_of x → {w : ℕ} → w ≡ head_judged (count_held h i k) x → (answer_as w x, p) ≡ message_of p said
read_left p said eh ei ek e n g = rw (g, eh, ei, ek, e) (other_left p said (rw e at n))

-- data that are refused
pub refused_left : (p : Packed) (said : Said) {n : ℕ} → refusal n ≡ answer_of said → (refusal n, p) ≡ message_of p said
refused_left p said e = read_left p said refl refl refl e refl refl

-- what a Relation is answered, by what is kept of it
kept_answered : (p : Packed) (id : ℕ) (space v : List ℕ) (identity : ℕ) (cs : List Described)
    → (answer_as (kept p id cs).0 (head (head_of (relation id space v identity cs))), (kept p id cs).1)
    ≡ message_of p (row (relation id space v identity cs))
unfolding message_of kept judged
kept_answered p id space v identity cs =
    by_test (leb 64 (slot_in (common p) id))
    (λ t. rw t)
    (λ f.
    by_test (fits cs)
    (λ t. by_test (has_room_for p (slot_in (common p) id) (new_lens cs)) (λ y. rw (f, t, y)) (λ n. rw (f, t, n)))
    (λ g. rw (f, g)))

pub relation_left : (s : List ℕ) (p : Packed) {id n from : ℕ} → Relation s id n from → (w : ℕ) (p' : Packed)
    → (w, p') ≡ kept p id (described_from s n from)
    → (answer_as w (answer_of (row_said s)), p') ≡ message_of p (row_said s)
relation_left s p {id} r w p' h =
    let k : (w, p') ≡ kept p id r.described = rw r.read at h in
    let a : w ≡ (kept p id r.described).0 = ap (λ (x : ℕ × Packed). x.0) k in
    let b : p' ≡ (kept p id r.described).1 = ap (λ (x : ℕ × Packed). x.1) k in
    rw (r.said, a, b) (kept_answered p id r.space r.name r.identity r.described)

-- the same of what the code reads
pub kept_left : (s : List ℕ) (p : Packed) {id n from : ℕ} → Relation s id n from → {x : Answer} → x ≡ answer_of (row_said s) → {w : ℕ} {p' : Packed}
    → (w, p') ≡ kept p id (described_from s n from)
    → (answer_as w x, p') ≡ message_of p (row_said s)
kept_left s p r e h = rw e (relation_left s p r _ _ h)
