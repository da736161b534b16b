-- A Relation that is stored: the words and names say what is held then.
use mathlib.Core.Path.{◌≡◌, refl, sym, ap, subst, ◌∙◌}
use mathlib.Core.Bool.{true, false}
use mathlib.Core.List.{List, [], ◌∷◌, ◌++◌, map, append_assoc}
use mathlib.Core.Logic.{◌⊎◌, inl, inr}
use Prim.Native.Nat.{ℕ, suc, ◌+◌, ◌*◌, ◌-◌, ◌<◌, ◌≤◌, min}
use native.Mathlib.Omega.{arith}
use lib.ListN.{length, take, drop, get_or, set, length-take, length-drop, length-append, length-map}
use lib.Seq.{get_or-set_same, get_or-set_other, take_at, drop_at, take-append-le, take-take, drop-append_seam}
use lib.Dec.{leb}
use borrow.Author.Tests.{le-leb, lt-leb, leb-true}
use Rattle.wire.specs.Bytes.{at, put, placed}
use Rattle.wire.proofs.Laws.{impossible, put_none, put_next, length_put}
use Rattle.rows.specs.Layout.{All}
use Rattle.rows.specs.Rows.{Described, described}
use Rattle.rows.specs.RowLayout.{DescribedFits}
use Rattle.relations.specs.Cache.{Column, column_of, Cache, is_key, names_fit, fits}
use Rattle.column_word.specs.Word.{word_of}
use Rattle.relations.specs.Memory.{Memory, held_ids, slot_in, relations_from, cache_of, count_at, place_of, stored as former_stored}
use Rattle.relations.specs.Laws.{Sized}
use Rattle.relations.proofs.Leaves.{fits_few}
use Rattle.relations.proofs.Held.{length_relations, stored_sized, stored_supersedes}
use Rattle.packed_relations.specs.Packed.{Words, Packed, words_of, packed, room_in, held_slots, next_slot, lens_before, own_lens, later_lens, new_lens, slot_lens, lie_in, has_room_for, word_column, place_slots, moved, store_words, stored}
use Rattle.packed_relations.specs.Laws.{column_names, cache_names}
use Rattle.packed_relations.proofs.Says.{SlotsSay, ColsSay, slots_lens, slots_most, new_most, new_names, names_append, says_split, says_join, slots_frame, place_slots_other, place_slots_long, place_says, store_long, store_other, store_says, ids_of, Split, split}

-- ---- names

-- bytes that make room for others, and these put there
module _ (nf no nl rest new ns : List ℕ) (e : ns ≡ nf ++ (no ++ (nl ++ rest))) (h : length nf + length new + length nl ≤ length ns) where
  later_there : at ns (length nf + length no) (length nl) ≡ nl
  later_there =
      let l : length (nf ++ no) ≡ length nf + length no = length-append nf no in
      let e' : ns ≡ (nf ++ no) ++ (nl ++ rest) = e ∙ sym (append_assoc nf no (nl ++ rest)) in
      rw e' (ap (take (length nl)) (drop_at (nf ++ no) (nl ++ rest) (length nf + length no) l) ∙ take_at nl rest (length nl) refl)

  pub replaced : put (put ns (length nf + length new) (at ns (length nf + length no) (length nl))) (length nf) new
      ≡ nf ++ (new ++ (nl ++ drop (length nf + length new + length nl) ns))
  unfolding put
  replaced =
      let tail : List ℕ = nl ++ drop (length nf + length new + length nl) ns in
      let d : List ℕ = take (length nf + length new) ns ++ tail in
      let l : length (take (length nf + length new) ns) ≡ length nf + length new = omega (arith, length-take (length nf + length new) ns) in
      let x : take (length nf) d ≡ nf =
      take-append-le (length nf) (take (length nf + length new) ns) tail (omega (arith, l))
      ∙ take-take (length nf) (length nf + length new) ns (omega arith)
      ∙ ap (take (length nf)) e
      ∙ take_at nf (no ++ (nl ++ rest)) (length nf) refl in
      let y : drop (length nf + length new) d ≡ tail = drop_at (take (length nf + length new) ns) tail (length nf + length new) l in
      rw (later_there, x, y)

placed_is : (d : List ℕ) (i : ℕ) (v : List ℕ) → i + length v ≤ length d → (placed d i v).1 ≡ put d i v
unfolding placed
placed_is d i v h = rw (le-leb (i + length v) (length d) h)

-- the names of columns that are stored are put one after the other
pub store_names : (ds : List Described) (i place : ℕ) (s : Words) → place + new_lens ds ≤ length s.names
    → (store_words i place ds s).names ≡ put s.names place (column_names (map column_of ds))
unfolding store_words new_lens column_names
store_names [] i place s h = sym (put_none s.names place)
store_names (described flags v oid modifier ∷ ds) i place s h =
    let here : place + length v ≤ length s.names = omega arith in
    let l : length (put s.names place v) ≡ length s.names = length_put s.names v place here in
    let ws : List ℕ = set s.words i (word_of (word_column (is_key flags) oid (length v) place)) in
    ap (λ (q : List ℕ). (store_words (suc i) (place + length v) ds (words_of ws q)).names) (placed_is s.names place v here)
    ∙ store_names ds (suc i) (place + length v) (words_of ws (put s.names place v)) (omega (arith, l))
    ∙ put_next s.names v (column_names (map column_of ds)) place (length v) refl here

-- ---- what a memory holds, as words and names say it

-- the packed memory with these words and names
abbrev pub view : Memory → List ℕ → List ℕ → Packed
view m ws ns = packed m.held m.ids m.counts (words_of ws ns)

pub record Good (m : Memory) (ws ns : List ℕ) : Type 0 where
  pub sized : Sized m
  pub long : length ws ≡ 2048
  pub says : SlotsSay m.counts ws 0 0 (cache_of m)
  pub rest : List ℕ
  pub names : ns ≡ cache_names (cache_of m) ++ rest
  pub few : length (cache_names (cache_of m)) ≤ 129024

pub ids_are : (m : Memory) (l : List ℕ) (r : ℕ) → ids_of (relations_from m r l) ≡ l
unfolding relations_from
ids_are m [] r = refl
ids_are m (j ∷ l) r = ap (λ (x : List ℕ). j ∷ x) (ids_are m l (suc r))

-- a slot after one that is held, or after the last
at_next : (counts ws : List ℕ) (r o place : ℕ) (a : Cache) → ((o ≡ 0) × (length a ≡ 0)) ⊎ (o ≡ 1) → SlotsSay counts ws (r + o) place a
    → SlotsSay counts ws (suc r) place a
unfolding SlotsSay
at_next counts ws r o place [] h s = tt
at_next counts ws r o place (one ∷ a) (inl h) s = impossible (omega (arith, h.1))
at_next counts ws r o place (one ∷ a) (inr h) s = let z : r + o ≡ suc r = omega arith in rw z at s

module _ (m : Memory) (ws ns : List ℕ) (g : Good m ws ns) (id : ℕ) (ds : List Described) (room : slot_in m id < 64) where
  abbrev pub r : ℕ
  r = slot_in m id

  abbrev pub cs : List Column
  cs = map column_of ds

  abbrev pub n : ℕ
  n = new_lens ds

  pub x : Split id cs (cache_of m)
  x = split id cs (cache_of m)

  abbrev pub p : Packed
  p = view m ws ns

  -- the lengths of names before, of its own, and of later ones
  abbrev pub B : ℕ
  B = length (cache_names x.front)

  abbrev pub W : ℕ
  W = length (cache_names x.own)

  abbrev pub T : ℕ
  T = length (cache_names x.later)

  at_r : r ≡ length x.front
  at_r = ap (place_of id) (sym (ids_are m (held_ids m) 0)) ∙ x.place

  slots_are : min m.held 64 ≡ length x.front + (length x.own + length x.later)
  slots_are =
      let a = length-append x.front (x.own ++ x.later) in
      let b = length-append x.own x.later in
      let c = ap (λ (y : Cache). length y) x.whole in
      omega (arith, a, b, c, length_relations m (held_ids m) 0, length-take m.held m.ids, g.sized.ids)

  next_is : next_slot p r ≡ r + length x.own
  next_is = by x.either
    where
      by : ((length x.own ≡ 0) × (length x.later ≡ 0)) ⊎ (length x.own ≡ 1) → next_slot p r ≡ r + length x.own
      by (inl h) = omega (arith, h.0, h.1, at_r, slots_are)
      by (inr h) = omega (arith, h, at_r, slots_are)

  own_count : next_slot p r - r ≡ length x.own
  own_count = omega (arith, next_is)

  later_count : held_slots p - next_slot p r ≡ length x.later
  later_count = omega (arith, next_is, at_r, slots_are)

  -- what the words say of each part
  parts : SlotsSay m.counts ws 0 0 x.front × SlotsSay m.counts ws (0 + length x.front) (0 + B) (x.own ++ x.later)
  parts = says_split m.counts ws (x.own ++ x.later) x.front 0 0 (rw x.whole at g.says)

  parts_at : SlotsSay m.counts ws r B (x.own ++ x.later)
  parts_at = let z : 0 + length x.front ≡ r = omega (arith, at_r) in let y : 0 + B ≡ B = omega arith in rw (z, y) at parts.1

  parts_behind : SlotsSay m.counts ws r B x.own × SlotsSay m.counts ws (r + length x.own) (B + W) x.later
  parts_behind = says_split m.counts ws x.later x.own r B parts_at

  before_is : lens_before p r ≡ B
  before_is = ap (slot_lens m.counts ws 0) at_r ∙ slots_lens m.counts ws x.front 0 0 parts.0

  own_is : own_lens p r ≡ W
  own_is = ap (slot_lens m.counts ws r) own_count ∙ slots_lens m.counts ws x.own r B parts_behind.0

  later_is : later_lens p r ≡ T
  later_is =
      ap (λ (y : ℕ). slot_lens m.counts ws (next_slot p r) y) later_count
      ∙ ap (λ (y : ℕ). slot_lens m.counts ws y (length x.later)) next_is
      ∙ slots_lens m.counts ws x.later (r + length x.own) (B + W) parts_behind.1

  names_are : ns ≡ cache_names x.front ++ (cache_names x.own ++ (cache_names x.later ++ g.rest))
  names_are =
      let a : cache_names (cache_of m) ≡ cache_names x.front ++ (cache_names x.own ++ cache_names x.later) =
      ap cache_names x.whole
      ∙ names_append x.front (x.own ++ x.later)
      ∙ ap (λ (y : List ℕ). cache_names x.front ++ y) (names_append x.own x.later) in
      g.names ∙ ap (λ (y : List ℕ). y ++ g.rest) a ∙ simp append_assoc

  whole_length : length (cache_names (cache_of m)) ≡ B + (W + T)
  whole_length =
      ap (λ (y : Cache). length (cache_names y)) x.whole
      ∙ ap (λ (y : List ℕ). length y) (names_append x.front (x.own ++ x.later))
      ∙ length-append (cache_names x.front) (cache_names (x.own ++ x.later))
      ∙ ap (λ (y : ℕ). B + y) (ap (λ (y : List ℕ). length y) (names_append x.own x.later) ∙ length-append (cache_names x.own) (cache_names x.later))

  -- those that are held lie in what is lent
  held_fit : B + W + T ≤ room_in ns
  held_fit =
      let a : length ns ≡ length (cache_names (cache_of m)) + length g.rest =
      ap (λ (y : List ℕ). length y) g.names ∙ length-append (cache_names (cache_of m)) g.rest in
      omega (arith, whole_length, a, g.few)

  pub room_is : has_room_for p r n ≡ leb (B + n + T) (room_in ns)
  unfolding lie_in
  room_is = rw (before_is, own_is, later_is, le-leb _ _ held_fit)

  -- with all bytes that the former layout has for names there is room
  pub always : fits ds ≡ true → B + n + T ≤ 129024
  always f =
      let few = fits_few ds (sym f) in
      let a = slots_most m.counts ws (length x.front) 0 in
      let b = slots_lens m.counts ws x.front 0 0 parts.0 in
      let c = slots_most m.counts ws (length x.later) (r + length x.own) in
      let d = slots_lens m.counts ws x.later (r + length x.own) (B + W) parts_behind.1 in
      let most : length x.front + 1 + length x.later ≤ 64 = fewer x.either in
      omega (arith, a, b, c, d, most, few.0, new_most ds few.1)
    where
      fewer : ((length x.own ≡ 0) × (length x.later ≡ 0)) ⊎ (length x.own ≡ 1) → length x.front + 1 + length x.later ≤ 64
      fewer (inl h) = omega (arith, h.1, at_r, room)
      fewer (inr h) = omega (arith, h, slots_are)

  pub full_room : fits ds ≡ true → 129024 ≤ length ns → has_room_for p r n ≡ true
  full_room f h = room_is ∙ le-leb (B + n + T) (room_in ns) (omega (arith, always f))

  pub lies_in : has_room_for p r n ≡ true → B + n + T ≤ room_in ns
  lies_in h = leb-true (B + n + T) (room_in ns) (sym room_is ∙ h)

  n_is : n ≡ length (column_names cs)
  n_is = new_names ds

  module _ (f : fits ds ≡ true) where
    then_is : cache_of (former_stored m r id ds) ≡ x.front ++ ((id, cs) ∷ x.later)
    then_is = stored_supersedes m g.sized id ds room f ∙ x.then

    pub names_held : cache_names (cache_of (former_stored m r id ds)) ≡ cache_names x.front ++ (column_names cs ++ cache_names x.later)
    unfolding cache_names
    names_held = ap cache_names then_is ∙ names_append x.front ((id, cs) ∷ x.later)

    pub held_length : length (cache_names (cache_of (former_stored m r id ds))) ≡ B + n + T
    held_length =
        ap (λ (y : List ℕ). length y) names_held
        ∙ length-append (cache_names x.front) (column_names cs ++ cache_names x.later)
        ∙ ap (λ (y : ℕ). B + y) (length-append (column_names cs) (cache_names x.later))
        ∙ omega (arith, n_is)

    -- what would be held does not lie in what is lent
    pub no_room : room_in ns < length (cache_names (cache_of (former_stored m r id ds))) → has_room_for p r n ≡ false
    no_room h = room_is ∙ lt-leb (B + n + T) (room_in ns) (omega (arith, held_length))

    -- what would be held lies in it
    pub has_room : length (cache_names (cache_of (former_stored m r id ds))) ≤ room_in ns → has_room_for p r n ≡ true
    has_room h = room_is ∙ le-leb (B + n + T) (room_in ns) (omega (arith, held_length))

  module _ (f : fits ds ≡ true) (a : All DescribedFits ds) (lies : B + n + T ≤ room_in ns) where
    few : (length ds ≤ 32) × (names_fit ds ≡ true)
    few = fits_few ds (sym f)

    abbrev pub shifted : Words
    shifted = words_of (place_slots m.counts (r + length x.own) (length x.later) (B + n) ws) (put ns (B + n) (at ns (B + W) T))

    abbrev pub after : Words
    after = store_words (32 * r) B ds shifted

    moved_is : moved p r n ≡ shifted
    moved_is = rw (before_is, own_is, later_is, later_count, next_is)

    pub stored_view : stored p r id ds ≡ view (former_stored m r id ds) after.words after.names
    stored_view = rw (moved_is, before_is)

    names_then : after.names ≡ cache_names x.front ++ (column_names cs ++ (cache_names x.later ++ drop (B + n + T) ns))
    names_then =
        let l : length (put ns (B + n) (at ns (B + W) T)) ≡ length ns =
        length_put ns (at ns (B + W) T) (B + n) (omega (arith, part)) in
        store_names ds (32 * r) B shifted (omega (arith, l))
        ∙ rw n_is
        (replaced (cache_names x.front) (cache_names x.own) (cache_names x.later) g.rest (column_names cs) ns names_are (omega (arith, n_is)))
      where
        part : length (at ns (B + W) T) ≡ T
        part = length-take T (drop (B + W) ns) ∙ ap (min T) (length-drop (B + W) ns) ∙ omega (arith, held_fit)

    -- a word that is not touched
    same_before : (j : ℕ) → j < 32 * r → get_or after.words j 0 ≡ get_or ws j 0
    same_before j h =
        store_other ds (32 * r) B shifted j (inl h)
        ∙ place_slots_other m.counts (length x.later) (r + length x.own) (B + n) ws j (inl (omega arith))

    same_behind : (j : ℕ) → 32 * suc r ≤ j → get_or after.words j 0 ≡ get_or shifted.words j 0
    same_behind j h = store_other ds (32 * r) B shifted j (inr (omega (arith, few.0)))

    other_count : (q : ℕ) → (q ≡ r → ⊥) → get_or (set m.counts r (length ds)) q 0 ≡ get_or m.counts q 0
    other_count q h = get_or-set_other m.counts r q (length ds) 0 h

    fronts : SlotsSay (set m.counts r (length ds)) after.words 0 0 x.front
    fronts =
        slots_frame m.counts (set m.counts r (length ds)) ws after.words x.front 0 0 (λ j b c. same_before j (omega (arith, at_r)))
        (λ q b c. other_count q (λ e. omega (arith, at_r)))
        parts.0

    laters : SlotsSay (set m.counts r (length ds)) after.words (suc r) (B + n) x.later
    laters =
        slots_frame m.counts (set m.counts r (length ds)) shifted.words after.words x.later (suc r) (B + n)
        (λ j b c. same_behind j b)
        (λ q b c. other_count q (λ e. omega arith))
        (at_next m.counts shifted.words r (length x.own) (B + n) x.later x.either
        (place_says m.counts x.later (r + length x.own) (B + W) (B + n) ws (omega (arith, at_r, slots_are, g.long)) (omega (arith, lies))
        parts_behind.1))

    own_columns : ColsSay after.words (32 * r) B cs
    own_columns =
        store_says ds (32 * r) B shifted
        (omega (arith, few.0, g.long, place_slots_long m.counts (length x.later) (r + length x.own) (B + n) ws)) (omega (arith, lies))
        few.1 a

    own_counted : count_at (set m.counts r (length ds)) r ≡ length cs
    own_counted =
        let e : get_or (set m.counts r (length ds)) r 0 ≡ length ds = get_or-set_same m.counts r (length ds) 0 (omega (arith, g.sized.counts, room)) in
        rw e (omega (arith, few.0, length-map ds column_of))

    behind : SlotsSay (set m.counts r (length ds)) after.words r B ((id, cs) ∷ x.later)
    unfolding SlotsSay
    behind = (own_counted, own_columns, rw (← n_is) laters)

    says_then : SlotsSay (set m.counts r (length ds)) after.words 0 0 (x.front ++ ((id, cs) ∷ x.later))
    says_then =
        let z : r ≡ 0 + length x.front = omega (arith, at_r) in
        let y : B ≡ 0 + B = omega arith in
        says_join (set m.counts r (length ds)) after.words ((id, cs) ∷ x.later) x.front 0 0 fronts
        (subst (λ (q : ℕ). SlotsSay (set m.counts r (length ds)) after.words q (0 + B) ((id, cs) ∷ x.later)) z
        (subst (λ (k : ℕ). SlotsSay (set m.counts r (length ds)) after.words r k ((id, cs) ∷ x.later)) y behind))

    names_now : after.names ≡ cache_names (cache_of (former_stored m r id ds)) ++ drop (B + n + T) ns
    names_now = names_then ∙ rw (names_held f) (simp append_assoc)

    pub good_then : Good (former_stored m r id ds) after.words after.names
    good_then = record {
      sized = stored_sized m g.sized r id ds room f;
      long =
          store_long ds (32 * r) B shifted
          ∙ place_slots_long m.counts (length x.later) (r + length x.own) (B + n) ws
          ∙ g.long;
      says = rw (then_is f) says_then;
      rest = drop (B + n + T) ns;
      names = names_now;
      few = omega (arith, held_length f, lies);
    }

    pub long_then : length after.names ≡ length ns
    long_then =
        let a = ap (λ (y : List ℕ). length y) names_then in
        let b = length-append (cache_names x.front) (column_names cs ++ (cache_names x.later ++ drop (B + n + T) ns)) in
        let c = length-append (column_names cs) (cache_names x.later ++ drop (B + n + T) ns) in
        let d = length-append (cache_names x.later) (drop (B + n + T) ns) in
        omega (arith, a, b, c, d, n_is, length-drop (B + n + T) ns, lies)

    -- what stands behind the names stays as it was
    pub behind_then : let held : List ℕ = cache_names (cache_of (former_stored m r id ds)) in
        drop (length held) after.names ≡ drop (length held) ns
    behind_then =
        let held : List ℕ = cache_names (cache_of (former_stored m r id ds)) in
        ap (drop (length held)) names_now
        ∙ drop-append_seam held (drop (B + n + T) ns)
        ∙ ap (λ (k : ℕ). drop k ns) (sym (held_length f))
