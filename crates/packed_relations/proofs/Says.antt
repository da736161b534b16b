-- Words and names that say which relations are held: what is looked up in them, and what stays of them beside what is stored.
use mathlib.Core.Path.{◌≡◌, refl, sym, ap, subst, ◌∙◌}
use mathlib.Core.Bool.{true}
use mathlib.Core.List.{List, [], ◌∷◌, ◌++◌, map, append_assoc}
use mathlib.Core.Option.{some, none}
use mathlib.Core.Logic.{◌⊎◌, inl, inr}
use Prim.Native.Nat.{ℕ, zero, suc, ◌+◌, ◌*◌, ◌-◌, ◌<◌, ◌≤◌, ◌^◌, min}
use native.Mathlib.Omega.{arith}
use lib.ListN.{length, take, get_or, set, length-append, length-set}
use lib.Seq.{get_or-set_same, get_or-set_other, take_at, drop_at}
use lib.Dec.{eqb, leb}
use borrow.Author.Tests.{leb-true, leb-false}
use Rattle.wire.specs.Bytes.{at}
use Rattle.wire.proofs.Laws.{impossible, by_test}
use Rattle.rows.specs.Layout.{All}
use Rattle.rows.specs.Rows.{Described, described}
use Rattle.rows.specs.RowLayout.{DescribedFits}
use Rattle.relations.specs.Cache.{Column, column, column_of, Cache, columns_of, superseded, is_key, names_fit}
use Rattle.relations.specs.Memory.{count_at, place_of}
use Rattle.relations.specs.Laws.{named, nth, column_among}
use Rattle.relations.proofs.Leaves.{name_short}
use Rattle.column_word.specs.Word.{word_of, column_in}
use Rattle.column_word.proofs.Laws.{words}
use Rattle.packed_relations.specs.Packed.{Words, words_of, len_of, lens_from, slot_lens, new_lens, word_column, word_at, place_words, place_slots, store_word, store_words, told_of, told_among}
use Rattle.packed_relations.specs.Laws.{column_names, cache_names}

-- ---- what words say

-- the words from column i on say these columns, with their names from a place on
unfoldable pub ColsSay : List ℕ → ℕ → ℕ → List Column → Type 0
ColsSay ws i place [] = Unit
ColsSay ws i place (column v key oid ∷ cs) =
    (column_in (get_or ws i 0) ≡ word_column key oid (length v) place) × (length v ≤ 63) × (oid < 2 ^ 32) × ColsSay ws (suc i) (place + length v) cs

-- the counts and words from slot r on say these relations
unfoldable pub SlotsSay : List ℕ → List ℕ → ℕ → ℕ → Cache → Type 0
SlotsSay counts ws r place [] = Unit
SlotsSay counts ws r place (one ∷ others) =
    (count_at counts r ≡ length one.1) × ColsSay ws (32 * r) place one.1
    × SlotsSay counts ws (suc r) (place + length (column_names one.1)) others

-- ---- lengths

pub cols_lens : (ws : List ℕ) (cs : List Column) (i place : ℕ) → ColsSay ws i place cs → lens_from ws i (length cs) ≡ length (column_names cs)
unfolding ColsSay lens_from column_names
cols_lens ws [] i place h = refl
cols_lens ws (column v key oid ∷ cs) i place h =
    let e : (column_in (get_or ws i 0)).name_len ≡ length v = ap (λ c. c.name_len) h.0 in
    let m : min (length v) 63 ≡ length v = omega (arith, h.1) in
    rw (e, m, cols_lens ws cs (suc i) (place + length v) h.3) (sym (length-append v (column_names cs)))

pub slots_lens : (counts ws : List ℕ) (a : Cache) (r place : ℕ) → SlotsSay counts ws r place a → slot_lens counts ws r (length a) ≡ length (cache_names a)
unfolding SlotsSay slot_lens cache_names
slots_lens counts ws [] r place h = refl
slots_lens counts ws (one ∷ others) r place h =
    rw (h.0, cols_lens ws one.1 (32 * r) place h.1, slots_lens counts ws others (suc r) (place + length (column_names one.1)) h.2)
    (sym (length-append (column_names one.1) (cache_names others)))

pub lens_most : (ws : List ℕ) (n i : ℕ) → lens_from ws i n ≤ 63 * n
unfolding lens_from
lens_most ws zero i = omega arith
lens_most ws (suc n) i = omega (arith, lens_most ws n (suc i))

pub slots_most : (counts ws : List ℕ) (n r : ℕ) → slot_lens counts ws r n ≤ 2016 * n
unfolding slot_lens
slots_most counts ws zero r = omega arith
slots_most counts ws (suc n) r = omega (arith, lens_most ws (count_at counts r) (32 * r), slots_most counts ws n (suc r))

pub new_most : (ds : List Described) → names_fit ds ≡ true → new_lens ds ≤ 63 * length ds
unfolding new_lens
new_most [] f = omega arith
new_most (described flags v oid modifier ∷ ds) f =
    let w = name_short flags v oid modifier ds f in
    omega (arith, w.0, new_most ds w.1)

pub new_names : (ds : List Described) → new_lens ds ≡ length (column_names (map column_of ds))
unfolding new_lens column_names
new_names [] = refl
new_names (described flags v oid modifier ∷ ds) = rw (new_names ds) (sym (length-append v (column_names (map column_of ds))))

-- ---- two lists of relations, one after the other

pub names_append : (a b : Cache) → cache_names (a ++ b) ≡ cache_names a ++ cache_names b
unfolding cache_names
names_append [] b = refl
names_append (one ∷ a) b =
    rw (names_append a b) (sym (append_assoc (column_names one.1) (cache_names a) (cache_names b)))

module _ (counts ws : List ℕ) (b : Cache) where
  pub says_split : (a : Cache) (r place : ℕ) → SlotsSay counts ws r place (a ++ b)
      → SlotsSay counts ws r place a × SlotsSay counts ws (r + length a) (place + length (cache_names a)) b
  unfolding SlotsSay cache_names
  says_split [] r place h =
      let x : r + 0 ≡ r = omega arith in
      let y : place + 0 ≡ place = omega arith in
      (tt, rw (x, y) h)
  says_split (one ∷ a) r place h =
      let i = says_split a (suc r) (place + length (column_names one.1)) h.2 in
      let x : r + suc (length a) ≡ suc r + length a = omega arith in
      let n : length (column_names one.1 ++ cache_names a) ≡ length (column_names one.1) + length (cache_names a) =
      length-append (column_names one.1) (cache_names a) in
      let y : place + length (column_names one.1 ++ cache_names a) ≡ place + length (column_names one.1) + length (cache_names a) = omega (arith, n) in
      ((h.0, h.1, i.0), rw (x, y) i.1)

  pub says_join : (a : Cache) (r place : ℕ) → SlotsSay counts ws r place a → SlotsSay counts ws (r + length a) (place + length (cache_names a)) b
      → SlotsSay counts ws r place (a ++ b)
  unfolding SlotsSay cache_names
  says_join [] r place h g =
      let x : r + 0 ≡ r = omega arith in
      let y : place + 0 ≡ place = omega arith in
      rw (x, y) at g
  says_join (one ∷ a) r place h g =
      let x : r + suc (length a) ≡ suc r + length a = omega arith in
      let n : length (column_names one.1 ++ cache_names a) ≡ length (column_names one.1) + length (cache_names a) =
      length-append (column_names one.1) (cache_names a) in
      let y : place + length (column_names one.1 ++ cache_names a) ≡ place + length (column_names one.1) + length (cache_names a) = omega (arith, n) in
      (h.0, h.1, says_join a (suc r) (place + length (column_names one.1)) h.2 (rw (x, y) at g))

-- ---- words that are not touched

pub cols_frame : (ws ws' : List ℕ) (cs : List Column) (i place : ℕ)
    → ((j : ℕ) → i ≤ j → j < i + length cs → get_or ws' j 0 ≡ get_or ws j 0) → ColsSay ws i place cs → ColsSay ws' i place cs
unfolding ColsSay
cols_frame ws ws' [] i place h s = tt
cols_frame ws ws' (column v key oid ∷ cs) i place h s = (
  ap column_in (h i (omega arith) (omega arith)) ∙ s.0,
  s.1,
  s.2,
  cols_frame ws ws' cs (suc i) (place + length v) (λ j a b. h j (omega arith) (omega arith)) s.3,
)

pub slots_frame : (counts counts' ws ws' : List ℕ) (a : Cache) (r place : ℕ)
    → ((j : ℕ) → 32 * r ≤ j → j < 32 * (r + length a) → get_or ws' j 0 ≡ get_or ws j 0)
    → ((q : ℕ) → r ≤ q → q < r + length a → get_or counts' q 0 ≡ get_or counts q 0)
    → SlotsSay counts ws r place a → SlotsSay counts' ws' r place a
unfolding SlotsSay
slots_frame counts counts' ws ws' [] r place h g s = tt
slots_frame counts counts' ws ws' (one ∷ a) r place h g s =
    let e : get_or counts' r 0 ≡ get_or counts r 0 = g r (omega arith) (omega arith) in
    let few : length one.1 ≤ 32 = omega (arith, s.0) in (
      rw e s.0,
      cols_frame ws ws' one.1 (32 * r) place (λ j x y. h j x (omega (arith, few))) s.1,
      slots_frame counts counts' ws ws' a (suc r) (place + length (column_names one.1)) (λ j x y. h j (omega arith) (omega arith))
          (λ q x y. g q (omega arith) (omega arith))
          s.2,
    )

-- ---- words with other places

pub place_words_other : (n i place : ℕ) (ws : List ℕ) (j : ℕ) → (j < i) ⊎ (i + n ≤ j) → get_or (place_words i n place ws) j 0 ≡ get_or ws j 0
unfolding place_words
place_words_other zero i place ws j h = refl
place_words_other (suc n) i place ws j h =
    place_words_other n (suc i) (place + len_of (get_or ws i 0)) (set ws i (word_at place (get_or ws i 0))) j (further h)
    ∙ get_or-set_other ws i j (word_at place (get_or ws i 0)) 0 (apart h)
  where
    further : (j < i) ⊎ (i + suc n ≤ j) → (j < suc i) ⊎ (suc i + n ≤ j)
    further (inl a) = inl (omega arith)
    further (inr b) = inr (omega arith)

    apart : (j < i) ⊎ (i + suc n ≤ j) → j ≡ i → ⊥
    apart (inl a) e = omega arith
    apart (inr b) e = omega arith

pub place_words_long : (n i place : ℕ) (ws : List ℕ) → length (place_words i n place ws) ≡ length ws
unfolding place_words
place_words_long zero i place ws = refl
place_words_long (suc n) i place ws =
    place_words_long n (suc i) (place + len_of (get_or ws i 0)) (set ws i (word_at place (get_or ws i 0)))
    ∙ length-set ws i (word_at place (get_or ws i 0))

-- columns that words say are said at the new places
pub place_cols : (cs : List Column) (i old new : ℕ) (ws : List ℕ) → i + length cs ≤ length ws → new + length (column_names cs) < 2 ^ 24
    → ColsSay ws i old cs → ColsSay (place_words i (length cs) new ws) i new cs
unfolding ColsSay place_words column_names
place_cols [] i old new ws l b h = tt
place_cols (column v key oid ∷ cs) i old new ws l b h =
    let w : ℕ = get_or ws i 0 in
    let y : ℕ = word_at new w in
    let n : length (v ++ column_names cs) ≡ length v + length (column_names cs) = length-append v (column_names cs) in
    let len : len_of w ≡ length v = ap (λ c. min c.name_len 63) h.0 ∙ least h.1 in
    let z : List ℕ = set ws i y in
    let here : column_in (get_or z i 0) ≡ word_column key oid (length v) new =
    rw (get_or-set_same ws i y 0 (omega arith), h.0)
    (words.column (word_column key oid (length v) new) (record { oid = h.2; len = omega (arith, h.1); place = omega (arith, n) })) in
    let later : ColsSay z (suc i) (old + length v) cs =
    cols_frame ws z cs (suc i) (old + length v) (λ j a b. get_or-set_other ws i j y 0 (λ e. omega arith)) h.3 in
    let rest : ColsSay (place_words (suc i) (length cs) (new + length v) z) (suc i) (new + length v) cs =
    place_cols cs (suc i) (old + length v) (new + length v) z (omega (arith, length-set ws i y)) (omega (arith, n)) later in
    subst (λ (q : ℕ). ColsSay (place_words (suc i) (length cs) (new + q) z) i new (column v key oid ∷ cs)) (sym len)
    (ap column_in (place_words_other (length cs) (suc i) (new + length v) z i (inl (omega arith))) ∙ here, h.1, h.2, rest)
  where
    least : length v ≤ 63 → min (length v) 63 ≡ length v
    least g = omega arith

pub place_slots_other : (counts : List ℕ) (n r place : ℕ) (ws : List ℕ) (j : ℕ) → (j < 32 * r) ⊎ (32 * (r + n) ≤ j)
    → get_or (place_slots counts r n place ws) j 0 ≡ get_or ws j 0
unfolding place_slots
place_slots_other counts zero r place ws j h = refl
place_slots_other counts (suc n) r place ws j h =
    let c : ℕ = count_at counts r in
    place_slots_other counts n (suc r) (place + lens_from ws (32 * r) c) (place_words (32 * r) c place ws) j (further h)
    ∙ place_words_other c (32 * r) place ws j (near h)
  where
    further : (j < 32 * r) ⊎ (32 * (r + suc n) ≤ j) → (j < 32 * suc r) ⊎ (32 * (suc r + n) ≤ j)
    further (inl a) = inl (omega arith)
    further (inr b) = inr (omega arith)

    near : (j < 32 * r) ⊎ (32 * (r + suc n) ≤ j) → (j < 32 * r) ⊎ (32 * r + count_at counts r ≤ j)
    near (inl a) = inl a
    near (inr b) = inr (omega arith)

pub place_slots_long : (counts : List ℕ) (n r place : ℕ) (ws : List ℕ) → length (place_slots counts r n place ws) ≡ length ws
unfolding place_slots
place_slots_long counts zero r place ws = refl
place_slots_long counts (suc n) r place ws =
    let c : ℕ = count_at counts r in
    place_slots_long counts n (suc r) (place + lens_from ws (32 * r) c) (place_words (32 * r) c place ws) ∙ place_words_long c (32 * r) place ws

pub place_says : (counts : List ℕ) (a : Cache) (r old new : ℕ) (ws : List ℕ) → 32 * (r + length a) ≤ length ws
    → new + length (cache_names a) < 2 ^ 24
    → SlotsSay counts ws r old a → SlotsSay counts (place_slots counts r (length a) new ws) r new a
unfolding SlotsSay place_slots cache_names
place_says counts [] r old new ws l b h = tt
place_says counts (one ∷ a) r old new ws l b h =
    let cs : List Column = one.1 in
    let m : ℕ = length (column_names cs) in
    let n : length (column_names cs ++ cache_names a) ≡ m + length (cache_names a) = length-append (column_names cs) (cache_names a) in
    let few : length cs ≤ 32 = omega (arith, h.0) in
    let z : List ℕ = place_words (32 * r) (length cs) new ws in
    let long : length z ≡ length ws = place_words_long (length cs) (32 * r) new ws in
    let lens : lens_from ws (32 * r) (length cs) ≡ m = cols_lens ws cs (32 * r) old h.1 in
    let here : ColsSay z (32 * r) new cs = place_cols cs (32 * r) old new ws (omega (arith, few)) (omega (arith, n)) h.1 in
    let later : SlotsSay counts z (suc r) (old + m) a =
    slots_frame counts counts ws z a (suc r) (old + m)
    (λ j x y. place_words_other (length cs) (32 * r) new ws j (inr (omega (arith, few))))
    (λ q x y. refl)
    h.2 in
    let rest : SlotsSay counts (place_slots counts (suc r) (length a) (new + m) z) (suc r) (new + m) a =
    place_says counts a (suc r) (old + m) (new + m) z (omega (arith, long)) (omega (arith, n)) later in
    let kept : ColsSay (place_slots counts (suc r) (length a) (new + m) z) (32 * r) new cs =
    cols_frame z (place_slots counts (suc r) (length a) (new + m) z) cs (32 * r) new
    (λ j x y. place_slots_other counts (length a) (suc r) (new + m) z j (inl (omega (arith, few))))
    here in
    let e : place_slots counts (suc r) (length a) (new + lens_from ws (32 * r) (count_at counts r)) (place_words (32 * r) (count_at counts r) new ws)
    ≡ place_slots counts (suc r) (length a) (new + m) z =
    ap (λ (q : ℕ). place_slots counts (suc r) (length a) (new + lens_from ws (32 * r) q) (place_words (32 * r) q new ws)) h.0
    ∙ ap (λ (q : ℕ). place_slots counts (suc r) (length a) (new + q) z) lens in
    subst (λ (w : List ℕ). (count_at counts r ≡ length cs) × ColsSay w (32 * r) new cs × SlotsSay counts w (suc r) (new + m) a) (sym e)
    (h.0, kept, rest)

-- ---- columns that are stored

-- the words after columns were stored
abbrev pub words_after : ℕ → ℕ → List Described → List ℕ → List ℕ → List ℕ
words_after i place ds w n = (store_words i place ds (words_of w n)).words

module _ (flags : ℕ) (v : List ℕ) (oid : ℕ) (i place : ℕ) where
  abbrev pub new_word : ℕ
  new_word = word_of (word_column (is_key flags) oid (length v) place)

pub store_long : (ds : List Described) (i place : ℕ) (s : Words) → length (store_words i place ds s).words ≡ length s.words
unfolding store_words
store_long [] i place s = refl
store_long (described flags v oid modifier ∷ ds) i place s =
    store_long ds (suc i) (place + length v) (store_word i place flags v oid s) ∙ length-set s.words i (new_word flags v oid i place)

pub store_other : (ds : List Described) (i place : ℕ) (s : Words) (j : ℕ) → (j < i) ⊎ (i + length ds ≤ j)
    → get_or (store_words i place ds s).words j 0 ≡ get_or s.words j 0
unfolding store_words
store_other [] i place s j h = refl
store_other (described flags v oid modifier ∷ ds) i place s j h =
    store_other ds (suc i) (place + length v) (store_word i place flags v oid s) j (further h)
    ∙ get_or-set_other s.words i j (new_word flags v oid i place) 0 (apart h)
  where
    further : (j < i) ⊎ (i + suc (length ds) ≤ j) → (j < suc i) ⊎ (suc i + length ds ≤ j)
    further (inl a) = inl (omega arith)
    further (inr b) = inr (omega arith)

    apart : (j < i) ⊎ (i + suc (length ds) ≤ j) → j ≡ i → ⊥
    apart (inl a) e = omega arith
    apart (inr b) e = omega arith

pub store_says : (ds : List Described) (i place : ℕ) (s : Words) → i + length ds ≤ length s.words → place + new_lens ds < 2 ^ 24
    → names_fit ds ≡ true → All DescribedFits ds → ColsSay (store_words i place ds s).words i place (map column_of ds)
unfolding ColsSay store_words new_lens
store_says [] i place s l b f a = tt
store_says (described flags v oid modifier ∷ ds) i place s l b f a =
    let short = name_short flags v oid modifier ds f in
    let y : ℕ = new_word flags v oid i place in
    let here : column_in (get_or (set s.words i y) i 0) ≡ word_column (is_key flags) oid (length v) place =
    rw (get_or-set_same s.words i y 0 (omega arith))
    (words.column (word_column (is_key flags) oid (length v) place)
    (record { oid = a.0.2; len = omega (arith, short.0); place = omega arith })) in (
      ap column_in (store_other ds (suc i) (place + length v) (store_word i place flags v oid s) i (inl (omega arith))) ∙ here,
      short.0,
      a.0.2,
      store_says ds (suc i) (place + length v) (store_word i place flags v oid s) (omega (arith, length-set s.words i y)) (omega arith) short.1 a.1,
    )

-- ---- lookups

module _ (ws ns : List ℕ) (room : ℕ) where
  -- a name that stands between two lists
  name_at : (a v b : List ℕ) (place : ℕ) → ns ≡ a ++ (v ++ b) → length a ≡ place → at ns place (length v) ≡ v
  name_at a v b place e l =
      rw e (ap (take (length v)) (drop_at a (v ++ b) place l) ∙ take_at v b (length v) refl)

  pub cols_look : (cs : List Column) (i place k : ℕ) (a b : List ℕ) → ColsSay ws i place cs → ns ≡ a ++ (column_names cs ++ b) → length a ≡ place
      → place + length (column_names cs) ≤ room → k < length cs → named ns (some (told_of room (column_in (get_or ws (i + k) 0)))) ≡ nth cs k
  unfolding ColsSay column_names nth
  cols_look [] i place k a b h e l f less = impossible (omega arith)
  cols_look (column v key oid ∷ cs) i place zero a b h e l f less =
      let n : length (v ++ column_names cs) ≡ length v + length (column_names cs) = length-append v (column_names cs) in
      let x : i + 0 ≡ i = omega arith in
      let p : min place room ≡ place = omega (arith, n) in
      let q : min (min (length v) 63) (room - place) ≡ length v = omega (arith, n, h.1) in
      let e' : ns ≡ a ++ (v ++ (column_names cs ++ b)) = e ∙ ap (λ (y : List ℕ). a ++ y) (append_assoc v (column_names cs) b) in
      rw (x, h.0, p, q, name_at a v (column_names cs ++ b) place e' l)
  cols_look (column v key oid ∷ cs) i place (suc k) a b h e l f less =
      let n : length (v ++ column_names cs) ≡ length v + length (column_names cs) = length-append v (column_names cs) in
      let x : i + suc k ≡ suc i + k = omega arith in
      let e' : ns ≡ (a ++ v) ++ (column_names cs ++ b) =
      e ∙ ap (λ (y : List ℕ). a ++ y) (append_assoc v (column_names cs) b) ∙ sym (append_assoc a v (column_names cs ++ b)) in
      rw x
      (cols_look cs (suc i) (place + length v) k (a ++ v) b h.3 e' (length-append a v ∙ rw l) (omega (arith, n)) (omega arith))

nth_past : (cs : List Column) (k : ℕ) → length cs ≤ k → nth cs k ≡ none
unfolding nth
nth_past [] k h = refl
nth_past (c ∷ cs) zero h = impossible (omega arith)
nth_past (c ∷ cs) (suc k) h = nth_past cs k (omega arith)

-- the identifiers of the relations
abbrev pub ids_of : Cache → List ℕ
ids_of cache = map (λ (one : ℕ × List Column). one.0) cache

module _ (counts ws ns : List ℕ) (room : ℕ) where
  pub slots_look : (cache : Cache) (r place : ℕ) (a b : List ℕ) → SlotsSay counts ws r place cache → ns ≡ a ++ (cache_names cache ++ b)
      → length a ≡ place
      → place + length (cache_names cache) ≤ room → (id k : ℕ) → place_of id (ids_of cache) < length cache
      → named ns (told_among room ws (32 * (r + place_of id (ids_of cache))) (some (count_at counts (r + place_of id (ids_of cache)))) k)
      ≡ column_among (columns_of id cache) k
  unfolding SlotsSay cache_names place_of columns_of
  slots_look [] r place a b h e l f id k less = impossible (omega arith)
  slots_look (one ∷ others) r place a b h e l f id k less =
      let cs : List Column = one.1 in
      let n : length (column_names cs ++ cache_names others) ≡ length (column_names cs) + length (cache_names others) =
      length-append (column_names cs) (cache_names others) in
      let e' : ns ≡ a ++ (column_names cs ++ (cache_names others ++ b)) =
      e ∙ ap (λ (y : List ℕ). a ++ y) (append_assoc (column_names cs) (cache_names others) b) in
      by_test (eqb one.0 id)
      (λ t.
      let x : r + 0 ≡ r = omega arith in
      by_test (leb (length cs) k)
      (λ m. rw (t, x, h.0, m) (sym (nth_past cs k (leb-true (length cs) k m))))
      (λ m.
      rw (t, x, h.0, m)
      (cols_look ws ns room cs (32 * r) place k a (cache_names others ++ b) h.1 e' l (omega (arith, n)) (leb-false (length cs) k m))))
      (λ g.
      let q : ℕ = place_of id (ids_of others) in
      let x : r + suc q ≡ suc r + q = omega arith in
      let less' : suc q < suc (length others) = rw g at less in
      let e'' : ns ≡ (a ++ column_names cs) ++ (cache_names others ++ b) = e' ∙ sym (append_assoc a (column_names cs) (cache_names others ++ b)) in
      rw (g, x)
      (slots_look others (suc r) (place + length (column_names cs)) (a ++ column_names cs) b h.2 e'' (length-append a (column_names cs) ∙ rw l)
      (omega (arith, n)) id k (omega arith)))

-- ---- where a relation is superseded

pub record Split (id : ℕ) (cs : List Column) (cache : Cache) : Type 0 where
  pub front : Cache
  pub own : Cache
  pub later : Cache
  pub whole : cache ≡ front ++ (own ++ later)
  pub then : superseded id cs cache ≡ front ++ ((id, cs) ∷ later)
  pub place : place_of id (ids_of cache) ≡ length front
  pub either : ((length own ≡ 0) × (length later ≡ 0)) ⊎ (length own ≡ 1)

pub split : (id : ℕ) (cs : List Column) (cache : Cache) → Split id cs cache
unfolding superseded place_of
split id cs [] = record { front = []; own = []; later = []; whole = refl; then = refl; place = refl; either = inl (refl, refl) }
split id cs (one ∷ others) =
    by_test (eqb one.0 id)
    (λ t. record { front = []; own = one ∷ []; later = others; whole = refl; then = rw t; place = rw t; either = inr refl })
    (λ f.
    let i = split id cs others in
    record {
      front = one ∷ i.front;
      own = i.own;
      later = i.later;
      whole = ap (λ (x : Cache). one ∷ x) i.whole;
      then = rw f (ap (λ (x : Cache). one ∷ x) i.then);
      place = rw f (ap suc i.place);
      either = i.either;
    })
