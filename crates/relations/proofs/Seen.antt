-- What one message does to what a caller sees.
use mathlib.Core.Path.{◌≡◌, refl, sym, ap, subst, ◌∙◌}
use mathlib.Core.Bool.{true, false}
use mathlib.Core.List.{List, [], ◌∷◌, ◌++◌, map}
use mathlib.Core.Logic.{◌⊎◌, inl, inr, ⊎_elim}
use mathlib.Core.Option.{Option, some, none}
use Prim.Native.Nat.{ℕ, zero, suc, ◌+◌, ◌*◌, ◌%◌, ◌<◌, ◌≤◌, min}
use native.Mathlib.Omega.{arith}
use lib.ListN.{length, length-map, length-take}
use lib.IntN.{ℤ}
use lib.Dec.{eqb, leb}
use borrow.Author.Tests.{eq-eqb, ne_eqb, eqb-true, eqb-false, le-leb, lt-leb, leb-false}
use Rattle.wire.specs.Bytes.{pick}
use Rattle.wire.proofs.Laws.{impossible, by_test}
use Rattle.rows.specs.Layout.{All}
use Rattle.rows.specs.Rows.{Cell, Described, described, Row, relation, type, origin, insert, update, update_from, delete, truncate, Said}
use Rattle.rows.specs.Rows.{row}
use Rattle.rows.specs.Rows.{no_row, refused_by, row_said}
use Rattle.rows.specs.Head.{Answer, head, none as no_answer, refusal, head_of, answer_of}
use Rattle.rows.proofs.Sent.{sent_is_read}
use Rattle.rows.proofs.Tells.{first_byte}
use Rattle.relations.specs.Cache.{Column, column_of, is_key, Cache, columns_of, superseded, counted, is_full, names_fit, fits}
use Rattle.relations.specs.Cache.{matches, first_of, judged, judged_in, after, took}
use Rattle.relations.specs.Memory.{Memory, held_ids, cache_of, message_of, emptied}
use Rattle.relations.specs.Laws.{Sized, memory_after, cache_after, nth, column_among}
use Rattle.relations.specs.Seen.{Seen, seen_in, Among, Distinct, Holds, Carries, HasTuple, IsRelation, HasShortName, Same, Replaced}
use Rattle.relations.specs.Seen.{HasRoom}
use Rattle.relations.specs.Seen.{MessageLaws, HistoryLaws, CacheLaws}
use Rattle.relations.proofs.Held.{same_count, length_relations}
use Rattle.relations.proofs.Theorems.{held_after, told_column, message_answers, message_leaves, stands_for, emptied_sized, emptied_holds}

-- ---- the same of the relations that are held

abbrev seen_of : Cache → Seen
seen_of cache = record { count = λ id. counted (columns_of id cache); column = λ id k. column_among (columns_of id cache) k }

same_seen : (m : Memory) → Sized m → seen_in m ≡ seen_of (cache_of m)
same_seen m z = λ i. record { count = λ id. same_count m id i; column = λ id k. told_column m id k z i }

unchanged : (o : Seen) → Same o o
unchanged o = record { counts = λ id. refl; columns = λ id k. refl }

-- ---- which relations fit

names_short : (ds : List Described) → All HasShortName ds → names_fit ds ≡ true
unfolding names_fit
names_short [] a = refl
names_short (described flags v oid modifier ∷ ds) a = rw (le-leb _ _ a.0) (names_short ds a.1)

one_long : (front : List Described) (flags : ℕ) (v : List ℕ) (oid : ℕ) (modifier : ℤ) (back : List Described) → 63 < length v
    → names_fit (front ++ (described flags v oid modifier ∷ back)) ≡ false
unfolding names_fit
one_long [] flags v oid modifier back h = rw (lt-leb _ _ h)
one_long (described f u o m ∷ front) flags v oid modifier back h =
    by_test (leb (length u) 63)
    (λ t. rw t (one_long front flags v oid modifier back h))
    (λ g. rw g)

fits_small : (ds : List Described) → length ds ≤ 32 → All HasShortName ds → fits ds ≡ true
unfolding fits
fits_small ds h a = rw (le-leb _ _ h) (names_short ds a)

fits_many : (ds : List Described) → 32 < length ds → fits ds ≡ false
unfolding fits
fits_many ds h = rw (lt-leb _ _ h)

fits_long : (ds : List Described) → names_fit ds ≡ false → fits ds ≡ false
unfolding fits
fits_long ds h = by_test (leb (length ds) 32) (λ t. rw (t, h)) (λ f. rw f)

key_odd : (half : ℕ) → is_key (2 * half + 1) ≡ true
key_odd half = eq-eqb ((2 * half + 1) % 2) 1 (omega arith)

key_even : (half : ℕ) → is_key (2 * half) ≡ false
key_even half = ne_eqb ((2 * half) % 2) 1 (λ e. omega (arith, e))

nth_map : (front : List Described) (d : Described) (back : List Described)
    → nth (map column_of (front ++ (d ∷ back))) (length front) ≡ some (column_of d)
unfolding nth
nth_map [] d back = refl
nth_map (x ∷ front) d back = nth_map front d back

nth_past : (cs : List Column) (k : ℕ) → length cs ≤ k → nth cs k ≡ none
unfolding nth
nth_past [] k h = refl
nth_past (c ∷ cs) zero h = absurd (omega arith)
nth_past (c ∷ cs) (suc k) h = nth_past cs k (omega arith)

-- ---- one message

counted_none : (o : Option (List Column)) → counted o ≡ none → o ≡ none
counted_none none e = refl
counted_none (some cs) e = impossible cc

has_room : (o : Option (List Column)) (held : ℕ) → ((n : ℕ) × (counted o ≡ some n)) ⊎ (held < 64) → is_full o held ≡ false
has_room none held (inl h) = let e : none ≡ some h.0 = h.1 in impossible cc
has_room none held (inr h) = lt-leb _ _ h
has_room (some cs) held r = refl

no_match : (o : Option ℕ) (n : ℕ) → (o ≡ some n → ⊥) → matches o n ≡ 30
no_match none n h = refl
no_match (some k) n h = by_test (eqb k n) (λ t. absurd (h (ap some (eqb-true k n t)))) (λ f. rw f)

match : (o : Option ℕ) (n : ℕ) → o ≡ some n → matches o n ≡ 0
match o n e = rw (e, eq-eqb n n refl)

either_30 : (a b : ℕ) → (a ≡ 30) ⊎ ((a ≡ 0) × (b ≡ 30)) → first_of a b ≡ 30
either_30 a b (inl e) = rw e
either_30 a b (inr e) = rw (e.0, e.1)

any_match : (o : Option ℕ) (n : ℕ) → (matches o n ≡ 30) ⊎ (matches o n ≡ 0)
any_match none n = inl refl
any_match (some k) n = by_test (eqb k n) (λ t. inr (rw t)) (λ f. inl (rw f))

module _ (cache : Cache) where
  abbrev here : Seen
  here = seen_of cache

  abbrev then : Said → Seen
  then said = seen_of (took cache said).1

  refused_row : (r : Row) (n : ℕ) → eqb n 0 ≡ false → judged_in cache r ≡ n
      → (answer_of (took cache (row r)).0 ≡ refusal n) × Same here (then (row r))
  unfolding took
  refused_row r n f e = rw (e, f) (refl, unchanged here)

  answered_row : (r : Row) → (IsRelation r → ⊥) → judged_in cache r ≡ 0
      → (answer_of (took cache (row r)).0 ≡ head (head_of r)) × Same here (then (row r))
  unfolding took judged
  answered_row (relation id space v identity ds) n e = absurd (n tt)
  answered_row (type id space v) n e = (refl, unchanged here)
  answered_row (origin position v) n e = (refl, unchanged here)
  answered_row (insert id new) n e = rw e (refl, unchanged here)
  answered_row (update id new) n e = rw e (refl, unchanged here)
  answered_row (update_from id which old new) n e = rw e (refl, unchanged here)
  answered_row (delete id which old) n e = rw e (refl, unchanged here)
  answered_row (truncate options ids) n e = (refl, unchanged here)

  unmatched_row : (r : Row) (id : ℕ) (cs : List Cell) → HasTuple r id cs → (here.count id ≡ some (length cs) → ⊥) → judged_in cache r ≡ 30
  unfolding judged
  unmatched_row (relation j space v identity ds) id cs h n = absurd h
  unmatched_row (type j space v) id cs h n = absurd h
  unmatched_row (origin position v) id cs h n = absurd h
  unmatched_row (insert j new) id cs h n = rw (h.0, h.1) (no_match _ _ n)
  unmatched_row (update j new) id cs h n = rw (h.0, h.1) (no_match _ _ n)
  unmatched_row (update_from j which old new) id cs (e, inl f) n = rw (e, f) (either_30 _ _ (inl (no_match _ _ n)))
  unmatched_row (update_from j which old new) id cs (e, inr f) n =
      rw (e, f) (either_30 _ _ (⊎_elim
      (λ (x : matches (here.count id) (length old) ≡ 30). inl x)
      (λ (x : matches (here.count id) (length old) ≡ 0). inr (x, no_match _ _ n))
      (any_match (here.count id) (length old))))
  unmatched_row (delete j which old) id cs h n = rw (h.0, h.1) (no_match _ _ n)
  unmatched_row (truncate options ids) id cs h n = absurd h

  matched_row : (r : Row) → (IsRelation r → ⊥) → ((id : ℕ) (cs : List Cell) → HasTuple r id cs → here.count id ≡ some (length cs))
      → judged_in cache r ≡ 0
  unfolding judged
  matched_row (relation j space v identity ds) n h = absurd (n tt)
  matched_row (type j space v) n h = refl
  matched_row (origin position v) n h = refl
  matched_row (insert j new) n h = match _ _ (h j new (refl, refl))
  matched_row (update j new) n h = match _ _ (h j new (refl, refl))
  matched_row (update_from j which old new) n h =
      rw (match _ _ (h j old (refl, inl refl)), match _ _ (h j new (refl, inr refl)))
  matched_row (delete j which old) n h = match _ _ (h j old (refl, refl))
  matched_row (truncate options ids) n h = refl

  module _ (id : ℕ) (space v : List ℕ) (identity : ℕ) (ds : List Described) where
    abbrev r : Row
    r = relation id space v identity ds

    full_row : here.count id ≡ none → 64 ≤ length cache → judged_in cache r ≡ 28
    unfolding judged
    full_row e h = rw (counted_none (columns_of id cache) e, le-leb _ _ h)

    large_row : HasRoom here (length cache) id → fits ds ≡ false → judged_in cache r ≡ 29
    unfolding judged
    large_row h f = rw (has_room (columns_of id cache) (length cache) h, f)

    taken_row : HasRoom here (length cache) id → fits ds ≡ true
        → (answer_of (took cache (row r)).0 ≡ head (head_of r)) × Replaced here (then (row r)) id ds
    unfolding took judged
    taken_row h f =
        let cs : List Column = map column_of ds in
        let own : columns_of id (superseded id cs cache) ≡ some cs = rw (held_after id id cs cache, eq-eqb id id refl) in
        rw (has_room (columns_of id cache) (length cache) h, f) (
          refl,
          record {
            count = rw own (ap some (length-map ds column_of));
            odd = λ front back half w oid modifier e. rw (own, e, nth_map, key_odd half);
            even = λ front back half w oid modifier e. rw (own, e, nth_map, key_even half);
            no_more = λ k g. rw own (nth_past cs k (omega (arith, length-map ds column_of)));
            other_counts = λ j n. rw (held_after j id cs cache, ne_eqb id j (λ e. n (sym e)));
            other_columns = λ j n k. rw (held_after j id cs cache, ne_eqb id j (λ e. n (sym e)));
          },
        )

-- the data are those of a row
carried : (s : List ℕ) (r : Row) → Carries s r → row_said s ≡ row r
carried s r c = ap row_said c.2 ∙ sent_is_read r c.1 c.0

none_row : (cache : Cache) → (answer_of (took cache no_row).0 ≡ no_answer) × Same (seen_of cache) (seen_of (took cache no_row).1)
unfolding took
none_row cache = (refl, unchanged (seen_of cache))

bad_row : (cache : Cache) (n : ℕ)
    → (answer_of (took cache (refused_by n)).0 ≡ refusal n) × Same (seen_of cache) (seen_of (took cache (refused_by n)).1)
unfolding took
bad_row cache n = (refl, unchanged (seen_of cache))

message_laws : (cache : Cache) (s : List ℕ)
    → MessageLaws (seen_of cache) (length cache) s (answer_of (took cache (row_said s)).0) (seen_of (took cache (row_said s)).1)
message_laws cache s =
    record {
      boundary = λ b. rw (first_byte.none s b) (none_row cache);
      malformed = λ n e. rw e (bad_row cache n);
      full = λ id space v identity ds c e h.
          rw (carried s (relation id space v identity ds) c)
          (refused_row cache (relation id space v identity ds) 28 refl (full_row cache id space v identity ds e h));
      many_columns = λ id space v identity ds c h g.
          rw (carried s (relation id space v identity ds) c)
          (refused_row cache (relation id space v identity ds) 29 refl (large_row cache id space v identity ds h (fits_many ds g)));
      long_name = λ id space v identity front flags name oid modifier back c h g.
          let ds : List Described = front ++ (described flags name oid modifier ∷ back) in
          rw (carried s (relation id space v identity ds) c)
          (refused_row cache (relation id space v identity ds) 29 refl
          (large_row cache id space v identity ds h (fits_long ds (one_long front flags name oid modifier back g))));
      taken = λ id space v identity ds c h g k.
          rw (carried s (relation id space v identity ds) c) (taken_row cache id space v identity ds h (fits_small ds g k));
      unmatched = λ r id cs c h n. rw (carried s r c) (refused_row cache r 30 refl (unmatched_row cache r id cs h n));
      matched = λ r c n h. rw (carried s r c) (answered_row cache r n (matched_row cache r n h));
    }

-- ---- which relations are held

ids_of : Cache → List ℕ
ids_of [] = []
ids_of (one ∷ others) = one.0 ∷ ids_of others

length_ids : (cache : Cache) → length (ids_of cache) ≡ length cache
unfolding ids_of
length_ids [] = refl
length_ids (one ∷ others) = ap suc (length_ids others)

held_among : (cache : Cache) (id : ℕ) → Among id (ids_of cache) → (n : ℕ) × (counted (columns_of id cache) ≡ some n)
unfolding columns_of ids_of
held_among [] id h = absurd h
held_among (one ∷ others) id (inl e) = (length one.1, rw (eq-eqb one.0 id e))
held_among (one ∷ others) id (inr h) =
    by_test (eqb one.0 id)
    (λ t. (length one.1, rw t))
    (λ f. rw f (held_among others id h))

among_held : (cache : Cache) (id n : ℕ) → counted (columns_of id cache) ≡ some n → Among id (ids_of cache)
unfolding columns_of ids_of
among_held [] id n e = impossible cc
among_held (one ∷ others) id n e =
    by_test (eqb one.0 id)
    (λ t. inl (eqb-true one.0 id t))
    (λ f. inr (among_held others id n (rw f at e)))

-- an identifier of the cache after a Relation is its own or was there
among_after : (cache : Cache) (j id : ℕ) (cs : List Column) → Among id (ids_of (superseded j cs cache)) → (j ≡ id) ⊎ Among id (ids_of cache)
unfolding superseded ids_of
among_after [] j id cs (inl e) = inl e
among_after [] j id cs (inr e) = absurd e
among_after (one ∷ others) j id cs h =
    by_test (eqb one.0 j)
    (λ t. inr (rw (t, ← eqb-true one.0 j t) at h))
    (λ f.
    ⊎_elim
    (λ (e : one.0 ≡ id). inr (inl e))
    (λ (k : Among id (ids_of (superseded j cs others))).
    ⊎_elim (λ (e : j ≡ id). inl e) (λ (e : Among id (ids_of others)). inr (inr e)) (among_after others j id cs k))
    (rw f at h))

distinct_after : (cache : Cache) (j : ℕ) (cs : List Column) → Distinct (ids_of cache) → Distinct (ids_of (superseded j cs cache))
unfolding superseded ids_of
distinct_after [] j cs d = ((λ e. e), tt)
distinct_after (one ∷ others) j cs d =
    by_test (eqb one.0 j)
    (λ t. rw (t, ← eqb-true one.0 j t) d)
    (λ f.
    rw f (
      (λ k. ⊎_elim (λ (e : j ≡ one.0). eqb-false one.0 j f (sym e)) d.0 (among_after others j one.0 cs k)),
      distinct_after others j cs d.1,
    ))

same_length : (cache : Cache) (j : ℕ) (cs k : List Column) → columns_of j cache ≡ some k → length (superseded j cs cache) ≡ length cache
unfolding superseded columns_of
same_length [] j cs k e = impossible cc
same_length (one ∷ others) j cs k e =
    by_test (eqb one.0 j) (λ t. rw t) (λ f. rw f (ap suc (same_length others j cs k (rw f at e))))

one_more : (cache : Cache) (j : ℕ) (cs : List Column) → length (superseded j cs cache) ≤ suc (length cache)
unfolding superseded
one_more [] j cs = omega arith
one_more (one ∷ others) j cs = by_test (eqb one.0 j) (λ t. rw t (omega arith)) (λ f. rw f (omega (arith, one_more others j cs)))

length_after : (cache : Cache) (j : ℕ) (cs : List Column) (o : Option (List Column)) → columns_of j cache ≡ o → is_full o (length cache) ≡ false
    → length cache ≤ 64
    → length (superseded j cs cache) ≤ 64
length_after cache j cs none e g h = omega (arith, one_more cache j cs, leb-false 64 (length cache) g)
length_after cache j cs (some k) e g h = omega (arith, same_length cache j cs k e, h)

record Sound (cache : Cache) : Type 0 where
  distinct : Distinct (ids_of cache)
  most : length cache ≤ 64

sound_row : (cache : Cache) → Sound cache → (r : Row) → (j : ℕ) → judged_in cache r ≡ j → Sound (after cache (pick (eqb j 0) (row r) (refused_by j)))
unfolding judged
sound_row cache w (relation id space v identity ds) j e =
    by_test (is_full (columns_of id cache) (length cache))
    (λ t. let k : 28 ≡ j = rw t at e in rw (← k) w)
    (λ f.
    by_test (eqb j 0)
    (λ g.
    rw g (record {
      distinct = distinct_after cache id (map column_of ds) w.distinct;
      most = length_after cache id (map column_of ds) (columns_of id cache) refl f w.most;
    }))
    (λ g. rw g w))
sound_row cache w (type id space v) j e = by_test (eqb j 0) (λ g. rw g w) (λ g. rw g w)
sound_row cache w (origin position v) j e = by_test (eqb j 0) (λ g. rw g w) (λ g. rw g w)
sound_row cache w (insert id new) j e = by_test (eqb j 0) (λ g. rw g w) (λ g. rw g w)
sound_row cache w (update id new) j e = by_test (eqb j 0) (λ g. rw g w) (λ g. rw g w)
sound_row cache w (update_from id which old new) j e = by_test (eqb j 0) (λ g. rw g w) (λ g. rw g w)
sound_row cache w (delete id which old) j e = by_test (eqb j 0) (λ g. rw g w) (λ g. rw g w)
sound_row cache w (truncate options ids) j e = by_test (eqb j 0) (λ g. rw g w) (λ g. rw g w)

sound_took : (cache : Cache) → Sound cache → (said : Said) → Sound (took cache said).1
unfolding took
sound_took cache w (row r) = sound_row cache w r (judged_in cache r) refl
sound_took cache w no_row = w
sound_took cache w (refused_by n) = w

sound_all : (cache : Cache) → Sound cache → (ss : List (List ℕ)) → Sound (cache_after cache ss)
unfolding cache_after
sound_all cache w [] = w
sound_all cache w (s ∷ ss) = sound_all (took cache (row_said s)).1 (sound_took cache w (row_said s)) ss

-- ---- the memory

held_count : (m : Memory) → Sized m → length (cache_of m) ≡ min m.held 64
held_count m z = length_relations m (held_ids m) 0 ∙ omega (arith, length-take m.held m.ids, z.ids)

any_memory : (m : Memory) → Sized m → (s : List ℕ) (n : ℕ) → length (cache_of m) ≡ n
    → MessageLaws (seen_in m) n s (message_of m (row_said s)).0 (seen_in (message_of m (row_said s)).1)
any_memory m z s n e =
    let w = message_leaves m z (row_said s) in
    let a = same_seen m z in
    let b : seen_in (message_of m (row_said s)).1 ≡ seen_of (took (cache_of m) (row_said s)).1 =
    same_seen (message_of m (row_said s)).1 w.1 ∙ ap seen_of w.0 in
    subst (λ (o : Seen). MessageLaws o n s (message_of m (row_said s)).0 (seen_in (message_of m (row_said s)).1)) (sym a)
    (subst (λ (o : Seen). MessageLaws (seen_of (cache_of m)) n s (message_of m (row_said s)).0 o) (sym b)
    (subst (λ (x : Answer). MessageLaws (seen_of (cache_of m)) n s x (seen_of (took (cache_of m) (row_said s)).1)) (sym (message_answers m z (row_said s)))
    (subst (λ (k : ℕ). MessageLaws (seen_of (cache_of m)) k s (answer_of (took (cache_of m) (row_said s)).0) (seen_of (took (cache_of m) (row_said s)).1)) e
    (message_laws (cache_of m) s))))

pub one_more_message : (m : Memory) (ss : List (List ℕ)) (s : List ℕ) → memory_after m (ss ++ (s ∷ [])) ≡ (message_of (memory_after m ss) (row_said s)).1
unfolding memory_after
one_more_message m [] s = refl
one_more_message m (t ∷ ss) s = one_more_message (message_of m (row_said t)).1 ss s

no_ids : Distinct (ids_of [])
unfolding ids_of
no_ids = tt

history : (ss : List (List ℕ)) (s : List ℕ)
    → HistoryLaws (λ ss. seen_in (memory_after emptied ss)) (λ ss s. (message_of (memory_after emptied ss) (row_said s)).0) ss s
history ss s =
    let m : Memory = memory_after emptied ss in
    let w = stands_for emptied ss emptied_sized in
    let z = w.2 in
    let e : cache_of m ≡ cache_after [] ss = w.1 ∙ ap (λ (x : Cache). cache_after x ss) emptied_holds in
    let k : Sound (cache_of m) = subst Sound (sym e) (sound_all [] (record { distinct = no_ids; most = omega arith }) ss) in
    record {
      ids = ids_of (cache_of m);
      held = subst (λ (o : Seen). Holds o (ids_of (cache_of m))) (sym (same_seen m z))
          (record { each = held_among (cache_of m); no_other = among_held (cache_of m); once = k.distinct });
      most = rw (length_ids (cache_of m)) k.most;
      next = rw (one_more_message emptied ss s) (any_memory m z s (length (ids_of (cache_of m))) (sym (length_ids (cache_of m))));
    }

nothing_held : seen_in emptied ≡ seen_of []
nothing_held = same_seen emptied emptied_sized ∙ ap seen_of emptied_holds

pub cache_laws : CacheLaws
unfolding columns_of
cache_laws = record {
  any_memory = λ m z s. any_memory m z s (min m.held 64) (held_count m z);
  empty_count = λ id. ap (λ (o : Seen). o.count id) nothing_held;
  empty_column = λ id k. ap (λ (o : Seen). o.column id k) nothing_held;
  from_empty = history;
}
