-- What the cache is for, over any list of messages.
use mathlib.Core.Path.{◌≡◌, refl, sym, ap, ◌∙◌}
use mathlib.Core.Bool.{Bool}
use mathlib.Core.List.{List, [], ◌∷◌, map}
use mathlib.Core.Option.{Option, some, none}
use Prim.Native.Nat.{ℕ, zero, suc, ◌+◌, ◌*◌, ◌<◌, ◌≤◌}
use native.Mathlib.Omega.{arith}
use lib.ListN.{length, length-take, length-replicate}
use lib.Dec.{eqb, leb, ltb}
use borrow.Author.Tests.{eq-eqb, eqb-true, eqb-false, lt-leb, leb-true, leb-false, ltb-true, ltb-false}
use Rattle.wire.specs.Bytes.{pick}
use Rattle.wire.proofs.Laws.{impossible, by_test}
use Rattle.rows.specs.Rows.{Row, relation, type, origin, insert, update, update_from, delete, truncate, Said, row, no_row, refused_by, row_said}
use Rattle.rows.specs.Head.{Answer, refusal, answer_of}
use Rattle.relations.specs.Cache.{Column, column_of, Cache, columns_of, superseded, counted, is_full, fits, matches, first_of, judged, answered, judged_in, after, took}
use Rattle.relations.specs.Memory.{Columns, Memory, slot_in, column_in, columns_from, count_at, cache_of, count_in, judged_by, leaves, message_of, emptied, held_ids, relations_from}
use Rattle.relations.specs.Answers.{column_told, told_among}
use Rattle.relations.specs.Laws.{Sized, answers_on, memory_after, said_on, cache_after, StandsFor, FromEmpty, RefusedLeavesAll, named, Within, nth, column_among, Lookups, last_of, LastNotRefused, Matched, AnsweredRowsMatch, Taken, TakenIsAnswered}
use Rattle.relations.proofs.Held.{same_count, same_full, slot_found, slot_unfound, stored_sized, stored_supersedes}

-- ---- one message

-- rows are judged alike where the cache is full alike and relations have as many columns
judged_alike : (f g : ℕ → Bool) (c d : ℕ → Option ℕ) → ((id : ℕ) → f id ≡ g id) → ((id : ℕ) → c id ≡ d id) → (r : Row) → judged f c r ≡ judged g d r
unfolding judged
judged_alike f g c d a b (relation id space v identity cs) = rw (a id)
judged_alike f g c d a b (type id space v) = refl
judged_alike f g c d a b (origin position v) = refl
judged_alike f g c d a b (insert id new) = rw (b id)
judged_alike f g c d a b (update id new) = rw (b id)
judged_alike f g c d a b (update_from id which old new) = rw (b id)
judged_alike f g c d a b (delete id which old) = rw (b id)
judged_alike f g c d a b (truncate options ids) = refl

module _ (m : Memory) (z : Sized m) where
  alike : (r : Row) → judged_by m r ≡ judged_in (cache_of m) r
  alike r =
      judged_alike (λ id. leb 64 (slot_in m id)) (λ id. is_full (columns_of id (cache_of m)) (length (cache_of m))) (count_in m) (λ id. counted (columns_of id (cache_of m)))
      (λ id. same_full m id z.ids) (λ id. same_count m id) r

  pub same_answer : (said : Said) → answered (judged_by m) said ≡ answered (judged_in (cache_of m)) said
  same_answer (row r) = rw (alike r)
  same_answer no_row = refl
  same_answer (refused_by n) = refl

  -- an answer that leaves the memory leaves what is held
  abbrev Left : Said → Type 0
  Left a = (cache_of (leaves m a) ≡ after (cache_of m) a) × Sized (leaves m a)

  left_row : (r : Row) (j : ℕ) → Left (row r) → Left (pick (eqb j 0) (row r) (refused_by j))
  left_row r j h = by_test (eqb j 0) (λ t. rw t h) (λ f. rw f (refl, z))

  left : (said : Said) → Left (answered (judged_by m) said)
  unfolding judged
  left (row (relation id space v identity cs)) =
      by_test (leb 64 (slot_in m id))
      (λ t. rw t (refl, z))
      (λ f.
      by_test (fits cs)
      (λ t. rw (f, t) (stored_supersedes m z id cs (leb-false 64 (slot_in m id) f) t, stored_sized m z (slot_in m id) id cs (leb-false 64 (slot_in m id) f) t))
      (λ g. rw (f, g) (refl, z)))
  left (row (type id space v)) = (refl, z)
  left (row (origin position v)) = (refl, z)
  left (row (insert id new)) = left_row (insert id new) (judged_by m (insert id new)) (refl, z)
  left (row (update id new)) = left_row (update id new) (judged_by m (update id new)) (refl, z)
  left (row (update_from id which old new)) = left_row (update_from id which old new) (judged_by m (update_from id which old new)) (refl, z)
  left (row (delete id which old)) = left_row (delete id which old) (judged_by m (delete id which old)) (refl, z)
  left (row (truncate options ids)) = (refl, z)
  left no_row = (refl, z)
  left (refused_by n) = (refl, z)

  pub message_answers : (said : Said) → (message_of m said).0 ≡ answer_of (took (cache_of m) said).0
  unfolding message_of took
  message_answers said = ap answer_of (same_answer said)

  pub message_leaves : (said : Said) → (cache_of (message_of m said).1 ≡ (took (cache_of m) said).1) × Sized (message_of m said).1
  unfolding message_of took
  message_leaves said = ((left said).0 ∙ ap (λ (a : Said). after (cache_of m) a) (same_answer said), (left said).1)

-- ---- any list of messages

pub stands_for : StandsFor
unfolding answers_on memory_after said_on cache_after
stands_for m [] z = (refl, refl, z)
stands_for m (s ∷ ss) z =
    let m' : Memory = (message_of m (row_said s)).1 in
    let w = message_leaves m z (row_said s) in
    let i = stands_for m' ss w.1 in (
      rw (message_answers m z (row_said s), ← w.0) (ap (λ (x : List Answer). answer_of (took (cache_of m) (row_said s)).0 ∷ x) i.0),
      i.1 ∙ ap (λ (x : Cache). cache_after x ss) w.0,
      i.2,
    )

-- ---- refusals

left_all : (m : Memory) (r : Row) (j n : ℕ) → answer_of (pick (eqb j 0) (row r) (refused_by j)) ≡ refusal n → leaves m (pick (eqb j 0) (row r) (refused_by j)) ≡ m
left_all m r j n e =
    by_test (eqb j 0)
    (λ t. let h : answer_of (row r) ≡ refusal n = rw t at e in let z : ◌≡◌ {A = ℕ} 0 1 = cc in impossible z)
    (λ f. rw f)

pub refused_leaves_all : RefusedLeavesAll
unfolding message_of
refused_leaves_all m (row r) n e = left_all m r (judged_by m r) n e
refused_leaves_all m no_row n e = refl
refused_leaves_all m (refused_by k) n e = refl

-- ---- what is held

pub held_after : (id j : ℕ) (cs : List Column) (cache : Cache) → columns_of id (superseded j cs cache) ≡ pick (eqb j id) (some cs) (columns_of id cache)
unfolding columns_of superseded
held_after id j cs [] = refl
held_after id j cs (one ∷ others) =
    by_test (eqb one.0 j)
    (λ t.
    let e : one.0 ≡ j = eqb-true one.0 j t in
    rw (t, e) (by_test (eqb j id) (λ x. rw x) (λ y. rw y)))
    (λ f.
    by_test (eqb one.0 id)
    (λ t.
    let e : one.0 ≡ id = eqb-true one.0 id t in
    by_test (eqb j id)
    (λ x. absurd (eqb-false one.0 j f (e ∙ sym (eqb-true j id x))))
    (λ y. rw (f, t, y)))
    (λ g. rw (f, g) (held_after id j cs others)))

last_by : (id : ℕ) (cache : Cache) (a : Said) (said : List Said) → last_of id (columns_of id cache) (a ∷ said) ≡ last_of id (columns_of id (after cache a)) said
unfolding last_of
last_by id cache (row (relation j space v identity cs)) said = rw (held_after id j (map column_of cs) cache)
last_by id cache (row (type j space v)) said = refl
last_by id cache (row (origin position v)) said = refl
last_by id cache (row (insert j new)) said = refl
last_by id cache (row (update j new)) said = refl
last_by id cache (row (update_from j which old new)) said = refl
last_by id cache (row (delete j which old)) said = refl
last_by id cache (row (truncate options ids)) said = refl
last_by id cache no_row said = refl
last_by id cache (refused_by n) said = refl

last_from : (ss : List (List ℕ)) (cache : Cache) (id : ℕ) → columns_of id (cache_after cache ss) ≡ last_of id (columns_of id cache) (said_on cache ss)
unfolding said_on cache_after took last_of
last_from [] cache id = refl
last_from (s ∷ ss) cache id =
    let a : Said = answered (judged_in cache) (row_said s) in
    last_from ss (after cache a) id ∙ sym (last_by id cache a (said_on (after cache a) ss))

pub last_not_refused : LastNotRefused
unfolding columns_of
last_not_refused ss id = last_from ss [] id

-- ---- rows that are answered

matched_so : (o : Option ℕ) (n : ℕ) → matches o n ≡ 0 → o ≡ some n
matched_so none n e = impossible_30 e
  where
    impossible_30 : {X : Type 0} → ◌≡◌ {A = ℕ} 30 0 → X
    impossible_30 x = impossible (omega arith)
matched_so (some k) n e =
    by_test (eqb k n)
    (λ t. ap (λ (x : ℕ). some x) (eqb-true k n t))
    (λ f. let h : ◌≡◌ {A = ℕ} 30 0 = rw f at e in impossible (omega arith))

first_so : (a b : ℕ) → first_of a b ≡ 0 → (a ≡ 0) × (b ≡ 0)
first_so a b e =
    by_test (eqb a 0)
    (λ t. let h : b ≡ 0 = rw t at e in (eqb-true a 0 t, h))
    (λ f. let h : a ≡ 0 = rw f at e in absurd (eqb-false a 0 f h))

judged_none : (cache : Cache) (r : Row) → judged_in cache r ≡ 0 → Matched cache r
unfolding judged
judged_none cache (relation id space v identity cs) e = tt
judged_none cache (type id space v) e = tt
judged_none cache (origin position v) e = tt
judged_none cache (insert id new) e = matched_so _ _ e
judged_none cache (update id new) e = matched_so _ _ e
judged_none cache (update_from id which old new) e =
    let w = first_so (matches (counted (columns_of id cache)) (length old)) (matches (counted (columns_of id cache)) (length new)) e in
    (matched_so _ _ w.0, matched_so _ _ w.1)
judged_none cache (delete id which old) e = matched_so _ _ e
judged_none cache (truncate options ids) e = tt

answered_so : (cache : Cache) (q r : Row) (j : ℕ) → judged_in cache q ≡ j → pick (eqb j 0) (row q) (refused_by j) ≡ row r → Matched cache r
answered_so cache q r j h e =
    by_test (eqb j 0)
    (λ t. let x : row q ≡ row r = rw t at e in let y : q ≡ r = cc in rw (← y) (judged_none cache q (h ∙ eqb-true j 0 t)))
    (λ f. let x : refused_by j ≡ row r = rw f at e in let z : ◌≡◌ {A = ℕ} 0 1 = cc in impossible z)

pub answered_rows_match : AnsweredRowsMatch
unfolding took
answered_rows_match cache (row q) r e = answered_so cache q r (judged_in cache q) refl e
answered_rows_match cache no_row r e = let z : ◌≡◌ {A = ℕ} 0 1 = cc in impossible z
answered_rows_match cache (refused_by n) r e = let z : ◌≡◌ {A = ℕ} 0 1 = cc in impossible z

-- ---- lookups

nth_there : (s : Columns) (n i k : ℕ) → k < n → nth (columns_from s i n) k ≡ some (column_in s (i + k))
unfolding nth columns_from
nth_there s zero i k h = impossible (omega arith)
nth_there s (suc n) i zero h = let z : i + 0 ≡ i = omega arith in rw z
nth_there s (suc n) i (suc k) h = let z : i + suc k ≡ suc i + k = omega arith in rw z (nth_there s n (suc i) k (omega arith))

nth_none : (s : Columns) (n i k : ℕ) → n ≤ k → nth (columns_from s i n) k ≡ none
unfolding nth columns_from
nth_none s zero i k h = refl
nth_none s (suc n) i zero h = impossible (omega arith)
nth_none s (suc n) i (suc k) h = nth_none s n (suc i) k (omega arith)

among : (s : Columns) (i n k : ℕ) → named s.names (told_among s i (some n) k) ≡ nth (columns_from s i n) k
among s i n k =
    by_test (leb n k)
    (λ t. rw t (sym (nth_none s n i k (leb-true n k t))))
    (λ f. rw f (sym (nth_there s n i k (leb-false n k f))))

module _ (m : Memory) (id k : ℕ) where
  pub told_column : Sized m → named m.columns.names (column_told m id k) ≡ column_among (columns_of id (cache_of m)) k
  told_column z =
      let r : ℕ = slot_in m id in
      by_test (ltb r (length (held_ids m)))
      (λ t.
      let less : r < length (held_ids m) = ltb-true r (length (held_ids m)) t in
      let few : r < 64 = omega (arith, length-take m.held m.ids, z.ids) in
      rw (slot_found m id less, lt-leb 64 r few, t) (among m.columns (32 * r) (count_at m.counts r) k))
      (λ f. rw (slot_unfound m id (ltb-false r (length (held_ids m)) f), f) (by_test (leb 64 r) (λ x. rw x) (λ y. rw y)))

  told_within : Within 129024 (column_told m id k)
  told_within =
      let r : ℕ = slot_in m id in
      by_test (leb 64 r)
      (λ t. rw t tt)
      (λ f.
      by_test (ltb r (length (held_ids m)))
      (λ t.
      by_test (leb (count_at m.counts r) k)
      (λ x. rw (f, t, x) tt)
      (λ y. rw (f, t, y) (omega (arith, leb-false 64 r f, leb-false (count_at m.counts r) k y))))
      (λ g. rw (f, g) tt))

pub lookups : Lookups
lookups = record { count = same_count; column = (λ m z id k. told_column m id k z); within = told_within }

-- ---- an empty cache

pub emptied_sized : Sized emptied
unfolding emptied
emptied_sized =
    record {
      ids = length-replicate {0} {A = ℕ} 64 0;
      counts = length-replicate {0} {A = ℕ} 64 0;
      columns =
          record {
            types = length-replicate {0} {A = ℕ} 2048 0;
            flags = length-replicate {0} {A = ℕ} 2048 0;
            lens = length-replicate {0} {A = ℕ} 2048 0;
            names = length-replicate {0} {A = ℕ} 129024 0;
          };
    }

pub emptied_holds : cache_of emptied ≡ []
unfolding emptied relations_from
emptied_holds = refl

pub from_empty : FromEmpty
from_empty ss =
    let w = stands_for emptied ss emptied_sized in (
      w.0 ∙ ap (λ (x : Cache). map answer_of (said_on x ss)) emptied_holds,
      w.1 ∙ ap (λ (x : Cache). cache_after x ss) emptied_holds,
    )

-- ---- what is not refused

matches_some : (o : Option ℕ) (n : ℕ) → o ≡ some n → matches o n ≡ 0
matches_some o n e = rw (e, eq-eqb n n refl)

judged_taken : (cache : Cache) (r : Row) → Taken cache r → judged_in cache r ≡ 0
unfolding judged
judged_taken cache (relation id space v identity cs) h = rw (h.0, h.1)
judged_taken cache (type id space v) h = refl
judged_taken cache (origin position v) h = refl
judged_taken cache (insert id new) h = matches_some _ _ h
judged_taken cache (update id new) h = matches_some _ _ h
judged_taken cache (update_from id which old new) h =
    let o : Option ℕ = counted (columns_of id cache) in
    let a : matches o (length old) ≡ 0 = matches_some o (length old) h.0 in
    let b : matches o (length new) ≡ 0 = matches_some o (length new) h.1 in
    rw (a, b)
judged_taken cache (delete id which old) h = matches_some _ _ h
judged_taken cache (truncate options ids) h = refl

pub taken_is_answered : TakenIsAnswered
unfolding took
taken_is_answered cache r h = rw (judged_taken cache r h)
