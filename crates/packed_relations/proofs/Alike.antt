-- The packed memory beside the former one: a step of the one is a step of the other.
use mathlib.Core.Path.{◌≡◌, refl, sym, ap, subst, ◌∙◌}
use mathlib.Core.Bool.{Bool, true, false}
use mathlib.Core.List.{List, [], ◌∷◌}
use mathlib.Core.Option.{some, none}
use mathlib.Core.Logic.{◌⊎◌, inl, inr}
use Prim.Native.Nat.{ℕ, ◌+◌, ◌*◌, ◌<◌, ◌≤◌, min}
use native.Mathlib.Omega.{arith}
use lib.ListN.{length, take, drop, replicate, length-take, length-append, length-replicate}
use lib.Seq.{take-append_seam}
use lib.Dec.{eqb, leb, ltb}
use lib.Pow.{are_bytes}
use borrow.Author.Tests.{leb-false, lt-leb, ltb-true, ltb-false}
use Rattle.wire.specs.Bytes.{pick}
use Rattle.wire.proofs.Laws.{impossible, by_test}
use Rattle.rows.specs.Layout.{All}
use Rattle.rows.specs.Rows.{Described, Row, relation, type, origin, insert, update, update_from, delete, truncate, Said, row, no_row, refused_by, row_said}
use Rattle.rows.specs.RowLayout.{DescribedFits, RowFits}
use Rattle.rows.specs.Head.{Answer, head, head_of, answer_of, refusal}
use Rattle.rows.proofs.Sent.{read_is_sent}
use Rattle.relations.specs.Cache.{fits, judged, answered}
use Rattle.relations.specs.Memory.{Memory, held_ids, slot_in, count_at, count_in, cache_of, judged_by, stored as former_stored, leaves as former_leaves, message_of as former_message, emptied as former_emptied}
use Rattle.relations.specs.Answers.{related_of, column_told as former_told}
use Rattle.relations.specs.Laws.{named, answers_on as former_answers, memory_after as former_after}
use Rattle.relations.proofs.Held.{slot_unfound, length_relations}
use Rattle.relations.proofs.Theorems.{emptied_sized, emptied_holds, lookups}
use Rattle.packed_relations.specs.Packed.{Packed, emptied, common, room_in, new_lens, has_room_for, judged_in, leaves, message_of, told_among, column_told}
use Rattle.packed_relations.specs.Laws.{answers_on, memory_after, AllBytes, NoneCrowded, Roomy, cache_names, AnswersAlike, LookupsAlike, NamesLie, BehindStays, Crowded, Uncrowded, ToldWithin, RefusedLeavesAll}
use Rattle.packed_relations.proofs.Leaves.{same_answered}
use Rattle.packed_relations.proofs.Says.{SlotsSay, slots_look, ids_of}
use Rattle.packed_relations.proofs.Kept.{view, Good, ids_are, full_room, lies_in, stored_view, good_then, long_then, no_room, has_room, behind_then}

-- ---- one message

-- what a row's values are where its data are bytes
abbrev SaidFits : Said → Type 0
SaidFits (row r) = RowFits r
SaidFits no_row = Unit
SaidFits (refused_by n) = Unit

said_fits : (s : List ℕ) → are_bytes s ≡ true → (said : Said) → row_said s ≡ said → SaidFits said
said_fits s b (row r) e = (read_is_sent s r b e).0
said_fits s b no_row e = tt
said_fits s b (refused_by n) e = tt

-- after an answer, other words and names, with which the one memory is the other again
record Left (m : Memory) (ws ns : List ℕ) (answer : Said) : Type 0 where
  words : List ℕ
  names : List ℕ
  same : leaves (view m ws ns) answer ≡ view (former_leaves m answer) words names
  good : Good (former_leaves m answer) words names
  long : length names ≡ length ns
  behind : let held : List ℕ = cache_names (cache_of (former_leaves m answer)) in drop (length held) names ≡ drop (length held) ns

-- the former answer, and what it leaves
record Step (m : Memory) (ws ns : List ℕ) (said : Said) : Type 0 where
  answer : answered (judged_in (view m ws ns)) said ≡ answered (judged_by m) said
  left : Left m ws ns (answered (judged_by m) said)

-- all bytes are lent, or this answer is not 4
abbrev Has : Memory → List ℕ → List ℕ → Said → Type 0
Has m ws ns said = (129024 ≤ length ns) ⊎ (answer_of (answered (judged_in (view m ws ns)) said) ≡ refusal 4 → ⊥)

module _ (m : Memory) (ws ns : List ℕ) (g : Good m ws ns) where
  as_it_was : (answer : Said) → leaves (view m ws ns) answer ≡ view m ws ns → former_leaves m answer ≡ m → Left m ws ns answer
  as_it_was answer e f = record { words = ws; names = ns; same = e ∙ rw f; good = rw f g; long = refl; behind = refl }

  -- a row that changes nothing, or its refusal
  left_row : (r : Row) (j : ℕ) → leaves (view m ws ns) (row r) ≡ view m ws ns → former_leaves m (row r) ≡ m
      → Left m ws ns (pick (eqb j 0) (row r) (refused_by j))
  left_row r j e f = by_test (eqb j 0) (λ t. rw t (as_it_was (row r) e f)) (λ x. rw x (as_it_was (refused_by j) refl refl))

  other : (r : Row) → none ≡ related_of (answer_of (row r)) → leaves (view m ws ns) (row r) ≡ view m ws ns → former_leaves m (row r) ≡ m
      → Step m ws ns (row r)
  other r n e f = record { answer = same_answered (view m ws ns) (row r) n; left = left_row r (judged_by m r) e f }

  module _ (id : ℕ) (space v : List ℕ) (identity : ℕ) (ds : List Described) (few : slot_in m id < 64) (f : fits ds ≡ true) where
    abbrev rel : Row
    rel = relation id space v identity ds

    -- where there is no room, the answer is 4
    crowded : has_room_for (view m ws ns) (slot_in m id) (new_lens ds) ≡ false → answered (judged_in (view m ws ns)) (row rel) ≡ refused_by 4
    unfolding judged
    crowded h = rw (lt-leb 64 (slot_in m id) few, f, h)

    roomy : Has m ws ns (row rel) → has_room_for (view m ws ns) (slot_in m id) (new_lens ds) ≡ true
    roomy (inl all) = full_room m ws ns g id ds few f all
    roomy (inr not) =
        by_test (has_room_for (view m ws ns) (slot_in m id) (new_lens ds))
        (λ t. t)
        (λ h. absurd (not (ap answer_of (crowded h))))

    taken : All DescribedFits ds → has_room_for (view m ws ns) (slot_in m id) (new_lens ds) ≡ true → Step m ws ns (row rel)
    unfolding judged
    taken a h =
        let lies = lies_in m ws ns g id ds few h in
        record {
          answer = rw (lt-leb 64 (slot_in m id) few, f, h);
          left =
              rw (lt-leb 64 (slot_in m id) few, f)
              (record {
                words = _;
                names = _;
                same = stored_view m ws ns g id ds few f a lies;
                good = good_then m ws ns g id ds few f a lies;
                long = long_then m ws ns g id ds few f a lies;
                behind = behind_then m ws ns g id ds few f a lies;
              });
        }

  step : (said : Said) → SaidFits said → Has m ws ns said → Step m ws ns said
  unfolding judged
  step (row (relation id space v identity cs)) a h =
      by_test (leb 64 (slot_in m id))
      (λ t. record { answer = rw t; left = rw t (as_it_was (refused_by 28) refl refl) })
      (λ x.
      let few : slot_in m id < 64 = leb-false 64 (slot_in m id) x in
      by_test (fits cs)
      (λ t. taken id space v identity cs few t a.5 (roomy id space v identity cs few t h))
      (λ y. record { answer = rw (x, y); left = rw (x, y) (as_it_was (refused_by 29) refl refl) }))
  step (row (type id space v)) a h = other (type id space v) refl refl refl
  step (row (origin position v)) a h = other (origin position v) refl refl refl
  step (row (insert id new)) a h = other (insert id new) refl refl refl
  step (row (update id new)) a h = other (update id new) refl refl refl
  step (row (update_from id which old new)) a h = other (update_from id which old new) refl refl refl
  step (row (delete id which old)) a h = other (delete id which old) refl refl refl
  step (row (truncate options ids)) a h = other (truncate options ids) refl refl refl
  step no_row a h = record { answer = refl; left = as_it_was no_row refl refl }
  step (refused_by n) a h = record { answer = refl; left = as_it_was (refused_by n) refl refl }

  message_same : (said : Said) → (x : Step m ws ns said)
      → message_of (view m ws ns) said ≡ ((former_message m said).0, view (former_message m said).1 x.left.words x.left.names)
  unfolding message_of former_message
  message_same said x =
      ap (λ (y : Said). (answer_of y, leaves (view m ws ns) y)) x.answer
      ∙ ap (λ (p : Packed). (answer_of (answered (judged_by m) said), p)) x.left.same

  message_good : (said : Said) → (x : Step m ws ns said) → Good (former_message m said).1 x.left.words x.left.names
  unfolding former_message
  message_good said x = x.left.good

  message_has : (said : Said) → (129024 ≤ length ns) ⊎ ((message_of (view m ws ns) said).0 ≡ refusal 4 → ⊥) → Has m ws ns said
  unfolding message_of
  message_has said h = h

-- ---- any list of messages

abbrev Lent : Memory → List ℕ → List ℕ → List (List ℕ) → Type 0
Lent m ws ns ss = (129024 ≤ length ns) ⊎ NoneCrowded (answers_on (view m ws ns) ss)

record End (m : Memory) (ws ns : List ℕ) (ss : List (List ℕ)) : Type 0 where
  words : List ℕ
  names : List ℕ
  answers : answers_on (view m ws ns) ss ≡ former_answers m ss
  same : memory_after (view m ws ns) ss ≡ view (former_after m ss) words names
  good : Good (former_after m ss) words names
  long : length names ≡ length ns

first_has : (p : Packed) (s : List ℕ) (ss : List (List ℕ)) (k : ℕ) → (129024 ≤ k) ⊎ NoneCrowded (answers_on p (s ∷ ss))
    → (129024 ≤ k) ⊎ ((message_of p (row_said s)).0 ≡ refusal 4 → ⊥)
unfolding answers_on NoneCrowded
first_has p s ss k (inl a) = inl a
first_has p s ss k (inr b) = inr b.0

next_has : (p p' : Packed) (s : List ℕ) (ss : List (List ℕ)) (k k' : ℕ) → k' ≡ k → (message_of p (row_said s)).1 ≡ p'
    → (129024 ≤ k) ⊎ NoneCrowded (answers_on p (s ∷ ss)) → (129024 ≤ k') ⊎ NoneCrowded (answers_on p' ss)
unfolding answers_on NoneCrowded
next_has p p' s ss k k' e f (inl a) = inl (omega arith)
next_has p p' s ss k k' e f (inr b) = inr (subst (λ (q : Packed). NoneCrowded (answers_on q ss)) f b.1)

end : (m : Memory) (ws ns : List ℕ) (ss : List (List ℕ)) → Good m ws ns → AllBytes ss → Lent m ws ns ss → End m ws ns ss
unfolding answers_on memory_after former_answers former_after AllBytes
end m ws ns [] g b h = record { words = ws; names = ns; answers = refl; same = refl; good = g; long = refl }
end m ws ns (s ∷ ss) g b h =
    let said : Said = row_said s in
    let p : Packed = view m ws ns in
    let x : Step m ws ns said = step m ws ns g said (said_fits s b.0 said refl) (message_has m ws ns g said (first_has p s ss (length ns) h)) in
    let m' : Memory = (former_message m said).1 in
    let p' : Packed = view m' x.left.words x.left.names in
    let e : message_of p said ≡ ((former_message m said).0, p') = message_same m ws ns g said x in
    let h' = next_has p p' s ss (length ns) (length x.left.names) x.left.long (ap (λ (y : Answer × Packed). y.1) e) h in
    let i = end m' x.left.words x.left.names ss (message_good m ws ns g said x) b.1 h' in
    record {
      words = i.words;
      names = i.names;
      answers = ap (λ (y : Answer × Packed). y.0 ∷ answers_on y.1 ss) e ∙ ap (λ (y : List Answer). (former_message m said).0 ∷ y) i.answers;
      same = ap (λ (y : Answer × Packed). memory_after y.1 ss) e ∙ i.same;
      good = i.good;
      long = i.long ∙ x.left.long;
    }

-- no word
abbrev zeros : List ℕ
zeros = replicate {A = ℕ} 2048 0

empty_view : (names : List ℕ) → emptied names ≡ view former_emptied zeros names
unfolding emptied former_emptied
empty_view names = refl

empty_good : (names : List ℕ) → Good former_emptied zeros names
unfolding SlotsSay cache_names
empty_good names = record {
  sized = emptied_sized;
  long = length-replicate {0} {A = ℕ} 2048 0;
  says = rw emptied_holds tt;
  rest = names;
  names = rw emptied_holds;
  few = rw emptied_holds (omega arith);
}

from_empty : (names : List ℕ) (ss : List (List ℕ)) → AllBytes ss → Roomy names ss → End former_emptied zeros names ss
from_empty names ss b h = end former_emptied zeros names ss (empty_good names) b (rw (empty_view names) at h)

same_end : (names : List ℕ) (ss : List (List ℕ)) (b : AllBytes ss) (h : Roomy names ss)
    → memory_after (emptied names) ss ≡ view (former_after former_emptied ss) (from_empty names ss b h).words (from_empty names ss b h).names
same_end names ss b h = ap (λ (p : Packed). memory_after p ss) (empty_view names) ∙ (from_empty names ss b h).same

pub answers_alike : AnswersAlike
answers_alike names ss b h = ap (λ (p : Packed). answers_on p ss) (empty_view names) ∙ (from_empty names ss b h).answers

-- ---- lookups

column_alike : (m : Memory) (ws ns : List ℕ) → Good m ws ns → (id k : ℕ)
    → named ns (column_told (view m ws ns) id k) ≡ named m.columns.names (former_told m id k)
column_alike m ws ns g id k =
    let r : ℕ = slot_in m id in
    let cache = cache_of m in
    let len : length cache ≡ length (held_ids m) = length_relations m (held_ids m) 0 in
    let most : length (held_ids m) ≤ 64 = omega (arith, length-take m.held m.ids, g.sized.ids) in
    let ids : ids_of cache ≡ held_ids m = ids_are m (held_ids m) 0 in
    let fit : 0 + length (cache_names cache) ≤ room_in ns =
    omega (arith, g.few, ap (λ (y : List ℕ). length y) g.names, length-append (cache_names cache) g.rest) in
    by_test (ltb r (length (held_ids m)))
    (λ t.
    let less : r < length (held_ids m) = ltb-true r (length (held_ids m)) t in
    let z : 0 + r ≡ r = omega arith in
    let look = slots_look m.counts ws ns (room_in ns) cache 0 0 [] g.rest g.says g.names refl fit id k (rw (ids, len) less) in
    let told : column_told (view m ws ns) id k ≡ told_among (room_in ns) ws (32 * r) (some (count_at m.counts r)) k =
    rw (lt-leb 64 r (omega (arith, less, most)), t) in
    ap (named ns) told ∙ (rw (ids, z) at look) ∙ sym (lookups.column m g.sized id k))
    (λ f.
    let out : length (held_ids m) ≤ r = ltb-false r (length (held_ids m)) f in
    nothing (leb 64 r) (rw f) ∙ sym (lookups.column m g.sized id k ∙ rw (slot_unfound m id out)))
  where
    nothing : (b : Bool) → count_in m id ≡ none → named ns (pick (leb 64 (slot_in m id)) none (told_among (room_in ns) ws (32 * slot_in m id) (count_in m id) k)) ≡ none
    nothing b e = by_test (leb 64 (slot_in m id)) (λ t. rw t) (λ f. rw (f, e))

pub lookups_alike : LookupsAlike
lookups_alike =
    record {
      count = (λ names ss b h id. ap (λ (p : Packed). count_in (common p) id) (same_end names ss b h));
      column =
          (λ names ss b h id k.
          let x = from_empty names ss b h in
          ap (λ (p : Packed). named p.columns.names (column_told p id k)) (same_end names ss b h)
          ∙ column_alike (former_after former_emptied ss) x.words x.names x.good id k);
    }

-- ---- where the names lie

pub names_lie : NamesLie
names_lie names ss b h =
    let x = from_empty names ss b h in
    let held : List ℕ = cache_names (cache_of (former_after former_emptied ss)) in
    ap (λ (p : Packed). take (length held) p.columns.names) (same_end names ss b h)
    ∙ ap (take (length held)) x.good.names
    ∙ take-append_seam held x.good.rest

left_behind : (m : Memory) (ws ns : List ℕ) (said : Said) (y : Step m ws ns said)
    → let held : List ℕ = cache_names (cache_of (former_message m said).1) in drop (length held) y.left.names ≡ drop (length held) ns
unfolding former_message
left_behind m ws ns said y = y.left.behind

pub behind_stays : BehindStays
behind_stays names ss b h s c not =
    let x = from_empty names ss b h in
    let m : Memory = former_after former_emptied ss in
    let p : Packed = view m x.words x.names in
    let e : memory_after (emptied names) ss ≡ p = same_end names ss b h in
    let said : Said = row_said s in
    let not' : (message_of p said).0 ≡ refusal 4 → ⊥ = subst (λ (q : Packed). (message_of q said).0 ≡ refusal 4 → ⊥) e not in
    let y = step m x.words x.names x.good said (said_fits s c said refl) (message_has m x.words x.names x.good said (inr not')) in
    let held : List ℕ = cache_names (cache_of (former_message m said).1) in
    ap (λ (q : Packed). drop (length held) (message_of q said).1.columns.names) e
    ∙ (ap (λ (q : Answer × Packed). drop (length held) q.1.columns.names) (message_same m x.words x.names x.good said y)
    ∙ (left_behind m x.words x.names said y
    ∙ ap (λ (q : Packed). drop (length held) q.columns.names) (sym e)))

-- ---- too little room

-- a Relation that is answered as such was not refused
not_refused : (m : Memory) (id : ℕ) (space v : List ℕ) (identity : ℕ) (ds : List Described)
    → (former_message m (row (relation id space v identity ds))).0 ≡ head (head_of (relation id space v identity ds))
    → (slot_in m id < 64) × (fits ds ≡ true)
unfolding former_message judged
not_refused m id space v identity ds e =
    by_test (leb 64 (slot_in m id))
    (λ t. let h : refusal 28 ≡ head (head_of (relation id space v identity ds)) = rw t at e in let z : ◌≡◌ {A = ℕ} 0 1 = cc in impossible z)
    (λ f.
    by_test (fits ds)
    (λ t. (leb-false 64 (slot_in m id) f, t))
    (λ y. let h : refusal 29 ≡ head (head_of (relation id space v identity ds)) = rw (f, y) at e in let z : ◌≡◌ {A = ℕ} 0 1 = cc in impossible z))

former_left : (m : Memory) (id : ℕ) (space v : List ℕ) (identity : ℕ) (ds : List Described) → slot_in m id < 64 → fits ds ≡ true
    → (former_message m (row (relation id space v identity ds))).1 ≡ former_stored m (slot_in m id) id ds
unfolding former_message judged
former_left m id space v identity ds few f = rw (lt-leb 64 (slot_in m id) few, f)

crowded_answer : (m : Memory) (ws ns : List ℕ) → Good m ws ns → (id : ℕ) (space v : List ℕ) (identity : ℕ) (ds : List Described)
    → (former_message m (row (relation id space v identity ds))).0 ≡ head (head_of (relation id space v identity ds))
    → room_in ns < length (cache_names (cache_of (former_message m (row (relation id space v identity ds))).1))
    → (message_of (view m ws ns) (row (relation id space v identity ds))).0 ≡ refusal 4
unfolding message_of
crowded_answer m ws ns g id space v identity ds e h =
    let w = not_refused m id space v identity ds e in
    let l = rw (former_left m id space v identity ds w.0 w.1) at h in
    ap answer_of (crowded m ws ns g id space v identity ds w.0 w.1 (no_room m ws ns g id ds w.0 w.1 l))

pub crowded_is_refused : Crowded
crowded_is_refused names ss b h s c id space v identity ds e f l =
    let x = from_empty names ss b h in
    let m : Memory = former_after former_emptied ss in
    let f' = rw e at f in
    let k : room_in x.names ≡ room_in names = ap (λ (y : ℕ). min y 129024) x.long in
    let l' = rw (e, ← k) at l in
    ap (λ (p : Packed). (message_of p (row_said s)).0) (same_end names ss b h)
    ∙ rw e (crowded_answer m x.words x.names x.good id space v identity ds f' l')

uncrowded_answer : (m : Memory) (ws ns : List ℕ) → Good m ws ns → (id : ℕ) (space v : List ℕ) (identity : ℕ) (ds : List Described)
    → (former_message m (row (relation id space v identity ds))).0 ≡ head (head_of (relation id space v identity ds))
    → length (cache_names (cache_of (former_message m (row (relation id space v identity ds))).1)) ≤ room_in ns
    → (message_of (view m ws ns) (row (relation id space v identity ds))).0 ≡ head (head_of (relation id space v identity ds))
unfolding message_of judged
uncrowded_answer m ws ns g id space v identity ds e h =
    let w = not_refused m id space v identity ds e in
    let l = rw (former_left m id space v identity ds w.0 w.1) at h in
    let q = has_room m ws ns g id ds w.0 w.1 l in
    rw (lt-leb 64 (slot_in m id) w.0, w.1, q)

pub uncrowded_is_taken : Uncrowded
uncrowded_is_taken names ss b h s c id space v identity ds e f l =
    let x = from_empty names ss b h in
    let m : Memory = former_after former_emptied ss in
    let f' = rw e at f in
    let k : room_in x.names ≡ room_in names = ap (λ (y : ℕ). min y 129024) x.long in
    let l' = rw (e, ← k) at l in
    ap (λ (p : Packed). (message_of p (row_said s)).0) (same_end names ss b h)
    ∙ rw e (uncrowded_answer m x.words x.names x.good id space v identity ds f' l')

-- ---- any memory

pub told_within : ToldWithin
told_within p id k =
    let r : ℕ = slot_in (common p) id in
    by_test (leb 64 r)
    (λ t. rw t tt)
    (λ f.
    by_test (ltb r (length (held_ids (common p))))
    (λ t. by_test (leb (count_at p.counts r) k) (λ x. rw (f, t, x) tt) (λ y. rw (f, t, y) (omega arith)))
    (λ g. rw (f, g) tt))

left_all : (p : Packed) (r : Row) (j n : ℕ) → answer_of (pick (eqb j 0) (row r) (refused_by j)) ≡ refusal n
    → leaves p (pick (eqb j 0) (row r) (refused_by j)) ≡ p
left_all p r j n e =
    by_test (eqb j 0)
    (λ t. let h : answer_of (row r) ≡ refusal n = rw t at e in let z : ◌≡◌ {A = ℕ} 0 1 = cc in impossible z)
    (λ f. rw f)

pub refused_leaves_all : RefusedLeavesAll
unfolding message_of
refused_leaves_all p (row r) n e = left_all p r (judged_in p r) n e
refused_leaves_all p no_row n e = refl
refused_leaves_all p (refused_by k) n e = refl
