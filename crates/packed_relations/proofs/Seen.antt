-- The packed memory is seen as the plain one is.
use mathlib.Core.Path.{◌≡◌, refl, sym, ap, subst, ◌∙◌}
use mathlib.Core.Bool.{true}
use mathlib.Core.List.{List, [], ◌∷◌, ◌++◌}
use mathlib.Core.Logic.{inl, inr}
use Prim.Native.Nat.{ℕ, ◌≤◌}
use lib.ListN.{length}
use lib.Pow.{are_bytes}
use Rattle.rows.specs.Rows.{row_said}
use Rattle.rows.specs.Head.{Answer, refusal}
use Rattle.relations.specs.Memory.{Memory, emptied as former_emptied, message_of as former_message}
use Rattle.relations.specs.Laws.{memory_after as former_after, answers_on as former_answers}
use Rattle.relations.specs.Seen.{Seen, seen_in as former_seen, Holds, MessageLaws, HistoryLaws}
use Rattle.relations.proofs.Seen.{cache_laws}
use Rattle.packed_relations.specs.Packed.{Packed, packed, words_of, emptied, message_of, column_told}
use Rattle.packed_relations.specs.Laws.{answers_on, memory_after, AllBytes, NoneCrowded, Roomy}
use Rattle.packed_relations.specs.Seen.{seen_in, PackedLaws}
use Rattle.packed_relations.proofs.Alike.{answers_alike, lookups_alike}

same_seen : (names : List ℕ) (ss : List (List ℕ)) → AllBytes ss → Roomy names ss
    → seen_in (memory_after (emptied names) ss) ≡ former_seen (former_after former_emptied ss)
same_seen names ss b h = λ i. record { count = λ id. lookups_alike.count names ss b h id i; column = λ id k. lookups_alike.column names ss b h id k i }

all_and : (ss : List (List ℕ)) (s : List ℕ) → AllBytes ss → are_bytes s ≡ true → AllBytes (ss ++ (s ∷ []))
unfolding AllBytes
all_and [] s a b = (b, tt)
all_and (t ∷ ss) s a b = (a.0, all_and ss s a.1 b)

-- ---- the last answer

last_in : Answer → List Answer → Answer
last_in a [] = a
last_in a (b ∷ bs) = last_in b bs

last_answer : (p : Packed) (ss : List (List ℕ)) (s : List ℕ) (a : Answer)
    → last_in a (answers_on p (ss ++ (s ∷ []))) ≡ (message_of (memory_after p ss) (row_said s)).0
unfolding answers_on memory_after last_in
last_answer p [] s a = refl
last_answer p (t ∷ ss) s a = last_answer (message_of p (row_said t)).1 ss s (message_of p (row_said t)).0

former_last : (m : Memory) (ss : List (List ℕ)) (s : List ℕ) (a : Answer)
    → last_in a (former_answers m (ss ++ (s ∷ []))) ≡ (former_message (former_after m ss) (row_said s)).0
unfolding former_answers former_after last_in
former_last m [] s a = refl
former_last m (t ∷ ss) s a = former_last (former_message m (row_said t)).1 ss s (former_message m (row_said t)).0

same_answer : (names : List ℕ) → 129024 ≤ length names → (ss : List (List ℕ)) → AllBytes ss → (s : List ℕ) → are_bytes s ≡ true
    → (message_of (memory_after (emptied names) ss) (row_said s)).0 ≡ (former_message (former_after former_emptied ss) (row_said s)).0
same_answer names h ss b s c =
    sym (last_answer (emptied names) ss s (refusal 0))
    ∙ (ap (last_in (refusal 0)) (answers_alike names (ss ++ (s ∷ [])) (all_and ss s b c) (inl h)) ∙ former_last former_emptied ss s (refusal 0))

-- ---- the laws

history : (names : List ℕ) → 129024 ≤ length names → (ss : List (List ℕ)) → AllBytes ss → (s : List ℕ) → are_bytes s ≡ true
    → HistoryLaws (λ ss. seen_in (memory_after (emptied names) ss)) (λ ss s. (message_of (memory_after (emptied names) ss) (row_said s)).0) ss s
history names h' ss b s c =
    let h = cache_laws.from_empty ss s in
    let e = same_seen names ss b (inl h') in
    let f = same_seen names (ss ++ (s ∷ [])) (all_and ss s b c) (inl h') in
    let n : ℕ = length h.ids in
    let o : Seen = former_seen (former_after former_emptied ss) in
    let q : Seen = former_seen (former_after former_emptied (ss ++ (s ∷ []))) in
    record {
      ids = h.ids;
      held = subst (λ (x : Seen). Holds x h.ids) (sym e) h.held;
      most = h.most;
      next =
          subst (λ (x : Seen). MessageLaws x n s (message_of (memory_after (emptied names) ss) (row_said s)).0 (seen_in (memory_after (emptied names) (ss ++ (s ∷ [])))))
          (sym e)
          (subst (λ (x : Seen). MessageLaws o n s (message_of (memory_after (emptied names) ss) (row_said s)).0 x) (sym f)
          (subst (λ (x : Answer). MessageLaws o n s x q) (sym (same_answer names h' ss b s c)) h.next));
    }

none_yet : AllBytes []
unfolding AllBytes
none_yet = tt

none_crowded : (names : List ℕ) → Roomy names []
unfolding answers_on NoneCrowded
none_crowded names = inr tt

nothing_held : (names : List ℕ) → seen_in (emptied names) ≡ former_seen former_emptied
unfolding memory_after former_after
nothing_held names = same_seen names [] none_yet (none_crowded names)

same_told : (held : ℕ) (ids counts words names others : List ℕ) (id k : ℕ) → length names ≡ length others
    → column_told (packed held ids counts (words_of words names)) id k ≡ column_told (packed held ids counts (words_of words others)) id k
same_told held ids counts words names others id k e = rw e

pub packed_laws : PackedLaws
packed_laws = record {
  empty_count = λ names id. ap (λ (o : Seen). o.count id) (nothing_held names) ∙ cache_laws.empty_count id;
  empty_column = λ names id k. ap (λ (o : Seen). o.column id k) (nothing_held names) ∙ cache_laws.empty_column id k;
  from_empty = history;
  names_unread = same_told;
}
