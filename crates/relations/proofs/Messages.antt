-- One message: what its data say decides the answer and what the memory is after it.
use mathlib.Core.Path.{◌≡◌, refl, sym, ap}
use mathlib.Core.Bool.{true}
use mathlib.Core.List.{List, [], ◌∷◌}
use mathlib.Core.Option.{some, none}
use Prim.Native.Nat.{ℕ, ◌+◌}
use lib.ListN.{length}
use lib.Dec.{eqb}
use lib.Pow.{are_bytes}
use Rattle.wire.proofs.Laws.{impossible, by_test}
use Rattle.rows.specs.Rows.{Described, Row, relation, type, origin, insert, update, update_from, delete, truncate, Said, row, no_row, refused_by, row_said}
use Rattle.rows.specs.RowLayout.{InTurn}
use Rattle.rows.specs.Head.{head, head_of, answer_of, description_at}
use Rattle.rows.proofs.Readers.{readers_answer}
use Rattle.relations.specs.Cache.{judged}
use Rattle.relations.specs.Memory.{Memory, count_in, judged_by, leaves, message_of, described_from}
use Rattle.relations.specs.Answers.{answer_as, related_of, head_judged}

-- a row that changes nothing
unchanged : (m : Memory) (r : Row) → leaves m (row r) ≡ m → (answer_as (judged_by m r) (head (head_of r)), m) ≡ message_of m (row r)
unfolding message_of
unchanged m r e =
    by_test (eqb (judged_by m r) 0)
    (λ t. rw (t, e))
    (λ f. rw f)

pub other_answered : (m : Memory) (said : Said) → none ≡ related_of (answer_of said) → (answer_as (head_judged (count_in m) (answer_of said)) (answer_of said), m) ≡ message_of m said
unfolding judged message_of
other_answered m (row (relation id space v identity cs)) e = let z : ◌≡◌ {A = ℕ} 0 1 = cc in impossible z
other_answered m (row (type id space v)) e = refl
other_answered m (row (origin position v)) e = refl
other_answered m (row (insert id new)) e = unchanged m (insert id new) refl
other_answered m (row (update id new)) e = unchanged m (update id new) refl
other_answered m (row (update_from id which old new)) e = unchanged m (update_from id which old new) refl
other_answered m (row (delete id which old)) e = unchanged m (delete id which old) refl
other_answered m (row (truncate options ids)) e = refl
other_answered m no_row e = refl
other_answered m (refused_by n) e = refl

-- ---- a Relation

-- readers in turn answer the descriptions
in_turn : (s : List ℕ) (cs : List Described) (i j : ℕ) → InTurn (description_at s) i cs j → described_from s (length cs) i ≡ cs
unfolding described_from
in_turn s [] i j h = refl
in_turn s (c ∷ cs) i j h = rw (h.1, in_turn s cs h.0 j h.2)

-- the Relation that the code was told of
pub record Relation (s : List ℕ) (id n from : ℕ) : Type 0 where
  pub space : List ℕ
  pub name : List ℕ
  pub identity : ℕ
  pub described : List Described
  pub said : row_said s ≡ row (relation id space name identity described)
  pub read : described_from s n from ≡ described
  pub count : length described ≡ n

related : (s : List ℕ) → are_bytes s ≡ true → (id n from : ℕ) (said : Said) → row_said s ≡ said → some (id, n, from) ≡ related_of (answer_of said) → Relation s id n from
related s b id n from (row (relation j space v identity cs)) e h =
    let w = readers_answer s (relation j space v identity cs) b e in
    let d : described_from s (length cs) (10 + length space + length v) ≡ cs = in_turn s cs (10 + length space + length v) _ w.0 in
    let p : ◌≡◌ {A = ℕ × ℕ × ℕ} (id, n, from) (j, length cs, 10 + length space + length v) = cc in
    let x : id ≡ j = ap (λ (q : ℕ × ℕ × ℕ). q.0) p in
    let y : n ≡ length cs = ap (λ (q : ℕ × ℕ × ℕ). q.1) p in
    let z : from ≡ 10 + length space + length v = ap (λ (q : ℕ × ℕ × ℕ). q.2) p in
    record { space = space; name = v; identity = identity; described = cs; said = rw x e; read = rw (y, z) d; count = sym y }
related s b id n from (row (type j space v)) e h = let z : ◌≡◌ {A = ℕ} 0 1 = cc in impossible z
related s b id n from (row (origin position v)) e h = let z : ◌≡◌ {A = ℕ} 0 1 = cc in impossible z
related s b id n from (row (insert j new)) e h = let z : ◌≡◌ {A = ℕ} 0 1 = cc in impossible z
related s b id n from (row (update j new)) e h = let z : ◌≡◌ {A = ℕ} 0 1 = cc in impossible z
related s b id n from (row (update_from j which old new)) e h = let z : ◌≡◌ {A = ℕ} 0 1 = cc in impossible z
related s b id n from (row (delete j which old)) e h = let z : ◌≡◌ {A = ℕ} 0 1 = cc in impossible z
related s b id n from (row (truncate options ids)) e h = let z : ◌≡◌ {A = ℕ} 0 1 = cc in impossible z
related s b id n from no_row e h = let z : ◌≡◌ {A = ℕ} 0 1 = cc in impossible z
related s b id n from (refused_by k) e h = let z : ◌≡◌ {A = ℕ} 0 1 = cc in impossible z

pub relation_told : (s : List ℕ) → are_bytes s ≡ true → (id n from : ℕ) → some (id, n, from) ≡ related_of (answer_of (row_said s)) → Relation s id n from
relation_told s b id n from h = related s b id n from (row_said s) refl h
