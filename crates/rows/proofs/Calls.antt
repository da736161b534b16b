-- Calls over words, from what the readers answer; and parts within the data, from the rows' own bytes.
use mathlib.Core.Path.{◌≡◌, refl, ap, ◌∙◌}
use mathlib.Core.Bool.{true}
use mathlib.Core.List.{List, [], ◌∷◌, ◌++◌}
use Prim.Native.Nat.{ℕ, ◌+◌, ◌<◌, ◌≤◌}
use native.Mathlib.Omega.{arith}
use lib.ListN.{length, get_or, length-append}
use lib.Pow.{are_bytes}
use Rattle.wire.specs.Bytes.{be_bytes}
use Rattle.wire.proofs.Laws.{length_be_bytes}
use Rattle.wire.specs.Int.{int_bytes}
use Rattle.rows.specs.declared.Which.{Which}
use Rattle.rows.specs.declared.Which.TheVariants.{Key, Old}
use Rattle.rows.specs.Layout.{Read, got, refused, mapped}
use Rattle.rows.specs.Rows.{Cell, null, unchanged, text, binary, Described, described, Row, relation, type, origin, insert, update, update_from}
use Rattle.rows.specs.Rows.{delete, truncate, cell_bytes, described_bytes, row_bytes, which_letter, Said, row, no_row, refused_by, row_said}
use Rattle.rows.specs.Head.{head_of, cell_at, column_at, described_at, description_at, identifier_at, answer_of}
use Rattle.rows.specs.RowLayout.{InTurn}
use Rattle.rows.proofs.Parts.{part_laws}
use Rattle.rows.proofs.Readers.{readers_answer}
use Rattle.rows.proofs.Sent.{read_is_sent}
use Rattle.rows.proofs.Within.{reader_laws}
use Rattle.rows.specs.Words.{head_words, no_words, column_words, column_reply, description_words, description_reply, identifier_words}
use Rattle.rows.specs.Words.{row_reply, row_call, column_call, description_call, identifier_call}
use Rattle.rows.specs.Calls.{Word, TellsColumn, TellsDescription, TellsIdentifier, CallsInTurn, letter_of, Answered}
use Rattle.rows.specs.Calls.{RowIsAnswered, NoRowIsAnswered, PartWithin, ColumnIsWithin, DescriptionIsWithin, RowIsWithin}

-- ---- calls in turn

letter_told : (which : Which) → which_letter which ≡ letter_of which
letter_told Key = refl
letter_told Old = refl

-- where each reader answers, so does each call
in_turn : {A : Type 0} (f : ℕ → Read A) (call : ℕ → ℕ × List ℕ) (Tells : List ℕ → A → Type 0) (words : ℕ → A → List ℕ)
    → ((i : ℕ) (v : A) (k : ℕ) → f i ≡ got v k → (call i ≡ (k, words i v)) × (0 < k) × Word (words i v) 0 0 × Tells (words i v) v)
    → (vs : List A) (i j : ℕ) → InTurn f i vs j → CallsInTurn call Tells i vs j
in_turn f call Tells words one [] i j h = h
in_turn f call Tells words one (v ∷ vs) i j h =
    let o = one i v h.0 h.1 in
    (h.0, words i v, o.0, o.1, o.2, o.3, in_turn f call Tells words one vs h.0 j h.2)

module _ (s : List ℕ) (b : are_bytes s ≡ true) where
  abbrev cell_words : ℕ → Cell → List ℕ
  cell_words i c = column_words (cell_at i c)

  column_told : (i : ℕ) (c : Cell) (k : ℕ) → column_at s i ≡ got c k → Word (cell_words i c) 0 0 × TellsColumn s (cell_words i c) c
  column_told i null k e = (refl, refl)
  column_told i unchanged k e = (refl, refl)
  column_told i (text v) k e = (refl, (refl, (part_laws.text_part s b i v k e, refl)))
  column_told i (binary v) k e = (refl, (refl, (part_laws.binary_part s b i v k e, refl)))

  column_called : (i : ℕ) (c : Cell) (k : ℕ) → column_at s i ≡ got c k
      → (column_call s i ≡ (k, cell_words i c)) × (0 < k) × Word (cell_words i c) 0 0 × TellsColumn s (cell_words i c) c
  column_called i c k e =
      let l = reader_laws.column s i c k e in
      let t = column_told i c k e in
      (rw e, omega (arith, l.1), t.0, t.1)

  abbrev described_words : ℕ → Described → List ℕ
  described_words i d = description_words (described_at i d)

  description_called : (i : ℕ) (d : Described) (k : ℕ) → description_at s i ≡ got d k
      → (description_call s i ≡ (k, described_words i d)) × (0 < k) × Word (described_words i d) 0 0 × TellsDescription s (described_words i d) d
  description_called i (described flags v oid modifier) k e =
      let l = reader_laws.description s i (described flags v oid modifier) k e in
      (rw e, omega (arith, l.1), refl, (refl, (part_laws.description_part s b i flags v oid modifier k e, refl), refl, refl))

  identifier_called : (i id k : ℕ) → identifier_at s i ≡ got id k
      → (identifier_call s i ≡ (k, identifier_words id)) × (0 < k) × Word (identifier_words id) 0 0 × TellsIdentifier (identifier_words id) id
  identifier_called i id k e = let l = reader_laws.identifier s i id k e in (rw e, omega (arith, l.0), refl, refl)

  columns_called : (i : ℕ) (cs : List Cell) (j : ℕ) → InTurn (column_at s) i cs j → CallsInTurn (column_call s) (TellsColumn s) i cs j
  columns_called i cs j h = in_turn (column_at s) (column_call s) (TellsColumn s) cell_words column_called cs i j h

  row_answered : (r : Row) → row_said s ≡ row r → Answered s (head_words (head_of r)) r
  row_answered (relation id space v identity cs) h =
      let w = readers_answer s (relation id space v identity cs) b h in
      let p = part_laws.relation_parts s b id space v identity cs h in
      let called = in_turn (description_at s) (description_call s) (TellsDescription s) described_words description_called cs _ _ w.0 in
      (refl, refl, refl, (p.0, refl), (p.1, refl), (refl, _, called, w.1))
  row_answered (type id space v) h =
      let p = part_laws.type_parts s b id space v h in
      (refl, refl, (p.0, refl), (p.1, refl))
  row_answered (origin position v) h = (refl, refl, (part_laws.origin_part s b position v h, refl))
  row_answered (insert id new) h =
      let w = readers_answer s (insert id new) b h in
      (refl, refl, (refl, _, columns_called 8 new _ w.0, w.1))
  row_answered (update id new) h =
      let w = readers_answer s (update id new) b h in
      (refl, refl, refl, (refl, _, columns_called 8 new _ w.0, w.1))
  row_answered (update_from id which old new) h =
      let w = readers_answer s (update_from id which old new) b h in (
        refl,
        refl,
        letter_told which,
        (refl, _, columns_called 8 old _ w.0.0, w.0.1),
        (refl, _, columns_called _ new _ w.1.0, w.1.1),
      )
  row_answered (delete id which old) h =
      let w = readers_answer s (delete id which old) b h in
      (refl, refl, letter_told which, (refl, _, columns_called 8 old _ w.0, w.1))
  row_answered (truncate options ids) h =
      let w = readers_answer s (truncate options ids) b h in
      let called = in_turn (identifier_at s) (identifier_call s) TellsIdentifier (λ i id. identifier_words id) identifier_called ids 6 _ w.0 in
      (refl, refl, (refl, _, called, w.1))

pub row_is_answered : RowIsAnswered
row_is_answered s r b h =
    let e : row_call s ≡ (0, head_words (head_of r)) = rw h in
    rw e (refl, row_answered s b r h)

pub no_row_is_answered : NoRowIsAnswered
no_row_is_answered s h = let e : row_call s ≡ (0, no_words) = rw h in rw e (refl, refl)

-- ---- parts

module _ (s : List ℕ) (i : ℕ) where
  column_within : (r : Read Cell) → column_at s i ≡ r → let w = (column_reply (mapped (cell_at i) r)).1 in PartWithin s (get_or w 2 0) (get_or w 3 0)
  unfolding cell_bytes
  column_within (got null j) e = omega arith
  column_within (got unchanged j) e = omega arith
  column_within (got (text v) j) e =
      let l = reader_laws.column s i (text v) j e in
      omega (arith, l, length-append (be_bytes 4 (length v)) v, length_be_bytes 4 (length v))
  column_within (got (binary v) j) e =
      let l = reader_laws.column s i (binary v) j e in
      omega (arith, l, length-append (be_bytes 4 (length v)) v, length_be_bytes 4 (length v))
  column_within (refused n) e = omega arith

  description_within : (r : Read Described) → description_at s i ≡ r
      → let w = (description_reply (mapped (described_at i) r)).1 in PartWithin s (get_or w 2 0) (get_or w 3 0)
  unfolding described_bytes
  description_within (got (described flags v oid modifier) j) e =
      let l = reader_laws.description s i (described flags v oid modifier) j e in
      let rest = be_bytes 4 oid ++ int_bytes 4 modifier in
      omega (
        arith,
        l,
        length-append (be_bytes 1 flags) ((v ++ (0 ∷ [])) ++ rest),
        length-append (v ++ (0 ∷ [])) rest,
        length-append v (0 ∷ []),
        length_be_bytes 1 flags,
      )
  description_within (refused n) e = omega arith

pub column_is_within : ColumnIsWithin
column_is_within s i = column_within s i (column_at s i) refl

pub description_is_within : DescriptionIsWithin
description_is_within s i = description_within s i (description_at s i) refl

-- how long the names of a Type and an Origin make the data
module _ (s : List ℕ) (b : are_bytes s ≡ true) where
  type_length : (id : ℕ) (space v : List ℕ) → row_said s ≡ row (type id space v) → 7 + length space + length v ≤ length s
  unfolding row_bytes
  type_length id space v h =
      let w = read_is_sent s (type id space v) b h in
      let names = (space ++ (0 ∷ [])) ++ (v ++ (0 ∷ [])) in
      let whole = ap length w.2 ∙ length-append (row_bytes (type id space v)) w.1 in
      omega (
        arith,
        whole,
        length-append (be_bytes 4 id) names,
        length-append (space ++ (0 ∷ [])) (v ++ (0 ∷ [])),
        length-append space (0 ∷ []),
        length-append v (0 ∷ []),
        length_be_bytes 4 id,
      )

  origin_length : (position : ℕ) (v : List ℕ) → row_said s ≡ row (origin position v) → 10 + length v ≤ length s
  unfolding row_bytes
  origin_length position v h =
      let w = read_is_sent s (origin position v) b h in
      let whole = ap length w.2 ∙ length-append (row_bytes (origin position v)) w.1 in
      omega (arith, whole, length-append (be_bytes 8 position) (v ++ (0 ∷ [])), length-append v (0 ∷ []), length_be_bytes 8 position)

  row_within : (x : Said) → row_said s ≡ x → let w = (row_reply (answer_of x)).1 in
      PartWithin s (get_or w 7 0) (get_or w 8 0) × PartWithin s (get_or w 9 0) (get_or w 10 0) × (get_or w 4 0 ≤ length s) × (get_or w 6 0 ≤ length s)
  row_within (row (relation id space v identity cs)) e =
      let l = (readers_answer s (relation id space v identity cs) b e).1 in
      (omega (arith, l), omega (arith, l), omega (arith, l), omega arith)
  row_within (row (type id space v)) e = let l = type_length id space v e in (omega (arith, l), omega (arith, l), omega arith, omega arith)
  row_within (row (origin position v)) e = let l = origin_length position v e in (omega arith, omega (arith, l), omega arith, omega arith)
  row_within (row (insert id new)) e = let l = (readers_answer s (insert id new) b e).1 in (omega arith, omega arith, omega (arith, l), omega arith)
  row_within (row (update id new)) e = let l = (readers_answer s (update id new) b e).1 in (omega arith, omega arith, omega (arith, l), omega arith)
  row_within (row (update_from id which old new)) e =
      let l = readers_answer s (update_from id which old new) b e in
      (omega arith, omega arith, omega (arith, l.1.1), omega (arith, l.0.1))
  row_within (row (delete id which old)) e = let l = (readers_answer s (delete id which old) b e).1 in
      (omega arith, omega arith, omega arith, omega (arith, l))
  row_within (row (truncate options ids)) e = let l = (readers_answer s (truncate options ids) b e).1 in
      (omega arith, omega arith, omega (arith, l), omega arith)
  row_within no_row e = (omega arith, omega arith, omega arith, omega arith)
  row_within (refused_by n) e = (omega arith, omega arith, omega arith, omega arith)

pub row_is_within : RowIsWithin
row_is_within s b = row_within s b (row_said s) refl
