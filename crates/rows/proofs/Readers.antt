-- What the readers answer: from the places that a head names, the row's values one after the other; anywhere, a place further on.
use mathlib.Core.Path.{◌≡◌, refl, ap, ◌∙◌}
use mathlib.Core.List.{List, [], ◌∷◌, ◌++◌, append_assoc}
use Prim.Native.Char.{code}
use Prim.Native.Nat.{ℕ, ◌+◌, ◌<◌, ◌≤◌, ◌^◌}
use native.Mathlib.Omega.{arith}
use lib.ListN.{length, drop, length-append}
use lib.Seq.{drop-append_seam}
use Rattle.wire.specs.Bytes.{be_bytes}
use Rattle.wire.proofs.Laws.{length_be_bytes}
use Rattle.rows.specs.Layout.{number, Read, got, all_bytes, bytes_of, All, Fits, Stands}
use Rattle.rows.specs.Rows.{Cell, Described, Row, relation, type, origin, insert, update, update_from}
use Rattle.rows.specs.Rows.{delete, truncate, cell_bytes, tuple_bytes, described_bytes, row_bytes, which_letter, column_layout, described_layout}
use Rattle.rows.specs.Head.{column_at, description_at, identifier_at}
use Rattle.rows.specs.RowLayout.{CellFits, DescribedFits, RowFits, InTurn, ColumnsFrom, ReadersOf, ReadersAnswer}
use Rattle.rows.proofs.BothWays.{written_is_read}
use Rattle.rows.proofs.Ends.{cell_bytes_lem}
use Rattle.rows.proofs.Places.{split}
use Rattle.rows.proofs.Sent.{column_proper, described_proper, described_bytes_lem, cell_value, cell_back, cell_fits, described_value, described_back}
use Rattle.rows.proofs.Sent.{described_fits, read_is_sent}

-- ---- one after the other

-- each reader answers where its value stands
in_a_row : {A : Type 0} (s : List ℕ) (f : ℕ → Read A) (g : A → List ℕ) (P : A → Type 0)
    → ((v : A) (i j : ℕ) → P v → Stands s i (g v) j → f i ≡ got v j)
    → (vs : List A) (i j : ℕ) → All P vs → Stands s i (all_bytes g vs) j → InTurn f i vs j
unfolding all_bytes
in_a_row s f g P one [] i j a h = omega (arith, h.ends)
in_a_row s f g P one (v ∷ vs) i j a h =
    let w = split s i (g v) (all_bytes g vs) j h in
    (i + length (g v), one v i (i + length (g v)) a.0 w.0, in_a_row s f g P one vs (i + length (g v)) j a.1 w.1)

module _ (s : List ℕ) where
  column_there : (c : Cell) (i j : ℕ) → CellFits c → Stands s i (cell_bytes c) j → column_at s i ≡ got c j
  column_there c i j f h =
      let b : bytes_of column_layout (cell_value c) ≡ cell_bytes c = cell_bytes_lem (cell_value c) ∙ ap cell_bytes (cell_back c) in
      let r = written_is_read column_layout column_proper s i (cell_value c) j (cell_fits c f) (rw b h) in
      rw r (ap (λ (x : Cell). got x j) (cell_back c))

  description_there : (d : Described) (i j : ℕ) → DescribedFits d → Stands s i (described_bytes d) j → description_at s i ≡ got d j
  description_there d i j f h =
      let b : bytes_of described_layout (described_value d) ≡ described_bytes d = described_bytes_lem (described_value d) ∙ ap described_bytes
      (described_back d) in
      let r = written_is_read described_layout described_proper s i (described_value d) j (described_fits d f) (rw b h) in
      rw r (ap (λ (x : Described). got x j) (described_back d))

  identifier_there : (id i j : ℕ) → id < 2 ^ 32 → Stands s i (be_bytes 4 id) j → identifier_at s i ≡ got id j
  unfolding bytes_of Fits
  identifier_there id i j f h = written_is_read (number 4) (omega arith) s i id j f h

-- a list that stands between two others
amid : (s front x rest : List ℕ) (i : ℕ) → s ≡ front ++ (x ++ rest) → length front ≡ i → Stands s i x (i + length x) × (i + length x ≤ length s)
amid s front x rest i e l =
    let d : drop i s ≡ x ++ rest = rw (← l, e) (drop-append_seam front (x ++ rest)) in
    let n : length s ≡ length front + (length x + length rest) = rw e
    (length-append front (x ++ rest) ∙ ap (λ (k : ℕ). length front + k) (length-append x rest)) in
    let k : i + length x ≡ length (front ++ x) = omega (arith, length-append front x) in
    let t : drop (i + length x) s ≡ rest = rw (k, e, ← append_assoc front x rest) (drop-append_seam (front ++ x) rest) in
    (record { whole = rw t d; ends = refl }, omega arith)

columns_there : (s front : List ℕ) (cs : List Cell) (rest : List ℕ) (i : ℕ) → s ≡ front ++ (all_bytes cell_bytes cs ++ rest) → length front ≡ i
    → All CellFits cs → ColumnsFrom s i cs
columns_there s front cs rest i e l f =
    let w = amid s front (all_bytes cell_bytes cs) rest i e l in
    (in_a_row s (column_at s) cell_bytes CellFits (column_there s) cs i (i + length (all_bytes cell_bytes cs)) f w.0, w.1)

-- the bytes of a row that has a tuple: letter, relation, letter, count, columns
tuple_after : (a b id n : ℕ) (x rest : List ℕ) → (a ∷ (be_bytes 4 id ++ (b ∷ (be_bytes 2 n ++ x)))) ++ rest ≡ (a ∷ (be_bytes 4 id ++ (b ∷ be_bytes 2 n)))
    ++ (x ++ rest)
tuple_after a b id n x rest = simp append_assoc

tuple_front : (a b id n : ℕ) → length (a ∷ (be_bytes 4 id ++ (b ∷ be_bytes 2 n))) ≡ 8
tuple_front a b id n = omega (arith, length-append (be_bytes 4 id) (b ∷ be_bytes 2 n), length_be_bytes 4 id, length_be_bytes 2 n)

module _ (s surplus : List ℕ) where
  one_tuple : (a b id : ℕ) (cs : List Cell) → s ≡ (a ∷ (be_bytes 4 id ++ (b ∷ tuple_bytes cs))) ++ surplus → All CellFits cs → ColumnsFrom s 8 cs
  unfolding tuple_bytes
  one_tuple a b id cs e f =
      let n : ℕ = length cs in
      columns_there s (a ∷ (be_bytes 4 id ++ (b ∷ be_bytes 2 n))) cs surplus 8 (e ∙ tuple_after a b id n (all_bytes cell_bytes cs) surplus)
      (tuple_front a b id n) f

  two_tuples : (a b c id : ℕ) (old new : List Cell) → s ≡ (a ∷ (be_bytes 4 id ++ (b ∷ (tuple_bytes old ++ (c ∷ tuple_bytes new))))) ++ surplus
      → All CellFits old → All CellFits new
      → ColumnsFrom s 8 old × ColumnsFrom s (11 + length (all_bytes cell_bytes old)) new
  unfolding tuple_bytes
  two_tuples a b c id old new e f g =
      let n : ℕ = length old in
      let m : ℕ = length new in
      let x : List ℕ = all_bytes cell_bytes old in
      let y : List ℕ = all_bytes cell_bytes new in
      let front : List ℕ = a ∷ (be_bytes 4 id ++ (b ∷ be_bytes 2 n)) in
      let p : s ≡ front ++ (x ++ ((c ∷ (be_bytes 2 m ++ y)) ++ surplus)) = e ∙ simp append_assoc in
      let q : s ≡ (front ++ (x ++ (c ∷ be_bytes 2 m))) ++ (y ++ surplus) = e ∙ simp append_assoc in
      let l : length (front ++ (x ++ (c ∷ be_bytes 2 m))) ≡ 11 + length x =
      omega (arith, length-append front (x ++ (c ∷ be_bytes 2 m)), length-append x (c ∷ be_bytes 2 m), length_be_bytes 2 m, tuple_front a b id n)
      in (
        columns_there s front old ((c ∷ (be_bytes 2 m ++ y)) ++ surplus) 8 p (tuple_front a b id n) f,
        columns_there s (front ++ (x ++ (c ∷ be_bytes 2 m))) new surplus (11 + length x) q l g,
      )

  readers : (r : Row) → RowFits r → s ≡ row_bytes r ++ surplus → ReadersOf s r
  unfolding row_bytes
  readers (relation id space v identity cs) f e =
      let n : ℕ = length cs in
      let x : List ℕ = all_bytes described_bytes cs in
      let front : List ℕ = code "R" ∷ (be_bytes 4 id ++ ((space ++ (0 ∷ [])) ++ ((v ++ (0 ∷ [])) ++ (be_bytes 1 identity ++ be_bytes 2 n)))) in
      let p : s ≡ front ++ (x ++ surplus) = e ∙ simp append_assoc in
      let l : length front ≡ 10 + length space + length v =
      omega (
        arith,
        length-append (be_bytes 4 id) ((space ++ (0 ∷ [])) ++ ((v ++ (0 ∷ [])) ++ (be_bytes 1 identity ++ be_bytes 2 n))),
        length-append (space ++ (0 ∷ [])) ((v ++ (0 ∷ [])) ++ (be_bytes 1 identity ++ be_bytes 2 n)),
        length-append (v ++ (0 ∷ [])) (be_bytes 1 identity ++ be_bytes 2 n),
        length-append (be_bytes 1 identity) (be_bytes 2 n),
        length-append space (0 ∷ []),
        length-append v (0 ∷ []),
        length_be_bytes 4 id,
        length_be_bytes 1 identity,
        length_be_bytes 2 n,
      )
      in
      let w = amid s front x surplus (10 + length space + length v) p l in (
        in_a_row s (description_at s) described_bytes DescribedFits (description_there s) cs (10 + length space + length v)
            (10 + length space + length v + length x) f.5 w.0,
        w.1,
      )
  readers (type id space v) f e = tt
  readers (origin position v) f e = tt
  readers (insert id new) f e = one_tuple (code "I") (code "N") id new e f.1.1
  readers (update id new) f e = one_tuple (code "U") (code "N") id new e f.1.1
  readers (update_from id which old new) f e = two_tuples (code "U") (which_letter which) (code "N") id old new e f.1.1 f.2.1
  readers (delete id which old) f e = one_tuple (code "D") (which_letter which) id old e f.1.1
  readers (truncate options ids) f e =
      let n : ℕ = length ids in
      let x : List ℕ = all_bytes (λ id. be_bytes 4 id) ids in
      let front : List ℕ = code "T" ∷ (be_bytes 4 n ++ be_bytes 1 options) in
      let p : s ≡ front ++ (x ++ surplus) = e ∙ simp append_assoc in
      let l : length front ≡ 6 = omega (arith, length-append (be_bytes 4 n) (be_bytes 1 options), length_be_bytes 4 n, length_be_bytes 1 options) in
      let w = amid s front x surplus 6 p l in
      (in_a_row s (identifier_at s) (λ id. be_bytes 4 id) (λ id. id < 2 ^ 32) (identifier_there s) ids 6 (6 + length x) f.2 w.0, w.1)

pub readers_answer : ReadersAnswer
readers_answer s r b e =
    let w = read_is_sent s r b e in
    readers s w.1 r w.0 w.2
