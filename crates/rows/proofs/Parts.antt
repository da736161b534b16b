-- The parts that answers name hold what was read.
use mathlib.Core.Path.{◌≡◌, sym, ap, ◌∙◌}
use mathlib.Core.Bool.{true}
use mathlib.Core.List.{List, [], ◌∷◌, ◌++◌, append_assoc}
use Prim.Native.Char.{code}
use Prim.Native.Nat.{ℕ, ◌+◌}
use native.Mathlib.Omega.{arith}
use lib.ListN.{length, drop, length-append}
use lib.IntN.{ℤ}
use lib.Pow.{are_bytes}
use lib.Seq.{drop-drop, drop-append_seam, take-append_seam}
use Rattle.wire.specs.Bytes.{at, be_bytes}
use Rattle.wire.specs.Int.{int_bytes}
use Rattle.wire.proofs.Laws.{length_be_bytes}
use Rattle.rows.specs.Layout.{got, read_at, all_bytes}
use Rattle.rows.specs.Rows.{Cell, text, binary, Described, described, relation, type, origin, cell_bytes, described_bytes, row_bytes, column_layout}
use Rattle.rows.specs.Rows.{described_layout, cell_of, described_of, row, row_said}
use Rattle.rows.specs.Head.{column_at, description_at}
use Rattle.rows.specs.RowLayout.{PartLaws}
use Rattle.rows.proofs.BothWays.{read_is_written}
use Rattle.rows.proofs.Ends.{cell_bytes_lem}
use Rattle.rows.proofs.Places.{by_told}
use Rattle.rows.proofs.Sent.{column_proper, described_proper, described_bytes_lem, read_is_sent}

-- what stands after a list of k bytes
part_of : (s : List ℕ) (i k : ℕ) (a v t : List ℕ) → length a ≡ k → drop i s ≡ a ++ (v ++ t) → at s (i + k) (length v) ≡ v
part_of s i k a v t l e =
    let d : drop (i + k) s ≡ v ++ t = sym (drop-drop k i s) ∙ rw (e, ← l) (drop-append_seam a (v ++ t)) in
    rw d (take-append_seam v t)

-- a part after the data's front
front_part : (s : List ℕ) (k : ℕ) (a v t : List ℕ) → length a ≡ k → s ≡ a ++ (v ++ t) → at s k (length v) ≡ v
front_part s k a v t l e =
    let d : drop k s ≡ v ++ t = rw (e, ← l) (drop-append_seam a (v ++ t)) in
    rw d (take-append_seam v t)

module _ (s : List ℕ) (bytes : are_bytes s ≡ true) where
  column_there : (i : ℕ) (c : Cell) (j : ℕ) → column_at s i ≡ got c j → drop i s ≡ cell_bytes c ++ drop j s
  column_there i c j e =
      by_told cell_of (read_at column_layout s i) c j e (λ w x ec.
      (read_is_written column_layout column_proper s bytes i w j x).1.whole ∙ ap (λ (l : List ℕ). l ++ drop j s)
      (cell_bytes_lem w ∙ ap cell_bytes (sym ec)))

  description_there : (i : ℕ) (d : Described) (j : ℕ) → description_at s i ≡ got d j → drop i s ≡ described_bytes d ++ drop j s
  description_there i d j e =
      by_told described_of (read_at described_layout s i) d j e (λ w x ed.
      (read_is_written described_layout described_proper s bytes i w j x).1.whole ∙ ap (λ (l : List ℕ). l ++ drop j s)
      (described_bytes_lem w ∙ ap described_bytes (sym ed)))

  valued : (letter i : ℕ) (v t : List ℕ) → drop i s ≡ (letter ∷ (be_bytes 4 (length v) ++ v)) ++ t → at s (i + 5) (length v) ≡ v
  valued letter i v t e =
      part_of s i 5 (letter ∷ be_bytes 4 (length v)) v t (omega (arith, length_be_bytes 4 (length v)))
      (e ∙ ap (λ (l : List ℕ). letter ∷ l) (append_assoc (be_bytes 4 (length v)) v t))

  text_part : (i : ℕ) (v : List ℕ) (j : ℕ) → column_at s i ≡ got (text v) j → at s (i + 5) (length v) ≡ v
  unfolding cell_bytes
  text_part i v j e = valued (code "t") i v (drop j s) (column_there i (text v) j e)

  binary_part : (i : ℕ) (v : List ℕ) (j : ℕ) → column_at s i ≡ got (binary v) j → at s (i + 5) (length v) ≡ v
  unfolding cell_bytes
  binary_part i v j e = valued (code "b") i v (drop j s) (column_there i (binary v) j e)

  description_part : (i flags : ℕ) (v : List ℕ) (oid : ℕ) (modifier : ℤ) (j : ℕ) → description_at s i ≡ got (described flags v oid modifier) j
      → at s (i + 1) (length v) ≡ v
  unfolding described_bytes
  description_part i flags v oid modifier j e =
      part_of s i 1 (be_bytes 1 flags) v ((0 ∷ []) ++ ((be_bytes 4 oid ++ int_bytes 4 modifier) ++ drop j s)) (length_be_bytes 1 flags)
      (description_there i (described flags v oid modifier) j e ∙ simp append_assoc)

  two_names : (letter id : ℕ) (space v t : List ℕ) → s ≡ letter ∷ (be_bytes 4 id ++ (space ++ (0 ∷ (v ++ t))))
      → (at s 5 (length space) ≡ space) × (at s (6 + length space) (length v) ≡ v)
  two_names letter id space v t e =
      let a : List ℕ = letter ∷ be_bytes 4 id in
      let b : List ℕ = a ++ (space ++ (0 ∷ [])) in
      let l : length a ≡ 5 = omega (arith, length_be_bytes 4 id) in
      let m : length b ≡ 6 + length space = omega (arith, length-append a (space ++ (0 ∷ [])), length-append space (0 ∷ [])) in
      (front_part s 5 a space (0 ∷ (v ++ t)) l e, front_part s (6 + length space) b v t m (e ∙ simp append_assoc))

  relation_parts : (id : ℕ) (space v : List ℕ) (identity : ℕ) (cs : List Described) → row_said s ≡ row (relation id space v identity cs)
      → (at s 5 (length space) ≡ space) × (at s (6 + length space) (length v) ≡ v)
  unfolding row_bytes
  relation_parts id space v identity cs e =
      let w = read_is_sent s (relation id space v identity cs) bytes e in
      two_names (code "R") id space v ((0 ∷ []) ++ ((be_bytes 1 identity ++ (be_bytes 2 (length cs) ++ all_bytes described_bytes cs)) ++ w.1))
      (w.2 ∙ simp append_assoc)

  type_parts : (id : ℕ) (space v : List ℕ) → row_said s ≡ row (type id space v)
      → (at s 5 (length space) ≡ space) × (at s (6 + length space) (length v) ≡ v)
  unfolding row_bytes
  type_parts id space v e =
      let w = read_is_sent s (type id space v) bytes e in
      two_names (code "Y") id space v ((0 ∷ []) ++ w.1) (w.2 ∙ simp append_assoc)

  origin_part : (position : ℕ) (v : List ℕ) → row_said s ≡ row (origin position v) → at s 9 (length v) ≡ v
  unfolding row_bytes
  origin_part position v e =
      let w = read_is_sent s (origin position v) bytes e in
      front_part s 9 (code "O" ∷ be_bytes 8 position) v ((0 ∷ []) ++ w.1) (omega (arith, length_be_bytes 8 position)) (w.2 ∙ simp append_assoc)

pub part_laws : PartLaws
part_laws =
    record {
      text_part = λ s b i v j e. text_part s b i v j e;
      binary_part = λ s b i v j e. binary_part s b i v j e;
      description_part = λ s b i flags v oid modifier j e. description_part s b i flags v oid modifier j e;
      relation_parts = λ s b id space v identity cs e. relation_parts s b id space v identity cs e;
      type_parts = λ s b id space v e. type_parts s b id space v e;
      origin_part = λ s b position v e. origin_part s b position v e;
    }
