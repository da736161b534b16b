-- Rows and their bytes, both ways, by the law of layouts.
use mathlib.Core.Path.{◌≡◌, refl, ap, ◌∙◌}
use mathlib.Core.Bool.{Bool, true, false}
use mathlib.Core.List.{List, [], ◌∷◌, ◌++◌, map}
use mathlib.Core.Logic.{inl, inr}
use Prim.Native.Char.{code}
use Prim.Native.Nat.{ℕ}
use native.Mathlib.Omega.{arith}
use lib.ListN.{length, drop, length-map}
use lib.Seq.{drop-append_seam}
use Rattle.wire.specs.Bytes.{pick, be_bytes}
use Rattle.wire.proofs.Laws.{impossible}
use Rattle.rows.specs.Layout.{both, letter, no_other, or, Value, Read, got}
use Rattle.rows.specs.Layout.{refused, read_at, bytes_of, All, Fits, Proper, Stands}
use Rattle.rows.specs.Rows.{Cell, null, unchanged, text, binary, Described, described, Row, relation, type, origin, insert, update, update_from}
use Rattle.rows.specs.Rows.{delete, truncate, cell_bytes, tuple_bytes, described_bytes, row_bytes, column_layout, tuple_layout, described_layout}
use Rattle.rows.specs.Rows.{new_layout, row_layout, cell_of, cells_of, described_of, new_of, row_of, Said, row, no_row}
use Rattle.rows.specs.Rows.{is_boundary, said_of, row_said}
use Rattle.rows.specs.RowLayout.{CellFits, TupleFits, DescribedFits, RowFits, SentIsRead, ReadIsSent}
use Rattle.rows.specs.declared.Which.TheVariants.{Key, Old}
use Rattle.rows.proofs.BothWays.{written_is_read, read_is_written}
use Rattle.rows.proofs.Ends.{cell_bytes_lem, all_map}

-- ---- the layouts make sense

pub column_proper : Proper column_layout
column_proper = (
  omega arith,
  tt,
  ((λ e. omega arith), ((λ e. omega arith), ((λ e. omega arith), tt))),
  (
    omega arith,
    tt,
    ((λ e. omega arith), ((λ e. omega arith), tt)),
    (
      omega arith,
      tt,
      ((λ e. omega arith), tt),
      (omega arith, tt, tt, tt),
    ),
  ),
)

pub tuple_proper : Proper tuple_layout
tuple_proper = (omega arith, tt, column_proper)

pub described_proper : Proper described_layout
described_proper = (omega arith, (tt, (omega arith, tt)))

new_proper : Proper new_layout
new_proper = (omega arith, tuple_proper, tt, tt)

pub row_proper : Proper row_layout
row_proper = (
  omega arith,
  (omega arith, (tt, (tt, (omega arith, (omega arith, tt, described_proper))))),
  ((λ e. omega arith), ((λ e. omega arith), ((λ e. omega arith), ((λ e. omega arith), ((λ e. omega arith), ((λ e. omega arith), tt)))))),
  (
    omega arith,
    (omega arith, (tt, tt)),
    ((λ e. omega arith), ((λ e. omega arith), ((λ e. omega arith), ((λ e. omega arith), ((λ e. omega arith), tt))))),
    (
      omega arith,
      (omega arith, tt),
      ((λ e. omega arith), ((λ e. omega arith), ((λ e. omega arith), ((λ e. omega arith), tt)))),
      (
        omega arith,
        (omega arith, new_proper),
        ((λ e. omega arith), ((λ e. omega arith), ((λ e. omega arith), tt))),
        (
          omega arith,
          (omega arith, update_proper),
          ((λ e. omega arith), ((λ e. omega arith), tt)),
          (
            omega arith,
            (omega arith, delete_proper),
            ((λ e. omega arith), tt),
            (omega arith, (omega arith, omega arith, omega arith), tt, tt),
          ),
        ),
      ),
    ),
  ),
)
  where
    update_proper : Proper (letter (or (code "K") (both tuple_layout new_layout)
        (or (code "O") (both tuple_layout new_layout) (or (code "N") tuple_layout no_other))))
    update_proper = (
      omega arith,
      (tuple_proper, new_proper),
      ((λ e. omega arith), ((λ e. omega arith), tt)),
      (
        omega arith,
        (tuple_proper, new_proper),
        ((λ e. omega arith), tt),
        (omega arith, tuple_proper, tt, tt),
      ),
    )

    delete_proper : Proper (letter (or (code "K") tuple_layout (or (code "O") tuple_layout no_other)))
    delete_proper = (omega arith, tuple_proper, ((λ e. omega arith), tt), (omega arith, tuple_proper, tt, tt))

-- ---- the bytes of a layout's values are the bytes of the row

tuple_bytes_lem : (v : Value tuple_layout) → bytes_of tuple_layout v ≡ tuple_bytes (cells_of v)
unfolding bytes_of tuple_bytes
tuple_bytes_lem v = rw (length-map v.1 cell_of, all_map (λ x. bytes_of column_layout x) cell_bytes cell_of cell_bytes_lem v.1)

pub described_bytes_lem : (v : Value described_layout) → bytes_of described_layout v ≡ described_bytes (described_of v)
unfolding bytes_of described_bytes
described_bytes_lem v = refl

new_bytes : (v : Value new_layout) → bytes_of new_layout v ≡ code "N" ∷ tuple_bytes (new_of v)
unfolding bytes_of
new_bytes (inl v) = ap (λ (l : List ℕ). code "N" ∷ l) (tuple_bytes_lem v)
new_bytes (inr e) = absurd e

pub row_bytes_lem : (v : Value row_layout) → bytes_of row_layout v ≡ row_bytes (row_of v)
unfolding bytes_of row_bytes
row_bytes_lem (inl v) = rw (
  length-map v.1.1.1.1.1 described_of,
  all_map (λ x. bytes_of described_layout x) described_bytes described_of described_bytes_lem v.1.1.1.1.1,
)
row_bytes_lem (inr (inl v)) = refl
row_bytes_lem (inr (inr (inl v))) = refl
row_bytes_lem (inr (inr (inr (inl (id, v))))) = ap (λ (l : List ℕ). code "I" ∷ (be_bytes 4 id ++ l)) (new_bytes v)
row_bytes_lem (inr (inr (inr (inr (inl (id, inl v)))))) =
    ap (λ (l : List ℕ). code "U" ∷ (be_bytes 4 id ++ (code "K" ∷ (l ++ bytes_of new_layout v.1)))) (tuple_bytes_lem v.0)
    ∙ ap (λ (l : List ℕ). code "U" ∷ (be_bytes 4 id ++ (code "K" ∷ (tuple_bytes (cells_of v.0) ++ l)))) (new_bytes v.1)
row_bytes_lem (inr (inr (inr (inr (inl (id, inr (inl v))))))) =
    ap (λ (l : List ℕ). code "U" ∷ (be_bytes 4 id ++ (code "O" ∷ (l ++ bytes_of new_layout v.1)))) (tuple_bytes_lem v.0)
    ∙ ap (λ (l : List ℕ). code "U" ∷ (be_bytes 4 id ++ (code "O" ∷ (tuple_bytes (cells_of v.0) ++ l)))) (new_bytes v.1)
row_bytes_lem (inr (inr (inr (inr (inl (id, inr (inr (inl v)))))))) = ap (λ (l : List ℕ). code "U" ∷ (be_bytes 4 id ++ (code "N" ∷ l))) (tuple_bytes_lem v)
row_bytes_lem (inr (inr (inr (inr (inl (id, inr (inr (inr e)))))))) = absurd e
row_bytes_lem (inr (inr (inr (inr (inr (inl (id, inl v))))))) = ap (λ (l : List ℕ). code "D" ∷ (be_bytes 4 id ++ (code "K" ∷ l))) (tuple_bytes_lem v)
row_bytes_lem (inr (inr (inr (inr (inr (inl (id, inr (inl v)))))))) = ap (λ (l : List ℕ). code "D" ∷ (be_bytes 4 id ++ (code "O" ∷ l))) (tuple_bytes_lem v)
row_bytes_lem (inr (inr (inr (inr (inr (inl (id, inr (inr e)))))))) = absurd e
row_bytes_lem (inr (inr (inr (inr (inr (inr (inl v))))))) = refl
row_bytes_lem (inr (inr (inr (inr (inr (inr (inr e))))))) = absurd e

-- ---- the values of a row

abbrev pub cell_value : Cell → Value column_layout
cell_value null = inl tt
cell_value unchanged = inr (inl tt)
cell_value (text v) = inr (inr (inl v))
cell_value (binary v) = inr (inr (inr (inl v)))

pub cell_back : (c : Cell) → cell_of (cell_value c) ≡ c
cell_back null = refl
cell_back unchanged = refl
cell_back (text v) = refl
cell_back (binary v) = refl

abbrev tuple_value : List Cell → Value tuple_layout
tuple_value cs = (tt, map cell_value cs)

abbrev pub described_value : Described → Value described_layout
described_value (described flags v oid modifier) = (flags, (v, (oid, modifier)))

pub described_back : (d : Described) → described_of (described_value d) ≡ d
described_back (described flags v oid modifier) = refl

abbrev pub row_value : Row → Value row_layout
row_value (relation id space v identity cs) = inl (id, (space, (v, (identity, (tt, map described_value cs)))))
row_value (type id space v) = inr (inl (id, (space, v)))
row_value (origin position v) = inr (inr (inl (position, v)))
row_value (insert id new) = inr (inr (inr (inl (id, inl (tuple_value new)))))
row_value (update id new) = inr (inr (inr (inr (inl (id, inr (inr (inl (tuple_value new))))))))
row_value (update_from id Key old new) = inr (inr (inr (inr (inl (id, inl (tuple_value old, inl (tuple_value new)))))))
row_value (update_from id Old old new) = inr (inr (inr (inr (inl (id, inr (inl (tuple_value old, inl (tuple_value new))))))))
row_value (delete id Key old) = inr (inr (inr (inr (inr (inl (id, inl (tuple_value old)))))))
row_value (delete id Old old) = inr (inr (inr (inr (inr (inl (id, inr (inl (tuple_value old))))))))
row_value (truncate options ids) = inr (inr (inr (inr (inr (inr (inl (options, ids)))))))

map_back : {A B : Type 0} (f : A → B) (g : B → A) → ((x : B) → f (g x) ≡ x) → (xs : List B) → map f (map g xs) ≡ xs
map_back f g e [] = refl
map_back f g e (x ∷ xs) = rw (e x, map_back f g e xs)

cells_back : (cs : List Cell) → map cell_of (map cell_value cs) ≡ cs
cells_back cs = map_back cell_of cell_value cell_back cs

pub row_back : (r : Row) → row_of (row_value r) ≡ r
row_back (relation id space v identity cs) = rw (map_back described_of described_value described_back cs)
row_back (type id space v) = refl
row_back (origin position v) = refl
row_back (insert id new) = rw (cells_back new)
row_back (update id new) = rw (cells_back new)
row_back (update_from id Key old new) = rw (cells_back old, cells_back new)
row_back (update_from id Old old new) = rw (cells_back old, cells_back new)
row_back (delete id Key old) = rw (cells_back old)
row_back (delete id Old old) = rw (cells_back old)
row_back (truncate options ids) = refl

-- ---- what can be sent

all_fit : {A B : Type 0} (P : A → Type 0) (Q : B → Type 0) (h : A → B) → ((v : A) → P v → Q (h v)) → (vs : List A) → All P vs → All Q (map h vs)
all_fit P Q h e [] a = tt
all_fit P Q h e (v ∷ vs) a = (e v a.0, all_fit P Q h e vs a.1)

pub cell_fits : (c : Cell) → CellFits c → Fits column_layout (cell_value c)
unfolding Fits
cell_fits null f = tt
cell_fits unchanged f = tt
cell_fits (text v) f = f
cell_fits (binary v) f = f

pub cell_fitted : (v : Value column_layout) → Fits column_layout v → CellFits (cell_of v)
unfolding Fits
cell_fitted (inl v) f = tt
cell_fitted (inr (inl v)) f = tt
cell_fitted (inr (inr (inl v))) f = f
cell_fitted (inr (inr (inr (inl v)))) f = f
cell_fitted (inr (inr (inr (inr e)))) f = absurd e

pub described_fits : (d : Described) → DescribedFits d → Fits described_layout (described_value d)
unfolding Fits
described_fits (described flags v oid modifier) f = (f.0, (f.1, (f.2, f.3)))

pub described_fitted : (v : Value described_layout) → Fits described_layout v → DescribedFits (described_of v)
unfolding Fits
described_fitted v f = (f.0, f.1.0, f.1.1.0, f.1.1.1)

tuple_fits : (cs : List Cell) → TupleFits cs → Fits tuple_layout (tuple_value cs)
unfolding Fits
tuple_fits cs f = (rw (length-map cs cell_value) f.0, tt, all_fit CellFits (λ v. Fits column_layout v) cell_value cell_fits cs f.1)

tuple_fitted : (v : Value tuple_layout) → Fits tuple_layout v → TupleFits (cells_of v)
unfolding Fits
tuple_fitted v f = (rw (length-map v.1 cell_of) f.0, all_fit (λ x. Fits column_layout x) CellFits cell_of cell_fitted v.1 f.2)

new_fitted : (v : Value new_layout) → Fits new_layout v → TupleFits (new_of v)
unfolding Fits
new_fitted (inl v) f = tuple_fitted v f
new_fitted (inr e) f = absurd e

pub row_fits : (r : Row) → RowFits r → Fits row_layout (row_value r)
unfolding Fits
row_fits (relation id space v identity cs) f = (
  f.0,
  (
    f.1,
    (
      f.2,
      (
        f.3,
        (
          rw (length-map cs described_value) f.4,
          tt,
          all_fit DescribedFits (λ x. Fits described_layout x) described_value described_fits cs f.5,
        ),
      ),
    ),
  ),
)
row_fits (type id space v) f = (f.0, (f.1, f.2))
row_fits (origin position v) f = (f.0, f.1)
row_fits (insert id new) f = (f.0, tuple_fits new f.1)
row_fits (update id new) f = (f.0, tuple_fits new f.1)
row_fits (update_from id Key old new) f = (f.0, (tuple_fits old f.1, tuple_fits new f.2))
row_fits (update_from id Old old new) f = (f.0, (tuple_fits old f.1, tuple_fits new f.2))
row_fits (delete id Key old) f = (f.0, tuple_fits old f.1)
row_fits (delete id Old old) f = (f.0, tuple_fits old f.1)
row_fits (truncate options ids) f = (f.1, f.0, f.2)

pub row_fitted : (v : Value row_layout) → Fits row_layout v → RowFits (row_of v)
unfolding Fits
row_fitted (inl v) f = (
  f.0,
  f.1.0,
  f.1.1.0,
  f.1.1.1.0,
  rw (length-map v.1.1.1.1.1 described_of) f.1.1.1.1.0,
  all_fit (λ x. Fits described_layout x) DescribedFits described_of described_fitted v.1.1.1.1.1 f.1.1.1.1.2,
)
row_fitted (inr (inl v)) f = (f.0, f.1.0, f.1.1)
row_fitted (inr (inr (inl v))) f = (f.0, f.1)
row_fitted (inr (inr (inr (inl (id, v))))) f = (f.0, new_fitted v f.1)
row_fitted (inr (inr (inr (inr (inl (id, inl v)))))) f = (f.0, tuple_fitted v.0 f.1.0, new_fitted v.1 f.1.1)
row_fitted (inr (inr (inr (inr (inl (id, inr (inl v))))))) f = (f.0, tuple_fitted v.0 f.1.0, new_fitted v.1 f.1.1)
row_fitted (inr (inr (inr (inr (inl (id, inr (inr (inl v)))))))) f = (f.0, tuple_fitted v f.1)
row_fitted (inr (inr (inr (inr (inl (id, inr (inr (inr e)))))))) f = absurd e
row_fitted (inr (inr (inr (inr (inr (inl (id, inl v))))))) f = (f.0, tuple_fitted v f.1)
row_fitted (inr (inr (inr (inr (inr (inl (id, inr (inl v)))))))) f = (f.0, tuple_fitted v f.1)
row_fitted (inr (inr (inr (inr (inr (inl (id, inr (inr e)))))))) f = absurd e
row_fitted (inr (inr (inr (inr (inr (inr (inl v))))))) f = (f.1, f.0, f.2)
row_fitted (inr (inr (inr (inr (inr (inr (inr e))))))) f = absurd e

-- ---- both directions

no_boundary : (r : Row) (surplus : List ℕ) → is_boundary (row_bytes r ++ surplus) ≡ false
unfolding row_bytes
no_boundary (relation id space v identity cs) t = refl
no_boundary (type id space v) t = refl
no_boundary (origin position v) t = refl
no_boundary (insert id new) t = refl
no_boundary (update id new) t = refl
no_boundary (update_from id which old new) t = refl
no_boundary (delete id which old) t = refl
no_boundary (truncate options ids) t = refl

pub row_value_bytes : (r : Row) → bytes_of row_layout (row_value r) ≡ row_bytes r
row_value_bytes r = row_bytes_lem (row_value r) ∙ ap row_bytes (row_back r)

pub sent_is_read : SentIsRead
unfolding row_said
sent_is_read r surplus f =
    let s : List ℕ = row_bytes r ++ surplus in
    let j : ℕ = length (row_bytes r) in
    let b = row_value_bytes r in
    let d : drop j s ≡ surplus = drop-append_seam (row_bytes r) surplus in
    let h : Stands s 0 (bytes_of row_layout (row_value r)) j = record { whole = rw (b, d); ends = rw b (omega arith) } in
    rw (no_boundary r surplus, written_is_read row_layout row_proper s 0 (row_value r) j (row_fits r f) h) (ap row (row_back r))

picked : (b : Bool) (x : Said) (r : Row) → pick b no_row x ≡ row r → x ≡ row r
picked true x r e = impossible cc
picked false x r e = e

said_row : {X : Type 0} (q : Read (Value row_layout)) (r : Row) → said_of row_of q ≡ row r
    → ((v : Value row_layout) (j : ℕ) → q ≡ got v j → row_of v ≡ r → X) → X
said_row (got v j) r e go = go v j refl cc
said_row (refused n) r e go = impossible cc

pub read_is_sent : ReadIsSent
unfolding row_said
read_is_sent s r bytes e =
    said_row (read_at row_layout s 0) r (picked (is_boundary s) (said_of row_of (read_at row_layout s 0)) r e) (λ v j q k.
    let w = read_is_written row_layout row_proper s bytes 0 v j q in
    let b : s ≡ row_bytes (row_of v) ++ drop j s = w.1.whole ∙ ap (λ (l : List ℕ). l ++ drop j s) (row_bytes_lem v) in
    (rw (← k) (row_fitted v w.0), drop j s, rw (← k) b))
