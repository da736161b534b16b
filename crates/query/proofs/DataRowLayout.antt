-- The walk over the columns and the layout, place by place: what stands at a place is how the rest of the payload is laid out.
use mathlib.Core.Path.{◌≡◌, refl, sym, ap, ◌∙◌}
use mathlib.Core.Bool.{Bool, true, false}
use mathlib.Core.List.{List, [], ◌∷◌, ◌++◌, map, map-map, append_assoc}
use mathlib.Core.Logic.{inl, inr, ⊎_elim}
use mathlib.Core.Option.{Option, some, none}
use Prim.Native.Nat.{ℕ, zero, suc, ◌+◌, ◌-◌, ◌^◌, ◌≤◌, ◌<◌}
use native.Mathlib.Omega.{arith}
use lib.ListN.{length, drop, length-append, length-take, length-drop, length-map, take-append-drop}
use lib.Seq.{drop-drop, take-append_seam, drop-append_seam}
use lib.Dec.{ltb, leb}
use lib.Pow.{are_bytes}
use borrow.Author.Tests.{le-leb, lt-leb, le-ltb, leb-true, leb-false, ltb-false}
use Rattle.wire.specs.Bytes.{pick, at, be, be_bytes}
use Rattle.wire.specs.Field.{field_at}
use Rattle.wire.specs.Int.{half, is_negative}
use Rattle.wire.proofs.FieldLaws.{field_read, part_bytes, part_there}
use Rattle.wire.proofs.Laws.{impossible}
use Rattle.query.specs.DataRow.{column_by, column_at, also, column_then, columns_from, data_row_by, columns_of, nth, column_of, column_said}
use Rattle.query.specs.DataRowLayout.{Cell, null, value, cell_bytes, cells_bytes, Sendable, AllSendable, Laid, Meaning, bytes, missing, meaning_of, meanings_by, data_row_read, meant, cell_of, data_row_bytes, Short, LaidIsRead, ReadIsLaid, SentIsRead, cell_at, Answers, ColumnIsLaid, NotLaidIsRefused, PartIsWithin}
use Rattle.query.specs.declared.Column.{Column}
use Rattle.query.specs.declared.Column.TheVariants.{Null, Part, Absent}

-- ---- from the layout to the walk

null_read : (n : ℕ) (s : List ℕ) (i : ℕ) (t : List ℕ) → Sendable (null n) → drop i s ≡ be_bytes 4 n ++ t → (column_at s i ≡ some (Null, i + 4)) × (drop (i + 4) s ≡ t)
unfolding column_at
null_read n s i t h e =
    let f = field_read 4 s i n t (omega arith) h.1 e in
    (rw f.0 (simp (le-leb _ _ h.0)), f.1)

value_read : (v s : List ℕ) (i : ℕ) (t : List ℕ) → Sendable (value v) → drop i s ≡ be_bytes 4 (length v) ++ (v ++ t)
    → (column_at s i ≡ some (Part (i + 4) (length v), i + 4 + length v)) × (at s (i + 4) (length v) ≡ v) × (drop (i + 4 + length v) s ≡ t)
unfolding column_at
value_read v s i t h e =
    let f = field_read 4 s i (length v) (v ++ t) (omega arith) (omega arith) e in
    let l : length s - (i + 4) ≡ length v + length t = sym (length-drop (i + 4) s) ∙ (ap length f.1 ∙ length-append v t) in
    let g : length v ≤ length s - (i + 4) = omega arith in
    let d : drop (i + 4 + length v) s ≡ t = sym (drop-drop (length v) (i + 4) s) ∙ rw f.1 (drop-append_seam v t) in
    (rw f.0 (simp (lt-leb _ _ h, le-ltb _ _ g)), rw f.1 (take-append_seam v t), d)

meanings_also : (s : List ℕ) (c : Column) (r : Option (List Column)) (ts : List Meaning) → meanings_by s r ≡ some ts → meanings_by s (also c r) ≡ some (meaning_of s c ∷ ts)
meanings_also s c none ts e = impossible cc
meanings_also s c (some cs) ts e = let f : map (meaning_of s) cs ≡ ts = cc in rw f

cells_read : (cells : List Cell) (s : List ℕ) (i : ℕ) (rest : List ℕ) → AllSendable cells → drop i s ≡ cells_bytes cells ++ rest
    → meanings_by s (columns_from (length cells) s i) ≡ some (map meant cells)
unfolding columns_from cells_bytes cell_bytes
cells_read [] s i rest h e = refl
cells_read (null n ∷ cells) s i rest h e =
    let w = null_read n s i (cells_bytes cells ++ rest) h.0 (e ∙ simp append_assoc) in
    rw w.0 (meanings_also s Null (columns_from (length cells) s (i + 4)) (map meant cells) (cells_read cells s (i + 4) rest h.1 w.1))
cells_read (value v ∷ cells) s i rest h e =
    let w = value_read v s i (cells_bytes cells ++ rest) h.0 (e ∙ simp append_assoc) in
    let k : ℕ = i + 4 + length v in
    rw w.0
    (meanings_also s (Part (i + 4) (length v)) (columns_from (length cells) s k) (map meant cells) (cells_read cells s k rest h.1 w.2)
    ∙ ap (λ (b : List ℕ). some (bytes b ∷ map meant cells)) w.1)

pub laid_is_read : LaidIsRead
unfolding data_row_read columns_of
laid_is_read payload cells r =
    let n : r.count < 2 ^ 16 = ⊎_elim (λ h. omega arith) (λ h. h.1) r.counts in
    let f = field_read 2 payload 0 r.count (cells_bytes cells ++ r.rest) (omega arith) n r.whole in
    ⊎_elim
    (λ h. rw f.0 (simp (lt-leb _ _ h.1) (rw h.0 (cells_read cells payload 2 r.rest r.sendable f.1))))
    (λ h. rw (f.0, h.2) (simp (le-leb _ _ h.0)))
    r.counts

all_sendable : (vs : List (Option (List ℕ))) → Short vs → AllSendable (map cell_of vs)
all_sendable [] h = tt
all_sendable (none ∷ vs) h = (omega arith, all_sendable vs h)
all_sendable (some v ∷ vs) h = (h.0, all_sendable vs h.1)

pub sent_is_read : SentIsRead
unfolding data_row_bytes
sent_is_read vs surplus n h =
    laid_is_read (data_row_bytes vs ++ surplus) (map cell_of vs)
    (record {
      count = length vs;
      counts = inl (sym (length-map vs cell_of), n);
      sendable = all_sendable vs h;
      rest = surplus;
      whole = simp append_assoc;
    })
    ∙ ap some (map-map meant cell_of vs)

-- ---- from the walk to the layout

-- what stands at a place
data Stands (s : List ℕ) (i : ℕ) : Option (Column × ℕ) → Type 0 where
  cut : Stands s i none
  a_null : i + 4 ≤ length s → half 4 ≤ be (at s i 4) → Stands s i (some (Null, i + 4))
  a_value : be (at s i 4) < half 4 → i + 4 + be (at s i 4) ≤ length s → Stands s i (some (Part (i + 4) (be (at s i 4)), i + 4 + be (at s i 4)))

stands : (s : List ℕ) (i : ℕ) → Stands s i (column_at s i)
unfolding column_at field_at
stands s i = there (leb (i + 4) (length s)) refl
  where
    n : ℕ
    n = be (at s i 4)

    room : (t : Bool) → ltb (length s - (i + 4)) n ≡ t → i + 4 ≤ length s → n < half 4 → Stands s i (pick t none (some (Part (i + 4) n, i + 4 + n)))
    room true q h a = cut
    room false q h a = let k : n ≤ length s - (i + 4) = ltb-false _ _ q in a_value a (omega arith)

    sign : (t : Bool) → is_negative 4 n ≡ t → i + 4 ≤ length s → Stands s i (pick t (some (Null, i + 4)) (pick (ltb (length s - (i + 4)) n) none (some (Part (i + 4) n, i + 4 + n))))
    sign true q h = a_null h (leb-true _ _ q)
    sign false q h = room (ltb (length s - (i + 4)) n) refl h (leb-false _ _ q)

    there : (t : Bool) → leb (i + 4) (length s) ≡ t → Stands s i (column_by (length s) i (pick t (some n) none))
    there true q = sign (is_negative 4 n) refl (leb-true _ _ q)
    there false q = cut

-- bytes that begin with n columns, which say these things
record Begins (n : ℕ) (t : List ℕ) (ts : List Meaning) : Type 0 where
  cells : List Cell
  count : length cells ≡ n
  sendable : AllSendable cells
  rest : List ℕ
  whole : t ≡ cells_bytes cells ++ rest
  same : map meant cells ≡ ts

one_more : (c : Cell) (n : ℕ) (u t : List ℕ) (ts : List Meaning) → Sendable c → u ≡ cell_bytes c ++ t → Begins n t ts → Begins (suc n) u (meant c ∷ ts)
unfolding cells_bytes
one_more c n u t ts h e r =
    record {
      cells = c ∷ r.cells;
      count = ap suc r.count;
      sendable = (h, r.sendable);
      rest = r.rest;
      whole = e ∙ rw r.whole (simp append_assoc);
      same = ap (λ (l : List Meaning). meant c ∷ l) r.same;
    }

also_some : (c : Column) (r : Option (List Column)) (cs : List Column) → also c r ≡ some cs → (ds : List Column) × (r ≡ some ds) × (cs ≡ c ∷ ds)
also_some c none cs e = impossible cc
also_some c (some ds) cs e = (ds, refl, (cc))

-- at a column: its bytes, and what the walk reads after it
column_laid : (n : ℕ) (s : List ℕ) (i : ℕ) (r : Option (Column × ℕ)) (go : ℕ → Option (List Column)) (cs : List Column) → are_bytes s ≡ true → Stands s i r → column_then r go ≡ some cs
    → ((k : ℕ) (ds : List Column) → go k ≡ some ds → Begins n (drop k s) (map (meaning_of s) ds)) → Begins (suc n) (drop i s) (map (meaning_of s) cs)
unfolding cell_bytes
column_laid n s i r go cs b cut e more = impossible cc
column_laid n s i r go cs b (a_null h a) e more =
    let w = also_some Null (go (i + 4)) cs e in
    rw w.2 (one_more (null (be (at s i 4))) n (drop i s) (drop (i + 4) s) (map (meaning_of s) w.0) (a, (part_bytes s i 4 b h).1) (part_there 4 s i b h) (more (i + 4) w.0 w.1))
column_laid n s i r go cs b (a_value a h) e more =
    let len : ℕ = be (at s i 4) in
    let v : List ℕ = at s (i + 4) len in
    let k : ℕ = i + 4 + len in
    let w = also_some (Part (i + 4) len) (go k) cs e in
    let l : length v ≡ len = simp (length-take, length-drop) (omega arith) in
    let d : drop (i + 4) s ≡ v ++ drop k s = rw (← drop-drop len (i + 4) s) (sym (take-append-drop len (drop (i + 4) s))) in
    let c : drop i s ≡ cell_bytes (value v) ++ drop k s = part_there 4 s i b (omega arith) ∙ (ap (λ (x : List ℕ). be_bytes 4 len ++ x) d ∙ rw l (sym (append_assoc (be_bytes 4 len) v (drop k s)))) in
    rw w.2 (one_more (value v) n (drop i s) (drop k s) (map (meaning_of s) w.0) (rw l a) c (more k w.0 w.1))

walk_laid : (n : ℕ) (s : List ℕ) (i : ℕ) (cs : List Column) → are_bytes s ≡ true → columns_from n s i ≡ some cs → Begins n (drop i s) (map (meaning_of s) cs)
unfolding columns_from cells_bytes
walk_laid zero s i cs b e =
    let z : cs ≡ [] = cc in
    rw z (record { cells = []; count = refl; sendable = tt; rest = drop i s; whole = refl; same = refl })
walk_laid (suc n) s i cs b e = column_laid n s i (column_at s i) (λ k. columns_from n s k) cs b (stands s i) e (λ k ds. walk_laid n s k ds b)

meanings_some : (s : List ℕ) (r : Option (List Column)) (ts : List Meaning) → meanings_by s r ≡ some ts → (cs : List Column) × (r ≡ some cs) × (map (meaning_of s) cs ≡ ts)
meanings_some s none ts e = impossible cc
meanings_some s (some cs) ts e = (cs, refl, (cc))

pub read_is_laid : ReadIsLaid
unfolding data_row_read columns_of field_at cells_bytes
read_is_laid payload ts b e = there (leb 2 (length payload)) refl e
  where
    n : ℕ
    n = be (at payload 0 2)

    sign : (t : Bool) → is_negative 2 n ≡ t → 2 ≤ length payload → meanings_by payload (pick t (some []) (columns_from n payload 2)) ≡ some ts
        → (cells : List Cell) × Laid payload cells × (map meant cells ≡ ts)
    sign true q h p =
        ([], record { count = n; counts = inr (leb-true (half 2) n q, (part_bytes payload 0 2 b h).1, refl); sendable = tt; rest = drop 2 payload; whole = part_there 2 payload 0 b h }, (cc))
    sign false q h p =
        let w = meanings_some payload (columns_from n payload 2) ts p in
        let r = walk_laid n payload 2 w.0 b w.1 in
        let x : payload ≡ be_bytes 2 n ++ (cells_bytes r.cells ++ r.rest) = part_there 2 payload 0 b h ∙ ap (λ (l : List ℕ). be_bytes 2 n ++ l) r.whole in
        (r.cells, record { count = n; counts = inl (sym r.count, leb-false (half 2) n q); sendable = r.sendable; rest = r.rest; whole = x }, r.same ∙ w.2)

    there : (t : Bool) → leb 2 (length payload) ≡ t → meanings_by payload (data_row_by payload (pick t (some n) none)) ≡ some ts
        → (cells : List Cell) × Laid payload cells × (map meant cells ≡ ts)
    there true q p = sign (is_negative 2 n) refl (leb-true 2 (length payload) q) p
    there false q p = impossible cc

-- ---- a part stands in the payload

abbrev Within : List ℕ → Column → Type 0
Within s Null = Unit
Within s (Part from len) = from + len ≤ length s
Within s Absent = Unit

abbrev AllWithin : List ℕ → List Column → Type 0
AllWithin s [] = Unit
AllWithin s (c ∷ cs) = Within s c × AllWithin s cs

abbrev DataRowWithin : List ℕ → Option (List Column) → Type 0
DataRowWithin s none = Unit
DataRowWithin s (some cs) = AllWithin s cs

also_within : (s : List ℕ) (c : Column) (r : Option (List Column)) → Within s c → DataRowWithin s r → DataRowWithin s (also c r)
also_within s c none h k = tt
also_within s c (some cs) h k = (h, k)

column_within : (s : List ℕ) (i : ℕ) (r : Option (Column × ℕ)) (go : ℕ → Option (List Column)) → Stands s i r → ((k : ℕ) → DataRowWithin s (go k)) → DataRowWithin s (column_then r go)
column_within s i r go cut more = tt
column_within s i r go (a_null h a) more = also_within s Null (go (i + 4)) tt (more (i + 4))
column_within s i r go (a_value a h) more = also_within s (Part (i + 4) (be (at s i 4))) (go (i + 4 + be (at s i 4))) h (more (i + 4 + be (at s i 4)))

walk_within : (n : ℕ) (s : List ℕ) (i : ℕ) → DataRowWithin s (columns_from n s i)
unfolding columns_from
walk_within zero s i = tt
walk_within (suc n) s i = column_within s i (column_at s i) (λ k. columns_from n s k) (stands s i) (λ k. walk_within n s k)

row_within : (s : List ℕ) (f : Option ℕ) → DataRowWithin s (data_row_by s f)
row_within s none = tt
row_within s (some n) = by (is_negative 2 n)
  where
    by : (t : Bool) → DataRowWithin s (pick t (some []) (columns_from n s 2))
    by true = tt
    by false = walk_within n s 2

nth_within : (s : List ℕ) (i : ℕ) (cs : List Column) → AllWithin s cs → Within s (nth i cs)
unfolding nth
nth_within s i [] h = tt
nth_within s zero (c ∷ cs) h = h.0
nth_within s (suc i) (c ∷ cs) h = nth_within s i cs h.1

row_of_within : (payload : List ℕ) → DataRowWithin payload (columns_of payload)
unfolding columns_of
row_of_within payload = row_within payload (field_at 2 payload 0)

part_within : (s : List ℕ) (c : Column) → Within s c → (column_said c).2 + (column_said c).3 ≤ length s
part_within s Null h = omega arith
part_within s (Part from len) h = h
part_within s Absent h = omega arith

one_within : (s : List ℕ) (i : ℕ) (r : Option (List Column)) → DataRowWithin s r → (column_of r i).2 + (column_of r i).3 ≤ length s
one_within s i none h = omega arith
one_within s i (some cs) h = part_within s (nth i cs) (nth_within s i cs h)

pub part_is_within : PartIsWithin
part_is_within payload i = one_within payload i (columns_of payload) (row_of_within payload)

-- ---- what is answered about one column

missing_cell : {X : Type 0} (c : Cell) → missing ≡ meant c → X
missing_cell (null n) e = impossible cc
missing_cell (value v) e = impossible cc

-- a column that says what a cell means
cell_answers : (s : List ℕ) (c : Column) (d : Cell) → Within s c → meaning_of s c ≡ meant d → Answers s (some d) (column_said c)
cell_answers s Null (null n) w e = refl
cell_answers s Null (value v) w e = impossible cc
cell_answers s (Part from len) (null n) w e = impossible cc
cell_answers s (Part from len) (value v) w e =
    let f : at s from len ≡ v = cc in
    let n : length (at s from len) ≡ len = simp (length-take, length-drop) (omega arith) in
    let m : len ≡ length v = sym n ∙ ap length f in
    (from, rw m, rw (← m) w, rw (← m) f)
cell_answers s Absent d w e = missing_cell d e

cells_answer : (s : List ℕ) (cs : List Column) (cells : List Cell) (i : ℕ) → AllWithin s cs → map (meaning_of s) cs ≡ map meant cells
    → Answers s (cell_at i cells) (column_said (nth i cs))
unfolding nth
cells_answer s [] [] i w e = refl
cells_answer s [] (d ∷ cells) i w e = impossible cc
cells_answer s (c ∷ cs) [] i w e = impossible cc
cells_answer s (c ∷ cs) (d ∷ cells) zero w e = cell_answers s c d w.0 cc
cells_answer s (c ∷ cs) (d ∷ cells) (suc i) w e = cells_answer s cs cells i w.1 cc

pub column_is_laid : ColumnIsLaid
unfolding data_row_read
column_is_laid payload cells l i =
    let r = meanings_some payload (columns_of payload) (map meant cells) (laid_is_read payload cells l) in
    let w : AllWithin payload r.0 = rw r.1 at (row_of_within payload) in
    rw r.1 (cells_answer payload r.0 cells i w r.2)

refused_by : (payload : List ℕ) (r : Option (List Column)) → columns_of payload ≡ r → are_bytes payload ≡ true → ((cells : List Cell) → Laid payload cells → ⊥) → r ≡ none
unfolding data_row_read
refused_by payload none e b h = refl
refused_by payload (some cs) e b h = let w = read_is_laid payload (map (meaning_of payload) cs) b (rw e) in absurd (h w.0 w.1)

pub not_laid_is_refused : NotLaidIsRefused
not_laid_is_refused payload b h =
    let e : columns_of payload ≡ none = refused_by payload (columns_of payload) refl b h in
    rw e (refl, λ i. refl)
