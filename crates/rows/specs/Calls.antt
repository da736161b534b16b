-- What a host may rely on, over words, each by its number: a head's words are the row's own; from the places that they name, so many calls as they
-- count are not refused and tell the row's values in their order; and every part lies in the data. SCOPE 9.6, 9.5.
use Rattle.std.specs.Prelude.{◌≡◌, true, List, [], ◌∷◌, ℕ, ◌+◌, ◌<◌, ◌≤◌, length, get_or}
use Prim.Native.Char.{code}
use Rattle.std.proofs.Math.Pow.{are_bytes}
use Rattle.wire.specs.Bytes.{at}
use Rattle.wire.specs.Int.{value}
use Rattle.rows.specs.declared.Which.{Which}
use Rattle.rows.specs.declared.Which.TheVariants.{Key, Old}
use Rattle.rows.specs.Rows.{Cell, null, unchanged, text, binary, Described, described, Row, relation, type, origin, insert, update, update_from}
use Rattle.rows.specs.Rows.{delete, truncate, row, no_row, row_said}
use Rattle.rows.specs.Words.{row_call, column_call, description_call, identifier_call}

-- ---- one word, and one part

-- word n is v
abbrev pub Word : List ℕ → ℕ → ℕ → Type 0
Word w n v = get_or w n 0 ≡ v

-- words n and n + 1 are where v stands in the data, and how long it is
abbrev pub Part : List ℕ → List ℕ → ℕ → List ℕ → Type 0
Part s w n v = (at s (get_or w n 0) (get_or w (n + 1) 0) ≡ v) × (get_or w (n + 1) 0 ≡ length v)

-- ---- what the words of one call tell

-- word 1: null 1, unchanged 2, text 3, binary 4; words 2 and 3: the value
abbrev pub TellsColumn : List ℕ → List ℕ → Cell → Type 0
TellsColumn s w null = Word w 1 1
TellsColumn s w unchanged = Word w 1 2
TellsColumn s w (text v) = Word w 1 3 × Part s w 2 v
TellsColumn s w (binary v) = Word w 1 4 × Part s w 2 v

-- word 1: flags; words 2 and 3: the name; word 4: type; word 5: type modifier in two's complement
abbrev pub TellsDescription : List ℕ → List ℕ → Described → Type 0
TellsDescription s w (described flags v oid modifier) = Word w 1 flags × Part s w 2 v × Word w 4 oid × Word w 5 (value 8 modifier)

-- word 1: the identifier
abbrev pub TellsIdentifier : List ℕ → ℕ → Type 0
TellsIdentifier w id = Word w 1 id

-- ---- calls in turn

-- the first call is at place i and each further one at the place that the last one answered, which is not 0; none is refused, which word 0 says too;
-- they tell these values, and the last one answers place j
abbrev pub CallsInTurn : {A : Type 0} → (ℕ → ℕ × List ℕ) → (List ℕ → A → Type 0) → ℕ → List A → ℕ → Type 0
CallsInTurn call Tells i [] j = i ≡ j
CallsInTurn call Tells i (v ∷ vs) j =
    (k : ℕ) × (w : List ℕ) × (call i ≡ (k, w)) × (0 < k) × Word w 0 0 × Tells w v × CallsInTurn call Tells k vs j

-- calls one after the other, as many as a head counts in word n, from the place in word n + 1, and to a place in the data
abbrev pub Calls : {A : Type 0} → List ℕ → (ℕ → ℕ × List ℕ) → (List ℕ → A → Type 0) → List ℕ → ℕ → List A → Type 0
Calls s call Tells w n vs = Word w n (length vs) × (j : ℕ) × CallsInTurn call Tells (get_or w (n + 1) 0) vs j × (j ≤ length s)

-- of a tuple
abbrev pub Columns : List ℕ → List ℕ → ℕ → List Cell → Type 0
Columns s w n cs = Calls s (column_call s) (TellsColumn s) w n cs

-- ---- rows

-- the letter before an old tuple
abbrev pub letter_of : Which → ℕ
letter_of Key = code "K"
letter_of Old = code "O"

-- word 0: the kind; word 1: the identifier, of an Origin the position; word 2: replica identity, letter of the old tuple, option bits;
-- words 3 and 4: columns, descriptions or relations; words 5 and 6: the old tuple; words 7 and 8: the namespace; words 9 and 10: the name
abbrev pub Answered : List ℕ → List ℕ → Row → Type 0
Answered s w (relation id space v identity cs) =
    Word w 0 1 × Word w 1 id × Word w 2 identity × Part s w 7 space × Part s w 9 v × Calls s (description_call s) (TellsDescription s) w 3 cs
Answered s w (type id space v) = Word w 0 2 × Word w 1 id × Part s w 7 space × Part s w 9 v
Answered s w (origin position v) = Word w 0 3 × Word w 1 position × Part s w 9 v
Answered s w (insert id new) = Word w 0 4 × Word w 1 id × Columns s w 3 new
Answered s w (update id new) = Word w 0 5 × Word w 1 id × Word w 2 0 × Columns s w 3 new
Answered s w (update_from id which old new) = Word w 0 5 × Word w 1 id × Word w 2 (letter_of which) × Columns s w 5 old × Columns s w 3 new
Answered s w (delete id which old) = Word w 0 6 × Word w 1 id × Word w 2 (letter_of which) × Columns s w 5 old
Answered s w (truncate options ids) = Word w 0 7 × Word w 2 options × Calls s (identifier_call s) TellsIdentifier w 3 ids

-- a row is not refused, and is told whole by its head's words and these calls
abbrev pub RowIsAnswered : Type 0
RowIsAnswered = (s : List ℕ) (r : Row) → are_bytes s ≡ true → row_said s ≡ row r → ((row_call s).0 ≡ 0) × Answered s (row_call s).1 r

-- no row: not refused, and of kind 0
abbrev pub NoRowIsAnswered : Type 0
NoRowIsAnswered = (s : List ℕ) → row_said s ≡ no_row → ((row_call s).0 ≡ 0) × Word (row_call s).1 0 0

-- ---- parts lie in what was lent, whatever the data and the place are

abbrev pub PartWithin : List ℕ → ℕ → ℕ → Type 0
PartWithin s place len = place + len ≤ length s

-- a column's value
abbrev pub ColumnIsWithin : Type 0
ColumnIsWithin = (s : List ℕ) (i : ℕ) → let w = (column_call s i).1 in PartWithin s (get_or w 2 0) (get_or w 3 0)

-- a column's name
abbrev pub DescriptionIsWithin : Type 0
DescriptionIsWithin = (s : List ℕ) (i : ℕ) → let w = (description_call s i).1 in PartWithin s (get_or w 2 0) (get_or w 3 0)

-- a namespace, a name, and the places of what is counted
abbrev pub RowIsWithin : Type 0
RowIsWithin =
    (s : List ℕ) → are_bytes s ≡ true → let w = (row_call s).1 in
    PartWithin s (get_or w 7 0) (get_or w 8 0) × PartWithin s (get_or w 9 0) (get_or w 10 0) × (get_or w 4 0 ≤ length s) × (get_or w 6 0 ≤ length s)
