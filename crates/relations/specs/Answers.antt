-- What the answers say. Refusals: document 02, wish 4.
use Rattle.std.specs.Prelude.{Bool, ℕ, ◌+◌, ◌*◌, min, eqb, leb, get_or, Option as Maybe, Some, None, Result, Ok, Err}
use Rattle.std.proofs.Math.Option.{Option, some, none}
use Rattle.wire.specs.Bytes.{pick}
use Rattle.error.specs.Refusal.{usage, protocol}
use Rattle.rows.specs.Head.{Span, span_of, relation_head, type_head, origin_head, insert_head, update_head, update_from_head, delete_head, truncate_head, head, none as no_head, refusal, answer_by as row_by, number_of as row_number, Answer as RowAnswer}
use Rattle.rows.specs.declared.Row.{Row}
use Rattle.relations.specs.declared.Refusal.{Refusal}
use Rattle.relations.specs.declared.Refusal.TheVariants.{CacheFull, TooLarge, Unmatched, NoRoom}
use Rattle.relations.specs.declared.Refused.{Refused}
use Rattle.relations.specs.declared.Refused.TheVariants.{Data, Cache}
use Rattle.relations.specs.declared.Related.{Related}
use Rattle.relations.specs.declared.Column.{Column}
use Rattle.relations.specs.Cache.{matches, first_of, is_key}
use Rattle.relations.specs.Memory.{Columns, Memory, slot_in, count_in}

-- the number of each
abbrev pub number_of : Refusal → ℕ
number_of CacheFull = 28
number_of TooLarge = 29
number_of Unmatched = 30
number_of NoRoom = 4

-- the kind of each, by its number in SCOPE 7.4
abbrev pub kind_of : Refusal → ℕ
kind_of CacheFull = protocol
kind_of TooLarge = protocol
kind_of Unmatched = protocol
kind_of NoRoom = usage

-- the number of a message's refusal
abbrev pub refused_number : Refused → ℕ
refused_number (Data r) = row_number r
refused_number (Cache r) = number_of r

-- a message's answer as that of its data, with more numbers
abbrev pub answer_by : Result (Maybe Row) Refused → RowAnswer
answer_by (Ok r) = row_by (Ok r)
answer_by (Err r) = refusal (refused_number r)

-- 0, or the number of the refusal
abbrev pub verdict_by : Result Unit Refusal → ℕ
verdict_by (Ok u) = 0
verdict_by (Err r) = number_of r

-- a column by the part of the names that has its name, whether it is of the key, and its type
abbrev pub Told : Type 0
Told = Span × Bool × ℕ

abbrev pub column_by : Maybe Column → Option Told
column_by (Some c) = some (span_of c.name, c.key, c.oid)
column_by None = none

-- column i
abbrev pub column_span : Columns → ℕ → Told
column_span s i = ((63 * i, min (get_or s.lens i 0) 63), is_key (get_or s.flags i 0), get_or s.types i 0)

-- a column where there are k, from column i on
abbrev pub told_among : Columns → ℕ → Option ℕ → ℕ → Option Told
told_among s i none index = none
told_among s i (some k) index = pick (leb k index) none (some (column_span s (i + index)))

-- column `index` of a relation, if it is held and has so many. Only 64 slots have columns
abbrev pub column_told : Memory → ℕ → ℕ → Option Told
column_told m id index = pick (leb 64 (slot_in m id)) none (told_among m.columns (32 * slot_in m id) (count_in m id) index)

-- ---- what the inner functions say

-- a number that is not 0 refuses what is answered
abbrev pub answer_as : ℕ → RowAnswer → RowAnswer
answer_as n a = pick (eqb n 0) a (refusal n)

-- of a Relation's head: identifier, how many columns, where the first description stands
abbrev pub related_of : RowAnswer → Option (ℕ × ℕ × ℕ)
related_of (head (relation_head id space v identity n from)) = some (id, n, from)
related_of (head (type_head id space v)) = none
related_of (head (origin_head position v)) = none
related_of (head (insert_head id new)) = none
related_of (head (update_head id new)) = none
related_of (head (update_from_head id which old new)) = none
related_of (head (delete_head id which old)) = none
related_of (head (truncate_head n options from)) = none
related_of no_head = none
related_of (refusal n) = none

abbrev pub related_by : Maybe Related → Option (ℕ × ℕ × ℕ)
related_by (Some r) = some (r.id, r.columns, r.from)
related_by None = none

-- the tuples that a head names, matched by their counts
abbrev pub head_judged : (ℕ → Option ℕ) → RowAnswer → ℕ
head_judged count (head (relation_head id space v identity n from)) = 0
head_judged count (head (type_head id space v)) = 0
head_judged count (head (origin_head position v)) = 0
head_judged count (head (insert_head id new)) = matches (count id) new.0
head_judged count (head (update_head id new)) = matches (count id) new.0
head_judged count (head (update_from_head id which old new)) = first_of (matches (count id) old.0) (matches (count id) new.0)
head_judged count (head (delete_head id which old)) = matches (count id) old.0
head_judged count (head (truncate_head n options from)) = 0
head_judged count no_head = 0
head_judged count (refusal n) = 0
