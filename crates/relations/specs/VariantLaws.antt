-- What the values of the code stand for, field by field, and the refusals' numbers. Document 02, wish 4; SCOPE 7.1, 7.4, 17.
use Rattle.std.specs.Prelude.{◌≡◌, Bool, List, [], ℕ, Option as Maybe, Some, None, Ok, Err}
use Rattle.std.proofs.Math.Option.{some, none}
use Rattle.rows.specs.declared.Part.{Part}
use Rattle.rows.specs.declared.Row.{Row}
use Rattle.rows.specs.declared.Refusal.{Refusal as RowRefusal}
use Rattle.rows.specs.Head.{refusal, answer_by as row_by}
use Rattle.wire.specs.Answer.{maybe}
use Rattle.relations.specs.declared.Refusal.{Refusal}
use Rattle.relations.specs.declared.Refusal.TheVariants.{CacheFull, TooLarge, Unmatched, NoRoom}
use Rattle.relations.specs.declared.Refused.TheVariants.{Data, Cache}
use Rattle.relations.specs.Memory.{columns, memory}
use Rattle.relations.specs.Answers.{number_of, kind_of, answer_by, verdict_by, column_by, column_told, related_by}

-- each variant stands for the answer, count or column of its name, and each refusal has its own number
pub record VariantLaws : Type 0 where
  pub read : (r : Maybe Row) → answer_by (Ok r) ≡ row_by (Ok r)
  pub data_refused : (r : RowRefusal) → answer_by (Err (Data r)) ≡ row_by (Err r)
  pub full : answer_by (Err (Cache CacheFull)) ≡ refusal 28
  pub large : answer_by (Err (Cache TooLarge)) ≡ refusal 29
  pub unmatched : answer_by (Err (Cache Unmatched)) ≡ refusal 30
  pub no_room : answer_by (Err (Cache NoRoom)) ≡ refusal 4
  pub accepted : verdict_by (Ok tt) ≡ 0
  pub refused : (r : Refusal) → verdict_by (Err r) ≡ number_of r
  pub count : (n : ℕ) → maybe (Some n) ≡ some n
  pub not_held : maybe {A = ℕ} None ≡ none
  pub column : (name : Part) (key : Bool) (oid : ℕ) → column_by (Some (record { name = name; key = key; oid = oid })) ≡ some ((name.from, name.len), key, oid)
  pub absent : column_by None ≡ none
  -- of a Relation its identifier, how many columns it has, and where they are described
  pub related : (id n from : ℕ) → related_by (Some (record { id = id; columns = n; from = from })) ≡ some (id, n, from)
  pub other : related_by None ≡ none
  -- the refusals' numbers, and their kinds: Protocol, 3, and Usage, 1
  pub full_number : number_of CacheFull ≡ 28
  pub large_number : number_of TooLarge ≡ 29
  pub unmatched_number : number_of Unmatched ≡ 30
  pub no_room_number : number_of NoRoom ≡ 4
  pub full_kind : kind_of CacheFull ≡ 3
  pub large_kind : kind_of TooLarge ≡ 3
  pub unmatched_kind : kind_of Unmatched ≡ 3
  pub no_room_kind : kind_of NoRoom ≡ 1
  -- a column is looked up without the names, which need not be lent for it
  pub names_unread : (held : ℕ) (ids counts types flags lens names : List ℕ) (id k : ℕ)
      → column_told (memory held ids counts (columns types flags lens names)) id k
      ≡ column_told (memory held ids counts (columns types flags lens [])) id k
