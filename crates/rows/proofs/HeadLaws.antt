-- What is handed out leads to the values of the row.
use mathlib.Core.Path.{◌≡◌, refl, ap}
use Rattle.rows.specs.Rows.{relation, insert, update, update_from, delete, truncate}
use Rattle.rows.specs.Layout.{mapped}
use Rattle.rows.specs.Head.{answer_of, cell_at, described_at, kind_of}
use Rattle.rows.specs.HeadLaws.{AnswerLaws, ToldLaws, VariantLaws}
use Rattle.rows.specs.declared.Refusal.{Refusal}
use Rattle.rows.specs.declared.Refusal.TheVariants.{FieldCut, UnknownLetter}
use Rattle.rows.proofs.Parts.{part_laws}
use Rattle.rows.proofs.Readers.{readers_answer}
use Rattle.rows.proofs.Tells.{first_byte}

pub answer_laws : AnswerLaws
answer_laws = record {
  of_relation = λ s b id space v identity ds e.
      let p = part_laws.relation_parts s b id space v identity ds e in
      let r = readers_answer s (relation id space v identity ds) b e in
      (_, _, _, ap answer_of e, p.0, p.1, _, r.0);
  of_type = λ s b id space v e.
      let p = part_laws.type_parts s b id space v e in
      (_, _, ap answer_of e, p.0, p.1);
  of_origin = λ s b position v e. (_, ap answer_of e, part_laws.origin_part s b position v e);
  of_insert = λ s b id new e. (_, ap answer_of e, (_, (readers_answer s (insert id new) b e).0));
  of_update = λ s b id new e. (_, ap answer_of e, (_, (readers_answer s (update id new) b e).0));
  of_update_from = λ s b id which old new e.
      let r = readers_answer s (update_from id which old new) b e in
      (_, _, ap answer_of e, (_, r.0.0), (_, r.1.0));
  of_delete = λ s b id which old e. (_, ap answer_of e, (_, (readers_answer s (delete id which old) b e).0));
  of_truncate = λ s b options ids e. (_, ap answer_of e, _, (readers_answer s (truncate options ids) b e).0);
  of_none = λ s h. ap answer_of (first_byte.none s h);
  of_refused = λ s n e. ap answer_of e;
}

pub told_laws : ToldLaws
told_laws = record {
  of_null = λ s i j e. rw e;
  of_unchanged = λ s i j e. rw e;
  of_text = λ s b i v j e. (_, ap (mapped (cell_at i)) e, part_laws.text_part s b i v j e);
  of_binary = λ s b i v j e. (_, ap (mapped (cell_at i)) e, part_laws.binary_part s b i v j e);
  of_refused = λ s i n e. rw e;
  of_description = λ s b i flags v oid modifier j e. (_, ap (mapped (described_at i)) e, part_laws.description_part s b i flags v oid modifier j e);
  of_refused_description = λ s i n e. rw e;
}

one_kind : (r : Refusal) → kind_of r ≡ 3
one_kind FieldCut = refl
one_kind UnknownLetter = refl

pub variant_laws : VariantLaws
variant_laws = record {
  relation_is = λ id space v identity columns from. refl;
  type_is = λ id space v. refl;
  origin_is = λ position v. refl;
  insert_is = λ id new. refl;
  update_is = λ id new. refl;
  update_from_is = λ id which old new. refl;
  delete_is = λ id which old. refl;
  truncate_is = λ relations options from. refl;
  none_is = refl;
  refused_cut = refl;
  refused_letter = refl;
  null_is = λ next. refl;
  unchanged_is = λ next. refl;
  text_is = λ part next. refl;
  binary_is = λ part next. refl;
  column_cut = refl;
  column_letter = refl;
  description_is = λ flags part oid modifier next. refl;
  description_cut = refl;
  description_letter = refl;
  identifier_is = λ id next. refl;
  identifier_cut = refl;
  identifier_letter = refl;
  cut_number = refl;
  letter_number = refl;
  kind = one_kind;
}
