-- By whether the data are a Relation.
use mathlib.Core.Path.{refl, ◌∙◌, ap}
use native.Mathlib.Omega.{arith}
use Rattle.rows.specs.Rows.{row_said}
use Rattle.rows.proofs.HandedOn.{handed_on}
use Rattle.relations.specs.Answers.{related_of}
use Rattle.relations.proofs.Leaves.{all_bytes, refused_answer}
use Rattle.relations.proofs.Messages.{relation_told}
use Rattle.packed_relations.specs.Lent.{packed_in}
use Rattle.packed_relations.proofs.Leaves.{read_left, refused_left, kept_left, both}
use Rattle.packed_relations.proofs.store.Cache.message.Goals as goal

pub returns-in_err-row-clause-value : goal.returns-in_err-row-clause-value
returns-in_err-row-clause-value c =
    let a = c.args in
    rw (handed_on _ c.from_residual.ensures)
    (refused_left (packed_in a.self.now) (row_said a.bytes.now) c.in_err-row.ensures)

pub returns-in_err-judge-clause-value : goal.returns-in_err-judge-clause-value
returns-in_err-judge-clause-value c =
    let a = c.args in
    rw (handed_on _ c.from_residual-in_err-judge.ensures)
    (both (refused_answer _ _) refl
    ∙ read_left (packed_in a.self.now) (row_said a.bytes.now) c.read.ensures.0 c.read.ensures.1 c.read.ensures.2 c.in_ok-row.ensures c.in_default.ensures
    c.in_err-judge.ensures)

pub returns-in_default-clause-value : goal.returns-in_default-clause-value
returns-in_default-clause-value c =
    let a = c.args in
    read_left (packed_in a.self.now) (row_said a.bytes.now) c.read.ensures.0 c.read.ensures.1 c.read.ensures.2 c.in_ok-row.ensures c.in_default.ensures
    c.in_ok-judge.ensures

pub keep-requires : goal.keep-requires
keep-requires c =
    let a = c.args in
    let b = all_bytes a.bytes.now (λ i. omega (arith, c.type_inv.bytes i)) in
    let w = relation_told a.bytes.now b _ _ _ (c.in-Some.ensures ∙ ap related_of c.in_ok-row.ensures) in
    rw w.read w.count

pub returns-in_err-keep-clause-value : goal.returns-in_err-keep-clause-value
returns-in_err-keep-clause-value c =
    let a = c.args in
    let b = all_bytes a.bytes.now (λ i. omega (arith, c.type_inv.bytes i)) in
    let w = relation_told a.bytes.now b _ _ _ (c.in-Some.ensures ∙ ap related_of c.in_ok-row.ensures) in
    rw (handed_on _ c.from_residual-in_err-keep.ensures)
    (both (refused_answer _ _) refl
    ∙ kept_left a.bytes.now (packed_in a.self.now) w c.in_ok-row.ensures
    c.in_err-keep.ensures.value)

pub returns-clause-value : goal.returns-clause-value
returns-clause-value c =
    let a = c.args in
    let b = all_bytes a.bytes.now (λ i. omega (arith, c.type_inv.bytes i)) in
    let w = relation_told a.bytes.now b _ _ _ (c.in-Some.ensures ∙ ap related_of c.in_ok-row.ensures) in
    kept_left a.bytes.now (packed_in a.self.now) w c.in_ok-row.ensures
    c.in_ok-keep.ensures.value
