-- Each case's writer, within the limit, writes the text that the fields ask for.
use Rattle.std.specs.Prelude.{Option as Answer, Some, None}
use mathlib.Core.Path.{refl, ap, ◌∙◌}
use mathlib.Core.List.{List}
use Prim.Native.Nat.{ℕ, ◌≤◌}
use native.Mathlib.Omega.{arith}
use lib.ListN.{length, length-take, length-drop}
use Rattle.error.proofs.Laws.{too_long}
use Rattle.messages.specs.declared.Field.{Field}
use Rattle.messages.specs.Fields.{named}
use Rattle.messages.specs.ErrorText.{plain}
use Rattle.lossy.specs.Lossy.{lossy_of}
use Rattle.lossy.proofs.Laws.{marked}
use Rattle.messages.proofs.Text.{answered, coded_same, marks_same, plain_lossy, plain_marks, unknown_lossy, unknown_marks}
use Rattle.messages.proofs.to_error_string.Goals as goal

named_within : (s : List ℕ) (f : Answer Field) → length (named s f) ≤ length s
named_within s f = simp (length-take, length-drop) (omega arith)

pub returns-then-payload-gt-INPUT_LIMIT : goal.returns-then-payload-gt-INPUT_LIMIT
returns-then-payload-gt-INPUT_LIMIT c = marked 25 0 0 _ (too_long _ _ _ c.if-payload-gt-INPUT_LIMIT.true) refl

pub returns-in-Some-Some : goal.returns-in-Some-Some
returns-in-Some-Some c =
    let a = c.args in
    let w = c.in-Some-Some in
    answered a.fields.fields a.payload.now _ (Some w.m) (Some w.c) 0 (omega arith) (omega arith) w.is-0 w.is-1
    (coded_same c.part.ensures c.part-in-Some-Some.ensures) (marks_same c.part.ensures c.part-in-Some-Some.ensures) c.with_code.ensures

pub returns-in-Some-None : goal.returns-in-Some-None
returns-in-Some-None c =
    let a = c.args in
    let w = c.in-Some-None in
    let e = c.part-in-Some-None.ensures in
    let l : length c.part-in-Some-None.result.now ≤ length a.payload.now = rw e (named_within a.payload.now (Some w.m)) in
    answered a.fields.fields a.payload.now _ (Some w.m) None _ (omega arith) (omega arith) w.is-0 w.is-1 (ap lossy_of e) (rw e (omega arith)) c.write_lossy.ensures

pub returns-in-None-Some : goal.returns-in-None-Some
returns-in-None-Some c =
    let a = c.args in
    let w = c.in-None-Some in
    let e = c.part-in-None-Some.ensures in
    answered a.fields.fields a.payload.now _ None (Some w.c) 0 (omega arith) (omega arith) w.is-0 w.is-1 (coded_same {a = plain} refl e ∙ rw plain_lossy)
    (marks_same {a = plain} refl e ∙ rw plain_marks) c.with_code-in-None-Some.ensures

pub returns-in-None-None : goal.returns-in-None-None
returns-in-None-None c =
    let a = c.args in
    let w = c.in-None-None in
    answered a.fields.fields a.payload.now _ None None 20 (omega arith) (omega arith) w.is-0 w.is-1 unknown_lossy unknown_marks c.write_lossy-in-None-None.ensures
