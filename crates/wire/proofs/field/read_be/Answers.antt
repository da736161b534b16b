-- Each of the two tests says where the field is cut.
use Rattle.wire.proofs.Laws.{below_pow, tail_whole}
use Rattle.wire.proofs.FieldLaws.{field_cut, field_whole}
use Rattle.wire.specs.Bytes.{at}
use mathlib.Core.Option.{some}
use mathlib.Core.Path.{◌≡◌, sym, ap, ◌∙◌}
use Prim.Native.Nat.{◌+◌, ◌<◌}
use lib.ListN.{length, drop}
use native.Mathlib.Nat.{sub-zero}
use native.Mathlib.Omega.{arith}
use Rattle.wire.proofs.field.read_be.Goals as goal

pub returns-in_err-get : goal.returns-in_err-get
returns-in_err-get c =
    let a = c.args in
    let e = c.in_err-get.ensures.lookup.0 in
    let h : length a.s.now < a.from + a.n = grind arith in
    rw c.from_residual.ensures (sym (field_cut a.n a.s.now a.from h), below_pow a.n)

pub returns-in_err-bytes : goal.returns-in_err-bytes
returns-in_err-bytes c =
    let a = c.args in
    let rest = c.in_ok-get.ensures.lookup.0 in
    let e = c.in_err-bytes.ensures.lookup.0 in
    let h : length a.s.now < a.from + a.n = grind arith in
    rw c.from_residual-in_err-bytes.ensures (sym (field_cut a.n a.s.now a.from h), below_pow a.n)

pub returns : goal.returns
returns c =
    let a = c.args in
    let rest = c.in_ok-get.ensures.lookup.0 in
    let part = c.in_ok-bytes.ensures.lookup.0 in
    let tail : c.in_ok-get.field-0.now ≡ drop a.from a.s.now = rest.2 ∙ tail_whole a.s.now a.from in
    let bytes : c.in_ok-bytes.bytes.now ≡ at a.s.now a.from a.n = part.2 ∙ rw (sub-zero, tail) in
    let count : length c.in_ok-bytes.bytes.now ≡ a.n = grind arith in
    (ap some (rw bytes at c.load_be.ensures.0) ∙ sym (field_whole a.n a.s.now a.from (omega arith)), rw count at c.load_be.ensures.1)
