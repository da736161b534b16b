-- Commit, field by field: after each field stands the next, and after the last a surplus that is not read.
use mathlib.Core.Path.{◌≡◌, sym, ap, ◌∙◌}
use mathlib.Core.Bool.{true}
use mathlib.Core.Option.{some}
use mathlib.Core.List.{List, ◌∷◌, ◌++◌, append_assoc}
use Prim.Native.Nat.{ℕ, ◌<◌, ◌^◌}
use native.Mathlib.Omega.{arith}
use lib.ListN.{drop}
use lib.IntN.{ℤ}
use lib.Signed.{mag}
use lib.Pow.{are_bytes}
use Rattle.wire.specs.Bytes.{be_bytes}
use Rattle.wire.specs.Field.{field_at}
use Rattle.wire.specs.Int.{int_at, int_bytes}
use Rattle.wire.proofs.FieldLaws.{be_bytes_one, field_read, field_there, int_read, int_there}
use Rattle.wire.proofs.Laws.{impossible}
use Rattle.pgoutput.specs.Boundary.{commit, refused, commit_at, boundary_of, commit_bytes}
use Rattle.pgoutput.specs.BoundaryLayout.{CommitIsRead, SentCommit, ReadIsCommit}
use Rattle.pgoutput.proofs.Laws.{commit_values}
use Rattle.pgoutput.proofs.LayoutFields.{by_letter, begin_fields, commit_fields, message_fields}

-- ---- from the bytes to the values

laid : (s : List ℕ) (v a b : ℕ) (z : ℤ) (rest : List ℕ) → v < 256 → a < 2 ^ 64 → b < 2 ^ 64 → mag z < 2 ^ 63
    → drop 1 s ≡ v ∷ (be_bytes 8 a ++ (be_bytes 8 b ++ (int_bytes 8 z ++ rest))) → commit_at s 1 ≡ commit a b z
laid s v a b z rest hv ha hb hz e =
    let o = field_read 1 s 1 v (be_bytes 8 a ++ (be_bytes 8 b ++ (int_bytes 8 z ++ rest))) (omega arith) hv (rw (be_bytes_one v hv) e) in
    let p = field_read 8 s 2 a (be_bytes 8 b ++ (int_bytes 8 z ++ rest)) (omega arith) ha o.1 in
    let q = field_read 8 s 10 b (int_bytes 8 z ++ rest) (omega arith) hb p.1 in
    let r = int_read 8 s 18 (omega arith) z rest hz q.1 in
    commit_values s 1 v a b z o.0 p.0 q.0 r.0

pub commit_is_read : CommitIsRead
unfolding boundary_of commit_bytes
commit_is_read flags position end time surplus hf hp he ht =
    laid (commit_bytes flags position end time ++ surplus) flags position end time surplus hf hp he ht (simp append_assoc)

-- ---- from the values to the bytes

sent : (t : List ℕ) (v a b : ℕ) (z : ℤ) → are_bytes (67 ∷ t) ≡ true → field_at 1 (67 ∷ t) 1 ≡ some v → field_at 8 (67 ∷ t) 2 ≡ some a → field_at 8 (67 ∷ t) 10 ≡ some b
    → int_at 8 (67 ∷ t) 18 ≡ some z → SentCommit (67 ∷ t) a b z
unfolding commit_bytes
sent t v a b z bytes e f g h =
    let o = field_there 1 (67 ∷ t) 1 v bytes e in
    let p = field_there 8 (67 ∷ t) 2 a bytes f in
    let q = field_there 8 (67 ∷ t) 10 b bytes g in
    let r = int_there 8 (67 ∷ t) 18 (omega arith) z bytes h in
    let n : t ≡ v ∷ drop 1 t = rw (be_bytes_one v o.1) at o.2 in
    let w : drop 1 t ≡ be_bytes 8 a ++ (be_bytes 8 b ++ (int_bytes 8 z ++ drop 25 t)) =
    p.2 ∙ ap (λ (l : List ℕ). be_bytes 8 a ++ l) (q.2 ∙ ap (λ (l : List ℕ). be_bytes 8 b ++ l) r.2)
    in
    let x : be_bytes 8 a ++ (be_bytes 8 b ++ (int_bytes 8 z ++ drop 25 t)) ≡ (be_bytes 8 a ++ (be_bytes 8 b ++ int_bytes 8 z)) ++ drop 25 t = simp append_assoc in
    record {
      flags = v;
      flags_fit = o.1;
      position_fits = p.1;
      end_fits = q.1;
      time_fits = r.1;
      surplus = drop 25 t;
      whole = ap (λ (l : List ℕ). 67 ∷ l) (n ∙ ap (λ (l : List ℕ). v ∷ l) (w ∙ x));
    }

accepted : (s t : List ℕ) (position end : ℕ) (time : ℤ) (v a b : ℕ) (z : ℤ) → are_bytes s ≡ true → s ≡ 67 ∷ t → field_at 1 s 1 ≡ some v → field_at 8 s 2 ≡ some a
    → field_at 8 s 10 ≡ some b → int_at 8 s 18 ≡ some z → commit a b z ≡ commit position end time → SentCommit s position end time
accepted s t position end time v a b z bytes q d e f g h =
    let i : position ≡ a = cc in
    let j : end ≡ b = cc in
    let k : time ≡ z = cc in
    rw (q, i, j, k) (sent t v a b z (rw q at bytes) (rw q at d) (rw q at e) (rw q at f) (rw q at g))

pub read_is_commit : ReadIsCommit
read_is_commit s position end time bytes e =
    by_letter s
    (λ t q x. let f = begin_fields (commit position end time) never s 1 (sym x ∙ e) in impossible (cc f.6))
    (λ t q x.
    let f = commit_fields (commit position end time) never s 1 (sym x ∙ e) in
    accepted s t position end time f.0 f.1 f.2 f.3 bytes q f.4 f.5 f.6 f.7 f.8)
    (λ t q x. let f = message_fields (commit position end time) never s 1 (sym x ∙ e) in impossible (cc f.10))
    (λ x. impossible cc)
  where
    never : (n : ℕ) → refused n ≡ commit position end time → ⊥
    never n p = impossible cc
