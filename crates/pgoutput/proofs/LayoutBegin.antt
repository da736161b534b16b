-- Begin, field by field: after each field stands the next, and after the last a surplus that is not read.
use mathlib.Core.Path.{◌≡◌, sym, ap, ◌∙◌}
use mathlib.Core.Bool.{true}
use mathlib.Core.Option.{some}
use mathlib.Core.List.{List, ◌∷◌, ◌++◌, append_assoc}
use Prim.Native.Nat.{ℕ, ◌<◌, ◌^◌}
use native.Mathlib.Omega.{arith}
use lib.ListN.{drop}
use lib.IntN.{ℤ}
use lib.Signed.{mag}
use lib.Pow.{are_bytes}
use Rattle.wire.specs.Bytes.{be_bytes}
use Rattle.wire.specs.Field.{field_at}
use Rattle.wire.specs.Int.{int_at, int_bytes}
use Rattle.wire.proofs.FieldLaws.{field_read, field_there, int_read, int_there}
use Rattle.wire.proofs.Laws.{impossible}
use Rattle.pgoutput.specs.Boundary.{begin, refused, begin_at, boundary_of, begin_bytes}
use Rattle.pgoutput.specs.BoundaryLayout.{BeginIsRead, SentBegin, ReadIsBegin}
use Rattle.pgoutput.proofs.Laws.{begin_values}
use Rattle.pgoutput.proofs.LayoutFields.{by_letter, begin_fields, commit_fields, message_fields}

-- ---- from the bytes to the values

laid : (s : List ℕ) (a : ℕ) (z : ℤ) (x : ℕ) (rest : List ℕ) → a < 2 ^ 64 → mag z < 2 ^ 63 → x < 2 ^ 32
    → drop 1 s ≡ be_bytes 8 a ++ (int_bytes 8 z ++ (be_bytes 4 x ++ rest)) → begin_at s 1 ≡ begin a z x
laid s a z x rest ha hz hx e =
    let p = field_read 8 s 1 a (int_bytes 8 z ++ (be_bytes 4 x ++ rest)) (omega arith) ha e in
    let q = int_read 8 s 9 (omega arith) z (be_bytes 4 x ++ rest) hz p.1 in
    let r = field_read 4 s 17 x rest (omega arith) hx q.1 in
    begin_values s 1 a z x p.0 q.0 r.0

pub begin_is_read : BeginIsRead
unfolding boundary_of begin_bytes
begin_is_read final time xid surplus hf ht hx = laid (begin_bytes final time xid ++ surplus) final time xid surplus hf ht hx (simp append_assoc)

-- ---- from the values to the bytes

sent : (t : List ℕ) (a : ℕ) (z : ℤ) (x : ℕ) → are_bytes (66 ∷ t) ≡ true → field_at 8 (66 ∷ t) 1 ≡ some a → int_at 8 (66 ∷ t) 9 ≡ some z → field_at 4 (66 ∷ t) 17 ≡ some x
    → SentBegin (66 ∷ t) a z x
unfolding begin_bytes
sent t a z x b e f g =
    let p = field_there 8 (66 ∷ t) 1 a b e in
    let q = int_there 8 (66 ∷ t) 9 (omega arith) z b f in
    let r = field_there 4 (66 ∷ t) 17 x b g in
    let w : t ≡ be_bytes 8 a ++ (int_bytes 8 z ++ (be_bytes 4 x ++ drop 20 t)) = p.2 ∙ ap (λ (l : List ℕ). be_bytes 8 a ++ l) (q.2 ∙ ap (λ (l : List ℕ). int_bytes 8 z ++ l) r.2) in
    let v : be_bytes 8 a ++ (int_bytes 8 z ++ (be_bytes 4 x ++ drop 20 t)) ≡ (be_bytes 8 a ++ (int_bytes 8 z ++ be_bytes 4 x)) ++ drop 20 t = simp append_assoc in
    record {
      final_fits = p.1;
      time_fits = q.1;
      xid_fits = r.1;
      surplus = drop 20 t;
      whole = ap (λ (l : List ℕ). 66 ∷ l) (w ∙ v);
    }

accepted : (s t : List ℕ) (final : ℕ) (time : ℤ) (xid a : ℕ) (z : ℤ) (x : ℕ) → are_bytes s ≡ true → s ≡ 66 ∷ t → field_at 8 s 1 ≡ some a → int_at 8 s 9 ≡ some z
    → field_at 4 s 17 ≡ some x → begin a z x ≡ begin final time xid → SentBegin s final time xid
accepted s t final time xid a z x b q e f g h =
    let i : final ≡ a = cc in
    let j : time ≡ z = cc in
    let k : xid ≡ x = cc in
    rw (q, i, j, k) (sent t a z x (rw q at b) (rw q at e) (rw q at f) (rw q at g))

pub read_is_begin : ReadIsBegin
read_is_begin s final time xid b e =
    by_letter s
    (λ t q x.
    let f = begin_fields (begin final time xid) never s 1 (sym x ∙ e) in
    accepted s t final time xid f.0 f.1 f.2 b q f.3 f.4 f.5 f.6)
    (λ t q x. let f = commit_fields (begin final time xid) never s 1 (sym x ∙ e) in impossible (cc f.8))
    (λ t q x. let f = message_fields (begin final time xid) never s 1 (sym x ∙ e) in impossible (cc f.10))
    (λ x. impossible cc)
  where
    never : (n : ℕ) → refused n ≡ begin final time xid → ⊥
    never n p = impossible cc
