-- Message, field by field: after each field stands the next, after the prefix a zero byte, and after the content a surplus that is not read.
use mathlib.Core.Path.{◌≡◌, refl, sym, ap, ◌∙◌}
use mathlib.Core.Bool.{Bool, true}
use mathlib.Core.Option.{some}
use mathlib.Core.List.{List, ◌∷◌, ◌++◌, append_assoc}
use Prim.Native.Nat.{ℕ, ◌+◌, ◌-◌, ◌%◌, ◌≤◌, ◌<◌, ◌^◌}
use native.Mathlib.Omega.{arith}
use lib.ListN.{length, drop, length-append, length-drop, take-append-drop}
use lib.Seq.{drop-drop, drop-append-add, take-append_seam, length-take-le}
use lib.Dec.{eqb}
use lib.Pow.{are_bytes}
use Rattle.wire.specs.Bytes.{at, be_bytes}
use Rattle.wire.specs.Field.{field_at}
use Rattle.wire.specs.Int.{half}
use Rattle.wire.specs.Find.{index_of, NoZero}
use Rattle.wire.proofs.FindLaws.{zero_at, found_at}
use Rattle.wire.proofs.FieldLaws.{be_bytes_one, field_read, field_there, field_within}
use Rattle.wire.proofs.Laws.{impossible}
use Rattle.pgoutput.specs.Boundary.{message, refused, message_at, boundary_of, message_bytes}
use Rattle.pgoutput.specs.BoundaryLayout.{MessageIsRead, SentMessage, ReadIsMessage}
use Rattle.pgoutput.proofs.Laws.{message_values, prefix_within}
use Rattle.pgoutput.proofs.LayoutFields.{by_letter, begin_fields, commit_fields, message_fields}

-- what stands after a prefix of n bytes from place 10 and its zero byte
after_prefix : (s : List ℕ) (n : ℕ) → drop (n + 1) (drop 10 s) ≡ drop (10 + n + 1) s
after_prefix s n = let p : 10 + (n + 1) ≡ 10 + n + 1 = omega arith in drop-drop (n + 1) 10 s ∙ rw p

-- ---- from the bytes to the values

laid : (s : List ℕ) (v a : ℕ) (prefix content rest : List ℕ) → v < 256 → a < 2 ^ 64 → NoZero prefix → length content < 2 ^ 31
    → drop 1 s ≡ v ∷ (be_bytes 8 a ++ (prefix ++ (0 ∷ (be_bytes 4 (length content) ++ (content ++ rest)))))
    → (message_at s 1 ≡ message (eqb (v % 2) 1) a 10 (length prefix) (10 + length prefix + 1 + 4) (length content))
    × (at s 10 (length prefix) ≡ prefix) × (at s (10 + length prefix + 1 + 4) (length content) ≡ content)
laid s v a prefix content rest hv ha hp hc e =
    let n : ℕ = length prefix in
    let m : List ℕ = be_bytes 4 (length content) ++ (content ++ rest) in
    let o = field_read 1 s 1 v (be_bytes 8 a ++ (prefix ++ (0 ∷ m))) (omega arith) hv (rw (be_bytes_one v hv) e) in
    let p = field_read 8 s 2 a (prefix ++ (0 ∷ m)) (omega arith) ha o.1 in
    let f : index_of 0 (drop 10 s) ≡ some n = rw p.1 (zero_at prefix m hp) in
    let d : drop (10 + n + 1) s ≡ m = sym (after_prefix s n) ∙ rw (p.1, drop-append-add) in
    let c = field_read 4 s (10 + n + 1) (length content) (content ++ rest) (omega arith) (omega arith) d in
    let l : length s - (10 + n + 1 + 4) ≡ length content + length rest = sym (length-drop (10 + n + 1 + 4) s) ∙ ap length c.1 ∙ length-append content rest in
    (message_values s 1 v a n (length content) o.0 p.0 f c.0 hc (omega arith), rw p.1 (take-append_seam prefix (0 ∷ m)), rw c.1 (take-append_seam content rest))

pub message_is_read : MessageIsRead
unfolding boundary_of message_bytes
message_is_read flags position prefix content surplus hf hp hz hc =
    let r = laid (message_bytes flags position prefix content ++ surplus) flags position prefix content surplus hf hp hz hc (simp append_assoc) in
    record { said = r.0; prefix_there = r.1; content_there = r.2 }

-- ---- from the values to the bytes

-- the prefix, its zero byte, the content's length, the content and the surplus
parts : (s : List ℕ) (n len : ℕ) → are_bytes s ≡ true → index_of 0 (drop 10 s) ≡ some n → field_at 4 s (10 + n + 1) ≡ some len → len ≤ length s - (10 + n + 1 + 4)
    → (length (at s 10 n) ≡ n) × (length (at s (10 + n + 1 + 4) len) ≡ len) × NoZero (at s 10 n)
    × (drop 10 s ≡ at s 10 n ++ (0 ∷ (be_bytes 4 (length (at s (10 + n + 1 + 4) len)) ++ (at s (10 + n + 1 + 4) len ++ drop len (drop (10 + n + 1 + 4) s)))))
parts s n len bytes e f l =
    let i : ℕ = 10 + n + 1 + 4 in
    let w = found_at (drop 10 s) n e in
    let c = field_there 4 s (10 + n + 1) len bytes f in
    let h : 10 + n < length s = prefix_within s 10 n e in
    let pl : length (at s 10 n) ≡ n = length-take-le n (drop 10 s) (simp length-drop (omega arith)) in
    let cl : length (at s i len) ≡ len = length-take-le len (drop i s) (simp length-drop l) in
    let d : drop i s ≡ at s i len ++ drop len (drop i s) = sym (take-append-drop len (drop i s)) in
    let m : drop (n + 1) (drop 10 s) ≡ be_bytes 4 len ++ (at s i len ++ drop len (drop i s)) = after_prefix s n ∙ c.2 ∙ ap (λ (x : List ℕ). be_bytes 4 len ++ x) d in
    (pl, cl, w.0, w.1 ∙ ap (λ (x : List ℕ). at s 10 n ++ (0 ∷ x)) (rw cl m))

regroup : (a b c d e : List ℕ) → a ++ (b ++ (0 ∷ (c ++ (d ++ e)))) ≡ (a ++ (b ++ (0 ∷ (c ++ d)))) ++ e
regroup a b c d e = simp append_assoc

sent : (t : List ℕ) (v a n len : ℕ) → are_bytes (77 ∷ t) ≡ true → field_at 1 (77 ∷ t) 1 ≡ some v → field_at 8 (77 ∷ t) 2 ≡ some a → index_of 0 (drop 10 (77 ∷ t)) ≡ some n
    → field_at 4 (77 ∷ t) (10 + n + 1) ≡ some len → len < half 4 → len ≤ length (77 ∷ t) - (10 + n + 1 + 4)
    → (length (at (77 ∷ t) 10 n) ≡ n) × (length (at (77 ∷ t) (10 + n + 1 + 4) len) ≡ len)
    × SentMessage (77 ∷ t) (eqb (v % 2) 1) a (at (77 ∷ t) 10 n) (at (77 ∷ t) (10 + n + 1 + 4) len)
unfolding message_bytes
sent t v a n len bytes e f g h b l =
    let s : List ℕ = 77 ∷ t in
    let i : ℕ = 10 + n + 1 + 4 in
    let o = field_there 1 s 1 v bytes e in
    let p = field_there 8 s 2 a bytes f in
    let q = parts s n len bytes g h l in
    let k : t ≡ v ∷ drop 1 t = rw (be_bytes_one v o.1) at o.2 in
    let w : drop 1 t ≡ be_bytes 8 a ++ (at s 10 n ++ (0 ∷ (be_bytes 4 (length (at s i len)) ++ (at s i len ++ drop len (drop i s))))) =
    p.2 ∙ ap (λ (x : List ℕ). be_bytes 8 a ++ x) q.3
    in (
      q.0,
      q.1,
      record {
        flags = v;
        flags_fit = o.1;
        flag_is = refl;
        position_fits = p.1;
        no_zero = q.2;
        content_fits = rw q.1 b;
        surplus = drop len (drop i s);
        whole = ap (λ (x : List ℕ). 77 ∷ x) (k ∙ ap (λ (x : List ℕ). v ∷ x) (w ∙ regroup (be_bytes 8 a) (at s 10 n) (be_bytes 4 (length (at s i len))) (at s i len) (drop len (drop i s))));
      },
    )

-- what is read as Message has its letter and its fields, none of them cut
as_message : {X : Type 0} (s : List ℕ) (flag : Bool) (position pf pl cf cl : ℕ) → boundary_of s ≡ message flag position pf pl cf cl
    → ((t : List ℕ) (v a n len : ℕ) → s ≡ 77 ∷ t → field_at 1 s 1 ≡ some v → field_at 8 s 2 ≡ some a → index_of 0 (drop 10 s) ≡ some n → field_at 4 s (10 + n + 1) ≡ some len
    → len < half 4 → len ≤ length s - (10 + n + 1 + 4) → message (eqb (v % 2) 1) a 10 n (10 + n + 1 + 4) len ≡ message flag position pf pl cf cl → X)
    → X
as_message s flag position pf pl cf cl e go =
    by_letter s
    (λ t q x. let f = begin_fields (message flag position pf pl cf cl) never s 1 (sym x ∙ e) in impossible (cc f.6))
    (λ t q x. let f = commit_fields (message flag position pf pl cf cl) never s 1 (sym x ∙ e) in impossible (cc f.8))
    (λ t q x.
    let f = message_fields (message flag position pf pl cf cl) never s 1 (sym x ∙ e) in
    go t f.0 f.1 f.2 f.3 q f.4 f.5 f.6 f.7 f.8 f.9 f.10)
    (λ x. impossible cc)
  where
    never : (n : ℕ) → refused n ≡ message flag position pf pl cf cl → ⊥
    never n p = impossible cc

pub read_is_message : ReadIsMessage
read_is_message s flag position pf pl cf cl bytes e =
    as_message s flag position pf pl cf cl e
    (λ t v a n len q d f g h b l w.
    let i₀ : flag ≡ eqb (v % 2) 1 = cc in
    let i₁ : position ≡ a = cc in
    let i₂ : pf ≡ 10 = cc in
    let i₃ : pl ≡ n = cc in
    let i₄ : cf ≡ 10 + n + 1 + 4 = cc in
    let i₅ : cl ≡ len = cc in
    rw (q, i₀, i₁, i₂, i₃, i₄, i₅) (sent t v a n len (rw q at bytes) (rw q at d) (rw q at f) (rw q at g) (rw q at h) b (rw q at l)))

-- the parts that are named lie within the data, of any list of numbers
pub parts_within : (s : List ℕ) (flag : Bool) (position pf pl cf cl : ℕ) → boundary_of s ≡ message flag position pf pl cf cl
    → (pf + pl ≤ length s) × (cf + cl ≤ length s)
parts_within s flag position pf pl cf cl e =
    as_message s flag position pf pl cf cl e
    (λ t v a n len q d f g h b l w.
    let i₂ : pf ≡ 10 = cc in
    let i₃ : pl ≡ n = cc in
    let i₄ : cf ≡ 10 + n + 1 + 4 = cc in
    let i₅ : cl ≡ len = cc in
    let j : 10 + n < length s = prefix_within s 10 n g in
    let k : 10 + n + 1 + 4 ≤ length s = field_within 4 s (10 + n + 1) len h in
    (omega arith, omega arith))
