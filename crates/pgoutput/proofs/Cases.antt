-- By the letter, then field by field: the first that is cut gives the refusal. The cases by computing.
use mathlib.Core.Path.{◌≡◌, refl, sym, ap, ◌∙◌}
use mathlib.Core.Bool.{true}
use mathlib.Core.List.{List, [], ◌∷◌, ◌++◌, append-nil}
use mathlib.Core.Option.{some, none}
use Prim.Native.Nat.{ℕ, ◌+◌, ◌-◌, ◌≤◌, ◌<◌, ◌^◌}
use native.Mathlib.Omega.{arith}
use lib.ListN.{length, drop, length-append}
use lib.Seq.{take_at, drop_at, drop-drop, drop-append-add}
use lib.Dec.{ltb}
use borrow.Author.Tests.{ne_eqb, le-leb, lt-ltb, ltb-true, ltb-false}
use Rattle.wire.specs.Bytes.{at, be, be_from}
use Rattle.wire.specs.Field.{field_at, signed}
use Rattle.wire.specs.Int.{is_negative}
use Rattle.wire.specs.Find.{index_of, NoZero}
use Rattle.wire.proofs.Laws.{by_test, impossible}
use Rattle.wire.proofs.FieldLaws.{field_whole, field_cut}
use Rattle.wire.proofs.FindLaws.{no_zero, zero_at}
use Rattle.pgoutput.specs.Boundary.{Said, no_boundary, refused, prefix_by, content_at, boundary_of}
use Rattle.pgoutput.specs.BoundaryCases.{is_begin, is_commit, message_front, LetterLaws, BeginRefusals, CommitRefusals, MessageRefusals, PartsWithin, BoundaryCases}
use Rattle.pgoutput.proofs.LayoutFields.{begin_fields, commit_fields, message_fields}
use Rattle.pgoutput.proofs.LayoutMessage.{parts_within}

-- ---- by the letter

-- what is no boundary is no refusal
not_refused : (n : ℕ) → refused n ≡ no_boundary → ⊥
not_refused n e = impossible cc

module _ (s : List ℕ) where
  begin_never : boundary_of (66 ∷ s) ≡ no_boundary → ⊥
  unfolding boundary_of
  begin_never e = let f = begin_fields no_boundary not_refused (66 ∷ s) 1 e in impossible (cc f.6)

  commit_never : boundary_of (67 ∷ s) ≡ no_boundary → ⊥
  unfolding boundary_of
  commit_never e = let f = commit_fields no_boundary not_refused (67 ∷ s) 1 e in impossible (cc f.8)

  message_never : boundary_of (77 ∷ s) ≡ no_boundary → ⊥
  unfolding boundary_of
  message_never e = let f = message_fields no_boundary not_refused (77 ∷ s) 1 e in impossible (cc f.10)

other_letter : (b : ℕ) (s : List ℕ) → (b ≡ 66 → ⊥) → (b ≡ 67 → ⊥) → (b ≡ 77 → ⊥) → boundary_of (b ∷ s) ≡ no_boundary
unfolding boundary_of
other_letter b s d e f = simp (ne_eqb b 66 d, ne_eqb b 67 e, ne_eqb b 77 f)

pub letter_laws : LetterLaws
unfolding boundary_of
letter_laws =
    record {
      no_data = refl;
      other_letter = other_letter;
      begin_is_one = begin_never;
      commit_is_one = commit_never;
      message_is_one = message_never;
    }

-- ---- by the layout

module _ (s : List ℕ) where
  begin_64 : length s < 16 → boundary_of (66 ∷ s) ≡ refused 16
  unfolding boundary_of
  begin_64 h =
      by_test (ltb (length s) 8)
      (λ t. let l : length (66 ∷ s) < 1 + 8 = omega (arith, ltb-true (length s) 8 t) in simp (field_cut 8 (66 ∷ s) 1 l))
      (λ t.
      let l : 1 + 8 ≤ length (66 ∷ s) = omega (arith, ltb-false (length s) 8 t) in
      let k : length (66 ∷ s) < 1 + 8 + 8 = omega arith in
      simp (field_whole 8 (66 ∷ s) 1 l, field_cut 8 (66 ∷ s) (1 + 8) k))

  begin_32 : 16 ≤ length s → length s < 20 → boundary_of (66 ∷ s) ≡ refused 15
  unfolding boundary_of
  begin_32 h k =
      let a : 1 + 8 ≤ length (66 ∷ s) = omega arith in
      let b : 9 + 8 ≤ length (66 ∷ s) = omega arith in
      let c : length (66 ∷ s) < 17 + 4 = omega arith in
      simp (field_whole 8 (66 ∷ s) 1 a, field_whole 8 (66 ∷ s) 9 b, field_cut 4 (66 ∷ s) 17 c)

  begin_whole : 20 ≤ length s → is_begin (boundary_of (66 ∷ s)) ≡ true
  unfolding boundary_of
  begin_whole h =
      let a : 1 + 8 ≤ length (66 ∷ s) = omega arith in
      let b : 9 + 8 ≤ length (66 ∷ s) = omega arith in
      let c : 17 + 4 ≤ length (66 ∷ s) = omega arith in
      simp (field_whole 8 (66 ∷ s) 1 a, field_whole 8 (66 ∷ s) 9 b, field_whole 4 (66 ∷ s) 17 c)

  commit_64 : 1 ≤ length s → length s < 25 → boundary_of (67 ∷ s) ≡ refused 16
  unfolding boundary_of
  commit_64 h k =
      let o : 1 + 1 ≤ length (67 ∷ s) = omega arith in
      by_test (ltb (length s) 9)
      (λ t. let l : length (67 ∷ s) < 2 + 8 = omega (arith, ltb-true (length s) 9 t) in simp (field_whole 1 (67 ∷ s) 1 o, field_cut 8 (67 ∷ s) 2 l))
      (λ t.
      let a : 2 + 8 ≤ length (67 ∷ s) = omega (arith, ltb-false (length s) 9 t) in
      by_test (ltb (length s) 17)
      (λ u. let l : length (67 ∷ s) < 10 + 8 = omega (arith, ltb-true (length s) 17 u) in simp (field_whole 1 (67 ∷ s) 1 o, field_whole 8 (67 ∷ s) 2 a, field_cut 8 (67 ∷ s) 10 l))
      (λ u.
      let b : 10 + 8 ≤ length (67 ∷ s) = omega (arith, ltb-false (length s) 17 u) in
      let l : length (67 ∷ s) < 18 + 8 = omega arith in
      simp (field_whole 1 (67 ∷ s) 1 o, field_whole 8 (67 ∷ s) 2 a, field_whole 8 (67 ∷ s) 10 b, field_cut 8 (67 ∷ s) 18 l)))

  commit_whole : 25 ≤ length s → is_commit (boundary_of (67 ∷ s)) ≡ true
  unfolding boundary_of
  commit_whole h =
      let o : 1 + 1 ≤ length (67 ∷ s) = omega arith in
      let a : 2 + 8 ≤ length (67 ∷ s) = omega arith in
      let b : 10 + 8 ≤ length (67 ∷ s) = omega arith in
      let c : 18 + 8 ≤ length (67 ∷ s) = omega arith in
      simp (field_whole 1 (67 ∷ s) 1 o, field_whole 8 (67 ∷ s) 2 a, field_whole 8 (67 ∷ s) 10 b, field_whole 8 (67 ∷ s) 18 c)

  message_64 : 1 ≤ length s → length s < 9 → boundary_of (77 ∷ s) ≡ refused 16
  unfolding boundary_of
  message_64 h k =
      let o : 1 + 1 ≤ length (77 ∷ s) = omega arith in
      let l : length (77 ∷ s) < 2 + 8 = omega arith in
      simp (field_whole 1 (77 ∷ s) 1 o, field_cut 8 (77 ∷ s) 2 l)

pub begin_refusals : BeginRefusals
begin_refusals = record { cut_64 = begin_64; cut_32 = begin_32; whole = begin_whole }

pub commit_refusals : CommitRefusals
unfolding boundary_of field_at
commit_refusals = record { cut_8 = refl; cut_64 = commit_64; whole = commit_whole }

-- a Message whose flags and position are there
module _ (flags : ℕ) (position tail : List ℕ) (p : length position ≡ 8) where
  abbrev sent : List ℕ
  sent = 77 ∷ flags ∷ (position ++ tail)

  front : (x : Said) → ((v a : ℕ) → prefix_by sent 10 v a (index_of 0 tail) ≡ x) → boundary_of sent ≡ x
  unfolding boundary_of
  front x h =
      let l : length (position ++ tail) ≡ 8 + length tail = simp length-append (omega arith) in
      let o : 1 + 1 ≤ length sent = omega arith in
      let a : 2 + 8 ≤ length sent = omega arith in
      let d : drop 10 sent ≡ tail = drop_at position tail 8 p in
      simp (field_whole 1 sent 1 o, field_whole 8 sent 2 a, d) (h (be (at sent 1 1)) (be (at sent 2 8)))

  -- what stands n bytes and one after them
  content : (n : ℕ) (rest : List ℕ) → drop (n + 1) tail ≡ rest → drop (10 + n + 1) sent ≡ rest
  content n rest d =
      let q : 10 + n + 1 ≡ 10 + (n + 1) = omega arith in
      rw q (sym (drop-drop (n + 1) 10 sent) ∙ rw (drop_at position tail 8 p) d)

module _ (flags : ℕ) (position prefix : List ℕ) (p : length position ≡ 8) (z : NoZero prefix) where
  unterminated : boundary_of (message_front flags position prefix []) ≡ refused 17
  unterminated =
      let e : index_of 0 (prefix ++ []) ≡ none = ap (index_of 0) (append-nil prefix) ∙ no_zero prefix z in
      front flags position (prefix ++ []) p (refused 17) (λ v a. ap (prefix_by (sent flags position (prefix ++ []) p) 10 v a) e)

  module _ (rest : List ℕ) where
    abbrev ended : List ℕ
    ended = prefix ++ (0 ∷ rest)

    abbrev s : List ℕ
    s = sent flags position ended p

    -- what stands after the prefix and its zero byte
    after : drop (10 + length prefix + 1) s ≡ rest
    after = content flags position ended p (length prefix) rest (drop-append-add prefix (0 ∷ rest) 1)

    long : length s ≡ 10 + length prefix + 1 + length rest
    long = simp length-append (omega arith)

    -- what the rest gives, the whole gives
    by_rest : (x : Said) → ((v a : ℕ) → content_at s (10 + length prefix + 1) v a 10 (length prefix) ≡ x) → boundary_of s ≡ x
    by_rest x h = front flags position ended p x (λ v a. ap (prefix_by s 10 v a) (zero_at prefix rest z) ∙ h v a)

    cut_32 : length rest < 4 → boundary_of s ≡ refused 15
    cut_32 h =
        let l : length s < 10 + length prefix + 1 + 4 = omega (arith, long) in
        by_rest (refused 15) (λ v a. simp (field_cut 4 s (10 + length prefix + 1) l))

  module _ (count rest : List ℕ) (q : length count ≡ 4) where
    abbrev whole : List ℕ
    whole = s (count ++ rest)

    both : length (count ++ rest) ≡ 4 + length rest
    both = simp length-append (omega arith)

    counted : field_at 4 whole (10 + length prefix + 1) ≡ some (be count)
    counted =
        let h : 10 + length prefix + 1 + 4 ≤ length whole = omega (arith, long (count ++ rest), both) in
        let t : at whole (10 + length prefix + 1) 4 ≡ count = rw (after (count ++ rest)) (take_at count rest 4 q) in
        field_whole 4 whole (10 + length prefix + 1) h ∙ ap (λ (x : List ℕ). some (be x)) t

    negative : 2 ^ 31 ≤ be count → boundary_of whole ≡ refused 18
    negative h = by_rest (count ++ rest) (refused 18) (λ v a. simp (counted, le-leb _ _ h))

    too_short : length rest < be count → boundary_of whole ≡ refused 18
    too_short h =
        let k : length whole - (10 + length prefix + 1 + 4) < be count = omega (arith, long (count ++ rest), both) in
        by_rest (count ++ rest) (refused 18) (λ v a.
        by_test (is_negative 4 (be count))
        (λ t. simp (counted, t))
        (λ t. simp (counted, t, lt-ltb _ _ k)))

pub message_refusals : MessageRefusals
unfolding boundary_of field_at
message_refusals =
    record {
      cut_8 = refl;
      cut_64 = message_64;
      unterminated = unterminated;
      cut_32 = λ flags position prefix rest p z h. cut_32 flags position prefix p z rest h;
      negative = λ flags position prefix count rest p z q h. negative flags position prefix p z count rest q h;
      too_short = λ flags position prefix count rest p z q h. too_short flags position prefix p z count rest q h;
    }

pub parts_lie_within : PartsWithin
parts_lie_within = parts_within

pub boundary_cases : BoundaryCases
unfolding boundary_of field_at be be_from signed index_of
boundary_cases =
    record {
      none_without_data = refl;
      relation_is_none = refl;
      insert_is_none = refl;
      fourteen = refl;
      fourteen_of_message = refl;
      fifteen = refl;
      fifteen_of_message = refl;
      sixteen = refl;
      sixteen_of_begin = refl;
      seventeen = refl;
      eighteen = refl;
      eighteen_negative = refl;
      a_begin = refl;
      a_commit = refl;
      a_message = refl;
      not_transactional = refl;
    }
