-- Refusals have numbers; the three ways out of a writer, lengths within a room, and names counted one by one.
use mathlib.Core.Path.{◌≡◌, refl, sym, ap, ◌∙◌}
use mathlib.Core.Option.{some, none}
use mathlib.Core.List.{List}
use Prim.Native.Nat.{ℕ, ◌+◌, ◌≤◌, ◌<◌}
use native.Mathlib.Numerals.{add-one}
use native.Mathlib.Omega.{arith}
use lib.ListN.{length, drop, drop_of_length-le}
use lib.Seq.{drop-cons}
use lib.Dec.{leb}
use mathlib.Core.Bool.{Bool, true, false}
use borrow.Author.Tests.{lt-ltb, le-ltb, le-leb, lt-leb, leb-true, leb-false}
use denote.Ref.{Bor}
use Rattle.std.specs.Prelude.{Option as Answer, Some, None}
use Rattle.wire.specs.Answer.{maybe}
use Rattle.wire.specs.Bytes.{pick, put, placed}
use Rattle.wire.proofs.Laws.{placed_fits, impossible}
use Rattle.error.specs.Inputs.{total, no_name, name_at}
use Rattle.error.specs.Refusal.{number_of}
use Rattle.error.specs.Writer.{input_limit, writing, counted}
use Rattle.error.specs.declared.Refusal.{Refusal}

-- ---- numbers

-- no refusal has the number 0, which stands for none
pub numbered : (r : Refusal) → number_of r ≡ 0 → ⊥
numbered Refusal.IntervalTooLong e = omega arith
numbered Refusal.RunEnded e = omega arith
numbered Refusal.PayloadBufferTooShort e = omega arith
numbered Refusal.OutputTooShort e = omega arith
numbered Refusal.MomentOutOfOrder e = omega arith
numbered Refusal.InvalidLength e = omega arith
numbered Refusal.MessageTooLarge e = omega arith
numbered Refusal.EofInHeader e = omega arith
numbered Refusal.EofInPayload e = omega arith
numbered Refusal.EmptyCopyData e = omega arith
numbered Refusal.XLogDataTooShort e = omega arith
numbered Refusal.KeepaliveTooShort e = omega arith
numbered Refusal.UnknownCopyData e = omega arith
numbered Refusal.TruncatedI8 e = omega arith
numbered Refusal.TruncatedI32 e = omega arith
numbered Refusal.TruncatedI64 e = omega arith
numbered Refusal.UnterminatedPrefix e = omega arith
numbered Refusal.ContentTooShort e = omega arith
numbered Refusal.ServerError e = omega arith
numbered Refusal.MalformedDataRow e = omega arith
numbered Refusal.AuthRequestTooShort e = omega arith
numbered Refusal.MissingSlash e = omega arith
numbered Refusal.InvalidHighPart e = omega arith
numbered Refusal.InvalidLowPart e = omega arith
numbered Refusal.InputTooLong e = omega arith

-- ---- the three ways out of a writer

pub too_long : (inputs : ℕ) (text out : List ℕ) → input_limit < inputs → ((25, 0), out) ≡ writing inputs text out
unfolding writing
too_long inputs text out h = simp (lt-ltb _ _ h)

pub no_room : (inputs : ℕ) (text out : List ℕ) → inputs ≤ input_limit → length out < length text → ((4, 0), out) ≡ writing inputs text out
unfolding writing
no_room inputs text out h k = simp (le-ltb _ _ h, lt-ltb _ _ k)

pub wrote : (inputs : ℕ) (text out q : List ℕ) (n : ℕ) → inputs ≤ input_limit → length text ≡ n → n ≤ length out → q ≡ put out 0 text → ((0, n), q) ≡ writing inputs text out
unfolding writing
wrote inputs text out q n h e k p =
    let f : length text ≤ length out = omega arith in
    rw (← e, p) (simp (le-ltb _ _ h, le-ltb _ _ f))

-- the same of a text that was placed
pub wrote_placed : (inputs : ℕ) (text out : List ℕ) {q : List ℕ} {n r : ℕ} → inputs ≤ input_limit → length text ≡ n → n ≤ length out → (r, q) ≡ placed out 0 text
    → ((0, n), q) ≡ writing inputs text out
wrote_placed inputs text out {q} {n} h e k p = wrote inputs text out q n h e k (placed_fits out 0 text (omega arith) p).1

-- the same of a text that was placed, where the place after it is answered as the count
pub wrote_to : (inputs : ℕ) (text out : List ℕ) {q : List ℕ} {r : ℕ} → inputs ≤ input_limit → length text ≤ length out → (r, q) ≡ placed out 0 text
    → ((0, r), q) ≡ writing inputs text out
wrote_to inputs text out {q} {r} h k p =
    let w = placed_fits out 0 text (omega arith) p in
    wrote inputs text out q r h (omega arith) (omega arith) w.1

-- ---- a length within a room

pub fits : (room n k : ℕ) → k ≡ n → k ≤ room → some k ≡ counted room n
unfolding counted
fits room n k e h = rw (← e) (simp (le-leb _ _ h))

pub over : (room n : ℕ) → room < n → none ≡ counted room n
unfolding counted
over room n h = simp (lt-leb _ _ h)

-- what an answer says of the length that was counted
pub counted_fits : (room n k : ℕ) {r : Answer ℕ} → maybe r ≡ counted room n → r ≡ Some k → (n ≡ k) × (k ≤ room)
unfolding counted
counted_fits room n k {r} p q = by (leb n room) refl (sym p ∙ ap maybe q)
  where
    by : (t : Bool) → leb n room ≡ t → pick t (some n) none ≡ some k → (n ≡ k) × (k ≤ room)
    by true q p =
        let e : n ≡ k = cc in
        let l : n ≤ room = leb-true n room q in
        (e, omega arith)
    by false q p = impossible cc

pub counted_over : (room n : ℕ) {r : Answer ℕ} → maybe r ≡ counted room n → r ≡ None → room < n
unfolding counted
counted_over room n {r} p q = by (leb n room) refl (sym p ∙ ap maybe q)
  where
    by : (t : Bool) → leb n room ≡ t → pick t (some n) none ≡ none → room < n
    by true q p = impossible cc
    by false q p = leb-false n room q

-- ---- the bytes of the names from the i-th on

pub total_next : (names : List (Bor (List ℕ))) (i : ℕ) → i < length names → total (drop i names) ≡ length (name_at names i) + total (drop (i + 1) names)
unfolding total
total_next names i h = rw (add-one, drop-cons names i no_name h)

pub total_end : (names : List (Bor (List ℕ))) (i : ℕ) → length names ≤ i → total (drop i names) ≡ 0
unfolding total
total_end names i h = rw (drop_of_length-le names h)
