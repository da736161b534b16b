-- How many bytes a stream's whole messages have, and which byte a read that finishes one took last: Invariant takes both.
use mathlib.Core.Path.{◌≡◌, refl, ap, ◌∙◌}
use mathlib.Core.Bool.{Bool, true, false}
use mathlib.Core.List.{List, [], ◌∷◌, ◌++◌}
use Prim.Native.Nat.{ℕ, zero, suc, ◌+◌}
use native.Mathlib.Omega.{arith}
use lib.ListN.{length, drop, length-drop}
use lib.Seq.{length-take-le}
use lib.Dec.{eqb}
use Rattle.wire.specs.Bytes.{pick, at}
use Rattle.frames.specs.Message.{Front, in_header, in_payload, bad_length, too_large, front_of}
use Rattle.frames.specs.Message.{whole as whole_at}
use Rattle.frames.specs.Cut.{Item, message, Ending, header, payload, over, Cut, cut_by, cut_from, cut_of}
use Rattle.frames.specs.Cut.{refused as bad}
use Rattle.frames.proofs.Front.{Shows, negative, short, complete, shows}
use Rattle.framing.specs.Read.{Said, more, whole, refused, unfinished}
use Rattle.framing.specs.Feed.{first_answer, span, stored}
use Rattle.thm_any_calls.specs.Plain.{Msg, whole_ones, span_of}

-- ---- items

unfoldable pub items_of : List Msg → List Item
items_of [] = []
items_of (m ∷ ms) = message m.0 m.1 ∷ items_of ms

pub items_more : (ms : List Msg) (m : Msg) → items_of (ms ++ (m ∷ [])) ≡ items_of ms ++ (message m.0 m.1 ∷ [])
unfolding items_of
items_more [] m = refl
items_more (n ∷ ms) m = ap (λ (is : List Item). message n.0 n.1 ∷ is) (items_more ms m)

pub whole_items : (ms : List Msg) → whole_ones (items_of ms) ≡ ms
unfolding items_of whole_ones
whole_items [] = refl
whole_items (m ∷ ms) = ap (λ (ns : List Msg). m ∷ ns) (whole_items ms)

-- a bad length after them gives none
pub whole_bad : (ms : List Msg) → whole_ones (items_of ms ++ (bad ∷ [])) ≡ ms
unfolding items_of whole_ones
whole_bad [] = refl
whole_bad (m ∷ ms) = ap (λ (ns : List Msg). m ∷ ns) (whole_bad ms)

pub span_more : (ms : List Msg) (m : Msg) → span_of (ms ++ (m ∷ [])) ≡ span_of ms + (5 + length m.1)
unfolding span_of
span_more [] m = omega arith
span_more (n ∷ ms) m = let h = span_more ms m in omega arith

-- ---- the bytes of a cut

unfoldable spans : List Item → ℕ
spans [] = 0
spans (message tag p ∷ is) = 5 + length p + spans is
spans (bad ∷ is) = 5 + spans is

spans_items : (ms : List Msg) → spans (items_of ms) ≡ span_of ms
unfolding spans items_of span_of
spans_items [] = refl
spans_items (m ∷ ms) = let h = spans_items ms in omega arith

span_by : (limit : ℕ) (s : List ℕ) (f : Front) (go : ℕ → Cut) → Shows limit s f
    → ((k : ℕ) → length (drop k s) ≡ spans (go k).items + length (go k).rest)
    → length s ≡ spans (cut_by s f go).items + length (cut_by s f go).rest
unfolding spans
span_by limit s in_header go w h = omega arith
span_by limit s in_payload go w h = omega arith
span_by limit s too_large go w h = omega arith
span_by limit s bad_length go (negative a b) h = let e = h 5 in let l = length-drop 5 s in omega arith
span_by limit s bad_length go (short a b c) h = let e = h 5 in let l = length-drop 5 s in omega arith
span_by limit s (whole_at tag n) go (complete a b c d f) h =
    let e = h (5 + n) in
    let l = length-drop (5 + n) s in
    let m = length-drop 5 s in
    let q : length (at s 5 n) ≡ n = length-take-le n (drop 5 s) (omega arith) in
    omega arith

span_from : (n limit : ℕ) (s : List ℕ) → length s ≡ spans (cut_from n limit s).items + length (cut_from n limit s).rest
unfolding cut_from spans
span_from zero limit s = omega arith
span_from (suc n) limit s =
    span_by limit s (front_of limit s) (λ k. cut_from n limit (drop k s)) (shows limit s) (λ k. span_from n limit (drop k s))

pub cut_span : (limit : ℕ) (s : List ℕ) (ms : List Msg) → (cut_of limit s).items ≡ items_of ms → length s ≡ span_of ms + length (cut_of limit s).rest
unfolding cut_of
cut_span limit s ms e = span_from (suc (length s)) limit s ∙ ap (λ (k : ℕ). k + length (cut_of limit s).rest) (ap spans e ∙ spans_items ms)

-- ---- an answer that is a whole message

abbrev WholeSpan : Said → List Item → Ending → List ℕ → Type 0
WholeSpan more is end s = Unit
WholeSpan (whole tag k) is end s = (span is end s ≡ 5 + k) × (length (stored is end s) ≡ k)
WholeSpan (refused n) is end s = Unit

unfinished_span : (n unread : ℕ) (e : Bool) (is : List Item) (end : Ending) (s : List ℕ) → WholeSpan (unfinished n unread e) is end s
unfinished_span n unread e is end s = by (eqb unread 0) e
  where
    by : (a b : Bool) → WholeSpan (pick a (pick b (refused n) more) more) is end s
    by true true = tt
    by true false = tt
    by false b = tt

whole_told : (is : List Item) (end : Ending) (unread : ℕ) (e : Bool) (s : List ℕ) → WholeSpan (first_answer is end unread e) is end s
whole_told [] header unread e s = unfinished_span 8 unread e [] header s
whole_told [] payload unread e s = unfinished_span 9 unread e [] payload s
whole_told [] over unread e s = tt
whole_told (message tag p ∷ is) end unread e s = (refl, refl)
whole_told (bad ∷ is) end unread e s = tt

pub whole_answer : (is : List Item) (end : Ending) (unread : ℕ) (e : Bool) (s : List ℕ) (tag k : ℕ) → first_answer is end unread e ≡ whole tag k
    → (span is end s ≡ 5 + k) × (length (stored is end s) ≡ k)
whole_answer is end unread e s tag k h = rw h at (whole_told is end unread e s)
