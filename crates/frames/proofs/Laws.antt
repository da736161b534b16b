-- Laws of the cut: it needs no more items than bytes, and bytes added at the end continue it where it stopped.
use mathlib.Core.Path.{◌≡◌, refl, ap, ◌∙◌}
use mathlib.Core.List.{List, [], ◌++◌}
use Prim.Native.Nat.{ℕ, zero, suc, ◌+◌, ◌-◌, ◌≤◌, ◌<◌}
use native.Mathlib.Omega.{arith}
use lib.ListN.{length, take, drop, get_or, length-append, length-drop, get_or-append}
use lib.Seq.{take-append-le, drop-append-le}
use Rattle.wire.specs.Bytes.{at}
use Rattle.wire.specs.Int.{half}
use Rattle.wire.proofs.Laws.{impossible}
use Rattle.frames.specs.Message.{Front, in_header, in_payload, bad_length, too_large, whole, length_field, front_of}
use Rattle.frames.specs.Cut.{Item, message, refused, Ending, header, payload, over, Cut, behind, ended, cut_by, cut_from, cut_of}
use Rattle.frames.proofs.Front.{Shows, cut_header, negative, short, large, cut_payload, complete, shows, header_front, negative_front, short_front, over_front, whole_front, length_field_append}

-- ---- how deep the cut goes does not matter

-- an item takes five bytes at least, and no more than there are
same_cut : (limit : ℕ) (s : List ℕ) (f : Front) (go go' : ℕ → Cut) → Shows limit s f → ((k : ℕ) → 5 ≤ k → k ≤ length s → go k ≡ go' k) → cut_by s f go ≡ cut_by s f go'
same_cut limit s in_header go go' (cut_header h) e = refl
same_cut limit s in_payload go go' (cut_payload h a b c d) e = refl
same_cut limit s too_large go go' (large h a b c) e = refl
same_cut limit s bad_length go go' (negative h a) e = ap (behind refused) (e 5 (omega arith) h)
same_cut limit s bad_length go go' (short h a b) e = ap (behind refused) (e 5 (omega arith) h)
same_cut limit s (whole tag n) go go' (complete h a b c d) e =
    let m : ℕ = length_field s - 4 in
    ap (behind (message (get_or s 0 0) (at s 5 m))) (e (5 + m) (omega arith) (omega arith))

fuel : (n m limit : ℕ) (s : List ℕ) → length s ≤ n → length s ≤ m → cut_from (suc n) limit s ≡ cut_from (suc m) limit s
unfolding cut_from
fuel zero m limit s h k = same_cut limit s (front_of limit s) _ _ (shows limit s) (λ i a b. absurd (omega arith))
fuel (suc n) zero limit s h k = same_cut limit s (front_of limit s) _ _ (shows limit s) (λ i a b. absurd (omega arith))
fuel (suc n) (suc m) limit s h k =
    same_cut limit s (front_of limit s) _ _ (shows limit s)
    (λ i a b. fuel n m limit (drop i s) (simp length-drop (omega arith)) (simp length-drop (omega arith)))

enough : (n limit : ℕ) (s : List ℕ) → length s < n → cut_from n limit s ≡ cut_of limit s
unfolding cut_of
enough zero limit s h = absurd (omega arith)
enough (suc n) limit s h = fuel n (length s) limit s (omega arith) (omega arith)

-- the cut, an item at a time
pub cut_next : (limit : ℕ) (s : List ℕ) → cut_of limit s ≡ cut_by s (front_of limit s) (λ k. cut_of limit (drop k s))
unfolding cut_of cut_from
cut_next limit s =
    same_cut limit s (front_of limit s) _ _ (shows limit s)
    (λ i a b. enough (length s) limit (drop i s) (simp length-drop (omega arith)))

-- ---- bytes added at the end

-- the items of one cut before those of another
abbrev pub prepend : List Item → Cut → Cut
prepend is c = record { items = is ++ c.items; rest = c.rest; ending = c.ending }

-- a cut goes on with the bytes v after what it left
abbrev pub continued : ℕ → List ℕ → Cut → Cut
continued limit v c = prepend c.items (cut_of limit (c.rest ++ v))

module _ (limit : ℕ) (s v : List ℕ) (h : 5 ≤ length s) where
  longer : 5 ≤ length (s ++ v)
  longer = rw length-append (omega arith)

  field : length_field (s ++ v) ≡ length_field s
  field = length_field_append s v h

  negative_kept : half 4 ≤ length_field s → front_of limit (s ++ v) ≡ bad_length
  negative_kept a = negative_front limit (s ++ v) longer (rw field a)

  short_kept : length_field s < half 4 → length_field s < 4 → front_of limit (s ++ v) ≡ bad_length
  short_kept a b = short_front limit (s ++ v) longer (rw field a) (rw field b)

  whole_kept : length_field s < half 4 → 4 ≤ length_field s → length_field s - 4 ≤ limit → length_field s + 1 ≤ length s
      → front_of limit (s ++ v) ≡ whole (get_or s 0 0) (length_field s - 4)
  whole_kept a b c d =
      let g : get_or (s ++ v) 0 0 ≡ get_or s 0 0 = get_or-append s v 0 0 (omega arith) in
      whole_front limit (s ++ v) longer (rw field a) (rw field b) (rw field c) (rw (field, length-append) (omega arith)) ∙ rw (g, field)

  payload_kept : (n : ℕ) → 5 + n ≤ length s → at (s ++ v) 5 n ≡ at s 5 n
  payload_kept n k =
      let d : drop 5 (s ++ v) ≡ drop 5 s ++ v = drop-append-le 5 s v h in
      let l : n ≤ length (drop 5 s) = simp length-drop (omega arith) in
      ap (take n) d ∙ take-append-le n (drop 5 s) v l

-- a whole message or a bad length at the front stays there
step_append : (limit : ℕ) (s v : List ℕ) (f : Front) → Shows limit s f
    → ((k : ℕ) → 5 ≤ k → k ≤ length s → cut_of limit (drop k s ++ v) ≡ continued limit v (cut_of limit (drop k s)))
    → cut_of limit (s ++ v) ≡ continued limit v (cut_by s f (λ k. cut_of limit (drop k s)))
step_append limit s v in_header (cut_header h) e = refl
step_append limit s v in_payload (cut_payload h a b c d) e = refl
step_append limit s v too_large (large h a b c) e = refl
step_append limit s v bad_length (negative h a) e =
    cut_next limit (s ++ v) ∙ rw (negative_kept limit s v h a, drop-append-le 5 s v h) (ap (behind refused) (e 5 (omega arith) h))
step_append limit s v bad_length (short h a b) e =
    cut_next limit (s ++ v) ∙ rw (short_kept limit s v h a b, drop-append-le 5 s v h) (ap (behind refused) (e 5 (omega arith) h))
step_append limit s v (whole tag n) (complete h a b c d) e =
    let m : ℕ = length_field s - 4 in
    let l : 5 + m ≤ length s = omega arith in
    let k : 5 ≤ 5 + m = omega arith in
    cut_next limit (s ++ v)
    ∙ rw (whole_kept limit s v h a b c d, payload_kept limit s v h m l, drop-append-le (5 + m) s v l)
    (ap (behind (message (get_or s 0 0) (at s 5 m))) (e (5 + m) k l))

append_within : (n limit : ℕ) (s v : List ℕ) → length s ≤ n → cut_of limit (s ++ v) ≡ continued limit v (cut_of limit s)
append_within zero limit s v h = rw (cut_next limit s) (step_append limit s v (front_of limit s) (shows limit s) (λ k a b. absurd (omega arith)))
append_within (suc n) limit s v h =
    rw (cut_next limit s)
    (step_append limit s v (front_of limit s) (shows limit s) (λ k a b. append_within n limit (drop k s) v (simp length-drop (omega arith))))

pub cut_append : (limit : ℕ) (s v : List ℕ) → cut_of limit (s ++ v) ≡ continued limit v (cut_of limit s)
cut_append limit s v = append_within (length s) limit s v (omega arith)

-- ---- why a cut ends

abbrev pub front_at : Ending → Front
front_at header = in_header
front_at payload = in_payload
front_at over = too_large

ending_by : (limit : ℕ) (s : List ℕ) (f : Front) → front_of limit s ≡ f → Shows limit s f
    → ((k : ℕ) → 5 ≤ k → k ≤ length s → front_of limit (cut_of limit (drop k s)).rest ≡ front_at (cut_of limit (drop k s)).ending)
    → front_of limit (cut_by s f (λ k. cut_of limit (drop k s))).rest ≡ front_at (cut_by s f (λ k. cut_of limit (drop k s))).ending
ending_by limit s in_header e (cut_header h) go = e
ending_by limit s in_payload e (cut_payload h a b c d) go = e
ending_by limit s too_large e (large h a b c) go = e
ending_by limit s bad_length e (negative h a) go = go 5 (omega arith) h
ending_by limit s bad_length e (short h a b) go = go 5 (omega arith) h
ending_by limit s (whole tag n) e (complete h a b c d) go =
    let m : ℕ = length_field s - 4 in
    go (5 + m) (omega arith) (omega arith)

ending_within : (n limit : ℕ) (s : List ℕ) → length s ≤ n → front_of limit (cut_of limit s).rest ≡ front_at (cut_of limit s).ending
ending_within zero limit s h = rw (cut_next limit s) (ending_by limit s (front_of limit s) refl (shows limit s) (λ k a b. absurd (omega arith)))
ending_within (suc n) limit s h =
    rw (cut_next limit s) (ending_by limit s (front_of limit s) refl (shows limit s) (λ k a b. ending_within n limit (drop k s) (simp length-drop (omega arith))))

-- what stands at the front of what a cut leaves
pub cut_ending : (limit : ℕ) (s : List ℕ) → front_of limit (cut_of limit s).rest ≡ front_at (cut_of limit s).ending
cut_ending limit s = ending_within (length s) limit s (omega arith)

-- ---- the cut by what stands at the front

module _ (limit : ℕ) (s : List ℕ) where
  pub cut_in_header : front_of limit s ≡ in_header → cut_of limit s ≡ ended s header
  cut_in_header e = cut_next limit s ∙ rw e

  pub cut_in_payload : front_of limit s ≡ in_payload → cut_of limit s ≡ ended s payload
  cut_in_payload e = cut_next limit s ∙ rw e

  pub cut_too_large : front_of limit s ≡ too_large → cut_of limit s ≡ ended s over
  cut_too_large e = cut_next limit s ∙ rw e

  pub cut_bad_length : front_of limit s ≡ bad_length → cut_of limit s ≡ behind refused (cut_of limit (drop 5 s))
  cut_bad_length e = cut_next limit s ∙ rw e

  pub cut_whole : (tag n : ℕ) → front_of limit s ≡ whole tag n → cut_of limit s ≡ behind (message tag (at s 5 n)) (cut_of limit (drop (5 + n) s))
  cut_whole tag n e = cut_next limit s ∙ rw e

pub cut_nothing : (limit : ℕ) → cut_of limit [] ≡ ended [] header
cut_nothing limit = cut_in_header limit [] (header_front limit [] (omega arith))

-- a message over the limit stays so
pub over_kept : (limit : ℕ) (s v : List ℕ) → front_of limit s ≡ too_large → (5 ≤ length s) × (front_of limit (s ++ v) ≡ too_large)
over_kept limit s v e = by (front_of limit s) e (shows limit s)
  where
    by : (f : Front) → f ≡ too_large → Shows limit s f → (5 ≤ length s) × (front_of limit (s ++ v) ≡ too_large)
    by in_header q w = impossible cc
    by in_payload q w = impossible cc
    by bad_length q w = impossible cc
    by (whole tag n) q w = impossible cc
    by too_large q (large h a b c) =
        let f : length_field (s ++ v) ≡ length_field s = length_field_append s v h in
        let l : 5 ≤ length (s ++ v) = rw length-append (omega arith) in
        (h, over_front limit (s ++ v) l (rw f a) (rw f b) (rw f c))
