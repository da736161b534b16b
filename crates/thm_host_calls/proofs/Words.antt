-- The words of an event tell it: numbers by their places, times in two's complement, and parts where they stand in the payload buffer. Told takes the
-- theorems.
use mathlib.Core.Path.{◌≡◌, refl, ap, ◌∙◌}
use mathlib.Core.Bool.{Bool, true, false}
use mathlib.Core.List.{List, [], ◌∷◌, ◌++◌}
use mathlib.Core.Option.{Option, some, none}
use Prim.Native.Nat.{ℕ, ◌≤◌, ◌<◌, min}
use native.Mathlib.Omega.{arith}
use borrow.Author.Tests.{leb-true, leb-false}
use lib.ListN.{length, get_or, take, drop, length-take, length-drop, drop_of_length-le}
use lib.Seq.{take_all, take-nil}
use lib.IntN.{ℤ, pos, negsuc}
use lib.Dec.{leb}
use Rattle.wire.specs.Bytes.{flag_word}
use Rattle.wire.specs.Field.{unsigned}
use Rattle.wire.specs.Int.{value}
use Rattle.wire.proofs.Laws.{by_test}
use Rattle.worker.specs.Events as E
use Rattle.ffi_words.specs.Words.{event_words, seven_of}
use Rattle.ffi_words.specs.Step.{length_in, clipped, waited_words}
use Rattle.thm_any_calls.specs.Tests.{part}
use Rattle.thm_any_calls.specs.Happened.{happened_of}
use Rattle.thm_host_calls.specs.HostWords.{flag, twos, wait_words, StandsAt, TellsEvent}

-- ---- one word

pub flag_is : (b : Bool) → flag_word b ≡ flag b
flag_is true = refl
flag_is false = refl

time_is : (z : ℤ) → value 8 z ≡ twos z
unfolding unsigned
time_is (pos n) = refl
time_is (negsuc n) = refl

pub wait_is : (w : Option ℕ) (rest : List ℕ) → get_or (waited_words w) 0 0 ∷ get_or (waited_words w) 1 0 ∷ rest ≡ wait_words w ++ rest
wait_is none rest = refl
wait_is (some n) rest = refl

-- ---- parts

-- as many as there are of the first k
front_again : (k : ℕ) (d : List ℕ) → take (length (take k d)) d ≡ take k d
front_again k d =
    let l : length (take k d) ≡ min k (length d) = length-take k d in
    by_test (leb k (length d))
    (λ t. let h : k ≤ length d = leb-true _ _ t in let e : length (take k d) ≡ k = omega (arith, l) in ap (λ (n : ℕ). take n d) e)
    (λ t.
    let h : length d < k = leb-false _ _ t in
    let e : length (take k d) ≡ length d = omega (arith, l) in
    ap (λ (n : ℕ). take n d) e ∙ (take_all (length d) d (omega arith) ∙ sym_of (take_all k d (omega arith))))
  where
    sym_of : {x y : List ℕ} → x ≡ y → y ≡ x
    sym_of e = rw e refl

module _ (p : List ℕ) (from len : ℕ) where
  length_part : length (part p from len) ≡ length_in (length p) from len
  length_part = let a = length-take len (drop from p) in let b = length-drop from p in omega (arith, a, b)

  stands : StandsAt p (min from (length p)) (part p from len)
  stands =
      record {
        within = (let e = length_part in omega (arith, e));
        there =
            by_test (leb from (length p))
            (λ t.
            let h : from ≤ length p = leb-true _ _ t in
            let e : min from (length p) ≡ from = omega arith in
            ap (λ (k : ℕ). take (length (part p from len)) (drop k p)) e ∙ front_again len (drop from p))
            (λ t.
            let h : length p < from = leb-false _ _ t in
            let e : drop from p ≡ [] = drop_of_length-le p {i = from} (omega arith) in
            let g : part p from len ≡ [] = ap (take len) e ∙ take-nil len in
            rw g refl);
      }

-- ---- an event

pub event_told : (e : E.Said) (p : List ℕ) → TellsEvent (seven_of (event_words (clipped (length p) e))) p (happened_of e p)
event_told E.nothing p = refl
event_told (E.keep_alive end time reply) p = rw (time_is time, flag_is reply) refl
event_told (E.begin final time xid) p = rw (time_is time) refl
event_told (E.commit position end time) p = rw (time_is time) refl
event_told (E.message flagged position pf pl cf cl) p =
    record {
      prefix_at = min pf (length p);
      content_at = min cf (length p);
      words = rw (length_part p pf pl, length_part p cf cl, flag_is flagged) refl;
      prefix_there = stands p pf pl;
      content_there = stands p cf cl;
    }
event_told (E.xlog_data start end time from len) p =
    record { data_at = min from (length p); words = rw (time_is time, length_part p from len) refl; data_there = stands p from len }
event_told (E.stopped_at reached) p = refl
