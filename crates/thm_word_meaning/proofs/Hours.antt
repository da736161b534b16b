-- The call about opening hours answers what specs/Hours.antt says.
use mathlib.Core.Path.{◌≡◌, refl}
use mathlib.Core.Bool.{Bool, true, false}
use mathlib.Core.List.{List, [], ◌∷◌}
use mathlib.Core.Option.{Option, some, none}
use Prim.Native.Nat.{ℕ, zero, suc, ◌≤◌, ◌<◌}
use native.Mathlib.Omega.{arith}
use lib.IntN.{ℤ, pos, negsuc}
use lib.Dec.{eqb, leb}
use borrow.Author.Tests.{lt-ltb, le-ltb, le-leb, lt-leb, eqb-true, eqb-false}
use Rattle.wire.proofs.Laws.{by_test}
use Rattle.hours.specs.Answer.{hours_of}
use Rattle.hours.specs.Calendar.{hours, is_open, is_within_windows, is_window, are_windows}
use Rattle.hours.specs.Words.{answer_reply}
use Rattle.thm_host_calls.specs.HostWords.{word, flag, twos}
use Rattle.thm_word_meaning.specs.Hours.{Windows, Inside, Outside, HoursTold}
use Rattle.thm_word_meaning.proofs.OneWord.{flag_is, time_is}

-- ---- what is refused

inside : (l : ℕ) (z : ℤ) → Inside (suc l) z → is_within_windows (suc l) z ≡ true
inside l (pos n) h = le-leb n (suc l) h
inside l (negsuc n) h = simp (le-ltb l n (omega arith))

outside : (l : ℕ) (z : ℤ) → Outside (suc l) z → is_within_windows (suc l) z ≡ false
outside l (pos n) h = lt-leb n (suc l) h
outside l (negsuc n) h = simp (lt-ltb l n (omega arith))

module _ (opens closes : List ℕ) where
  windows_right : (n : ℕ) → n ≤ 7 → Windows opens closes → are_windows opens closes n ≡ true
  unfolding are_windows
  windows_right zero h w = refl
  windows_right (suc n) h w =
      let o : word opens n ≤ word closes n = (w n (omega arith)).0 in
      let c : word closes n ≤ 1440 = (w n (omega arith)).1 in
      simp (le-leb (word opens n) (word closes n) o, le-leb (word closes n) 1440 c) (windows_right n (omega arith) w)

  windows_wrong : (n d : ℕ) → d < n → is_window (word opens d) (word closes d) ≡ false → are_windows opens closes n ≡ false
  unfolding are_windows
  windows_wrong zero d h w = absurd (omega arith)
  windows_wrong (suc n) d h w =
      by_test (eqb d n)
      (λ t. let e : d ≡ n = eqb-true d n t in rw (← e, w))
      (λ t.
      let l : d < n = omega (arith, eqb-false d n t) in
      by_test (is_window (word opens n) (word closes n)) (λ q. rw q (windows_wrong n d l w)) (λ q. rw q))

closes_before : (o c : ℕ) → c < o → is_window o c ≡ false
closes_before o c h = simp (lt-leb o c h)

closes_late : (o c : ℕ) → 1440 < c → is_window o c ≡ false
closes_late o c h = by_test (leb o c) (λ t. simp (t, lt-leb c 1440 h)) (λ t. simp t)

-- ---- the words

changing : (state : Bool) (t : ℤ) {next : Option ℤ} → next ≡ some t → answer_reply (0, (state, next)) ≡ (0, flag state ∷ 1 ∷ twos t ∷ [])
changing state t e = rw (e, flag_is state, time_is t)

staying : (state : Bool) {next : Option ℤ} → next ≡ none → answer_reply (0, (state, next)) ≡ (0, flag state ∷ 0 ∷ 0 ∷ [])
staying state e = rw (e, flag_is state)

pub hours_told : HoursTold
unfolding hours_of
hours_told opens closes offset moment =
    let right : Windows opens closes → are_windows opens closes 7 ≡ true = windows_right opens closes 7 (omega arith) in
    record {
      closes_first = λ d h k. rw (windows_wrong opens closes 7 d h (closes_before (word opens d) (word closes d) k));
      past_midnight = λ d h k. rw (windows_wrong opens closes 7 d h (closes_late (word opens d) (word closes d) k));
      bad_offset = λ w o. rw (right w, outside 839 offset o);
      bad_moment = λ w o m. rw (right w, inside 839 offset o, outside 4611686018427387903 moment m);
      changes =
          λ w o m later h.
          rw (right w, inside 839 offset o, inside 4611686018427387903 moment m) (changing (is_open (hours opens closes offset) moment) later h);
      stays = λ w o m h. rw (right w, inside 839 offset o, inside 4611686018427387903 moment m) (staying (is_open (hours opens closes offset) moment) h);
    }
