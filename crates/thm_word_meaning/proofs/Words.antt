-- Each word means what specs/Words.antt says: all by computing, and by what a number is not.
use mathlib.Core.Path.{◌≡◌, refl}
use Prim.Native.Nat.{ℕ, ◌-◌, ◌≤◌, ◌<◌}
use native.Mathlib.Omega.{arith}
use borrow.Author.Tests.{ne_eqb, lt-ltb, le-ltb}
use lib.IntN.{pos, negsuc}
use Rattle.wire.specs.Field.{signed, unsigned}
use Rattle.wire.specs.Int.{int}
use Rattle.wire.proofs.FieldLaws.{signed_unsigned, unsigned_signed}
use Rattle.worker.specs.Events.{Said, nothing, keep_alive, begin, commit, message, xlog_data, stopped_at, said_by}
use Rattle.thm_word_meaning.specs.Words.{Flags, Times, QueueWords, StateWords, StateNumbers, SettingsWords, InputWords, EventWords}
use Rattle.thm_word_meaning.specs.Words.{OfferedWords, AnswerWords, MetricsWords, StatusWords, ReaderWords, RunWords, WordsRun}
use Rattle.ffi_words.specs.Step.{queue_of}
use Rattle.ffi_words.specs.Words.{state_of, event_of, event_with_parts, event_words, seven_of}
use Rattle.thm_word_meaning.proofs.OneWord.{flag_is, time_is}

-- a number at or above another is not one below it
differs : (k : ℕ) {n m : ℕ} → m ≤ n → k < m → n ≡ k → ⊥
differs k {n} {m} h l e = omega arith

pub flags : Flags
flags = (refl, (λ n h. simp (ne_eqb n 0 (λ e. omega arith))), refl, refl)

lower_half : (n : ℕ) → n < 9223372036854775808 → int 8 n ≡ pos n
unfolding signed
lower_half n h = simp (lt-ltb n 9223372036854775808 h)

upper_half : (n : ℕ) → 9223372036854775808 ≤ n → int 8 n ≡ negsuc (18446744073709551615 - n)
unfolding signed
upper_half n h = simp (le-ltb n 9223372036854775808 h)

pub times : Times
unfolding unsigned
times =
    record {
      from_zero = λ n. refl;
      below_zero = λ n. refl;
      lower_half = lower_half;
      upper_half = λ n h g. upper_half n h;
      time_back = λ z h. signed_unsigned 9223372036854775808 z h;
      word_back = λ n h. unsigned_signed 9223372036854775808 n h;
    }

pub queue_words : QueueWords
unfolding queue_of
queue_words = (refl, refl, λ n h. simp (ne_eqb n 0 (differs 0 h (omega arith)), ne_eqb n 1 (differs 1 h (omega arith))))

pub state_words : StateWords
unfolding state_of
state_words = (
  refl,
  refl,
  refl,
  refl,
  refl,
  refl,
  refl,
  λ n h.
      simp (
        ne_eqb n 0 (differs 0 h (omega arith)),
        ne_eqb n 1 (differs 1 h (omega arith)),
        ne_eqb n 2 (differs 2 h (omega arith)),
        ne_eqb n 3 (differs 3 h (omega arith)),
        ne_eqb n 4 (differs 4 h (omega arith)),
        ne_eqb n 5 (differs 5 h (omega arith)),
        ne_eqb n 6 (differs 6 h (omega arith)),
      ),
)

pub state_numbers : StateNumbers
state_numbers = (refl, refl, refl, refl, refl, refl, refl, refl)

pub settings_words : SettingsWords
settings_words a b c d e f g = refl

pub input_words : InputWords
input_words m time stop queue ended = refl

pub event_words_lem : EventWords
event_words_lem = (
  refl,
  (λ end time reply. rw (time_is time, flag_is reply)),
  (λ final time xid. rw (time_is time)),
  (λ position end time. rw (time_is time)),
  (λ flagged position pf pl cf cl. rw (flag_is flagged)),
  (λ start end time from len. rw (time_is time)),
  (λ reached. refl),
)

pub offered_words : OfferedWords
unfolding event_of event_with_parts
offered_words a b c d e f = (
  refl,
  refl,
  refl,
  refl,
  refl,
  refl,
  refl,
  λ kind h.
      simp (
        ne_eqb kind 1 (differs 1 h (omega arith)),
        ne_eqb kind 2 (differs 2 h (omega arith)),
        ne_eqb kind 3 (differs 3 h (omega arith)),
        ne_eqb kind 4 (differs 4 h (omega arith)),
        ne_eqb kind 5 (differs 5 h (omega arith)),
        ne_eqb kind 6 (differs 6 h (omega arith)),
      ),
)

seven_is : (e : Said) → seven_of (event_words e) ≡ event_words e
seven_is nothing = refl
seven_is (keep_alive end time reply) = refl
seven_is (begin final time xid) = refl
seven_is (commit position end time) = refl
seven_is (message flagged position pf pl cf cl) = refl
seven_is (xlog_data start end time from len) = refl
seven_is (stopped_at reached) = refl

pub answer_words : AnswerWords
answer_words refusal taken written wait e = (rw (seven_is e), rw (seven_is e))

pub metrics_words : MetricsWords
metrics_words a b c d e f g = refl

pub status_words : StatusWords
status_words sent position at = rw (flag_is sent)

pub reader_words : ReaderWords
reader_words = ((λ w0 w1 w2 w3 w4 w5 w6 w7. refl), (λ w0 w1 w2 w3 w4 w5 w6 w7. rw (flag_is w7)), refl)

pub run_words : RunWords
run_words w0 w1 w2 w3 w4 w5 w6 w7 w8 w9 w10 w11 w12 w13 w14 w15 w16 w17 w18 w19 w20 w21 w22 w23 w24 w25 w26 w27 w28 w29 w30 w31 w32 w33 w34 w35 w36 w37 w38 w39 w40 w41 w42 w43 w44 w45 w46 w47 w48 w49 w50 w51 rest = refl

pub words_run : WordsRun
words_run w0 w1 w2 w3 w4 w5 w6 state w8 w9 w10 w11 w12 w13 w14 w15 w16 w17 w18 w19 w20 w21 w22 w23 w24 w25 w26 w27 w28 w29 w30 e w38 w39 w40 w41 w42 w43 w44 w45 w46 w47 w48 w49 w50 w51 =
    rw (
      ← seven_is (said_by e),
      flag_is w3,
      flag_is w5,
      flag_is w6,
      flag_is w15,
      flag_is w20,
      flag_is w22,
      flag_is w23,
      flag_is w27,
      flag_is w30,
      flag_is w38,
      flag_is w39,
    )
