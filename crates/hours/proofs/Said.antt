-- Each by computing.
use mathlib.Core.Path.{◌≡◌, refl}
use Prim.Native.Nat.{ℕ, ◌+◌, ◌*◌, ◌-◌, ◌/◌, ◌^◌}
use native.Mathlib.Omega.{arith}
use Rattle.wire.specs.Field.{unsigned}
use Rattle.hours.specs.Said.{AnswersSay, WordsSay}

pub answers_say : AnswersSay
answers_say =
    record {
      changes = λ state t. refl;
      never = λ state. refl;
      window = (refl, refl);
      offset_range = (refl, refl);
      moment_range = (refl, refl);
      kinds = (refl, refl, refl);
      calendar = λ opens closes z. (refl, refl, refl);
    }

-- the word of a moment below zero
word_is : (k word : ℕ) → word + (k + 1) ≡ 18446744073709551616 → 256 ^ 8 / 2 * 2 - 1 - k ≡ word
word_is k word e = omega arith

pub words_say : WordsSay
unfolding unsigned
words_say =
    record {
      open_till = λ number n. refl;
      shut_till = λ number n. refl;
      before_zero = λ number k state word e. rw (word_is k word e) refl;
      open_always = λ number. refl;
      shut_always = λ number. refl;
    }
