-- Each by computing.
use mathlib.Core.Path.{refl}
use Rattle.load.specs.Xorshift.{next_of, drawn}
use Rattle.load.specs.Load.{message_of, draws_of, made_of}
use Rattle.load.specs.Said.{AnswersSay, WordsSay, FirstStates}

pub answers_say : AnswersSay
answers_say = record { wrote = λ n. refl; too_short = (refl, refl); zero_seed = (refl, refl) }

pub words_say : WordsSay
words_say =
    record {
      keepalive = λ end. refl;
      request = λ end. refl;
      begin = λ start end final xid. refl;
      other = λ start end letters. refl;
      commit = λ start end position commit_end. refl;
      with_state = λ m state. refl;
    }

pub first_states : FirstStates
unfolding next_of drawn message_of draws_of made_of
first_states = record { from_one = refl; from_zero = refl; words_of_zero = refl }
