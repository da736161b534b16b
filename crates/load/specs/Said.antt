-- What each value of an answer says, and the words of each message, over all values. SCOPE 16.1, 9.9; document 02, wish 13.
use Rattle.std.specs.Prelude.{◌≡◌, true, false, [], ◌∷◌, ℕ, ◌+◌, Ok, Err}
use Rattle.error.specs.declared.Refusal.TheVariants.{OutputTooShort}
use Rattle.load.specs.declared.Message.{Message}
use Rattle.load.specs.declared.Message.TheVariants.{KeepAlive, Begin, Data, Commit}
use Rattle.load.specs.declared.Refusal.TheVariants.{Writer, SeedZero}
use Rattle.load.specs.Xorshift.{next_of}
use Rattle.load.specs.Load.{number_of, outcome, made_of}
use Rattle.load.specs.Words.{event_words, made_words}

-- the number and the length of an answer
pub record AnswersSay : Type 0 where
  pub wrote : (n : ℕ) → outcome (Ok n) ≡ (0, n)
  pub too_short : (outcome (Err (Writer OutputTooShort)) ≡ (4, 0)) × (number_of (Writer OutputTooShort) ≡ 4)
  pub zero_seed : (outcome (Err SeedZero) ≡ (35, 0)) × (number_of SeedZero ≡ 35)

-- the seven words of a message: its kind, and the numbers that its event has (9.2); start and end of an XLogData are told of other data only. With
-- them goes the next state
pub record WordsSay : Type 0 where
  pub keepalive : (end : ℕ) → event_words (KeepAlive end false) ≡ 1 ∷ end ∷ 0 ∷ 0 ∷ 0 ∷ 0 ∷ 0 ∷ []
  pub request : (end : ℕ) → event_words (KeepAlive end true) ≡ 1 ∷ end ∷ 0 ∷ 1 ∷ 0 ∷ 0 ∷ 0 ∷ []
  pub begin : (start end final xid : ℕ) → event_words (Begin start end final xid) ≡ 2 ∷ final ∷ 0 ∷ xid ∷ 0 ∷ 0 ∷ 0 ∷ []
  pub other : (start end letters : ℕ) → event_words (Data start end letters) ≡ 5 ∷ start ∷ end ∷ 0 ∷ 25 ∷ (letters + 1) ∷ 0 ∷ []
  pub commit : (start end position commit_end : ℕ)
      → event_words (Commit start end position commit_end) ≡ 3 ∷ position ∷ commit_end ∷ 0 ∷ 0 ∷ 0 ∷ 0 ∷ []
  pub with_state : (m : Message) (state : ℕ) → made_words (record { message = m; state = state }) ≡ (state, event_words m)

-- the draw from 1; and state 0, which no seed leads to: a keepalive of end 0 without a request, and state 0 again
pub record FirstStates : Type 0 where
  pub from_one : next_of 1 ≡ 1082269761
  pub from_zero : made_of 0 ≡ record { message = KeepAlive 0 false; state = 0 }
  pub words_of_zero : made_words (made_of 0) ≡ (0, 1 ∷ 0 ∷ 0 ∷ 0 ∷ 0 ∷ 0 ∷ 0 ∷ [])
