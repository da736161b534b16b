-- The event of a message as words: its kind and its numbers, as in the answer of a step (SCOPE 9.2); times are 0, and other data begins at place 25
-- of the payload. SCOPE 9.9; document 02, wish 13.
use Rattle.std.specs.Prelude.{ℕ, ◌+◌, List, [], ◌∷◌}
use Rattle.wire.specs.Bytes.{flag_word}
use Rattle.load.specs.declared.Message.{Message}
use Rattle.load.specs.declared.Message.TheVariants.{KeepAlive, Begin, Data, Commit}
use Rattle.load.specs.declared.Made.{Made}
use Rattle.load.specs.Load.{made_of, loading}

-- 1 KeepAlive, 2 Begin, 3 Commit, 5 XLogData
abbrev pub event_words : Message → List ℕ
event_words (KeepAlive end reply) = 1 ∷ end ∷ 0 ∷ flag_word reply ∷ 0 ∷ 0 ∷ 0 ∷ []
event_words (Begin start end final xid) = 2 ∷ final ∷ 0 ∷ xid ∷ 0 ∷ 0 ∷ 0 ∷ []
event_words (Data start end letters) = 5 ∷ start ∷ end ∷ 0 ∷ 25 ∷ (letters + 1) ∷ 0 ∷ []
event_words (Commit start end position commit_end) = 3 ∷ position ∷ commit_end ∷ 0 ∷ 0 ∷ 0 ∷ 0 ∷ []

-- the state after a message's draws, and its event
abbrev pub made_words : Made → ℕ × List ℕ
made_words m = (m.state, event_words m.message)

-- `rufflesquash_load`: refusal and bytes written, and the output
abbrev pub load_call : ℕ → ℕ → List ℕ → (ℕ × ℕ) × List ℕ
load_call seed n out = loading seed n out

-- `rufflesquash_load_event`: the next state, and the event of the message that is drawn from a state
abbrev pub load_event_call : ℕ → ℕ × List ℕ
load_event_call s = made_words (made_of s)
