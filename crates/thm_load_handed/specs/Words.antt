-- The words that the generator tells of a message are those of the event that a run hands on of it. SCOPE 9.9, 9.2; 02, wish 13.
use Rattle.std.specs.Prelude.{◌≡◌, List, [], ◌∷◌, ℕ, length, get_or}
use Rattle.worker.specs.Events.{said_by}
use Rattle.ffi_words.specs.Words as Words
use Rattle.thm_any_calls.specs.Happened.{happened_of}
use Rattle.load.specs.declared.Message.{Message}
use Rattle.load.specs.Load.{made_of, payload_of}
use Rattle.load.specs.Words.{event_words}
use Rattle.thm_load_handed.specs.LoadHanded.{event_of}

-- of the message that is made from any state there are seven. Read as a run's words are, with the bytes of the payload that they name, they are its
-- event
abbrev pub WordsAreOfTheEvent : Type 0
WordsAreOfTheEvent =
    (s : ℕ)
    → let m : Message = (made_of s).message in
    let w : List ℕ = event_words m in
    (length w ≡ 7)
    × (happened_of (said_by (Words.event_of (get_or w 0 0) (get_or w 1 0) (get_or w 2 0) (get_or w 3 0) (get_or w 4 0) (get_or w 5 0) (get_or w 6 0))) (payload_of m)
    ≡ event_of m ∷ [])
