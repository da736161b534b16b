-- What the calls about a bench load return and leave, and that the words of its events are those that a run's words tell for the same bytes.
-- SCOPE 9.9, 16.2.
use Rattle.std.specs.Prelude.{ℕ, ◌+◌, ◌%◌, ◌<◌, List, [], ◌∷◌, ◌≡◌, eqb, length}
use Rattle.load.specs.declared.Message.{Message}
use Rattle.load.specs.Load.{message_of, messages_of, payload_of, stream_of}
use Rattle.load.specs.Words.{load_call, load_event_call}
use Rattle.load.specs.Xorshift.{drawn}
use Rattle.thm_load_handed.specs.LoadHanded.{event_of}
use Rattle.thm_host_calls.specs.HostWords.{flag, TellsOne}
use Rattle.thm_word_meaning.specs.Texts.{Writes}

-- 35 for the seed 0, and the output is as it was; else the stream is written as any text is
pub record LoadWords : Type 0 where
  pub seed_zero : (n : ℕ) (out : List ℕ) → load_call 0 n out ≡ ((35, 0), out)
  pub written : (seed n : ℕ) (out : List ℕ) → 0 < seed → Writes 0 (stream_of n seed) out (load_call seed n out)

-- the next state and seven words by the first draw: 1 a keepalive, its end, whether it asks for a reply; 2 a Begin, its final position, its xid; 5
-- other data, its start and end, its place in the payload, its length; 3 a Commit, its position, its end. Times are 0
pub record LoadEventWords (s : ℕ) : Type 0 where
  pub keepalive : drawn 1 s % 4 ≡ 0 → load_event_call s ≡ (drawn 3 s, 1 ∷ drawn 2 s ∷ 0 ∷ flag (eqb (drawn 3 s % 2) 1) ∷ 0 ∷ 0 ∷ 0 ∷ [])
  pub begin : drawn 1 s % 4 ≡ 1 → load_event_call s ≡ (drawn 5 s, 2 ∷ drawn 4 s ∷ 0 ∷ (drawn 5 s % 4294967296) ∷ 0 ∷ 0 ∷ 0 ∷ [])
  pub other : drawn 1 s % 4 ≡ 2 → load_event_call s ≡ (drawn 4 s, 5 ∷ drawn 2 s ∷ drawn 3 s ∷ 0 ∷ 25 ∷ (drawn 4 s % 64 + 1) ∷ 0 ∷ [])
  pub commit : drawn 1 s % 4 ≡ 3 → load_event_call s ≡ (drawn 5 s, 3 ∷ drawn 4 s ∷ drawn 5 s ∷ 0 ∷ 0 ∷ 0 ∷ 0 ∷ [])

-- of any state. From 0, of which every draw is 0, it is a keepalive with end 0 that asks for no reply, and the state stays 0
pub record LoadEventsTold : Type 0 where
  pub each : (s : ℕ) → LoadEventWords s
  pub zero : load_event_call 0 ≡ (0, 1 ∷ 0 ∷ 0 ∷ 0 ∷ 0 ∷ 0 ∷ 0 ∷ [])

-- calls in turn, each with the state that the last one answered, tell the events of these messages, as a step's answer tells an event: what it names
-- of the data stands in the payload of the message's CopyData
unfoldable pub CallsTell : ℕ → List Message → Type 0
CallsTell s [] = Unit {0}
CallsTell s (m ∷ ms) = TellsOne (load_event_call s).1 (payload_of m) (event_of m) × CallsTell (load_event_call s).0 ms

-- every drawn message is told so, and so are all messages of a stream, whose events a run hands on (thm_load_handed: Load-is-handed-on)
pub record LoadTells : Type 0 where
  pub one : (s : ℕ) → TellsOne (load_event_call s).1 (payload_of (message_of s)) (event_of (message_of s))
  pub all : (seed n : ℕ) → CallsTell seed (messages_of n seed)
  pub counted : (seed n : ℕ) → length (messages_of n seed) ≡ n
