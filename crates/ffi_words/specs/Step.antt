-- What a step is handed as words, and the words of its answer. SCOPE 9.2, 5.4, 5.5.
use Rattle.std.specs.Prelude.{ℕ, ◌+◌, ◌-◌, ◌≤◌, min, Bool, List, [], ◌∷◌, ◌≡◌, ℤ, get_or, eqb}
use Rattle.std.proofs.Math.Option.{Option, some, none}
use Rattle.wire.specs.Bytes.{pick}
use Rattle.worker.specs.declared.Input.{Input}
use Rattle.worker.specs.declared.Queue.{Queue}
use Rattle.worker.specs.declared.Queue.TheVariants.{Free, Full, Closed}
use Rattle.worker.specs.Events.{Said, nothing, keep_alive, begin, commit, message, xlog_data, stopped_at}
use Rattle.ffi_words.specs.Words.{moment, event_words, seven_of}

-- every other word is a closed queue
unfoldable pub queue_of : ℕ → Queue
queue_of n = pick (eqb n 0) Free (pick (eqb n 1) Full Closed)

abbrev pub input_of : ℕ → ℤ → Bool → ℕ → Bool → Input
input_of m time stop queue ended = record { moment = moment m; client_time = time; stop = stop; queue = queue_of queue; ended = ended }

-- whether a time is told, and the time
abbrev pub waited_words : Option ℕ → List ℕ
waited_words none = 0 ∷ 0 ∷ []
waited_words (some n) = 1 ∷ n ∷ []

-- ---- parts of a buffer of n bytes: words that no call made may name a part outside it. SCOPE 5.11, 9.5

-- how long a part is, as far as the buffer has it
abbrev pub length_in : ℕ → ℕ → ℕ → ℕ
length_in n from len = min len (n - min from n)

-- an event whose parts are named as far as the buffer has them
abbrev pub clipped : ℕ → Said → Said
clipped n nothing = nothing
clipped n (keep_alive end time reply) = keep_alive end time reply
clipped n (begin final time xid) = begin final time xid
clipped n (commit position end time) = commit position end time
clipped n (message flag position pf pl cf cl) = message flag position (min pf n) (length_in n pf pl) (min cf n) (length_in n cf cl)
clipped n (xlog_data start end time from len) = xlog_data start end time (min from n) (length_in n from len)
clipped n (stopped_at reached) = stopped_at reached

-- a part lies in the buffer
abbrev pub PartWithin : ℕ → ℕ → ℕ → Type 0
PartWithin n from len = (from ≤ n) × (from + len ≤ n)

-- every part of an event does
abbrev pub Within : ℕ → Said → Type 0
Within n nothing = Unit {0}
Within n (keep_alive end time reply) = Unit {0}
Within n (begin final time xid) = Unit {0}
Within n (commit position end time) = Unit {0}
Within n (message flag position pf pl cf cl) = PartWithin n pf pl × PartWithin n cf cl
Within n (xlog_data start end time from len) = PartWithin n from len
Within n (stopped_at reached) = Unit {0}

-- whatever words a call was given, the parts that it names lie in the buffer
abbrev pub ClippedIsWithin : Type 0
ClippedIsWithin = (n : ℕ) (e : Said) → Within n (clipped n e)

-- an event whose parts lie in the buffer is answered as it is
abbrev pub WithinIsUnchanged : Type 0
WithinIsUnchanged = (n : ℕ) (e : Said) → Within n e → clipped n e ≡ e

-- ---- answers

-- refusal's number, 0 for none; taken; written; whether a wait is told, and how long; seven words of the event
abbrev pub answer_words : ℕ → ℕ → ℕ → Option ℕ → Said → List ℕ
answer_words refusal taken written waited e =
    refusal ∷ taken ∷ written ∷ get_or (waited_words waited) 0 0 ∷ get_or (waited_words waited) 1 0 ∷ seven_of (event_words e)
