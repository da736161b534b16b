-- Condition 3, events: what a run has handed on after a list of calls is the plain reading of the bytes, which is told the refusals and taken
-- counts of the step table. And of two lists over the same bytes, the events of one begin the other's. SCOPE 8.5, 8.6; 01, "Events and
-- confirmations".
use Rattle.std.specs.Prelude.{◌≡◌, false, List, [], ◌∷◌, ◌⊎◌, ℕ, length}
use Rattle.worker.specs.declared.Settings.{Settings}
use Rattle.thm_any_calls.specs.Happened.{Happened}
use Rattle.thm_any_calls.specs.Plain.{plain_of}
use Rattle.thm_any_calls.specs.Begins.{Begins, is_closed}
use Rattle.thm_any_calls.specs.Trace.{Setup, bounds_of, observations_of}
use Rattle.thm_any_calls.specs.Calls.{Beginning, is_opening, Call, step, report, played, setup_of}
use Rattle.thm_any_calls.specs.Traced.{trace_of}

-- no queue closes
abbrev pub NoQueueCloses : List Call → Type 0
NoQueueCloses [] = Unit
NoQueueCloses (step i n out ∷ cs) = (is_closed i.queue ≡ false) × NoQueueCloses cs
NoQueueCloses (report file position moment ∷ cs) = NoQueueCloses cs

-- what was handed on is the plain reading, for any settings, beginning, server bytes, first payload buffer and list of calls
abbrev pub HandsOn : Type 0
HandsOn =
    (s : Settings) (b : Beginning) (bytes payload : List ℕ) (cs : List Call) → NoQueueCloses cs
    → let x : Setup = setup_of s b bytes (length payload) in
    (played s b bytes payload cs).events ≡ plain_of (bounds_of s) (is_opening b) bytes (observations_of (trace_of x cs))

-- two lists over the same server bytes, stop position and limit, whatever else differs
abbrev pub EventsBegin : Type 0
EventsBegin =
    (s t : Settings) (b d : Beginning) (bytes payload_s payload_t : List ℕ) (cs ds : List Call) → bounds_of s ≡ bounds_of t → is_opening b ≡ is_opening d
    → NoQueueCloses cs → NoQueueCloses ds
    → let x : List Happened = (played s b bytes payload_s cs).events in
    let y : List Happened = (played t d bytes payload_t ds).events in
    Begins x y ⊎ Begins y x
