-- A run hands on the list of the generator that made its stream: for any seed, number of messages and list of calls, whatever the cuts, clocks and
-- reports are. 02, wish 13; SCOPE 16.2.
use Rattle.std.specs.Prelude.{◌≡◌, Bool, true, false, List, [], ◌∷◌, ℕ, ◌≤◌, ◌<◌, ◌^◌, length, replicate, pos}
use Rattle.lsn.specs.declared.Lsn.{Lsn}
use Rattle.worker.specs.declared.Queue.TheVariants.{Free}
use Rattle.worker.specs.declared.Settings.{Settings}
use Rattle.worker.specs.declared.State.{State}
use Rattle.worker.specs.declared.State.TheVariants.{Opening, Turn, Drain, Reading, Waiting, Handling, Offering, Ended}
use Rattle.thm_any_calls.specs.Happened.{Happened}
use Rattle.thm_any_calls.specs.Happened as H
use Rattle.thm_any_calls.specs.Calls.{is_open, Call, step, report, Played, played}
use Rattle.load.specs.declared.Message.{Message}
use Rattle.load.specs.declared.Message.TheVariants.{KeepAlive, Begin, Data, Commit}
use Rattle.load.specs.Load.{messages_of, stream_of}

-- the event of a message; its times are 0
abbrev pub event_of : Message → Happened
event_of (KeepAlive end reply) = H.keep_alive end (pos 0) reply
event_of (Begin start end final xid) = H.begin final (pos 0) xid
event_of (Data start end letters) = H.xlog_data start end (pos 0) (73 ∷ replicate letters 65)
event_of (Commit start end position commit_end) = H.commit position commit_end (pos 0)

-- the events of messages, in their order
unfoldable pub events_of : List Message → List Happened
events_of [] = []
events_of (m ∷ ms) = event_of m ∷ events_of ms

-- the generator's own list
abbrev pub list_of : ℕ → ℕ → List Happened
list_of n seed = events_of (messages_of n seed)

-- no stop is requested and every queue is free; reports, clocks, cuts, outputs and the input's end are any
abbrev pub Undisturbed : List Call → Type 0
Undisturbed [] = Unit
Undisturbed (step i n out ∷ cs) = (i.stop ≡ false) × (i.queue ≡ Free) × Undisturbed cs
Undisturbed (report file position moment ∷ cs) = Undisturbed cs

-- the run holds a message that is to be handled, or an event that is to be offered
abbrev pub holds_back : State → Bool
holds_back Opening = false
holds_back Turn = false
holds_back Drain = false
holds_back Reading = false
holds_back Waiting = false
holds_back Handling = true
holds_back Offering = true
holds_back Ended = false

-- already open, without a stop position, with a limit of at least 100: once every byte is taken and nothing is held back, exactly the generator's
-- list was handed on. The payload buffer goes from step to step as it was left (played)
abbrev pub LoadIsHandedOn : Type 0
LoadIsHandedOn =
    (s : Settings) (start : Lsn) (seed n : ℕ) (payload : List ℕ) (cs : List Call)
    → seed < 2 ^ 64 → s.has_stop ≡ false → 100 ≤ s.max_message_size → Undisturbed cs
    → let z : Played = played s (is_open start) (stream_of n seed) payload cs in
    z.taken ≡ length (stream_of n seed) → holds_back z.run.state ≡ false → z.events ≡ list_of n seed
