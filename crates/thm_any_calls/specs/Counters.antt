-- Counters over a list of calls, in words of the calls and the server's bytes: what each of the seven numbers of `metrics` counts. Waiting times
-- stand in Traced, since a step answers them. SCOPE 8.7; 01, "Progress".
use Rattle.std.specs.Prelude.{◌≡◌, Bool, not, List, [], ◌∷◌, ℕ, ◌+◌, ◌%◌, ◌^◌, length, take, eqb}
use Rattle.wire.specs.Bytes.{pick}
use Rattle.lsn.specs.declared.Lsn.{Lsn}
use Rattle.metrics.specs.declared.Metrics.{Metrics}
use Rattle.moment.specs.declared.Moment.{Moment}
use Rattle.replication.specs.CopyData.{copy_data_of}
use Rattle.replication.specs.CopyData as C
use Rattle.worker.specs.declared.Input.{Input}
use Rattle.worker.specs.declared.Settings.{Settings}
use Rattle.worker.specs.declared.State.{State}
use Rattle.worker.specs.declared.State.TheVariants.{Handling, Offering}
use Rattle.thm_any_calls.specs.Tests.{both, unless, is_in, lsn, no_moment, since, micros}
use Rattle.thm_any_calls.specs.Plain.{Msg, is_refused_early, is_full}
use Rattle.thm_any_calls.specs.Trace.{Setup, Response, Trace, a_step, a_report, is_status, is_reply, taken_by, handed_by, sent_position, full_before}
use Rattle.thm_any_calls.specs.Table.{last_message, limit_by}
use Rattle.thm_any_calls.specs.Calls.{Beginning, Call, played, setup_of}
use Rattle.thm_any_calls.specs.Traced.{trace_of}

-- ---- statuses

-- the steps that wrote one
unfoldable pub status_count : Trace → ℕ
status_count [] = 0
status_count (a_step i from y ∷ h) = pick (is_status y.writing) (status_count h + 1) (status_count h)
status_count (a_report file p m ∷ h) = status_count h

-- those with reply byte 1
unfoldable pub reply_count : Trace → ℕ
reply_count [] = 0
reply_count (a_step i from y ∷ h) = pick (is_reply y.writing) (reply_count h + 1) (reply_count h)
reply_count (a_report file p m ∷ h) = reply_count h

-- ---- stalls

-- an accepted step of Offering offers an event
abbrev pub is_offer : State → Response → Bool
is_offer from y = both (is_in Offering from) (not (is_refused_early y.refusal))

-- a stall begins where an offer finds the queue full for the first time
abbrev pub begins_stall : Trace → Input → State → Response → Bool
begins_stall h i from y = both (is_offer from y) (unless (full_before h) (is_full i.queue))

-- a stall ends where an offer finds the queue no longer full, with no stop request
abbrev pub ends_stall : Trace → Input → State → Response → Bool
ends_stall h i from y = both (is_offer from y) (both (full_before h) (unless i.stop (not (is_full i.queue))))

-- the steps that began a stall
unfoldable pub stall_count_of : Trace → ℕ
stall_count_of [] = 0
stall_count_of (a_step i from y ∷ h) = pick (begins_stall h i from y) (stall_count_of h + 1) (stall_count_of h)
stall_count_of (a_report file p m ∷ h) = stall_count_of h

-- when the last stall began
unfoldable pub stall_began : Trace → Moment
stall_began [] = no_moment
stall_began (a_step i from y ∷ h) = pick (begins_stall h i from y) i.moment (stall_began h)
stall_began (a_report file p m ∷ h) = stall_began h

-- how long the ended stalls lasted, each in whole microseconds from its first full offer
unfoldable pub stall_micros : Trace → ℕ
stall_micros [] = 0
stall_micros (a_step i from y ∷ h) =
    pick (ends_stall h i from y) (stall_micros h + micros (since i.moment (stall_began h))) (stall_micros h)
stall_micros (a_report file p m ∷ h) = stall_micros h

-- ---- the server's end

-- a `w` and a `k` tell it
abbrev pub end_by : C.Said → Lsn → Lsn
end_by (C.w start end time from len) old = lsn end
end_by (C.k end time reply) old = lsn end
end_by (C.refused n) old = old

-- after a message of any tag: only a CopyData, `d`, byte 100, tells it
abbrev pub end_after : Msg → Lsn → Lsn
end_after m old = pick (eqb m.0 100) (end_by (copy_data_of m.1) old) old

-- a step handles the last whole message: it leaves Handling, also where it is refused with 10 to 19
abbrev pub handles : State → Response → Bool
handles from y = both (is_in Handling from) (not (is_in Handling y.entered))

-- the last that a handled message told
unfoldable pub last_end : Setup → Trace → Lsn
last_end s [] = lsn 0
last_end s (a_step i from y ∷ h) =
    pick (handles from y) (end_after (last_message (limit_by s) (take (taken_by h) s.bytes)) (last_end s h)) (last_end s h)
last_end s (a_report file p m ∷ h) = last_end s h

-- ---- the promise

-- a counter of 64 bits starts again at 0
abbrev pub wrapped : ℕ → ℕ
wrapped n = n % 2 ^ 64

-- events handed on, statuses, replies, stalls begun, stall microseconds; the position that the last status confirmed, the server's end
abbrev pub counters_of : Setup → Trace → Metrics
counters_of s h =
    record {
      events_forwarded = wrapped (length (handed_by h));
      feedback_sent = wrapped (status_count h);
      keepalive_replies = wrapped (reply_count h);
      stall_count = wrapped (stall_count_of h);
      stall_micros_total = wrapped (stall_micros h);
      last_applied_lsn = sent_position s.start h;
      last_wal_end = last_end s h;
    }

-- after any list of calls, whatever queue closes
abbrev pub CountersTraced : Type 0
CountersTraced =
    (s : Settings) (b : Beginning) (bytes payload : List ℕ) (cs : List Call)
    → let x : Setup = setup_of s b bytes (length payload) in (played s b bytes payload cs).run.metrics ≡ counters_of x (trace_of x cs)
