-- Metrics: counters of 64 bits, modulo 2^64. SCOPE 4.4; 01, "Progress".
use Rattle.std.specs.Prelude.{ℕ, ◌+◌, ◌%◌, ◌^◌}
use Rattle.lsn.specs.declared.Lsn.{Lsn}
use Rattle.metrics.specs.declared.Metrics.{Metrics}

-- a counter with n more, as the remainder of 64 bits
abbrev pub more : ℕ → ℕ → ℕ
more a n = (a + n) % 2 ^ 64

-- events, statuses, replies, stalls, stall microseconds, last applied, last wal_end
abbrev pub metrics : ℕ → ℕ → ℕ → ℕ → ℕ → Lsn → Lsn → Metrics
metrics events statuses replies stalls micros applied end =
    record {
      events_forwarded = events;
      feedback_sent = statuses;
      keepalive_replies = replies;
      stall_count = stalls;
      stall_micros_total = micros;
      last_applied_lsn = applied;
      last_wal_end = end;
    }

-- before the first step
abbrev pub no_counts : Metrics
no_counts = metrics 0 0 0 0 0 (record { 0 = 0 }) (record { 0 = 0 })

-- an event was handed on
abbrev pub with_event : Metrics → Metrics
with_event m =
    metrics (more m.events_forwarded 1) m.feedback_sent m.keepalive_replies m.stall_count
    m.stall_micros_total m.last_applied_lsn m.last_wal_end

-- a status was sent that confirms a position
abbrev pub with_status : Metrics → Lsn → Metrics
with_status m p =
    metrics m.events_forwarded (more m.feedback_sent 1) m.keepalive_replies m.stall_count
    m.stall_micros_total p m.last_wal_end

-- a status was sent in reply to a keepalive
abbrev pub with_reply : Metrics → Metrics
with_reply m =
    metrics m.events_forwarded m.feedback_sent (more m.keepalive_replies 1) m.stall_count
    m.stall_micros_total m.last_applied_lsn m.last_wal_end

-- a stall began
abbrev pub with_stall : Metrics → Metrics
with_stall m =
    metrics m.events_forwarded m.feedback_sent m.keepalive_replies (more m.stall_count 1)
    m.stall_micros_total m.last_applied_lsn m.last_wal_end

-- a stall ended after so many microseconds
abbrev pub with_stall_end : Metrics → ℕ → Metrics
with_stall_end m n =
    metrics m.events_forwarded m.feedback_sent m.keepalive_replies m.stall_count
    (more m.stall_micros_total n) m.last_applied_lsn m.last_wal_end

-- a message told the server's end
abbrev pub with_end : Metrics → Lsn → Metrics
with_end m e =
    metrics m.events_forwarded m.feedback_sent m.keepalive_replies m.stall_count
    m.stall_micros_total m.last_applied_lsn e
