-- The counters over all values: each function changes one counter, or a position, and leaves every other field as it was; a counter goes on from 0
-- after 2^64 - 1. SCOPE 4.4; 01, "Progress".
use Rattle.std.specs.Prelude.{◌≡◌, ℕ, ◌+◌, ◌^◌, ◌<◌, ◌⊎◌}
use Rattle.lsn.specs.declared.Lsn.{Lsn}
use Rattle.metrics.specs.declared.Metrics.{Metrics}
use Rattle.metrics.specs.Metrics.{more, no_counts, with_event, with_status, with_reply, with_stall, with_stall_end, with_end}

-- r is what a counter of 64 bits shows n after a: their sum, less 2^64 where that is reached
pub record After (a n r : ℕ) : Type 0 where
  pub in64 : r < 2 ^ 64
  pub is : (a + n ≡ r) ⊎ (a + n ≡ r + 2 ^ 64)

-- the seven values of the metrics
pub record Shows (m : Metrics) (events statuses replies stalls micros applied end : ℕ) : Type 0 where
  pub events_are : m.events_forwarded ≡ events
  pub statuses_are : m.feedback_sent ≡ statuses
  pub replies_are : m.keepalive_replies ≡ replies
  pub stalls_are : m.stall_count ≡ stalls
  pub micros_are : m.stall_micros_total ≡ micros
  pub applied_is : m.last_applied_lsn.0 ≡ applied
  pub end_is : m.last_wal_end.0 ≡ end

pub record CounterLaws : Type 0 where
  -- a counter shows the sum modulo 2^64, and after its largest value 0
  pub counted : (a n : ℕ) → a < 2 ^ 64 → n < 2 ^ 64 → After a n (more a n)
  pub one_sum : (a n r t : ℕ) → After a n r → After a n t → r ≡ t
  pub largest : more 18446744073709551615 1 ≡ 0

-- from metrics of any values, and from one value to the next, what each function makes of them
pub record MetricsLaws : Type 0 where
  pub fresh : Shows no_counts 0 0 0 0 0 0 0
  pub event : (m : Metrics) (e s r t u a w n : ℕ) → Shows m e s r t u a w → After e 1 n → Shows (with_event m) n s r t u a w
  pub status : (m : Metrics) (e s r t u a w n : ℕ) (p : Lsn) → Shows m e s r t u a w → After s 1 n → Shows (with_status m p) e n r t u p.0 w
  pub reply : (m : Metrics) (e s r t u a w n : ℕ) → Shows m e s r t u a w → After r 1 n → Shows (with_reply m) e s n t u a w
  pub stall : (m : Metrics) (e s r t u a w n : ℕ) → Shows m e s r t u a w → After t 1 n → Shows (with_stall m) e s r n u a w
  pub stall_end : (m : Metrics) (e s r t u a w n micros : ℕ) → Shows m e s r t u a w → After u micros n → Shows (with_stall_end m micros) e s r t n a w
  pub end : (m : Metrics) (e s r t u a w : ℕ) (p : Lsn) → Shows m e s r t u a w → Shows (with_end m p) e s r t u a p.0
