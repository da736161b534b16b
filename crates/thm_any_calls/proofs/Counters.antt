-- The counters of a run are the trace's: what a run counts modulo 2^64, step by step, is the whole count modulo 2^64.
use mathlib.Core.Path.{◌≡◌, refl, ap, ◌∙◌, sym}
use mathlib.Core.Bool.{Bool, true, false}
use mathlib.Core.List.{List, [], ◌∷◌, ◌++◌, append-nil}
use Prim.Native.Nat.{ℕ, ◌+◌, ◌^◌}
use native.Mathlib.Nat.{mod-add-mod}
use native.Mathlib.Omega.{arith}
use lib.ListN.{length, length-append}
use Rattle.wire.specs.Bytes.{pick}
use Rattle.metrics.specs.Metrics.{more}
use Rattle.moment.specs.Moment.{since_of}
use Rattle.worker.specs.Run.{micros}
use Rattle.thm_any_calls.specs.Happened.{Happened}
use Rattle.thm_any_calls.specs.Trace.{Setup, Trace, a_step, a_report, is_status, is_reply, handed_by}
use Rattle.thm_any_calls.specs.Calls.{played, setup_of}
use Rattle.thm_any_calls.specs.Traced.{trace_of}
use Rattle.thm_any_calls.specs.Counters.{status_count, reply_count, begins_stall, ends_stall, stall_count_of, stall_began, stall_micros, wrapped, counters_of, CountersTraced}
use Rattle.thm_any_calls.proofs.Facts.{counted, events, statuses, replies, stalls, stall_micros_lem, facts_by, facts_of, agree_metrics}
use Rattle.thm_any_calls.proofs.Preserved.{played_preserved}

-- a counter w of a whole count a, more by n where a test holds
picked : (c : Bool) (w a n : ℕ) → w ≡ wrapped a → pick c (more w n) w ≡ wrapped (pick c (a + n) a)
picked true w a n h = ap (λ (k : ℕ). more k n) h ∙ mod-add-mod a (2 ^ 64) n
picked false w a n h = h

counted_as : (es fs : List Happened) (w : ℕ) → w ≡ wrapped (length fs) → counted es w ≡ wrapped (length (fs ++ es))
counted_as [] fs w h = rw append-nil h
counted_as (e ∷ es) fs w h =
    let n : length (fs ++ (e ∷ es)) ≡ length fs + (length es + 1) = length-append fs (e ∷ es) ∙ omega arith in
    ap (λ (k : ℕ). more k (length es + 1)) h ∙ mod-add-mod (length fs) (2 ^ 64) (length es + 1) ∙ ap wrapped (sym n)

events_are : (h : Trace) → events h ≡ wrapped (length (handed_by h))
unfolding events handed_by
events_are [] = refl
events_are (a_step i from y ∷ h) = counted_as y.event (handed_by h) (events h) (events_are h)
events_are (a_report file p m ∷ h) = events_are h

statuses_are : (h : Trace) → statuses h ≡ wrapped (status_count h)
unfolding statuses status_count
statuses_are [] = refl
statuses_are (a_step i from y ∷ h) = picked (is_status y.writing) (statuses h) (status_count h) 1 (statuses_are h)
statuses_are (a_report file p m ∷ h) = statuses_are h

replies_are : (h : Trace) → replies h ≡ wrapped (reply_count h)
unfolding replies reply_count
replies_are [] = refl
replies_are (a_step i from y ∷ h) = picked (is_reply y.writing) (replies h) (reply_count h) 1 (replies_are h)
replies_are (a_report file p m ∷ h) = replies_are h

stalls_are : (h : Trace) → stalls h ≡ wrapped (stall_count_of h)
unfolding stalls stall_count_of
stalls_are [] = refl
stalls_are (a_step i from y ∷ h) = picked (begins_stall h i from y) (stalls h) (stall_count_of h) 1 (stalls_are h)
stalls_are (a_report file p m ∷ h) = stalls_are h

micros_are : (h : Trace) → stall_micros_lem h ≡ wrapped (stall_micros h)
unfolding stall_micros_lem stall_micros
micros_are [] = refl
micros_are (a_step i from y ∷ h) =
    picked (ends_stall h i from y) (stall_micros_lem h) (stall_micros h) (micros (since_of i.moment (stall_began h))) (micros_are h)
micros_are (a_report file p m ∷ h) = micros_are h

metrics_are : (s : Setup) (h : Trace) → (facts_of s h).metrics ≡ counters_of s h
unfolding facts_of
metrics_are s h = rw (events_are h, statuses_are h, replies_are h, stalls_are h, micros_are h)

pub counters_traced : CountersTraced
counters_traced s b bytes p cs =
    let x : Setup = setup_of s b bytes (length p) in
    let z = played s b bytes p cs in
    agree_metrics z.run.state (facts_by z.run) (facts_of x (trace_of x cs)) (played_preserved s b bytes p cs).agrees ∙ metrics_are x
    (trace_of x cs)
