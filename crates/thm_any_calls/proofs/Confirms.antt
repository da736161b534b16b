-- Each status confirms the smallest of the four files: a step preserves them, whatever it is lent, and what it writes is by them (crate thm_one_call).
-- Condition3 takes the theorems.
use Prim.Native.Nat.{ℕ, zero, suc, ◌+◌, ◌≤◌, ◌%◌, ◌^◌}
use native.Mathlib.Omega.{arith}
use mathlib.Core.Bool.{Bool}
use mathlib.Core.Path.{◌≡◌, refl, sym, ap, ◌∙◌}
use mathlib.Core.List.{List, [], ◌∷◌, ◌++◌, append-nil}
use mathlib.Core.Option.{Option, some, none}
use lib.ListN.{length, take, drop}
use lib.Seq.{take-append_seam}
use lib.IntN.{ℤ}
use Rattle.wire.specs.Field.{and_then, field_at}
use Rattle.wire.proofs.Laws.{by_test, impossible}
use Rattle.wire.specs.Int.{int, value}
use Rattle.frontend.specs.Frontend.{copy_data, copy_done_message, status_body, status_update}
use Rattle.frontend.specs.ReadBack.{status_of, Message, Status, confirming, message_read, in_copy_data}
use Rattle.frontend.proofs.Laws.{length_framed, length_status}
use Rattle.frontend.proofs.ServerReads.{status_read_back_modulo, copy_done_read_back}
use Rattle.lsn.specs.declared.Lsn.{Lsn}
use Rattle.moment.specs.declared.Moment.{Moment}
use Rattle.progress.specs.declared.files.Files.{Files}
use Rattle.progress.specs.declared.files.Progress.{Progress}
use Rattle.progress.specs.Files.{no_file, smallest, raised_in}
use Rattle.progress.proofs.FileLaws.{files_at, no_file_lem, raised_at, filed_is}
use Rattle.worker.specs.declared.Input.{Input}
use Rattle.worker.specs.declared.Run.{Run}
use Rattle.worker.specs.declared.Settings.{Settings}
use Rattle.worker.specs.Run.{fresh_run}
use Rattle.worker.specs.Step.{Lent, Outcome, step_of}
use Rattle.worker.specs.Session.{report_of}
use Rattle.thm_one_call.specs.Effects as W
use Rattle.thm_one_call.proofs.Effects.{step_effects}
use Rattle.thm_any_calls.proofs.Tests.{put_front}
use Rattle.thm_any_calls.proofs.Beginnings.{run_begun_lem}
use Rattle.thm_any_calls.specs.Tests.{onto}
use Rattle.thm_any_calls.specs.Calls.{Beginning, start_of, run_begun}
use Rattle.thm_any_calls.specs.Confirms.{AnyCall, step, report, Writes, nothing, done, status, Reached, reached_with, least_of, Confirmed}
use Rattle.thm_any_calls.specs.Confirms.{ConfirmsSmallest, NotAbove, NoneBehind, NoFileBehind}

pub length_update : (position : ℕ) (time : ℤ) (reply : Bool) → length (status_update position time reply) ≡ 39
unfolding status_update copy_data
length_update position time reply =
    length_framed 100 (status_body position time reply) ∙ ap (λ (n : ℕ). n + 5) (length_status position time reply)

-- the 39 bytes, as a server reads them
reads_back : (position : ℕ) (time : ℤ) (reply : Bool) (out : List ℕ)
    → status_of (take 39 (onto (status_update position time reply) out))
    ≡ some (confirming (position % 2 ^ 64) (int 8 (value 8 time % 2 ^ 64)) reply)
reads_back position time reply out =
    let m : List ℕ = status_update position time reply in
    let rest : List ℕ = drop (length m) out in
    let n : length m ≡ 39 = length_update position time reply in
    let front : take 39 (m ++ rest) ≡ m = rw (← n) (take-append_seam m rest) in
    ap status_of (front ∙ sym (append-nil m)) ∙ status_read_back_modulo position time reply []

-- what a step wrote, and how a server reads it
as_read : {b : W.Before} {i : Input} {l : Lent} {o : Outcome} → W.Writing b i l o → Writes (smallest b.files).0 i l o
as_read (W.nothing a c d) = nothing a c
as_read {l = l} (W.done a c d) = done a (c ∙ put_front l.out copy_done_message)
as_read {b} {i} {l} {o} (W.status reply a c d) =
    let e = c ∙ put_front l.out (status_update (smallest b.files).0 i.client_time reply) in
    status reply a e
    (ap (λ (n : ℕ). status_of (take n o.out)) a ∙ ap (λ (x : List ℕ). status_of (take 39 x)) e
    ∙ reads_back (smallest b.files).0 i.client_time reply l.out)

pub length_done : length copy_done_message ≡ 5
unfolding copy_done_message
length_done = length_framed 99 []

-- ---- any list of calls

writes_at : {n m : ℕ} {i : Input} {l : Lent} {o : Outcome} → n ≡ m → Writes n i l o → Writes m i l o
writes_at {i = i} {l = l} h (nothing a c) = nothing a c
writes_at {i = i} {l = l} h (done a c) = done a c
writes_at {i = i} {l = l} h (status reply a c d) =
    status reply a (c ∙ ap (λ (x : ℕ). onto (status_update x i.client_time reply) l.out) h)
    (d ∙ ap (λ (x : ℕ). some (confirming (x % 2 ^ 64) (int 8 (value 8 i.client_time % 2 ^ 64)) reply)) h)

-- four positions by their numbers, as they are reached
abbrev pub files_by : Reached → Files
files_by reached = files_at (reached 0) (reached 1) (reached 2) (reached 3)

-- the smallest of them
pub least_is : (reached : Reached) → (smallest (files_by reached)).0 ≡ least_of reached
unfolding smallest
least_is reached = refl

-- what a report leaves
pub files_reach : (r : Run) (reached : Reached) (file : ℕ) (q : Lsn) (m : Moment) → r.progress.files ≡ files_by reached
    → (report_of r file q m).1.progress.files ≡ files_by (reached_with reached file q)
unfolding report_of
files_reach r reached file q m h =
    ap (λ (p : Progress). p.files) (filed_is r.progress file q m) ∙ ap (raised_in file q) h
    ∙ by_test (no_file file)
    (λ t. no_file_lem file q (files_by reached) t ∙ rw t)
    (λ t. raised_at file q (reached 0) (reached 1) (reached 2) (reached 3) ∙ rw t)

confirmed_from : (reached : Reached) (r : Run) → r.progress.files ≡ files_by reached → (cs : List AnyCall) → Confirmed reached r cs
confirmed_from reached r h [] = tt
confirmed_from reached r h (step i l ∷ cs) =
    let k = step_effects r i l in
    let n : (smallest r.progress.files).0 ≡ least_of reached = ap (λ (f : Files). (smallest f).0) h ∙ least_is reached in
    (writes_at n (as_read k.writes), confirmed_from reached (step_of r i l).run (k.preserved ∙ h) cs)
confirmed_from reached r h (report file q m ∷ cs) =
    confirmed_from (reached_with reached file q) (report_of r file q m).1 (files_reach r reached file q m h) cs

-- each file has reached the start
pub begun_files : (s : Settings) (b : Beginning) → (run_begun s b).progress.files ≡ files_by (λ (n : ℕ). (start_of b).0)
unfolding fresh_run
begun_files s b = ap (λ (r : Run). r.progress.files) (run_begun_lem s b)

pub confirms_smallest : ConfirmsSmallest
confirms_smallest s b cs = confirmed_from (λ (n : ℕ). (start_of b).0) (run_begun s b) (begun_files s b) cs

-- ---- no file lies behind a confirmation

-- whether a status was read, and which
abbrev told : Option Status → ℕ
told none = 0
told (some x) = 1

abbrev or_else : Status → Option Status → Status
or_else y none = y
or_else y (some x) = x

not_read : {o : Option Status} {x : Status} {X : Type 0} → o ≡ none → o ≡ some x → X
not_read a b = impossible (ap told (sym a ∙ b))

-- no status stands in no bytes, and none in a CopyDone
none_in_nothing : status_of [] ≡ none
unfolding status_of message_read field_at
none_in_nothing = refl

none_in_done : (out : List ℕ) → status_of (take 5 (onto copy_done_message out)) ≡ none
unfolding status_of
none_in_done out =
    let rest : List ℕ = drop (length copy_done_message) out in
    let front : take 5 (copy_done_message ++ rest) ≡ copy_done_message = rw (← length_done) (take-append_seam copy_done_message rest) in
    ap status_of (front ∙ sym (append-nil copy_done_message)) ∙ ap (λ (m : Option Message). and_then m in_copy_data) (copy_done_read_back [])

-- the smallest is below each of the four
least_below : (reached : Reached) (file : ℕ) → file ≤ 3 → least_of reached ≤ reached file
least_below reached zero k = omega arith
least_below reached (suc zero) k = omega arith
least_below reached (suc (suc zero)) k = omega arith
least_below reached (suc (suc (suc zero))) k = omega arith
least_below reached (suc (suc (suc (suc n)))) k = absurd (omega (arith, k))

not_above : (n bound : ℕ) {i : Input} {l : Lent} {o : Outcome} → n ≤ bound → Writes n i l o → NotAbove bound o
not_above n bound {l = l} {o = o} k (nothing a c) x e = not_read (ap (λ (j : ℕ). status_of (take j o.out)) a ∙ none_in_nothing) e
not_above n bound {l = l} {o = o} k (done a c) x e =
    not_read (ap (λ (j : ℕ). status_of (take j o.out)) a ∙ ap (λ (y : List ℕ). status_of (take 5 y)) c ∙ none_in_done l.out) e
not_above n bound {i} k (status reply a c d) x e =
    let z : Status = confirming (n % 2 ^ 64) (int 8 (value 8 i.client_time % 2 ^ 64)) reply in
    let h : x ≡ z = ap (or_else x) (sym e ∙ d) in
    let m : n % 2 ^ 64 ≤ bound = omega (arith, k) in
    (rw h m, rw h m, rw h m)

none_behind : (reached : Reached) (r : Run) (cs : List AnyCall) → Confirmed reached r cs → NoneBehind reached r cs
none_behind reached r [] c = tt
none_behind reached r (step i l ∷ cs) c =
    (λ file k. not_above (least_of reached) (reached file) (least_below reached file k) c.0, none_behind reached (step_of r i l).run cs c.1)
none_behind reached r (report file q m ∷ cs) c = none_behind (reached_with reached file q) (report_of r file q m).1 cs c

pub no_file_behind : NoFileBehind
no_file_behind s b cs = none_behind (λ (n : ℕ). (start_of b).0) (run_begun s b) cs (confirms_smallest s b cs)
