-- Condition 3 of exported calls: after any list of them, what the words say is what the trace of the steps and reports that they stand for says. The
-- trace is the step table's, found from the calls and the server's bytes; no run and no map of the code stands in it. SCOPE 8.8, 9.2.
use Rattle.std.specs.Prelude.{◌≡◌, Bool, true, false, List, [], ◌∷◌, ◌++◌, ℕ, zero, suc, ◌+◌, ◌-◌, ◌<◌, min, ℤ, length, take, eqb, ltb}
use Rattle.std.proofs.Math.Option.{Option, some, none}
use Rattle.std.specs.Borrow.{Bor}
use Rattle.wire.specs.Bytes.{pick}
use Rattle.frontend.specs.Frontend.{status_update, copy_done_message}
use Rattle.lsn.specs.declared.Lsn.{Lsn}
use Rattle.moment.specs.declared.Moment.{Moment}
use Rattle.page.specs.Page.{page_of}
use Rattle.worker.specs.declared.Input.{Input}
use Rattle.worker.specs.declared.Queue.{Queue}
use Rattle.worker.specs.declared.State.{State}
use Rattle.worker.specs.declared.State.TheVariants.{Opening, Turn, Drain, Reading, Waiting, Handling, Offering, Ended}
use Rattle.ffi_words.specs.Calls.{Standing, open_call, already_open_call}
use Rattle.thm_any_calls.specs.Tests.{both, onto, place_of, lsn}
use Rattle.thm_any_calls.specs.Beginnings.{open_answer, opened_answer}
use Rattle.thm_any_calls.specs.Happened.{Happened}
use Rattle.thm_any_calls.specs.Plain.{by_queue, plain_of}
use Rattle.thm_any_calls.specs.Trace.{Setup, bounds_of, Writing, nothing, done, status, Response, Trace, a_step, a_report, state_after, taken_by, handed_by, observations_of, confirmed_of, has_sent, sent_at, sent_position, wait_began, pending_of, signalled_of}
use Rattle.thm_any_calls.specs.Calls.{Beginning, Call, setup_of}
use Rattle.thm_any_calls.specs.Calls as C
use Rattle.thm_any_calls.specs.Table.{limit_by, last_message, response_of}
use Rattle.thm_any_calls.specs.Traced.{waited_by, trace_one, trace_all, trace_of}
use Rattle.thm_any_calls.specs.Counters.{wrapped, status_count, reply_count, stall_count_of, stall_micros, last_end}
use Rattle.thm_any_calls.specs.Views.{has_failed}
use Rattle.thm_any_calls.specs.HandsOn.{NoQueueCloses}
use Rattle.thm_page_shown.specs.PageShown.{page_after}
use Rattle.thm_host_calls.specs.HostWords.{word, flag, moment, settings_by, queue_by, input_by, wait_words, TellsEvent, error_words}
use Rattle.thm_host_calls.specs.Exported.{HostCall, step, advance, report, report_each, state, metrics, position, last_sent, error_part, next_step, page, Held, Reply, Called, CalledAll, Opened, held_first}

-- ---- the steps and reports that a call stands for

-- nothing is written
abbrev pub is_silent : Writing → Bool
is_silent nothing = true
is_silent done = false
is_silent (status reply) = false

-- no event is handed on
abbrev pub is_empty : List Happened → Bool
is_empty [] = true
is_empty (e ∷ es) = false

-- a step that has nothing to tell: no refusal, no bytes for the server, no event
abbrev pub is_quiet : Response → Bool
is_quiet y = both (eqb y.refusal 0) (both (is_silent y.writing) (is_empty y.event))

-- steps with the same input, at most so many, until one of them has something to tell; each is lent what the one before it left unread
unfoldable pub up_to : ℕ → Setup → Trace → Input → ℕ → List ℕ → List Call
up_to zero s h i n out = []
up_to (suc k) s h i n out =
    let y : Response = response_of s h i n (length out) in
    C.step i n out ∷ pick (is_quiet y) (up_to k s (trace_one s h (C.step i n out)) i (n - y.taken) out) []

-- an advance is up to four steps, a report of all files is four reports, a look is none
abbrev pub steps_in : Setup → Trace → HostCall → List Call
steps_in s h (step a n out) = C.step (input_by a) n out ∷ []
steps_in s h (advance a n out) = up_to 4 s h (input_by a) n out
steps_in s h (report file p m) = C.report file (lsn p) (moment m) ∷ []
steps_in s h (report_each ps m) =
    C.report 0 (lsn (word ps 0)) (moment m) ∷ C.report 1 (lsn (word ps 1)) (moment m) ∷ C.report 2 (lsn (word ps 2)) (moment m)
    ∷ C.report 3 (lsn (word ps 3)) (moment m) ∷ []
steps_in s h state = []
steps_in s h metrics = []
steps_in s h position = []
steps_in s h last_sent = []
steps_in s h (error_part n) = []
steps_in s h (next_step n queue) = []
steps_in s h (page out) = []

-- the trace after a call
abbrev pub after : Setup → Trace → HostCall → Trace
after s h c = trace_all s h (steps_in s h c)

-- after a list of them
unfoldable pub after_all : Setup → Trace → List HostCall → Trace
after_all s h [] = h
after_all s h (c ∷ cs) = after_all s (after s h c) cs

-- the steps and reports that a list of them stands for
unfoldable pub steps_all : Setup → Trace → List HostCall → List Call
steps_all s h [] = []
steps_all s h (c ∷ cs) = steps_in s h c ++ steps_all s (after s h c) cs

-- ---- what a trace says

-- the refusal of the last step
unfoldable pub refused_by : Trace → ℕ
refused_by [] = 0
refused_by (a_step i from y ∷ h) = y.refusal
refused_by (a_report file p m ∷ h) = refused_by h

-- the waiting time that the last step told
unfoldable pub waited_after : Setup → Trace → Option ℕ
waited_after s [] = none
waited_after s (a_step i from y ∷ h) = waited_by s h i y.writing
waited_after s (a_report file p m ∷ h) = waited_after s h

-- the bytes that one step wrote
abbrev pub bytes_by : Writing → Lsn → ℤ → List ℕ
bytes_by nothing p time = []
bytes_by done p time = copy_done_message
bytes_by (status reply) p time = status_update p.0 time reply

-- the bytes for the server, of all steps
unfoldable pub sent_by : Setup → Trace → List ℕ
sent_by s [] = []
sent_by s (a_step i from y ∷ h) = sent_by s h ++ bytes_by y.writing (confirmed_of s.start h) i.client_time
sent_by s (a_report file p m ∷ h) = sent_by s h

-- the payload buffer, which had this content first
unfoldable pub buffer_after : Trace → List ℕ → List ℕ
buffer_after [] first = first
buffer_after (a_step i from y ∷ h) first = onto y.stored (buffer_after h first)
buffer_after (a_report file p m ∷ h) first = buffer_after h first

-- the payload of the error that ended the run: the last whole message of the bytes taken
abbrev pub error_after : Setup → Trace → Option (List ℕ)
error_after s h = pick (has_failed h) (some (last_message (limit_by s) (take (taken_by h) s.bytes)).1) none

-- ---- when a step moves next while nothing new comes: 0 at once, 1 from a moment on, 2 on input, 3 never; and the moment

-- the first moment at which an interval since another has passed: 0 for an interval of 0, which has always passed; from 9,223,372,036,854,775,808 on
-- there is no moment
abbrev pub due : ℕ → Moment → ℕ
due interval since = pick (eqb interval 0) 0 (min (since.0 + interval) 9223372036854775808)

abbrev pub on_clock : ℕ → List ℕ
on_clock n = pick (eqb n 0) (0 ∷ 0 ∷ []) (pick (ltb n 9223372036854775808) (1 ∷ n ∷ []) (2 ∷ 0 ∷ []))

-- the status interval since the last status, the idle interval since the wait began
abbrev pub status_due : Setup → Trace → ℕ
status_due s h = due s.settings.status_interval (sent_at h)

abbrev pub idle_due : Setup → Trace → ℕ
idle_due s h = due s.settings.idle_wakeup_interval (wait_began h)

-- in a wait: a pending position waits for either interval; else a signal is acted on at once, and the idle interval ends the wait
abbrev pub waiting_next : Setup → Trace → List ℕ
waiting_next s h =
    pick (pending_of s.start h) (on_clock (min (status_due s h) (idle_due s h)))
    (pick (signalled_of s.start h) (0 ∷ 0 ∷ []) (on_clock (idle_due s h)))

-- by the state: one that reads needs input, an offer that finds the queue full a status
abbrev pub next_in : State → Setup → Trace → Queue → List ℕ
next_in Opening s h q = 2 ∷ 0 ∷ []
next_in Turn s h q = 0 ∷ 0 ∷ []
next_in Drain s h q = 0 ∷ 0 ∷ []
next_in Reading s h q = 2 ∷ 0 ∷ []
next_in Waiting s h q = waiting_next s h
next_in Handling s h q = 0 ∷ 0 ∷ []
next_in Offering s h q = by_queue q (0 ∷ 0 ∷ []) (on_clock (status_due s h)) (0 ∷ 0 ∷ [])
next_in Ended s h q = 3 ∷ 0 ∷ []

-- ---- what is told

-- a step or an advance, which leads from the trace h to g with an output; `payload` is the payload buffer after it. The twelve words: refusal, taken,
-- written, whether a waiting time is told, the waiting time, and the seven of the event. As many bytes as are said to be written stand at the
-- output's front and are what the steps wrote; the rest of the output is as it was
pub record StepTold (s : Setup) (h g : Trace) (out payload : List ℕ) (y : Reply) : Type 0 where
  pub sent : List ℕ
  pub handed : List Happened
  pub seven : List ℕ
  pub answer : y.answer ≡ refused_by g ∷ (taken_by g - taken_by h) ∷ length sent ∷ (wait_words (waited_after s g) ++ seven)
  pub sent_now : sent_by s g ≡ sent_by s h ++ sent
  pub handed_now : handed_by g ≡ handed_by h ++ handed
  pub event : TellsEvent seven payload handed
  pub written : take (word y.answer 2) y.out ≡ sent
  pub output : y.out ≡ onto sent out

-- a report is refused with 31 for every file but four, and leaves the run's words then
pub record ReportTold (file : ℕ) (b a : Held) (y : Reply) : Type 0 where
  pub refusal : y.result ≡ pick (ltb 3 file) 31 0
  pub words : 3 < file → a.words ≡ b.words

-- a report of all files answers what a status would confirm then, and leaves the words that four single reports leave
pub record ReportEachTold (s : Setup) (h : Trace) (ps : List ℕ) (m : ℕ) (b a : Held) (y : Reply) : Type 0 where
  pub position : y.result ≡ (confirmed_of s.start (after s h (report_each ps m))).0
  pub four : (g : Held)
      → CalledAll s.bytes b (report 0 (word ps 0) m ∷ report 1 (word ps 1) m ∷ report 2 (word ps 2) m ∷ report 3 (word ps 3) m ∷ []) g
      → a.words ≡ g.words

-- a page, of its text: 4 and nothing written where the output is too short
abbrev pub page_left : List ℕ → List ℕ → (ℕ × ℕ) × List ℕ
page_left text out = pick (ltb (length out) (length text)) ((4, 0), out) ((0, length text), onto text out)

-- an error is told with its length, and its bytes stand at the payload buffer's front
pub record ErrorTold (s : Setup) (h : Trace) (payload : List ℕ) (n : ℕ) (y : Reply) : Type 0 where
  pub answer : y.answer ≡ error_words (error_after s h) n
  pub bytes : (p : List ℕ) → error_after s h ≡ some p → take (length p) payload ≡ p

-- what a call says after a trace, from what the host has before it (b) to what it has after it (a)
abbrev pub Says : Setup → Trace → HostCall → Held → Held → Reply → Type 0
Says s h (step w n out) b a y = StepTold s h (after s h (step w n out)) out a.payload y
Says s h (advance w n out) b a y = StepTold s h (after s h (advance w n out)) out a.payload y
Says s h (report file p m) b a y = ReportTold file b a y
Says s h (report_each ps m) b a y = ReportEachTold s h ps m b a y
Says s h state b a y = y.result ≡ place_of (state_after s.opening h)
Says s h metrics b a y =
    y.answer
    ≡ wrapped (length (handed_by h)) ∷ wrapped (status_count h) ∷ wrapped (reply_count h) ∷ wrapped (stall_count_of h) ∷ wrapped (stall_micros h)
    ∷ (sent_position s.start h).0 ∷ (last_end s h).0 ∷ []
Says s h position b a y = y.result ≡ (confirmed_of s.start h).0
Says s h last_sent b a y = y.answer ≡ flag (has_sent h) ∷ (sent_position s.start h).0 ∷ (sent_at h).0 ∷ []
Says s h (error_part n) b a y = ErrorTold s h b.payload n y
Says s h (next_step n queue) b a y = n ≡ s.room → y.answer ≡ next_in (state_after s.opening h) s h (queue_by queue)
Says s h (page out) b a y = ((y.result, word y.answer 0), y.out) ≡ page_left (page_of (page_after s h)) out

-- ---- the promise

-- after calls that led to a trace, with a payload buffer of this content at first: how many bytes were taken, the payload buffer, and what the next
-- call says; the trace is that of a list of steps and reports, so all of condition 3 is about it; and the events that were told are those of the
-- plain reading, where no queue closes
pub record Told (s : Setup) (cs : List HostCall) (first : List ℕ) (g : Held) : Type 0 where
  pub taken : g.taken ≡ taken_by (after_all s [] cs)
  pub payload : g.payload ≡ buffer_after (after_all s [] cs) first
  pub next : (c : HostCall) (k : Held) (y : Reply) → Called s.bytes g c k y → Says s (after_all s [] cs) c g k y
  pub traced : after_all s [] cs ≡ trace_of s (steps_all s [] cs)
  pub events : NoQueueCloses (steps_all s [] cs)
      → handed_by (after_all s [] cs) ≡ plain_of (bounds_of s.settings) s.opening s.bytes (observations_of (after_all s [] cs))

-- `rufflesquash_open` and `rufflesquash_already_open` say what condition 3 says of beginnings: refusal, bytes written and output; refused, they leave
-- the run's words as they were
pub record OpeningsTold : Type 0 where
  pub opens : (before settings slot : List ℕ) (publications : List (Bor (List ℕ))) (position start : ℕ) (out : List ℕ)
      → let a : ℕ × Standing × ℕ × List ℕ = open_call before settings slot publications position start out in
      ((a.0, a.2), a.3) ≡ open_answer (settings_by settings) slot publications (lsn position) out
  pub opens_refused : (before settings slot : List ℕ) (publications : List (Bor (List ℕ))) (position start : ℕ) (out : List ℕ)
      → let a : ℕ × Standing × ℕ × List ℕ = open_call before settings slot publications position start out in 0 < a.0 → a.1.0 ≡ before
  pub already : (before settings : List ℕ) (start : ℕ) → (already_open_call before settings start).0 ≡ opened_answer (settings_by settings)
  pub already_refused : (before settings : List ℕ) (start : ℕ)
      → let a : ℕ × Standing = already_open_call before settings start in 0 < a.0 → a.1.0 ≡ before

-- so after any list of exported calls from an opening that was not refused
pub record ExportedTold : Type 0 where
  pub openings : OpeningsTold
  pub calls : (settings words bytes payload : List ℕ) (b : Beginning) → Opened settings words b
      → (cs : List HostCall) (g : Held) → CalledAll bytes (held_first words payload) cs g
      → Told (setup_of (settings_by settings) b bytes (length payload)) cs payload g
