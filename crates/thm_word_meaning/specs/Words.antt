-- What each word of a run means, one by one and literally: a host's author reads these equations, and none of the maps that the code uses. The places
-- have names in ffi_words/src/layout.rt; those of a run do not leave the archive. SCOPE 9.1, 9.2.
use Rattle.std.specs.Prelude.{ℕ, ◌≤◌, ◌<◌, ◌%◌, ◌-◌, Bool, true, false, List, [], ◌∷◌, ◌++◌, ◌≡◌, ℤ, pos, negsuc}
use Rattle.std.proofs.Math.Option.{some, none}
use Rattle.std.specs.Int.Signed.{mag}
use Rattle.wire.specs.Bytes.{flag_word}
use Rattle.wire.specs.Int.{int, value}
use Rattle.framing.specs.declared.MessageReader.{MessageReader}
use Rattle.framing.specs.Read.{fresh}
use Rattle.metrics.specs.declared.Metrics.{Metrics}
use Rattle.progress.specs.Files.{files, progress}
use Rattle.worker.specs.declared.Event.{Event}
use Rattle.worker.specs.declared.Event.TheVariants.{Nothing, KeepAlive, Begin, Commit, Message, XLogData, StoppedAt}
use Rattle.worker.specs.declared.Queue.TheVariants.{Free, Full, Closed}
use Rattle.worker.specs.declared.Settings.{Settings}
use Rattle.worker.specs.declared.State.{State}
use Rattle.worker.specs.declared.State.TheVariants.{Opening, Turn, Drain, Reading, Waiting, Handling, Offering, Ended}
use Rattle.worker.specs.Events.{Said, nothing, keep_alive, begin, commit, message, xlog_data, stopped_at, said_by}
use Rattle.worker.specs.Run.{state_number, lsn, clock, last_status, whole_of, offer, run}
use Rattle.ffi_words.specs.Step.{queue_of, input_of, answer_words}
use Rattle.ffi_words.specs.Words.{flag_of, state_of, event_of, event_words, settings_of, reader_of, reader_words}
use Rattle.ffi_words.specs.Words.{last_status_words, metrics_words, run_of, words_of}
use Rattle.thm_host_calls.specs.HostWords.{is_set, flag, twos, moment}

-- ---- one word

-- 0 is false and every other word true; a flag is written as 1 or 0
abbrev pub Flags : Type 0
Flags = (flag_of 0 ≡ false) × ((n : ℕ) → 0 < n → flag_of n ≡ true) × (flag_word true ≡ 1) × (flag_word false ≡ 0)

-- a time is two's complement of 64 bits: -1 is all ones; and the time that a word stands for. Each way leads back
pub record Times : Type 0 where
  pub from_zero : (n : ℕ) → value 8 (pos n) ≡ n
  pub below_zero : (n : ℕ) → value 8 (negsuc n) ≡ 18446744073709551615 - n
  pub lower_half : (n : ℕ) → n < 9223372036854775808 → int 8 n ≡ pos n
  pub upper_half : (n : ℕ) → 9223372036854775808 ≤ n → n < 18446744073709551616 → int 8 n ≡ negsuc (18446744073709551615 - n)
  pub time_back : (z : ℤ) → mag z < 9223372036854775808 → int 8 (value 8 z) ≡ z
  pub word_back : (n : ℕ) → n < 18446744073709551616 → value 8 (int 8 n) ≡ n

-- 0 free, 1 full, every other word closed
abbrev pub QueueWords : Type 0
QueueWords = (queue_of 0 ≡ Free) × (queue_of 1 ≡ Full) × ((n : ℕ) → 2 ≤ n → queue_of n ≡ Closed)

-- 0 Opening, 1 Turn, 2 Drain, 3 Reading, 4 Waiting, 5 Handling, 6 Offering, every other word Ended
abbrev pub StateWords : Type 0
StateWords =
    (state_of 0 ≡ Opening) × (state_of 1 ≡ Turn) × (state_of 2 ≡ Drain) × (state_of 3 ≡ Reading) × (state_of 4 ≡ Waiting) × (state_of 5 ≡ Handling)
    × (state_of 6 ≡ Offering) × ((n : ℕ) → 7 ≤ n → state_of n ≡ Ended)

-- the word of each state
abbrev pub StateNumbers : Type 0
StateNumbers =
    (state_number Opening ≡ 0) × (state_number Turn ≡ 1) × (state_number Drain ≡ 2) × (state_number Reading ≡ 3) × (state_number Waiting ≡ 4)
    × (state_number Handling ≡ 5) × (state_number Offering ≡ 6) × (state_number Ended ≡ 7)

-- ---- settings: status interval, idle interval, the limit's setting, whether there is a stop position, the stop position, timing, binary

abbrev pub SettingsWords : Type 0
SettingsWords =
    (w0 w1 w2 w3 w4 w5 w6 : ℕ)
    → settings_of (w0 ∷ w1 ∷ w2 ∷ w3 ∷ w4 ∷ w5 ∷ w6 ∷ [])
    ≡ record {
      status_interval = w0;
      idle_wakeup_interval = w1;
      max_message_size = w2;
      has_stop = is_set w3;
      stop_at_lsn = lsn w4;
      timing = is_set w5;
      binary = is_set w6;
    }

-- ---- what a step is handed: the moment, the client's time, whether to stop, the queue's word, and whether the input has ended

abbrev pub InputWords : Type 0
InputWords =
    (m : ℕ) (time : ℤ) (stop : Bool) (queue : ℕ) (ended : Bool)
    → input_of m time stop queue ended
    ≡ record { moment = record { 0 = m }; client_time = time; stop = stop; queue = queue_of queue; ended = ended }

-- ---- events: their kind, then their numbers in the order in which an event has them

abbrev pub EventWords : Type 0
EventWords =
    (◌≡◌ {A = List ℕ} (event_words nothing) (0 ∷ 0 ∷ 0 ∷ 0 ∷ 0 ∷ 0 ∷ 0 ∷ []))
    × ((end : ℕ) (time : ℤ) (reply : Bool) → event_words (keep_alive end time reply) ≡ 1 ∷ end ∷ twos time ∷ flag reply ∷ 0 ∷ 0 ∷ 0 ∷ [])
    × ((final : ℕ) (time : ℤ) (xid : ℕ) → event_words (begin final time xid) ≡ 2 ∷ final ∷ twos time ∷ xid ∷ 0 ∷ 0 ∷ 0 ∷ [])
    × ((position end : ℕ) (time : ℤ) → event_words (commit position end time) ≡ 3 ∷ position ∷ end ∷ twos time ∷ 0 ∷ 0 ∷ 0 ∷ [])
    × ((flagged : Bool) (position pf pl cf cl : ℕ)
    → event_words (message flagged position pf pl cf cl) ≡ 4 ∷ flag flagged ∷ position ∷ pf ∷ pl ∷ cf ∷ cl ∷ [])
    × ((start end : ℕ) (time : ℤ) (from len : ℕ) → event_words (xlog_data start end time from len) ≡ 5 ∷ start ∷ end ∷ twos time ∷ from ∷ len ∷ 0 ∷ [])
    × ((reached : ℕ) → event_words (stopped_at reached) ≡ 6 ∷ reached ∷ 0 ∷ 0 ∷ 0 ∷ 0 ∷ 0 ∷ [])

-- the event of seven words, which an offer has; every other kind is none
abbrev pub OfferedWords : Type 0
OfferedWords =
    (a b c d e f : ℕ)
    → (event_of 1 a b c d e f ≡ KeepAlive (lsn a) (int 8 b) (is_set c))
    × (event_of 2 a b c d e f ≡ Begin (lsn a) (int 8 b) (c % 4294967296))
    × (event_of 3 a b c d e f ≡ Commit (lsn a) (lsn b) (int 8 c))
    × (event_of 4 a b c d e f ≡ Message (is_set a) (lsn b) c d e f)
    × (event_of 5 a b c d e f ≡ XLogData (lsn a) (lsn b) (int 8 c) d e)
    × (event_of 6 a b c d e f ≡ StoppedAt (lsn a))
    × (event_of 0 a b c d e f ≡ Nothing)
    × ((kind : ℕ) → 7 ≤ kind → event_of kind a b c d e f ≡ Nothing)

-- ---- a step's answer: refusal, taken, written, whether a wait is told, the wait, and the seven words of the event

abbrev pub AnswerWords : Type 0
AnswerWords =
    (refusal taken written wait : ℕ) (e : Said)
    → (answer_words refusal taken written (some wait) e ≡ refusal ∷ taken ∷ written ∷ 1 ∷ wait ∷ event_words e)
    × (answer_words refusal taken written none e ≡ refusal ∷ taken ∷ written ∷ 0 ∷ 0 ∷ event_words e)

-- ---- views

-- events handed on, statuses, replies, stalls, microseconds of stalls, position last confirmed, the server's end last told
abbrev pub MetricsWords : Type 0
MetricsWords =
    (w0 w1 w2 w3 w4 w5 w6 : ℕ)
    → metrics_words
    (record {
      events_forwarded = w0;
      feedback_sent = w1;
      keepalive_replies = w2;
      stall_count = w3;
      stall_micros_total = w4;
      last_applied_lsn = lsn w5;
      last_wal_end = lsn w6;
    })
    ≡ w0 ∷ w1 ∷ w2 ∷ w3 ∷ w4 ∷ w5 ∷ w6 ∷ []

-- whether a status was sent, the position that it confirmed, its moment
abbrev pub StatusWords : Type 0
StatusWords = (sent : Bool) (position at : ℕ) → last_status_words (last_status sent (lsn position) (moment at)) ≡ flag sent ∷ position ∷ at ∷ []

-- ---- a reader of messages: five bytes of a header, how many bytes came, the payload's length, whether a message over the limit was met

abbrev pub ReaderWords : Type 0
ReaderWords =
    ((w0 w1 w2 w3 w4 w5 w6 w7 : ℕ)
    → reader_of (w0 ∷ w1 ∷ w2 ∷ w3 ∷ w4 ∷ w5 ∷ w6 ∷ w7 ∷ [])
    ≡ record {
      header = w0 % 256 ∷ w1 % 256 ∷ w2 % 256 ∷ w3 % 256 ∷ w4 % 256 ∷ [];
      filled = w5;
      payload_len = w6;
      refused = is_set w7;
    })
    × ((w0 w1 w2 w3 w4 w5 w6 : ℕ) (w7 : Bool)
    → reader_words (record { header = w0 ∷ w1 ∷ w2 ∷ w3 ∷ w4 ∷ []; filled = w5; payload_len = w6; refused = w7 })
    ≡ w0 ∷ w1 ∷ w2 ∷ w3 ∷ w4 ∷ w5 ∷ w6 ∷ flag w7 ∷ [])
    × (reader_of (0 ∷ 0 ∷ 0 ∷ 0 ∷ 0 ∷ 0 ∷ 0 ∷ 0 ∷ []) ≡ fresh)

-- ---- a run. Its files are the words 19, 48, 49 and 50, the server's end of its page is word 51. The words from 52 on are ignored; they are 0 in
-- what is written

-- the settings, the reader and the counters in it
abbrev pub settings : ℕ → ℕ → ℕ → Bool → ℕ → Bool → Bool → Settings
settings a b c d e f g =
    record {
      status_interval = a;
      idle_wakeup_interval = b;
      max_message_size = c;
      has_stop = d;
      stop_at_lsn = lsn e;
      timing = f;
      binary = g;
    }

abbrev pub reader : ℕ → ℕ → ℕ → ℕ → ℕ → ℕ → ℕ → Bool → MessageReader
reader a b c d e filled len refused =
    record { header = a ∷ b ∷ c ∷ d ∷ e ∷ []; filled = filled; payload_len = len; refused = refused }

abbrev pub metrics : ℕ → ℕ → ℕ → ℕ → ℕ → ℕ → ℕ → Metrics
metrics a b c d e f g =
    record {
      events_forwarded = a;
      feedback_sent = b;
      keepalive_replies = c;
      stall_count = d;
      stall_micros_total = e;
      last_applied_lsn = lsn f;
      last_wal_end = lsn g;
    }

-- the run that words stand for
abbrev pub RunWords : Type 0
RunWords =
    (w0 w1 w2 w3 w4 w5 w6 w7 w8 w9 w10 w11 w12 w13 w14 w15 w16 w17 w18 w19 w20 w21 w22 w23 w24 w25 w26 w27 w28 w29 w30 w31 w32 w33 w34 w35
    w36 w37 w38 w39 w40 w41 w42 w43 w44 w45 w46 w47 w48 w49 w50 w51 : ℕ) (rest : List ℕ)
    → run_of (w0 ∷ w1 ∷ w2 ∷ w3 ∷ w4 ∷ w5 ∷ w6 ∷ w7 ∷ w8 ∷ w9 ∷ w10 ∷ w11 ∷ w12 ∷ w13 ∷ w14 ∷ w15 ∷ w16 ∷ w17 ∷ w18 ∷ w19 ∷ w20 ∷ w21 ∷ w22
    ∷ w23 ∷ w24 ∷ w25 ∷ w26 ∷ w27 ∷ w28 ∷ w29 ∷ w30 ∷ w31 ∷ w32 ∷ w33 ∷ w34 ∷ w35 ∷ w36 ∷ w37 ∷ w38 ∷ w39 ∷ w40 ∷ w41 ∷ w42 ∷ w43 ∷ w44
    ∷ w45 ∷ w46 ∷ w47 ∷ w48 ∷ w49 ∷ w50 ∷ w51 ∷ rest) ≡
    run (settings w0 w1 w2 (is_set w3) w4 (is_set w5) (is_set w6)) (state_of w7)
    (reader (w8 % 256) (w9 % 256) (w10 % 256) (w11 % 256) (w12 % 256) w13 w14 (is_set w15))
    (clock (moment w16) (moment w17) (moment w18))
    (progress (files (lsn w19) (lsn w48) (lsn w49) (lsn w50)) (is_set w20) (moment w21) (is_set w22))
    (last_status (is_set w23) (lsn w24) (moment w25))
    w26 (is_set w27)
    (whole_of (w28 % 256) w29 (is_set w30))
    (offer (event_of w31 w32 w33 w34 w35 w36 w37) (is_set w38) (is_set w39) (lsn w40))
    (metrics w41 w42 w43 w44 w45 w46 w47) (lsn w51)

-- the words of a run, whatever event it offers
abbrev pub WordsRun : Type 0
WordsRun =
    (w0 w1 w2 : ℕ) (w3 : Bool) (w4 : ℕ) (w5 w6 : Bool) (state : State) (w8 w9 w10 w11 w12 w13 w14 : ℕ) (w15 : Bool)
    (w16 w17 w18 w19 : ℕ) (w20 : Bool) (w21 : ℕ) (w22 w23 : Bool) (w24 w25 w26 : ℕ) (w27 : Bool) (w28 w29 : ℕ) (w30 : Bool)
    (e : Event) (w38 w39 : Bool) (w40 w41 w42 w43 w44 w45 w46 w47 w48 w49 w50 w51 : ℕ)
    → words_of
    (run (settings w0 w1 w2 w3 w4 w5 w6) state (reader w8 w9 w10 w11 w12 w13 w14 w15)
    (clock (moment w16) (moment w17) (moment w18)) (progress (files (lsn w19) (lsn w48) (lsn w49) (lsn w50)) w20 (moment w21) w22)
    (last_status w23 (lsn w24) (moment w25)) w26 w27 (whole_of w28 w29 w30) (offer e w38 w39 (lsn w40)) (metrics w41 w42 w43 w44 w45 w46 w47) (lsn w51))
    ≡ w0 ∷ w1 ∷ w2 ∷ flag w3 ∷ w4 ∷ flag w5 ∷ flag w6 ∷ state_number state ∷ w8 ∷ w9 ∷ w10 ∷ w11 ∷ w12 ∷ w13 ∷ w14 ∷ flag w15 ∷ w16 ∷ w17
    ∷ w18 ∷ w19 ∷ flag w20 ∷ w21 ∷ flag w22 ∷ flag w23 ∷ w24 ∷ w25 ∷ w26 ∷ flag w27 ∷ w28 ∷ w29 ∷ flag w30
    ∷ (event_words (said_by e)
    ++ (flag w38 ∷ flag w39 ∷ w40 ∷ w41 ∷ w42 ∷ w43 ∷ w44 ∷ w45 ∷ w46 ∷ w47
    ∷ w48 ∷ w49 ∷ w50 ∷ w51 ∷ 0 ∷ 0 ∷ 0 ∷ 0 ∷ 0 ∷ 0 ∷ 0 ∷ 0 ∷ 0 ∷ 0 ∷ 0 ∷ 0 ∷ []))
