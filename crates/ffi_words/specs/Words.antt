-- A run as 64 words of 64 bits, and the run that any words stand for. Both are total: no words are refused. SCOPE 9.1, 5.11. Crate `thm_word_meaning`
-- says which word is which.
use Rattle.std.specs.Prelude.{ℕ, ◌<◌, ◌%◌, ◌^◌, Bool, true, false, List, [], ◌∷◌, ◌++◌, ◌≡◌, length, get_or, eqb}
use Rattle.std.specs.Int.Signed.{mag}
use Rattle.wire.specs.Bytes.{pick, flag_word}
use Rattle.wire.specs.Int.{half, int, value}
use Rattle.framing.specs.declared.MessageReader.{MessageReader}
use Rattle.metrics.specs.declared.Metrics.{Metrics}
use Rattle.moment.specs.declared.Moment.{Moment}
use Rattle.progress.specs.declared.ProgressCell.{ProgressCell}
use Rattle.progress.specs.declared.files.Files.{Files}
use Rattle.progress.specs.declared.files.Progress.{Progress}
use Rattle.progress.specs.Progress.{cell, cell_position, cell_signal, cell_pending, cell_timing}
use Rattle.progress.specs.Files.{files}
use Rattle.progress.specs.Files as F
use Rattle.worker.specs.declared.Settings.{Settings}
use Rattle.worker.specs.declared.State.{State}
use Rattle.worker.specs.declared.State.TheVariants.{Opening, Turn, Drain, Reading, Waiting, Handling, Offering, Ended}
use Rattle.worker.specs.declared.Event.{Event}
use Rattle.worker.specs.declared.Event.TheVariants.{Nothing, KeepAlive, Begin, Commit, Message, XLogData, StoppedAt}
use Rattle.worker.specs.declared.Clock.{Clock}
use Rattle.worker.specs.declared.LastStatus.{LastStatus}
use Rattle.worker.specs.declared.Whole.{Whole}
use Rattle.worker.specs.declared.Offer.{Offer}
use Rattle.worker.specs.declared.Run.{Run}
use Rattle.worker.specs.Events.{Said, nothing, keep_alive, begin, commit, message, xlog_data, stopped_at, said_by}
use Rattle.worker.specs.Run.{state_number, lsn, clock, last_status, whole_of, offer, run}

-- ---- one word

-- every word but 0 is true
abbrev pub flag_of : ℕ → Bool
flag_of n = pick (eqb n 0) false true

abbrev pub byte_of : ℕ → ℕ
byte_of n = n % 256

abbrev pub moment : ℕ → Moment
moment n = record { 0 = n }

-- back from a state's number; every other word is Ended
unfoldable pub state_of : ℕ → State
state_of n =
    pick (eqb n 0) Opening
    (pick (eqb n 1) Turn
    (pick (eqb n 2) Drain
    (pick (eqb n 3) Reading
    (pick (eqb n 4) Waiting
    (pick (eqb n 5) Handling
    (pick (eqb n 6) Offering
    Ended))))))

-- ---- an event: its kind and six numbers

-- every other kind is Nothing
unfoldable pub event_with_parts : ℕ → ℕ → ℕ → ℕ → ℕ → ℕ → ℕ → Event
event_with_parts kind a b c d e f =
    pick (eqb kind 4) (Message (flag_of a) (lsn b) c d e f)
    (pick (eqb kind 5) (XLogData (lsn a) (lsn b) (int 8 c) d e)
    (pick (eqb kind 6) (StoppedAt (lsn a))
    Nothing))

-- an event by its kind and six numbers; other kinds are none
unfoldable pub event_of : ℕ → ℕ → ℕ → ℕ → ℕ → ℕ → ℕ → Event
event_of kind a b c d e f =
    pick (eqb kind 1) (KeepAlive (lsn a) (int 8 b) (flag_of c))
    (pick (eqb kind 2) (Begin (lsn a) (int 8 b) (c % 2 ^ 32))
    (pick (eqb kind 3) (Commit (lsn a) (lsn b) (int 8 c))
    (event_with_parts kind a b c d e f)))

-- the words of what an event says; numbers that its kind does not have are 0
abbrev pub event_words : Said → List ℕ
event_words nothing = 0 ∷ 0 ∷ 0 ∷ 0 ∷ 0 ∷ 0 ∷ 0 ∷ []
event_words (keep_alive end time reply) = 1 ∷ end ∷ value 8 time ∷ flag_word reply ∷ 0 ∷ 0 ∷ 0 ∷ []
event_words (begin final time xid) = 2 ∷ final ∷ value 8 time ∷ xid ∷ 0 ∷ 0 ∷ 0 ∷ []
event_words (commit position end time) = 3 ∷ position ∷ end ∷ value 8 time ∷ 0 ∷ 0 ∷ 0 ∷ []
event_words (message flag position pf pl cf cl) = 4 ∷ flag_word flag ∷ position ∷ pf ∷ pl ∷ cf ∷ cl ∷ []
event_words (xlog_data start end time from len) = 5 ∷ start ∷ end ∷ value 8 time ∷ from ∷ len ∷ 0 ∷ []
event_words (stopped_at reached) = 6 ∷ reached ∷ 0 ∷ 0 ∷ 0 ∷ 0 ∷ 0 ∷ []

-- ---- the parts of a run, each from its words

-- words 0 to 6, which are also what a host hands to opening
abbrev pub settings_of : List ℕ → Settings
settings_of w =
    record {
      status_interval = get_or w 0 0;
      idle_wakeup_interval = get_or w 1 0;
      max_message_size = get_or w 2 0;
      has_stop = flag_of (get_or w 3 0);
      stop_at_lsn = lsn (get_or w 4 0);
      timing = flag_of (get_or w 5 0);
      binary = flag_of (get_or w 6 0);
    }

-- a reader of messages has eight words
abbrev pub header_bytes : List ℕ → List ℕ
header_bytes w = byte_of (get_or w 0 0) ∷ byte_of (get_or w 1 0) ∷ byte_of (get_or w 2 0) ∷ byte_of (get_or w 3 0) ∷ byte_of (get_or w 4 0) ∷ []

abbrev pub reader_of : List ℕ → MessageReader
reader_of w = record { header = header_bytes w; filled = get_or w 5 0; payload_len = get_or w 6 0; refused = flag_of (get_or w 7 0) }

-- the words of the reader among those of a run: 8 to 15
abbrev pub reader_part : List ℕ → List ℕ
reader_part w =
    get_or w 8 0 ∷ get_or w 9 0 ∷ get_or w 10 0 ∷ get_or w 11 0 ∷ get_or w 12 0 ∷ get_or w 13 0 ∷ get_or w 14 0 ∷ get_or w 15 0 ∷ []

abbrev pub clock_of : List ℕ → Clock
clock_of w = clock (moment (get_or w 16 0)) (moment (get_or w 17 0)) (moment (get_or w 18 0))

-- a progress cell has four words
abbrev pub cell_of : List ℕ → ProgressCell
cell_of w = cell (lsn (get_or w 0 0)) (flag_of (get_or w 1 0)) (moment (get_or w 2 0)) (flag_of (get_or w 3 0))

-- the progress of a run: the first file at 19, with the signal, the pending moment and timing after it; the other three files from 48 on
abbrev pub progress_of : List ℕ → Progress
progress_of w =
    F.progress (files (lsn (get_or w 19 0)) (lsn (get_or w 48 0)) (lsn (get_or w 49 0)) (lsn (get_or w 50 0))) (flag_of (get_or w 20 0))
    (moment (get_or w 21 0)) (flag_of (get_or w 22 0))

abbrev pub last_status_of : List ℕ → LastStatus
last_status_of w = last_status (flag_of (get_or w 23 0)) (lsn (get_or w 24 0)) (moment (get_or w 25 0))

abbrev pub whole_message_of : List ℕ → Whole
whole_message_of w = whole_of (byte_of (get_or w 28 0)) (get_or w 29 0) (flag_of (get_or w 30 0))

abbrev pub offer_of : List ℕ → Offer
offer_of w =
    offer (event_of (get_or w 31 0) (get_or w 32 0) (get_or w 33 0) (get_or w 34 0) (get_or w 35 0) (get_or w 36 0) (get_or w 37 0))
    (flag_of (get_or w 38 0)) (flag_of (get_or w 39 0)) (lsn (get_or w 40 0))

abbrev pub metrics_of : List ℕ → Metrics
metrics_of w =
    record {
      events_forwarded = get_or w 41 0;
      feedback_sent = get_or w 42 0;
      keepalive_replies = get_or w 43 0;
      stall_count = get_or w 44 0;
      stall_micros_total = get_or w 45 0;
      last_applied_lsn = lsn (get_or w 46 0);
      last_wal_end = lsn (get_or w 47 0);
    }

-- every list is read, whatever its words are
abbrev pub run_of : List ℕ → Run
run_of w =
    run (settings_of w) (state_of (get_or w 7 0)) (reader_of (reader_part w)) (clock_of w) (progress_of w) (last_status_of w)
    (get_or w 26 0) (flag_of (get_or w 27 0)) (whole_message_of w) (offer_of w) (metrics_of w) (lsn (get_or w 51 0))

-- ---- the words of a run

abbrev pub settings_words : Settings → List ℕ
settings_words s =
    s.status_interval ∷ s.idle_wakeup_interval ∷ s.max_message_size ∷ flag_word s.has_stop ∷ s.stop_at_lsn.0 ∷ flag_word s.timing
    ∷ flag_word s.binary ∷ []

abbrev pub header_words : List ℕ → List ℕ
header_words b = get_or b 0 0 ∷ get_or b 1 0 ∷ get_or b 2 0 ∷ get_or b 3 0 ∷ get_or b 4 0 ∷ []

abbrev pub reader_words : MessageReader → List ℕ
reader_words r = header_words r.header ++ (r.filled ∷ r.payload_len ∷ flag_word r.refused ∷ [])

abbrev pub clock_words : Clock → List ℕ
clock_words c = c.last.0 ∷ c.wait_began.0 ∷ c.stall_began.0 ∷ []

abbrev pub cell_words : ProgressCell → List ℕ
cell_words p = (cell_position p).0 ∷ flag_word (cell_signal p) ∷ (cell_pending p).0 ∷ flag_word (cell_timing p) ∷ []

-- what stands where a run's cell stood
abbrev pub progress_words : Progress → List ℕ
progress_words p = p.files.zero.0 ∷ flag_word p.signalled ∷ p.pending_since.0 ∷ flag_word p.timed ∷ []

-- the words of the other three files
abbrev pub files_words : Files → List ℕ
files_words f = f.one.0 ∷ f.two.0 ∷ f.three.0 ∷ []

abbrev pub last_status_words : LastStatus → List ℕ
last_status_words s = flag_word s.sent ∷ s.position.0 ∷ s.at.0 ∷ []

abbrev pub whole_words : Whole → List ℕ
whole_words w = w.tag ∷ w.len ∷ flag_word w.in_wait ∷ []

-- seven words of an event, one by one, so that their count is plain whatever the event is
abbrev pub seven_of : List ℕ → List ℕ
seven_of e = get_or e 0 0 ∷ get_or e 1 0 ∷ get_or e 2 0 ∷ get_or e 3 0 ∷ get_or e 4 0 ∷ get_or e 5 0 ∷ get_or e 6 0 ∷ []

abbrev pub offer_words : Offer → List ℕ
offer_words o = seven_of (event_words (said_by o.event)) ++ (flag_word o.stalled ∷ flag_word o.stops ∷ o.reached.0 ∷ [])

abbrev pub metrics_words : Metrics → List ℕ
metrics_words m =
    m.events_forwarded ∷ m.feedback_sent ∷ m.keepalive_replies ∷ m.stall_count ∷ m.stall_micros_total ∷ m.last_applied_lsn.0
    ∷ m.last_wal_end.0 ∷ []

-- twelve words that later versions may use
abbrev pub spare : List ℕ
spare = 0 ∷ 0 ∷ 0 ∷ 0 ∷ 0 ∷ 0 ∷ 0 ∷ 0 ∷ 0 ∷ 0 ∷ 0 ∷ 0 ∷ []

abbrev pub words_of : Run → List ℕ
words_of r =
    settings_words r.settings
    ++ (state_number r.state
    ∷ (reader_words r.reader
    ++ (clock_words r.clock
    ++ (progress_words r.progress
    ++ (last_status_words r.status
    ++ (r.drained
    ∷ (flag_word r.pending
    ∷ (whole_words r.whole
    ++ (offer_words r.offer
    ++ (metrics_words r.metrics
    ++ (files_words r.progress.files
    ++ (r.server.0
    ∷ spare))))))))))))

-- ---- a run whose numbers have the widths of their types, as every run of a call has; where a word has the number's whole width nothing is asked

abbrev pub HeaderFits : List ℕ → Type 0
HeaderFits h = (length h ≡ 5) × ((k : ℕ) → k < 5 → get_or h k 0 < 256)

abbrev pub EventFits : Event → Type 0
EventFits Nothing = Unit {0}
EventFits (KeepAlive end time reply) = mag time < half 8
EventFits (Begin final time xid) = (mag time < half 8) × (xid < 2 ^ 32)
EventFits (Commit position end time) = mag time < half 8
EventFits (Message flag position pf pl cf cl) = Unit {0}
EventFits (XLogData start end time from len) = mag time < half 8
EventFits (StoppedAt reached) = Unit {0}

pub record Fits (r : Run) : Type 0 where
  pub header : HeaderFits r.reader.header
  pub tag : r.whole.tag < 256
  pub event : EventFits r.offer.event

-- the words of a cell stand for it
abbrev pub CellRoundTrip : Type 0
CellRoundTrip = (c : ProgressCell) → cell_of (cell_words c) ≡ c

-- the words of a reader whose header has five bytes stand for it
abbrev pub ReaderRoundTrip : Type 0
ReaderRoundTrip = (x : MessageReader) → HeaderFits x.header → reader_of (reader_words x) ≡ x

-- the words of a run with such a reader stand for it
abbrev pub RoundTrip : Type 0
RoundTrip = (r : Run) → Fits r → run_of (words_of r) ≡ r
