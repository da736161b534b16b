-- The words of a run stand for that run: what is stored is what is read back.
use mathlib.Core.Path.{◌≡◌, refl, ap, ◌∙◌}
use mathlib.Core.Bool.{Bool, true, false}
use mathlib.Core.List.{List, [], ◌∷◌}
use Prim.Native.Nat.{ℕ, zero, suc, ◌<◌, ◌%◌, ◌^◌}
use native.Mathlib.Omega.{arith}
use lib.ListN.{length, get_or}
use Rattle.wire.specs.Bytes.{flag_word}
use Rattle.wire.specs.Int.{half}
use Rattle.wire.proofs.FieldLaws.{signed_unsigned}
use Rattle.framing.specs.declared.MessageReader.{MessageReader}
use Rattle.lsn.specs.declared.Lsn.{Lsn}
use Rattle.metrics.specs.declared.Metrics.{Metrics}
use Rattle.progress.specs.declared.files.Progress.{Progress}
use Rattle.progress.specs.Files as F
use Rattle.worker.specs.declared.Clock.{Clock}
use Rattle.worker.specs.declared.Event.{Event}
use Rattle.worker.specs.declared.Event.TheVariants.{Nothing, KeepAlive, Begin, Commit, Message, XLogData, StoppedAt}
use Rattle.worker.specs.declared.LastStatus.{LastStatus}
use Rattle.worker.specs.declared.Offer.{Offer}
use Rattle.worker.specs.declared.Settings.{Settings}
use Rattle.worker.specs.declared.State.{State}
use Rattle.worker.specs.declared.State.TheVariants.{Opening, Turn, Drain, Reading, Waiting, Handling, Offering, Ended}
use Rattle.worker.specs.declared.Whole.{Whole}
use Rattle.worker.specs.Events.{said_by}
use Rattle.worker.specs.Run.{state_number, last_status, whole_of, offer, run}
use Rattle.ffi_words.specs.Words.{flag_of, byte_of, state_of, event_of, event_with_parts, event_words, settings_of, settings_words, EventFits, CellRoundTrip, ReaderRoundTrip, RoundTrip}

flag_back : (b : Bool) → flag_of (flag_word b) ≡ b
flag_back true = refl
flag_back false = refl

byte_back : (a : ℕ) → a < 256 → byte_of a ≡ a
byte_back a h = omega arith

xid_back : (a : ℕ) → a < 2 ^ 32 → a % 2 ^ 32 ≡ a
xid_back a h = omega arith

state_back : (s : State) → state_of (state_number s) ≡ s
unfolding state_of
state_back Opening = refl
state_back Turn = refl
state_back Drain = refl
state_back Reading = refl
state_back Waiting = refl
state_back Handling = refl
state_back Offering = refl
state_back Ended = refl

-- the event of seven words
abbrev event_at : List ℕ → Event
event_at w = event_of (get_or w 0 0) (get_or w 1 0) (get_or w 2 0) (get_or w 3 0) (get_or w 4 0) (get_or w 5 0) (get_or w 6 0)

event_back : (e : Event) → EventFits e → event_at (event_words (said_by e)) ≡ e
unfolding event_of event_with_parts
event_back Nothing h = refl
event_back (KeepAlive end time reply) h = rw (signed_unsigned (half 8) time h, flag_back reply)
event_back (Begin final time xid) h = rw (signed_unsigned (half 8) time h.0, xid_back xid h.1)
event_back (Commit position end time) h = rw (signed_unsigned (half 8) time h)
event_back (Message flag position pf pl cf cl) h = rw (flag_back flag)
event_back (XLogData start end time from len) h = rw (signed_unsigned (half 8) time h)
event_back (StoppedAt reached) h = refl

abbrev bytes_of : List ℕ → List ℕ
bytes_of l = byte_of (get_or l 0 0) ∷ byte_of (get_or l 1 0) ∷ byte_of (get_or l 2 0) ∷ byte_of (get_or l 3 0) ∷ byte_of (get_or l 4 0) ∷ []

header_back : (l : List ℕ) → length l ≡ 5 → ((k : ℕ) → k < 5 → get_or l k 0 < 256) → bytes_of l ≡ l
header_back [] h g = absurd (omega (arith, h))
header_back (a ∷ []) h g = absurd (omega (arith, h))
header_back (a ∷ b ∷ []) h g = absurd (omega (arith, h))
header_back (a ∷ b ∷ c ∷ []) h g = absurd (omega (arith, h))
header_back (a ∷ b ∷ c ∷ d ∷ []) h g = absurd (omega (arith, h))
header_back (a ∷ b ∷ c ∷ d ∷ e ∷ []) h g = simp (byte_back a (g 0 (omega arith)), byte_back b (g 1 (omega arith)), byte_back c (g 2 (omega arith)), byte_back d (g 3 (omega arith)), byte_back e (g 4 (omega arith)))
header_back (a ∷ b ∷ c ∷ d ∷ e ∷ f ∷ l) h g = absurd (omega (arith, h))

-- ---- the parts

settings_back : (s : Settings) → settings_of (settings_words s) ≡ s
settings_back s = rw (flag_back s.has_stop, flag_back s.timing, flag_back s.binary)

abbrev reader : List ℕ → Bool → MessageReader → MessageReader
reader header refused x = record { header = header; filled = x.filled; payload_len = x.payload_len; refused = refused }

pub reader_back : ReaderRoundTrip
reader_back x h =
    ap (λ (l : List ℕ). reader l (flag_of (flag_word x.refused)) x) (header_back x.header h.0 h.1)
    ∙ ap (λ (b : Bool). reader x.header b x) (flag_back x.refused)

pub cell_back : CellRoundTrip
cell_back p = rw (flag_back p.signalled, flag_back p.timed)

progress_back : (p : Progress) → F.progress p.files (flag_of (flag_word p.signalled)) p.pending_since (flag_of (flag_word p.timed)) ≡ p
progress_back p = rw (flag_back p.signalled, flag_back p.timed)

status_back : (s : LastStatus) → last_status (flag_of (flag_word s.sent)) s.position s.at ≡ s
status_back s = rw (flag_back s.sent)

whole_back : (w : Whole) → w.tag < 256 → whole_of (byte_of w.tag) w.len (flag_of (flag_word w.in_wait)) ≡ w
whole_back w h = rw (byte_back w.tag h, flag_back w.in_wait)

offer_back : (o : Offer) → EventFits o.event
    → offer (event_at (event_words (said_by o.event))) (flag_of (flag_word o.stalled)) (flag_of (flag_word o.stops)) o.reached ≡ o
offer_back o h = rw (event_back o.event h, flag_back o.stalled, flag_back o.stops)

-- a run with its parts replaced by equal ones
pub run_by : {s s' : Settings} {t t' : State} {x x' : MessageReader} {c c' : Clock} {p p' : Progress} {l l' : LastStatus} {d : ℕ} {b b' : Bool}
    {w w' : Whole} {o o' : Offer} {m m' : Metrics} {v : Lsn}
    → s ≡ s' → t ≡ t' → x ≡ x' → c ≡ c' → p ≡ p' → l ≡ l' → b ≡ b' → w ≡ w' → o ≡ o' → m ≡ m'
    → run s t x c p l d b w o m v ≡ run s' t' x' c' p' l' d b' w' o' m' v
run_by es et ex ec ep el eb ew eo em = rw (es, et, ex, ec, ep, el, eb, ew, eo, em)

pub round_trip : RoundTrip
round_trip r f =
    run_by (settings_back r.settings) (state_back r.state) (reader_back r.reader f.header) refl (progress_back r.progress)
    (status_back r.status) (flag_back r.pending) (whole_back r.whole f.tag) (offer_back r.offer f.event) refl

-- five facts for one
pub five_bytes : (l : List ℕ) → get_or l 0 0 < 256 → get_or l 1 0 < 256 → get_or l 2 0 < 256 → get_or l 3 0 < 256 → get_or l 4 0 < 256
    → (k : ℕ) → k < 5 → get_or l k 0 < 256
five_bytes l a b c d e zero h = a
five_bytes l a b c d e (suc zero) h = b
five_bytes l a b c d e (suc (suc zero)) h = c
five_bytes l a b c d e (suc (suc (suc zero))) h = d
five_bytes l a b c d e (suc (suc (suc (suc zero)))) h = e
five_bytes l a b c d e (suc (suc (suc (suc (suc k))))) h = absurd (omega (arith, h))
