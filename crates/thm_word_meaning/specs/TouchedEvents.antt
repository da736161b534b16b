-- Touched files by the events of a run: what each event tells with the payload buffer of its step, and which files any list of events leaves. SCOPE
-- 18, 9.7; 02, wish 10.
use Rattle.std.specs.Prelude.{◌≡◌, Bool, true, false, List, [], ◌∷◌, ◌++◌, ℕ, ℤ, pos, length}
use Rattle.std.proofs.Math.Option.{Option, none}
use Rattle.std.proofs.Math.Pow.{are_bytes}
use Rattle.wire.specs.Bytes.{at}
use Rattle.lsn.specs.declared.Lsn.{Lsn}
use Rattle.worker.specs.declared.Event.{Event}
use Rattle.worker.specs.declared.Event.TheVariants as E
use Rattle.worker.specs.Events.{said_by}
use Rattle.worker.specs.Run.{lsn}
use Rattle.ffi_words.specs.Step.{answer_words, clipped}
use Rattle.touched.specs.declared.Files.{Files}
use Rattle.touched.specs.Touched.{entries_of, has_no_file, files, clear, Told, begins, brings, nothing, after_of}
use Rattle.touched.specs.Walk.{walk_of, left_by}
use Rattle.touched.specs.Exact.{Has, none_touched, AllFiles, Reaches}
use Rattle.touched.specs.TouchedCases.{an_insert, a_list}
use Rattle.touched.specs.Bits.{bits_of}
use Rattle.touched.specs.Words.{told_by, bits_left}
use Rattle.thm_host_calls.specs.HostWords.{word}

-- ---- one event

-- what an event of a run tells, with the payload buffer of its step. A part that is named outside the buffer is taken as far as the buffer has it
abbrev pub tells_of : Event → List ℕ → Told
tells_of E.Nothing p = nothing
tells_of (E.KeepAlive end time reply) p = nothing
tells_of (E.Begin final time xid) p = begins
tells_of (E.Commit position end time) p = nothing
tells_of (E.Message flag position pf pl cf cl) p = nothing
tells_of (E.XLogData start end time from len) p = brings (at p from len)
tells_of (E.StoppedAt reached) p = nothing

-- the words of an answer: word 5 is the event's kind, 9 and 10 are the place and the length of its data. The kind tells what the event tells, with
-- the bytes at that place of the payload buffer where the kind is that of data, and with any bytes else
abbrev pub AnswerTells : Type 0
AnswerTells =
    (refusal taken written : ℕ) (waited : Option ℕ) (e : Event) (p s : List ℕ)
    → let w : List ℕ = answer_words refusal taken written waited (clipped (length p) (said_by e)) in
    (word w 5 ≡ 5 → s ≡ at p (word w 9) (word w 10)) → told_by (word w 5) s ≡ tells_of e p

-- what each event does, with any lists whose files are 0 to 3; p is the payload buffer
pub record EventLaws : Type 0 where
  -- a Begin clears
  pub begin : (ids fs : List ℕ) → AllFiles ids fs → (final : Lsn) (time : ℤ) (xid : ℕ) (p : List ℕ) (b : Files)
      → after_of (entries_of ids fs) (tells_of (E.Begin final time xid) p) b ≡ (0, none_touched)
  -- data are told as they stand in the buffer
  pub from_buffer : (start end : Lsn) (time : ℤ) (from len : ℕ) (p : List ℕ) → tells_of (E.XLogData start end time from len) p ≡ brings (at p from len)
  -- every other event leaves the files
  pub no_event : (ids fs : List ℕ) → AllFiles ids fs → (p : List ℕ) (b : Files) → after_of (entries_of ids fs) (tells_of E.Nothing p) b ≡ (0, b)
  pub keepalive : (ids fs : List ℕ) → AllFiles ids fs → (end : Lsn) (time : ℤ) (reply : Bool) (p : List ℕ) (b : Files)
      → after_of (entries_of ids fs) (tells_of (E.KeepAlive end time reply) p) b ≡ (0, b)
  pub commit : (ids fs : List ℕ) → AllFiles ids fs → (position end : Lsn) (time : ℤ) (p : List ℕ) (b : Files)
      → after_of (entries_of ids fs) (tells_of (E.Commit position end time) p) b ≡ (0, b)
  pub message : (ids fs : List ℕ) → AllFiles ids fs → (flag : Bool) (position : Lsn) (pf pl cf cl : ℕ) (p : List ℕ) (b : Files)
      → after_of (entries_of ids fs) (tells_of (E.Message flag position pf pl cf cl) p) b ≡ (0, b)
  pub stopped : (ids fs : List ℕ) → AllFiles ids fs → (reached : Lsn) (p : List ℕ) (b : Files)
      → after_of (entries_of ids fs) (tells_of (E.StoppedAt reached) p) b ≡ (0, b)

-- ---- any list of events

-- an event of a run, and the payload buffer of its step
abbrev pub Call : Type 0
Call = Event × List ℕ

-- what each of them tells
unfoldable pub told_in : List Call → List Told
told_in [] = []
told_in (c ∷ cs) = tells_of c.0 c.1 ∷ told_in cs

-- with the same unrefused list, from clear files, over any list of events and payload buffers: the files are what a full walk finds
abbrev pub CallsAreTheWalk : Type 0
CallsAreTheWalk =
    (ids fs : List ℕ) (cs : List Call) → has_no_file (entries_of ids fs) ≡ false
    → left_by (entries_of ids fs) clear (told_in cs) ≡ walk_of (entries_of ids fs) (told_in cs)

-- what a host hands in of an event: by the words of an answer that has it the kind, and the part of the payload buffer that words 9 and 10 name
abbrev pub handed_in : Call → ℕ × List ℕ
handed_in c =
    let w : List ℕ = answer_words 0 0 0 none (clipped (length c.1) (said_by c.0)) in
    (word w 5, at c.1 (word w 9) (word w 10))

-- what each of the calls hands in
unfoldable pub all_handed_in : List Call → List (ℕ × List ℕ)
all_handed_in [] = []
all_handed_in (c ∷ cs) = handed_in c ∷ all_handed_in cs

-- the bits that the exported calls leave from 0, over any list of events and payload buffers: they are those of the full walk over the events
abbrev pub BitsOfEvents : Type 0
BitsOfEvents =
    (ids fs : List ℕ) (cs : List Call) → has_no_file (entries_of ids fs) ≡ false
    → bits_left ids fs 0 (all_handed_in cs) ≡ bits_of (walk_of (entries_of ids fs) (told_in cs))

-- an event with which a transaction begins
abbrev pub IsBegin : Event → Type 0
IsBegin E.Nothing = ⊥
IsBegin (E.KeepAlive end time reply) = ⊥
IsBegin (E.Begin final time xid) = Unit
IsBegin (E.Commit position end time) = ⊥
IsBegin (E.Message flag position pf pl cf cl) = ⊥
IsBegin (E.XLogData start end time from len) = ⊥
IsBegin (E.StoppedAt reached) = ⊥

-- none of the calls has one
abbrev pub NoBegin : List Call → Type 0
NoBegin [] = Unit
NoBegin (c ∷ cs) = (IsBegin c.0 → ⊥) × NoBegin cs

-- the payload buffers are bytes
abbrev pub Buffers : List Call → Type 0
Buffers [] = Unit
Buffers (c ∷ cs) = (are_bytes c.1 ≡ true) × Buffers cs

-- one of the calls brings data that reach file f, and no transaction begins after it
pub record TouchedSince (ids fs : List ℕ) (f : ℕ) (cs : List Call) : Type 0 where
  pub earlier : List Call
  pub later : List Call
  pub start : Lsn
  pub end : Lsn
  pub time : ℤ
  pub from : ℕ
  pub len : ℕ
  pub payload : List ℕ
  pub there : cs ≡ earlier ++ ((E.XLogData start end time from len, payload) ∷ later)
  pub since : NoBegin later
  pub reaches : Reaches ids fs (at payload from len) f

-- the files that calls leave, from none touched: those that were touched since the last Begin, and no others
pub record TouchedByEvents : Type 0 where
  pub touched : (ids fs : List ℕ) → AllFiles ids fs → (cs : List Call) (f : ℕ) → TouchedSince ids fs f cs
      → Has (left_by (entries_of ids fs) none_touched (told_in cs)) f
  pub no_other : (ids fs : List ℕ) → AllFiles ids fs → (cs : List Call) → Buffers cs → (f : ℕ)
      → Has (left_by (entries_of ids fs) none_touched (told_in cs)) f → TouchedSince ids fs f cs

-- ---- every event literally, after which files 1 and 3 were touched

abbrev pub some : Files
some = files false true false true

-- two bytes and an Insert, as a payload buffer
abbrev pub a_payload : List ℕ
a_payload = 0xFF ∷ 0xFF ∷ an_insert

pub record EventCases : Type 0 where
  pub no_event : after_of a_list (tells_of E.Nothing a_payload) some ≡ (0, some)
  pub a_keepalive : after_of a_list (tells_of (E.KeepAlive (lsn 2) (pos 9) true) a_payload) some ≡ (0, some)
  pub a_begin : after_of a_list (tells_of (E.Begin (lsn 2) (pos 9) 3) a_payload) some ≡ (0, clear)
  pub a_commit : after_of a_list (tells_of (E.Commit (lsn 2) (lsn 9) (pos 0)) a_payload) some ≡ (0, some)
  pub a_message : after_of a_list (tells_of (E.Message true (lsn 2) 0 2 2 9) a_payload) some ≡ (0, some)
  pub other_data : after_of a_list (tells_of (E.XLogData (lsn 0) (lsn 0) (pos 0) 2 9) a_payload) some ≡ (0, files false true true true)
  pub one_byte_less : after_of a_list (tells_of (E.XLogData (lsn 0) (lsn 0) (pos 0) 2 8) a_payload) some ≡ (0, some)
  pub stopped : after_of a_list (tells_of (E.StoppedAt (lsn 2)) a_payload) some ≡ (0, some)
  -- a part that is named outside the payload buffer is taken as far as the buffer has it
  pub too_long : after_of a_list (tells_of (E.XLogData (lsn 0) (lsn 0) (pos 0) 2 1000) a_payload) some ≡ (0, files false true true true)
  pub outside : after_of a_list (tells_of (E.XLogData (lsn 0) (lsn 0) (pos 0) 1000 9) a_payload) some ≡ (0, some)
