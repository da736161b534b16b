-- The events of a run as touched files take them have what specs/TouchedEvents.antt says.
use mathlib.Core.Path.{◌≡◌, refl, sym, ap, ◌∙◌}
use mathlib.Core.Bool.{true}
use mathlib.Core.List.{List, [], ◌∷◌, ◌++◌}
use mathlib.Core.Option.{none}
use Prim.Native.Nat.{ℕ, zero, suc, ◌-◌, min}
use native.Mathlib.Nat.{zero-min, min-zero, suc-min-suc}
use lib.ListN.{length, take, drop, length-drop}
use lib.Pow.{are_bytes}
use Rattle.wire.specs.Bytes.{at, be, be_from}
use Rattle.wire.specs.Field.{field_at, signed}
use Rattle.wire.specs.Find.{index_of}
use Rattle.wire.proofs.Laws.{impossible}
use Rattle.rows.specs.Layout.{count_at, bytes_at, times_at, read_at}
use Rattle.rows.specs.Rows.{row_said}
use Rattle.rows.proofs.Padded.{bytes_front, bytes_behind}
use Rattle.worker.specs.declared.Event.{Event}
use Rattle.worker.specs.declared.Event.TheVariants as E
use Rattle.touched.specs.Touched.{entries_of, Told, brings, paired, has_no_file, file_of, is_among, after_of}
use Rattle.touched.specs.Exact.{Reaches}
use Rattle.touched.specs.Exact as T
use Rattle.touched.specs.Bits.{bits_of}
use Rattle.touched.specs.Walk.{walk_of}
use Rattle.touched.specs.Words.{told_by}
use Rattle.touched.specs.Words as W
use Rattle.touched.proofs.Exact.{call_laws, touched_laws}
use Rattle.touched.proofs.Walk.{left_is_the_walk}
use Rattle.touched.proofs.WordLaws.{bits_are_the_walk}
use Rattle.thm_word_meaning.specs.TouchedEvents.{tells_of, AnswerTells, EventLaws, Call, told_in, CallsAreTheWalk, handed_in, all_handed_in, BitsOfEvents}
use Rattle.thm_word_meaning.specs.TouchedEvents.{IsBegin, NoBegin, Buffers}
use Rattle.thm_word_meaning.specs.TouchedEvents.{TouchedSince, TouchedByEvents, EventCases}

-- ---- a part that is named outside the buffer

drop_min : (i : ℕ) (l : List ℕ) → drop (min i (length l)) l ≡ drop i l
drop_min zero l = rw zero-min
drop_min (suc i) [] = rw min-zero
drop_min (suc i) (x ∷ l) = rw suc-min-suc (drop_min i l)

take_min : (n : ℕ) (l : List ℕ) → take (min n (length l)) l ≡ take n l
take_min zero l = rw zero-min
take_min (suc n) [] = rw min-zero
take_min (suc n) (x ∷ l) = rw suc-min-suc (ap (λ (r : List ℕ). x ∷ r) (take_min n l))

part_clipped : (p : List ℕ) (from len : ℕ) → at p (min from (length p)) (min len (length p - min from (length p))) ≡ at p from len
part_clipped p from len =
    let d : drop (min from (length p)) p ≡ drop from p = drop_min from p in
    let n : length p - min from (length p) ≡ length (drop from p) = sym (length-drop (min from (length p)) p) ∙ ap length d in
    rw (d, n) (take_min len (drop from p))

-- ---- one event

pub answer_tells : AnswerTells
unfolding told_by
answer_tells refusal taken written waited E.Nothing p s h = refl
answer_tells refusal taken written waited (E.KeepAlive end time reply) p s h = refl
answer_tells refusal taken written waited (E.Begin final time xid) p s h = refl
answer_tells refusal taken written waited (E.Commit position end time) p s h = refl
answer_tells refusal taken written waited (E.Message flag position pf pl cf cl) p s h = refl
answer_tells refusal taken written waited (E.XLogData start end time from len) p s h = ap brings (h refl ∙ part_clipped p from len)
answer_tells refusal taken written waited (E.StoppedAt reached) p s h = refl

pub event_laws : EventLaws
event_laws = record {
  begin = λ ids fs a final time xid p b. call_laws.begin ids fs a b;
  from_buffer = λ start end time from len p. refl;
  no_event = λ ids fs a p b. call_laws.leaves ids fs a b;
  keepalive = λ ids fs a end time reply p b. call_laws.leaves ids fs a b;
  commit = λ ids fs a position end time p b. call_laws.leaves ids fs a b;
  message = λ ids fs a flag position pf pl cf cl p b. call_laws.leaves ids fs a b;
  stopped = λ ids fs a reached p b. call_laws.leaves ids fs a b;
}

-- ---- any list of events

pub calls_are_the_walk : CallsAreTheWalk
calls_are_the_walk ids fs cs h = left_is_the_walk (entries_of ids fs) (told_in cs) h

-- what is handed in tells what the events tell
handed_tells : (cs : List Call) → W.told_in (all_handed_in cs) ≡ told_in cs
unfolding W.told_in all_handed_in told_in
handed_tells [] = refl
handed_tells (c ∷ cs) =
    let e : told_by (handed_in c).0 (handed_in c).1 ≡ tells_of c.0 c.1 = answer_tells 0 0 0 none c.0 c.1 (handed_in c).1 (λ h. refl) in
    ap (λ (t : Told). t ∷ W.told_in (all_handed_in cs)) e ∙ ap (λ (ts : List Told). tells_of c.0 c.1 ∷ ts) (handed_tells cs)

pub bits_of_events : BitsOfEvents
bits_of_events ids fs cs h =
    bits_are_the_walk ids fs (all_handed_in cs) h ∙ ap (λ (ts : List Told). bits_of (walk_of (entries_of ids fs) ts)) (handed_tells cs)

-- what the calls told, apart
record Apart (cs : List Call) (x : List Told) (t : Told) (y : List Told) : Type 0 where
  front : List Call
  call : Call
  back : List Call
  there : cs ≡ front ++ (call ∷ back)
  tells : tells_of call.0 call.1 ≡ t
  later : told_in back ≡ y

apart : (cs : List Call) (x : List Told) (t : Told) (y : List Told) → told_in cs ≡ x ++ (t ∷ y) → Apart cs x t y
unfolding told_in
apart [] [] t y e = impossible cc
apart [] (u ∷ x) t y e = impossible cc
apart (c ∷ cs) [] t y e =
    let o : tells_of c.0 c.1 ∷ told_in cs ≡ t ∷ y = e in
    record { front = []; call = c; back = cs; there = refl; tells = cc; later = cc }
apart (c ∷ cs) (u ∷ x) t y e =
    let o : tells_of c.0 c.1 ∷ told_in cs ≡ u ∷ (x ++ (t ∷ y)) = e in
    let w = apart cs x t y (cc) in
    record {
      front = c ∷ w.front;
      call = w.call;
      back = w.back;
      there = ap (λ (l : List Call). c ∷ l) w.there;
      tells = w.tells;
      later = w.later;
    }

told_append : (cs ds : List Call) → told_in (cs ++ ds) ≡ told_in cs ++ told_in ds
unfolding told_in
told_append [] ds = refl
told_append (c ∷ cs) ds = ap (λ (l : List Told). tells_of c.0 c.1 ∷ l) (told_append cs ds)

-- a Begin is told, and nothing else is told as one
begin_told : (e : Event) (p : List ℕ) → IsBegin e → T.IsBegin (tells_of e p)
begin_told E.Nothing p h = h
begin_told (E.KeepAlive end time reply) p h = h
begin_told (E.Begin final time xid) p h = h
begin_told (E.Commit position end time) p h = h
begin_told (E.Message flag position pf pl cf cl) p h = h
begin_told (E.XLogData start end time from len) p h = h
begin_told (E.StoppedAt reached) p h = h

told_begin : (e : Event) (p : List ℕ) → T.IsBegin (tells_of e p) → IsBegin e
told_begin E.Nothing p h = h
told_begin (E.KeepAlive end time reply) p h = h
told_begin (E.Begin final time xid) p h = h
told_begin (E.Commit position end time) p h = h
told_begin (E.Message flag position pf pl cf cl) p h = h
told_begin (E.XLogData start end time from len) p h = h
told_begin (E.StoppedAt reached) p h = h

none_told : (cs : List Call) → NoBegin cs → T.NoBegin (told_in cs)
unfolding told_in
none_told [] h = tt
none_told (c ∷ cs) h = ((λ k. h.0 (told_begin c.0 c.1 k)), none_told cs h.1)

told_none : (cs : List Call) → T.NoBegin (told_in cs) → NoBegin cs
unfolding told_in
told_none [] h = tt
told_none (c ∷ cs) h = ((λ k. h.0 (begin_told c.0 c.1 k)), told_none cs h.1)

-- data of a buffer of bytes are bytes
bytes_told : (e : Event) (p : List ℕ) → are_bytes p ≡ true → T.HasBytes (tells_of e p)
bytes_told E.Nothing p h = tt
bytes_told (E.KeepAlive end time reply) p h = tt
bytes_told (E.Begin final time xid) p h = tt
bytes_told (E.Commit position end time) p h = tt
bytes_told (E.Message flag position pf pl cf cl) p h = tt
bytes_told (E.XLogData start end time from len) p h = bytes_front len (drop from p) (bytes_behind from p h)
bytes_told (E.StoppedAt reached) p h = tt

all_bytes : (cs : List Call) → Buffers cs → T.AllBytes (told_in cs)
unfolding told_in
all_bytes [] h = tt
all_bytes (c ∷ cs) h = (bytes_told c.0 c.1 h.0, all_bytes cs h.1)

-- the event that brings data
since_by : (ids fs : List ℕ) (f : ℕ) (cs front back : List Call) (e : Event) (p s : List ℕ) → cs ≡ front ++ ((e, p) ∷ back) → tells_of e p ≡ brings s
    → NoBegin back → Reaches ids fs s f → TouchedSince ids fs f cs
since_by ids fs f cs front back E.Nothing p s c t n r = impossible cc
since_by ids fs f cs front back (E.KeepAlive end time reply) p s c t n r = impossible cc
since_by ids fs f cs front back (E.Begin final time xid) p s c t n r = impossible cc
since_by ids fs f cs front back (E.Commit position end time) p s c t n r = impossible cc
since_by ids fs f cs front back (E.Message flag position pf pl cf cl) p s c t n r = impossible cc
since_by ids fs f cs front back (E.XLogData start end time from len) p s c t n r =
    let q : s ≡ at p from len = cc in
    record {
      earlier = front;
      later = back;
      start = start;
      end = end;
      time = time;
      from = from;
      len = len;
      payload = p;
      there = c;
      since = n;
      reaches = rw q at r;
    }
since_by ids fs f cs front back (E.StoppedAt reached) p s c t n r = impossible cc

-- what was told of the events that touch a file
since_told : (ids fs : List ℕ) (f : ℕ) (cs : List Call) → TouchedSince ids fs f cs → T.TouchedSince ids fs f (told_in cs)
unfolding told_in
since_told ids fs f cs w =
    record {
      earlier = told_in w.earlier;
      brought = at w.payload w.from w.len;
      later = told_in w.later;
      there =
          ap told_in w.there
          ∙ told_append w.earlier ((E.XLogData w.start w.end w.time w.from w.len, w.payload) ∷ w.later);
      since = none_told w.later w.since;
      reaches = w.reaches;
    }

told_since : (ids fs : List ℕ) (f : ℕ) (cs : List Call) → T.TouchedSince ids fs f (told_in cs) → TouchedSince ids fs f cs
told_since ids fs f cs m =
    let w = apart cs m.earlier (brings m.brought) m.later m.there in
    since_by ids fs f cs w.front w.back w.call.0 w.call.1 m.brought w.there w.tells
    (told_none w.back (rw (← w.later) at m.since)) m.reaches

pub touched_by_events : TouchedByEvents
touched_by_events = record {
  touched = λ ids fs a cs f w. touched_laws.touched ids fs a (told_in cs) f (since_told ids fs f cs w);
  no_other = λ ids fs a cs bs f h. told_since ids fs f cs (touched_laws.no_other ids fs a (told_in cs) (all_bytes cs bs) f h);
}

-- ---- each event, computed

pub event_cases : EventCases
unfolding be be_from field_at signed index_of count_at bytes_at times_at read_at row_said paired has_no_file file_of is_among after_of
event_cases =
    record {
      no_event = refl;
      a_keepalive = refl;
      a_begin = refl;
      a_commit = refl;
      a_message = refl;
      other_data = refl;
      one_byte_less = refl;
      stopped = refl;
      too_long = refl;
      outside = refl;
    }
