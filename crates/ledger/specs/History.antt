-- What a ledger stands for: the calls that were not refused, the last one first, read by themselves. Nothing here knows a ring, a slot or a mark.
-- SCOPE 19.
use Rattle.std.specs.Prelude.{Bool, true, false, List, [], ◌∷◌, ◌++◌, ℕ, max, length, eqb, ltb, leb}
use Rattle.wire.specs.Bytes.{pick}
use Rattle.touched.specs.Touched.{has_no_file, Told, begins, brings, nothing}
use Rattle.touched.specs.Bits.{bits_of}
use Rattle.touched.specs.Walk.{walk_of}
use Rattle.ledger.specs.declared.Entry.{Entry}
use Rattle.ledger.specs.Ledger.{entry, undone_for}

-- an event that a run hands on: a keepalive's wal_end, a Commit's end, a Message's position, other data, and what tells nothing
pub data Event : Type 0 where
  keepalive : ℕ → Event
  begin : Event
  commit : ℕ → Event
  message : ℕ → Event
  other : List ℕ → Event
  stopped : Event

-- a call: a further stream, from a start; an event told; a file done up to a position, and all four
pub data Call : Type 0 where
  streams : ℕ → Call
  tells : Event → Call
  does : ℕ → ℕ → Call
  does_all : ℕ → Call

-- the calls that were not refused, the last one first
abbrev pub History : Type 0
History = List Call

-- the start of the stream; p is that of the first one
unfoldable pub start_in : ℕ → History → ℕ
start_in p [] = p
start_in p (streams q ∷ h) = q
start_in p (tells e ∷ h) = start_in p h
start_in p (does f q ∷ h) = start_in p h
start_in p (does_all q ∷ h) = start_in p h

-- 1: a transaction is open from a Begin to the next Commit; a stream begins with none
abbrev pub open_after : Event → Bool → Bool
open_after (keepalive q) o = o
open_after begin o = true
open_after (commit q) o = false
open_after (message q) o = o
open_after (other s) o = o
open_after stopped o = o

unfoldable pub open_in : History → Bool
open_in [] = false
open_in (streams q ∷ h) = false
open_in (tells e ∷ h) = open_after e (open_in h)
open_in (does f q ∷ h) = open_in h
open_in (does_all q ∷ h) = open_in h

-- 4: T, the largest end of an entry and wal_end of a keepalive while none is open, in this stream
abbrev pub seen_after : Event → Bool → ℕ → ℕ
seen_after (keepalive q) o t = pick o t (max t q)
seen_after begin o t = t
seen_after (commit q) o t = max t q
seen_after (message q) o t = pick o t (max t q)
seen_after (other s) o t = t
seen_after stopped o t = t

unfoldable pub seen_in : History → ℕ
seen_in [] = 0
seen_in (streams q ∷ h) = 0
seen_in (tells e ∷ h) = seen_after e (open_in h) (seen_in h)
seen_in (does f q ∷ h) = seen_in h
seen_in (does_all q ∷ h) = seen_in h

-- S, the larger of the start and T
unfoldable pub stable_in : ℕ → History → ℕ
stable_in p h = max (start_in p h) (seen_in h)

-- the largest end of an entry ever handed on
abbrev pub largest_after : Event → Bool → ℕ → ℕ
largest_after (keepalive q) o t = t
largest_after begin o t = t
largest_after (commit q) o t = max t q
largest_after (message q) o t = pick o t (max t q)
largest_after (other s) o t = t
largest_after stopped o t = t

unfoldable pub largest_in : History → ℕ
largest_in [] = 0
largest_in (streams q ∷ h) = largest_in h
largest_in (tells e ∷ h) = largest_after e (open_in h) (largest_in h)
largest_in (does f q ∷ h) = largest_in h
largest_in (does_all q ∷ h) = largest_in h

-- 6: D of a file, the first start at first and kept across streams
unfoldable pub done_in : ℕ → ℕ → History → ℕ
done_in p f [] = p
done_in p f (streams q ∷ h) = done_in p f h
done_in p f (tells e ∷ h) = done_in p f h
done_in p f (does g q ∷ h) = pick (eqb g f) (max (done_in p f h) q) (done_in p f h)
done_in p f (does_all q ∷ h) = max (done_in p f h) q

-- 3: what the events of this stream tell of files, the first one first, and the bits of the full walk over it
abbrev pub told_by : Event → Told
told_by (keepalive q) = nothing
told_by begin = begins
told_by (commit q) = nothing
told_by (message q) = nothing
told_by (other s) = brings s
told_by stopped = nothing

unfoldable pub told_in : History → List Told
told_in [] = []
told_in (streams q ∷ h) = []
told_in (tells e ∷ h) = told_in h ++ (told_by e ∷ [])
told_in (does f q ∷ h) = told_in h
told_in (does_all q ∷ h) = told_in h

unfoldable pub walked_in : List (ℕ × ℕ) → History → ℕ
walked_in es h = bits_of (walk_of es (told_in h))

-- without a list a Commit touches all four files
abbrev pub touches_in : List (ℕ × ℕ) → History → ℕ
touches_in [] h = 15
touches_in (e ∷ es) h = walked_in (e ∷ es) h

-- 2: the entries of this stream, the first one first: Commits, and Messages while no transaction is open, each with S before it
unfoldable pub entries_after : ℕ → List (ℕ × ℕ) → Event → History → List Entry
entries_after p es (keepalive q) h = []
entries_after p es begin h = []
entries_after p es (commit q) h = entry q (stable_in p h) (touches_in es h) ∷ []
entries_after p es (message q) h = pick (open_in h) [] (entry q (stable_in p h) 15 ∷ [])
entries_after p es (other s) h = []
entries_after p es stopped h = []

unfoldable pub entries_in : ℕ → List (ℕ × ℕ) → History → List Entry
entries_in p es [] = []
entries_in p es (streams q ∷ h) = []
entries_in p es (tells e ∷ h) = entries_in p es h ++ entries_after p es e h
entries_in p es (does f q ∷ h) = entries_in p es h
entries_in p es (does_all q ∷ h) = entries_in p es h

-- 7: an entry is undone for a file where it touches it and its end is above both the start and its D
abbrev pub undone_now : ℕ → ℕ → History → Entry → Bool
undone_now p f h e = undone_for (start_in p h) (done_in p f h) f e

abbrev pub held_now : ℕ → History → Entry → Bool
held_now p h e = pick (undone_now p 0 h e) true (pick (undone_now p 1 h e) true (pick (undone_now p 2 h e) true (undone_now p 3 h e)))

-- 8: S as it was just before the first entry that is undone for a file; s where there is none
unfoldable pub first_undone : (Entry → Bool) → ℕ → List Entry → ℕ
first_undone undone s [] = s
first_undone undone s (e ∷ es) = pick (undone e) e.before (first_undone undone s es)

unfoldable pub answer_in : ℕ → List (ℕ × ℕ) → ℕ → History → ℕ
answer_in p es f h = first_undone (λ e. undone_now p f h e) (stable_in p h) (entries_in p es h)

-- 9: the ring holds the entries from the first that is undone for some file on
unfoldable pub from_held : (Entry → Bool) → List Entry → List Entry
from_held held [] = []
from_held held (e ∷ es) = pick (held e) (e ∷ es) (from_held held es)

unfoldable pub held_in : ℕ → List (ℕ × ℕ) → History → List Entry
held_in p es h = from_held (λ e. held_now p h e) (entries_in p es h)

-- ---- refusals, 0 for none

-- 5: 36 for an entry whose end is not above T, 38 without room
unfoldable pub entry_refusal : ℕ → List (ℕ × ℕ) → ℕ → ℕ → History → ℕ
entry_refusal p es cap q h = pick (leb q (seen_in h)) 36 (pick (leb cap (length (held_in p es h))) 38 0)

abbrev pub event_refusal : ℕ → List (ℕ × ℕ) → ℕ → Event → History → ℕ
event_refusal p es cap (keepalive q) h = 0
event_refusal p es cap begin h = 0
event_refusal p es cap (commit q) h = entry_refusal p es cap q h
event_refusal p es cap (message q) h = pick (open_in h) 0 (entry_refusal p es cap q h)
event_refusal p es cap (other s) h = 0
event_refusal p es cap stopped h = 0

-- 31 for a list with a file above 3, whatever the event is, and for such a file; 37 for a position above every end ever handed on
unfoldable pub refusal_in : ℕ → List (ℕ × ℕ) → ℕ → Call → History → ℕ
refusal_in p es cap (streams q) h = 0
refusal_in p es cap (tells e) h = pick (has_no_file es) 31 (event_refusal p es cap e h)
refusal_in p es cap (does f q) h = pick (ltb 3 f) 31 (pick (ltb (largest_in h) q) 37 0)
refusal_in p es cap (does_all q) h = pick (ltb (largest_in h) q) 37 0
