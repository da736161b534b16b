-- The theorem: after any list of calls what a ledger holds, and the words of its ring, stand for the calls that were not refused. SCOPE 19.
use Rattle.std.specs.Prelude.{◌≡◌, List, [], ◌∷◌, ℕ, zero, suc, ◌-◌, ◌≤◌, ◌<◌, length, eqb, ltb}
use Rattle.wire.specs.Bytes.{pick}
use Rattle.touched.specs.Touched.{entries_of}
use Rattle.ledger.specs.declared.Ledger.{Ledger}
use Rattle.ledger.specs.declared.Entry.{Entry}
use Rattle.ledger.specs.Ledger.{Left, cap_of, next_of, entry_at, first_of, stream_of, tell_of, done_of, all_done_of, answer_of, room_of}
use Rattle.ledger.specs.History.{Event, keepalive, begin, commit, message, other, stopped, Call, streams, tells, does, does_all, History}
use Rattle.ledger.specs.History.{start_in, open_in, seen_in, largest_in, done_in, walked_in, held_in, answer_in, refusal_in}

-- ---- calls on a ledger and its ring

-- the kind, the position and the data of an event, as a host has them
abbrev pub kind_by : Event → ℕ
kind_by (keepalive q) = 1
kind_by begin = 2
kind_by (commit q) = 3
kind_by (message q) = 4
kind_by (other s) = 5
kind_by stopped = 6

abbrev pub position_by : Event → ℕ
position_by (keepalive q) = q
position_by begin = 0
position_by (commit q) = q
position_by (message q) = q
position_by (other s) = 0
position_by stopped = 0

abbrev pub data_by : Event → List ℕ
data_by (keepalive q) = []
data_by begin = []
data_by (commit q) = []
data_by (message q) = []
data_by (other s) = s
data_by stopped = []

abbrev pub beside : List ℕ → ℕ × Ledger → Left
beside ring a = (a.0, a.1, ring)

-- one call, with the list of relations and their files
unfoldable pub call_on : List ℕ → List ℕ → Call → Ledger → List ℕ → Left
call_on ids fs (streams q) l ring = (0, stream_of q l, ring)
call_on ids fs (tells e) l ring = tell_of ids fs (kind_by e) (position_by e) (data_by e) l ring
call_on ids fs (does f q) l ring = beside ring (done_of f q l ring)
call_on ids fs (does_all q) l ring = beside ring (all_done_of q l ring)

-- the ledger and the ring after calls
unfoldable pub left_by : List ℕ → List ℕ → List Call → Ledger × List ℕ → Ledger × List ℕ
left_by ids fs [] w = w
left_by ids fs (c ∷ cs) w = let a : Left = call_on ids fs c w.0 w.1 in left_by ids fs cs (a.1, a.2)

-- ---- what is said of them by the history alone

-- the refusal's number: a stream in which an event was refused, with the number `mark`, refuses every call with that number
abbrev pub answers_in : ℕ → List (ℕ × ℕ) → ℕ → ℕ → Call → History → ℕ
answers_in p es cap mark (streams q) h = 0
answers_in p es cap mark (tells e) h = pick (eqb mark 0) (refusal_in p es cap (tells e) h) mark
answers_in p es cap mark (does f q) h = pick (eqb mark 0) (refusal_in p es cap (does f q) h) mark
answers_in p es cap mark (does_all q) h = pick (eqb mark 0) (refusal_in p es cap (does_all q) h) mark

-- the mark after a call that answers r: an event that is refused marks its stream, what is done does not
abbrev pub mark_after : ℕ → Call → ℕ → ℕ
mark_after mark (streams q) r = 0
mark_after mark (tells e) r = r
mark_after mark (does f q) r = mark
mark_after mark (does_all q) r = mark

-- a call that is refused is no part of the history
abbrev pub history_after : ℕ → Call → History → History
history_after r c h = pick (eqb r 0) (c ∷ h) h

-- mark and history after calls, in a ring of so many entries
unfoldable pub read_by : ℕ → List (ℕ × ℕ) → ℕ → List Call → ℕ × History → ℕ × History
read_by p es cap [] s = s
read_by p es cap (c ∷ cs) s =
    let r : ℕ = answers_in p es cap s.0 c s.1 in
    read_by p es cap cs (mark_after s.0 c r, history_after r c s.1)

-- ---- standing for a history

-- the n entries from a slot on
unfoldable pub ring_from : List ℕ → ℕ → ℕ → List Entry
ring_from ring front zero = []
ring_from ring front (suc n) = entry_at ring front ∷ ring_from ring (next_of (cap_of (length ring)) front) n

-- a front is a slot of the ring, and 0 where it has none
abbrev pub Fits : ℕ → ℕ → Type 0
Fits cap front = pick (ltb front cap) front 0 ≡ front

-- each part is what the history says, and the ring holds the entries from the first undone one on
pub record Stands (p : ℕ) (es : List (ℕ × ℕ)) (mark : ℕ) (h : History) (l : Ledger) (ring : List ℕ) : Type 0 where
  pub start : l.start ≡ start_in p h
  pub seen : l.seen ≡ seen_in h
  pub zero : l.zero ≡ done_in p 0 h
  pub one : l.one ≡ done_in p 1 h
  pub two : l.two ≡ done_in p 2 h
  pub three : l.three ≡ done_in p 3 h
  pub largest : l.largest ≡ largest_in h
  pub opened : l.opened ≡ open_in h
  pub touched : l.touched ≡ walked_in es h
  pub refusal : l.refusal ≡ mark
  pub fits : Fits (cap_of (length ring)) l.front
  pub within : l.count ≤ cap_of (length ring)
  pub held : ring_from ring l.front l.count ≡ held_in p es h

-- a call that answers r: the ring keeps its length, and what is left stands for the history after it
pub record Called (p : ℕ) (es : List (ℕ × ℕ)) (mark : ℕ) (h : History) (c : Call) (ring : List ℕ) (r : ℕ) (a : Left) : Type 0 where
  pub answer : a.0 ≡ r
  pub memory : length a.2 ≡ length ring
  pub stands : Stands p es (mark_after mark c r) (history_after r c h) a.1 a.2

-- every call on what stands for a history answers as the history says, and leaves what stands for the history after it
abbrev pub OneCall : Type 0
OneCall =
    (p mark : ℕ) (ids fs : List ℕ) (h : History) (c : Call) (l : Ledger) (ring : List ℕ) → Stands p (entries_of ids fs) mark h l ring
    → Called p (entries_of ids fs) mark h c ring (answers_in p (entries_of ids fs) (cap_of (length ring)) mark c h) (call_on ids fs c l ring)

-- after any list of calls, from the first stream on, in a ring of any words
abbrev pub AnyCalls : Type 0
AnyCalls =
    (p : ℕ) (ids fs ring : List ℕ) (cs : List Call) →
    let s : ℕ × History = read_by p (entries_of ids fs) (cap_of (length ring)) cs (0, []) in
    let w : Ledger × List ℕ = left_by ids fs cs (first_of p, ring) in
    Stands p (entries_of ids fs) s.0 s.1 w.0 w.1 × (length w.1 ≡ length ring)

-- what stands for a history answers what the history says, and has the room that the entries held leave
pub record Asked : Type 0 where
  pub answer : (p mark : ℕ) (es : List (ℕ × ℕ)) (h : History) (l : Ledger) (ring : List ℕ) (f : ℕ) → Stands p es mark h l ring → f ≤ 3
      → answer_of f l ring ≡ (0, answer_in p es f h)
  pub no_file_lem : (f : ℕ) (l : Ledger) (ring : List ℕ) → 3 < f → answer_of f l ring ≡ (31, 0)
  pub room : (p mark : ℕ) (es : List (ℕ × ℕ)) (h : History) (l : Ledger) (ring : List ℕ) → Stands p es mark h l ring
      → room_of l ring ≡ cap_of (length ring) - length (held_in p es h)
