-- A ledger's calls, over what it holds and its ring of entries in lent words. SCOPE 19.
use Rattle.std.specs.Prelude.{Bool, true, false, List, ℕ, zero, suc, ◌+◌, ◌*◌, ◌-◌, ◌/◌, ◌%◌, min, max, length, get_or, set, eqb, ltb, leb, Result, Ok, Err}
use Rattle.wire.specs.Bytes.{pick}
use Rattle.error.specs.Refusal.{usage, protocol}
use Rattle.progress.specs.declared.files.FileRefusal.{FileRefusal}
use Rattle.progress.specs.Files.{no_file, file_number}
use Rattle.touched.specs.Words.{touched_call}
use Rattle.ledger.specs.declared.Ledger.{Ledger}
use Rattle.ledger.specs.declared.Entry.{Entry}
use Rattle.ledger.specs.declared.LedgerRefusal.{LedgerRefusal}
use Rattle.ledger.specs.declared.Answer.{Answer}

-- ---- refusals

abbrev pub ledger_number : LedgerRefusal → ℕ
ledger_number LedgerRefusal.EndNotAbove = 36
ledger_number LedgerRefusal.AboveHandedOn = 37
ledger_number LedgerRefusal.NoRoom = 38

-- an end that goes back is the server's; the others are the caller's own input
abbrev pub ledger_kind : LedgerRefusal → ℕ
ledger_kind LedgerRefusal.EndNotAbove = protocol
ledger_kind LedgerRefusal.AboveHandedOn = usage
ledger_kind LedgerRefusal.NoRoom = usage

-- ---- the ring: three words an entry, in memory of any length

abbrev pub entry : ℕ → ℕ → ℕ → Entry
entry end before touched = record { end = end; before = before; touched = touched }

-- how many entries so many words hold
abbrev pub cap_of : ℕ → ℕ
cap_of words = words / 3

-- the slot after one
unfoldable pub next_of : ℕ → ℕ → ℕ
next_of cap slot = pick (ltb (slot + 1) cap) (slot + 1) 0

-- the slot n after one
unfoldable pub slot_of : ℕ → ℕ → ℕ → ℕ
slot_of cap front n = pick (leb cap front) 0 (pick (ltb n (cap - front)) (front + n) (n - (cap - front)))

-- what a slot holds; outside the ring there is nothing
unfoldable pub entry_at : List ℕ → ℕ → Entry
entry_at ring slot =
    pick (leb (cap_of (length ring)) slot) (entry 0 0 0)
    (entry (get_or ring (3 * slot) 0) (get_or ring (3 * slot + 1) 0) (get_or ring (3 * slot + 2) 0))

-- an entry written into a slot; outside the ring nothing is written
unfoldable pub entry_in : List ℕ → ℕ → Entry → List ℕ
entry_in ring slot e =
    pick (leb (cap_of (length ring)) slot) ring
    (set (set (set ring (3 * slot) e.end) (3 * slot + 1) e.before) (3 * slot + 2) e.touched)

-- ---- what a ledger holds

abbrev pub ledger : ℕ → ℕ → ℕ → ℕ → ℕ → ℕ → ℕ → Bool → ℕ → ℕ → ℕ → ℕ → Ledger
ledger start seen a b c d largest opened touched refusal front count =
    record {
      start = start;
      seen = seen;
      zero = a;
      one = b;
      two = c;
      three = d;
      largest = largest;
      opened = opened;
      touched = touched;
      refusal = refusal;
      front = front;
      count = count;
    }

-- the first stream of a slot, asked from a start, and a further one, which keeps what is done
abbrev pub first_of : ℕ → Ledger
first_of p = ledger p 0 p p p p 0 false 0 0 0 0

abbrev pub stream_of : ℕ → Ledger → Ledger
stream_of p l = ledger p 0 l.zero l.one l.two l.three l.largest false 0 0 0 0

abbrev pub larger : ℕ → ℕ → ℕ
larger a b = max a b

-- the larger of the start and what was seen
abbrev pub stable_of : Ledger → ℕ
stable_of l = larger l.start l.seen

abbrev pub with_ring : ℕ → ℕ → Ledger → Ledger
with_ring front count l =
    ledger l.start l.seen l.zero l.one l.two l.three l.largest l.opened l.touched l.refusal front count

-- of any words a front within the ring, and no more entries than the ring holds
unfoldable pub fitted_of : ℕ → Ledger → Ledger
fitted_of cap l = with_ring (pick (ltb l.front cap) l.front 0) (min l.count cap) l

-- ---- what is undone

-- bit n of a number stands for file n
unfoldable pub bit_for : ℕ → ℕ → Bool
bit_for f m =
    pick (eqb f 0) (eqb (m % 2) 1) (pick (eqb f 1) (eqb (m / 2 % 2) 1) (pick (eqb f 2) (eqb (m / 4 % 2) 1) (eqb (m / 8 % 2) 1)))

-- to which position a file is done
unfoldable pub file_done : ℕ → Ledger → ℕ
file_done f l = pick (eqb f 0) l.zero (pick (eqb f 1) l.one (pick (eqb f 2) l.two l.three))

-- its end is above the start and what is done, and it touches the file
unfoldable pub undone_for : ℕ → ℕ → ℕ → Entry → Bool
undone_for start done f e = pick (leb e.end start) false (pick (leb e.end done) false (bit_for f e.touched))

abbrev pub undone_in : Ledger → ℕ → Entry → Bool
undone_in l f e = undone_for l.start (file_done f l) f e

unfoldable pub undone_some : Ledger → Entry → Bool
undone_some l e = pick (undone_in l 0 e) true (pick (undone_in l 1 e) true (pick (undone_in l 2 e) true (undone_in l 3 e)))

-- of n entries from a slot on, those from the first that is undone for some file on
unfoldable pub settled_from : List ℕ → Ledger → ℕ → ℕ → ℕ × ℕ
settled_from ring l front zero = (front, 0)
settled_from ring l front (suc n) =
    pick (undone_some l (entry_at ring front)) (front, suc n) (settled_from ring l (next_of (cap_of (length ring)) front) n)

unfoldable pub settled_of : List ℕ → Ledger → Ledger
settled_of ring l = let w : ℕ × ℕ = settled_from ring l l.front l.count in with_ring w.0 w.1 l

-- ---- telling an event

-- an event is refused: nothing changes but the mark, with which every call on this stream is refused from then on
abbrev pub refused_with : ℕ → Ledger → Ledger
refused_with n l =
    ledger l.start l.seen l.zero l.one l.two l.three l.largest l.opened l.touched n l.front l.count

-- what an answer of the code says
abbrev pub answer_by : Answer → ℕ × Ledger
answer_by a = (a.refusal, a.ledger)

abbrev pub refused_answer : ℕ → Ledger → ℕ × Ledger
refused_answer n l = (n, refused_with n l)

abbrev pub answered : ℕ → Ledger → ℕ × Ledger
answered n l = (n, l)

abbrev pub position_by : Result ℕ FileRefusal → ℕ × ℕ
position_by (Ok p) = (0, p)
position_by (Err r) = (file_number r, 0)

abbrev pub with_transaction : Bool → ℕ → Ledger → Ledger
with_transaction opened touched l =
    ledger l.start l.seen l.zero l.one l.two l.three l.largest opened touched l.refusal l.front l.count

abbrev pub with_seen : ℕ → Ledger → Ledger
with_seen p l =
    ledger l.start (larger l.seen p) l.zero l.one l.two l.three l.largest l.opened l.touched l.refusal l.front
    l.count

-- with one entry more, whose end is p
abbrev pub with_entry : Bool → ℕ → ℕ → Ledger → Ledger
with_entry opened touched p l =
    ledger l.start p l.zero l.one l.two l.three (larger l.largest p) opened touched l.refusal l.front (l.count + 1)

-- what a call answers and leaves: the refusal's number, 0 for none, the ledger, the ring
abbrev pub Left : Type 0
Left = ℕ × Ledger × List ℕ

-- an entry that ends at p and touches files, kept after those that are there; whether a transaction is open then, and what its rows touch
unfoldable pub kept_of : Bool → ℕ → ℕ → ℕ → Ledger → List ℕ → Left
kept_of opened bits p touched l ring =
    let written : List ℕ = entry_in ring (slot_of (cap_of (length ring)) l.front l.count) (entry p (stable_of l) touched) in
    (0, settled_of written (with_entry opened bits p l), written)

-- 36 for an end that is not above what was seen, 38 without room; else it is kept
unfoldable pub entry_told : Bool → ℕ → ℕ → ℕ → Ledger → List ℕ → Left
entry_told opened bits p touched l ring =
    pick (leb p l.seen) (36, refused_with 36 l, ring)
    (pick (leb (cap_of (length ring)) l.count) (38, refused_with 38 l, ring) (kept_of opened bits p touched l ring))

-- the files that a Commit touches: all four where there is no list
unfoldable pub commit_touches : ℕ → ℕ → ℕ
commit_touches listed touched = pick (eqb listed 0) 15 touched

-- an event by its kind and position, with the length of the list and the files that the rows touch: a Commit, a Begin, a keepalive, a Message. A
-- keepalive and a Message within a transaction count for nothing, as do all other events
unfoldable pub kind_told : ℕ → ℕ → ℕ → ℕ → Ledger → List ℕ → Left
kind_told listed kind p bits l ring =
    pick (eqb kind 3) (entry_told false bits p (commit_touches listed bits) l ring)
    (pick (eqb kind 2) (0, with_transaction true bits l, ring)
    (pick l.opened (0, with_transaction l.opened bits l, ring)
    (pick (eqb kind 1) (0, with_seen p (with_transaction l.opened bits l), ring)
    (pick (eqb kind 4) (entry_told false bits p 15 l ring) (0, with_transaction l.opened bits l, ring)))))

-- where the list is refused, nothing more is looked at
unfoldable pub list_told : ℕ × ℕ → ℕ → ℕ → ℕ → Ledger → List ℕ → Left
list_told t listed kind p l ring = pick (eqb t.0 0) (kind_told listed kind p t.1 l ring) (t.0, refused_with t.0 l, ring)

-- an event with its data, and the list of relations and their files
unfoldable pub tell_of : List ℕ → List ℕ → ℕ → ℕ → List ℕ → Ledger → List ℕ → Left
tell_of ids fs kind p s l₀ ring =
    let l : Ledger = fitted_of (cap_of (length ring)) l₀ in
    pick (eqb l.refusal 0) (list_told (touched_call ids fs kind s l.touched) (min (length ids) (length fs)) kind p l ring)
    (l.refusal, l, ring)

-- ---- what is done

abbrev pub with_done : ℕ → ℕ → ℕ → ℕ → Ledger → Ledger
with_done a b c d l =
    ledger l.start l.seen a b c d l.largest l.opened l.touched l.refusal l.front l.count

-- a file goes to the larger of its position and what is done
unfoldable pub raised_in : ℕ → ℕ → Ledger → Ledger
raised_in f p l =
    pick (eqb f 0) (with_done (larger l.zero p) l.one l.two l.three l)
    (pick (eqb f 1) (with_done l.zero (larger l.one p) l.two l.three l)
    (pick (eqb f 2) (with_done l.zero l.one (larger l.two p) l.three l)
    (with_done l.zero l.one l.two (larger l.three p) l)))

abbrev pub all_raised : ℕ → Ledger → Ledger
all_raised p l = with_done (larger l.zero p) (larger l.one p) (larger l.two p) (larger l.three p) l

-- why a file is not done up to p: the stream's mark, 31 for a file above 3, 37 above every entry told; 0 where it may be
unfoldable pub done_refusal : ℕ → ℕ → Ledger → ℕ
done_refusal f p l = pick (eqb l.refusal 0) (pick (no_file f) 31 (pick (ltb l.largest p) 37 0)) l.refusal

-- what is done, for one file, and for all four: the refusal's number, 0 for none, and the ledger
unfoldable pub done_of : ℕ → ℕ → Ledger → List ℕ → ℕ × Ledger
done_of f p l₀ ring =
    let l : Ledger = fitted_of (cap_of (length ring)) l₀ in
    pick (eqb (done_refusal f p l) 0) (0, settled_of ring (raised_in f p l)) (done_refusal f p l, l)

unfoldable pub all_done_of : ℕ → Ledger → List ℕ → ℕ × Ledger
all_done_of p l₀ ring =
    let l : Ledger = fitted_of (cap_of (length ring)) l₀ in
    pick (eqb (done_refusal 0 p l) 0) (0, settled_of ring (all_raised p l)) (done_refusal 0 p l, l)

-- ---- what is asked

-- of n entries from a slot on the stable position before the first that is undone for a file; the stable position where there is none
unfoldable pub answer_from : List ℕ → Ledger → ℕ → ℕ → ℕ → ℕ
answer_from ring l f front zero = stable_of l
answer_from ring l f front (suc n) =
    pick (undone_in l f (entry_at ring front)) (entry_at ring front).before (answer_from ring l f (next_of (cap_of (length ring)) front) n)

-- the refusal's number, 0 for none, and what may be reported of a file
unfoldable pub answer_of : ℕ → Ledger → List ℕ → ℕ × ℕ
answer_of f l₀ ring =
    let l : Ledger = fitted_of (cap_of (length ring)) l₀ in
    pick (no_file f) (31, 0) (0, answer_from ring l f l.front l.count)

-- how many entries more the ring holds
unfoldable pub room_of : Ledger → List ℕ → ℕ
room_of l ring = cap_of (length ring) - min l.count (cap_of (length ring))
