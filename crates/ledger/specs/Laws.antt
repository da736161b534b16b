-- What the reading promises, over all histories: what may be reported covers nothing but what is done, and is not less than that. SCOPE 19.
use Rattle.std.specs.Prelude.{◌≡◌, true, false, List, [], ◌∷◌, ◌++◌, ◌⊎◌, ℕ, ◌≤◌, ◌<◌, length}
use Rattle.touched.specs.Touched.{has_no_file}
use Rattle.ledger.specs.declared.Entry.{Entry}
use Rattle.ledger.specs.Ledger.{bit_for}
use Rattle.ledger.specs.History.{Event, keepalive, commit, message, Call, streams, tells, does, does_all, History}
use Rattle.ledger.specs.History.{start_in, open_in, seen_in, stable_in, largest_in, entries_in, held_in, undone_now, answer_in, refusal_in}
use Rattle.ledger.specs.Stands.{read_by}

-- no call of the history is refused
abbrev pub Accepted : ℕ → List (ℕ × ℕ) → ℕ → History → Type 0
Accepted p es cap [] = Unit
Accepted p es cap (c ∷ h) = (refusal_in p es cap c h ≡ 0) × Accepted p es cap h

-- a call says that file f is done up to x
abbrev pub Covered : ℕ → ℕ → History → Type 0
Covered f x [] = ⊥
Covered f x (streams q ∷ h) = Covered f x h
Covered f x (tells e ∷ h) = Covered f x h
Covered f x (does g q ∷ h) = ((g ≡ f) × (x ≤ q)) ⊎ Covered f x h
Covered f x (does_all q ∷ h) = (x ≤ q) ⊎ Covered f x h

-- an entry of this stream, with those before and after it
pub record EntryIn (p : ℕ) (es : List (ℕ × ℕ)) (h : History) (e : Entry) : Type 0 where
  pub earlier : List Entry
  pub later : List Entry
  pub there : entries_in p es h ≡ earlier ++ (e ∷ later)

-- a call that begins no stream
abbrev pub Within : Call → Type 0
Within (streams q) = ⊥
Within (tells e) = Unit
Within (does f q) = Unit
Within (does_all q) = Unit

pub record AnswerLaws : Type 0 where
  -- the histories of any list of calls are accepted ones
  pub accepted : (p cap : ℕ) (es : List (ℕ × ℕ)) (cs : List Call) → Accepted p es cap (read_by p es cap cs (0, [])).1
  -- an entry that a file is to be told of, and that lies at or below its answer, is covered by a call that says so. p is the first start
  pub done_before : (p cap f : ℕ) (es : List (ℕ × ℕ)) (h : History) (e : Entry) → Accepted p es cap h → EntryIn p es h e → bit_for f e.touched ≡ true
      → start_in p h < e.end → p < e.end → e.end ≤ answer_in p es f h → Covered f e.end h
  -- an entry that is undone for a file holds its answer below it
  pub undone_holds : (p cap f : ℕ) (es : List (ℕ × ℕ)) (h : History) (e : Entry) → Accepted p es cap h → EntryIn p es h e → undone_now p f h e ≡ true
      → answer_in p es f h < e.end
  -- no answer is above S, so that an entry which ends above S, and is not told yet, is above all answers
  pub at_most_stable : (p f : ℕ) (es : List (ℕ × ℕ)) (h : History) → answer_in p es f h ≤ stable_in p h
  -- no answer is below the stream's start
  pub at_least_start : (p f : ℕ) (es : List (ℕ × ℕ)) (h : History) → start_in p h ≤ answer_in p es f h
  -- with nothing undone all four answers are S
  pub all_done : (p f : ℕ) (es : List (ℕ × ℕ)) (h : History) → f ≤ 3 → held_in p es h ≡ [] → answer_in p es f h ≡ stable_in p h
  -- no answer falls in a stream
  pub never_falls : (p f : ℕ) (es : List (ℕ × ℕ)) (c : Call) (h : History) → Within c → answer_in p es f h ≤ answer_in p es f (c ∷ h)

-- what a keepalive changes
pub record KeepaliveLaws : Type 0 where
  -- within a transaction it counts for nothing
  pub within : (p f q : ℕ) (es : List (ℕ × ℕ)) (h : History) → open_in h ≡ true
      → (stable_in p (tells (keepalive q) ∷ h) ≡ stable_in p h) × (answer_in p es f (tells (keepalive q) ∷ h) ≡ answer_in p es f h)
  -- one that goes back counts for nothing, and is not refused
  pub back : (p q : ℕ) (h : History) → q ≤ seen_in h → stable_in p (tells (keepalive q) ∷ h) ≡ stable_in p h
  pub taken : (p q cap : ℕ) (es : List (ℕ × ℕ)) (h : History) → has_no_file es ≡ false → refusal_in p es cap (tells (keepalive q)) h ≡ 0

-- exactly where a call is refused
pub record RefusalLaws : Type 0 where
  pub end_not_above : (p q cap : ℕ) (es : List (ℕ × ℕ)) (h : History) → has_no_file es ≡ false → q ≤ seen_in h
      → refusal_in p es cap (tells (commit q)) h ≡ 36
  pub no_room : (p q cap : ℕ) (es : List (ℕ × ℕ)) (h : History) → has_no_file es ≡ false → seen_in h < q → cap ≤ length (held_in p es h)
      → refusal_in p es cap (tells (commit q)) h ≡ 38
  pub commit_taken : (p q cap : ℕ) (es : List (ℕ × ℕ)) (h : History) → has_no_file es ≡ false → seen_in h < q → length (held_in p es h) < cap
      → refusal_in p es cap (tells (commit q)) h ≡ 0
  -- a Message outside a transaction as a Commit, and inside one never
  pub message_as_commit : (p q cap : ℕ) (es : List (ℕ × ℕ)) (h : History) → open_in h ≡ false
      → refusal_in p es cap (tells (message q)) h ≡ refusal_in p es cap (tells (commit q)) h
  pub message_within : (p q cap : ℕ) (es : List (ℕ × ℕ)) (h : History) → has_no_file es ≡ false → open_in h ≡ true
      → refusal_in p es cap (tells (message q)) h ≡ 0
  pub bad_list : (p cap : ℕ) (es : List (ℕ × ℕ)) (e : Event) (h : History) → has_no_file es ≡ true → refusal_in p es cap (tells e) h ≡ 31
  pub no_such_file : (p f q cap : ℕ) (es : List (ℕ × ℕ)) (h : History) → 3 < f → refusal_in p es cap (does f q) h ≡ 31
  pub above_handed_on : (p f q cap : ℕ) (es : List (ℕ × ℕ)) (h : History) → f ≤ 3 → largest_in h < q → refusal_in p es cap (does f q) h ≡ 37
  pub done_taken : (p f q cap : ℕ) (es : List (ℕ × ℕ)) (h : History) → f ≤ 3 → q ≤ largest_in h → refusal_in p es cap (does f q) h ≡ 0
