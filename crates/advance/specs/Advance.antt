-- Steps made together: up to four with the same input, until one of them has something to tell. SCOPE 5.10.
use Rattle.std.specs.Prelude.{ℕ, ◌+◌, min, Bool, true, false, not, List, length, drop, ◌==◌}
use Rattle.wire.specs.Bytes.{pick}
use Rattle.worker.specs.declared.Input.{Input}
use Rattle.worker.specs.declared.Run.{Run}
use Rattle.worker.specs.Answer.{lent}
use Rattle.worker.specs.Events as E
use Rattle.worker.specs.Step.{Lent, Outcome, having, step_of}

abbrev pub is_nothing : E.Said → Bool
is_nothing E.nothing = true
is_nothing (E.keep_alive end time reply) = false
is_nothing (E.begin final time xid) = false
is_nothing (E.commit position end time) = false
is_nothing (E.message flag position pf pl cf cl) = false
is_nothing (E.xlog_data start end time from len) = false
is_nothing (E.stopped_at reached) = false

-- an outcome has something to tell: a refusal, bytes for the server, or an event
abbrev pub tells : Outcome → Bool
tells o = pick (o.refusal == 0) (pick (o.written == 0) (not (is_nothing o.event)) true) true

-- what the next step is lent: the bytes after those taken, and the buffers as they were left
abbrev pub lent_after : Lent → Outcome → Lent
lent_after l o = lent (drop o.taken l.unread) o.payload o.out

-- the outcome of a step before which k bytes were taken
abbrev pub after : ℕ → Outcome → Outcome
after k o = having (k + o.taken) o.payload o

-- a call made twice, the second time only where the first told nothing
unfoldable pub twice : (Run → Input → Lent → Outcome) → Run → Input → Lent → Outcome
twice f r i l = let o : Outcome = f r i l in pick (tells o) o (after o.taken (f o.run i (lent_after l o)))

-- an outcome of a call that was lent these unread bytes, and one step more where it told nothing
unfoldable pub one_more : Input → List ℕ → Outcome → Outcome
one_more i u o =
    let k : ℕ = min o.taken (length u) in
    pick (tells o) o (after k (step_of o.run i (lent (drop k u) o.payload o.out)))

-- up to four steps, one by one
abbrev pub advance_of : Run → Input → Lent → Outcome
advance_of r i l = twice (twice step_of) r i l
