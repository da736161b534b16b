-- Where nothing is handed on, nothing is done; and where each event's message lies in the unread bytes. SCOPE 8.14.
use Rattle.std.specs.Prelude.{ℕ, ◌+◌, ◌≡◌, Bool, List, [], ◌∷◌}
use Rattle.moment.specs.declared.Moment.{Moment}
use Rattle.worker.specs.declared.Run.{Run}
use Rattle.drain.specs.Drain.{Handed, stays, drain_from}

-- from a place on message behind message, each payload five bytes behind its message's beginning, up to the place behind the bytes taken
abbrev pub Chained : ℕ → List Handed → ℕ → Type 0
Chained place [] taken = place ≡ taken
Chained place (h ∷ hs) taken = (h.base ≡ place + 5) × Chained h.end hs taken

-- a call without an event leaves the run as it was, takes no byte and stands for no step; so does one with no room
pub record DrainLaws : Type 0 where
  pub nothing_done : (n : ℕ) (m : Moment) (stop : Bool) (p o : ℕ) (u : List ℕ) (place : ℕ) (r : Run)
      → (drain_from n m stop p o u place r).events ≡ [] → drain_from n m stop p o u place r ≡ stays r place
  pub no_room : (m : Moment) (stop : Bool) (p o : ℕ) (u : List ℕ) (place : ℕ) (r : Run) → drain_from 0 m stop p o u place r ≡ stays r place
  pub places : (n : ℕ) (m : Moment) (stop : Bool) (p o : ℕ) (u : List ℕ) (place : ℕ) (r : Run)
      → Chained place (drain_from n m stop p o u place r).events (drain_from n m stop p o u place r).taken
