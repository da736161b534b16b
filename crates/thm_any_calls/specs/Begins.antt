-- Two plain readings of the same server bytes: the events of one begin the other's, whatever their steps. And both begin what all bytes give.
-- HandsOn states the former for two lists of calls. SCOPE 8.6.
use Rattle.std.specs.Prelude.{◌≡◌, Bool, true, false, List, [], ◌∷◌, ◌++◌, ◌⊎◌, ℕ}
use Rattle.frames.specs.Cut.{cut_of}
use Rattle.worker.specs.declared.Queue.{Queue}
use Rattle.thm_any_calls.specs.Happened.{Happened}
use Rattle.thm_any_calls.specs.Plain.{Bounds, Observation, whole_ones, events_of, by_queue, plain_of}

-- xs begins ys
pub record Begins {A : Type 0} (xs ys : List A) : Type 0 where
  pub rest : List A
  pub joined : xs ++ rest ≡ ys

-- the queue is closed
abbrev pub is_closed : Queue → Bool
is_closed q = by_queue q false false true

-- no queue closes
abbrev pub NoneClosed : List Observation → Type 0
NoneClosed [] = Unit
NoneClosed (t ∷ ts) = (is_closed t.queue ≡ false) × NoneClosed ts

-- what all of the server bytes give
abbrev pub everything : Bounds → Bool → List ℕ → List Happened
everything b opening bytes = events_of b.stop opening (whole_ones (cut_of b.limit bytes).items)

-- where no queue closes, what was handed on is a beginning of that
abbrev pub PlainBegins : Type 0
PlainBegins =
    (b : Bounds) (opening : Bool) (bytes : List ℕ) (ts : List Observation) → NoneClosed ts
    → Begins (plain_of b opening bytes ts) (everything b opening bytes)

-- one of two readings begins the other
abbrev pub PlainAgree : Type 0
PlainAgree =
    (b : Bounds) (opening : Bool) (bytes : List ℕ) (ts us : List Observation) → NoneClosed ts → NoneClosed us
    → Begins (plain_of b opening bytes ts) (plain_of b opening bytes us) ⊎ Begins (plain_of b opening bytes us) (plain_of b opening bytes ts)
