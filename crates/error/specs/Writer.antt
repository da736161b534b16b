-- What every writer answers and leaves: SCOPE 3.5; 01, "Where each call turns back", 4 and 25.
use Rattle.std.specs.Prelude.{ℕ, List, length, leb, ltb, Result, Ok, Err}
use Rattle.std.proofs.Math.Option.{Option, some, none}
use Rattle.wire.specs.Bytes.{pick, put}
use Rattle.error.specs.Refusal.{number_of}
use Rattle.error.specs.declared.Refusal.{Refusal}

-- the refusal's number, 0 for none, and how many bytes were written
abbrev pub outcome : Result ℕ Refusal → ℕ × ℕ
outcome (Ok n) = (0, n)
outcome (Err r) = (number_of r, 0)

-- the most bytes that a writer's lent inputs may have together (25)
abbrev pub input_limit : ℕ
input_limit = 1048576

-- a text for the output of a call whose lent inputs have so many bytes together: 25, then 4, leave the output as it was; else the
-- text stands at its front
unfoldable pub writing : ℕ → List ℕ → List ℕ → (ℕ × ℕ) × List ℕ
writing inputs text out =
    pick (ltb input_limit inputs) ((25, 0), out)
    (pick (ltb (length out) (length text)) ((4, 0), out)
    ((0, length text), put out 0 text))

-- a length n, where that is at most the room
unfoldable pub counted : ℕ → ℕ → Option ℕ
counted room n = pick (leb n room) (some n) none
