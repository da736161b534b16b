-- The kind of every refusal by its number, and after which refusals a new connection may help. SCOPE 7.4.
use Rattle.std.specs.Prelude.{ℕ, Bool, false, eqb, ltb, leb}
use Rattle.wire.specs.Bytes.{pick}
use Rattle.error.specs.Refusal.{kind_at, usage, protocol, io}

-- the numbers from one to another
abbrev pub is_between : ℕ → ℕ → ℕ → Bool
is_between first last n = pick (ltb n first) false (leb n last)

-- 26 to 30 are what a server sent and cannot be read or matched, 31 to 35 what a caller asked; the rest are those of crate `error`; 0 for a number
-- that no refusal has. That each crate's own refusals have these kinds is said in crate `thm_word_meaning`
abbrev pub kind_by : ℕ → ℕ
kind_by n = pick (is_between 26 30 n) protocol (pick (is_between 31 35 n) usage (kind_at n))

abbrev pub transient_at : ℕ → ℕ
transient_at n = pick (eqb (kind_by n) io) 1 0
