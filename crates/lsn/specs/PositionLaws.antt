-- Positions over all values: how Display spells one, which texts each refusal belongs to, what an answer says, and the order. SCOPE 2.1 to 2.3; 01,
-- "Texts and positions"; the spelling by PostgreSQL's documentation, "pg_lsn Type".
use Rattle.std.specs.Prelude.{◌≡◌, List, ◌∷◌, ◌++◌, ◌⊎◌, ℕ, ◌+◌, ◌*◌, ◌^◌, ◌≤◌, ◌<◌, length, Ok, Err}
use Prim.Native.Char.{code}
use Rattle.error.specs.declared.Refusal.{Refusal}
use Rattle.error.specs.Refusal.{number_of}
use Rattle.text.specs.Spelling.{SpelledTo}
use Rattle.lsn.specs.declared.Lsn.{Lsn}
use Rattle.lsn.specs.Position.{position_of, parse_outcome, display_of}
use Rattle.lsn.specs.Spelled.{Number, NoSlash}

-- s is the text of a position: its high half, a slash and its low half, each in upper case without leading zeros, and one digit for zero
pub record Displayed (s : List ℕ) (p : ℕ) : Type 0 where
  pub high : List ℕ
  pub low : List ℕ
  pub hi : ℕ
  pub lo : ℕ
  pub text : s ≡ high ++ (code "/" ∷ low)
  pub high_half : SpelledTo 16 high hi
  pub low_half : SpelledTo 16 low lo
  pub below : lo < 2 ^ 32
  pub position : p ≡ hi * 2 ^ 32 + lo

pub record DisplayLaws : Type 0 where
  -- Display spells every position so, in 3 to 17 characters
  pub displayed : (v : ℕ) → v < 2 ^ 64 → Displayed (display_of v) v
  pub size : (v : ℕ) → v < 2 ^ 64 → (3 ≤ length (display_of v)) × (length (display_of v) ≤ 17)
  -- and a position has no other text that is spelled so
  pub one_text : (s t : List ℕ) (p : ℕ) → Displayed s p → Displayed t p → s ≡ t

-- the refusals of parse from the other side: a number is answered only where its reason holds, and there is no other answer
pub record RefusalLaws : Type 0 where
  pub twenty_two : (s : List ℕ) → (position_of s).0 ≡ 22 → NoSlash s
  pub twenty_three : (s : List ℕ) → (position_of s).0 ≡ 23
      → (high : List ℕ) × (low : List ℕ) × (s ≡ high ++ (code "/" ∷ low)) × NoSlash high × ((v : ℕ) → Number high v → ⊥)
  pub twenty_four : (s : List ℕ) → (position_of s).0 ≡ 24
      → (high : List ℕ) × (low : List ℕ) × (hi : ℕ) × (s ≡ high ++ (code "/" ∷ low)) × Number high hi × ((v : ℕ) → Number low v → ⊥)
  pub no_other : (s : List ℕ)
      → (position_of s ≡ (22, 0)) ⊎ ((position_of s ≡ (23, 0)) ⊎ ((position_of s ≡ (24, 0)) ⊎ ((p : ℕ) × (position_of s ≡ (0, p)))))
  -- what the answers of parse say
  pub answered : (p : Lsn) → parse_outcome (Ok p) ≡ (0, p.0)
  pub refused : (r : Refusal) → parse_outcome (Err r) ≡ (number_of r, 0)
