-- A startup message read back: PostgreSQL documentation, "Message Formats" (StartupMessage). Int32 length, Int32 version, then names and
-- values in turn, each a String; a zero byte as a terminator after the last pair. SCOPE 3.6; 01, "Messages".
use Rattle.std.specs.Prelude.{◌≡◌, List, [], ◌∷◌, ℕ, zero, suc, ◌+◌, length, take, drop, ℤ, ltb}
use Rattle.std.proofs.Math.Option.{Option, some, none}
use Rattle.std.specs.Borrow.{Bor}
use Rattle.wire.specs.Bytes.{pick}
use Rattle.wire.specs.Field.{and_then, field_at}
use Rattle.wire.specs.Int.{is_negative, int_at}
use Rattle.wire.specs.Find.{index_of, NoZero}

-- what a startup message says, and the bytes after it
pub record Startup : Type 0 where
  pub version : ℤ
  pub parameters : List (List ℕ × List ℕ)
  pub rest : List ℕ

-- a String at the front: the bytes before the first zero byte, and those after it
abbrev pub string_by : List ℕ → Option ℕ → Option (List ℕ × List ℕ)
string_by s none = none
string_by s (some i) = some (take i s, drop (i + 1) s)

-- the String at the front, where a zero byte ends one
unfoldable pub string_of : List ℕ → Option (List ℕ × List ℕ)
string_of s = string_by s (index_of 0 s)

-- by a name and the bytes after it: an empty name is the terminator, after which nothing stands; any other has a value
abbrev pub pair_by : List ℕ → List ℕ → (List ℕ → Option (List (List ℕ × List ℕ))) → Option (List (List ℕ × List ℕ))
pair_by [] [] go = some []
pair_by [] (b ∷ s) go = none
pair_by (c ∷ name) s go = and_then (string_of s) (λ value. and_then (go value.1) (λ pairs. some ((c ∷ name, value.0) ∷ pairs)))

-- at most n names, the terminator among them
unfoldable pub pairs_from : ℕ → List ℕ → Option (List (List ℕ × List ℕ))
pairs_from zero s = none
pairs_from (suc n) s = and_then (string_of s) (λ name. pair_by name.0 name.1 (pairs_from n))

-- every name takes a byte at least
unfoldable pub pairs_of : List ℕ → Option (List (List ℕ × List ℕ))
pairs_of s = pairs_from (length s) s

-- by the bytes of a message, its length field with them, and those after it
abbrev pub startup_by : List ℕ → List ℕ → Option Startup
startup_by m rest =
    and_then (int_at 4 m 4) (λ version.
    and_then (pairs_of (drop 8 m)) (λ pairs.
    some (record { version = version; parameters = pairs; rest = rest })))

-- a startup message at the front: as many bytes as its length field says, which is no negative number
unfoldable pub startup_of : List ℕ → Option Startup
startup_of s =
    and_then (field_at 4 s 0) (λ n.
    pick (is_negative 4 n) none
    (pick (ltb (length s) n) none
    (startup_by (take n s) (drop n s))))

-- ---- what is sent

-- names and values in turn; a name without a value has the empty one
abbrev pub paired : List (Bor (List ℕ)) → List (List ℕ × List ℕ)
paired [] = []
paired (name ∷ []) = (name.now, []) ∷ []
paired (name ∷ value ∷ rest) = (name.now, value.now) ∷ paired rest

-- no text has a zero byte, and no name is empty
abbrev pub Sendable : List (Bor (List ℕ)) → Type 0
Sendable [] = Unit
Sendable (name ∷ []) = NoZero name.now × (name.now ≡ [] → ⊥)
Sendable (name ∷ value ∷ rest) = NoZero name.now × (name.now ≡ [] → ⊥) × NoZero value.now × Sendable rest
