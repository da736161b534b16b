-- The UTF-8 encoding of Unicode scalar values: the Unicode Standard, section 3.9, definitions D76 and D92 and Table 3-6. SCOPE 2.6.
use Rattle.std.specs.Prelude.{◌≡◌, List, [], ◌∷◌, map, ◌⊎◌, ℕ, ◌+◌, ◌/◌, ◌%◌, ◌≤◌, ◌<◌, ltb}
use Rattle.wire.specs.Bytes.{pick}
use Rattle.lossy.specs.Lossy.{lossy_of}
use Rattle.lossy.specs.Parts.{Sequence, concat}

-- a code point that is no surrogate
abbrev pub Scalar : ℕ → Type 0
Scalar c = (c < 0xD800) ⊎ ((0xE000 ≤ c) × (c ≤ 0x10FFFF))

-- a byte of the six bits of c from the bit on whose value is v
abbrev pub trailing : ℕ → ℕ → ℕ
trailing c v = 0x80 + c / v % 64

-- one, two, three or four bytes
unfoldable pub utf8 : ℕ → List ℕ
utf8 c =
    pick (ltb c 0x80) (c ∷ [])
    (pick (ltb c 0x800) ((0xC0 + c / 64) ∷ trailing c 1 ∷ [])
    (pick (ltb c 0x10000) ((0xE0 + c / 4096) ∷ trailing c 64 ∷ trailing c 1 ∷ [])
    ((0xF0 + c / 262144) ∷ trailing c 4096 ∷ trailing c 64 ∷ trailing c 1 ∷ [])))

abbrev pub AllScalars : List ℕ → Type 0
AllScalars [] = Unit
AllScalars (c ∷ cs) = Scalar c × AllScalars cs

-- the encoding of a scalar value is a sequence of Table 3-7
abbrev pub ScalarIsSequence : Type 0
ScalarIsSequence = (c : ℕ) → Scalar c → Sequence (utf8 c)

-- the table has no other sequences: each encodes a scalar value
abbrev pub SequenceIsScalar : Type 0
SequenceIsScalar = (s : List ℕ) → Sequence s → (c : ℕ) × Scalar c × (utf8 c ≡ s)

-- so the encoding of any scalar values is its own lossy text
abbrev pub EncodedIsUnchanged : Type 0
EncodedIsUnchanged = (cs : List ℕ) → AllScalars cs → lossy_of (concat (map utf8 cs)) ≡ concat (map utf8 cs)
