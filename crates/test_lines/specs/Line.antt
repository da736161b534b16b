-- The lines that programs print: texts placed one after the other, and the texts of each kind of field. SCOPE 11.4, 11.5.
use Rattle.std.specs.Prelude.{ℕ, ◌+◌, ◌*◌, ◌-◌, ◌%◌, min, Bool, List, [], ◌∷◌, ◌++◌, length, ℤ, leb, ltb}
use Rattle.wire.specs.Bytes.{pick, at, placed}
use Rattle.text.specs.Numeral.{decimal_text, signed_text, hex_bytes}
use Rattle.lsn.specs.declared.Lsn.{Lsn}
use Rattle.lsn.specs.Position.{display_of}

-- a sum with one byte more
abbrev pub sum_next : ℕ → ℕ → ℕ
sum_next h b = (31 * h + b) % 4294967296

-- the sum h with the bytes after it
unfoldable pub sum_from : ℕ → List ℕ → ℕ
sum_from h [] = h
sum_from h (b ∷ s) = sum_from (sum_next h b) s

-- the sum of a buffer
unfoldable pub sum_of : List ℕ → ℕ
sum_of s = sum_from 7 s

-- the place after what was taken of the bytes between two places
abbrev pub after_of : ℕ → ℕ → ℕ → ℕ
after_of from to taken = pick (ltb to from) to (from + min taken (to - from))

-- texts one after the other from place i on, each where it fits, and the place after them
unfoldable pub pieces : List ℕ → ℕ → List (List ℕ) → ℕ × List ℕ
pieces d i [] = (i, d)
pieces d i (t ∷ ts) = pieces (placed d i t).1 (placed d i t).0 ts

-- a space and a text
abbrev pub field : List ℕ → List (List ℕ)
field t = (32 ∷ []) ∷ t ∷ []

abbrev pub number_texts : ℕ → List (List ℕ)
number_texts n = field (decimal_text n)

abbrev pub signed_texts : ℤ → List (List ℕ)
signed_texts z = field (signed_text z)

abbrev pub flag_texts : Bool → List (List ℕ)
flag_texts on = (32 ∷ pick on 49 48 ∷ []) ∷ []

-- bytes in hexadecimal, a hyphen for none
abbrev pub bytes_texts : List ℕ → List (List ℕ)
bytes_texts [] = (32 ∷ 45 ∷ []) ∷ []
bytes_texts (b ∷ s) = field (hex_bytes (b ∷ s))

-- whether a part lies within a slice
abbrev pub is_within : List ℕ → ℕ → ℕ → Bool
is_within s from len = leb (from + len) (length s)

-- ` outside`
abbrev pub outside_texts : List (List ℕ)
outside_texts = (32 ∷ 111 ∷ 117 ∷ 116 ∷ 115 ∷ 105 ∷ 100 ∷ 101 ∷ []) ∷ []

-- the bytes that a part names, or that it does not lie within the slice
unfoldable pub part_texts : List ℕ → ℕ → ℕ → List (List ℕ)
part_texts s from len = pick (is_within s from len) (bytes_texts (at s from len)) outside_texts

abbrev pub position_texts : ℕ → List (List ℕ)
position_texts p = field (display_of p)

-- a letter, a position and a time
abbrev pub dated_texts : ℕ → Lsn → ℤ → List (List ℕ)
dated_texts letter p time = (letter ∷ []) ∷ (position_texts p.0 ++ signed_texts time)

-- a letter, two positions and a time
abbrev pub spanned_texts : ℕ → Lsn → Lsn → ℤ → List (List ℕ)
spanned_texts letter p q time = (letter ∷ []) ∷ (position_texts p.0 ++ (position_texts q.0 ++ signed_texts time))

-- `M`, a flag and a position
abbrev pub flagged_texts : Bool → Lsn → List (List ℕ)
flagged_texts on p = (77 ∷ []) ∷ (flag_texts on ++ position_texts p.0)

abbrev pub end_texts : List (List ℕ)
end_texts = (10 ∷ []) ∷ []
