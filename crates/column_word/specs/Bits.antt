-- Fields of so many bits each in one number, the first field in the most significant bits. 02, wish 12; SCOPE 17.
use Rattle.std.specs.Prelude.{ℕ, ◌+◌, ◌*◌, ◌/◌, ◌%◌, ◌^◌, ◌<◌, ◌≡◌, List, [], ◌∷◌}

-- how many bits fields of these widths take
unfoldable pub bits : List ℕ → ℕ
bits [] = 0
bits (w ∷ ws) = w + bits ws

-- the number whose fields of these widths have these values
unfoldable pub packed : List ℕ → List ℕ → ℕ
packed [] vs = 0
packed (w ∷ ws) [] = 0
packed (w ∷ ws) (v ∷ vs) = v * 2 ^ bits ws + packed ws vs

-- the values of the fields of these widths in a number
unfoldable pub unpacked : List ℕ → ℕ → List ℕ
unpacked [] n = []
unpacked (w ∷ ws) n = n / 2 ^ bits ws % 2 ^ w ∷ unpacked ws (n % 2 ^ bits ws)

-- there are as many values as widths, and each fits its width
unfoldable pub Fit : List ℕ → List ℕ → Type 0
Fit [] [] = Unit
Fit [] (v ∷ vs) = ⊥
Fit (w ∷ ws) [] = ⊥
Fit (w ∷ ws) (v ∷ vs) = (v < 2 ^ w) × Fit ws vs

-- Packing and unpacking are inverse, for any widths.
pub record Inverse : Type 0 where
  pub values : (ws vs : List ℕ) → Fit ws vs → unpacked ws (packed ws vs) ≡ vs
  pub number : (ws : List ℕ) (n : ℕ) → n < 2 ^ bits ws → packed ws (unpacked ws n) ≡ n
  pub fits : (ws : List ℕ) (n : ℕ) → Fit ws (unpacked ws n)
  pub below : (ws vs : List ℕ) → Fit ws vs → packed ws vs < 2 ^ bits ws
