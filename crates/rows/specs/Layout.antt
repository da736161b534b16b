-- A language for the layouts of messages, after the PostgreSQL documentation's own ("Message Data Types"): fields in the order in which they are
-- sent. Reading a layout at a place of the data gives the values and the place after them, or says why the first bad field in that order is bad:
-- it is cut short, or its count or length is negative (refusal 26), or a letter stands there that the document does not list (refusal 27).
use Rattle.std.specs.Prelude.{◌≡◌, true, List, [], ◌∷◌, ◌++◌, ◌⊎◌, ℕ, zero, suc, ◌+◌, ◌-◌, ◌<◌, ◌^◌, length, drop, ℤ, eqb, ltb}
use Rattle.std.proofs.Common.{inl, inr}
use Rattle.std.proofs.Math.Option.{Option, some, none}
use Rattle.std.specs.Int.Signed.{mag}
use Rattle.std.proofs.Math.Pow.{are_bytes}
use Rattle.wire.specs.Bytes.{pick, at, be_bytes}
use Rattle.wire.specs.Field.{field_at}
use Rattle.wire.specs.Int.{half, is_negative, int_at, int_bytes}
use Rattle.wire.specs.Find.{index_of, NoZero}

-- number n: Int of n bytes, by its value. integer: Int32, signed. name: String, ended by a zero byte. value: Int32 length and Byten.
-- many n a b: Int of n bytes that says how many, the fields a, and so many times the fields b. both: one after the other.
-- letter: Byte1, and the fields that the document lists under it
mutual
  pub data Layout : Type 0 where
    number : ℕ → Layout
    integer : Layout
    name : Layout
    value : Layout
    many : ℕ → Layout → Layout → Layout
    both : Layout → Layout → Layout
    nothing : Layout
    letter : Letters → Layout

  pub data Letters : Type 0 where
    no_other : Letters
    or : ℕ → Layout → Letters → Letters

-- the values of a layout
abbrev mutual
  pub Value : Layout → Type 0
  Value (number n) = ℕ
  Value integer = ℤ
  Value name = List ℕ
  Value value = List ℕ
  Value (many n a b) = Value a × List (Value b)
  Value (both a b) = Value a × Value b
  Value nothing = Unit
  Value (letter ls) = Choice ls

  pub Choice : Letters → Type 0
  Choice no_other = ⊥
  Choice (or c a ls) = Value a ⊎ Choice ls

-- ---- reading

-- the values and the place after them, or the number of the refusal that the first bad field gives
pub data Read (A : Type 0) : Type 0 where
  got : A → ℕ → Read A
  refused : ℕ → Read A

-- a field is cut short, or a count or length is negative
abbrev pub cut : {A : Type 0} → Read A
cut = refused 26

-- a letter stands where the document does not list it
abbrev pub wrong : {A : Type 0} → Read A
wrong = refused 27

-- what stands after fields that were read
abbrev pub after : {A B : Type 0} → Read A → (A → ℕ → Read B) → Read B
after (got v j) go = go v j
after (refused n) go = refused n

-- a function of the values that were read
abbrev pub mapped : {A B : Type 0} → (A → B) → Read A → Read B
mapped f (got v j) = got (f v) j
mapped f (refused n) = refused n

-- a number of n bytes from place i, which may be cut
abbrev pub number_by : {A : Type 0} → ℕ → ℕ → Option A → Read A
number_by n i none = cut
number_by n i (some v) = got v (i + n)

-- a name from place i, by where its zero byte was found
abbrev pub name_by : List ℕ → ℕ → Option ℕ → Read (List ℕ)
name_by s i none = cut
name_by s i (some n) = got (at s i n) (i + n + 1)

-- a count or length, which is not negative
unfoldable pub count_at : ℕ → List ℕ → ℕ → Read ℕ
count_at n s i = after (number_by n i (field_at n s i)) (λ v j. pick (is_negative n v) cut (got v j))

-- n bytes
unfoldable pub bytes_at : ℕ → List ℕ → ℕ → Read (List ℕ)
bytes_at n s i = pick (ltb (length s - i) n) cut (got (at s i n) (i + n))

-- so many times what is read at a place
unfoldable pub times_at : {A : Type 0} → (ℕ → Read A) → ℕ → ℕ → Read (List A)
times_at f zero i = got [] i
times_at f (suc n) i = after (f i) (λ v j. mapped (λ vs. v ∷ vs) (times_at f n j))

-- the fields of a layout from place i on, in their order
unfoldable mutual
  pub read_at : (l : Layout) → List ℕ → ℕ → Read (Value l)
  read_at (number n) s i = number_by n i (field_at n s i)
  read_at integer s i = number_by 4 i (int_at 4 s i)
  read_at name s i = name_by s i (index_of 0 (drop i s))
  read_at value s i = after (count_at 4 s i) (λ n j. bytes_at n s j)
  read_at (many n a b) s i = after (count_at n s i) (λ k j. after (read_at a s j) (λ v p. mapped (λ vs. (v, vs)) (times_at (λ q. read_at b s q) k p)))
  read_at (both a b) s i = after (read_at a s i) (λ v j. mapped (λ w. (v, w)) (read_at b s j))
  read_at nothing s i = got tt i
  read_at (letter ls) s i = after (number_by 1 i (field_at 1 s i)) (λ b j. choose_at ls b s j)

  -- by the letter b, the fields that are listed under it
  pub choose_at : (ls : Letters) → ℕ → List ℕ → ℕ → Read (Choice ls)
  choose_at no_other b s i = wrong
  choose_at (or c a ls) b s i = pick (eqb b c) (mapped inl (read_at a s i)) (mapped inr (choose_at ls b s i))

-- ---- what is sent

-- one after the other
unfoldable pub all_bytes : {A : Type 0} → (A → List ℕ) → List A → List ℕ
all_bytes f [] = []
all_bytes f (v ∷ vs) = f v ++ all_bytes f vs

-- the bytes of values; of a choice, its letter and what follows
unfoldable mutual
  pub bytes_of : (l : Layout) → Value l → List ℕ
  bytes_of (number n) v = be_bytes n v
  bytes_of integer z = int_bytes 4 z
  bytes_of name v = v ++ (0 ∷ [])
  bytes_of value v = be_bytes 4 (length v) ++ v
  bytes_of (many n a b) v = be_bytes n (length v.1) ++ (bytes_of a v.0 ++ all_bytes (λ w. bytes_of b w) v.1)
  bytes_of (both a b) v = bytes_of a v.0 ++ bytes_of b v.1
  bytes_of nothing v = []
  bytes_of (letter ls) w = letter_of ls w ∷ under_of ls w

  pub letter_of : (ls : Letters) → Choice ls → ℕ
  letter_of no_other w = absurd w
  letter_of (or c a ls) (inl v) = c
  letter_of (or c a ls) (inr w) = letter_of ls w

  pub under_of : (ls : Letters) → Choice ls → List ℕ
  under_of no_other w = absurd w
  under_of (or c a ls) (inl v) = bytes_of a v
  under_of (or c a ls) (inr w) = under_of ls w

-- each of them
abbrev pub All : {A : Type 0} → (A → Type 0) → List A → Type 0
All P [] = Unit
All P (v ∷ vs) = P v × All P vs

-- the values can be sent: a number has its bytes, a name no zero byte, a count and a length are not negative
unfoldable mutual
  pub Fits : (l : Layout) → Value l → Type 0
  Fits (number n) v = v < 256 ^ n
  Fits integer z = mag z < half 4
  Fits name v = NoZero v
  Fits value v = length v < half 4
  Fits (many n a b) v = (length v.1 < half n) × Fits a v.0 × All (λ w. Fits b w) v.1
  Fits (both a b) v = Fits a v.0 × Fits b v.1
  Fits nothing v = Unit
  Fits (letter ls) w = ChoiceFits ls w

  pub ChoiceFits : (ls : Letters) → Choice ls → Type 0
  ChoiceFits no_other w = ⊥
  ChoiceFits (or c a ls) (inl v) = Fits a v
  ChoiceFits (or c a ls) (inr w) = ChoiceFits ls w

-- ---- layouts that make sense: a number has a byte at least, letters are bytes and differ

-- none of the letters is c
abbrev pub Unlike : ℕ → Letters → Type 0
Unlike c no_other = Unit
Unlike c (or d a ls) = (d ≡ c → ⊥) × Unlike c ls

abbrev mutual
  pub Proper : Layout → Type 0
  Proper (number n) = 0 < n
  Proper integer = Unit
  Proper name = Unit
  Proper value = Unit
  Proper (many n a b) = (0 < n) × Proper a × Proper b
  Proper (both a b) = Proper a × Proper b
  Proper nothing = Unit
  Proper (letter ls) = ProperLetters ls

  pub ProperLetters : Letters → Type 0
  ProperLetters no_other = Unit
  ProperLetters (or c a ls) = (c < 256) × Proper a × Unlike c ls × ProperLetters ls

-- ---- both directions

-- x stands in s from place i to place j
pub record Stands (s : List ℕ) (i : ℕ) (x : List ℕ) (j : ℕ) : Type 0 where
  pub whole : drop i s ≡ x ++ drop j s
  pub ends : j ≡ i + length x

-- values that can be sent and stand in the data are read, whatever follows them
abbrev pub WrittenIsRead : Type 0
WrittenIsRead =
    (l : Layout) → Proper l → (s : List ℕ) (i : ℕ) (v : Value l) (j : ℕ) → Fits l v → Stands s i (bytes_of l v) j
    → read_at l s i ≡ got v j

-- what is read of data of bytes stands there, and can be sent
abbrev pub ReadIsWritten : Type 0
ReadIsWritten =
    (l : Layout) → Proper l → (s : List ℕ) → are_bytes s ≡ true → (i : ℕ) (v : Value l) (j : ℕ) → read_at l s i ≡ got v j
    → Fits l v × Stands s i (bytes_of l v) j

-- data that end within the bytes of values are cut there: no field before is bad, and the first bad one is cut
abbrev pub CutIsRefused : Type 0
CutIsRefused =
    (l : Layout) → Proper l → (s : List ℕ) (i : ℕ) (v : Value l) (x y : List ℕ) → Fits l v → drop i s ≡ x → x ++ y ≡ bytes_of l v → 0 < length y
    → read_at l s i ≡ cut
