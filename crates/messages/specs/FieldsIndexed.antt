-- The fields of an error by their index, over all payloads: index 0 to 14 is the field of the letter that stands there in S C M D H P W s t c d n F L
-- R, any other index has none; and where in the payload it stands. SCOPE 2.4; PostgreSQL documentation, "Error and Notice Message Fields".
use Rattle.std.specs.Prelude.{◌≡◌, true, false, List, [], ◌∷◌, ◌++◌, ℕ, zero, suc, ◌+◌, ◌≤◌, length, ℤ, pos, Option as Answer, None, Ok, Err}
use Rattle.std.proofs.Math.Option.{Option, some, none}
use Rattle.wire.specs.Bytes.{be}
use Rattle.wire.specs.Int.{int}
use Rattle.wire.specs.Find.{NoZero}
use Rattle.error.specs.declared.Refusal.{Refusal}
use Rattle.error.specs.Refusal.{number_of}
use Rattle.messages.specs.declared.Field.{Field}
use Rattle.messages.specs.Auth.{auth_of, auth_outcome}
use Rattle.messages.specs.Fields.{fields_of, indexed, is_given, part_of}
use Rattle.messages.specs.FieldLayout.{Laid}
use Rattle.messages.specs.FieldsSent.{fifteen, last_value, value_given, text_of, value_marks}
use Rattle.messages.specs.ErrorText.{error_text, error_marks}

-- the letter at a place of a list, where it has that place
abbrev pub letter_at : List ℕ → ℕ → Option ℕ
letter_at [] i = none
letter_at (l ∷ ls) zero = some l
letter_at (l ∷ ls) (suc i) = letter_at ls i

-- none of the fields has the letter
abbrev pub NoLetter : ℕ → List (ℕ × List ℕ) → Type 0
NoLetter letter [] = Unit
NoLetter letter (f ∷ fs) = (f.0 ≡ letter → ⊥) × NoLetter letter fs

-- the field's value stands behind its letter, and a zero byte ends it
pub record Behind (payload : List ℕ) (letter : ℕ) (f : Answer Field) : Type 0 where
  pub before : List ℕ
  pub value : List ℕ
  pub rest : List ℕ
  pub whole : payload ≡ before ++ (letter ∷ (value ++ (0 ∷ rest)))
  pub no_zero : NoZero value
  pub from : (part_of f).0 ≡ length before + 1
  pub len : (part_of f).1 ≡ length value

pub record IndexLaws : Type 0 where
  -- index by index, the last value of the letter in the order of the documentation's list, as the payload is laid out
  pub by_letter : (payload : List ℕ) (fs : List (ℕ × List ℕ)) (i letter : ℕ) → Laid payload fs → letter_at fifteen i ≡ some letter
      → value_given payload (indexed (fields_of payload) i) ≡ last_value letter fs
  -- a field that is given stands behind its letter; one that is not has no place
  pub behind : (payload : List ℕ) (i letter : ℕ) → letter_at fifteen i ≡ some letter → is_given (indexed (fields_of payload) i) ≡ true
      → Behind payload letter (indexed (fields_of payload) i)
  pub not_given : (payload : List ℕ) (i : ℕ) → is_given (indexed (fields_of payload) i) ≡ false
      → indexed (fields_of payload) i ≡ None
  -- fifteen indices have a letter, and no other has a field, whatever the fields are
  pub fifteen_letters : length fifteen ≡ 15
  pub no_other : (fields : List (Answer Field)) (i : ℕ) → 15 ≤ i → indexed fields i ≡ None
  -- the last value of a letter: that after which the letter does not come again, and none where it does not come
  pub last : (letter : ℕ) (v : List ℕ) (a b : List (ℕ × List ℕ)) → NoLetter letter b → last_value letter (a ++ ((letter, v) ∷ b)) ≡ some v
  pub last_none : (letter : ℕ) (fs : List (ℕ × List ℕ)) → NoLetter letter fs → last_value letter fs ≡ none
  -- the text and the marks of any fields of any payload go by index 2, the message, and index 1, the code
  pub text : (fields : List (Answer Field)) (payload : List ℕ)
      → error_text fields payload ≡ text_of (value_given payload (indexed fields 2)) (value_given payload (indexed fields 1))
  pub text_marks : (fields : List (Answer Field)) (payload : List ℕ)
      → error_marks fields payload ≡ value_marks (value_given payload (indexed fields 2)) + value_marks (value_given payload (indexed fields 1))
  -- every authentication request of four bytes or more is read: the code in the first four, and all after them
  pub auth_read : (a b c d : ℕ) (rest : List ℕ) → auth_of (a ∷ b ∷ c ∷ d ∷ rest) ≡ (0, int 4 (be (a ∷ b ∷ c ∷ d ∷ [])), 4, length rest)
  -- what the answers to one say
  pub asked : (code : ℤ) (from len : ℕ) → auth_outcome (Ok (record { code = code; from = from; len = len })) ≡ (0, code, from, len)
  pub not_asked : (r : Refusal) → auth_outcome (Err r) ≡ (number_of r, pos 0, 0, 0)
