-- An answer as words, and what each word says. SCOPE 9.8. 02, wish 11.
use Rattle.std.specs.Prelude.{◌≡◌, refl, Bool, true, false, List, [], ◌∷◌, ℕ, ◌-◌, ◌^◌, ℤ, pos, negsuc}
use Rattle.std.proofs.Math.Option.{Option, some, none}
use Rattle.wire.specs.Bytes.{flag_word}
use Rattle.wire.specs.Field.{unsigned}
use Rattle.wire.specs.Int.{value}
use Rattle.hours.specs.Answer.{hours_of}
use Rattle.hours.specs.Calendar.{hours}

-- whether the hall is open, whether that changes, and when, in two's complement; 0 for never
abbrev pub told_words : Bool → Option ℤ → List ℕ
told_words state (some t) = flag_word state ∷ 1 ∷ value 8 t ∷ []
told_words state none = flag_word state ∷ 0 ∷ 0 ∷ []

-- the refusal's number, 0 for none, and the words, all 0 where the question is refused
abbrev pub answer_reply : ℕ × (Bool × Option ℤ) → ℕ × List ℕ
answer_reply a = (a.0, told_words a.1.0 a.1.1)

-- `rufflesquash_hours`, with opening and closing minutes, an offset and a moment: the refusal's number, 0 for none, and three words
abbrev pub hours_call : List ℕ → List ℕ → ℤ → ℤ → ℕ × List ℕ
hours_call opens closes offset moment = answer_reply (hours_of (hours opens closes offset) moment)

-- the words literally
pub record HoursWords : Type 0 where
  pub open_till : answer_reply (0, (true, some (pos 5))) ≡ (0, 1 ∷ 1 ∷ 5 ∷ [])
  pub shut_till : answer_reply (0, (false, some (negsuc 0))) ≡ (0, 0 ∷ 1 ∷ (2 ^ 64 - 1) ∷ [])
  pub open_always : answer_reply (0, (true, none)) ≡ (0, 1 ∷ 0 ∷ 0 ∷ [])
  pub shut_always : answer_reply (0, (false, none)) ≡ (0, 0 ∷ 0 ∷ 0 ∷ [])
  pub refused : answer_reply (34, (false, none)) ≡ (34, 0 ∷ 0 ∷ 0 ∷ [])

-- each by computing
pub hours_words : HoursWords
unfolding unsigned
hours_words = record { open_till = refl; shut_till = refl; open_always = refl; shut_always = refl; refused = refl }
