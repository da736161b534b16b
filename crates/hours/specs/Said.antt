-- What each value of an answer says and which words it becomes, over all values. SCOPE 15, 9.8; 02, wish 11.
use Rattle.std.specs.Prelude.{◌≡◌, Bool, true, false, List, [], ◌∷◌, ℕ, ◌+◌, ℤ, pos, negsuc, Some, None, Ok, Err}
use Rattle.std.proofs.Math.Option.{some, none}
use Rattle.error.specs.Refusal.{kind_number}
use Rattle.error.specs.declared.Kind.TheVariants.{Usage}
use Rattle.hours.specs.declared.Refusal.TheVariants.{InvalidWindow, OffsetOutOfRange, MomentOutOfRange}
use Rattle.hours.specs.Calendar.{hours}
use Rattle.hours.specs.Answer.{number_of, kind_of, asked_of}
use Rattle.hours.specs.Words.{answer_reply}

-- an answer's number, state and change; a refusal's number and kind; and that a host's lists and offset go where they belong
pub record AnswersSay : Type 0 where
  pub changes : (state : Bool) (t : ℤ) → asked_of (Ok (record { is_open = state; change = Some t })) ≡ (0, (state, some t))
  pub never : (state : Bool) → asked_of (Ok (record { is_open = state; change = None })) ≡ (0, (state, none))
  pub window : (asked_of (Err InvalidWindow) ≡ (32, (false, none))) × (number_of InvalidWindow ≡ 32)
  pub offset_range : (asked_of (Err OffsetOutOfRange) ≡ (33, (false, none))) × (number_of OffsetOutOfRange ≡ 33)
  pub moment_range : (asked_of (Err MomentOutOfRange) ≡ (34, (false, none))) × (number_of MomentOutOfRange ≡ 34)
  pub kinds : (kind_of InvalidWindow ≡ kind_number Usage) × (kind_of OffsetOutOfRange ≡ kind_number Usage) × (kind_of MomentOutOfRange ≡ kind_number Usage)
  pub calendar : (opens closes : List ℕ) (z : ℤ)
      → ((hours opens closes z).opens ≡ opens) × ((hours opens closes z).closes ≡ closes) × ((hours opens closes z).offset ≡ z)

-- the words of every answer: the number; 1 for open and 0 for shut; 1 and the moment, or 0 and 0 for never. A moment below zero is the word that
-- makes 2 to the 64th with its distance from zero
pub record WordsSay : Type 0 where
  pub open_till : (number n : ℕ) → answer_reply (number, (true, some (pos n))) ≡ (number, 1 ∷ 1 ∷ n ∷ [])
  pub shut_till : (number n : ℕ) → answer_reply (number, (false, some (pos n))) ≡ (number, 0 ∷ 1 ∷ n ∷ [])
  pub before_zero : (number k : ℕ) (state : Bool) (word : ℕ) → word + (k + 1) ≡ 18446744073709551616
      → answer_reply (number, (state, some (negsuc k))) ≡ (number, (answer_reply (number, (state, some (pos word)))).1)
  pub open_always : (number : ℕ) → answer_reply (number, (true, none)) ≡ (number, 1 ∷ 0 ∷ 0 ∷ [])
  pub shut_always : (number : ℕ) → answer_reply (number, (false, none)) ≡ (number, 0 ∷ 0 ∷ 0 ∷ [])
