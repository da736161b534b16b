-- Cases and laws of position texts, in plain bytes: SCOPE 2.1, 2.2; 01, "Where each call turns back", 22 to 24, as 02, wish 6, widens them.
use Rattle.std.specs.Prelude.{◌≡◌, [], ◌∷◌, ℕ, ◌<◌, ◌^◌}
use Rattle.std.proofs.Math.Option.{some, none}
use Rattle.lsn.specs.Hex.{digit_of}
use Rattle.lsn.specs.Position.{position_of, display_of}

-- a digit of each range at its ends, and the characters around them, which are no digits
pub record DigitCases : Type 0 where
  pub d_zero : digit_of 48 ≡ some 0
  pub d_nine : digit_of 57 ≡ some 9
  pub d_upper_a : digit_of 65 ≡ some 10
  pub d_upper_f : digit_of 70 ≡ some 15
  pub d_lower_a : digit_of 97 ≡ some 10
  pub d_lower_f : digit_of 102 ≡ some 15
  pub no_slash : digit_of 47 ≡ none
  pub no_colon : digit_of 58 ≡ none
  pub no_at : digit_of 64 ≡ none
  pub no_upper_g : digit_of 71 ≡ none
  pub no_backquote : digit_of 96 ≡ none
  pub no_lower_g : digit_of 103 ≡ none

-- texts that are read: the refusal's number, 0 for none, and the position
pub record ParseCases : Type 0 where
  -- `a/f`: digits of both cases
  pub lower_case : position_of (97 ∷ 47 ∷ 102 ∷ []) ≡ (0, 0xA0000000F)
  -- `aB/Cd`
  pub mixed_case : position_of (97 ∷ 66 ∷ 47 ∷ 67 ∷ 100 ∷ []) ≡ (0, 0xAB000000CD)
  -- leading zeros, up to eight digits in all: `00000001/00000002`
  pub leading_zeros : position_of (48 ∷ 48 ∷ 48 ∷ 48 ∷ 48 ∷ 48 ∷ 48 ∷ 49 ∷ 47 ∷ 48 ∷ 48 ∷ 48 ∷ 48 ∷ 48 ∷ 48 ∷ 48 ∷ 50 ∷ []) ≡ (0, 0x100000002)
  -- eight digits in each part: `FFFFFFFF/FFFFFFFF`
  pub largest_text : position_of (70 ∷ 70 ∷ 70 ∷ 70 ∷ 70 ∷ 70 ∷ 70 ∷ 70 ∷ 47 ∷ 70 ∷ 70 ∷ 70 ∷ 70 ∷ 70 ∷ 70 ∷ 70 ∷ 70 ∷ []) ≡ (0, 0xFFFFFFFFFFFFFFFF)
  -- no slash: 22
  pub twenty_two : position_of (49 ∷ 54 ∷ 66 ∷ 51 ∷ 55 ∷ 52 ∷ 68 ∷ 56 ∷ 52 ∷ 56 ∷ []) ≡ (22, 0)
  pub twenty_two_empty : position_of ([]) ≡ (22, 0)
  -- a bad part before the slash: 23
  pub twenty_three : position_of (120 ∷ 47 ∷ 49 ∷ []) ≡ (23, 0)
  pub twenty_three_empty : position_of (47 ∷ 49 ∷ []) ≡ (23, 0)
  pub twenty_three_sign_alone : position_of (43 ∷ 47 ∷ 49 ∷ []) ≡ (23, 0)
  pub twenty_three_plus : position_of (43 ∷ 49 ∷ 47 ∷ 49 ∷ []) ≡ (23, 0)
  pub twenty_three_minus : position_of (45 ∷ 49 ∷ 47 ∷ 49 ∷ []) ≡ (23, 0)
  pub twenty_three_blank : position_of (32 ∷ 49 ∷ 47 ∷ 49 ∷ []) ≡ (23, 0)
  pub twenty_three_blank_after : position_of (49 ∷ 32 ∷ 47 ∷ 49 ∷ []) ≡ (23, 0)
  -- nine digits: of any value, zero too
  pub twenty_three_nine : position_of (49 ∷ 48 ∷ 48 ∷ 48 ∷ 48 ∷ 48 ∷ 48 ∷ 48 ∷ 48 ∷ 47 ∷ 49 ∷ []) ≡ (23, 0)
  pub twenty_three_nine_zeros : position_of (48 ∷ 48 ∷ 48 ∷ 48 ∷ 48 ∷ 48 ∷ 48 ∷ 48 ∷ 48 ∷ 47 ∷ 48 ∷ []) ≡ (23, 0)
  -- both parts bad: 23
  pub twenty_three_first : position_of (103 ∷ 47 ∷ 103 ∷ []) ≡ (23, 0)
  pub twenty_three_before_empty : position_of (43 ∷ 48 ∷ 47 ∷ []) ≡ (23, 0)
  -- a bad part after the slash: 24
  pub twenty_four : position_of (49 ∷ 47 ∷ 120 ∷ []) ≡ (24, 0)
  pub twenty_four_empty : position_of (49 ∷ 47 ∷ []) ≡ (24, 0)
  pub twenty_four_plus : position_of (49 ∷ 47 ∷ 43 ∷ 50 ∷ []) ≡ (24, 0)
  pub twenty_four_nine : position_of (48 ∷ 47 ∷ 49 ∷ 48 ∷ 48 ∷ 48 ∷ 48 ∷ 48 ∷ 48 ∷ 48 ∷ 48 ∷ []) ≡ (24, 0)
  pub twenty_four_return : position_of (49 ∷ 47 ∷ 50 ∷ 13 ∷ []) ≡ (24, 0)
  -- only the first slash parts the text
  pub twenty_four_slash : position_of (49 ∷ 47 ∷ 50 ∷ 47 ∷ 51 ∷ []) ≡ (24, 0)

-- texts that are written
pub record DisplayCases : Type 0 where
  pub zero : display_of 0 ≡ 48 ∷ 47 ∷ 48 ∷ []
  pub upper_case : display_of 0xABCDEF ≡ 48 ∷ 47 ∷ 65 ∷ 66 ∷ 67 ∷ 68 ∷ 69 ∷ 70 ∷ []
  pub both_halves : display_of 0x16B374D848 ≡ 49 ∷ 54 ∷ 47 ∷ 66 ∷ 51 ∷ 55 ∷ 52 ∷ 68 ∷ 56 ∷ 52 ∷ 56 ∷ []
  pub unpadded : display_of 0x100000002 ≡ 49 ∷ 47 ∷ 50 ∷ []
  pub largest : display_of 0xFFFFFFFFFFFFFFFF ≡ 70 ∷ 70 ∷ 70 ∷ 70 ∷ 70 ∷ 70 ∷ 70 ∷ 70 ∷ 47 ∷ 70 ∷ 70 ∷ 70 ∷ 70 ∷ 70 ∷ 70 ∷ 70 ∷ 70 ∷ []

-- every position's text is read back as the position
abbrev pub DisplayIsRead : Type 0
DisplayIsRead = (v : ℕ) → v < 2 ^ 64 → position_of (display_of v) ≡ (0, v)
