-- Each case by computing the definitions.
use mathlib.Core.Path.{refl}
use Rattle.wire.specs.Find.{index_of}
use Rattle.text.specs.Numeral.{numeral}
use Rattle.lsn.specs.Hex.{digit_of, value_from, hex_part}
use Rattle.lsn.specs.Position.{joined, position_of, display_of}
use Rattle.lsn.specs.PositionCases.{DigitCases, ParseCases, DisplayCases, DisplayIsRead}
use Rattle.lsn.proofs.ReadBack.{read_back}

pub digit_cases : DigitCases
unfolding digit_of
digit_cases =
    record {
      d_zero = refl;
      d_nine = refl;
      d_upper_a = refl;
      d_upper_f = refl;
      d_lower_a = refl;
      d_lower_f = refl;
      no_slash = refl;
      no_colon = refl;
      no_at = refl;
      no_upper_g = refl;
      no_backquote = refl;
      no_lower_g = refl;
    }

pub parse_cases : ParseCases
unfolding index_of digit_of value_from hex_part joined position_of
parse_cases =
    record {
      lower_case = refl;
      mixed_case = refl;
      leading_zeros = refl;
      largest_text = refl;
      twenty_two = refl;
      twenty_two_empty = refl;
      twenty_three = refl;
      twenty_three_empty = refl;
      twenty_three_sign_alone = refl;
      twenty_three_plus = refl;
      twenty_three_minus = refl;
      twenty_three_blank = refl;
      twenty_three_blank_after = refl;
      twenty_three_nine = refl;
      twenty_three_nine_zeros = refl;
      twenty_three_first = refl;
      twenty_three_before_empty = refl;
      twenty_four = refl;
      twenty_four_empty = refl;
      twenty_four_plus = refl;
      twenty_four_nine = refl;
      twenty_four_return = refl;
      twenty_four_slash = refl;
    }

pub display_cases : DisplayCases
unfolding numeral display_of
display_cases =
    record {
      zero = refl;
      upper_case = refl;
      both_halves = refl;
      unpadded = refl;
      largest = refl;
    }

pub display_is_read : DisplayIsRead
display_is_read = read_back
