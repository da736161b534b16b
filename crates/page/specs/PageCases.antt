-- Pages and state names, character by character. 02, wish 9.
use Rattle.std.specs.Prelude.{◌≡◌, refl, Bool, true, false, List, [], ◌∷◌, ◌++◌, ℕ}
use Rattle.text.specs.Ascii.{ascii}
use Rattle.text.specs.Numeral.{numeral}
use Rattle.lsn.specs.Position.{display_of}
use Rattle.page.specs.declared.Page.{Page}
use Rattle.page.specs.Page.{line_of, state_names, state_name, page_of}

abbrev pub page : ℕ → Bool → ℕ → ℕ → ℕ → ℕ → ℕ → Page
page position sent confirmed server events stalls state =
    record {
      position = record { 0 = position };
      sent = sent;
      confirmed = record { 0 = confirmed };
      server = record { 0 = server };
      events = events;
      stalls = stalls;
      state = state;
    }

abbrev pub newline : List ℕ
newline = 10 ∷ []

pub record PageCases : Type 0 where
  -- before the first status
  pub fresh : page_of (page 0x16B374D848 false 0 0 0 0 0)
      ≡ ascii "POSITION             16/B374D848" ++ newline
      ++ ascii "SENT                           -" ++ newline
      ++ ascii "SERVER                       0/0" ++ newline
      ++ ascii "EVENTS                         0" ++ newline
      ++ ascii "STALLS                         0" ++ newline
      ++ ascii "STATE                    OPENING" ++ newline
  -- a status that confirmed position 0 is no hyphen
  pub confirmed_zero : page_of (page 0 true 0 0x10 7 1 1)
      ≡ ascii "POSITION                     0/0" ++ newline
      ++ ascii "SENT                         0/0" ++ newline
      ++ ascii "SERVER                      0/10" ++ newline
      ++ ascii "EVENTS                         7" ++ newline
      ++ ascii "STALLS                         1" ++ newline
      ++ ascii "STATE                       TURN" ++ newline
  -- every value at its largest
  pub largest : page_of (page 0xFFFFFFFFFFFFFFFF true 0xFFFFFFFFFFFFFFFF 0xFFFFFFFFFFFFFFFF 18446744073709551615 18446744073709551615 7)
      ≡ ascii "POSITION       FFFFFFFF/FFFFFFFF" ++ newline
      ++ ascii "SENT           FFFFFFFF/FFFFFFFF" ++ newline
      ++ ascii "SERVER         FFFFFFFF/FFFFFFFF" ++ newline
      ++ ascii "EVENTS      18446744073709551615" ++ newline
      ++ ascii "STALLS      18446744073709551615" ++ newline
      ++ ascii "STATE                      ENDED" ++ newline
  pub opening : state_name 0 ≡ ascii "OPENING"
  pub turn : state_name 1 ≡ ascii "TURN"
  pub drain : state_name 2 ≡ ascii "DRAIN"
  pub reading : state_name 3 ≡ ascii "READING"
  pub waiting : state_name 4 ≡ ascii "WAITING"
  pub handling : state_name 5 ≡ ascii "HANDLING"
  pub offering : state_name 6 ≡ ascii "OFFERING"
  pub ended : state_name 7 ≡ ascii "ENDED"

pub page_cases : PageCases
unfolding ascii numeral display_of line_of state_names page_of
page_cases =
    record {
      fresh = refl;
      confirmed_zero = refl;
      largest = refl;
      opening = refl;
      turn = refl;
      drain = refl;
      reading = refl;
      waiting = refl;
      handling = refl;
      offering = refl;
      ended = refl;
    }
