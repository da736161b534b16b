-- The service page: six lines, each a label flush left in 12 characters, a value flush right in 20, and a newline. 02, wish 9.
use Rattle.std.specs.Prelude.{ℕ, ◌-◌, Bool, List, [], ◌∷◌, ◌++◌, length, get_or, replicate}
use Rattle.wire.specs.Bytes.{pick}
use Rattle.text.specs.Ascii.{ascii}
use Rattle.text.specs.Numeral.{decimal_text}
use Rattle.lsn.specs.Position.{display_of}
use Rattle.page.specs.declared.Page.{Page}

abbrev pub spaces : ℕ → List ℕ
spaces n = replicate n 32

-- a text in n characters, filled with spaces after it
abbrev pub flush_left : ℕ → List ℕ → List ℕ
flush_left n t = t ++ spaces (n - length t)

-- a text in n characters, filled with spaces before it
abbrev pub flush_right : ℕ → List ℕ → List ℕ
flush_right n t = spaces (n - length t) ++ t

-- a label, its value and a newline
unfoldable pub line_of : List ℕ → List ℕ → List ℕ
line_of label value = flush_left 12 label ++ (flush_right 20 value ++ (10 ∷ []))

-- what the last status confirmed; before the first status a single hyphen
abbrev pub sent_text : Bool → ℕ → List ℕ
sent_text sent confirmed = pick sent (display_of confirmed) (ascii "-")

-- the states' names in the order of the step table
unfoldable pub state_names : List (List ℕ)
state_names =
    ascii "OPENING"
    ∷ ascii "TURN"
    ∷ ascii "DRAIN"
    ∷ ascii "READING"
    ∷ ascii "WAITING"
    ∷ ascii "HANDLING"
    ∷ ascii "OFFERING"
    ∷ []

-- a state's name by its row in the step table, counted from 0; all other numbers stand for a run that has ended
abbrev pub state_name : ℕ → List ℕ
state_name n = get_or state_names n (ascii "ENDED")

unfoldable pub page_of : Page → List ℕ
page_of p =
    line_of (ascii "POSITION") (display_of p.position.0)
    ++ (line_of (ascii "SENT") (sent_text p.sent p.confirmed.0)
    ++ (line_of (ascii "SERVER") (display_of p.server.0)
    ++ (line_of (ascii "EVENTS") (decimal_text p.events)
    ++ (line_of (ascii "STALLS") (decimal_text p.stalls)
    ++ line_of (ascii "STATE") (state_name p.state)))))
