-- The page line by line, over all pages: six lines in their order, each of 32 characters, a label, blanks and a value spelled as the value is. 02,
-- wish 9; SCOPE 5.12.
use Rattle.std.specs.Prelude.{◌≡◌, Bool, true, false, List, [], ◌∷◌, ◌++◌, ℕ, zero, suc, ◌≤◌, length, replicate}
use Prim.Native.Char.{code}
use Rattle.text.specs.Ascii.{ascii}
use Rattle.text.specs.Spelling.{SpelledTo}
use Rattle.lsn.specs.PositionLaws.{Displayed}
use Rattle.page.specs.declared.Page.{Page}
use Rattle.page.specs.Page.{state_name, page_of}
use Rattle.page.specs.Reader.{In64}

-- a line: its label at the front, its value at the end, blanks between them, 32 characters in all
pub record Line (line label value : List ℕ) : Type 0 where
  pub blanks : ℕ
  pub text : line ≡ label ++ (replicate blanks (code " ") ++ value)
  pub parted : 1 ≤ blanks
  pub width : length line ≡ 32

-- a line whose value is a text of which something is said
pub record LineOf (line label : List ℕ) (Says : List ℕ → Type 0) : Type 0 where
  pub value : List ℕ
  pub says : Says value
  pub is : Line line label value

-- what the line of the last status shows: the position that it confirmed, or a hyphen before the first
abbrev pub SentValue : Bool → ℕ → List ℕ → Type 0
SentValue true confirmed value = Displayed value confirmed
SentValue false confirmed value = value ≡ ascii "-"

-- the states by their rows in the step table, from 0 on; a run that has ended has any other number
abbrev pub state_shown : ℕ → List ℕ
state_shown zero = ascii "OPENING"
state_shown (suc zero) = ascii "TURN"
state_shown (suc (suc zero)) = ascii "DRAIN"
state_shown (suc (suc (suc zero))) = ascii "READING"
state_shown (suc (suc (suc (suc zero)))) = ascii "WAITING"
state_shown (suc (suc (suc (suc (suc zero))))) = ascii "HANDLING"
state_shown (suc (suc (suc (suc (suc (suc zero)))))) = ascii "OFFERING"
state_shown (suc (suc (suc (suc (suc (suc (suc n))))))) = ascii "ENDED"

-- the six lines of a page, each with its newline
pub record Lines (p : Page) : Type 0 where
  pub first : List ℕ
  pub second : List ℕ
  pub third : List ℕ
  pub fourth : List ℕ
  pub fifth : List ℕ
  pub sixth : List ℕ
  pub page : page_of p ≡ first ++ (10 ∷ (second ++ (10 ∷ (third ++ (10 ∷ (fourth ++ (10 ∷ (fifth ++ (10 ∷ (sixth ++ (10 ∷ [])))))))))))
  pub position : LineOf first (ascii "POSITION") (λ v. Displayed v p.position.0)
  pub sent : LineOf second (ascii "SENT") (SentValue p.sent p.confirmed.0)
  pub server : LineOf third (ascii "SERVER") (λ v. Displayed v p.server.0)
  pub events : LineOf fourth (ascii "EVENTS") (λ v. SpelledTo 10 v p.events)
  pub stalls : LineOf fifth (ascii "STALLS") (λ v. SpelledTo 10 v p.stalls)
  pub state : LineOf sixth (ascii "STATE") (λ v. v ≡ state_shown p.state)

abbrev pub PageHasLines : Type 0
PageHasLines = (p : Page) → In64 p → Lines p

-- every number's state name
abbrev pub NamesOfStates : Type 0
NamesOfStates = (n : ℕ) → state_name n ≡ state_shown n
