-- The six lines of a run's page, each by what the run holds: the text itself, in which no two values can change places. 02, wish 9; SCOPE 5.12.
use Rattle.std.specs.Prelude.{◌≡◌, List, [], ◌∷◌, ◌++◌, ℕ, ◌^◌, ◌<◌}
use Rattle.text.specs.Ascii.{ascii}
use Rattle.text.specs.Spelling.{SpelledTo}
use Rattle.lsn.specs.PositionLaws.{Displayed}
use Rattle.page.specs.Page.{page_of}
use Rattle.page.specs.PageLines.{LineOf, SentValue}
use Rattle.progress.specs.Progress.{cell_position}
use Rattle.worker.specs.declared.Run.{Run}
use Rattle.worker.specs.declared.State.{State}
use Rattle.worker.specs.declared.State.TheVariants.{Opening, Turn, Drain, Reading, Waiting, Handling, Offering, Ended}
use Rattle.worker.specs.Run.{cell_in}
use Rattle.run_page.specs.RunPage.{shown_by}

-- a state's name in capitals
abbrev pub capitals : State → List ℕ
capitals Opening = ascii "OPENING"
capitals Turn = ascii "TURN"
capitals Drain = ascii "DRAIN"
capitals Reading = ascii "READING"
capitals Waiting = ascii "WAITING"
capitals Handling = ascii "HANDLING"
capitals Offering = ascii "OFFERING"
capitals Ended = ascii "ENDED"

-- the numbers that a page shows of a run have 64 bits
pub record Numbers64 (r : Run) : Type 0 where
  pub position : (cell_position (cell_in r)).0 < 2 ^ 64
  pub confirmed : r.status.position.0 < 2 ^ 64
  pub server : r.server.0 < 2 ^ 64
  pub events : r.metrics.events_forwarded < 2 ^ 64
  pub stalls : r.metrics.stall_count < 2 ^ 64

pub record RunLines (r : Run) : Type 0 where
  pub first : List ℕ
  pub second : List ℕ
  pub third : List ℕ
  pub fourth : List ℕ
  pub fifth : List ℕ
  pub sixth : List ℕ
  pub page : page_of (shown_by r) ≡ first ++ (10 ∷ (second ++ (10 ∷ (third ++ (10 ∷ (fourth ++ (10 ∷ (fifth ++ (10 ∷ (sixth ++ (10 ∷ [])))))))))))
  -- what a status would confirm now; what the last one confirmed, if there was one; the server's end
  pub position : LineOf first (ascii "POSITION") (λ v. Displayed v (cell_position (cell_in r)).0)
  pub sent : LineOf second (ascii "SENT") (SentValue r.status.sent r.status.position.0)
  pub server : LineOf third (ascii "SERVER") (λ v. Displayed v r.server.0)
  -- events handed on, stalls begun
  pub events : LineOf fourth (ascii "EVENTS") (λ v. SpelledTo 10 v r.metrics.events_forwarded)
  pub stalls : LineOf fifth (ascii "STALLS") (λ v. SpelledTo 10 v r.metrics.stall_count)
  pub state : LineOf sixth (ascii "STATE") (λ v. v ≡ capitals r.state)

abbrev pub RunHasLines : Type 0
RunHasLines = (r : Run) → Numbers64 r → RunLines r
