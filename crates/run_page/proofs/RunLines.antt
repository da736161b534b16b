-- The six lines of a run's page: those of the page with the run's values.
use mathlib.Core.Path.{◌≡◌, refl, ◌∙◌}
use mathlib.Core.List.{List}
use Prim.Native.Nat.{ℕ}
use Rattle.page.specs.PageLines.{LineOf, Lines, state_shown}
use Rattle.page.proofs.PageLines.{page_has_lines}
use Rattle.text.specs.Ascii.{ascii}
use Rattle.worker.specs.declared.State.{State}
use Rattle.worker.specs.declared.State.TheVariants.{Opening, Turn, Drain, Reading, Waiting, Handling, Offering, Ended}
use Rattle.worker.specs.Run.{state_number}
use Rattle.run_page.specs.RunPage.{shown_by}
use Rattle.run_page.specs.RunLines.{capitals, RunLines, RunHasLines}

name_is : (s : State) → state_shown (state_number s) ≡ capitals s
name_is Opening = refl
name_is Turn = refl
name_is Drain = refl
name_is Reading = refl
name_is Waiting = refl
name_is Handling = refl
name_is Offering = refl
name_is Ended = refl

by_name : (line : List ℕ) (s : State) → LineOf line (ascii "STATE") (λ v. v ≡ state_shown (state_number s))
    → LineOf line (ascii "STATE") (λ v. v ≡ capitals s)
by_name line s l = record { value = l.value; says = l.says ∙ name_is s; is = l.is }

pub run_has_lines : RunHasLines
run_has_lines r n = by (page_has_lines (shown_by r)
    (record { position = n.position; confirmed = n.confirmed; server = n.server; events = n.events; stalls = n.stalls }))
  where
    by : Lines (shown_by r) → RunLines r
    by l = record {
      first = l.first;
      second = l.second;
      third = l.third;
      fourth = l.fourth;
      fifth = l.fifth;
      sixth = l.sixth;
      page = l.page;
      position = l.position;
      sent = l.sent;
      server = l.server;
      events = l.events;
      stalls = l.stalls;
      state = by_name l.sixth r.state l.state;
    }
