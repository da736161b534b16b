-- Condition 3, whole: one claim about every list of calls, in twelve parts. Each part's statement stands in the file named beside it. SCOPE 8; 01,
-- "Events and confirmations".
use Rattle.thm_any_calls.specs.Beginnings.{BeginningsAnswer}
use Rattle.thm_any_calls.specs.Confirms.{ConfirmsSmallest, NoFileBehind}
use Rattle.thm_any_calls.specs.Failed.{ErrorShown, ErrorTraced}
use Rattle.thm_any_calls.specs.Refused.{RefusedLeaves, ReportsAnswer}
use Rattle.thm_any_calls.specs.Traced.{CallsTraced}
use Rattle.thm_any_calls.specs.Counters.{CountersTraced}
use Rattle.thm_any_calls.specs.HandsOn.{HandsOn, EventsBegin}
use Rattle.thm_any_calls.specs.Views.{ViewsTraced}

-- the parts; before each stands the file that states it
pub record Condition3 : Type 0 where
  -- Beginnings: `open` and `already_open` refuse, write and answer by their arguments; each part below is about a run that they made
  pub beginnings : BeginningsAnswer
  -- Confirms: each status confirms the smallest over the four files of the largest of the start and that file's reports before it that were not
  -- refused, whatever each step is lent
  pub confirms : ConfirmsSmallest
  -- Confirms: so no file lies behind what a server reads as confirmed
  pub none_behind : NoFileBehind
  -- Traced: with the payload buffer and the untaken server bytes handed on, each call answers as the step table says of the calls before it
  pub answers : CallsTraced
  -- Refused: a step refused with 2 to 5 leaves the run as it was
  pub refused : RefusedLeaves
  -- Refused: a report of a number above 3 is refused with 31 and leaves the run as it was; no other report is refused
  pub reports : ReportsAnswer
  -- Failed: after 19 the run shows the server's error, the payload of the last whole message
  pub error : ErrorShown
  -- Failed: so after any list in which a step was refused with 19
  pub error_stays : ErrorTraced
  -- Views: the last status, and no error without 19, also after the run's end
  pub views : ViewsTraced
  -- Counters: the numbers of `metrics` are those that the calls and the server's bytes give
  pub counters : CountersTraced
  -- HandsOn: if no queue closes, the events handed on are exactly the plain reading
  pub events : HandsOn
  -- HandsOn: of two lists over the same server bytes, stop position and limit, the events of one begin the other's
  pub begins : EventsBegin
