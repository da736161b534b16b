-- A line for each number of a state, and one for all others.
use Rattle.text.specs.Ascii.{ascii}
use native.Mathlib.Omega.{arith}
use Rattle.page.specs.Page.{state_names}
use Rattle.page.proofs.Laws.{ended}
use Rattle.page.proofs.place_state.Goals as goal

pub returns-in-0 : goal.returns-in-0
unfolding ascii state_names
returns-in-0 c =
    rw c.in-0.is c.place_line.ensures

pub returns-in-1 : goal.returns-in-1
unfolding ascii state_names
returns-in-1 c =
    rw c.in-1.is c.place_line-in-1.ensures

pub returns-in-2 : goal.returns-in-2
unfolding ascii state_names
returns-in-2 c =
    rw c.in-2.is c.place_line-in-2.ensures

pub returns-in-3 : goal.returns-in-3
unfolding ascii state_names
returns-in-3 c =
    rw c.in-3.is c.place_line-in-3.ensures

pub returns-in-4 : goal.returns-in-4
unfolding ascii state_names
returns-in-4 c =
    rw c.in-4.is c.place_line-in-4.ensures

pub returns-in-5 : goal.returns-in-5
unfolding ascii state_names
returns-in-5 c =
    rw c.in-5.is c.place_line-in-5.ensures

pub returns-in-6 : goal.returns-in-6
unfolding ascii state_names
returns-in-6 c =
    rw c.in-6.is c.place_line-in-6.ensures

pub returns-in_default : goal.returns-in_default
unfolding ascii
returns-in_default c =
    rw (ended c.args.state (omega arith) (omega arith) (omega arith) (omega arith) (omega arith) (omega arith) (omega arith)) c.place_line-in_default.ensures
