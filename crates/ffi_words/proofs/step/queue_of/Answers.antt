use native.Mathlib.Omega.{arith}
use Rattle.std.proofs.lemmas.Bool.Decides.{nat_tests}
use Rattle.ffi_words.specs.Step.{queue_of}
use Rattle.ffi_words.proofs.step.queue_of.Goals as goal

pub returns-in-0 : goal.returns-in-0
unfolding queue_of
returns-in-0 c = rw c.in-0.is

pub returns-in-1 : goal.returns-in-1
unfolding queue_of
returns-in-1 c = rw c.in-1.is

pub returns-in_default : goal.returns-in_default
unfolding queue_of
returns-in_default c = grind (arith, nat_tests)
