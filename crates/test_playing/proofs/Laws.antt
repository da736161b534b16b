-- Laws of what is played: runs that steps reach, and a step's answer taken apart.
use Prim.Native.Nat.{ℕ, ◌+◌, ◌-◌, min}
use mathlib.Core.Path.{◌≡◌, refl, ap, ◌∙◌}
use mathlib.Core.Bool.{Bool, true, false}
use mathlib.Core.List.{List}
use native.Mathlib.Omega.{arith}
use lib.ListN.{length}
use lib.Dec.{ltb}
use Rattle.std.proofs.Common.{Option, Some, None}
use Rattle.std.specs.Option.{unwrap_or}
use Rattle.wire.specs.Answer.{maybe}
use Rattle.wire.specs.Bytes.{pick, at}
use Rattle.worker.specs.declared.Input.{Input}
use Rattle.worker.specs.declared.Run.{Run}
use Rattle.worker.specs.declared.Stepped.{Stepped}
use Rattle.worker.specs.Answer.{verdict_number, lent}
use Rattle.worker.specs.Step.{Outcome, is_ended, step_of}
use Rattle.test_playing.specs.declared.Playing.{Playing}
use Rattle.test_playing.specs.Spelling.{fitting}
use Rattle.test_playing.specs.Playing.{input_of, Plays, playing, refilled_of, event_line, told_by, told_of, goes_on, stepped}

-- a length or 0
pub or_nothing : (x : Option ℕ) → unwrap_or x 0 ≡ fitting (maybe x)
or_nothing (Some n) = refl
or_nothing None = refl

pub picked : (b : Bool) (p q : Playing) → b ≡ true → p ≡ pick b p q
picked true p q e = refl
picked false p q e = absurd (omega (arith, ap (λ (x : Bool). pick {A = ℕ} x 1 0) e))

pub unpicked : (b : Bool) (p q : Playing) → b ≡ false → q ≡ pick b p q
unpicked true p q e = absurd (omega (arith, ap (λ (x : Bool). pick {A = ℕ} x 1 0) e))
unpicked false p q e = refl

pick_run : (b : Bool) (p q : Playing) (r : Run) → p.run ≡ r → q.run ≡ r → (pick b p q).run ≡ r
pick_run true p q r e f = e
pick_run false p q r e f = f

-- a read changes nothing of the run
pub refilled_run : (p q : Playing) (n : ℕ) → q ≡ refilled_of p n → q.run ≡ p.run
refilled_run p q n e =
    ap (λ (x : Playing). x.run) e
    ∙ pick_run (ltb p.from p.to) p _ p.run refl (pick_run p.ended p _ p.run refl refl)

-- a read and a step lead from a run that is played to one that is
pub plays_next : (p q r : Playing) (n : ℕ) (bytes payload out x y : List ℕ)
    → q ≡ refilled_of p n → (r, x, y) ≡ stepped q bytes payload out → Plays p.run → Plays r.run
unfolding stepped
plays_next p q r n bytes payload out x y e f h =
    rw (ap (λ (t : Playing × List ℕ × List ℕ). t.0.run) f) (Plays.next {r = q.run} q.ended _ (rw (refilled_run p q n e) h))

told_by_lem : (beyond over : Bool) (n : ℕ) (d : List ℕ) → (told_by beyond over n d).0 ≡ goes_on beyond over
told_by_lem true over n d = refl
told_by_lem false true n d = refl
told_by_lem false false n d = refl

-- a run goes on unless it has ended, or took more than it was offered
pub told_go : (s : Stepped) (offered : ℕ) (payload d l : List ℕ) (go : Bool) → (go, l) ≡ told_of s offered payload d
    → go ≡ goes_on (ltb offered s.taken) (is_ended s.run.state)
told_go s offered payload d l go e =
    ap (λ (x : Bool × List ℕ). x.0) e
    ∙ told_by_lem (ltb offered s.taken) (is_ended s.run.state) (verdict_number s.verdict) (event_line s.event payload d)

-- a step's answer with the places around it
pub step_is : (p : Playing) (bytes payload out : List ℕ) (to from taken : ℕ) (go : Bool) (i : Input) (o : Outcome)
    → to ≡ min p.to (length bytes) → from ≡ min p.from to → i ≡ input_of p.ended
    → o ≡ step_of p.run i (lent (at bytes from (to - from)) payload out)
    → taken ≡ min o.taken (to - from) → go ≡ goes_on (ltb (to - from) o.taken) (is_ended o.run.state)
    → (playing o.run (from + taken) to p.ended go, o.payload, o.out) ≡ stepped p bytes payload out
unfolding stepped
step_is p bytes payload out to from taken go i o e1 e2 e3 e4 e5 e6 = rw (← e1, ← e2, ← e3, ← e4, e5, e6)
