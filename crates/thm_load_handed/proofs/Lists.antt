-- What is observed of calls.
use mathlib.Core.Path.{◌≡◌, refl, ap, ◌∙◌}
use mathlib.Core.Bool.{false}
use mathlib.Core.List.{List, [], ◌∷◌}
use Prim.Native.Nat.{ℕ, ◌+◌}
use Rattle.thm_any_calls.specs.Begins.{is_closed, NoneClosed}
use Rattle.thm_any_calls.specs.Plain.{taken_of}
use Rattle.thm_any_calls.specs.Trace.{Trace, a_step, a_report, taken_by, observations_of}
use Rattle.thm_any_calls.specs.Calls.{Call, step, report, Played, play_one, play_all}
use Rattle.thm_any_calls.proofs.Account.{taken_more}
use Rattle.thm_any_calls.proofs.Begins.{closed_more}
use Rattle.thm_load_handed.specs.LoadHanded.{Undisturbed}

-- what is observed took what the trace took
pub taken_observed : (h : Trace) → taken_of (observations_of h) ≡ taken_by h
unfolding taken_of observations_of taken_by
taken_observed [] = refl
taken_observed (a_step i from y ∷ h) =
    taken_more (observations_of h) (record { stop = i.stop; queue = i.queue; refusal = y.refusal; taken = y.taken })
    ∙ ap (λ (k : ℕ). k + y.taken) (taken_observed h)
taken_observed (a_report file p m ∷ h) = taken_observed h

pub none_closed : (bytes : List ℕ) (cs : List Call) (z : Played) → Undisturbed cs → NoneClosed z.observed → NoneClosed (play_all bytes z cs).observed
unfolding play_all
none_closed bytes [] z u h = h
none_closed bytes (step i n out ∷ cs) z u h =
    let q : is_closed i.queue ≡ false = ap is_closed u.1 in
    none_closed bytes cs (play_one bytes z (step i n out)) u.2 (closed_more z.observed _ h q)
none_closed bytes (report file p m ∷ cs) z u h = none_closed bytes cs (play_one bytes z (report file p m)) u h
