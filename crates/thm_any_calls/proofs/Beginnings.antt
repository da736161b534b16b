-- `open` and `already_open` answer as stated, and make a fresh run of their settings and start: Preserved begins there.
use mathlib.Core.Path.{◌≡◌, refl}
use mathlib.Core.List.{List}
use mathlib.Core.Bool.{Bool, true, false}
use Prim.Native.Nat.{ℕ, ◌+◌}
use lib.ListN.{length}
use lib.Dec.{ltb}
use denote.Ref.{Bor}
use Rattle.wire.specs.Bytes.{pick, put}
use Rattle.error.specs.Inputs.{total}
use Rattle.error.specs.Writer.{writing}
use Rattle.frontend.specs.Frontend.{query}
use Rattle.lsn.specs.declared.Lsn.{Lsn}
use Rattle.request.specs.Request.{start_replication}
use Rattle.worker.specs.declared.Settings.{Settings}
use Rattle.worker.specs.declared.State.{State}
use Rattle.worker.specs.declared.State.TheVariants.{Opening, Turn}
use Rattle.worker.specs.Run.{fresh_run}
use Rattle.worker.specs.Session.{Opened, bad_interval, open_of, already_open_of}
use Rattle.thm_any_calls.specs.Beginnings.{over_aday, open_answer, BeginningsAnswer}
use Rattle.thm_any_calls.proofs.Tests.{put_front, bytes_total}
use Rattle.thm_any_calls.specs.Calls.{Beginning, opens, is_open, is_opening, start_of, run_begun}

abbrev pub first_state : Bool → State
first_state opening = pick opening Opening Turn

module _ (s : Settings) (slot : List ℕ) (publications : List (Bor (List ℕ))) (position start : Lsn) (out : List ℕ) where
  abbrev text : List ℕ
  text = query (start_replication s.binary slot publications position)

  -- the two ends of `open`
  abbrev late : Opened
  late = record { run = fresh_run s Opening start; outcome = (1, 0); out = out }

  abbrev written : Opened
  written =
      let w : (ℕ × ℕ) × List ℕ = writing (length slot + total publications) text out in
      record { run = fresh_run s Opening start; outcome = w.0; out = w.1 }

  opened_run : (c : Bool) → (pick c late written).run ≡ fresh_run s Opening start
  opened_run true = refl
  opened_run false = refl

  -- what `open` leaves where it writes, by the tests 25 and 4
  abbrev left : Bool → Bool → (ℕ × ℕ) × List ℕ
  left c d = pick c ((25, 0), out) (pick d ((4, 0), out) ((0, length text), put out 0 text))

  abbrev by_tests : Bool → Bool → Bool → Bool → Opened
  by_tests a b c d = pick (pick a true b) late (record { run = fresh_run s Opening start; outcome = (left c d).0; out = (left c d).1 })

  opened_answer : (a b c d : Bool)
      → ◌≡◌ {A = (ℕ × ℕ) × List ℕ} ((by_tests a b c d).outcome, (by_tests a b c d).out) (pick a ((1, 0), out) (pick b ((1, 0), out) (left c d)))
  opened_answer true b c d = refl
  opened_answer false true c d = refl
  opened_answer false false true d = refl
  opened_answer false false false true = refl
  opened_answer false false false false = refl

  opens_so : ((open_of s slot publications position start out).outcome, (open_of s slot publications position start out).out)
      ≡ open_answer s slot publications position out
  unfolding open_of writing
  opens_so =
      rw (bytes_total publications, ← put_front out text)
      (opened_answer (over_aday s.status_interval) (over_aday s.idle_wakeup_interval) (ltb 1048576 (length slot + total publications))
      (ltb (length out) (length text)))

  opens_fresh : (open_of s slot publications position start out).run ≡ fresh_run s Opening start
  unfolding open_of
  opens_fresh = opened_run (bad_interval s)

pub run_begun_lem : (s : Settings) (b : Beginning) → run_begun s b ≡ fresh_run s (first_state (is_opening b)) (start_of b)
unfolding already_open_of
run_begun_lem s (opens slot publications position start out) = opens_fresh s slot publications position start out
run_begun_lem s (is_open start) = refl

pub beginnings_answer : BeginningsAnswer
unfolding already_open_of
beginnings_answer = record { opens = opens_so; is_open = λ s start. by (over_aday s.status_interval) (over_aday s.idle_wakeup_interval) }
  where
    by : (a b : Bool) → pick {A = ℕ} (pick a true b) 1 0 ≡ pick a 1 (pick b 1 0)
    by true b = refl
    by false true = refl
    by false false = refl
