-- When a step moves next, by the trace: what `next_step` looks at in a run is what the trace says, and a reader between two steps holds no whole
-- message. Told takes the theorem.
use mathlib.Core.Path.{◌≡◌, refl, sym, ap, ◌∙◌, subst}
use mathlib.Core.Bool.{Bool, true, false}
use mathlib.Core.List.{List, [], ◌∷◌}
use mathlib.Core.Logic.{inl, inr}
use Prim.Native.Nat.{ℕ, ◌-◌, ◌≤◌, ◌<◌, min}
use native.Mathlib.Omega.{arith}
use borrow.Author.Tests.{lt-ltb, le-ltb, lt-leb}
use lib.ListN.{length, take}
use lib.Dec.{ltb, eqb}
use Rattle.wire.specs.Bytes.{pick}
use Rattle.wire.proofs.Laws.{impossible}
use Rattle.frames.specs.Message.{length_field, front_of}
use Rattle.frames.specs.Cut.{Ending, header, payload, over, Cut, cut_of}
use Rattle.frames.proofs.Front.{Shows, cut_header, cut_payload, shows}
use Rattle.frames.proofs.Laws.{front_at, cut_ending}
use Rattle.framing.specs.declared.MessageReader.{MessageReader}
use Rattle.framing.specs.Read.{fresh}
use Rattle.framing.specs.Feed.{follows_by}
use Rattle.worker.specs.declared.Queue.{Queue}
use Rattle.worker.specs.declared.Queue.TheVariants.{Free, Full, Closed}
use Rattle.worker.specs.declared.Run.{Run}
use Rattle.worker.specs.declared.State.{State}
use Rattle.worker.specs.declared.State.TheVariants.{Opening, Turn, Drain, Reading, Waiting, Handling, Offering, Ended}
use Rattle.worker.specs.Step.{is_ended}
use Rattle.schedule.specs.NextStep.{Next, at_once, on_input, never, beyond, due_of, by_clock, is_whole, opening_next, reading_next, offering_next, state_next, next_step_of}
use Rattle.schedule.specs.NextStep as S
use Rattle.ffi_answers.specs.Next.{next_words}
use Rattle.thm_any_calls.specs.Plain.{Msg, Observation}
use Rattle.thm_any_calls.specs.Trace.{Setup, Trace, state_after}
use Rattle.thm_any_calls.specs.Calls.{Played}
use Rattle.thm_any_calls.proofs.Facts.{Facts, facts_by, facts_of, Agrees}
use Rattle.thm_any_calls.proofs.Invariant.{Base, Invariant, limit}
use Rattle.thm_any_calls.proofs.Preserved.{Preserved}
use Rattle.thm_host_calls.specs.Told.{due, on_clock, next_in}
use Rattle.thm_host_calls.proofs.Reader.{Fine}

-- a flag has one value
no_both : {X : Type 0} {b : Bool} → b ≡ true → b ≡ false → X
no_both p q = impossible (ap number (sym q ∙ p))
  where
    number : Bool → ℕ
    number true = 1
    number false = 0

-- ---- the clock

clock_words : (d : ℕ) → next_words (by_clock d) ≡ on_clock d
unfolding by_clock
clock_words d = by (eqb d 0) (ltb d beyond) refl refl
  where
    by : (a b : Bool) → eqb d 0 ≡ a → ltb d beyond ≡ b
        → next_words (pick (eqb d 0) at_once (pick (ltb d beyond) (S.from d) on_input))
        ≡ pick (eqb d 0) (0 ∷ 0 ∷ []) (pick (ltb d beyond) (1 ∷ d ∷ []) (2 ∷ 0 ∷ []))
    by true b p q = rw p refl
    by false true p q = rw (p, q) refl
    by false false p q = rw (p, q) refl

-- ---- the reader

-- a reader that holds less than a message holds no whole one, with a buffer as long as the limit
module _ (top : ℕ) (s : List ℕ) (n : ℕ) (fits : top ≤ n) (rd : MessageReader) (p : List ℕ) where
  held_part : (end : Ending) → front_of top s ≡ front_at end → follows_by end s rd p → rd.refused ≡ false → is_whole rd n ≡ false
  unfolding is_whole
  held_part header e f c = by (subst (Shows top s) e (shows top s))
    where
      by : Shows top s (front_at header) → is_whole rd n ≡ false
      by (cut_header a) = let q : rd.filled ≡ length s = f.filled in simp (lt-ltb rd.filled 5 (omega arith))
  held_part payload e f c = by (subst (Shows top s) e (shows top s))
    where
      by : Shows top s (front_at payload) → is_whole rd n ≡ false
      by (cut_payload a b d g k) =
          let q : rd.filled ≡ length s = f.filled in
          let z : rd.payload_len ≡ length_field s - 4 = f.size a in
          simp (le-ltb rd.filled 5 (omega arith), lt-leb (min rd.payload_len n) (rd.filled - 5) (omega arith))
  held_part over e f c = no_both f c

module _ (x : Setup) (h : Trace) (z : Played) (w : Preserved x h z) (fine : Fine z.run) (new : x.room < limit x → z.run.reader ≡ fresh) where
  abbrev r : Run
  r = z.run

  clear : is_ended r.state ≡ false → r.reader.refused ≡ false
  clear e = by fine
    where
      by : Fine r → r.reader.refused ≡ false
      by (inl k) = no_both (ap is_ended k) e
      by (inr k) = k

  -- no whole message is held, with the payload buffer's length
  base_part : {ms : List Msg} {ws : List Observation} → Base x r.reader z.payload z.taken z.observed ms ws → r.reader.refused ≡ false
      → is_whole r.reader x.room ≡ false
  base_part b c =
      let cut : Cut = cut_of (limit x) (take z.taken x.bytes) in
      held_part (limit x) cut.rest x.room b.size r.reader z.payload cut.ending (cut_ending (limit x) (take z.taken x.bytes))
      b.follows c

  new_part : x.room < limit x → is_whole r.reader x.room ≡ false
  unfolding is_whole
  new_part k = ap (λ (m : MessageReader). is_whole m x.room) (new k)

  -- what is looked at in a wait, and in an offer
  abbrev wait_by : Facts → List ℕ
  wait_by f =
      let s : ℕ = due f.settings.status_interval f.status.at in
      let d : ℕ = due f.settings.idle_wakeup_interval f.clock.wait_began in
      pick f.pending (on_clock (min s d)) (pick f.reports.signalled (0 ∷ 0 ∷ []) (on_clock d))

  wait_words : next_words (S.waiting_next r) ≡ wait_by (facts_by r)
  unfolding S.waiting_next due_of
  wait_words = by r.pending r.progress.signalled refl refl
    where
      by : (a b : Bool) → r.pending ≡ a → r.progress.signalled ≡ b → next_words (S.waiting_next r) ≡ wait_by (facts_by r)
      by true b p q = rw p (clock_words _)
      by false true p q = rw (p, q) refl
      by false false p q = rw (p, q) (clock_words _)

  reads_on : r.reader.refused ≡ false → is_whole r.reader x.room ≡ false → reading_next r.reader x.room ≡ on_input
  unfolding reading_next is_whole
  reads_on c n = rw (c, n) refl

  opens_on : r.reader.refused ≡ false → is_whole r.reader x.room ≡ false → opening_next r.reader x.room ≡ on_input
  unfolding opening_next is_whole
  opens_on c n = rw (c, n) refl

  by_state : (q : Queue) (st : State) → Agrees st (facts_by r) (facts_of x h) → Invariant x st z → (is_ended st ≡ false → r.reader.refused ≡ false)
      → next_words (state_next st r x.room q) ≡ next_in st x h q
  unfolding state_next offering_next due_of facts_of
  by_state q Opening e (inl b) c = ap next_words (opens_on (c refl) (new_part b.size))
  by_state q Opening e (inr b) c = ap next_words (opens_on (c refl) (base_part b.base (c refl)))
  by_state q Turn e b c = refl
  by_state q Drain e b c = refl
  by_state q Reading e (inl b) c = ap next_words (reads_on (c refl) (new_part b.size))
  by_state q Reading e (inr b) c = ap next_words (reads_on (c refl) (base_part b.base (c refl)))
  by_state q Waiting e b c = wait_words ∙ ap wait_by e
  by_state q Handling e b c = refl
  by_state Free Offering e b c = refl
  by_state Closed Offering e b c = refl
  by_state Full Offering e b c =
      clock_words _ ∙ ap (λ (f : Facts). on_clock (due f.settings.status_interval f.status.at)) e
  by_state q Ended e b c = refl

  pub next_told : (q : Queue) → next_words (next_step_of r x.room q) ≡ next_in (state_after x.opening h) x h q
  unfolding next_step_of
  next_told q = by_state q r.state w.agrees w.invariant clear ∙ ap (λ (st : State). next_in st x h q) w.follows.state
