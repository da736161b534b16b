-- A run that ended without a stop has handed on all events of the messages that it took: by the step table it ends only where the input does, between
-- two messages or in one.
use mathlib.Core.Path.{◌≡◌, refl, sym, ap, ◌∙◌, subst}
use mathlib.Core.Bool.{Bool, true, false}
use mathlib.Core.List.{List, [], ◌∷◌, ◌++◌, append-nil}
use mathlib.Core.Logic.{inl, inr}
use mathlib.Core.Option.{Option, some, none}
use Prim.Native.Nat.{ℕ, ◌+◌, ◌-◌, ◌≤◌, ◌<◌, ◌^◌}
use native.Mathlib.Omega.{arith}
use borrow.Author.Tests.{eqb-true, lt-ltb}
use lib.ListN.{length, take, drop, length-append}
use lib.Seq.{take-add}
use lib.Dec.{ltb, leb, eqb}
use Rattle.wire.specs.Bytes.{pick}
use Rattle.wire.proofs.Laws.{impossible}
use Rattle.frames.specs.Cut.{Item, Ending, header, payload, over, Cut, cut_of}
use Rattle.frames.proofs.Laws.{continued, cut_append, cut_nothing}
use Rattle.lsn.specs.declared.Lsn.{Lsn}
use Rattle.worker.specs.declared.Input.{Input}
use Rattle.worker.specs.declared.Queue.TheVariants.{Free}
use Rattle.worker.specs.declared.Settings.{Settings}
use Rattle.worker.specs.declared.State.{State}
use Rattle.worker.specs.declared.State.TheVariants.{Opening, Turn, Drain, Reading, Waiting, Handling, Offering, Ended}
use Rattle.thm_any_calls.specs.Happened.{Happened}
use Rattle.thm_any_calls.specs.Begins.{is_closed, NoneClosed}
use Rattle.thm_any_calls.specs.Plain.{Msg, Gives, gives, message_gives, whole_ones, given, taken_of}
use Rattle.thm_any_calls.specs.Tests.{both, unless, is_ended, longest}
use Rattle.thm_any_calls.specs.Trace.{Setup, bounds_of, nothing, done, status, Response, Trace, state_after, taken_by, handed_by}
use Rattle.thm_any_calls.specs.Trace.{pending_of, signalled_of, drained_of, read_in_wait, full_before, gone_of}
use Rattle.thm_any_calls.specs.Table.{Found, unfinished, whole, refused, found_by, used_by, payload_by, respond, enters, writes, limit_by, is_passed, is_idle, status_if, read_response, reading_response, waiting_response, idle_response}
use Rattle.thm_any_calls.specs.Table.{last_or, last_message, last_gives, back_of, handling_response, waiting_tests, hands_over, drops, offering_response}
use Rattle.thm_any_calls.specs.Table.{table_of, is_bad_moment, step_response}
use Rattle.thm_any_calls.specs.Calls.{is_open, Call, step, report, Played, play_one, play_all, setup_of}
use Rattle.thm_any_calls.specs.Traced.{trace_one, trace_all}
use Rattle.thm_any_calls.proofs.Begins.{closed_more}
use Rattle.thm_any_calls.proofs.Invariant.{Goings, Invariant, Short}
use Rattle.thm_any_calls.proofs.Preserved.{Preserved, step_preserved, calls_preserved}
use Rattle.load.specs.declared.Message.{Message}
use Rattle.load.specs.Load.{payload_of, messages_of, stream_of}
use Rattle.thm_load_handed.specs.LoadHanded.{Undisturbed}
use Rattle.thm_load_handed.proofs.Drawn.{Fits, AllFit, all_fit}
use Rattle.thm_load_handed.proofs.Stream.{event_given, handled, items_of}
use Rattle.thm_load_handed.proofs.Prefix.{Generated, prefix_items, prefix_not_over, last_items}
use Rattle.thm_load_handed.proofs.Reached.{offer_by}
use Rattle.thm_load_handed.proofs.Lists.{taken_observed}

-- a response that ends the run takes nothing and hands nothing on
abbrev Quiet : Response → Type 0
Quiet y = y.entered ≡ Ended → (y.taken ≡ 0) × (y.event ≡ [])

-- a response never ends the run
abbrev Never : Response → Type 0
Never y = y.entered ≡ Ended → ⊥

drain_quiet : (a b c : Bool) → c ≡ false → Quiet (pick a (enters Reading) (pick b (enters Waiting) (pick c (writes done Ended) (enters Turn))))
drain_quiet true b c e k = impossible cc
drain_quiet false true c e k = impossible cc
drain_quiet false false true e k = impossible cc
drain_quiet false false false e k = impossible cc

idle_quiet : (q : Bool) → Never (idle_response q)
idle_quiet true k = impossible cc
idle_quiet false k = impossible cc

wait_quiet : (a b c d : Bool) (v w : Response) → a ≡ false → Quiet v → Never w
    → Quiet (pick a (writes done Ended) (pick b (writes (status false) Turn) (pick c (enters Turn) (pick d v w))))
wait_quiet true b c d v w e f g k = impossible cc
wait_quiet false true c d v w e f g k = impossible cc
wait_quiet false false true d v w e f g k = impossible cc
wait_quiet false false false true v w e f g k = f k
wait_quiet false false false false v w e f g k = absurd (g k)

-- after 2 to 5
guard_quiet : (st : State) (a b c : Bool) (y : Response) → Quiet y
    → Quiet (pick a (respond 3 nothing st []) (pick b (respond 4 nothing st []) (pick c (respond 5 nothing st []) y)))
guard_quiet st true b c y f k = (refl, refl)
guard_quiet st false true c y f k = (refl, refl)
guard_quiet st false false true y f k = (refl, refl)
guard_quiet st false false false y f k = f k

guard_never : (st : State) (a b c : Bool) (y : Response) → (st ≡ Ended → ⊥) → Never y
    → Never (pick a (respond 3 nothing st []) (pick b (respond 4 nothing st []) (pick c (respond 5 nothing st []) y)))
guard_never st true b c y e f k = e k
guard_never st false true c y e f k = e k
guard_never st false false true y e f k = e k
guard_never st false false false y e f k = f k

back_never : (r : Bool) → pick r Turn Drain ≡ Ended → ⊥
back_never true k = impossible cc
back_never false k = impossible cc

-- ---- a read

abbrev answered : List ℕ → List ℕ → List Item → Ending → Bool → (Found → Response) → Response
answered rest u is end e f =
    let y : Response = f (found_by is end (length u) e) in
    record {
      refusal = y.refusal;
      taken = used_by is end (rest ++ u) - length rest;
      stored = payload_by is end (rest ++ u);
      writing = y.writing;
      entered = y.entered;
      event = y.event;
    }

-- of a state that reads: only a refusal ends the run
pub record Reads (f : Found → Response) : Type 0 where
  pub whole_goes : (tag : ℕ) → Never (f (whole tag))
  pub more_goes : Never (f unfinished)
  pub refused_hands : (r : ℕ) → (f (refused r)).event ≡ []

reading_reads : Reads reading_response
reading_reads = record { whole_goes = λ tag k. impossible cc; more_goes = λ k. impossible cc; refused_hands = λ r. refl }

waiting_reads : (q : Bool) → Reads (waiting_response q)
waiting_reads q = record { whole_goes = λ tag k. impossible cc; more_goes = idle_quiet q; refused_hands = λ r. refl }

module _ (rest u : List ℕ) (f : Found → Response) (w : Reads f) where
  -- the input's end, with no byte unread
  end_quiet : (r : ℕ) (z e : Bool) → eqb (length u) 0 ≡ z → (f (pick z (pick e (refused r) unfinished) unfinished)).entered ≡ Ended
      → (length (rest ++ u) - length rest ≡ 0) × ((f (pick z (pick e (refused r) unfinished) unfinished)).event ≡ [])
  end_quiet r true true h k =
      let l : length u ≡ 0 = eqb-true (length u) 0 h in
      let a : length (rest ++ u) ≡ length rest + length u = length-append rest u in
      (omega (arith, l, a), w.refused_hands r)
  end_quiet r true false h k = absurd (w.more_goes k)
  end_quiet r false e h k = absurd (w.more_goes k)

  answer_quiet : (ms : List Message) (end : Ending) → (end ≡ over → ⊥) → (e : Bool) → Quiet (answered rest u (items_of ms) end e f)
  unfolding items_of
  answer_quiet (m ∷ ms) end o e k = absurd (w.whole_goes 100 k)
  answer_quiet [] header o e k = end_quiet 8 (eqb (length u) 0) e refl k
  answer_quiet [] payload o e k = end_quiet 9 (eqb (length u) 0) e refl k
  answer_quiet [] over o e k = absurd (o refl)

-- the last of generated messages
record Last (l : Msg) : Type 0 where
  m : Message
  is : l ≡ (100, payload_of m)
  fits_m : Fits m

last_of : (d : Msg) (m : Message) (ms : List Message) → AllFit (m ∷ ms) → Last (last_or d (whole_ones (items_of (m ∷ ms))))
unfolding last_or whole_ones items_of
last_of d m [] f = record { m = m; is = refl; fits_m = f.0 }
last_of d m (a ∷ ms) f = last_of (100, payload_of m) a ms f.1

-- ---- one step

module _ (s : Settings) (start : Lsn) (seed n : ℕ) (p : List ℕ) (fits : seed < 2 ^ 64) (no_stop : s.has_stop ≡ false)
    (wide : 100 ≤ longest s.max_message_size) where
  abbrev bytes : List ℕ
  bytes = stream_of n seed

  abbrev x : Setup
  x = setup_of s (is_open start) bytes (length p)

  -- the events of the messages in the first t bytes
  abbrev all_by : ℕ → List Happened
  all_by t = given none (whole_ones (cut_of (limit_by x) (take t bytes)).items)

  none_set : (bounds_of s).stop ≡ none
  none_set = ap (λ (b : Bool). pick b (some s.stop_at_lsn.0) none) no_stop

  module _ (h : Trace) (i : Input) (quiet : i.stop ≡ false) (free : i.queue ≡ Free) (t : ℕ) where
    abbrev b : List ℕ
    b = take t bytes

    read_quiet : (k : ℕ) (f : Found → Response) → Reads f → Quiet (read_response (limit_by x) b (take k (drop t bytes)) i.ended f)
    read_quiet k f w =
        let u : List ℕ = take k (drop t bytes) in
        let c : Cut = cut_of (limit_by x) ((cut_of (limit_by x) b).rest ++ u) in
        let joined : cut_of (limit_by x) (take (t + k) bytes) ≡ continued (limit_by x) u (cut_of (limit_by x) b) =
        ap (cut_of (limit_by x)) (take-add t k bytes) ∙ cut_append (limit_by x) b u in
        let pre : Generated (cut_of (limit_by x) (take (t + k) bytes)).items =
        prefix_items (limit_by x) wide (messages_of n seed) (all_fit n seed fits) (t + k) in
        let g : Generated c.items =
        last_items (cut_of (limit_by x) b).items c.items pre.messages pre.fit (sym (ap (λ (d : Cut). d.items) joined) ∙ pre.are) in
        let o : c.ending ≡ over → ⊥ =
        λ e. prefix_not_over (limit_by x) wide (messages_of n seed) (all_fit n seed fits) (t + k) (ap (λ (d : Cut). d.ending) joined ∙ e) in
        subst (λ (is : List Item). Quiet (answered (cut_of (limit_by x) b).rest u is c.ending i.ended f)) (sym g.are)
        (answer_quiet (cut_of (limit_by x) b).rest u f w g.messages c.ending o i.ended)

    -- the last message is none, or one of the generator's
    last_of_all : (A : Msg → Type 0) → A (0, []) → ((m : Message) → Fits m → A (100, payload_of m)) → (ms : List Message) → AllFit ms
        → A (last_or (0, []) (whole_ones (items_of ms)))
    unfolding last_or whole_ones items_of
    last_of_all A f g [] q = f
    last_of_all A f g (m ∷ ms) q = let l = last_of (0, []) m ms q in subst A (sym l.is) (g l.m l.fits_m)

    last_by : (A : Msg → Type 0) → A (0, []) → ((m : Message) → Fits m → A (100, payload_of m)) → A (last_message (limit_by x) b)
    last_by A f g =
        let pre : Generated (cut_of (limit_by x) b).items = prefix_items (limit_by x) wide (messages_of n seed) (all_fit n seed fits) t in
        subst (λ (is : List Item). A (last_or (0, []) (whole_ones is))) (sym pre.are) (last_of_all A f g pre.messages pre.fit)

    handling_never : Never (handling_response h (last_message (limit_by x) b))
    handling_never =
        last_by (λ (m : Msg). Never (handling_response h m))
        (λ k. back_never (read_in_wait h) k)
        (λ m f k.
        let o = handled h m f in
        let q : ◌≡◌ {A = State} Offering Ended = sym (ap (λ (y : Response). y.entered) o.offers) ∙ k in
        impossible (cc q))

    abbrev passing : ℕ → Gives → Response
    passing g v =
        let l : List Happened = drop g v.events in
        pick (ltb 1 (length l)) (respond 0 nothing Offering (take 1 l))
        (pick v.ends (respond 0 done Ended (take 1 l)) (respond 0 nothing (back_of h) (take 1 l)))

    passing_never : (g : ℕ) (es : List Happened) → Never (passing g (gives es false))
    passing_never g es k = by (ltb 1 (length (drop g es))) k
      where
        by : (c : Bool) → Never (pick c (respond 0 nothing Offering (take 1 (drop g es))) (respond 0 nothing (back_of h) (take 1 (drop g es))))
        by true k = impossible cc
        by false k = back_never (read_in_wait h) k

    offering_never : Never (offering_response x h i b)
    offering_never k =
        let m : Msg = last_message (limit_by x) b in
        let v : Gives = message_gives none m.0 m.1 in
        let e : v.ends ≡ false =
        last_by (λ (l : Msg). (message_gives none l.0 l.1).ends ≡ false) refl (λ m f. ap (λ (w : Gives). w.ends) (event_given m f)) in
        let whole_v : v ≡ gives v.events false = ap (gives v.events) e in
        let same : last_gives x b ≡ gives v.events false = ap (λ (o : Option ℕ). message_gives o m.0 m.1) none_set ∙ whole_v in
        let over : offering_response x h i b ≡ passing (gone_of h) (gives v.events false) =
        offer_by (full_before h) i.stop i.queue (writes done Ended) (hands_over x h b) (writes (status_if (is_passed x h i)) Offering) (drops x h b) quiet free
        ∙ ap (passing (gone_of h)) same in
        passing_never (gone_of h) v.events (ap (λ (y : Response). y.entered) (sym over) ∙ k)

    -- by state, with the next k bytes unread
    abbrev quietly : ℕ → ℕ → State → Response
    quietly k out st = step_response st x h i b (take k (drop t bytes)) out

    waiting_quiet : (k : ℕ) → Quiet (waiting_tests x h i b (take k (drop t bytes)))
    waiting_quiet k =
        let u : List ℕ = take k (drop t bytes) in
        let f : Found → Response = waiting_response (is_idle x h i) in
        wait_quiet i.stop (both (pending_of start h) (is_passed x h i)) (unless (pending_of start h) (signalled_of start h))
        (pick (eqb (length u) 0) i.ended true) (read_response (limit_by x) b u i.ended f) (idle_response (is_idle x h i)) quiet
        (read_quiet k f (waiting_reads (is_idle x h i))) (idle_quiet (is_idle x h i))

    turn_quiet : (k out : ℕ) → Quiet (quietly k out Turn)
    turn_quiet k out =
        guard_quiet Turn (ltb (length p) (limit_by x)) (ltb out 39) (is_bad_moment h i.moment) (table_of Turn x h i b (take k (drop t bytes)))
        (λ e. impossible (cc e))

    drain_steps : (k out : ℕ) → Quiet (quietly k out Drain)
    drain_steps k out =
        let u : List ℕ = take k (drop t bytes) in
        guard_quiet Drain (ltb (length p) (limit_by x)) (ltb out 39) (is_bad_moment h i.moment) (table_of Drain x h i b u)
        (drain_quiet (both (ltb (drained_of h) 256) (leb 5 (length u))) (eqb (drained_of h) 0) i.stop quiet)

    reading_steps : (k out : ℕ) → Quiet (quietly k out Reading)
    reading_steps k out =
        guard_quiet Reading (ltb (length p) (limit_by x)) (ltb out 39) (is_bad_moment h i.moment) (table_of Reading x h i b (take k (drop t bytes)))
        (read_quiet k reading_response reading_reads)

    waiting_steps : (k out : ℕ) → Quiet (quietly k out Waiting)
    waiting_steps k out =
        guard_quiet Waiting (ltb (length p) (limit_by x)) (ltb out 39) (is_bad_moment h i.moment) (table_of Waiting x h i b (take k (drop t bytes)))
        (waiting_quiet k)

    handling_steps : (k out : ℕ) → Never (quietly k out Handling)
    handling_steps k out =
        guard_never Handling (ltb (length p) (limit_by x)) (ltb out 39) (is_bad_moment h i.moment) (table_of Handling x h i b (take k (drop t bytes)))
        (λ e. impossible (cc e)) handling_never

    offering_steps : (k out : ℕ) → Never (quietly k out Offering)
    offering_steps k out =
        guard_never Offering (ltb (length p) (limit_by x)) (ltb out 39) (is_bad_moment h i.moment) (table_of Offering x h i b (take k (drop t bytes)))
        (λ e. impossible (cc e)) offering_never

    -- with a payload buffer shorter than the limit
    short_steps : (k out : ℕ) (st : State) → ltb (length p) (limit_by x) ≡ true → Quiet (quietly k out st)
    short_steps k out st e = by (is_ended st) (ltb (length p) (limit_by x)) e
      where
        by : (a c : Bool) → c ≡ true
            → Quiet (pick a (respond 2 nothing st []) (pick c (respond 3 nothing st []) (pick (ltb out 39) (respond 4 nothing st [])
            (pick (is_bad_moment h i.moment) (respond 5 nothing st []) (table_of st x h i b (take k (drop t bytes)))))))
        by true c q k' = (refl, refl)
        by false true q k' = (refl, refl)
        by false false q k' = impossible cc

  -- ---- any list of calls

  abbrev Complete : Trace → Type 0
  Complete h = state_after false h ≡ Ended → handed_by h ≡ all_by (taken_by h)

  module _ (h : Trace) (z : Played) (w : Preserved x h z) (closed : NoneClosed z.observed) where
    going_complete : Goings x z.run.reader z.payload z.taken z.observed z.events → handed_by h ≡ all_by (taken_by h)
    going_complete b =
        sym w.follows.events ∙ (b.course closed).all
        ∙ ap (λ (o : Option ℕ). given o b.ms) none_set
        ∙ ap (given none) (sym b.base.account.whole)
        ∙ ap all_by w.follows.taken

    short_complete : Short x z.payload z.observed z.events → handed_by h ≡ all_by (taken_by h)
    unfolding given whole_ones
    short_complete b =
        let e : taken_by h ≡ 0 = sym (taken_observed h) ∙ ap taken_of (sym w.follows.observed) ∙ b.untaken in
        sym w.follows.events ∙ b.none
        ∙ sym (ap (λ (c : Cut). given none (whole_ones c.items)) (cut_nothing (limit_by x)))
        ∙ ap all_by (sym e)

    -- a step that ends the run takes nothing and hands nothing on
    after : (y : Response) → handed_by h ≡ all_by (taken_by h) → Quiet y → y.entered ≡ Ended → handed_by h ++ y.event ≡ all_by (taken_by h + y.taken)
    after y e q k =
        let f = q k in
        let t : y.taken ≡ 0 = f.0 in
        let l : taken_by h + y.taken ≡ taken_by h = omega (arith, t) in
        ap (λ (v : List Happened). handed_by h ++ v) f.1 ∙ append-nil (handed_by h) ∙ e ∙ ap all_by (sym l)

    module _ (i : Input) (k : ℕ) (out : ℕ) (quiet : i.stop ≡ false) (free : i.queue ≡ Free) (before : Complete h) where
      by_state : (st : State) → state_after false h ≡ st → Invariant x st z → let y : Response = quietly h i quiet free (taken_by h) k out st in
          y.entered ≡ Ended → handed_by h ++ y.event ≡ all_by (taken_by h + y.taken)
      by_state st e (inl b) =
          after (quietly h i quiet free (taken_by h) k out st) (short_complete b) (short_steps h i quiet free (taken_by h) k out st (lt-ltb _ _ b.size))
      by_state Opening e (inr b) = impossible (cc b.always.0)
      by_state Turn e (inr b) =
          after (quietly h i quiet free (taken_by h) k out Turn) (going_complete b) (turn_quiet h i quiet free (taken_by h) k out)
      by_state Drain e (inr b) =
          after (quietly h i quiet free (taken_by h) k out Drain) (going_complete b) (drain_steps h i quiet free (taken_by h) k out)
      by_state Reading e (inr b) =
          after (quietly h i quiet free (taken_by h) k out Reading) (going_complete b) (reading_steps h i quiet free (taken_by h) k out)
      by_state Waiting e (inr b) =
          after (quietly h i quiet free (taken_by h) k out Waiting) (going_complete b) (waiting_steps h i quiet free (taken_by h) k out)
      by_state Handling e (inr b) = λ q. absurd (handling_steps h i quiet free (taken_by h) k out q)
      by_state Offering e (inr b) = λ q. absurd (offering_steps h i quiet free (taken_by h) k out q)
      by_state Ended e (inr b) = after (quietly h i quiet free (taken_by h) k out Ended) (before e) (λ q. (refl, refl))

    step_complete : (i : Input) (k : ℕ) (out : List ℕ) → i.stop ≡ false → i.queue ≡ Free → Complete h → Complete (trace_one x h (step i k out))
    unfolding state_after taken_by handed_by
    step_complete i k out quiet free before =
        by_state i k (length out) quiet free before (state_after false h) refl (subst (λ (a : State). Invariant x a z) w.follows.state w.invariant)

  pub all_complete : (cs : List Call) (h : Trace) (z : Played) → Preserved x h z → NoneClosed z.observed → Complete h → Undisturbed cs
      → Complete (trace_all x h cs)
  unfolding trace_all play_all state_after taken_by handed_by
  all_complete [] h z w q c u = c
  all_complete (step i k out ∷ cs) h z w q c u =
      all_complete cs (trace_one x h (step i k out)) (play_one bytes z (step i k out)) (step_preserved x h z w i k out)
      (closed_more z.observed _ q (ap is_closed u.1)) (step_complete h z w q i k out u.0 u.1 c) u.2
  all_complete (report file r m ∷ cs) h z w q c u =
      all_complete cs (trace_one x h (report file r m)) (play_one bytes z (report file r m)) (calls_preserved x (report file r m ∷ []) h z w) q c u
