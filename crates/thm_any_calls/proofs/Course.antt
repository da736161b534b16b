-- The course of the plain reading: what the messages so far give, which of their events are handed on, by the run's state, and what one step
-- more makes of that. It knows neither the reader nor the server bytes, with which Invariant joins it. StateCases says which of these
-- laws each case of the step takes; HandsOn reads the conclusion off.
use mathlib.Core.Path.{◌≡◌, refl, sym, ap, ◌∙◌}
use mathlib.Core.Bool.{Bool, true, false}
use mathlib.Core.List.{List, [], ◌∷◌, ◌++◌, append_assoc, append-nil}
use mathlib.Core.Option.{Option}
use Prim.Native.Nat.{ℕ, ◌+◌, ◌-◌}
use native.Mathlib.Omega.{arith}
use lib.ListN.{length, take, drop, take-append-drop, length-append}
use lib.Seq.{drop-nil, drop-append_seam, take-append-le, take-length}
use Rattle.wire.specs.Bytes.{pick}
use Rattle.wire.proofs.Laws.{impossible}
use Rattle.frames.specs.Tag.{is_error, is_copy_both_response}
use Rattle.worker.specs.declared.Offer.{Offer}
use Rattle.worker.specs.declared.Event.TheVariants.{StoppedAt}
use Rattle.worker.specs.declared.Queue.TheVariants.{Free, Full}
use Rattle.worker.specs.Run.{lsn, offer}
use Rattle.worker.specs.Step.{is_stopped_at}
use Rattle.worker.specs.Events as E
use Rattle.thm_any_calls.specs.Happened.{Happened, happened_of, Parts}
use Rattle.thm_any_calls.specs.Happened as H
use Rattle.thm_any_calls.specs.Plain.{Msg, Observation, Gives, gives, message_gives, after_opening, given, events_of, offered, is_cut_off, is_refused_early}
use Rattle.thm_any_calls.specs.Begins.{Begins}
use Rattle.thm_any_calls.proofs.Account.{grown}
use Rattle.thm_any_calls.proofs.Begins.{events_of_lem}
use Rattle.thm_any_calls.proofs.Facts.{gone_by}

-- where events stand: by the whole messages so far, the accepted steps since the last was whole, and the events handed on
abbrev pub Course : Type 1
Course = List Msg → List Observation → List Happened → Type 0

-- all but the last
abbrev pub front : List Msg → List Msg
front ms = take (length ms - 1) ms

front_of : (ms : List Msg) (m : Msg) → front (ms ++ (m ∷ [])) ≡ ms
front_of ms m =
    let l : length (ms ++ (m ∷ [])) ≡ length ms + 1 = length-append ms (m ∷ []) in
    let e : length (ms ++ (m ∷ [])) - 1 ≡ length ms = omega arith in
    rw e (take-append-le (length ms) ms (m ∷ []) (omega arith) ∙ take-length ms)

pub nothing_offered : (full : Bool) (us : List Observation) → offered [] full us ≡ []
unfolding offered
nothing_offered full [] = refl
nothing_offered full (u ∷ us) = refl

none_later : (es : List Happened) (full : Bool) → offered es full [] ≡ []
unfolding offered
none_later [] full = refl
none_later (e ∷ es) full = refl

-- by a test, nothing or nothing
none_either : (b : Bool) → ◌≡◌ {A = List Happened} (pick b [] []) []
none_either true = refl
none_either false = refl

-- StoppedAt follows the offered event, or nothing
abbrev pub following : Offer → List Happened
following o = pick o.stops (H.stopped_at o.reached.0 ∷ []) []

-- the offered event o, its parts in the payload buffer p, is of the message m: StoppedAt is its second event. Whatever queue closes
pub record Tied (stop : Option ℕ) (o : Offer) (p : List ℕ) (m : Msg) : Type 0 where
  pub e : Happened
  pub event : happened_of (E.said_by o.event) p ≡ e ∷ []
  pub left : drop (gone_by (is_stopped_at o.event)) (message_gives stop m.0 m.1).events ≡ e ∷ following o
  pub ends : (message_gives stop m.0 m.1).ends ≡ pick (is_stopped_at o.event) true o.stops
  pub lone : is_stopped_at o.event ≡ true → o.stops ≡ false
  pub parts : Parts (E.said_by o.event) (length m.1)

module _ (stop : Option ℕ) (opening : Bool) where
  -- ---- what messages give

  abbrev pub all_of : List Msg → List Happened
  all_of ms = events_of stop opening ms

  abbrev pub gives_of : Msg → Gives
  gives_of m = message_gives stop m.0 m.1

  -- what the last message has to hand on
  abbrev pub last_of : List Msg → List Happened
  last_of ms = drop (length (all_of (front ms))) (all_of ms)

  -- what was handed on: all of the messages before the last, and of the last what the accepted steps since it was whole offered
  abbrev pub read_off : List Msg → List Observation → List Happened
  read_off ms ws = all_of (front ms) ++ offered (last_of ms) false (drop 1 ws)

  split : (ms : List Msg) → all_of (front ms) ++ last_of ms ≡ all_of ms
  split ms =
      let b : Begins (all_of (front ms)) (all_of ms) =
      events_of_lem stop opening (record { rest = drop (length ms - 1) ms; joined = take-append-drop (length ms - 1) ms }) in
      let e : last_of ms ≡ b.rest = ap (drop (length (all_of (front ms)))) (sym b.joined) ∙ drop-append_seam (all_of (front ms)) b.rest in
      ap (λ (l : List Happened). all_of (front ms) ++ l) e ∙ b.joined

  none_last : (ms : List Msg) → all_of ms ≡ [] → last_of ms ≡ []
  none_last ms e = ap (drop (length (all_of (front ms)))) e ∙ drop-nil (length (all_of (front ms)))

  last_is : (ms : List Msg) (m : Msg) (last : List Happened) → all_of (ms ++ (m ∷ [])) ≡ all_of ms ++ last → last_of (ms ++ (m ∷ [])) ≡ last
  last_is ms m last e = rw (front_of ms m, e) (drop-append_seam (all_of ms) last)

  -- the reading goes on after these messages
  abbrev pub Goes : List Msg → Type 0
  Goes ms = (ns : List Msg) → all_of (ms ++ ns) ≡ all_of ms ++ given stop ns

  -- one message more
  and_one : (ms : List Msg) (m : Msg) → Goes ms → all_of (ms ++ (m ∷ [])) ≡ all_of ms ++ (gives_of m).events
  unfolding given
  and_one ms m g = g (m ∷ []) ∙ rw (none_either (gives_of m).ends, append-nil (gives_of m).events)

  goes_after : (ms : List Msg) (m : Msg) → Goes ms → (gives_of m).ends ≡ false → Goes (ms ++ (m ∷ []))
  unfolding given
  goes_after ms m g e ns =
      let b : all_of (ms ++ (m ∷ ns)) ≡ all_of ms ++ ((gives_of m).events ++ given stop ns) = g (m ∷ ns) ∙ simp e in
      rw (append_assoc ms (m ∷ []) ns, b, and_one ms m g, append_assoc (all_of ms) (gives_of m).events (given stop ns))

  -- all that the last message has to hand on is handed on, whatever steps follow
  abbrev pub Settled : List Msg → List Observation → Type 0
  Settled ms ws = (us : List Observation) → offered (last_of ms) false (drop 1 (ws ++ us)) ≡ last_of ms

  none_settled : (ms : List Msg) (ws : List Observation) → last_of ms ≡ [] → Settled ms ws
  none_settled ms ws e us = rw e (nothing_offered false (drop 1 (ws ++ us)))

  settled_all : (ms : List Msg) (ws : List Observation) → Settled ms ws → all_of ms ≡ read_off ms ws
  settled_all ms ws h =
      let e : offered (last_of ms) false (drop 1 ws) ≡ last_of ms = rw append-nil at (h []) in
      sym (ap (λ (l : List Happened). all_of (front ms) ++ l) e ∙ split ms)

  settled_grown : (ms : List Msg) (ws : List Observation) (x : Observation) → Settled ms ws → Settled ms (grown x ws)
  settled_grown ms ws x h = by (is_refused_early x.refusal)
    where
      by : (b : Bool) → Settled ms (pick b ws (ws ++ (x ∷ [])))
      by true us = h us
      by false us = rw (append_assoc ws (x ∷ []) us) (h (x ∷ us))

  -- ---- where the events stand, by state

  -- no CopyBothResponse among these messages
  abbrev pub Unopened : List Msg → Type 0
  Unopened ms = (ns : List Msg) → all_of (ms ++ ns) ≡ all_of ns

  -- Opening: nothing is handed on yet
  pub record Before (ms : List Msg) (ws : List Observation) (es : List Happened) : Type 0 where
    pub begun : opening ≡ true
    pub none : es ≡ []
    pub yet : Unopened ms

  -- Turn, Drain, Reading, Waiting: the events of all messages are handed on
  pub record Going (ms : List Msg) (ws : List Observation) (es : List Happened) : Type 0 where
    pub all : es ≡ all_of ms
    pub goes : Goes ms
    pub settled : Settled ms ws

  -- Handling: .. of all messages before the one that is to be handled
  pub record Held (ms : List Msg) (es : List Happened) : Type 0 where
    pub all : es ≡ all_of ms
    pub goes : Goes ms

  -- Offering: some of the last message's events are gone, the next is offered, its parts in the payload buffer p
  pub record Offers (o : Offer) (p : List ℕ) (ms : List Msg) (ws : List Observation) (es : List Happened) : Type 0 where
    pub gone : List Happened
    pub e : Happened
    pub event : happened_of (E.said_by o.event) p ≡ e ∷ []
    pub last : last_of ms ≡ gone ++ (e ∷ following o)
    pub handed : es ≡ all_of (front ms) ++ gone
    -- whatever steps follow hand on what is gone, and the rest as it is offered to them
    pub law : (us : List Observation) → offered (gone ++ (e ∷ following o)) false (drop 1 (ws ++ us)) ≡ gone ++ offered (e ∷ following o) o.stalled
        us
    -- where StoppedAt neither follows nor is offered, the reading goes on after the message
    pub goes : o.stops ≡ false → is_stopped_at o.event ≡ false → Goes ms

  -- Ended: what was handed on is what the plain reading reads off
  abbrev pub Over : List Msg → List Observation → List Happened → Type 0
  Over ms ws es = es ≡ read_off ms ws

  -- ---- what was handed on so far is what is read off

  -- where nothing is given
  none_over : (ms : List Msg) (ws : List Observation) (es : List Happened) → es ≡ [] → all_of ms ≡ [] → Over ms ws es
  none_over ms ws es h e = h ∙ (sym e ∙ settled_all ms ws (none_settled ms ws (none_last ms e)))

  -- before the first message
  pub nothing_reads : (ws : List Observation) → Over [] ws []
  unfolding given after_opening
  nothing_reads ws = none_over [] ws [] refl (by opening)
    where
      by : (b : Bool) → events_of stop b [] ≡ []
      by true = refl
      by false = refl

  module _ {ms : List Msg} {ws : List Observation} {es : List Happened} where
    pub before_reads : Before ms ws es → Over ms ws es
    unfolding given after_opening
    before_reads b = none_over ms ws es b.none (rw append-nil at (b.yet []) ∙ rw b.begun)

    pub going_reads : Going ms ws es → Over ms ws es
    going_reads g = g.all ∙ settled_all ms ws g.settled

    pub offers_reads : {o : Offer} {p : List ℕ} → Offers o p ms ws es → Over ms ws es
    offers_reads {o} h =
        let k : offered (last_of ms) false (drop 1 ws) ≡ h.gone =
        rw h.last (rw append-nil at (h.law []) ∙ rw (none_later (h.e ∷ following o) o.stalled, append-nil h.gone)) in
        rw k h.handed

  pub held_reads : {ms : List Msg} {es : List Happened} (m : Msg) → Held ms es → Over (ms ++ (m ∷ [])) [] es
  held_reads {ms} m h = rw (none_later (last_of (ms ++ (m ∷ []))) false, append-nil (all_of (front (ms ++ (m ∷ [])))), front_of ms m) h.all

  -- ---- one step more, no message more

  module _ {ms : List Msg} {ws : List Observation} {es : List Happened} (x : Observation) where
    pub before_on : Before ms ws es → Before ms (grown x ws) (es ++ [])
    before_on b = record { begun = b.begun; none = append-nil es ∙ b.none; yet = b.yet }

    pub before_over : Before ms ws es → Over ms (grown x ws) (es ++ [])
    before_over b = before_reads (before_on b)

    pub going_on : Going ms ws es → Going ms (grown x ws) (es ++ [])
    going_on g = record { all = append-nil es ∙ g.all; goes = g.goes; settled = settled_grown ms ws x g.settled }

    pub going_over : Going ms ws es → Over ms (grown x ws) (es ++ [])
    going_over g = going_reads (going_on g)

  -- ---- a step that makes a message whole

  module _ {ms : List Msg} {ws : List Observation} {es : List Happened} where
    pub going_held : Going ms ws es → Held ms (es ++ [])
    going_held g = record { all = append-nil es ∙ g.all; goes = g.goes }

    module _ (m : Msg) (b : Before ms ws es) where
      pub before_skips : is_copy_both_response m.0 ≡ false → is_error m.0 ≡ false → Before (ms ++ (m ∷ [])) [] (es ++ [])
      unfolding after_opening
      before_skips c d =
          record {
            begun = b.begun;
            none = append-nil es ∙ b.none;
            yet = λ ns. rw (append_assoc ms (m ∷ []) ns) (b.yet (m ∷ ns) ∙ simp (b.begun, c, d));
          }

      pub before_error : is_copy_both_response m.0 ≡ false → is_error m.0 ≡ true → Over (ms ++ (m ∷ [])) [] (es ++ [])
      unfolding after_opening given
      before_error c d = none_over (ms ++ (m ∷ [])) [] (es ++ []) (append-nil es ∙ b.none) (b.yet (m ∷ []) ∙ simp (b.begun, c, d))

      pub before_goes : is_copy_both_response m.0 ≡ true → Going (ms ++ (m ∷ [])) [] (es ++ [])
      unfolding after_opening given
      before_goes c =
          let a : all_of (ms ++ (m ∷ [])) ≡ [] = b.yet (m ∷ []) ∙ simp (b.begun, c) in
          record {
            all = append-nil es ∙ (b.none ∙ sym a);
            goes = λ ns. rw (a, append_assoc ms (m ∷ []) ns) (b.yet (m ∷ ns) ∙ simp (b.begun, c));
            settled = none_settled (ms ++ (m ∷ [])) [] (none_last (ms ++ (m ∷ [])) a);
          }

  -- ---- a step that handles a message

  module _ (m : Msg) (x : Observation) {ms : List Msg} {es : List Happened} (h : Held ms es) where
    abbrev ns : List Msg
    ns = ms ++ (m ∷ [])

    handled_none : (gives_of m).events ≡ [] → (es ++ [] ≡ all_of ns) × ((ws : List Observation) → Settled ns ws)
    handled_none e =
        let a : all_of ns ≡ all_of ms ++ [] = and_one ms m h.goes ∙ rw e in
        (ap (λ (l : List Happened). l ++ []) h.all ∙ sym a, λ ws. none_settled ns ws (last_is ms m [] a))

    pub handled_over : (gives_of m).events ≡ [] → Over ns (grown x []) (es ++ [])
    handled_over e = let k = handled_none e in k.0 ∙ settled_all ns (grown x []) (k.1 (grown x []))

    pub handled_back : gives_of m ≡ gives [] false → Going ns (grown x []) (es ++ [])
    handled_back e =
        let k = handled_none (ap (λ (y : Gives). y.events) e) in
        record { all = k.0; goes = goes_after ms m h.goes (ap (λ (y : Gives). y.ends) e); settled = k.1 (grown x []) }

    -- an event is offered, and what follows it
    pub handled_offer : (o : Offer) (p : List ℕ) (e : Happened) → o.stalled ≡ false → happened_of (E.said_by o.event) p ≡ e ∷ []
        → gives_of m ≡ gives (e ∷ following o) o.stops → Offers o p ns (x ∷ []) (es ++ [])
    handled_offer o p e f ev g =
        record {
          gone = [];
          e = e;
          event = ev;
          last = last_is ms m (e ∷ following o) (and_one ms m h.goes ∙ ap (λ (y : Gives). all_of ms ++ y.events) g);
          handed = rw front_of (ap (λ (l : List Happened). l ++ []) h.all);
          law = λ us. rw f refl;
          goes = λ c d. goes_after ms m h.goes (ap (λ (y : Gives). y.ends) g ∙ c);
        }

  -- ---- a step that offers an event

  module _ (x : Observation) {o : Offer} {p : List ℕ} {ms : List Msg} {ws : List Observation} {es : List Happened} (h : Offers o p ms ws es) where
    -- what is still to be handed on
    abbrev left : List Happened
    left = h.e ∷ following o

    -- the law, one step on
    next_law : (us : List Observation) → offered (h.gone ++ left) false (drop 1 ((ws ++ (x ∷ [])) ++ us)) ≡ h.gone ++ offered left o.stalled
        (x ∷ us)
    next_law us = rw (append_assoc ws (x ∷ []) us) (h.law (x ∷ us))

    -- the run ends now; fs of what was left was handed on by then
    offers_over : (fs : List Happened) → offered left o.stalled (x ∷ []) ≡ fs → Over ms (ws ++ (x ∷ [])) (es ++ fs)
    offers_over fs e =
        let a : offered (last_of ms) false (drop 1 (ws ++ (x ∷ []))) ≡ h.gone ++ fs = rw h.last (h.law (x ∷ []) ∙ rw e) in
        rw (a, h.handed, append_assoc (all_of (front ms)) h.gone fs)

    -- a stop request cuts it off
    pub cut_off : is_cut_off x o.stalled ≡ true → Over ms (ws ++ (x ∷ [])) (es ++ [])
    unfolding offered
    cut_off c = offers_over [] (simp c)

    -- the queue is full, and it waits
    pub waits_on : is_cut_off x o.stalled ≡ false → x.queue ≡ Full
        → Offers (offer o.event true o.stops o.reached) p ms (ws ++ (x ∷ [])) (es ++ [])
    unfolding offered
    waits_on c q =
        record {
          gone = h.gone;
          e = h.e;
          event = h.event;
          last = h.last;
          handed = append-nil es ∙ h.handed;
          law = λ us. next_law us ∙ ap (λ (l : List Happened). h.gone ++ l) (simp c (simp q));
          goes = h.goes;
        }

    -- the queue takes it
    module _ (c : is_cut_off x o.stalled ≡ false) (q : x.queue ≡ Free) where
      taken_law : (us : List Observation) → offered left o.stalled (x ∷ us) ≡ h.e ∷ offered (following o) false us
      unfolding offered
      taken_law us = simp c (simp q)

      pub hands_last : Over ms (ws ++ (x ∷ [])) (es ++ happened_of (E.said_by o.event) p)
      hands_last = rw h.event (offers_over (h.e ∷ []) (taken_law [] ∙ rw (none_later (following o) false)))

      handed_now : es ++ happened_of (E.said_by o.event) p ≡ all_of (front ms) ++ (h.gone ++ (h.e ∷ []))
      handed_now = rw (h.event, h.handed) (append_assoc (all_of (front ms)) h.gone (h.e ∷ []))

      -- StoppedAt follows
      pub hands_then_stopped : o.stops ≡ true
          → Offers (offer (StoppedAt o.reached) false false (lsn 0)) p ms (ws ++ (x ∷ [])) (es ++ happened_of (E.said_by o.event) p)
      hands_then_stopped y =
          let after : List Happened = H.stopped_at o.reached.0 ∷ [] in
          let f : following o ≡ after = simp y in
          let j : (l : List Happened) → h.gone ++ (h.e ∷ l) ≡ (h.gone ++ (h.e ∷ [])) ++ l = λ l. sym (append_assoc h.gone (h.e ∷ []) l) in
          record {
            gone = h.gone ++ (h.e ∷ []);
            e = H.stopped_at o.reached.0;
            event = refl;
            last = h.last ∙ (ap (λ (l : List Happened). h.gone ++ (h.e ∷ l)) f ∙ j after);
            handed = handed_now;
            law = λ us.
                rw (← j after, ← f)
                (next_law us ∙ (ap (λ (l : List Happened). h.gone ++ l) (taken_law us) ∙ j (offered (following o) false us)));
            goes = λ a b. let w : ◌≡◌ {A = Bool} true false = b in impossible cc;
          }

      -- nothing follows
      pub hands_and_goes : o.stops ≡ false → is_stopped_at o.event ≡ false → Going ms (ws ++ (x ∷ [])) (es ++ happened_of (E.said_by o.event) p)
      hands_and_goes y k =
          let f : following o ≡ [] = simp y in
          let l : last_of ms ≡ h.gone ++ (h.e ∷ []) = h.last ∙ rw f in
          record {
            all = handed_now ∙ (rw (← l) (split ms));
            goes = h.goes y k;
            settled = λ us. rw h.last (next_law us ∙ rw (taken_law us, f, nothing_offered false us));
          }
