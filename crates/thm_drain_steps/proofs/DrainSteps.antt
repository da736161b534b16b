-- The four steps of a message, the steps between two rounds, and then any number of messages.
use mathlib.Core.Path.{◌≡◌, refl, sym, ap, ◌∙◌, subst}
use mathlib.Core.Bool.{Bool, true, false}
use mathlib.Core.List.{List, [], ◌∷◌, ◌++◌}
use Prim.Native.Nat.{ℕ, zero, suc, ◌+◌, ◌≤◌, ◌<◌}
use native.Mathlib.Nat.{min-le_left}
use native.Mathlib.Omega.{arith}
use lib.IntN.{ℤ}
use lib.ListN.{length, take, drop, length-take, length-drop}
use lib.Seq.{drop-drop, length-take-le, take_at}
use lib.Dec.{ltb, eqb}
use borrow.Author.Tests.{le-leb, lt-ltb, le-ltb, ltb-true, ltb-false, eqb-true, ne_eqb, not-true}
use Rattle.wire.specs.Bytes.{pick, at, put}
use Rattle.wire.proofs.Laws.{by_test, impossible, length_put, part_of_front}
use Rattle.frames.specs.Message.{Front, in_header, in_payload, bad_length, too_large, whole, front_of}
use Rattle.frames.specs.Tag.{is_copy_data}
use Rattle.framing.specs.Read.{Result, limit_of, fresh}
use Rattle.framing.proofs.WholeFront.{read_front, front_within}
use Rattle.lsn.specs.declared.Lsn.{Lsn}
use Rattle.metrics.specs.Metrics.{with_end}
use Rattle.metrics.specs.Metrics.{more as add}
use Rattle.moment.specs.declared.Moment.{Moment}
use Rattle.moment.specs.Moment.{in_range}
use Rattle.pgoutput.specs.Boundary.{boundary_of}
use Rattle.pgoutput.specs.Boundary as B
use Rattle.replication.specs.CopyData.{copy_data_of}
use Rattle.replication.specs.CopyData as C
use Rattle.replication.proofs.LayoutXLogData.{data_within}
use Rattle.worker.specs.declared.Event.{Event}
use Rattle.worker.specs.declared.Event.TheVariants.{KeepAlive}
use Rattle.worker.specs.declared.Input.{Input}
use Rattle.worker.specs.declared.Queue.{Queue}
use Rattle.worker.specs.declared.Queue.TheVariants.{Free}
use Rattle.worker.specs.declared.Run.{Run}
use Rattle.worker.specs.declared.State.{State}
use Rattle.worker.specs.declared.State.TheVariants.{Opening, Turn, Drain, Reading, Waiting, Handling, Offering, Ended}
use Rattle.worker.specs.Answer.{lent}
use Rattle.worker.specs.Events.{data_gives}
use Rattle.worker.specs.Events as E
use Rattle.worker.specs.Run.{lsn, whole_of, with_state, with_reader, with_drained, with_whole, with_metrics, accepted}
use Rattle.worker.specs.Step.{Outcome, Lent, handing, moved, having, is_ended, bad_moment, reaches, reading_by, reading_of, drain_of, given_of, copy_data_by}
use Rattle.worker.specs.Step.{handling_of, first_offer_by, offering_of, offers, is_stopped_at, status_due, turn_of, step_in, step_of}
use Rattle.advance.specs.declared.at_hand.AtHand.{AtHand}
use Rattle.advance.specs.Advance.{is_nothing, lent_after}
use Rattle.advance.specs.AtHand.{at_hand, has_room_for, handed_run}
use Rattle.drain.specs.Drain.{hand_given, hand_payload, hand_front, hand_of, round_begun, entered_in, is_ready, Drained, stays, further, entering, drain_from}
use Rattle.drain.proofs.DrainLaws.{choose, each, drain_none, drain_more}
use Rattle.thm_held_front.specs.HeldFront.{parts_end, held, SameHeld, parts}
use Rattle.thm_held_front.proofs.HeldFront.{named_same, GivenWithin, given_within}
use Rattle.thm_drain_steps.specs.DrainSteps.{Told, told_by, told_in, Silent, Steps, none, more, DrainIsSteps}

-- ---- tests

both_true : (b : Bool) {x : Bool} → pick b x false ≡ true → (b ≡ true) × (x ≡ true)
both_true true e = (refl, e)
both_true false e = impossible cc

unless_true : (b : Bool) {x : Bool} → pick b false x ≡ true → (b ≡ false) × (x ≡ true)
unless_true true e = impossible cc
unless_true false e = (refl, e)

-- ---- one step, which is accepted

accepts : (r : Run) (i : Input) (l : Lent) → is_ended r.state ≡ false → limit_of r.settings.max_message_size ≤ length l.payload
    → 39 ≤ length l.out → bad_moment r i.moment ≡ false → step_of r i l ≡ step_in r.state (accepted i.moment r) i l
unfolding step_of
accepts r i l a b c d = fourth _ _ _ _ _ _ _ _ _ a (le-ltb _ _ b) (le-ltb _ _ c) d
  where
    fourth : {A : Type 0} (a b c d : Bool) (v w x y z : A) → a ≡ false → b ≡ false → c ≡ false → d ≡ false
        → pick a v (pick b w (pick c x (pick d y z))) ≡ z
    fourth a b c d v w x y z ea eb ec ed = rw (ea, eb, ec, ed)

-- a moment that was accepted is accepted again
again : (r : Run) (m : Moment) → bad_moment r m ≡ false → bad_moment (accepted m r) m ≡ false
again r m e = by_test (in_range m) (λ a. rw (a, le-ltb m.0 m.0 (omega arith))) (λ a. impossible cc)

-- ---- steps before others

module _ (i : Input) where
  step_more : (r last : Run) (l : Lent) (o : Outcome) (n k : ℕ) (ts : List Told) (b : List ℕ) → step_of r i l ≡ o → Silent l o
      → Steps i n o.run (lent_after l o) ts last k b → Steps i (suc n) r l (told_by o ++ ts) last (o.taken + k) b
  step_more r last l o n k ts b e s rest =
      subst (λ (y : Outcome). Steps i (suc n) r l (told_by y ++ ts) last (y.taken + k) b) e
      (more (subst (λ (y : Outcome). Silent l y) (sym e) s)
      (subst (λ (y : Outcome). Steps i n y.run (lent_after l y) ts last k b) (sym e) rest))

  counted : {r last : Run} {l : Lent} {ts : List Told} {b : List ℕ} (n n' k k' : ℕ) → n ≡ n' → k ≡ k' → Steps i n r l ts last k b
      → Steps i n' r l ts last k' b
  counted n n' k k' en ek s = rw (← en, ← ek) s

  -- one that only moves the run
  moved_more : (r next last : Run) (u p out : List ℕ) (n k : ℕ) (ts : List Told) (b : List ℕ) → step_of r i (lent u p out) ≡ moved next (lent u p out)
      → Steps i n next (lent u p out) ts last k b → Steps i (suc n) r (lent u p out) ts last k b
  moved_more r next last u p out n k ts b e s =
      counted (suc n) (suc n) (0 + k) k refl (omega arith)
      (step_more r last (lent u p out) (moved next (lent u p out)) n k ts b e
      (record { none_refused = refl; none_written = refl; same_out = refl }) s)

-- ---- what a buffer holds after a write over its front

front_put : (p s : List ℕ) (n : ℕ) → length s ≡ n → take n (put p 0 s) ≡ s
unfolding put
front_put p s n h = take_at s _ n h

-- data give no StoppedAt and not nothing
abbrev Plain : E.Given → Type 0
Plain (E.given e reached) = (is_stopped_at e ≡ false) × (is_nothing (E.said_by e) ≡ false)
Plain (E.refused n) = Unit {0}

data_plain : (b : B.Said) (start end : ℕ) (time : ℤ) (from len : ℕ) → Plain (data_gives b start end time from len)
data_plain (B.begin final commit_time xid) start end time from len = (refl, refl)
data_plain (B.commit position commit_end commit_time) start end time from len = (refl, refl)
data_plain (B.message flag position pf pl cf cl) start end time from len = (refl, refl)
data_plain B.no_boundary start end time from len = (refl, refl)
data_plain (B.refused n) start end time from len = tt

-- ---- the four steps of a message

-- what a run is that can hand one on at once
record Ready (r : Run) (m : Moment) (p o : ℕ) : Type 0 where
  state : r.state ≡ Drain
  none_there : r.reader.filled ≡ 0
  going : r.reader.refused ≡ false
  few : r.drained < 256
  room : limit_of r.settings.max_message_size ≤ p
  out : 39 ≤ o
  moment : bad_moment r m ≡ false

module _ (i : Input) (free : i.queue ≡ Free) (x : Run) (u p o : List ℕ) (y : Ready x i.moment (length p) (length o)) where
  abbrev m : Moment
  m = i.moment

  abbrev limit : ℕ
  limit = limit_of x.settings.max_message_size

  abbrev l : Lent
  l = lent u p o

  module _ (n : ℕ) (f : front_of limit u ≡ whole 100 n) where
    abbrev s : List ℕ
    s = at u 5 n

    abbrev q : List ℕ
    q = put p 0 s

    there : 5 + n ≤ length u
    there = (front_within limit u 100 n f).0

    abbrev r1 : Run
    r1 = with_state Reading (accepted m x)

    drains : step_of x i l ≡ moved r1 l
    unfolding step_in drain_of
    drains =
        let k = there in
        accepts x i l (ap is_ended y.state) y.room y.out y.moment
        ∙ (ap (λ (z : State). step_in z (accepted m x) i l) y.state ∙ rw (lt-ltb _ _ y.few, le-leb 5 (length u) (omega arith)) refl)

    abbrev r2 : Run
    r2 = with_state Handling (with_whole (whole_of 100 n false) (with_drained (add x.drained 1) (with_reader fresh r1)))

    reads : step_of r1 i l ≡ having (5 + n) q (moved r2 l)
    unfolding step_in reading_of
    reads =
        accepts r1 i l refl y.room y.out (again x m y.moment)
        ∙ ap (λ (z : Result). having z.2 z.3 (reading_by z.0 (with_reader z.1 r1) l))
        (read_front x.settings.max_message_size x.reader u i.ended p 100 n y.none_there y.going y.room f)

    abbrev l2 : Lent
    l2 = lent (drop (5 + n) u) q o

    s_long : length s ≡ n
    s_long = let k = there in length-take-le n (drop 5 u) (simp length-drop (omega arith))

    q_long : length q ≡ length p
    q_long = length_put p s 0 (let a = s_long in let b = y.room in let c = (front_within limit u 100 n f).1 in omega arith)

    room2 : limit ≤ length q
    room2 = let a = q_long in omega (arith, y.room)

    agree : take n q ≡ take n (drop 5 u)
    agree = front_put p s n s_long

    module _ (end : ℕ) (e : Event) (reached : Lsn) where
      abbrev a : AtHand
      a = at_hand n (lsn end) reached e

      abbrev r3 : Run
      r3 = offers e false reached (with_metrics (with_end x.metrics (lsn end)) r2)

      -- its event goes to the consumer
      hands : is_stopped_at e ≡ false → step_of r3 i l2 ≡ handing e (handed_run x m a) l2
      unfolding step_in offering_of
      hands plain =
          accepts r3 i l2 refl room2 y.out (again x m y.moment) ∙ (ap (λ (z : Queue). first_offer_by z r3 i l2) free ∙ rw plain refl)

      abbrev told : Told
      told = (E.said_by e, parts (E.said_by e) (drop 5 u))

      handles : copy_data_by (copy_data_of (take n q)) r2 i l2 ≡ moved r3 l2 → step_of r2 i l2 ≡ moved r3 l2
      unfolding step_in handling_of
      handles handled = accepts r2 i l2 refl room2 y.out (again x m y.moment) ∙ handled

      four : copy_data_by (copy_data_of (take n q)) r2 i l2 ≡ moved r3 l2 → is_stopped_at e ≡ false → is_nothing (E.said_by e) ≡ false → parts_end e ≤ n
          → (k t : ℕ) (ts : List Told) (last : Run) (b : List ℕ) → Steps i k (handed_run x m a) l2 ts last t b
          → Steps i (4 + k) x l (told ∷ ts) last (5 + n + t) b
      four handled plain some_event within k t ts last b rest =
          let bytes : parts (E.said_by e) q ≡ parts (E.said_by e) (drop 5 u) = named_same q (drop 5 u) n agree e within in
          let tells : told_by (handing e (handed_run x m a) l2) ≡ told ∷ [] = rw (some_event, bytes) refl in
          let fourth : Steps i (suc k) r3 l2 (told ∷ ts) last (0 + t) b =
          subst (λ (z : List Told). Steps i (suc k) r3 l2 (z ++ ts) last (0 + t) b) tells
          (step_more i r3 last l2 (handing e (handed_run x m a) l2) k t ts b (hands plain)
          (record { none_refused = refl; none_written = refl; same_out = refl }) rest) in
          let third : Steps i (suc (suc k)) r2 l2 (told ∷ ts) last (0 + t) b =
          moved_more i r2 r3 last (drop (5 + n) u) q o (suc k) (0 + t) (told ∷ ts) b (handles handled) fourth in
          let second : Steps i (suc (suc (suc k))) r1 l (told ∷ ts) last (5 + n + (0 + t)) b =
          step_more i r1 last l (having (5 + n) q (moved r2 l)) (suc (suc k)) (0 + t) (told ∷ ts) b reads
          (record { none_refused = refl; none_written = refl; same_out = refl }) third in
          let first : Steps i (suc (suc (suc (suc k)))) x l (told ∷ ts) last (5 + n + (0 + t)) b =
          moved_more i x r1 last u p o (suc (suc (suc k))) (5 + n + (0 + t)) (told ∷ ts) b drains second in
          counted i (suc (suc (suc (suc k)))) (4 + k) (5 + n + (0 + t)) (5 + n + t) (omega arith) (omega arith) first

    -- by what the payload says
    abbrev Goes : AtHand → Type 0
    Goes a =
        (a.len ≡ n)
        × ((k t : ℕ) (ts : List Told) (last : Run) (b : List ℕ) → Steps i k (handed_run x m a) l2 ts last t b
        → Steps i (4 + k) x l ((E.said_by a.event, parts (E.said_by a.event) (drop 5 u)) ∷ ts) last (5 + n + t) b)

    said_is : copy_data_of (take n q) ≡ copy_data_of s
    said_is = ap copy_data_of agree

    given_goes : (g : E.Given) (start end : ℕ) (time : ℤ) (from len : ℕ) → copy_data_of s ≡ C.w start end time from len
        → data_gives (boundary_of (at s from len)) start end time from len ≡ g → Plain g → GivenWithin n g → from + len ≤ n
        → eqb (hand_given x n (lsn end) g).len 0 ≡ false → Goes (hand_given x n (lsn end) g)
    given_goes (E.refused number) start end time from len c gives plain w v h = impossible cc
    given_goes (E.given e reached) start end time from len c gives plain w v h =
        by_test (reaches x reached)
        (λ t. let z : ◌≡◌ {A = Bool} true false = rw t at h in impossible cc)
        (λ t. rw t (refl, four end e reached (handled t) plain.0 plain.1 w))
      where
        handled : reaches x reached ≡ false
            → copy_data_by (copy_data_of (take n q)) r2 i l2 ≡ moved (offers e false reached (with_metrics (with_end x.metrics (lsn end)) r2)) l2
        handled t =
            let d : at q from len ≡ at s from len =
            sym (part_of_front n from len q v) ∙ (ap (λ (z : List ℕ). at z from len) agree) in
            let b : Run = with_metrics (with_end x.metrics (lsn end)) r2 in
            ap (λ (z : C.Said). copy_data_by z r2 i l2) (said_is ∙ c)
            ∙ (ap (λ (z : List ℕ). given_of (data_gives (boundary_of z) start end time from len) b l2) d
            ∙ (ap (λ (z : E.Given). given_of z b l2) gives ∙ ap (λ (z : Bool). moved (offers e z reached b) l2) t))

    payload_goes : (c : C.Said) → copy_data_of s ≡ c → eqb (hand_payload x s n c).len 0 ≡ false → Goes (hand_payload x s n c)
    payload_goes (C.refused number) e h = impossible cc
    payload_goes (C.k end time true) e h = impossible cc
    payload_goes (C.k end time false) e h =
        (refl, four end (KeepAlive (lsn end) time false) (lsn 0) (ap (λ (z : C.Said). copy_data_by z r2 i l2) (said_is ∙ e)) refl refl (omega arith))
    payload_goes (C.w start end time from len) e h =
        let v : from + len ≤ length s = data_within s start end time from len e in
        let v' : from + len ≤ n = (let z = s_long in omega arith) in
        let g : length (at s from len) ≤ len = rw length-take (min-le_left len (length (drop from s))) in
        given_goes (data_gives (boundary_of (at s from len)) start end time from len) start end time from len e refl
        (data_plain (boundary_of (at s from len)) start end time from len)
        (given_within (boundary_of (at s from len)) (at s from len) start end time from len n refl g v') v' h

  -- a message at the front is handed on by four steps
  record Handing (a : AtHand) : Type 0 where
    there : 5 + a.len ≤ length u
    fits : a.len ≤ limit
    goes : (k t : ℕ) (ts : List Told) (last : Run) (b : List ℕ)
        → Steps i k (handed_run x m a) (lent (drop (5 + a.len) u) (put p 0 (at u 5 a.len)) o) ts last t b
        → Steps i (4 + k) x l ((E.said_by a.event, parts (E.said_by a.event) (drop 5 u)) ∷ ts) last (5 + a.len + t) b

  front_goes : (g : Front) → front_of limit u ≡ g → eqb (hand_front x u g).len 0 ≡ false → Handing (hand_front x u g)
  front_goes in_header e h = impossible cc
  front_goes in_payload e h = impossible cc
  front_goes bad_length e h = impossible cc
  front_goes too_large e h = impossible cc
  front_goes (whole tag n) e h =
      by_test (is_copy_data tag)
      (λ t.
      let d : tag ≡ 100 = eqb-true _ _ t in
      let f : front_of limit u ≡ whole 100 n = e ∙ ap (λ (z : ℕ). whole z n) d in
      let c : C.Said = copy_data_of (at u 5 n) in
      let g = payload_goes n f c refl (rw t at h) in
      let w = front_within limit u 100 n f in
      rw t (by (hand_payload x (at u 5 n) n c) g.0 w.0 w.1 g.1))
      (λ t. let z : ◌≡◌ {A = Bool} true false = rw t at h in impossible cc)
    where
      by : (a : AtHand) → a.len ≡ n → 5 + n ≤ length u → n ≤ limit
          → ((k t : ℕ) (ts : List Told) (last : Run) (b : List ℕ)
          → Steps i k (handed_run x m a) (lent (drop (5 + n) u) (put p 0 (at u 5 n)) o) ts last t b
          → Steps i (4 + k) x l ((E.said_by a.event, parts (E.said_by a.event) (drop 5 u)) ∷ ts) last (5 + n + t) b)
          → Handing a
      by b e w v g =
          record {
            there = rw e w;
            fits = rw e v;
            goes = subst (λ (z : ℕ). (k t : ℕ) (ts : List Told) (last : Run) (c : List ℕ)
                → Steps i k (handed_run x m b) (lent (drop (5 + z) u) (put p 0 (at u 5 z)) o) ts last t c
                → Steps i (4 + k) x l ((E.said_by b.event, parts (E.said_by b.event) (drop 5 u)) ∷ ts) last (5 + z + t) c) (sym e) g;
          }

  hand_goes : eqb (hand_of x u).len 0 ≡ false → Handing (hand_of x u)
  unfolding hand_of
  hand_goes h = front_goes (front_of limit u) refl h

-- ---- the steps before a message

-- the reader holds nothing, and steps are accepted
record Accepting (r : Run) (m : Moment) (p o : ℕ) : Type 0 where
  none_there : r.reader.filled ≡ 0
  going : r.reader.refused ≡ false
  room : limit_of r.settings.max_message_size ≤ p
  out : 39 ≤ o
  moment : bad_moment r m ≡ false

ready_is : (r : Run) (m : Moment) (p o : ℕ) → is_ready r m p o ≡ true → Accepting r m p o
unfolding is_ready has_room_for
ready_is r m p o h =
    let limit : ℕ = limit_of r.settings.max_message_size in
    let a = both_true (eqb r.reader.filled 0) h in
    let b = unless_true r.reader.refused a.1 in
    let c = unless_true (ltb p limit) b.1 in
    let d = unless_true (ltb limit 0) c.1 in
    let e = unless_true (ltb o 39) d.1 in
    record {
      none_there = eqb-true _ _ a.0;
      going = b.0;
      room = ltb-false _ _ c.0;
      out = ltb-false _ _ e.0;
      moment = not-true _ e.1;
    }

turns : (i : Input) (r : Run) (u p o : List ℕ) → Accepting r i.moment (length p) (length o) → r.state ≡ Turn
    → status_due (accepted i.moment r) ≡ false → step_of r i (lent u p o) ≡ moved (round_begun i.moment r) (lent u p o)
unfolding step_in turn_of
turns i r u p o y e d =
    accepts r i (lent u p o) (ap is_ended e) y.room y.out y.moment
    ∙ (ap (λ (z : State). step_in z (accepted i.moment r) i (lent u p o)) e ∙ rw d refl)

module _ (i : Input) (r : Run) (u p o : List ℕ) (y : Accepting r i.moment (length p) (length o)) where
  abbrev now : Moment
  now = i.moment

  abbrev lends : Lent
  lends = lent u p o

  round_ready : Ready (round_begun now r) now (length p) (length o)
  round_ready =
      record {
        state = refl;
        none_there = y.none_there;
        going = y.going;
        few = omega arith;
        room = y.room;
        out = y.out;
        moment = again r now y.moment;
      }

  -- so many steps lead to a run
  abbrev Leads : ℕ → Run → Type 0
  Leads k x = (n t : ℕ) (ts : List Told) (last : Run) (b : List ℕ) → Steps i n x lends ts last t b → Steps i (k + n) r lends ts last t b

  abbrev turned : Run
  turned = with_state Turn (accepted now r)

  turned_accepts : Accepting turned now (length p) (length o)
  turned_accepts =
      record { none_there = y.none_there; going = y.going; room = y.room; out = y.out; moment = again r now y.moment }

  round_ends : r.state ≡ Drain → 256 ≤ r.drained → i.stop ≡ false → step_of r i lends ≡ moved turned lends
  unfolding step_in drain_of
  round_ends e many stop =
      let z : r.drained ≡ 0 → ⊥ = λ q. omega arith in
      accepts r i lends (ap is_ended e) y.room y.out y.moment
      ∙ (ap (λ (z : State). step_in z (accepted now r) i lends) e ∙ rw (le-ltb _ _ many, ne_eqb _ _ z, stop) refl)

  from_turn : r.state ≡ Turn → status_due (accepted now r) ≡ false → Leads 1 (round_begun now r)
  from_turn e d n t ts last b s =
      counted i (suc n) (1 + n) t t (omega arith) refl (moved_more i r (round_begun now r) last u p o n t ts b (turns i r u p o y e d) s)

  from_border : r.state ≡ Drain → 256 ≤ r.drained → i.stop ≡ false → status_due (accepted now r) ≡ false → Leads 2 (round_begun now r)
  from_border e many stop d n t ts last b s =
      counted i (suc (suc n)) (2 + n) t t (omega arith) refl
      (moved_more i r turned last u p o (suc n) t ts b (round_ends e many stop)
      (moved_more i turned (round_begun now r) last u p o n t ts b (turns i turned u p o turned_accepts refl d) s))

  in_round : Leads 0 r
  in_round n t ts last b s = counted i n (0 + n) t t (omega arith) refl s

  entering_by : (P : Drained → Type 0) (z : State) → r.state ≡ z → (d : Drained) (f : ℕ → Run → Drained) → P d
      → ((k : ℕ) (x : Run) → Ready x now (length p) (length o) → Leads k x → P (f k x)) → P (entering (entered_in z r now i.stop) d f)
  entering_by P Opening e d f h g = h
  entering_by P Turn e d f h g =
      by_test (status_due (accepted now r))
      (λ t. rw t h)
      (λ t. rw t (g 1 (round_begun now r) round_ready (from_turn e t)))
  entering_by P Drain e d f h g =
      by_test (ltb r.drained 256)
      (λ t.
      rw t
      (g 0 r
      (record {
        state = e;
        none_there = y.none_there;
        going = y.going;
        few = ltb-true _ _ t;
        room = y.room;
        out = y.out;
        moment = y.moment;
      }) in_round))
      (λ t.
      by_test i.stop
      (λ s. rw (t, s) h)
      (λ s.
      by_test (status_due (accepted now r))
      (λ v. rw (t, s, v) h)
      (λ v. rw (t, s, v) (g 2 (round_begun now r) round_ready (from_border e (ltb-false _ _ t) s v)))))
  entering_by P Reading e d f h g = h
  entering_by P Waiting e d f h g = h
  entering_by P Handling e d f h g = h
  entering_by P Offering e d f h g = h
  entering_by P Ended e d f h g = h

-- ---- any number of messages

module _ (i : Input) (free : i.queue ≡ Free) (u o : List ℕ) (size : ℕ) where
  -- from a place on, with a payload buffer
  record From (n place : ℕ) (r : Run) (p : List ℕ) (d : Drained) : Type 0 where
    buffer : List ℕ
    count : ℕ
    taken : d.taken ≡ place + count
    steps : Steps i d.steps r (lent (drop place u) p o) (told_in u d.events) d.run count buffer
    empty : held r ≡ 0 → held d.run ≡ 0
    same : SameHeld d.run p buffer
    within : d.taken ≤ length u
    at_most : length d.events ≤ n

  stays_from : (n place : ℕ) (r : Run) (p : List ℕ) → place ≤ length u → From n place r p (stays r place)
  unfolding told_in
  stays_from n place r p w =
      record {
        buffer = p;
        count = 0;
        taken = omega arith;
        steps = none;
        empty = λ e. e;
        same = record { size = refl; front = refl };
        within = w;
        at_most = omega arith;
      }

  module _ (n place : ℕ) (r x : Run) (p : List ℕ) (k : ℕ) (a : AtHand)
      (ready : Ready x i.moment (length p) (length o))
      (leads : (n t : ℕ) (ts : List Told) (last : Run) (b : List ℕ) → Steps i n x (lent (drop place u) p o) ts last t b
      → Steps i (k + n) r (lent (drop place u) p o) ts last t b)
      (w : place ≤ length u) (h : Handing i free x (drop place u) p o ready a) where
    abbrev filled : List ℕ
    filled = put p 0 (at (drop place u) 5 a.len)

    abbrev later : ℕ
    later = place + (5 + a.len)

    later_within : later ≤ length u
    later_within = let z = h.there in let y = length-drop place u in omega arith

    same_size : length filled ≡ length p
    same_size =
        length_put p (at (drop place u) 5 a.len) 0
        (let z : length (at (drop place u) 5 a.len) ≤ a.len = rw length-take (min-le_left a.len (length (drop 5 (drop place u)))) in
        let v = h.fits in let c = ready.room in omega arith)

    further_from : (d : Drained) → From n later (handed_run x i.moment a) filled d → From (suc n) place r p (further k place a d)
    unfolding told_in
    further_from d f =
        let e : drop (5 + a.len) (drop place u) ≡ drop later u = drop-drop (5 + a.len) place u in
        let g : drop 5 (drop place u) ≡ drop (place + 5) u = drop-drop 5 place u in
        let z : held d.run ≡ 0 = f.empty refl in
        let c = f.taken in
        let y = f.at_most in
        let sized : length p ≡ length f.buffer = sym same_size ∙ f.same.size in
        let rest = subst (λ (v : List ℕ). Steps i d.steps (handed_run x i.moment a) (lent v filled o) (told_in u d.events) d.run f.count
        f.buffer) (sym e) f.steps in
        let four = h.goes d.steps f.count (told_in u d.events) d.run f.buffer rest in
        let told = subst (λ (v : List ℕ). Steps i (4 + d.steps) x (lent (drop place u) p o)
        ((E.said_by a.event, parts (E.said_by a.event) v) ∷ told_in u d.events) d.run (5 + a.len + f.count) f.buffer) g four in
        record {
          buffer = f.buffer;
          count = 5 + a.len + f.count;
          taken = omega arith;
          steps = leads (4 + d.steps) (5 + a.len + f.count) _ d.run f.buffer told;
          empty = λ v. z;
          same = record { size = sized; front = rw z refl };
          within = f.within;
          at_most = omega arith;
        }

  abbrev next : ℕ → ℕ → Run → ℕ → Run → Drained
  next n place r k x = each i.moment i.stop size (length o) u n place r k x

  abbrev All : ℕ → Type 0
  All n = (place : ℕ) (r : Run) (p : List ℕ) → length p ≡ size → place ≤ length u
      → From n place r p (drain_from n i.moment i.stop size (length o) u place r)

  each_from : (n : ℕ) → All n → (place : ℕ) (r x : Run) (p : List ℕ) (k : ℕ) → length p ≡ size → place ≤ length u
      → Ready x i.moment (length p) (length o)
      → ((n t : ℕ) (ts : List Told) (last : Run) (b : List ℕ) → Steps i n x (lent (drop place u) p o) ts last t b
      → Steps i (k + n) r (lent (drop place u) p o) ts last t b)
      → From (suc n) place r p (next n place r k x)
  each_from n rest place r x p k e w ready leads =
      choose (From (suc n) place r p) (eqb (hand_of x (drop place u)).len 0) _ _
      (λ z. stays_from (suc n) place r p w)
      (λ z.
      let a : AtHand = hand_of x (drop place u) in
      let h : Handing i free x (drop place u) p o ready a = hand_goes i free x (drop place u) p o ready z in
      further_from n place r x p k a ready leads w h _
      (rest (place + (5 + a.len)) (handed_run x i.moment a) (put p 0 (at (drop place u) 5 a.len))
      (same_size n place r x p k a ready leads w h ∙ e) (later_within n place r x p k a ready leads w h)))

  ready_from : (n : ℕ) → All n → (place : ℕ) (r : Run) (p : List ℕ) → length p ≡ size → place ≤ length u
      → is_ready r i.moment size (length o) ≡ true
      → From (suc n) place r p (entering (entered_in r.state r i.moment i.stop) (stays r place) (λ k x. next n place r k x))
  ready_from n rest place r p e w t =
      let y : Accepting r i.moment (length p) (length o) =
      subst (λ (z : ℕ). Accepting r i.moment z (length o)) (sym e) (ready_is r i.moment size (length o) t) in
      entering_by i r (drop place u) p o y (From (suc n) place r p) r.state refl (stays r place) (λ k x. next n place r k x)
      (stays_from (suc n) place r p w) (λ k x ready leads. each_from n rest place r x p k e w ready leads)

  all : (n : ℕ) → All n
  all zero place r p e w =
      subst (From zero place r p) (sym (drain_none i.moment i.stop size (length o) u place r)) (stays_from zero place r p w)
  all (suc n) place r p e w =
      subst (From (suc n) place r p) (sym (drain_more i.moment i.stop size (length o) u n place r))
      (choose (From (suc n) place r p) (is_ready r i.moment size (length o)) _ _ (ready_from n (all n) place r p e w)
      (λ t. stays_from (suc n) place r p w))

pub drain_is_steps : DrainIsSteps
drain_is_steps i r u p out n free =
    let f = all i free u out (length p) n 0 r p refl (omega arith) in
    let d : Drained = drain_from n i.moment i.stop (length p) (length out) u 0 r in
    let c : f.count ≡ d.taken = (let t = f.taken in omega arith) in
    record {
      buffer = f.buffer;
      steps = subst (λ (t : ℕ). Steps i d.steps r (lent u p out) (told_in u d.events) d.run t f.buffer) c f.steps;
      held = f.same;
      within = f.within;
      at_most = f.at_most;
    }
