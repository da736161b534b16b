-- By the step table: where the steps of a list stand in the stream, by state, and how many accepted steps are left.
use mathlib.Core.Path.{◌≡◌, refl, sym, ap, ◌∙◌, subst}
use mathlib.Core.Bool.{Bool, true, false}
use mathlib.Core.List.{List, [], ◌∷◌, ◌++◌, append_assoc, append-nil}
use mathlib.Core.Logic.{◌⊎◌, inl, inr}
use mathlib.Core.Option.{Option, some, none}
use Prim.Native.Nat.{ℕ, suc, ◌+◌, ◌*◌, ◌-◌, ◌≤◌, ◌<◌, ◌^◌}
use native.Mathlib.Omega.{arith}
use borrow.Author.Tests.{ltb-false, eqb-true, leb-true, leb-false}
use lib.ListN.{length, take, drop, length-append}
use lib.Seq.{take-append_seam, drop-append_seam, take_all}
use lib.Dec.{ltb, leb, eqb}
use Rattle.wire.specs.Bytes.{pick}
use Rattle.wire.proofs.Laws.{impossible}
use Rattle.frames.specs.Cut.{header, Cut, cut_of}
use Rattle.frames.proofs.Frame.{length_framed}
use Rattle.lsn.specs.declared.Lsn.{Lsn}
use Rattle.moment.specs.declared.Moment.{Moment}
use Rattle.worker.specs.declared.Input.{Input}
use Rattle.worker.specs.declared.Queue.{Queue}
use Rattle.worker.specs.declared.Queue.TheVariants.{Free, Full, Closed}
use Rattle.worker.specs.declared.Settings.{Settings}
use Rattle.worker.specs.declared.State.{State}
use Rattle.worker.specs.declared.State.TheVariants.{Opening, Turn, Drain, Reading, Waiting, Handling, Offering, Ended}
use Rattle.thm_any_calls.specs.Happened.{Happened}
use Rattle.thm_any_calls.specs.Plain.{Msg, Observation, Gives, gives, message_gives, whole_ones, accepted_ones, is_refused_early, is_full, by_queue}
use Rattle.thm_any_calls.specs.Tests.{both, unless, longest}
use Rattle.thm_any_calls.specs.Trace.{Setup, bounds_of, Writing, nothing, done, status, Response, Trace, a_step, a_report, state_after, taken_by, handed_by, observations_of}
use Rattle.thm_any_calls.specs.Trace.{went, has_sent, pending_of, signalled_of, drained_of, read_in_wait, offers_on, full_before, gone_of}
use Rattle.thm_any_calls.specs.Table.{Found, found_by, used_by, payload_by, respond, enters, writes, limit_by, is_passed, is_idle, status_if, read_response, reading_response, waiting_response, idle_response}
use Rattle.thm_any_calls.specs.Table.{last_or, last_message, last_gives, back_of, handling_response, drain_response, waiting_tests, hands_over, drops, offering_response}
use Rattle.thm_any_calls.specs.Table.{table_of, is_bad_moment, step_response, response_of}
use Rattle.thm_any_calls.specs.Calls.{is_open, Call, step, report, played, setup_of}
use Rattle.thm_any_calls.specs.Traced.{trace_one, trace_all, trace_of}
use Rattle.thm_any_calls.proofs.Preserved.{played_preserved}
use Rattle.load.specs.declared.Message.{Message}
use Rattle.load.specs.Load.{payload_of, bytes_of, all_bytes, messages_of, stream_of}
use Rattle.load.proofs.Draws.{how_many}
use Rattle.thm_load_handed.specs.LoadHanded.{event_of, events_of, list_of, Undisturbed, holds_back}
use Rattle.thm_load_handed.specs.Reached.{AllUnread, enough, LoadIsReached}
use Rattle.thm_load_handed.proofs.Drawn.{Fits, AllFit, all_fit}
use Rattle.thm_load_handed.proofs.Stream.{event_given, items_of, stream_cut, handled}

-- ---- lists of messages

bytes_append : (ks bs : List Message) → all_bytes (ks ++ bs) ≡ all_bytes ks ++ all_bytes bs
unfolding all_bytes
bytes_append [] bs = refl
bytes_append (m ∷ ks) bs = ap (λ (l : List ℕ). bytes_of m ++ l) (bytes_append ks bs) ∙ sym (append_assoc (bytes_of m) (all_bytes ks) (all_bytes bs))

events_more : (ms : List Message) (m : Message) → events_of ms ++ (event_of m ∷ []) ≡ events_of (ms ++ (m ∷ []))
unfolding events_of
events_more [] m = refl
events_more (a ∷ ms) m = ap (λ (l : List Happened). event_of a ∷ l) (events_more ms m)

fit_first : (ks bs : List Message) → AllFit (ks ++ bs) → AllFit ks
fit_first [] bs f = tt
fit_first (m ∷ ks) bs f = (f.0, fit_first ks bs f.1)

fit_then : (ks bs : List Message) → AllFit (ks ++ bs) → AllFit bs
fit_then [] bs f = f
fit_then (m ∷ ks) bs f = fit_then ks bs f.1

long_one : (m : Message) (ms : List Message) → 5 ≤ length (all_bytes (m ∷ ms))
unfolding all_bytes bytes_of
long_one m ms =
    let l = length-append (bytes_of m) (all_bytes ms) in
    let k : length (bytes_of m) ≡ length (payload_of m) + 5 = length_framed 100 (payload_of m) in
    omega (arith, l, k)

one_longer : (ms : List Message) (m : Message) → length (all_bytes (ms ++ (m ∷ []))) ≡ length (all_bytes ms) + (5 + length (payload_of m))
unfolding all_bytes bytes_of
one_longer ms m =
    let a = ap (λ (l : List ℕ). length l) (bytes_append ms (m ∷ [])) ∙ length-append (all_bytes ms) (bytes_of m ++ []) in
    let b : length (bytes_of m ++ []) ≡ length (bytes_of m) + 0 = length-append (bytes_of m) [] in
    let k : length (bytes_of m) ≡ length (payload_of m) + 5 = length_framed 100 (payload_of m) in
    omega (arith, a, b, k)

-- few bytes are none
few : (ms : List Message) → leb 5 (length (all_bytes ms)) ≡ false → ms ≡ []
few [] h = refl
few (m ∷ ms) h =
    let l : 5 ≤ length (all_bytes (m ∷ ms)) = long_one m ms in
    let k : length (all_bytes (m ∷ ms)) < 5 = leb-false 5 (length (all_bytes (m ∷ ms))) h in
    absurd (omega (arith, l, k))

many : (ms : List Message) → leb 5 (length (all_bytes ms)) ≡ true → ms ≡ [] → ⊥
unfolding all_bytes
many ms h e =
    let l : 5 ≤ length (all_bytes ms) = leb-true _ _ h in
    let k : length (all_bytes ms) ≡ 0 = ap (λ (l : List Message). length (all_bytes l)) e in
    omega (arith, l, k)

-- the last message of a stream
last_whole : (d : Msg) (ms : List Message) (m : Message) → last_or d (whole_ones (items_of (ms ++ (m ∷ [])))) ≡ (100, payload_of m)
unfolding last_or whole_ones items_of
last_whole d [] m = refl
last_whole d (a ∷ ms) m = last_whole (100, payload_of a) ms m

-- ---- accepted steps

unfoldable pub count_of : Trace → ℕ
count_of [] = 0
count_of (a_step i from y ∷ h) = pick (is_refused_early y.refusal) (count_of h) (suc (count_of h))
count_of (a_report file p m ∷ h) = count_of h

accepted_one : (ts : List Observation) (t : Observation)
    → length (accepted_ones (ts ++ (t ∷ []))) ≡ pick (is_refused_early t.refusal) (length (accepted_ones ts)) (suc (length (accepted_ones ts)))
unfolding accepted_ones
accepted_one [] t = by (is_refused_early t.refusal)
  where
    by : (b : Bool) → length (pick b [] (t ∷ [])) ≡ pick b 0 1
    by true = refl
    by false = refl
accepted_one (a ∷ ts) t = by (is_refused_early a.refusal) (is_refused_early t.refusal) (accepted_ones (ts ++ (t ∷ []))) (accepted_ones ts) (accepted_one ts t)
  where
    by : (b c : Bool) (us vs : List Observation) → length us ≡ pick c (length vs) (suc (length vs))
        → length (pick b us (a ∷ us)) ≡ pick c (length (pick b vs (a ∷ vs))) (suc (length (pick b vs (a ∷ vs))))
    by true true us vs e = e
    by true false us vs e = e
    by false true us vs e = ap suc e
    by false false us vs e = ap suc e

count_is : (h : Trace) → length (accepted_ones (observations_of h)) ≡ count_of h
unfolding count_of observations_of accepted_ones
count_is [] = refl
count_is (a_step i from y ∷ h) =
    accepted_one (observations_of h) (record { stop = i.stop; queue = i.queue; refusal = y.refusal; taken = y.taken })
    ∙ ap (λ (k : ℕ). pick (is_refused_early y.refusal) k (suc k)) (count_is h)
count_is (a_report file p m ∷ h) = count_is h

-- no stop is seen and the queue is free
pub offer_by : (f q : Bool) (c : Queue) (u v w z : Response) → q ≡ false → c ≡ Free
    → pick f (pick q u (by_queue c v w z)) (by_queue c v (pick q u (by_queue c v w z)) z) ≡ v
offer_by f true c u v w z e k = impossible cc
offer_by true false Free u v w z e k = refl
offer_by false false Free u v w z e k = refl
offer_by f false Full u v w z e k = impossible cc
offer_by f false Closed u v w z e k = impossible cc

-- ---- where the steps stand

-- where a wait with nothing left to read leads
abbrev Rests : State → Type 0
Rests Opening = ⊥
Rests Turn = Unit
Rests Drain = ⊥
Rests Reading = ⊥
Rests Waiting = Unit
Rests Handling = ⊥
Rests Offering = ⊥
Rests Ended = Unit

module _ (s : Settings) (start : Lsn) (seed n : ℕ) (p : List ℕ) (fits : seed < 2 ^ 64) (no_stop : s.has_stop ≡ false)
    (wide : 100 ≤ longest s.max_message_size) where
  abbrev x : Setup
  x = setup_of s (is_open start) (stream_of n seed) (length p)

  -- nothing is left to read, or the accepted steps so far and what is left to do are within the number
  abbrev pub Ahead : List Message → ℕ → ℕ → Type 0
  Ahead todo c w = (todo ≡ []) ⊎ (c + (6 * length todo + w) ≤ enough n)

  -- the last message is read and its event is not handed on
  pub record Holding (past : List Message) (es : List Happened) : Type 0 where
    before : List Message
    m : Message
    are : past ≡ before ++ (m ∷ [])
    handed : es ≡ events_of before

  -- by state: d messages are drained, g events of the message gone, c steps accepted, es handed on; the messages read and those to come
  abbrev pub Stands : State → ℕ → ℕ → ℕ → List Happened → List Message → List Message → Type 0
  Stands Opening d g c es past todo = ⊥
  Stands Turn d g c es past todo = (es ≡ events_of past) × Ahead todo c 1
  Stands Drain d g c es past todo = (es ≡ events_of past) × Ahead todo c (pick (ltb d 256) 0 2)
  Stands Reading d g c es past todo = (es ≡ events_of past) × (todo ≡ [] → ⊥) × (c + 6 * length todo ≤ enough n + 1)
  Stands Waiting d g c es past todo = (es ≡ events_of past) × (todo ≡ [])
  Stands Handling d g c es past todo = Holding past es × (c + (6 * length todo + 4) ≤ enough n)
  Stands Offering d g c es past todo = Holding past es × (g ≡ 0) × (c + (6 * length todo + 3) ≤ enough n)
  Stands Ended d g c es past todo = (es ≡ events_of past) × (todo ≡ [])

  -- one step less to do
  sooner : (todo : List Message) (c w v : ℕ) → v < w → Ahead todo c w → Ahead todo (suc c) v
  sooner todo c w v l (inl e) = inl e
  sooner todo c w v l (inr k) = inr (omega (arith, k, l))

  pub record At (h : Trace) : Type 0 where
    pub past : List Message
    pub todo : List Message
    pub split : past ++ todo ≡ messages_of n seed
    pub taken : taken_by h ≡ length (all_bytes past)
    pub stands : Stands (state_after false h) (drained_of h) (gone_of h) (count_of h) (handed_by h) past todo

  -- ---- one step

  module _ (h : Trace) (i : Input) (past todo : List Message) (split : past ++ todo ≡ messages_of n seed)
      (taken : taken_by h ≡ length (all_bytes past)) (quiet : i.stop ≡ false) (free : i.queue ≡ Free) where
    abbrev drained : State → Response → ℕ
    drained st y = pick (went Turn Drain st y.entered) 0 (pick (went Reading Handling st y.entered) (drained_of h + 1) (drained_of h))

    abbrev gone : State → Response → ℕ
    gone st y = pick (went Handling Offering st y.entered) 0 (pick (offers_on st y) (pick (is_full i.queue) (gone_of h) (gone_of h + 1)) (gone_of h))

    abbrev counted : Response → ℕ
    counted y = pick (is_refused_early y.refusal) (count_of h) (suc (count_of h))

    -- what holds after a step in a state with a response
    record Next (st : State) (y : Response) : Type 0 where
      past' : List Message
      todo' : List Message
      split' : past' ++ todo' ≡ messages_of n seed
      taken' : taken_by h + y.taken ≡ length (all_bytes past')
      stands' : Stands y.entered (drained st y) (gone st y) (counted y) (handed_by h ++ y.event) past' todo'

    either : (c : Bool) (st : State) (y z : Response) → (c ≡ true → Next st y) → (c ≡ false → Next st z) → Next st (pick c y z)
    either true st y z f g = f refl
    either false st y z f g = g refl

    -- no byte is taken
    stays : (st : State) (y : Response) → y.taken ≡ 0
        → Stands y.entered (drained st y) (gone st y) (counted y) (handed_by h ++ y.event) past todo → Next st y
    stays st y e t =
        record { past' = past; todo' = todo; split' = split; taken' = (let q = taken in omega (arith, e, q)); stands' = t }

    same_events : {es : List Happened} → handed_by h ≡ es → handed_by h ++ [] ≡ es
    same_events e = append-nil (handed_by h) ∙ e

    abbrev Now : State → Type 0
    Now st = Stands st (drained_of h) (gone_of h) (count_of h) (handed_by h) past todo

    holding_still : Holding past (handed_by h) → Holding past (handed_by h ++ [])
    holding_still b = record { before = b.before; m = b.m; are = b.are; handed = same_events b.handed }

    -- refused with 2 to 5
    early : (k : ℕ) → is_refused_early k ≡ true → (st : State) → Now st → Next st (respond k nothing st [])
    early k e Opening b = absurd b
    early k e Turn b = stays Turn (respond k nothing Turn []) refl (rw e (same_events b.0, b.1))
    early k e Drain b = stays Drain (respond k nothing Drain []) refl (rw e (same_events b.0, b.1))
    early k e Reading b = stays Reading (respond k nothing Reading []) refl (rw e (same_events b.0, b.1, b.2))
    early k e Waiting b = stays Waiting (respond k nothing Waiting []) refl (same_events b.0, b.1)
    early k e Handling b = stays Handling (respond k nothing Handling []) refl (rw e (holding_still b.0, b.1))
    early k e Offering b = stays Offering (respond k nothing Offering []) refl (rw e (holding_still b.0, b.1, b.2))
    early k e Ended b = stays Ended (respond k nothing Ended []) refl (same_events b.0, b.1)

    turn_next : Now Turn → (w : Writing) → Next Turn (writes w Drain)
    turn_next b w = stays Turn (writes w Drain) refl (same_events b.0, sooner todo (count_of h) 1 0 (omega arith) b.1)

    drain_next : Now Drain → Next Drain (drain_response h i (all_bytes todo))
    drain_next b =
        by (ltb (drained_of h) 256) (leb 5 (length (all_bytes todo))) (eqb (drained_of h) 0) i.stop refl refl refl quiet b.1
      where
        to_turn : Ahead todo (suc (count_of h)) 1 → Next Drain (enters Turn)
        to_turn a = stays Drain (enters Turn) refl (same_events b.0, a)

        by : (a f z q : Bool) → ltb (drained_of h) 256 ≡ a → leb 5 (length (all_bytes todo)) ≡ f → eqb (drained_of h) 0 ≡ z → q ≡ false
            → Ahead todo (count_of h) (pick a 0 2)
            → Next Drain (pick (pick a f false) (enters Reading) (pick z (enters Waiting) (pick q (writes done Ended) (enters Turn))))
        by true true z q ha hf hz hq (inl e) = absurd (many todo hf e)
        by true true z q ha hf hz hq (inr k) = stays Drain (enters Reading) refl (same_events b.0, many todo hf, omega (arith, k))
        by true false true q ha hf hz hq k = stays Drain (enters Waiting) refl (same_events b.0, few todo hf)
        by true false false true ha hf hz hq k = impossible cc
        by true false false false ha hf hz hq k = to_turn (inl (few todo hf))
        by false f true q ha hf hz hq k =
            let d : drained_of h ≡ 0 = eqb-true (drained_of h) 0 hz in
            let l : 256 ≤ drained_of h = ltb-false (drained_of h) 256 ha in
            absurd (omega (arith, d, l))
        by false f false true ha hf hz hq k = impossible cc
        by false f false false ha hf hz hq k = to_turn (sooner todo (count_of h) 2 1 (omega arith) k)

    -- the messages fit, so that the cut of what is taken leaves nothing, and that of the rest is the rest
    all_fits : AllFit (past ++ todo)
    all_fits = subst AllFit (sym split) (all_fit n seed fits)

    abbrev answered : List ℕ → List ℕ → Cut → Bool → (Found → Response) → Response
    answered rest u c ended f =
        let y : Response = f (found_by c.items c.ending (length u) ended) in
        record {
          refusal = y.refusal;
          taken = used_by c.items c.ending (rest ++ u) - length rest;
          stored = payload_by c.items c.ending (rest ++ u);
          writing = y.writing;
          entered = y.entered;
          event = y.event;
        }

    read_is : (ended : Bool) (f : Found → Response)
        → read_response (limit_by x) (all_bytes past) (all_bytes todo) ended f
        ≡ answered [] (all_bytes todo) (record { items = items_of todo; rest = []; ending = header }) ended f
    read_is ended f =
        let u : List ℕ = all_bytes todo in
        ap (λ (c : Cut). answered c.rest u (cut_of (limit_by x) (c.rest ++ u)) ended f)
        (stream_cut (limit_by x) wide past (fit_first past todo all_fits))
        ∙ ap (λ (c : Cut). answered [] u c ended f) (stream_cut (limit_by x) wide todo (fit_then past todo all_fits))

    -- what was read, where the rest of the stream is t
    abbrev read_of : List Message → (Found → Response) → Response
    read_of t f = answered [] (all_bytes t) (record { items = items_of t; rest = []; ending = header }) i.ended f

    whole_one : Now Reading → (m : Message) (r : List Message) → todo ≡ m ∷ r → Next Reading (read_of (m ∷ r) reading_response)
    unfolding items_of
    whole_one b m r e =
        let l : length todo ≡ suc (length r) = ap (λ (t : List Message). length t) e in
        let k = b.2 in
        record {
          past' = past ++ (m ∷ []);
          todo' = r;
          split' = append_assoc past (m ∷ []) r ∙ ap (λ (t : List Message). past ++ t) (sym e) ∙ split;
          taken' = (let a = one_longer past m in let q = taken in omega (arith, a, q));
          stands' = (record { before = past; m = m; are = refl; handed = same_events b.0 }, omega (arith, k, l));
        }

    reading_next : Now Reading → Next Reading (read_response (limit_by x) (all_bytes past) (all_bytes todo) i.ended reading_response)
    reading_next b = subst (Next Reading) (sym (read_is i.ended reading_response)) (by todo refl)
      where
        by : (t : List Message) → todo ≡ t → Next Reading (read_of todo reading_response)
        by [] e = absurd (b.1 e)
        by (m ∷ r) e = subst (λ (l : List Message). Next Reading (read_of l reading_response)) (sym e) (whole_one b m r e)

    -- nothing is left to read: whatever the step does, it takes nothing and hands nothing on
    resting : todo ≡ [] → handed_by h ≡ events_of past → (y : Response) → y.taken ≡ 0 → y.event ≡ [] → (st : State) → y.entered ≡ st → Rests st
        → Next Waiting y
    resting e q y t v st k r =
        stays Waiting y t
        (subst (λ (a : State). Stands a (drained Waiting y) (gone Waiting y) (counted y) (handed_by h ++ y.event) past todo) (sym k)
        (rw v (by st r)))
      where
        by : (a : State) → Rests a → Stands a (drained Waiting y) (gone Waiting y) (counted y) (handed_by h ++ []) past todo
        by Opening r = absurd r
        by Turn r = (same_events q, inl e)
        by Drain r = absurd r
        by Reading r = absurd r
        by Waiting r = (same_events q, e)
        by Handling r = absurd r
        by Offering r = absurd r
        by Ended r = (same_events q, e)

    wait_by : (a b c d : Bool) (v w : Response) → a ≡ false → Next Waiting v → Next Waiting w → Next Waiting (writes (status false) Turn)
        → Next Waiting (enters Turn)
        → Next Waiting (pick a (writes done Ended) (pick b (writes (status false) Turn) (pick c (enters Turn) (pick d v w))))
    wait_by true b c d v w q f g k l = impossible cc
    wait_by false true c d v w q f g k l = k
    wait_by false false true d v w q f g k l = l
    wait_by false false false true v w q f g k l = f
    wait_by false false false false v w q f g k l = g

    idle_next : Now Waiting → (q : Bool) → Next Waiting (idle_response q)
    idle_next b true = resting b.1 b.0 (writes (status false) Turn) refl refl Turn refl tt
    idle_next b false = resting b.1 b.0 (enters Waiting) refl refl Waiting refl tt

    end_read : Now Waiting → (q : Bool) → Next Waiting (read_of [] (waiting_response q))
    unfolding items_of all_bytes
    end_read b q = by i.ended refl q
      where
        by : (e : Bool) → i.ended ≡ e → (q : Bool) → Next Waiting (read_of [] (waiting_response q))
        by true k q = resting b.1 b.0 (read_of [] (waiting_response q)) refl (rw k refl) Ended (rw k refl) tt
        by false k true = resting b.1 b.0 (read_of [] (waiting_response true)) refl (rw k refl) Turn (rw k refl) tt
        by false k false = resting b.1 b.0 (read_of [] (waiting_response false)) refl (rw k refl) Waiting (rw k refl) tt

    waiting_next : Now Waiting → Next Waiting (waiting_tests x h i (all_bytes past) (all_bytes todo))
    waiting_next b =
        let f : Found → Response = waiting_response (is_idle x h i) in
        wait_by i.stop (both (pending_of start h) (is_passed x h i)) (unless (pending_of start h) (signalled_of start h))
        (pick (eqb (length (all_bytes todo)) 0) i.ended true)
        (read_response (limit_by x) (all_bytes past) (all_bytes todo) i.ended f) (idle_response (is_idle x h i)) quiet
        (subst (Next Waiting) (sym (read_is i.ended f))
        (subst (λ (l : List Message). Next Waiting (read_of l f)) (sym b.1) (end_read b (is_idle x h i))))
        (idle_next b (is_idle x h i))
        (resting b.1 b.0 (writes (status false) Turn) refl refl Turn refl tt)
        (resting b.1 b.0 (enters Turn) refl refl Turn refl tt)

    -- the last message that was read
    module _ {es : List Happened} (b : Holding past es) where
      last_is : last_message (limit_by x) (all_bytes past) ≡ (100, payload_of b.m)
      last_is =
          ap (λ (c : Cut). last_or (0, []) (whole_ones c.items)) (stream_cut (limit_by x) wide past (fit_first past todo all_fits))
          ∙ ap (λ (l : List Message). last_or (0, []) (whole_ones (items_of l))) b.are
          ∙ last_whole (0, []) b.before b.m

      last_fits : Fits b.m
      last_fits = (fit_then b.before (b.m ∷ []) (subst AllFit b.are (fit_first past todo all_fits))).0

    handling_next : Now Handling → Next Handling (handling_response h (last_message (limit_by x) (all_bytes past)))
    handling_next b =
        let o = handled h b.0.m (last_fits b.0) in
        let k = b.1 in
        subst (Next Handling) (sym (ap (handling_response h) (last_is b.0) ∙ o.offers))
        (stays Handling (writes o.writing Offering) refl (holding_still b.0, refl, omega (arith, k)))

    abbrev passing : ℕ → Gives → Response
    passing g v =
        let l : List Happened = drop g v.events in
        pick (ltb 1 (length l)) (respond 0 nothing Offering (take 1 l))
        (pick v.ends (respond 0 done Ended (take 1 l)) (respond 0 nothing (back_of h) (take 1 l)))

    offered_is : (b : Holding past (handed_by h)) → gone_of h ≡ 0
        → offering_response x h i (all_bytes past) ≡ respond 0 nothing (back_of h) (event_of b.m ∷ [])
    offered_is b g =
        let bytes : List ℕ = all_bytes past in
        let none_set : (bounds_of s).stop ≡ none = ap (λ (b : Bool). pick b (some s.stop_at_lsn.0) none) no_stop in
        let given : last_gives x bytes ≡ gives (event_of b.m ∷ []) false =
        ap (λ (m : Msg). message_gives (bounds_of s).stop m.0 m.1) (last_is b)
        ∙ ap (λ (o : Option ℕ). message_gives o 100 (payload_of b.m)) none_set
        ∙ event_given b.m (last_fits b) in
        let over : hands_over x h bytes ≡ passing 0 (gives (event_of b.m ∷ []) false) =
        ap (λ (k : ℕ). passing k (last_gives x bytes)) g ∙ ap (passing 0) given in
        offer_by (full_before h) i.stop i.queue (writes done Ended) (hands_over x h bytes) (writes (status_if (is_passed x h i)) Offering)
        (drops x h bytes) quiet free
        ∙ over

    offering_next : Now Offering → Next Offering (offering_response x h i (all_bytes past))
    offering_next b = subst (Next Offering) (sym (offered_is b.0 b.1)) (back (read_in_wait h))
      where
        here : handed_by h ++ (event_of b.0.m ∷ []) ≡ events_of past
        here =
            ap (λ (l : List Happened). l ++ (event_of b.0.m ∷ [])) b.0.handed
            ∙ events_more b.0.before b.0.m
            ∙ ap events_of (sym b.0.are)

        least : (c : Bool) → Ahead todo (suc (count_of h)) (pick c 0 2)
        least true = let k = b.2 in inr (omega (arith, k))
        least false = let k = b.2 in inr (omega (arith, k))

        back : (r : Bool) → Next Offering (respond 0 nothing (pick r Turn Drain) (event_of b.0.m ∷ []))
        back true =
            let k = b.2 in stays Offering (respond 0 nothing Turn (event_of b.0.m ∷ [])) refl (here, inr (omega (arith, k)))
        back false = stays Offering (respond 0 nothing Drain (event_of b.0.m ∷ [])) refl (here, least (ltb (drained_of h) 256))

    -- after 2 to 5
    guarded : (st : State) → Now st → (y : Response) → Next st y → (a b c : Bool)
        → Next st (pick a (respond 3 nothing st []) (pick b (respond 4 nothing st []) (pick c (respond 5 nothing st []) y)))
    guarded st n y f true b c = early 3 refl st n
    guarded st n y f false true c = early 4 refl st n
    guarded st n y f false false true = early 5 refl st n
    guarded st n y f false false false = f

    next : (out : ℕ) (st : State) → Now st → Next st (step_response st x h i (all_bytes past) (all_bytes todo) out)
    next out Opening b = absurd b
    next out Turn b =
        guarded Turn b (table_of Turn x h i (all_bytes past) (all_bytes todo)) (turn_next b (status_if (pick (has_sent h) (is_passed x h i) true)))
        (ltb (length p) (limit_by x)) (ltb out 39) (is_bad_moment h i.moment)
    next out Drain b =
        guarded Drain b (table_of Drain x h i (all_bytes past) (all_bytes todo)) (drain_next b)
        (ltb (length p) (limit_by x)) (ltb out 39) (is_bad_moment h i.moment)
    next out Reading b =
        guarded Reading b (table_of Reading x h i (all_bytes past) (all_bytes todo)) (reading_next b)
        (ltb (length p) (limit_by x)) (ltb out 39) (is_bad_moment h i.moment)
    next out Waiting b =
        guarded Waiting b (table_of Waiting x h i (all_bytes past) (all_bytes todo)) (waiting_next b)
        (ltb (length p) (limit_by x)) (ltb out 39) (is_bad_moment h i.moment)
    next out Handling b =
        guarded Handling b (table_of Handling x h i (all_bytes past) (all_bytes todo)) (handling_next b)
        (ltb (length p) (limit_by x)) (ltb out 39) (is_bad_moment h i.moment)
    next out Offering b =
        guarded Offering b (table_of Offering x h i (all_bytes past) (all_bytes todo)) (offering_next b)
        (ltb (length p) (limit_by x)) (ltb out 39) (is_bad_moment h i.moment)
    next out Ended b = early 2 refl Ended b

  -- ---- any list of calls

  pub first_at : At []
  unfolding state_after taken_by handed_by drained_of gone_of count_of all_bytes events_of
  first_at =
      let l : length (messages_of n seed) ≡ n = how_many n seed in
      record { past = []; todo = messages_of n seed; split = refl; taken = refl; stands = (refl, inr (omega (arith, l))) }

  pub step_at : (h : Trace) (i : Input) (k : ℕ) (out : List ℕ) → At h → i.stop ≡ false → i.queue ≡ Free → length (stream_of n seed) ≤ k
      → At (trace_one x h (step i k out))
  unfolding state_after taken_by handed_by drained_of gone_of count_of
  step_at h i k out a quiet free l =
      let bytes : List ℕ = stream_of n seed in
      let joined : bytes ≡ all_bytes a.past ++ all_bytes a.todo = ap all_bytes (sym a.split) ∙ bytes_append a.past a.todo in
      let first : take (taken_by h) bytes ≡ all_bytes a.past =
      ap (λ (c : ℕ). take c bytes) a.taken ∙ ap (take (length (all_bytes a.past))) joined ∙ take-append_seam (all_bytes a.past) (all_bytes a.todo) in
      let rest : drop (taken_by h) bytes ≡ all_bytes a.todo =
      ap (λ (c : ℕ). drop c bytes) a.taken ∙ ap (drop (length (all_bytes a.past))) joined ∙ drop-append_seam (all_bytes a.past) (all_bytes a.todo) in
      let j = ap (λ (c : List ℕ). length c) joined ∙ length-append (all_bytes a.past) (all_bytes a.todo) in
      let unread : take k (drop (taken_by h) bytes) ≡ all_bytes a.todo = ap (take k) rest ∙ take_all k (all_bytes a.todo) (omega (arith, j, l)) in
      let st : State = state_after false h in
      let same : response_of x h i k (length out) ≡ step_response st x h i (all_bytes a.past) (all_bytes a.todo) (length out) =
      ap (λ (c : List ℕ). step_response st x h i c (take k (drop (taken_by h) bytes)) (length out)) first
      ∙ ap (λ (c : List ℕ). step_response st x h i (all_bytes a.past) c (length out)) unread in
      let w : Next h i a.past a.todo a.split a.taken quiet free st (response_of x h i k (length out)) =
      subst (Next h i a.past a.todo a.split a.taken quiet free st) (sym same)
      (next h i a.past a.todo a.split a.taken quiet free (length out) st a.stands) in
      record { past = w.past'; todo = w.todo'; split = w.split'; taken = w.taken'; stands = w.stands' }

  report_at : (h : Trace) (file : ℕ) (q : Lsn) (m : Moment) → At h → At (trace_one x h (report file q m))
  unfolding state_after taken_by handed_by drained_of gone_of count_of
  report_at h file q m a = record { past = a.past; todo = a.todo; split = a.split; taken = a.taken; stands = a.stands }

  all_at : (cs : List Call) (h : Trace) → At h → Undisturbed cs → AllUnread (length (stream_of n seed)) cs → At (trace_all x h cs)
  unfolding trace_all
  all_at [] h a u l = a
  all_at (step i k out ∷ cs) h a u l = all_at cs (trace_one x h (step i k out)) (step_at h i k out a u.0 u.1 l.0) u.2 l.1
  all_at (report file q m ∷ cs) h a u l = all_at cs (trace_one x h (report file q m)) (report_at h file q m a) u l

  -- ---- the end

  none_left : (ms : List Message) → length ms ≡ 0 → ms ≡ []
  none_left [] e = refl
  none_left (m ∷ ms) e = absurd (omega (arith, e))

  spent : (st : State) (d g c : ℕ) (es : List Happened) (past todo : List Message) → Stands st d g c es past todo → enough n ≤ c
      → (todo ≡ []) × (es ≡ events_of past) × (holds_back st ≡ false)
  spent Opening d g c es past todo b l = absurd b
  spent Turn d g c es past todo (e, inl k) l = (k, e, refl)
  spent Turn d g c es past todo (e, inr k) l = absurd (omega (arith, k, l))
  spent Drain d g c es past todo (e, inl k) l = (k, e, refl)
  spent Drain d g c es past todo (e, inr k) l = (none_left todo (omega (arith, k, l)), e, refl)
  spent Reading d g c es past todo (e, f, k) l = absurd (f (none_left todo (omega (arith, k, l))))
  spent Waiting d g c es past todo (e, k) l = (k, e, refl)
  spent Handling d g c es past todo (e, k) l = absurd (omega (arith, k, l))
  spent Offering d g c es past todo (e, f, k) l = absurd (omega (arith, k, l))
  spent Ended d g c es past todo (e, k) l = (k, e, refl)

  finished : (st : State) (d g c : ℕ) (es : List Happened) (past todo : List Message) → Stands st d g c es past todo
      → (enough n ≤ c) ⊎ (st ≡ Ended) → (todo ≡ []) × (es ≡ events_of past) × (holds_back st ≡ false)
  finished st d g c es past todo b (inl l) = spent st d g c es past todo b l
  finished st d g c es past todo b (inr e) =
      let k = subst (λ (a : State). Stands a d g c es past todo) e b in
      (k.1, k.0, ap holds_back e)

  -- the end is reached by the number of accepted steps, or since the run has ended
  pub at_end : (h : Trace) → At h → (enough n ≤ count_of h) ⊎ (state_after false h ≡ Ended)
      → (taken_by h ≡ length (stream_of n seed)) × (handed_by h ≡ list_of n seed) × (holds_back (state_after false h) ≡ false)
  at_end h a l =
      let r = finished (state_after false h) (drained_of h) (gone_of h) (count_of h) (handed_by h) a.past a.todo a.stands l in
      let whole : a.past ≡ messages_of n seed = sym (append-nil a.past) ∙ ap (λ (t : List Message). a.past ++ t) (sym r.0) ∙ a.split in
      (a.taken ∙ ap (λ (t : List Message). length (all_bytes t)) whole, r.1 ∙ ap events_of whole, r.2)

pub load_is_reached : LoadIsReached
load_is_reached s start seed n p cs fits no_stop far u l c =
    let wide : 100 ≤ longest s.max_message_size = omega arith in
    let y : Setup = setup_of s (is_open start) (stream_of n seed) (length p) in
    let f = (played_preserved s (is_open start) (stream_of n seed) p cs).follows in
    let h : Trace = trace_of y cs in
    let a = all_at s start seed n p fits no_stop wide cs [] (first_at s start seed n p fits no_stop wide) u l in
    let count : length (accepted_ones (played s (is_open start) (stream_of n seed) p cs).observed) ≡ count_of h =
    ap (λ (ts : List Observation). length (accepted_ones ts)) f.observed ∙ count_is h in
    let e = at_end s start seed n p fits no_stop wide h a (inl (rw count at c)) in
    record { taken = f.taken ∙ e.0; none_held = ap holds_back f.state ∙ e.2; events = f.events ∙ e.1 }
