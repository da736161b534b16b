-- Two runs, step by step: what holds of each after any list of calls (claims, Preserved) says what the next step looks at, and the streams agree
-- there.
use mathlib.Core.Path.{◌≡◌, refl, sym, ap, ◌∙◌, subst}
use mathlib.Core.Bool.{Bool, true, false}
use mathlib.Core.List.{List}
use mathlib.Core.Option.{Option, some, none}
use Prim.Native.Nat.{ℕ, ◌+◌, ◌-◌}
use lib.ListN.{length, take, drop}
use lib.Dec.{ltb}
use Rattle.wire.specs.Bytes.{pick}
use Rattle.wire.proofs.Laws.{impossible}
use Rattle.frames.specs.Tag.{is_error}
use Rattle.frames.specs.Cut.{Ending, header, payload, over, cut_of}
use Rattle.framing.specs.declared.MessageReader.{MessageReader}
use Rattle.framing.specs.Feed.{follows_by}
use Rattle.framing.specs.Read.{limit_of}
use Rattle.worker.specs.declared.Input.{Input}
use Rattle.worker.specs.declared.Run.{Run}
use Rattle.worker.specs.declared.Settings.{Settings}
use Rattle.worker.specs.declared.State.{State}
use Rattle.worker.specs.declared.State.TheVariants.{Opening, Turn, Drain, Reading, Waiting, Handling, Offering, Ended}
use Rattle.worker.specs.Answer.{error_part_of}
use Rattle.worker.specs.Events as E
use Rattle.worker.specs.Step.{Lent, is_ended, step_of}
use Rattle.thm_any_calls.specs.Happened.{happened_of}
use Rattle.thm_any_calls.specs.Plain.{Msg, Observation}
use Rattle.thm_any_calls.specs.Table.{last_message}
use Rattle.thm_any_calls.specs.Trace.{Setup, Trace, bounds_of}
use Rattle.thm_any_calls.specs.Calls.{step, Played, lent_to, play_one}
use Rattle.thm_any_calls.specs.Traced.{trace_one}
use Rattle.thm_any_calls.proofs.Course.{Tied}
use Rattle.thm_any_calls.proofs.Invariant.{Base, Placed, message_of, limit, stop, last_at}
use Rattle.thm_any_calls.proofs.Preserved.{Preserved, step_preserved}
use Rattle.thm_unpublished.specs.Alike.{Alike, AlikePayload}
use Rattle.thm_unpublished.specs.Same.{Same, all_left_out}
use Rattle.thm_unpublished.proofs.Lists.{take_swap, part_length}
use Rattle.thm_unpublished.proofs.Prefix.{AlikeMessage, good, good_items, at_byte, last_at_byte, alike_length}
use Rattle.thm_unpublished.proofs.Step.{Ready, step_same}
use Rattle.thm_unpublished.proofs.Gives.{tied_alike}
use Rattle.thm_unpublished.proofs.Error.{placed, handled_is, Remembers, step_remembers}

-- ---- one run

-- where the reader stands
pub record Stands (x : Setup) (rd : MessageReader) (t : ℕ) : Type 0 where
  pub held : rd.refused ≡ false → rd.filled ≡ length (cut_of (limit x) (take t x.bytes)).rest
  pub clean : good (cut_of (limit x) (take t x.bytes)).items ≡ true

stands_by : (e : Ending) (s : List ℕ) (rd : MessageReader) (p : List ℕ) → follows_by e s rd p → rd.refused ≡ false → rd.filled ≡ length s
stands_by header s rd p f n = f.filled
stands_by payload s rd p f n = f.filled
stands_by over s rd p f n = impossible cc

base_stands : (x : Setup) {rd : MessageReader} {p : List ℕ} {t : ℕ} {ts : List Observation} {ms : List Msg} {ws : List Observation}
    → Base x rd p t ts ms ws → Stands x rd t
base_stands x {rd} {p} {t} {ts} {ms} b =
    record {
      held = stands_by (cut_of (limit x) (take t x.bytes)).ending (cut_of (limit x) (take t x.bytes)).rest rd p b.follows;
      clean = ap good b.items ∙ good_items ms;
    }

stands : (x : Setup) (z : Played) (s : State) → is_ended s ≡ false → Placed x s z → Stands x z.run.reader z.taken
stands x z Opening e p = base_stands x p.base
stands x z Turn e p = base_stands x p.base
stands x z Drain e p = base_stands x p.base
stands x z Reading e p = base_stands x p.base
stands x z Waiting e p = base_stands x p.base
stands x z Handling e p = base_stands x p.base
stands x z Offering e p = base_stands x p.0.base
stands x z Ended e p = impossible cc

abbrev value : Option ℕ → ℕ
value none = 0
value (some n) = n

-- ---- two runs

pub record Pair (x x' : Setup) (z y : Played) : Type 0 where
  pub trace : Trace
  pub trace' : Trace
  pub left : Preserved x trace z
  pub right : Preserved x' trace' y
  pub run : z.run ≡ y.run
  pub taken : z.taken ≡ y.taken
  pub buffer : length z.payload ≡ length y.payload
  pub shown : Remembers (last_message (limit x) (take z.taken x.bytes)) z.run z.payload
  pub shown' : Remembers (last_message (limit x') (take y.taken x'.bytes)) y.run y.payload

module _ (x x' : Setup) (es : x.settings ≡ x'.settings) (al : Alike (limit x) x.bytes x'.bytes) where
  same_limit : limit x ≡ limit x'
  same_limit = ap (λ (s : Settings). limit_of s.max_message_size) es

  -- an error that both runs show is the same
  pub error_alike : {z y : Played} → Pair x x' z y → (n : ℕ) → error_part_of z.run ≡ some n → take n z.payload ≡ take n y.payload
  error_alike {z} {y} w n e = by (is_ended z.run.state) (is_error z.run.whole.tag) refl refl e
    where
      last_alike : AlikeMessage (last_message (limit x) (take z.taken x.bytes)) (last_message (limit x') (take y.taken x'.bytes))
      last_alike = rw (← same_limit, ← w.taken) (last_at_byte (limit x) al z.taken)

      by : (a b : Bool) → is_ended z.run.state ≡ a → is_error z.run.whole.tag ≡ b
          → pick a (pick b (some z.run.whole.len) none) none ≡ some n
          → take n z.payload ≡ take n y.payload
      by true true a b q =
          let k : z.run.whole.len ≡ n = ap value q in
          let ea : is_ended y.run.state ≡ true = ap (λ (r : Run). is_ended r.state) (sym w.run) ∙ a in
          let eb : is_error y.run.whole.tag ≡ true = ap (λ (r : Run). is_error r.whole.tag) (sym w.run) ∙ b in
          let m : AlikeMessage (message_of z.run.whole z.payload) (message_of y.run.whole y.payload) =
          subst (λ (j : Msg). AlikeMessage j (message_of y.run.whole y.payload)) (w.shown.shown a b)
          (subst (λ (j : Msg). AlikeMessage (last_message (limit x) (take z.taken x.bytes)) j) (w.shown'.shown ea eb) last_alike) in
          let f : take z.run.whole.len z.payload ≡ take y.run.whole.len y.payload = m.payload.error b in
          let g : y.run.whole.len ≡ n = ap (λ (r : Run). r.whole.len) (sym w.run) ∙ k in
          ap (λ (j : ℕ). take j z.payload) (sym k) ∙ (f ∙ ap (λ (j : ℕ). take j y.payload) g)
      by true false a b q = impossible cc
      by false b c d q = impossible cc

  module _ {z y : Played} (w : Pair x x' z y) (i : Input) (n : ℕ) (out out' : List ℕ) (lo : length out ≡ length out') where
    abbrev l : Lent
    l = lent_to x.bytes z n out

    abbrev m : Lent
    m = lent_to x'.bytes y n out'

    unread_length : length l.unread ≡ length m.unread
    unread_length = rw (← w.taken) (part_length x.bytes x'.bytes z.taken n (alike_length (limit x) al))

    -- the last whole messages are alike
    last_alike : AlikeMessage (last_message (limit x) (take z.taken x.bytes)) (last_message (limit x') (take y.taken x'.bytes))
    last_alike = rw (← same_limit, ← w.taken) (last_at_byte (limit x) al z.taken)

    handled_alike : Placed x Handling z → Placed x' Handling y
        → AlikePayload z.run.whole.tag (take z.run.whole.len z.payload) (take z.run.whole.len y.payload)
    handled_alike p q =
        let a : AlikeMessage (message_of z.run.whole z.payload) (message_of y.run.whole y.payload) =
        subst (λ (k : Msg). AlikeMessage k (message_of y.run.whole y.payload)) (handled_is x z p)
        (subst (λ (k : Msg). AlikeMessage (last_message (limit x) (take z.taken x.bytes)) k) (handled_is x' y q) last_alike) in
        subst (λ (r : Run). AlikePayload z.run.whole.tag (take z.run.whole.len z.payload) (take r.whole.len y.payload))
        (sym w.run)
        a.payload

    offered_alike : Placed x Offering z → Placed x' Offering y
        → all_left_out (happened_of (E.said_by z.run.offer.event) z.payload)
        ≡ all_left_out (happened_of (E.said_by z.run.offer.event) y.payload)
    offered_alike p q =
        let e : stop x ≡ stop x' = ap (λ (s : Settings). (bounds_of s).stop) es in
        let b : Tied (stop x) y.run.offer y.payload (last_at x' y.taken) =
        subst (λ (s : Option ℕ). Tied s y.run.offer y.payload (last_at x' y.taken)) (sym e) q.1 in
        let c : Tied (stop x) z.run.offer y.payload (last_at x' y.taken) =
        subst (λ (r : Run). Tied (stop x) r.offer y.payload (last_at x' y.taken)) (sym w.run) b in
        tied_alike (stop x) z.run.offer z.payload y.payload (last_at x z.taken) (last_at x' y.taken) last_alike p.1 c

    -- what the header lacks
    lacking_same : Stands x z.run.reader z.taken → z.run.reader.refused ≡ false
        → take (5 - z.run.reader.filled) l.unread ≡ take (5 - z.run.reader.filled) m.unread
    lacking_same st f =
        let k : ℕ = 5 - length (cut_of (limit x) (take z.taken x.bytes)).rest in
        let a : take k (drop z.taken x.bytes) ≡ take k (drop z.taken x'.bytes) = (at_byte (limit x) al z.taken).lacking st.clean in
        let b : take k (take n (drop z.taken x.bytes)) ≡ take k (take n (drop z.taken x'.bytes)) =
        take_swap k n (drop z.taken x.bytes) ∙ (ap (take n) a ∙ sym (take_swap k n (drop z.taken x'.bytes))) in
        let c : take k l.unread ≡ take k m.unread =
        subst (λ (t : ℕ). take k l.unread ≡ take k (take n (drop t x'.bytes))) w.taken b in
        subst (λ (j : ℕ). take (5 - j) l.unread ≡ take (5 - j) m.unread) (sym (st.held f)) c

    ready : is_ended z.run.state ≡ false → ltb (length l.payload) (limit_of z.run.settings.max_message_size) ≡ false
        → Ready i l m unread_length w.buffer lo z.run
    ready e k =
        let pz : Placed x z.run.state z = placed x w.trace z w.left e k in
        let e' : is_ended y.run.state ≡ false = subst (λ (r : Run). is_ended r.state ≡ false) w.run e in
        let k' : ltb (length y.payload) (limit_of y.run.settings.max_message_size) ≡ false =
        subst (λ (r : Run). ltb (length y.payload) (limit_of r.settings.max_message_size) ≡ false) w.run
        (subst (λ (j : ℕ). ltb j (limit_of z.run.settings.max_message_size) ≡ false) w.buffer k) in
        let py : Placed x' y.run.state y = placed x' w.trace' y w.right e' k' in
        let st : y.run.state ≡ z.run.state = sym (ap (λ (r : Run). r.state) w.run) in
        record {
          lacking = lacking_same (stands x z z.run.state e pz);
          handled = λ h. handled_alike (subst (λ (s : State). Placed x s z) h pz) (subst (λ (s : State). Placed x' s y) (st ∙ h) py);
          offered = λ h. offered_alike (subst (λ (s : State). Placed x s z) h pz) (subst (λ (s : State). Placed x' s y) (st ∙ h) py);
        }

    pub step_alike : Same out out' (step_of z.run i l) (step_of y.run i m)
    step_alike =
        subst (λ (r : Run). Same out out' (step_of z.run i l) (step_of r i m)) w.run (step_same i l m unread_length w.buffer lo z.run ready)

    pub step_pair : Pair x x' (play_one x.bytes z (step i n out)) (play_one x'.bytes y (step i n out'))
    step_pair =
        record {
          trace = trace_one x w.trace (step i n out);
          trace' = trace_one x' w.trace' (step i n out');
          left = step_preserved x w.trace z w.left i n out;
          right = step_preserved x' w.trace' y w.right i n out';
          run = step_alike.run;
          taken = sums w.taken step_alike.taken;
          buffer = step_alike.buffer;
          shown = step_remembers x w.trace z w.left w.shown i n out;
          shown' = step_remembers x' w.trace' y w.right w.shown' i n out';
        }
      where
        sums : {a b c d : ℕ} → a ≡ b → c ≡ d → a + c ≡ b + d
        sums p q = rw (p, q)
