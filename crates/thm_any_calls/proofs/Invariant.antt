-- What holds of a run after any list of calls, by its state: where the reader stands, which messages the bytes taken hold, and where their
-- events stand (Course). And what a step that takes no byte, and a read, make of it: StateCases takes these laws.
use mathlib.Core.Path.{◌≡◌, refl, sym, ap, ◌∙◌}
use mathlib.Core.Bool.{Bool, true, false}
use mathlib.Core.List.{List, [], ◌∷◌, ◌++◌, append-nil}
use mathlib.Core.Logic.{◌⊎◌, inl, inr}
use mathlib.Core.Option.{Option}
use Prim.Native.Nat.{ℕ, ◌+◌, ◌-◌, ◌<◌, ◌≤◌}
use native.Mathlib.Omega.{arith}
use borrow.Author.Tests.{ltb-true, ltb-false}
use lib.ListN.{length, take, drop, length-append}
use lib.Seq.{length-take-le, take-append_seam}
use lib.Dec.{ltb, eqb}
use Rattle.wire.specs.Bytes.{pick, put}
use Rattle.wire.proofs.Laws.{by_test}
use Rattle.frames.specs.Cut.{Item, message, Cut, cut_of}
use Rattle.frames.specs.Cut.{refused as bad}
use Rattle.frames.specs.Tag.{is_copy_both_response}
use Rattle.frames.proofs.Laws.{cut_nothing}
use Rattle.framing.specs.declared.MessageReader.{MessageReader}
use Rattle.framing.specs.Read.{more, whole, refused, fresh, Result, limit_of, read_of}
use Rattle.framing.specs.Feed.{stored, item_of, FollowsCut, feed_all}
use Rattle.framing.proofs.Feed.{one_more, read_is_cut, fed_is_cut}
use Rattle.worker.specs.declared.Input.{Input}
use Rattle.worker.specs.declared.State.{State}
use Rattle.worker.specs.declared.State.TheVariants.{Opening, Turn, Drain, Reading, Waiting, Handling, Offering, Ended}
use Rattle.worker.specs.declared.Whole.{Whole}
use Rattle.worker.specs.declared.Offer.{Offer}
use Rattle.worker.specs.Run.{whole_of}
use Rattle.thm_any_calls.specs.Happened.{Happened}
use Rattle.thm_any_calls.specs.Plain.{Msg, Observation, whole_ones, has_opened, span_of, taken_of, is_refused_early}
use Rattle.thm_any_calls.specs.Begins.{is_closed, NoneClosed}
use Rattle.worker.specs.Step.{refused_with}
use Rattle.worker.specs.Streaming.{is_copy_done}
use Rattle.thm_any_calls.specs.Trace.{Setup, bounds_of}
use Rattle.thm_any_calls.specs.Table.{last_or, last_message}
use Rattle.thm_any_calls.specs.Calls.{Played, stepped, lent_to}
use Rattle.thm_any_calls.proofs.Account.{Account, grown, whole_at, same_ones, no_more, none_taken, taken_more}
use Rattle.thm_any_calls.proofs.Account as A
use Rattle.thm_any_calls.proofs.Begins.{closed_before}
use Rattle.thm_any_calls.proofs.Course.{Course, Before, Going, Held, Offers, Tied, Over, going_on, going_over}
use Rattle.thm_any_calls.proofs.Spans.{items_of, items_more, whole_items, whole_bad, span_more, cut_span, whole_answer}

-- the last of messages is the one after the others
pub last_one : (d m : Msg) (ms : List Msg) → last_or d (ms ++ (m ∷ [])) ≡ m
unfolding last_or
last_one d m [] = refl
last_one d m (n ∷ ms) = last_one n m ms

-- what a step tells the plain reading, by its input, its refusal and its taken count
abbrev pub tell : Input → ℕ → ℕ → Observation
tell i n k = record { stop = i.stop; queue = i.queue; refusal = n; taken = k }

-- the message that a run remembers: its payload stands at the buffer's front
abbrev pub message_of : Whole → List ℕ → Msg
message_of w p = (w.tag, take w.len p)

-- ---- what holds of the whole messages and of the accepted steps since the last was whole, whatever queue closes

abbrev pub Awaiting : Type 1
Awaiting = List Msg → List Observation → Type 0

-- a run in Opening: no `W` is among the messages
abbrev pub NotOpened : Bool → Awaiting
NotOpened opening ms ws = (opening ≡ true) × (has_opened ms ≡ false)

-- the last message was handled, where it is a `c`: a step was accepted since
abbrev pub NoneDone : Awaiting
NoneDone ms ws = ws ≡ [] → is_copy_done (last_or (0, []) ms).0 ≡ false

-- nothing is asked
abbrev pub Anyhow : Awaiting
Anyhow ms ws = Unit

-- a list with one more at its end is not empty
pub some_since : {A : Type 0} (ws : List Observation) (x : Observation) → ws ++ (x ∷ []) ≡ [] → A
some_since ws x e =
    let l : length (ws ++ (x ∷ [])) ≡ length ws + 1 = length-append ws (x ∷ []) in
    let k : length (ws ++ (x ∷ [])) ≡ 0 = ap (λ (y : List Observation). length y) e in
    absurd (omega arith)

pub none_done_grown : (ms : List Msg) (ws : List Observation) (x : Observation) → NoneDone ms ws → NoneDone ms (grown x ws)
none_done_grown ms ws x h = by (is_refused_early x.refusal)
  where
    by : (b : Bool) → pick b ws (ws ++ (x ∷ [])) ≡ [] → is_copy_done (last_or (0, []) ms).0 ≡ false
    by true e = h e
    by false e = some_since ws x e

pub opened_more : (ms : List Msg) (m : Msg) → has_opened ms ≡ false → is_copy_both_response m.0 ≡ false → has_opened (ms ++ (m ∷ [])) ≡ false
unfolding has_opened
opened_more [] m h c = simp c
opened_more (n ∷ ms) m h c = by (is_copy_both_response n.0) (λ e. opened_more ms m e c) h
  where
    by : (b : Bool) → (has_opened ms ≡ false → has_opened (ms ++ (m ∷ [])) ≡ false) → pick b true (has_opened ms) ≡ false
        → pick b true (has_opened (ms ++ (m ∷ []))) ≡ false
    by true f e = e
    by false f e = f e

module _ (s : Setup) where
  abbrev pub limit : ℕ
  limit = limit_of s.settings.max_message_size

  abbrev pub stop : Option ℕ
  stop = (bounds_of s.settings).stop

  abbrev cut_at : ℕ → Cut
  cut_at t = cut_of limit (take t s.bytes)

  -- ---- by state

  -- the messages so far are whole, the reader stands after them, and the steps account for them
  pub record Base (rd : MessageReader) (p : List ℕ) (t : ℕ) (ts : List Observation) (ms : List Msg) (ws : List Observation) : Type 0 where
    pub within : t ≤ length s.bytes
    pub room : limit ≤ length p
    pub size : limit ≤ s.room
    pub follows : FollowsCut (cut_at t) rd p
    pub items : (cut_at t).items ≡ items_of ms
    pub account : Account limit s.bytes t ts ms ws

  -- the messages stand as A says, and the events as C says while no queue has closed
  pub record Runs (A : Awaiting) (C : Course) (rd : MessageReader) (p : List ℕ) (t : ℕ) (ts : List Observation) (es : List Happened) : Type 0 where
    pub ms : List Msg
    pub ws : List Observation
    pub base : Base rd p t ts ms ws
    pub always : A ms ws
    pub course : NoneClosed ts → C ms ws es

  -- the last message is to be handled: no step was accepted since it was whole
  pub record Holds (w : Whole) (rd : MessageReader) (p : List ℕ) (t : ℕ) (ts : List Observation) (es : List Happened) : Type 0 where
    pub ms : List Msg
    pub base : Base rd p t ts (ms ++ (message_of w p ∷ [])) []
    pub full : length (take w.len p) ≡ w.len
    pub course : NoneClosed ts → Held stop s.opening ms es

  -- the run has ended: nothing changes any more
  pub record Ends (t : ℕ) (ts : List Observation) (es : List Happened) : Type 0 where
    pub ms : List Msg
    pub ws : List Observation
    pub account : Account limit s.bytes t ts ms ws
    pub course : NoneClosed ts → Over stop s.opening ms ws es

  abbrev pub Goings : MessageReader → List ℕ → ℕ → List Observation → List Happened → Type 0
  Goings = Runs NoneDone (Going stop s.opening)

  -- the message that an offered event is of
  abbrev pub last_at : ℕ → Msg
  last_at t = last_message limit (take t s.bytes)

  abbrev ByState : State → MessageReader → Whole → Offer → List ℕ → ℕ → List Observation → List Happened → Type 0
  ByState Opening rd w o p t ts es = Runs (NotOpened s.opening) (Before stop s.opening) rd p t ts es
  ByState Turn rd w o p t ts es = Goings rd p t ts es
  ByState Drain rd w o p t ts es = Goings rd p t ts es
  ByState Reading rd w o p t ts es = Goings rd p t ts es
  ByState Waiting rd w o p t ts es = Goings rd p t ts es
  ByState Handling rd w o p t ts es = Holds w rd p t ts es
  ByState Offering rd w o p t ts es = Runs Anyhow (Offers stop s.opening o p) rd p t ts es × Tied stop o p (last_at t)
  ByState Ended rd w o p t ts es = Ends t ts es

  -- where what the calls have left stands, by its state
  abbrev pub Placed : State → Played → Type 0
  Placed x z = ByState x z.run.reader z.run.whole z.run.offer z.payload z.taken z.observed z.events

  -- the payload buffer is shorter than the limit: every step is refused, and nothing happens
  pub record Short (p : List ℕ) (ts : List Observation) (es : List Happened) : Type 0 where
    pub buffer : length p < limit
    pub size : s.room < limit
    pub untaken : taken_of ts ≡ 0
    pub none : es ≡ []

  abbrev pub Invariant : State → Played → Type 0
  Invariant x z = Short z.payload z.observed z.events ⊎ Placed x z

-- no byte is taken, so the last message is the same
pub tied_still : (s : Setup) (o : Offer) (p : List ℕ) (t : ℕ) → Tied (stop s) o p (last_at s t) → Tied (stop s) o p (last_at s (t + 0))
tied_still s o p t h = let q : t + 0 ≡ t = omega arith in rw q h

module _ {s : Setup} where
  -- a message that waits to be handled, as one after the others
  abbrev pub with_held : {w : Whole} {rd : MessageReader} {p : List ℕ} {t : ℕ} {ts : List Observation} {es : List Happened}
      → (h : Holds s w rd p t ts es)
      → Runs s Anyhow (λ ms ws es. Held (stop s) s.opening h.ms es) rd p t ts es
  with_held {w} {rd} {p} h = record { ms = h.ms ++ (message_of w p ∷ []); ws = []; base = h.base; always = tt; course = h.course }

  -- ---- a step that takes no byte, and is refused with k (0 for none)

  module _ {rd : MessageReader} {p : List ℕ} {t : ℕ} {ts : List Observation} (i : Input) (k : ℕ) where
    base_still : {ms : List Msg} {ws : List Observation} → Base s rd p t ts ms ws
        → Base s rd p (t + 0) (ts ++ (tell i k 0 ∷ [])) ms (grown (tell i k 0) ws)
    base_still b =
        let q : t + 0 ≡ t = omega arith in
        record {
          within = rw q b.within;
          room = b.room;
          size = b.size;
          follows = rw q b.follows;
          items = rw q b.items;
          account = no_more (limit s) s.bytes (tell i k 0) refl b.account;
        }

    module _ {A : Awaiting} {C : Course} {es : List Happened} (b : Runs s A C rd p t ts es) where
      pub still : {B : Awaiting} {D : Course} {fs : List Happened} → (A b.ms b.ws → B b.ms (grown (tell i k 0) b.ws))
          → (is_closed i.queue ≡ false → C b.ms b.ws es → D b.ms (grown (tell i k 0) b.ws) fs)
          → Runs s B D rd p (t + 0) (ts ++ (tell i k 0 ∷ [])) fs
      still g f =
          record {
            ms = b.ms;
            ws = grown (tell i k 0) b.ws;
            base = base_still b.base;
            always = g b.always;
            course = λ q. let a = closed_before ts (tell i k 0) q in f a.1 (b.course a.0);
          }

      pub still_ends : {fs : List Happened}
          → (is_closed i.queue ≡ false → C b.ms b.ws es → Over (stop s) s.opening b.ms (grown (tell i k 0) b.ws) fs)
          → Ends s (t + 0) (ts ++ (tell i k 0 ∷ [])) fs
      still_ends f =
          record {
            ms = b.ms;
            ws = grown (tell i k 0) b.ws;
            account = no_more (limit s) s.bytes (tell i k 0) refl b.base.account;
            course = λ q. let a = closed_before ts (tell i k 0) q in f a.1 (b.course a.0);
          }

    module _ {es : List Happened} (b : Goings s rd p t ts es) where
      pub goes_still : Goings s rd p (t + 0) (ts ++ (tell i k 0 ∷ [])) (es ++ [])
      goes_still = still b (none_done_grown b.ms b.ws (tell i k 0)) (λ q. going_on _ _ (tell i k 0))

      pub goes_over : Ends s (t + 0) (ts ++ (tell i k 0 ∷ [])) (es ++ [])
      goes_over = still_ends b (λ q. going_over _ _ (tell i k 0))

  -- ---- a read of the next untaken bytes

  module _ {rd : MessageReader} {p : List ℕ} {t : ℕ} {ts : List Observation} {ms : List Msg} {ws : List Observation} (b : Base s rd p t ts ms ws)
      (n : ℕ) (end : Bool) where
    abbrev unread : List ℕ
    unread = take n (drop t s.bytes)

    abbrev read : Result
    read = read_of s.settings.max_message_size rd unread end p

    -- within the bytes, with room; the reader stands after what it took, and the items are one more or as many
    record After (x : Result) : Type 0 where
      within : t + x.2 ≤ length s.bytes
      room : limit s ≤ length x.3
      follows : FollowsCut (cut_at s (t + x.2)) x.1 x.3
      items : (cut_at s (t + x.2)).items ≡ items_of ms ++ item_of x.0 x.3

    after_read : After read
    after_read =
        let f = one_more s.settings.max_message_size s.bytes p b.room (items_of ms, rd, t, p) (record { unread = n; ended = end })
        (sym b.items, b.within, b.follows, refl) in
        record { within = f.1; room = (let y = f.3 in let z = b.room in omega arith); follows = f.2; items = sym f.0 }

    -- a message is whole now: its last byte was taken now
    module _ (tag k : ℕ) (h : read.0 ≡ whole tag k) where
      abbrev m : Msg
      m = (tag, take k read.3)

      one_item : items_of ms ++ item_of read.0 read.3 ≡ items_of (ms ++ (m ∷ []))
      one_item = rw h (sym (items_more ms m))

      -- no byte taken would be no item more
      some_taken : 0 < read.2
      some_taken =
          by_test (ltb 0 read.2) (λ e. ltb-true _ _ e)
          (λ e.
          let z : read.2 ≤ 0 = ltb-false _ _ e in
          let q : t + read.2 ≡ t = omega arith in
          let j : items_of ms ≡ items_of ms ++ (message tag (take k read.3) ∷ []) = rw (q, b.items, h) at after_read.items in
          let l : length (items_of ms) ≡ length (items_of ms) + 1 = ap (λ (y : List Item). length y) j ∙ length-append (items_of ms)
          (message tag (take k read.3) ∷ []) in
          absurd (omega arith))

      -- the payload stands at the buffer's front, whole
      held_now : length (take k read.3) ≡ k
      unfolding put
      held_now =
          let rest : List ℕ = (cut_at s t).rest in
          let w = read_is_cut s.settings.max_message_size (take t s.bytes) unread end rd p b.room b.follows in
          let u : Cut = cut_of (limit s) (rest ++ unread) in
          let a = whole_answer u.items u.ending (length unread) end (rest ++ unread) tag k (sym w.answer ∙ h) in
          let q : List ℕ = stored u.items u.ending (rest ++ unread) in
          let front : take k (put p 0 q) ≡ q = rw (← a.1) (take-append_seam q (drop (0 + length q) p)) in
          ap (λ (y : List ℕ). length y) (ap (take k) w.buffer ∙ front) ∙ a.1

      span_now : span_of (ms ++ (m ∷ [])) ≡ t + read.2
      span_now =
          let rest : List ℕ = (cut_at s t).rest in
          let w = read_is_cut s.settings.max_message_size (take t s.bytes) unread end rd p b.room b.follows in
          let u : Cut = cut_of (limit s) (rest ++ unread) in
          let a = whole_answer u.items u.ending (length unread) end (rest ++ unread) tag k (sym w.answer ∙ h) in
          let taken : read.2 ≡ 5 + k - length rest = w.taken ∙ ap (λ (y : ℕ). y - length rest) a.0 in
          let before : t ≡ span_of ms + length rest = sym (length-take-le t s.bytes b.within) ∙ cut_span (limit s) (take t s.bytes) ms
          b.items in
          together (span_of ms) (length rest) t k read.2 (length (take k read.3)) (span_of (ms ++ (m ∷ []))) taken before some_taken
          (span_more ms m) held_now
        where
          together : (a r t k x l z : ℕ) → x ≡ 5 + k - r → t ≡ a + r → 0 < x → z ≡ a + (5 + l) → l ≡ k → z ≡ t + x
          together a r t k x l z e f g h i = omega arith

    -- what a step tells that takes what was read, and is refused with r
    module _ (i : Input) (r : ℕ) where
      abbrev now : Observation
      now = tell i r read.2

      -- with these messages, of which the steps account
      read_base : (ns : List Msg) (vs : List Observation) → items_of ms ++ item_of read.0 read.3 ≡ items_of ns
          → Account (limit s) s.bytes (t + read.2) (ts ++ (now ∷ [])) ns vs → Base s read.1 read.3 (t + read.2) (ts ++ (now ∷ [])) ns vs
      read_base ns vs e a =
          let f = after_read in record { within = f.within; room = f.room; size = b.size; follows = f.follows; items = f.items ∙ e; account = a }

      -- as many whole messages as before
      account_same : whole_ones (items_of ms ++ item_of read.0 read.3) ≡ ms
          → Account (limit s) s.bytes (t + read.2) (ts ++ (now ∷ [])) ms (grown now ws)
      account_same e = same_ones (limit s) s.bytes t ts ms ws now b.account (ap whole_ones after_read.items ∙ e)

      base_more : read.0 ≡ more → Base s read.1 read.3 (t + read.2) (ts ++ (now ∷ [])) ms (grown now ws)
      base_more h =
          let e : items_of ms ++ item_of read.0 read.3 ≡ items_of ms = rw h (append-nil (items_of ms)) in
          read_base ms (grown now ws) e (account_same (ap whole_ones e ∙ whole_items ms))

      account_refused : (k : ℕ) → read.0 ≡ refused k → Account (limit s) s.bytes (t + read.2) (ts ++ (now ∷ [])) ms (grown now ws)
      account_refused k h = account_same (rw h (by (eqb k 6)))
        where
          by : (d : Bool) → whole_ones (items_of ms ++ pick d (bad ∷ []) []) ≡ ms
          by true = whole_bad ms
          by false = ap whole_ones (append-nil (items_of ms)) ∙ whole_items ms

      base_whole : (tag k : ℕ) → read.0 ≡ whole tag k
          → Base s read.1 read.3 (t + read.2) (ts ++ (now ∷ [])) (ms ++ ((tag, take k read.3) ∷ [])) []
      base_whole tag k h =
          let ns : List Msg = ms ++ ((tag, take k read.3) ∷ []) in
          let o : whole_at (limit s) s.bytes (t + read.2) ≡ ns = ap whole_ones (after_read.items ∙ one_item tag k h) ∙ whole_items ns in
          read_base ns [] (one_item tag k h)
          (A.one_more (limit s) s.bytes t ts ms ns ws now b.account o (span_now tag k h) (some_taken tag k h))

  -- the base after a step of a state that reads: x is what was read
  module _ {A : Awaiting} {C : Course} {rd : MessageReader} {p : List ℕ} {t : ℕ} {ts : List Observation} {es : List Happened}
      (b : Runs s A C rd p t ts es) (n : ℕ) (i : Input) (x : Result) (hx : read_of s.settings.max_message_size rd (take n (drop t s.bytes)) i.ended p ≡ x) (r : ℕ) where
    abbrev observed : List Observation
    observed = ts ++ (tell i r x.2 ∷ [])

    abbrev one : ℕ → ℕ → List Msg
    one tag k = b.ms ++ ((tag, take k x.3) ∷ [])

    before : NoneClosed observed → C b.ms b.ws es
    before q = b.course (closed_before ts (tell i r x.2) q).0

    whole_base : (tag k : ℕ) → x.0 ≡ whole tag k → Base s x.1 x.3 (t + x.2) observed (one tag k) []
    whole_base = rw hx at (base_whole b.base n i.ended i r)

    pub whole_held : (tag k : ℕ) → x.0 ≡ whole tag k → length (take k x.3) ≡ k
    whole_held = rw hx at (held_now b.base n i.ended)

    -- it is the last whole message then
    pub whole_last : (tag k : ℕ) → x.0 ≡ whole tag k → last_at s (t + x.2) ≡ (tag, take k x.3)
    whole_last tag k h = rw ((whole_base tag k h).items, whole_items) (last_one (0, []) (tag, take k x.3) b.ms)

    module _ {fs : List Happened} where
      pub read_more : {B : Awaiting} {D : Course} → x.0 ≡ more → (A b.ms b.ws → B b.ms (grown (tell i r x.2) b.ws))
          → (C b.ms b.ws es → D b.ms (grown (tell i r x.2) b.ws) fs)
          → Runs s B D x.1 x.3 (t + x.2) observed fs
      read_more h g f =
          record {
            ms = b.ms;
            ws = grown (tell i r x.2) b.ws;
            base = rw hx at (base_more b.base n i.ended i r) h;
            always = g b.always;
            course = λ q. f (before q);
          }

      pub read_refused : (k : ℕ) → x.0 ≡ refused k → (C b.ms b.ws es → Over (stop s) s.opening b.ms (grown (tell i r x.2) b.ws) fs)
          → Ends s (t + x.2) observed fs
      read_refused k h f =
          record { ms = b.ms; ws = _; account = rw hx at (account_refused b.base n i.ended i r k) h; course = λ q. f (before q) }

      module _ (tag k : ℕ) (h : x.0 ≡ whole tag k) where
        pub read_whole : {B : Awaiting} {D : Course} → (A b.ms b.ws → B (one tag k) []) → (C b.ms b.ws es → D (one tag k) [] fs)
            → Runs s B D x.1 x.3 (t + x.2) observed fs
        read_whole g f = record { ms = one tag k; ws = []; base = whole_base tag k h; always = g b.always; course = λ q. f (before q) }

        pub read_holds : (w : Bool) → (C b.ms b.ws es → Held (stop s) s.opening b.ms fs)
            → Holds s (whole_of tag k w) x.1 x.3 (t + x.2) observed fs
        read_holds w f = record { ms = b.ms; base = whole_base tag k h; full = whole_held tag k h; course = λ q. f (before q) }

        -- a message that ends the run in the step that read it
        pub read_last : (C b.ms b.ws es → Over (stop s) s.opening (one tag k) [] fs) → Ends s (t + x.2) observed fs
        read_last f = record { ms = one tag k; ws = []; account = (whole_base tag k h).account; course = λ q. f (before q) }

  -- ---- before the first call

  pub no_base : (p : List ℕ) → limit s ≤ length p → limit s ≤ s.room → Base s fresh p 0 [] [] []
  unfolding feed_all items_of taken_of
  no_base p h z =
      let f = fed_is_cut s.settings.max_message_size s.bytes p h [] in
      record {
        within = omega arith;
        room = h;
        size = z;
        follows = f.2;
        items = ap (λ (u : Cut). u.items) (cut_nothing (limit s));
        account = none_taken (limit s) s.bytes refl;
      }

-- ---- a step refused with 2 to 5 changes nothing

module _ (s : Setup) (z : Played) (i : Input) (n : ℕ) (out : List ℕ) (k : ℕ) (early : is_refused_early k ≡ true) where
  abbrev refused_so : Played
  refused_so = stepped z i (refused_with k z.run (lent_to s.bytes z n out))

  earlier : {A : Type 0} → (NoneClosed z.observed → A) → NoneClosed refused_so.observed → A
  earlier f q = f (closed_before z.observed (tell i k 0) q).0

  placed_still : (x : State) → Placed s x z → Placed s x refused_so
  placed_still Opening b = still i k b (λ o. o) (λ q a. rw (early, append-nil z.events) a)
  placed_still Turn b = goes_still i k b
  placed_still Drain b = goes_still i k b
  placed_still Reading b = goes_still i k b
  placed_still Waiting b = goes_still i k b
  placed_still Handling h =
      record { ms = h.ms; base = rw early at (base_still i k h.base); full = h.full; course = rw append-nil (earlier h.course) }
  placed_still Offering b =
      (still i k b.0 (λ o. tt) (λ q a. rw (early, append-nil z.events) a), tied_still s z.run.offer z.payload z.taken b.1)
  placed_still Ended o =
      record {
        ms = o.ms;
        ws = o.ws;
        account = rw early at (no_more (limit s) s.bytes (tell i k 0) refl o.account);
        course = rw append-nil (earlier o.course);
      }

  pub early_still : (x : State) → Invariant s x z → Invariant s x refused_so
  early_still x (inl h) =
      inl (record {
        buffer = h.buffer;
        size = h.size;
        untaken = taken_more z.observed (tell i k 0) ∙ (let y = h.untaken in omega arith);
        none = append-nil z.events ∙ h.none;
      })
  early_still x (inr b) = inr (placed_still x b)
