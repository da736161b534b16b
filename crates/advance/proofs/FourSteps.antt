-- Where a message is at hand and its four steps apply, they do one by one what is done at once.
use Rattle.std.proofs.Common.{◌≡◌, ℕ, ◌+◌, ◌-◌, ◌<◌, ◌≤◌, min, Bool, true, false, eqb, ltb, List, [], ◌∷◌, length, get_or, take, drop, ℤ, sym, refl, ap, ◌∙◌, arith, length-drop, take-append-drop, length-take-le, take_all, get_or-take, take_at, ltb-false, ltb-true, le-ltb, lt-ltb, eqb-true, le-leb, leb-false}
use lib.ListN.{get_or-append}
use lib.Seq.{drop-append-le}
use borrow.Author.Tests.{eqb-false, not-true}
use Rattle.wire.specs.Bytes.{pick, at, put}
use Rattle.wire.specs.Int.{half, is_negative}
use Rattle.wire.proofs.Laws.{by_test, impossible, length_put, tail_whole}
use Rattle.frames.specs.Message.{length_field}
use Rattle.frames.proofs.Front.{length_field_append}
use Rattle.framing.specs.declared.MessageReader.{MessageReader}
use Rattle.framing.specs.Read.{whole, fresh, at_byte, Result, after_taking, limit_of, payload_of, judged_of, header_of, read_of}
use Rattle.frames.specs.Tag.{is_copy_data}
use Rattle.framing.proofs.Laws as L
use Rattle.lsn.specs.declared.Lsn.{Lsn}
use Rattle.metrics.specs.Metrics.{more, with_end}
use Rattle.moment.specs.declared.Moment.{Moment}
use Rattle.moment.specs.Moment.{in_range}
use Rattle.pgoutput.specs.Boundary.{boundary_of}
use Rattle.pgoutput.specs.Boundary as B
use Rattle.replication.specs.CopyData.{copy_data_of}
use Rattle.replication.specs.CopyData as C
use Rattle.worker.specs.declared.Event.{Event}
use Rattle.worker.specs.declared.Input.{Input}
use Rattle.worker.specs.declared.Queue.{Queue}
use Rattle.worker.specs.declared.Queue.TheVariants.{Free, Full, Closed}
use Rattle.worker.specs.declared.Run.{Run}
use Rattle.worker.specs.declared.State.{State}
use Rattle.worker.specs.declared.State.TheVariants.{Opening, Turn, Drain, Reading, Waiting, Handling, Offering, Ended}
use Rattle.worker.specs.Answer.{lent}
use Rattle.worker.specs.Events.{data_gives}
use Rattle.worker.specs.Events as E
use Rattle.worker.specs.Run.{lsn, whole_of, with_state, with_reader, with_drained, with_whole, with_metrics, accepted}
use Rattle.worker.specs.Step.{Outcome, Lent, handing, moved, having, is_ended, bad_moment, reaches, reading_by, reading_of, drain_of, given_of, copy_data_by, handling_of, first_offer_by, offering_of, offers, is_stopped_at, step_in, step_of}
use Rattle.advance.specs.declared.at_hand.AtHand.{AtHand}
use Rattle.advance.specs.Advance.{tells, lent_after, after, twice, advance_of}
use Rattle.advance.specs.AtHand.{at_hand, within, whole_at, by_given, by_copy_data, copy_data_at_hand, at_hand_of, is_drain, is_free, is_between, has_room_for, applies_of, handed_run, handed_of, HandsOnAtOnce, OthersAreLeft}

-- ---- tests

never : {X : Type 0} → ◌≡◌ {A = Bool} true false → X
never e = impossible cc

both : (b : Bool) {x : Bool} → pick b x false ≡ true → (b ≡ true) × (x ≡ true)
both true e = (refl, e)
both false e = impossible cc

neither : (b : Bool) {x : Bool} → pick b false x ≡ true → (b ≡ false) × (x ≡ true)
neither true e = impossible cc
neither false e = (refl, e)

-- the third test decides
third : {A : Type 0} (a b c : Bool) (w x y z : A) → a ≡ false → b ≡ false → c ≡ true → pick a w (pick b x (pick c y z)) ≡ y
third a b c w x y z ea eb ec = rw (ea, eb, ec)

free_is : (q : Queue) → is_free q ≡ true → q ≡ Free
free_is Free e = refl
free_is Full e = impossible cc
free_is Closed e = impossible cc

drain_is : (s : State) → is_drain s ≡ true → s ≡ Drain
drain_is Drain e = refl
drain_is Opening e = impossible cc
drain_is Turn e = impossible cc
drain_is Reading e = impossible cc
drain_is Waiting e = impossible cc
drain_is Handling e = impossible cc
drain_is Offering e = impossible cc
drain_is Ended e = impossible cc

-- ---- a read of a message that is whole

-- what a buffer holds after a write over its front
front_put : (p s : List ℕ) (n : ℕ) → length s ≡ n → take n (put p 0 s) ≡ s
unfolding put
front_put p s n h = take_at s _ n h

part_put : (p s : List ℕ) (a n : ℕ) → length s ≡ n → a ≤ n → at (put p 0 s) a (n - a) ≡ drop a s
unfolding put
part_put p s a n h l =
    rw (drop-append-le a s (drop (0 + length s) p) (omega arith))
    (take_at (drop a s) _ (n - a) (simp length-drop (omega arith)))

-- what is known of a message that is whole
record Whole (u : List ℕ) (n : ℕ) : Type 0 where
  enough : 30 ≤ length u
  tag : get_or u 0 0 ≡ 100
  told : length_field u ≡ n + 4
  least : 25 ≤ n
  small : n + 4 < half 4
  there : 5 + n ≤ length u

whole_is : (u : List ℕ) → (whole_at u ≡ 0 → ⊥) → Whole u (whole_at u)
unfolding whole_at within
whole_is u h =
    by_test (ltb (length u) 30)
    (λ a. absurd (h (rw a)))
    (λ a. by_test (is_copy_data (get_or u 0 0))
    (λ b. by_test (ltb (length_field u) 29)
    (λ c. absurd (h (rw (a, b, c))))
    (λ c. by_test (is_negative 4 (length_field u))
    (λ d. absurd (h (rw (a, b, c, d))))
    (λ d. by_test (ltb (length u) (length_field u + 1))
    (λ e. absurd (h (rw (a, b, c, d, e))))
    (λ e.
    let n : whole_at u ≡ length_field u - 4 = rw (a, b, c, d, e) in
    let k1 : 30 ≤ length u = ltb-false _ _ a in
    let k2 : 29 ≤ length_field u = ltb-false _ _ c in
    let k3 : length_field u < half 4 = leb-false _ _ d in
    let k4 : length_field u + 1 ≤ length u = ltb-false _ _ e in
    record {
      enough = k1;
      tag = eqb-true _ _ b;
      told = omega arith;
      least = omega arith;
      small = omega arith;
      there = omega arith;
    }))))
    (λ b. absurd (h (rw (a, b)))))

module _ (s n : ℕ) (x : MessageReader) (u : List ℕ) (e : Bool) (p : List ℕ) (none_there : x.filled ≡ 0)
    (going : x.refused ≡ false) (room : limit_of s ≤ length p) (fits : n ≤ limit_of s) (w : Whole u n) where
  abbrev v : List ℕ
  v = take (length u) (drop 5 u)

  v_is : v ≡ drop 5 u
  v_is = take_all (length u) (drop 5 u) (simp length-drop (omega arith))

  -- the reader's header with the message's written over it: its tag, and its length field
  abbrev h : List ℕ
  h = put x.header 0 (take 5 u)

  header_tag : 100 ≡ get_or h 0 0
  unfolding put
  header_tag =
      let k = w.enough in
      let l : length (take 5 u) ≡ 5 = length-take-le 5 u (omega arith) in
      sym (get_or-append (take 5 u) _ 0 0 (omega arith) ∙ (get_or-take 5 u 0 0 (omega arith) ∙ w.tag))

  header_length : n + 4 ≡ length_field h
  unfolding put
  header_length =
      let k = w.enough in
      let l : length (take 5 u) ≡ 5 = length-take-le 5 u (omega arith) in
      let a : length_field u ≡ length_field (take 5 u) = ap length_field (sym (take-append-drop 5 u)) ∙ length_field_append (take 5 u) (drop 5 u) (omega arith) in
      sym w.told ∙ (a ∙ sym (length_field_append (take 5 u) (drop (0 + length (take 5 u)) x.header) (omega arith)))

  payload_read : (whole 100 n, fresh, n, put p 0 (take n v)) ≡ payload_of (at_byte h 5 (n + 4 - 4)) v false p
  payload_read =
      let k1 = w.enough in
      let k2 = w.there in
      let k3 = w.least in
      let lv : length v ≡ length u - 5 = ap length v_is ∙ length-drop 5 u in
      L.payload_whole (at_byte h 5 (n + 4 - 4)) v false p n 0 100 (omega arith) (omega arith) header_tag n (put p 0 (take n v)) (omega arith) refl (omega arith) fresh refl
      (omega arith)

  judged_read : (whole 100 n, fresh, n, put p 0 (take n v)) ≡ judged_of (limit_of s) h v p
  judged_read =
      let k1 = w.enough in
      let k2 = w.small in
      L.length_good (limit_of s) h v p (n + 4) header_length (omega arith) (omega arith) (at_byte h 5 (n + 4 - 4)) _ refl (omega arith) payload_read

  header_read : after_taking 5 (whole 100 n, fresh, n, put p 0 (take n v)) ≡ header_of (limit_of s) x u e p
  header_read =
      let k1 = w.enough in
      let ek : 5 ≡ min (5 - x.filled) (length u) = omega arith in
      let eh : h ≡ put x.header x.filled (take 5 u) = rw none_there in
      L.header_whole (limit_of s) x u e p 5 h ek eh (length u) _ (omega arith) judged_read (omega arith)

  read_whole : read_of s x u e p ≡ (whole 100 n, fresh, 5 + n, put p 0 (at u 5 n))
  unfolding read_of
  read_whole =
      let lt : ltb x.filled 5 ≡ true = lt-ltb x.filled 5 (omega arith) in
      third _ _ _ _ _ _ _ (le-ltb _ _ room) going lt ∙ (sym header_read ∙ ap (λ (t : List ℕ). (whole 100 n, fresh, 5 + n, put p 0 (take n t))) v_is)

-- ---- where an XLogData has its data

parts_in : ℕ → C.Said → Type 0
parts_in n (C.w start end time from len) = (from ≡ 25) × (len ≡ n - 25)
parts_in n (C.k end time reply) = Unit {0}
parts_in n (C.refused number) = Unit {0}

parts_are : (s : List ℕ) → parts_in (length s) (copy_data_of s)
unfolding copy_data_of parts_in
parts_are [] = tt
parts_are (letter ∷ t) =
    L.pick_both (parts_in (length (letter ∷ t))) (eqb letter 119) _ _
    (L.pick_both (parts_in (length (letter ∷ t))) (ltb (length t) 24) _ _ tt (refl, omega arith))
    (L.pick_both (parts_in (length (letter ∷ t))) (eqb letter 107) _ _
    (L.pick_both (parts_in (length (letter ∷ t))) (ltb (length t) 17) _ _ tt tt)
    tt)

-- data give no StoppedAt
plain_in : E.Given → Type 0
plain_in (E.given e reached) = is_stopped_at e ≡ false
plain_in (E.refused n) = Unit {0}

data_plain : (b : B.Said) (start end : ℕ) (time : ℤ) (from len : ℕ) → plain_in (data_gives b start end time from len)
unfolding plain_in
data_plain (B.begin final commit_time xid) start end time from len = refl
data_plain (B.commit position commit_end commit_time) start end time from len = refl
data_plain (B.message flag position pf pl cf cl) start end time from len = refl
data_plain B.no_boundary start end time from len = refl
data_plain (B.refused n) start end time from len = tt

-- ---- twice, where the first tells nothing

twice_goes : (f : Run → Input → Lent → Outcome) (r : Run) (i : Input) (l : Lent) (o : Outcome) → f r i l ≡ o → tells o ≡ false
    → twice f r i l ≡ after o.taken (f o.run i (lent_after l o))
unfolding twice
twice_goes f r i l o e t = rw (e, t)

-- ---- the four steps

accepts : (r : Run) (i : Input) (l : Lent) → is_ended r.state ≡ false → limit_of r.settings.max_message_size ≤ length l.payload
    → 39 ≤ length l.out → bad_moment r i.moment ≡ false → step_of r i l ≡ step_in r.state (accepted i.moment r) i l
unfolding step_of
accepts r i l a b c d = fourth _ _ _ _ _ _ _ _ _ a (le-ltb _ _ b) (le-ltb _ _ c) d
  where
    fourth : {A : Type 0} (a b c d : Bool) (v w x y z : A) → a ≡ false → b ≡ false → c ≡ false → d ≡ false → pick a v (pick b w (pick c x (pick d y z))) ≡ z
    fourth a b c d v w x y z ea eb ec ed = rw (ea, eb, ec, ed)

-- a moment that was accepted is accepted again
again : (r : Run) (m : Moment) → bad_moment r m ≡ false → bad_moment (accepted m r) m ≡ false
again r m e = by_test (in_range m) (λ a. rw (a, le-ltb m.0 m.0 (omega arith))) (λ a. impossible cc)

module _ (r : Run) (i : Input) (u p o : List ℕ) (n : ℕ) (state : r.state ≡ Drain) (none_there : r.reader.filled ≡ 0)
    (going : r.reader.refused ≡ false) (few : r.drained < 256) (room : limit_of r.settings.max_message_size ≤ length p)
    (fits : n ≤ limit_of r.settings.max_message_size) (out : 39 ≤ length o) (moment : bad_moment r i.moment ≡ false) (w : Whole u n) where
  abbrev m : Moment
  m = i.moment

  abbrev l : Lent
  l = lent u p o

  abbrev s : List ℕ
  s = at u 5 n

  abbrev r1 : Run
  r1 = with_state Reading (accepted m r)

  drains : step_of r i l ≡ moved r1 l
  unfolding step_in drain_of
  drains =
      let k = w.enough in
      accepts r i l (ap is_ended state) room out moment
      ∙ (ap (λ (x : State). step_in x (accepted m r) i l) state
      ∙ rw (lt-ltb _ _ few, le-leb 5 (length u) (omega arith)))

  abbrev r2 : Run
  r2 = with_state Handling (with_whole (whole_of 100 n false) (with_drained (more r.drained 1) (with_reader fresh r1)))

  abbrev q : List ℕ
  q = put p 0 s

  reads : step_of r1 i l ≡ having (5 + n) q (moved r2 l)
  unfolding step_in reading_of
  reads =
      accepts r1 i l refl room out (again r m moment)
      ∙ ap (λ (x : Result). having x.2 x.3 (reading_by x.0 (with_reader x.1 r1) l))
      (read_whole r.settings.max_message_size n r.reader u i.ended p none_there going room fits w)

  both_read : twice step_of r i l ≡ having (5 + n) q (moved r2 l)
  both_read = twice_goes step_of r i l (moved r1 l) drains refl ∙ rw reads (ap (λ (k : ℕ). having k q (moved r2 l)) (omega arith))

  -- what the second pair is lent
  abbrev l2 : Lent
  l2 = lent (drop (5 + n) u) q o

  s_long : length s ≡ n
  s_long = let k = w.there in length-take-le n (drop 5 u) (simp length-drop (omega arith))

  q_long : length q ≡ length p
  q_long = length_put p s 0 (let a = s_long in let b = room in let c = fits in omega arith)

  room2 : limit_of r.settings.max_message_size ≤ length q
  room2 = let a = q_long in omega (arith, room)

  module _ (queue : i.queue ≡ Free) (start end : ℕ) (time : ℤ) (len : ℕ) (told : copy_data_of s ≡ C.w start end time 25 len) (long : len ≡ n - 25) where
    abbrev r3 : Event → Lsn → Run
    r3 e reached = offers e false reached (with_metrics (with_end r.metrics (lsn end)) r2)

    -- by what the data give
    module _ (e : Event) (reached : Lsn) (passes : reaches r reached ≡ false) (plain : is_stopped_at e ≡ false)
        (gives : data_gives (boundary_of (at s 25 len)) start end time 25 len ≡ E.given e reached) where
      handles : step_of r2 i l2 ≡ moved (r3 e reached) l2
      unfolding step_in handling_of
      handles =
          let c : copy_data_of (take n q) ≡ C.w start end time 25 len = ap copy_data_of (front_put p s n s_long) ∙ told in
          let d : at q 25 len ≡ at s 25 len = rw long (part_put p s 25 n s_long w.least ∙ sym (rw s_long at (tail_whole s 25))) in
          let b : Run = with_metrics (with_end r.metrics (lsn end)) r2 in
          accepts r2 i l2 refl room2 out (again r m moment)
          ∙ (ap (λ (x : C.Said). copy_data_by x r2 i l2) c
          ∙ (ap (λ (x : List ℕ). given_of (data_gives (boundary_of x) start end time 25 len) b l2) d
          ∙ (ap (λ (x : E.Given). given_of x b l2) gives
          ∙ ap (λ (x : Bool). moved (offers e x reached b) l2) passes)))

      offers_it : step_of (r3 e reached) i l2 ≡ handing e (handed_run r m (at_hand n (lsn end) reached e)) l2
      unfolding step_in offering_of
      offers_it =
          accepts (r3 e reached) i l2 refl room2 out (again r m moment)
          ∙ (ap (λ (x : Queue). first_offer_by x (r3 e reached) i l2) queue
          ∙ rw plain)

      both_handed : twice step_of r2 i l2 ≡ handing e (handed_run r m (at_hand n (lsn end) reached e)) l2
      both_handed = twice_goes step_of r2 i l2 (moved (r3 e reached) l2) handles refl ∙ rw offers_it (ap (λ (k : ℕ). having k q (handing e (handed_run r m (at_hand n (lsn end) reached e)) l2)) (omega arith))

      four : advance_of r i l ≡ handed_of r m (at_hand n (lsn end) reached e) u p o
      four =
          twice_goes (twice step_of) r i l (having (5 + n) q (moved r2 l)) both_read refl
          ∙ rw both_handed (ap (λ (k : ℕ). having k q (handing e (handed_run r m (at_hand n (lsn end) reached e)) l2)) (omega arith))

    by_given_lem : (x : E.Given) → data_gives (boundary_of (at s 25 len)) start end time 25 len ≡ x → plain_in x → eqb (by_given n (lsn end) x).len 0 ≡ false
        → reaches r (by_given n (lsn end) x).reached ≡ false
        → advance_of r i l ≡ handed_of r m (by_given n (lsn end) x) u p o
    unfolding plain_in
    by_given_lem (E.given e reached) gives plain h g = four e reached g plain gives
    by_given_lem (E.refused number) gives plain h g = impossible cc

  by_copy_data_lem : (queue : i.queue ≡ Free) (c : C.Said) → copy_data_of s ≡ c → parts_in n c → eqb (by_copy_data s c).len 0 ≡ false
      → reaches r (by_copy_data s c).reached ≡ false
      → advance_of r i l ≡ handed_of r m (by_copy_data s c) u p o
  unfolding parts_in
  by_copy_data_lem queue (C.w start end time from len) e k h g =
      let x : E.Given = data_gives (boundary_of (at s from len)) start end time from len in
      let y : x ≡ data_gives (boundary_of (at s 25 len)) start end time 25 len = rw k.0 in
      let z : by_copy_data s (C.w start end time from len) ≡ by_given n (lsn end) x = ap (λ (v : ℕ). by_given v (lsn end) x) s_long in
      by_given_lem queue start end time len (e ∙ rw k.0) k.1 x (sym y) (data_plain (boundary_of (at s from len)) start end time from len)
      (rw z at h) (rw z at g) ∙ ap (λ (v : AtHand). handed_of r m v u p o) (sym z)
  by_copy_data_lem queue (C.k end time reply) e k h g = impossible cc
  by_copy_data_lem queue (C.refused number) e k h g = impossible cc

-- its length is the payload's
given_len : (n : ℕ) (end : Lsn) (x : E.Given) → eqb (by_given n end x).len 0 ≡ false → (by_given n end x).len ≡ n
given_len n end (E.given e reached) h = refl
given_len n end (E.refused number) h = impossible cc

copy_data_len : (s : List ℕ) (c : C.Said) → eqb (by_copy_data s c).len 0 ≡ false → (by_copy_data s c).len ≡ length s
copy_data_len s (C.w start end time from len) h = given_len (length s) (lsn end) (data_gives (boundary_of (at s from len)) start end time from len) h
copy_data_len s (C.k end time reply) h = impossible cc
copy_data_len s (C.refused number) h = impossible cc

-- a message at hand is that of its payload
at_hand_is : (u : List ℕ) → eqb (at_hand_of u).len 0 ≡ false
    → (whole_at u ≡ 0 → ⊥) × (at_hand_of u ≡ by_copy_data (at u 5 (whole_at u)) (copy_data_of (at u 5 (whole_at u))))
unfolding at_hand_of copy_data_at_hand
at_hand_is u h =
    by_test (eqb (whole_at u) 0)
    (λ a. never (rw a at h))
    (λ a. (eqb-false _ _ a, rw a))

pub hands_on_at_once : HandsOnAtOnce
unfolding applies_of is_between has_room_for
hands_on_at_once r i u p o h =
    let limit : ℕ = limit_of r.settings.max_message_size in
    let x : AtHand = at_hand_of u in
    let a = neither (eqb x.len 0) h in
    let b = both (is_free i.queue) a.1 in
    let c = both (is_between r) b.1 in
    let d = both (has_room_for r i.moment (length p) (length o) x.len) c.1 in
    let drain = both (is_drain r.state) c.0 in
    let filled = both (eqb r.reader.filled 0) drain.1 in
    let going = neither r.reader.refused filled.1 in
    let room = neither (ltb (length p) limit) d.0 in
    let fits = neither (ltb limit x.len) room.1 in
    let out = neither (ltb (length o) 39) fits.1 in
    let s : List ℕ = at u 5 (whole_at u) in
    let g = at_hand_is u a.0 in
    let w : Whole u (whole_at u) = whole_is u g.0 in
    let ls : length (at u 5 (whole_at u)) ≡ whole_at u = (let k = w.there in length-take-le (whole_at u) (drop 5 u) (simp length-drop (omega arith))) in
    let e : x ≡ by_copy_data s (copy_data_of s) = g.1 in
    let some_len : eqb (by_copy_data s (copy_data_of s)).len 0 ≡ false = rw e at a.0 in
    let passes : reaches r x.reached ≡ false = not-true _ d.1 in
    let same_len : x.len ≡ whole_at u = ap (λ (z : AtHand). z.len) e ∙ copy_data_len s (copy_data_of s) some_len ∙ ls in
    let within_limit : whole_at u ≤ limit = rw same_len at (ltb-false limit x.len fits.0) in
    rw e
    (by_copy_data_lem r i u p o (whole_at u) (drain_is _ drain.0) (eqb-true _ _ filled.0) going.0 (ltb-true _ _ going.1) (ltb-false _ _ room.0) within_limit (ltb-false _ _ out.0)
    (not-true _ out.1) w (free_is _ b.0) (copy_data_of s) refl (rw ls at (parts_are s)) some_len (rw e at passes))

-- where it applies there is a message, and the payload buffer has room for its payload
pub applies_room : (r : Run) (m : Moment) (q : Queue) (p o : ℕ) (a : AtHand) → applies_of r m q p o a ≡ true → (0 < a.len) × (a.len ≤ p)
unfolding applies_of has_room_for
applies_room r m q p o a h =
    let limit : ℕ = limit_of r.settings.max_message_size in
    let x = neither (eqb a.len 0) h in
    let y = both (is_free q) x.1 in
    let z = both (is_between r) y.1 in
    let v = both (has_room_for r m p o a.len) z.1 in
    let room = neither (ltb p limit) v.0 in
    let fits = neither (ltb limit a.len) room.1 in
    let k : limit ≤ p = ltb-false _ _ room.0 in
    let l : a.len ≤ limit = ltb-false _ _ fits.0 in
    let n : a.len ≡ 0 → ⊥ = eqb-false _ _ x.0 in
    (omega arith, omega arith)

-- ---- all other messages

no_length : (u : List ℕ) → is_copy_data (get_or u 0 0) ≡ false → whole_at u ≡ 0
unfolding whole_at
no_length u h = by_test (ltb (length u) 30) (λ a. rw a) (λ a. rw (a, h))

pub others_are_left : OthersAreLeft
unfolding at_hand_of
others_are_left u h = rw (no_length u h)
