-- Any list of steps, advances and reports. An advance is up to four steps, each of two runs that are the same; so a law for a call made twice is all
-- that is needed beside the step's.
use mathlib.Core.Path.{◌≡◌, refl, sym, ap, ◌∙◌, subst}
use mathlib.Core.Bool.{Bool, true, false, not}
use mathlib.Core.List.{List, [], ◌∷◌, ◌++◌}
use mathlib.Core.Option.{some}
use Prim.Native.Nat.{ℕ, zero, suc, ◌+◌, ◌-◌}
use native.Mathlib.Nat.{add_assoc}
use native.Mathlib.Omega.{arith}
use lib.ListN.{length, get_or, take, drop}
use lib.Seq.{drop-drop, take-nil}
use lib.Dec.{ltb, eqb}
use Rattle.wire.specs.Bytes.{pick, put}
use Rattle.wire.proofs.Laws.{by_test, impossible}
use Rattle.error.specs.Inputs.{total}
use Rattle.error.specs.Writer.{input_limit, writing}
use Rattle.framing.specs.Read.{limit_of}
use Rattle.frontend.specs.Frontend.{query}
use Rattle.request.specs.Request.{start_replication}
use Rattle.lsn.specs.declared.Lsn.{Lsn}
use Rattle.moment.specs.declared.Moment.{Moment}
use Rattle.worker.specs.declared.Input.{Input}
use Rattle.worker.specs.declared.Run.{Run}
use Rattle.worker.specs.declared.Settings.{Settings}
use Rattle.worker.specs.Answer.{lent, error_part_of}
use Rattle.worker.specs.Events as E
use Rattle.worker.specs.Session.{Opened, bad_interval, open_of, report_of}
use Rattle.worker.specs.Run.{fresh_run}
use Rattle.worker.specs.Step.{Lent, Outcome, step_of}
use Rattle.advance.specs.Advance.{is_nothing, tells, lent_after, after, twice, advance_of}
use Rattle.schedule.specs.NextStep.{next_step_of}
use Rattle.run_page.specs.RunPage.{shown_by}
use Rattle.ffi_words.specs.Words.{words_of}
use Rattle.thm_any_calls.specs.Happened.{Happened, happened_of}
use Rattle.thm_any_calls.specs.Plain.{Msg, Observation}
use Rattle.thm_any_calls.specs.Trace.{Setup, Trace}
use Rattle.thm_any_calls.specs.Calls.{Played, stepped, lent_to, play_one, play_all, begun, played, run_begun, setup_of, Beginning, is_opening, start_of}
use Rattle.thm_any_calls.specs.Calls as C
use Rattle.thm_any_calls.specs.Traced.{trace_all, trace_of}
use Rattle.thm_any_calls.proofs.Beginnings.{first_state, run_begun_lem}
use Rattle.thm_any_calls.proofs.Invariant.{limit}
use Rattle.thm_any_calls.proofs.Preserved.{Preserved, calls_preserved, played_preserved}
use Rattle.thm_host_calls.specs.Mixed.{Call, mix_all}
use Rattle.thm_unpublished.specs.Alike.{Alike}
use Rattle.thm_unpublished.specs.Same.{Same}
use Rattle.thm_unpublished.specs.Unpublished.{AlikeBeginning, opens, is_open, AlikeCalls, none, step, advance, report, Equal, Indistinct, AlikeIndistinct, HiddenIndistinct, OpensAlike}
use Rattle.thm_unpublished.proofs.Contained.{hidden_is_alike}
use Rattle.thm_unpublished.proofs.Gives.{left_out_append}
use Rattle.thm_unpublished.proofs.Step.{place_over}
use Rattle.thm_unpublished.proofs.Error.{Remembers}
use Rattle.thm_unpublished.proofs.Pair.{Pair, error_alike, step_alike, step_pair}

sums : {a b c d : ℕ} → a ≡ b → c ≡ d → a + c ≡ b + d
sums p q = rw (p, q)

-- ---- what a call leaves to the next

pub record Left (z : Played) (o : Outcome) (next : Played) : Type 0 where
  pub run : next.run ≡ o.run
  pub payload : next.payload ≡ o.payload
  pub taken : next.taken ≡ z.taken + o.taken

-- of n bytes t were taken: what is left of them
left_of : (n t : ℕ) (s : List ℕ) → drop t (take n s) ≡ take (n - t) (drop t s)
left_of n zero s = let e : n ≡ n - 0 = omega arith in ap (λ (m : ℕ). take m s) e
left_of zero (suc t) s = let e : 0 ≡ 0 - suc t = omega arith in ap (λ (m : ℕ). take m (drop (suc t) s)) e
left_of (suc n) (suc t) [] = sym (take-nil (suc n - suc t))
left_of (suc n) (suc t) (x ∷ s) = let e : n - t ≡ suc n - suc t = omega arith in left_of n t s ∙ ap (λ (m : ℕ). take m (drop t s)) e

next_lent : (bytes : List ℕ) (z : Played) (n : ℕ) (out : List ℕ) (o : Outcome) (next : Played) → Left z o next
    → lent_after (lent_to bytes z n out) o ≡ lent_to bytes next (n - o.taken) o.out
next_lent bytes z n out o next h =
    let t : drop (z.taken + o.taken) bytes ≡ drop next.taken bytes = ap (λ (k : ℕ). drop k bytes) (sym h.taken) in
    ap (λ (u : List ℕ). lent u o.payload o.out)
    (left_of n o.taken (drop z.taken bytes) ∙ ap (take (n - o.taken)) (drop-drop o.taken z.taken bytes ∙ t))
    ∙ ap (λ (p : List ℕ). lent (take (n - o.taken) (drop next.taken bytes)) p o.out) (sym h.payload)

-- ---- a call made twice

twice_first : (f : Run → Input → Lent → Outcome) (r : Run) (i : Input) (l : Lent) → tells (f r i l) ≡ true → twice f r i l ≡ f r i l
unfolding twice
twice_first f r i l e = rw e

twice_second : (f : Run → Input → Lent → Outcome) (r : Run) (i : Input) (l : Lent) → tells (f r i l) ≡ false
    → twice f r i l ≡ after (f r i l).taken (f (f r i l).run i (lent_after l (f r i l)))
unfolding twice
twice_second f r i l e = rw e

same_tells : {u v : List ℕ} {o o' : Outcome} → Same u v o o' → tells o ≡ tells o'
same_tells {u} {v} {o} {o'} s = by o.refusal o'.refusal o.written o'.written o.event o'.event s.refusal s.count s.event
  where
    by : (a b c d : ℕ) (e f : E.Said) → a ≡ b → c ≡ d → e ≡ f
        → pick (eqb a 0) (pick (eqb c 0) (not (is_nothing e)) true) true ≡ pick (eqb b 0) (pick (eqb d 0) (not (is_nothing f)) true) true
    by a b c d e f p q r = rw (p, q, r)

-- a second call after a first that told nothing
after_same : {u v : List ℕ} (o o' p p' : Outcome) → Same u v o o' → Same o.out o'.out p p'
    → Same u v (after o.taken p) (after o'.taken p')
after_same o o' p p' s t =
    record {
      run = t.run;
      refusal = t.refusal;
      taken = sums s.taken t.taken;
      event = t.event;
      count = t.count;
      written = t.written;
      waited = t.waited;
      output = λ j k. t.output j (s.output j k);
      room = t.room;
      buffer = t.buffer;
      happened = t.happened;
    }

after_left : (z : Played) (o p : Outcome) (middle next : Played) → Left z o middle → Left middle p next → Left z (after o.taken p) next
after_left z o p middle next a b =
    record {
      run = b.run;
      payload = b.payload;
      taken = b.taken ∙ (ap (λ (k : ℕ). k + p.taken) a.taken ∙ add_assoc z.taken o.taken p.taken);
    }

module _ (x x' : Setup) (es : x.settings ≡ x'.settings) (al : Alike (limit x) x.bytes x'.bytes) where
  -- a call of each run: the answers are the same, and so are the runs after it
  pub record Together (f : Run → Input → Lent → Outcome) (z y : Played) (i : Input) (n : ℕ) (out out' : List ℕ) : Type 0 where
    pub same : Same out out' (f z.run i (lent_to x.bytes z n out)) (f y.run i (lent_to x'.bytes y n out'))
    pub next : Played
    pub next' : Played
    pub pair : Pair x x' next next'
    pub left : Left z (f z.run i (lent_to x.bytes z n out)) next
    pub left' : Left y (f y.run i (lent_to x'.bytes y n out')) next'

  abbrev pub Good : (Run → Input → Lent → Outcome) → Type 0
  Good f = (z y : Played) → Pair x x' z y → (i : Input) (n : ℕ) (out out' : List ℕ) → length out ≡ length out' → Together f z y i n out out'

  pub step_good : Good step_of
  step_good z y w i n out out' lo =
      record {
        same = step_alike x x' es al w i n out out' lo;
        next = play_one x.bytes z (C.step i n out);
        next' = play_one x'.bytes y (C.step i n out');
        pair = step_pair x x' es al w i n out out' lo;
        left = record { run = refl; payload = refl; taken = refl };
        left' = record { run = refl; payload = refl; taken = refl };
      }

  module _ (f : Run → Input → Lent → Outcome) (g : Good f) (z y : Played) (w : Pair x x' z y) (i : Input) (n : ℕ) (out out' : List ℕ)
      (lo : length out ≡ length out') where
    abbrev l : Lent
    l = lent_to x.bytes z n out

    abbrev m : Lent
    m = lent_to x'.bytes y n out'

    abbrev o : Outcome
    o = f z.run i l

    abbrev o' : Outcome
    o' = f y.run i m

    t : Together f z y i n out out'
    t = g z y w i n out out' lo

    -- by the outcomes that the two calls have
    by_outcomes : (p p' : Outcome) (next next' : Played) → twice f z.run i l ≡ p → twice f y.run i m ≡ p' → Same out out' p p'
        → Pair x x' next next'
        → Left z p next → Left y p' next' → Together (twice f) z y i n out out'
    by_outcomes p p' next next' e e' s v a b =
        record {
          same =
              subst (λ (q : Outcome). Same out out' q (twice f y.run i m)) (sym e) (subst (λ (q : Outcome). Same out out' p q) (sym e') s);
          next = next;
          next' = next';
          pair = v;
          left = subst (λ (q : Outcome). Left z q next) (sym e) a;
          left' = subst (λ (q : Outcome). Left y q next') (sym e') b;
        }

    told : tells o ≡ true → Together (twice f) z y i n out out'
    told e =
        by_outcomes o o' t.next t.next' (twice_first f z.run i l e) (twice_first f y.run i m (sym (same_tells t.same) ∙ e)) t.same
        t.pair
        t.left t.left'

    untold : tells o ≡ false → Together (twice f) z y i n out out'
    untold e =
        let k : ℕ = n - o.taken in
        let u : Together f t.next t.next' i k o.out o'.out = g t.next t.next' t.pair i k o.out o'.out t.same.room in
        let p : Outcome = f t.next.run i (lent_to x.bytes t.next k o.out) in
        let p' : Outcome = f t.next'.run i (lent_to x'.bytes t.next' k o'.out) in
        let a : f o.run i (lent_after l o) ≡ p =
        ap (f o.run i) (next_lent x.bytes z n out o t.next t.left)
        ∙ ap (λ (r : Run). f r i (lent_to x.bytes t.next k o.out)) (sym t.left.run) in
        let b : f o'.run i (lent_after m o') ≡ p' =
        ap (f o'.run i) (next_lent x'.bytes y n out' o' t.next' t.left')
        ∙ (ap (λ (j : ℕ). f o'.run i (lent_to x'.bytes t.next' (n - j) o'.out)) (sym t.same.taken)
        ∙ ap (λ (r : Run). f r i (lent_to x'.bytes t.next' k o'.out)) (sym t.left'.run)) in
        by_outcomes (after o.taken p) (after o'.taken p') u.next u.next' (twice_second f z.run i l e ∙ ap (after o.taken) a)
        (twice_second f y.run i m (sym (same_tells t.same) ∙ e) ∙ ap (after o'.taken) b) (after_same o o' p p' t.same u.same) u.pair
        (after_left z o p t.next u.next t.left u.left) (after_left y o' p' t.next' u.next' t.left' u.left')

    two : Together (twice f) z y i n out out'
    two = by_test (tells o) told untold

  twice_good : (f : Run → Input → Lent → Outcome) → Good f → Good (twice f)
  twice_good f g z y w i n out out' lo = two f g z y w i n out out' lo

  pub advance_good : Good advance_of
  advance_good = twice_good (twice step_of) (twice_good step_of step_good)

  -- ---- mixed lists, whose advances count as one call; under them stand the steps one by one

  pub record As (z under : Played) : Type 0 where
    pub run : z.run ≡ under.run
    pub payload : z.payload ≡ under.payload
    pub taken : z.taken ≡ under.taken

  pub record Stand (z y : Played) : Type 0 where
    pub under : Played
    pub under' : Played
    pub pair : Pair x x' under under'
    pub like : As z under
    pub like' : As y under'
    pub equal : Equal z y

  same_call : (bytes : List ℕ) (z under : Played) → As z under → (f : Run → Input → Lent → Outcome) (i : Input) (n : ℕ) (out : List ℕ)
      → f under.run i (lent_to bytes under n out) ≡ f z.run i (lent_to bytes z n out)
  same_call bytes z under a f i n out =
      ap (λ (r : Run). f r i (lent_to bytes under n out)) (sym a.run)
      ∙ (ap (λ (t : ℕ). f z.run i (lent (take n (drop t bytes)) under.payload out)) (sym a.taken)
      ∙ ap (λ (p : List ℕ). f z.run i (lent (take n (drop z.taken bytes)) p out)) (sym a.payload))

  left_as : (i : Input) (z under : Played) (o : Outcome) (next : Played) → As z under → Left under o next → As (stepped z i o) next
  left_as i z under o next a h =
      record { run = sym h.run; payload = sym h.payload; taken = ap (λ (k : ℕ). k + o.taken) a.taken ∙ sym h.taken }

  call_equal : (i : Input) (z y : Played) (u v : List ℕ) (o o' : Outcome) → Equal z y → Same u v o o' → Equal (stepped z i o) (stepped y i o')
  call_equal i z y u v o o' e s =
      record {
        run = s.run;
        taken = sums e.taken s.taken;
        observed = seen e.observed s.refusal s.taken;
        written = wrote e.written s.written;
        events =
            left_out_append z.events (happened_of o.event o.payload)
            ∙ (both_lists e.events s.happened ∙ sym (left_out_append y.events (happened_of o'.event o'.payload)));
        buffer = s.buffer;
      }
    where
      seen : {a b : List Observation} {c d j k : ℕ} → a ≡ b → c ≡ d → j ≡ k
          → a ++ (record { stop = i.stop; queue = i.queue; refusal = c; taken = j } ∷ [])
          ≡ b ++ (record { stop = i.stop; queue = i.queue; refusal = d; taken = k } ∷ [])
      seen p q r = rw (p, q, r)

      wrote : {a b : List (List ℕ)} {c d : List ℕ} → a ≡ b → c ≡ d → a ++ (c ∷ []) ≡ b ++ (d ∷ [])
      wrote p q = rw (p, q)

      both_lists : {a b c d : List Happened} → a ≡ b → c ≡ d → a ++ c ≡ b ++ d
      both_lists p q = rw (p, q)

  module _ (f : Run → Input → Lent → Outcome) (g : Good f) {z y : Played} (w : Stand z y) (i : Input) (n : ℕ) (out out' : List ℕ)
      (lo : length out ≡ length out') where
    u : Together f w.under w.under' i n out out'
    u = g w.under w.under' w.pair i n out out' lo

    pub call_same : Same out out' (f z.run i (lent_to x.bytes z n out)) (f y.run i (lent_to x'.bytes y n out'))
    call_same =
        subst (λ (q : Outcome). Same out out' q (f y.run i (lent_to x'.bytes y n out'))) (same_call x.bytes z w.under w.like f i n out)
        (subst (λ (q : Outcome). Same out out' (f w.under.run i (lent_to x.bytes w.under n out)) q)
        (same_call x'.bytes y w.under' w.like' f i n out') u.same)

    pub call_stand : Stand (stepped z i (f z.run i (lent_to x.bytes z n out))) (stepped y i (f y.run i (lent_to x'.bytes y n out')))
    call_stand =
        record {
          under = u.next;
          under' = u.next';
          pair = u.pair;
          like =
              subst (λ (q : Outcome). As (stepped z i q) u.next) (same_call x.bytes z w.under w.like f i n out)
              (left_as i z w.under _ u.next w.like u.left);
          like' =
              subst (λ (q : Outcome). As (stepped y i q) u.next') (same_call x'.bytes y w.under' w.like' f i n out')
              (left_as i y w.under' _ u.next' w.like' u.left');
          equal = call_equal i z y out out' _ _ w.equal call_same;
        }

  -- a report
  report_preserved : (s : Setup) (h : Trace) (z : Played) (file : ℕ) (p : Lsn) (m : Moment) → Preserved s h z
      → Preserved s (trace_all s h (C.report file p m ∷ [])) (play_one s.bytes z (C.report file p m))
  unfolding play_all
  report_preserved s h z file p m w = calls_preserved s (C.report file p m ∷ []) h z w

  after_report : (file : ℕ) (p : Lsn) (m : Moment) (r q : Run) → r ≡ q → (report_of r file p m).1 ≡ (report_of q file p m).1
  after_report file p m r q e = ap (λ (k : Run). (report_of k file p m).1) e

  pub report_stand : {z y : Played} (file : ℕ) (p : Lsn) (m : Moment) → Stand z y
      → Stand (play_one x.bytes z (C.report file p m)) (play_one x'.bytes y (C.report file p m))
  unfolding report_of
  report_stand {z} {y} file p m w =
      let v = w.pair in
      record {
        under = play_one x.bytes w.under (C.report file p m);
        under' = play_one x'.bytes w.under' (C.report file p m);
        pair =
            record {
              trace = trace_all x v.trace (C.report file p m ∷ []);
              trace' = trace_all x' v.trace' (C.report file p m ∷ []);
              left = report_preserved x v.trace w.under file p m v.left;
              right = report_preserved x' v.trace' w.under' file p m v.right;
              run = after_report file p m _ _ v.run;
              taken = v.taken;
              buffer = v.buffer;
              shown = record { shown = v.shown.shown; clean = v.shown.clean };
              shown' = record { shown = v.shown'.shown; clean = v.shown'.clean };
            };
        like = record { run = after_report file p m _ _ w.like.run; payload = w.like.payload; taken = w.like.taken };
        like' = record { run = after_report file p m _ _ w.like'.run; payload = w.like'.payload; taken = w.like'.taken };
        equal =
            record {
              run = after_report file p m _ _ w.equal.run;
              taken = w.equal.taken;
              observed = w.equal.observed;
              written = w.equal.written;
              events = w.equal.events;
              buffer = w.equal.buffer;
            };
      }

  -- call after call
  calls_stand : {cs ds : List Call} → AlikeCalls cs ds → {z y : Played} → Stand z y → Stand (mix_all x.bytes z cs) (mix_all x'.bytes y ds)
  unfolding mix_all
  calls_stand none w = w
  calls_stand (step {i = i} {n = n} {out = out} {out' = out'} lo h) w = calls_stand h (call_stand step_of step_good w i n out out' lo)
  calls_stand (advance {i = i} {n = n} {out = out} {out' = out'} lo h) w = calls_stand h (call_stand advance_of advance_good w i n out out' lo)
  calls_stand (report {file = file} {p = p} {m = m} h) w = calls_stand h (report_stand file p m w)

  stand_indistinct : (z y : Played) → Stand z y → Indistinct x.bytes x'.bytes z y
  stand_indistinct z y w =
      let e : z.run ≡ y.run = w.equal.run in
      record {
        left = w.equal;
        looks =
            record {
              page = ap shown_by e;
              metrics = ap (λ (r : Run). r.metrics) e;
              next_step = λ n queue. ap (λ (r : Run). next_step_of r n queue) e;
              error_part = ap error_part_of e;
              words = ap words_of e;
            };
        step = λ i n out out' lo. call_same step_of step_good w i n out out' lo;
        advance = λ i n out out' lo. call_same advance_of advance_good w i n out out' lo;
        report = λ file p m. ap (λ (r : Run). report_of r file p m) e;
        error = λ n q. shown_alike n q;
      }
    where
      shown_alike : (n : ℕ) → error_part_of z.run ≡ some n → take n z.payload ≡ take n y.payload
      shown_alike n q =
          let k : take n w.under.payload ≡ take n w.under'.payload =
          error_alike x x' es al w.pair n (sym (ap error_part_of w.like.run) ∙ q) in
          ap (take n) w.like.payload ∙ (k ∙ sym (ap (take n) w.like'.payload))

-- ---- from a fresh run

same_beginning : {c d : Beginning} → AlikeBeginning c d → (is_opening c ≡ is_opening d) × (start_of c ≡ start_of d)
same_beginning (opens l) = (refl, refl)
same_beginning is_open = (refl, refl)

fresh_preserved : (s : Settings) (b : Beginning) (bytes p : List ℕ)
    → let x : Setup = setup_of s b bytes (length p) in Preserved x (trace_of x []) (begun (run_begun s b) p)
unfolding played play_all
fresh_preserved s b bytes p = played_preserved s b bytes p []

same_run : (s : Settings) (c d : Beginning) → AlikeBeginning c d → run_begun s c ≡ run_begun s d
same_run s c d h = let k = same_beginning h in run_begun_lem s c ∙ (rw (k.0, k.1) refl ∙ sym (run_begun_lem s d))

-- a fresh run has ended in no error, and remembers none
first_remembers : (s : Settings) (b : Beginning) (m : Msg) (p : List ℕ) → Remembers m (run_begun s b) p
unfolding fresh_run
first_remembers s b m p = subst (λ (r : Run). Remembers m r p) (sym (run_begun_lem s b)) (by (is_opening b))
  where
    by : (o : Bool) → Remembers m (fresh_run s (first_state o) (start_of b)) p
    by true = record { shown = λ x y. impossible cc; clean = λ x. refl }
    by false = record { shown = λ x y. impossible cc; clean = λ x. refl }

-- the setups of two runs that were begun alike
module _ (s : Settings) (c d : Beginning) (a b p q : List ℕ) (h : AlikeBeginning c d) (al : Alike (limit_of s.max_message_size) a b)
    (lp : length p ≡ length q) where
  abbrev pub left_setup : Setup
  left_setup = setup_of s c a (length p)

  abbrev pub right_setup : Setup
  right_setup = setup_of s d b (length q)

  pub first_stand : Stand left_setup right_setup refl al (begun (run_begun s c) p) (begun (run_begun s d) q)
  first_stand =
      let e : run_begun s c ≡ run_begun s d = same_run s c d h in
      record {
        under = begun (run_begun s c) p;
        under' = begun (run_begun s d) q;
        pair =
            record {
              trace = trace_of left_setup [];
              trace' = trace_of right_setup [];
              left = fresh_preserved s c a p;
              right = fresh_preserved s d b q;
              run = e;
              taken = refl;
              buffer = lp;
              shown = first_remembers s c _ p;
              shown' = first_remembers s d _ q;
            };
        like = record { run = refl; payload = refl; taken = refl };
        like' = record { run = refl; payload = refl; taken = refl };
        equal = record { run = e; taken = refl; observed = refl; written = refl; events = refl; buffer = lp };
      }

pub alike_indistinct : AlikeIndistinct
alike_indistinct s c d a b p q h al lp cs ds k =
    let x : Setup = setup_of s c a (length p) in
    let x' : Setup = setup_of s d b (length q) in
    stand_indistinct x x' refl al (mix_all a (begun (run_begun s c) p) cs) (mix_all b (begun (run_begun s d) q) ds)
    (calls_stand x x' refl al k (first_stand s c d a b p q h al lp))

pub hidden_indistinct : HiddenIndistinct
hidden_indistinct s c d a b p q h dh l cs ds k =
    alike_indistinct s c d a b p q h (hidden_is_alike (limit_of s.max_message_size) a b dh) l cs ds k

-- ---- `open`

writes_alike : (inputs : ℕ) (text out out' : List ℕ) → length out ≡ length out' → (writing inputs text out).0 ≡ (writing inputs text out').0
unfolding writing
writes_alike inputs text out out' l = rw (← l) (by (ltb input_limit inputs) (ltb (length out) (length text)))
  where
    by : (a b : Bool)
        → (pick {A = (ℕ × ℕ) × List ℕ} a ((25, 0), out) (pick b ((4, 0), out) ((0, length text), put out 0 text))).0
        ≡ (pick {A = (ℕ × ℕ) × List ℕ} a ((25, 0), out') (pick b ((4, 0), out') ((0, length text), put out' 0 text))).0
    by true b = refl
    by false true = refl
    by false false = refl

pub writes_over : (inputs : ℕ) (text out out' : List ℕ) → length out ≡ length out' → (j : ℕ) → get_or out j 0 ≡ get_or out' j 0
    → get_or (writing inputs text out).1 j 0 ≡ get_or (writing inputs text out').1 j 0
unfolding writing
writes_over inputs text out out' l j e = rw (← l) (by (ltb input_limit inputs) (ltb (length out) (length text)))
  where
    by : (a b : Bool)
        → get_or (pick {A = (ℕ × ℕ) × List ℕ} a ((25, 0), out) (pick b ((4, 0), out) ((0, length text), put out 0 text))).1 j 0
        ≡ get_or (pick {A = (ℕ × ℕ) × List ℕ} a ((25, 0), out') (pick b ((4, 0), out') ((0, length text), put out' 0 text))).1 j 0
    by true b = e
    by false true = e
    by false false = place_over out out' text j e

pub opens_alike : OpensAlike
unfolding open_of
opens_alike =
    record {
      opens = λ s slot publications position start out out' l.
          either_outcome (bad_interval s) _ _ _ _ refl
          (writes_alike (length slot + total publications) (query (start_replication s.binary slot publications position)) out out' l);
      output = λ s slot publications position start out out' l j e.
          either_output (bad_interval s) _ _ _ _ j e
          (writes_over (length slot + total publications) (query (start_replication s.binary slot publications position)) out out' l j e);
    }
  where
    either_outcome : (b : Bool) (x x' y y' : Opened) → x.outcome ≡ x'.outcome → y.outcome ≡ y'.outcome
        → (pick b x y).outcome ≡ (pick b x' y').outcome
    either_outcome true x x' y y' h k = h
    either_outcome false x x' y y' h k = k

    either_output : (b : Bool) (x x' y y' : Opened) (j : ℕ) → get_or x.out j 0 ≡ get_or x'.out j 0 → get_or y.out j 0 ≡ get_or y'.out j 0
        → get_or (pick b x y).out j 0 ≡ get_or (pick b x' y').out j 0
    either_output true x x' y y' j h k = h
    either_output false x x' y y' j h k = k
