-- Every call, by its mark, its list and its event.
use mathlib.Core.Path.{◌≡◌, refl, sym, ap, subst, ◌∙◌}
use mathlib.Core.Bool.{Bool, true, false}
use mathlib.Core.List.{List, [], ◌∷◌, ◌++◌, append-nil}
use Prim.Native.Nat.{ℕ, zero, suc, ◌≤◌, max, min}
use native.Mathlib.Omega.{arith}
use lib.ListN.{length}
use lib.Dec.{eqb, ltb}
use borrow.Author.Tests.{eq-eqb, ne_eqb, le-leb, lt-leb, eqb-true, eqb-false, ltb-false}
use Rattle.wire.specs.Bytes.{pick}
use Rattle.wire.proofs.Laws.{by_test, impossible}
use Rattle.touched.specs.Touched.{paired, entries_of, has_no_file, is_among}
use Rattle.touched.specs.Bits.{bits_of}
use Rattle.touched.specs.Walk.{since_begin, all_changed}
use Rattle.ledger.specs.declared.Ledger.{Ledger}
use Rattle.ledger.specs.Ledger.{Left, cap_of, entry, fitted_of, first_of, with_done, refused_with, entry_told, commit_touches, kind_told, with_transaction}
use Rattle.ledger.specs.Ledger.{done_refusal, raised_in, all_raised, room_of, settled_of}
use Rattle.ledger.specs.History.{Event, keepalive, begin, commit, message, other, stopped, Call, streams, tells, does, does_all, History}
use Rattle.ledger.specs.History.{start_in, open_in, seen_in, stable_in, largest_in, done_in, told_in, walked_in, touches_in, entries_in, entries_after, held_in}
use Rattle.ledger.specs.History.{from_held, entry_refusal, event_refusal, refusal_in}
use Rattle.ledger.specs.Stands.{kind_by, position_by, data_by, beside, call_on, left_by, answers_in, mark_after, read_by, ring_from, Stands, Called}
use Rattle.ledger.specs.Stands.{OneCall, AnyCalls, Asked}
use Rattle.ledger.proofs.CallLaws.{entry_below, entry_full, entry_kept, told_commit, told_begin, told_open, told_seen, told_message, told_other}
use Rattle.ledger.proofs.CallLaws.{tell_marked, tell_refused, tell_kind, done_refused, done_taken, all_refused, all_taken, asked_file}
use Rattle.ledger.proofs.SlotLaws.{by_order, zero_fits, ring_length}
use Rattle.ledger.proofs.UndoneLaws.{fitted_same, answer_said}
use Rattle.ledger.proofs.Standing.{touched_told, touched_refused, walk_nothing, told_plain, marked, told_entry, all_stand, kept_answer, kept_length}

called_by : {p mark : ℕ} {es : List (ℕ × ℕ)} {h : History} {c : Call} {ring : List ℕ} (r s : ℕ) (a b : Left) → s ≡ r → b ≡ a
    → Called p es mark h c ring r a → Called p es mark h c ring s b
called_by {p} {mark} {es} {h} {c} {ring} r s a b er ea g =
    subst (λ (x : Left). Called p es mark h c ring s x) (sym ea) (subst (λ (x : ℕ). Called p es mark h c ring x a) (sym er) g)

-- ---- the list and the files of a Commit

commit_same : (ids fs : List ℕ) (h : History) (q b : ℕ) → b ≡ walked_in (entries_of ids fs) h
    → commit_touches (min (length ids) (length fs)) b ≡ touches_in (entries_of ids fs) h
unfolding commit_touches paired
commit_same [] fs h q b e = rw (eq-eqb (min 0 (length fs)) 0 (omega arith))
commit_same (x ∷ ids) [] h q b e = rw (eq-eqb (min (length (x ∷ ids)) 0) 0 (omega arith))
commit_same (x ∷ ids) (y ∷ fs) h q b e = rw (ne_eqb (min (length (x ∷ ids)) (length (y ∷ fs))) 0 (λ z. omega arith)) e

-- ---- an event of a stream without a mark

module _ (p : ℕ) (ids fs : List ℕ) (h : History) (l : Ledger) (ring : List ℕ) (st : Stands p (entries_of ids fs) 0 h l ring) where
  abbrev es : List (ℕ × ℕ)
  es = entries_of ids fs

  abbrev cap : ℕ
  cap = cap_of (length ring)

  held_count : length (held_in p es h) ≡ l.count
  held_count = ap length (sym st.held) ∙ ring_length ring l.front l.count

  entry_called : (e : Event) (o : Bool) (q t : ℕ) → o ≡ open_in (tells e ∷ h) → seen_in (tells e ∷ h) ≡ max (seen_in h) q
      → largest_in (tells e ∷ h) ≡ max (largest_in h) q → entries_in p es (tells e ∷ h) ≡ entries_in p es h ++ (entry q (stable_in p h) t ∷ [])
      → Called p es 0 h (tells e) ring (entry_refusal p es cap q h) (entry_told o (walked_in es (tells e ∷ h)) q t l ring)
  unfolding entry_refusal
  entry_called e o q t eo et el ee =
      let b : ℕ = walked_in es (tells e ∷ h) in
      by_order l.seen q
      (λ s. by_order l.count cap
      (λ k. called_by 0 _ _ _ (rw (lt-leb q (seen_in h) (rw st.seen at s), held_count, lt-leb cap l.count k)) (entry_kept o b q t l ring s cap refl k)
      (record { answer = kept_answer o b q t l ring; memory = kept_length o b q t l ring; stands = told_entry st e o b q t s k eo refl et el ee }))
      (λ k. called_by 38 _ (38, refused_with 38 l, ring) _ (rw (lt-leb q (seen_in h) (rw st.seen at s), held_count, le-leb cap l.count k))
      (entry_full o b q t l ring s cap refl k) (record { answer = refl; memory = refl; stands = marked st 38 })))
      (λ s. called_by 36 _ (36, refused_with 36 l, ring) _ (rw (le-leb q (seen_in h) (rw st.seen at s))) (entry_below o b q t l ring s)
      (record { answer = refl; memory = refl; stands = marked st 36 }))

  seen_same : (e : Event) → seen_in (tells e ∷ h) ≡ seen_in h → l.seen ≡ seen_in (tells e ∷ h)
  seen_same e i = st.seen ∙ sym i

  -- an event within a transaction, and one that tells nothing
  open_called : (e : Event) (listed : ℕ) → open_in (tells e ∷ h) ≡ open_in h → seen_in (tells e ∷ h) ≡ seen_in h → largest_in (tells e ∷ h) ≡ largest_in h
      → entries_in p es (tells e ∷ h) ≡ entries_in p es h
      → kind_told listed (kind_by e) (position_by e) (walked_in es (tells e ∷ h)) l ring ≡ (0, with_transaction l.opened (walked_in es (tells e ∷ h)) l, ring)
      → Called p es 0 h (tells e) ring 0 (kind_told listed (kind_by e) (position_by e) (walked_in es (tells e ∷ h)) l ring)
  open_called e listed eo et el ee ek =
      called_by 0 _ _ _ refl ek
      (record {
        answer = refl;
        memory = refl;
        stands = told_plain st e l.opened (walked_in es (tells e ∷ h)) l.seen (st.opened ∙ sym eo) refl (seen_same e et) el ee;
      })

  no_entry : (e : Event) → entries_after p es e h ≡ [] → entries_in p es (tells e ∷ h) ≡ entries_in p es h
  unfolding entries_in
  no_entry e i = rw i (append-nil (entries_in p es h))

  commit_walk : (q : ℕ) → has_no_file es ≡ false → walked_in es (tells (commit q) ∷ h) ≡ walked_in es h
  unfolding walked_in told_in
  commit_walk q n = ap bits_of (walk_nothing es (told_in h) n)

  commit_entries : (q t : ℕ) → t ≡ touches_in es h → entries_in p es (tells (commit q) ∷ h) ≡ entries_in p es h ++ (entry q (stable_in p h) t ∷ [])
  unfolding entries_in entries_after
  commit_entries q t f = ap (λ (x : ℕ). entries_in p es h ++ (entry q (stable_in p h) x ∷ [])) (sym f)

  message_entries : (q : ℕ) → open_in h ≡ false → entries_in p es (tells (message q) ∷ h) ≡ entries_in p es h ++ (entry q (stable_in p h) 15 ∷ [])
  unfolding entries_in entries_after
  message_entries q t = rw t

  other_called : (e : Event) → open_in (tells e ∷ h) ≡ open_in h → seen_in (tells e ∷ h) ≡ seen_in h → largest_in (tells e ∷ h) ≡ largest_in h
      → entries_in p es (tells e ∷ h) ≡ entries_in p es h → (kind_by e ≡ 3 → ⊥) → (kind_by e ≡ 2 → ⊥) → (kind_by e ≡ 1 → ⊥) → (kind_by e ≡ 4 → ⊥)
      → Called p es 0 h (tells e) ring 0
      (kind_told (min (length ids) (length fs)) (kind_by e) (position_by e) (walked_in es (tells e ∷ h)) l ring)
  other_called e eo et el ee a b c d =
      let m : ℕ = min (length ids) (length fs) in
      by_test (open_in h)
      (λ t. open_called e m eo et el ee (told_open m (kind_by e) (position_by e) _ l ring a b (st.opened ∙ t)))
      (λ t. open_called e m eo et el ee (told_other m (kind_by e) (position_by e) _ l ring a b (st.opened ∙ t) c d))

  event_called : (e : Event) → has_no_file es ≡ false
      → Called p es 0 h (tells e) ring (event_refusal p es cap e h)
      (kind_told (min (length ids) (length fs)) (kind_by e) (position_by e) (walked_in es (tells e ∷ h)) l ring)
  unfolding open_in seen_in largest_in entries_after
  event_called (keepalive q) n =
      let b : ℕ = walked_in es (tells (keepalive q) ∷ h) in
      let m : ℕ = min (length ids) (length fs) in
      by_test (open_in h)
      (λ t. open_called (keepalive q) m refl (rw t) refl (no_entry (keepalive q) refl)
      (told_open m 1 q b l ring (λ z. omega arith) (λ z. omega arith) (st.opened ∙ t)))
      (λ t. called_by 0 _ _ _ refl (told_seen m 1 q b l ring (λ z. omega arith) (λ z. omega arith) (st.opened ∙ t) refl)
      (record {
        answer = refl;
        memory = refl;
        stands = told_plain st (keepalive q) l.opened b (max l.seen q) st.opened refl (rw (t, st.seen)) refl (no_entry (keepalive q) refl);
      }))
  event_called begin n =
      let b : ℕ = walked_in es (tells begin ∷ h) in
      let m : ℕ = min (length ids) (length fs) in
      called_by 0 _ _ _ refl (told_begin m 2 0 b l ring (λ z. omega arith) refl)
      (record {
        answer = refl;
        memory = refl;
        stands = told_plain st begin true b l.seen refl refl st.seen refl (no_entry begin refl);
      })
  event_called (commit q) n =
      let b : ℕ = walked_in es (tells (commit q) ∷ h) in
      let m : ℕ = min (length ids) (length fs) in
      let t : ℕ = commit_touches m b in
      let f : t ≡ touches_in es h = commit_same ids fs h q b (commit_walk q n) in
      called_by _ _ _ _ refl (told_commit m 3 q b l ring refl)
      (entry_called (commit q) false q t refl refl refl (commit_entries q t f))
  event_called (message q) n =
      let b : ℕ = walked_in es (tells (message q) ∷ h) in
      let m : ℕ = min (length ids) (length fs) in
      by_test (open_in h)
      (λ t. called_by 0 _ _ _ (rw t) refl (open_called (message q) m refl (rw t) (rw t) (no_entry (message q) (rw t))
      (told_open m 4 q b l ring (λ z. omega arith) (λ z. omega arith) (st.opened ∙ t))))
      (λ t. called_by (entry_refusal p es cap q h) _ _ _ (rw t)
      (told_message m 4 q b l ring (λ z. omega arith) (λ z. omega arith) (st.opened ∙ t) (λ z. omega arith) refl)
      (entry_called (message q) false q 15 (sym t) (rw t) (rw t) (message_entries q t)))
  event_called (other s) n = other_called (other s) refl refl refl (no_entry (other s) refl) (λ z. omega arith) (λ z. omega arith) (λ z. omega arith) (λ z. omega arith)
  event_called stopped n = other_called stopped refl refl refl (no_entry stopped refl) (λ z. omega arith) (λ z. omega arith) (λ z. omega arith) (λ z. omega arith)

  fit : l ≡ fitted_of cap l
  fit = sym (fitted_same cap l st.fits st.within)

  tell_called : (e : Event) → Called p es 0 h (tells e) ring (answers_in p es cap 0 (tells e) h) (call_on ids fs (tells e) l ring)
  unfolding call_on refusal_in
  tell_called e =
      by_test (has_no_file es)
      (λ n. called_by 31 _ (31, refused_with 31 l, ring) _ (rw n)
      (tell_refused ids fs (kind_by e) (position_by e) (data_by e) l ring cap l refl fit st.refusal 31 l.touched
      (touched_refused ids fs (kind_by e) l.touched (data_by e) n) (λ z. omega arith))
      (record { answer = refl; memory = refl; stands = marked st 31 }))
      (λ n. called_by (event_refusal p es cap e h) _ _ _ (rw n)
      (tell_kind ids fs (kind_by e) (position_by e) (data_by e) l ring cap l refl fit st.refusal 0 (walked_in es (tells e ∷ h))
      (min (length ids) (length fs)) (touched_told ids fs h e l.touched n st.touched) refl refl)
      (event_called e n))

-- ---- what is done

raised_is : (p f q : ℕ) (h : History) (l : Ledger) → f ≤ 3 → l.zero ≡ done_in p 0 h → l.one ≡ done_in p 1 h → l.two ≡ done_in p 2 h
    → l.three ≡ done_in p 3 h
    → raised_in f q l
    ≡ with_done (done_in p 0 (does f q ∷ h)) (done_in p 1 (does f q ∷ h)) (done_in p 2 (does f q ∷ h)) (done_in p 3 (does f q ∷ h)) l
unfolding raised_in done_in
raised_is p zero q h l k a b c d = rw (a, b, c, d)
raised_is p (suc zero) q h l k a b c d = rw (a, b, c, d)
raised_is p (suc (suc zero)) q h l k a b c d = rw (a, b, c, d)
raised_is p (suc (suc (suc zero))) q h l k a b c d = rw (a, b, c, d)
raised_is p (suc (suc (suc (suc f)))) q h l k a b c d = absurd (omega arith)

all_is : (p q : ℕ) (h : History) (l : Ledger) → l.zero ≡ done_in p 0 h → l.one ≡ done_in p 1 h → l.two ≡ done_in p 2 h → l.three ≡ done_in p 3 h
    → all_raised q l ≡ with_done (done_in p 0 (does_all q ∷ h)) (done_in p 1 (does_all q ∷ h)) (done_in p 2 (does_all q ∷ h)) (done_in p 3 (does_all q ∷ h)) l
unfolding done_in
all_is p q h l a b c d = rw (a, b, c, d)

pub done_grows : (p f g q : ℕ) (h : History) → done_in p g h ≤ done_in p g (does f q ∷ h)
unfolding done_in
done_grows p f g q h = by_test (eqb f g) (λ t. rw t (omega arith)) (λ t. rw t (omega arith))

pub all_grows : (p g q : ℕ) (h : History) → done_in p g h ≤ done_in p g (does_all q ∷ h)
unfolding done_in
all_grows p g q h = omega arith

file_taken : (mark f x : ℕ) → pick (eqb mark 0) (pick (ltb 3 f) 31 x) mark ≡ 0 → f ≤ 3
file_taken mark f x e =
    by_test (ltb 3 f)
    (λ t. by_test (eqb mark 0) (λ k. impossible (let i : ◌≡◌ {A = ℕ} 31 0 = rw (k, t) at e in omega arith))
    (λ k. absurd (eqb-false mark 0 k (rw k at e))))
    (λ t. ltb-false 3 f t)

module _ (p mark : ℕ) (ids fs : List ℕ) (h : History) (l : Ledger) (ring : List ℕ) (st : Stands p (entries_of ids fs) mark h l ring) where
  own : l ≡ fitted_of (cap_of (length ring)) l
  own = sym (fitted_same (cap_of (length ring)) l st.fits st.within)

  refusal_same : (f q : ℕ) → done_refusal f q l ≡ pick (eqb mark 0) (pick (ltb 3 f) 31 (pick (ltb (largest_in h) q) 37 0)) mark
  unfolding done_refusal
  refusal_same f q = rw (st.refusal, st.largest)

  -- a call that is refused for what is done leaves all as it was
  kept_as_it_was : (c : Call) (r : ℕ) → eqb r 0 ≡ false → mark_after mark c r ≡ mark → Called p (entries_of ids fs) mark h c ring r (r, l, ring)
  kept_as_it_was c r n m = record { answer = refl; memory = refl; stands = rw (m, n) st }

  does_left : (f q : ℕ) → f ≤ 3 → Stands p (entries_of ids fs) mark (does f q ∷ h) (settled_of ring (raised_in f q l)) ring
  unfolding start_in open_in seen_in largest_in walked_in told_in entries_in
  does_left f q k =
      subst (λ (x : Ledger). Stands p (entries_of ids fs) mark (does f q ∷ h) (settled_of ring x) ring)
      (sym (raised_is p f q h l k st.zero st.one st.two st.three))
      (all_stand st (does f q) refl refl refl refl refl refl (done_grows p f 0 q h) (done_grows p f 1 q h) (done_grows p f 2 q h)
      (done_grows p f 3 q h))

  all_left : (q : ℕ) → Stands p (entries_of ids fs) mark (does_all q ∷ h) (settled_of ring (all_raised q l)) ring
  unfolding start_in open_in seen_in largest_in walked_in told_in entries_in
  all_left q =
      subst (λ (x : Ledger). Stands p (entries_of ids fs) mark (does_all q ∷ h) (settled_of ring x) ring)
      (sym (all_is p q h l st.zero st.one st.two st.three))
      (all_stand st (does_all q) refl refl refl refl refl refl (all_grows p 0 q h) (all_grows p 1 q h) (all_grows p 2 q h) (all_grows p 3 q h))

  does_called : (f q : ℕ) → Called p (entries_of ids fs) mark h (does f q) ring
      (answers_in p (entries_of ids fs) (cap_of (length ring)) mark (does f q) h) (call_on ids fs (does f q) l ring)
  unfolding call_on refusal_in
  does_called f q =
      let r : ℕ = done_refusal f q l in
      by_test (eqb r 0)
      (λ t. called_by 0 _ (0, settled_of ring (raised_in f q l), ring) _ (sym (refusal_same f q) ∙ eqb-true r 0 t)
      (ap (beside ring) (done_taken f q l ring (cap_of (length ring)) l refl own r refl (eqb-true r 0 t) (raised_in f q l) _ refl refl))
      (record { answer = refl; memory = refl; stands = does_left f q (file_taken mark f (pick (ltb (largest_in h) q) 37 0) (sym (refusal_same f q) ∙ eqb-true r 0 t)) }))
      (λ t. called_by r _ (r, l, ring) _ (sym (refusal_same f q))
      (ap (beside ring) (done_refused f q l ring (cap_of (length ring)) l refl own r refl (eqb-false r 0 t)))
      (kept_as_it_was (does f q) r t refl))

  all_called : (q : ℕ) → Called p (entries_of ids fs) mark h (does_all q) ring
      (answers_in p (entries_of ids fs) (cap_of (length ring)) mark (does_all q) h) (call_on ids fs (does_all q) l ring)
  unfolding call_on refusal_in
  all_called q =
      let r : ℕ = done_refusal 0 q l in
      by_test (eqb r 0)
      (λ t. called_by 0 _ (0, settled_of ring (all_raised q l), ring) _ (sym (refusal_same 0 q) ∙ eqb-true r 0 t)
      (ap (beside ring) (all_taken 0 q l ring (cap_of (length ring)) l refl own r refl (eqb-true r 0 t) (all_raised q l) _ refl refl))
      (record { answer = refl; memory = refl; stands = all_left q }))
      (λ t. called_by r _ (r, l, ring) _ (sym (refusal_same 0 q))
      (ap (beside ring) (all_refused 0 q l ring (cap_of (length ring)) l refl own r refl (eqb-false r 0 t)))
      (kept_as_it_was (does_all q) r t refl))

  -- a further stream
  stream_called : (q : ℕ) → Called p (entries_of ids fs) mark h (streams q) ring 0 (call_on ids fs (streams q) l ring)
  unfolding call_on start_in open_in seen_in largest_in done_in walked_in told_in entries_in held_in from_held ring_from bits_of since_begin all_changed is_among
  stream_called q =
      record {
        answer = refl;
        memory = refl;
        stands =
            record {
              start = refl;
              seen = refl;
              zero = st.zero;
              one = st.one;
              two = st.two;
              three = st.three;
              largest = st.largest;
              opened = refl;
              touched = refl;
              refusal = refl;
              fits = zero_fits (cap_of (length ring));
              within = omega arith;
              held = refl;
            };
      }

  -- an event of a stream with a mark
  marked_called : (e : Event) → (mark ≡ 0 → ⊥) → Called p (entries_of ids fs) mark h (tells e) ring
      (answers_in p (entries_of ids fs) (cap_of (length ring)) mark (tells e) h) (call_on ids fs (tells e) l ring)
  unfolding call_on
  marked_called e n =
      called_by mark _ (mark, l, ring) _ (rw (ne_eqb mark 0 n))
      (tell_marked ids fs (kind_by e) (position_by e) (data_by e) l ring (cap_of (length ring)) l refl own (λ z. n (sym st.refusal ∙ z))
      ∙ ap (λ (m : ℕ). (m, l, ring)) st.refusal)
      (kept_as_it_was (tells e) mark (ne_eqb mark 0 n) refl)

pub one_call : OneCall
one_call p mark ids fs h (streams q) l ring st = stream_called p mark ids fs h l ring st q
one_call p zero ids fs h (tells e) l ring st = tell_called p ids fs h l ring st e
one_call p (suc m) ids fs h (tells e) l ring st = marked_called p (suc m) ids fs h l ring st e (λ z. omega arith)
one_call p mark ids fs h (does f q) l ring st = does_called p mark ids fs h l ring st f q
one_call p mark ids fs h (does_all q) l ring st = all_called p mark ids fs h l ring st q

-- ---- any list

first_stands : (p : ℕ) (es : List (ℕ × ℕ)) (ring : List ℕ) → Stands p es 0 [] (first_of p) ring
unfolding start_in open_in seen_in largest_in done_in walked_in told_in entries_in held_in from_held ring_from bits_of since_begin all_changed is_among
first_stands p es ring =
    record {
      start = refl;
      seen = refl;
      zero = refl;
      one = refl;
      two = refl;
      three = refl;
      largest = refl;
      opened = refl;
      touched = refl;
      refusal = refl;
      fits = zero_fits (cap_of (length ring));
      within = omega arith;
      held = refl;
    }

module _ (p : ℕ) (ids fs : List ℕ) (n : ℕ) where
  calls_stand : (cs : List Call) (mark : ℕ) (h : History) (l : Ledger) (ring : List ℕ) → length ring ≡ n → Stands p (entries_of ids fs) mark h l ring
      → Stands p (entries_of ids fs) (read_by p (entries_of ids fs) (cap_of n) cs (mark, h)).0 (read_by p (entries_of ids fs) (cap_of n) cs (mark, h)).1
      (left_by ids fs cs (l, ring)).0 (left_by ids fs cs (l, ring)).1
      × (length (left_by ids fs cs (l, ring)).1 ≡ n)
  unfolding read_by left_by
  calls_stand [] mark h l ring e st = (st, e)
  calls_stand (c ∷ cs) mark h l ring e st =
      let g : Called p (entries_of ids fs) mark h c ring (answers_in p (entries_of ids fs) (cap_of n) mark c h) (call_on ids fs c l ring) =
      subst (λ (x : ℕ). Called p (entries_of ids fs) mark h c ring (answers_in p (entries_of ids fs) (cap_of x) mark c h) (call_on ids fs c l ring)) e
      (one_call p mark ids fs h c l ring st) in
      calls_stand cs _ _ (call_on ids fs c l ring).1 (call_on ids fs c l ring).2 (g.memory ∙ e) g.stands

pub any_calls : AnyCalls
any_calls p ids fs ring cs = calls_stand p ids fs (length ring) cs 0 [] (first_of p) ring refl (first_stands p (entries_of ids fs) ring)

-- ---- what is asked

pub asked : Asked
unfolding room_of
asked =
    record {
      answer = λ p mark es h l ring f st k. answer_said st f k;
      no_file_lem = λ f l ring k. asked_file f 0 l ring (cap_of (length ring)) (fitted_of (cap_of (length ring)) l) refl refl k;
      room = λ p mark es h l ring st.
          let c : length (held_in p es h) ≡ l.count = ap length (sym st.held) ∙ ring_length ring l.front l.count in
          let w = st.within in
          rw c (omega arith);
    }
