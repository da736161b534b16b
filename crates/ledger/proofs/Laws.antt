-- The laws of the reading.
use mathlib.Core.Path.{◌≡◌, refl, sym, ap, ◌∙◌}
use mathlib.Core.Bool.{Bool, true, false}
use mathlib.Core.List.{List, [], ◌∷◌, ◌++◌, append-nil}
use mathlib.Core.Logic.{inl, inr}
use Prim.Native.Nat.{ℕ, ◌≤◌, ◌<◌, max}
use native.Mathlib.Omega.{arith}
use lib.ListN.{length}
use lib.Dec.{eqb, leb}
use borrow.Author.Tests.{le-leb, lt-leb, lt-ltb, le-ltb, eqb-true, eqb-false, leb-true, leb-false}
use Rattle.wire.specs.Bytes.{pick}
use Rattle.wire.proofs.Laws.{by_test, impossible}
use Rattle.touched.specs.Touched.{has_no_file}
use Rattle.ledger.specs.declared.Entry.{Entry}
use Rattle.ledger.specs.Ledger.{entry, bit_for, undone_for}
use Rattle.ledger.specs.History.{keepalive, begin, commit, message, other, stopped, Call, streams, tells, does, does_all, History}
use Rattle.ledger.specs.History.{start_in, open_in, seen_in, stable_in, largest_in, done_in, touches_in, entries_in, entries_after, held_in, held_now, undone_now}
use Rattle.ledger.specs.History.{first_undone, answer_in, entry_refusal, refusal_in}
use Rattle.ledger.specs.Stands.{answers_in, history_after, read_by}
use Rattle.ledger.specs.Laws.{Accepted, Covered, EntryIn, Within, AnswerLaws, KeepaliveLaws, RefusalLaws}
use Rattle.ledger.proofs.ListLaws.{first_held}
use Rattle.ledger.proofs.SlotLaws.{by_order}
use Rattle.ledger.proofs.UndoneLaws.{undone_less, none_undone}
use Rattle.ledger.proofs.OneCall.{done_grows, all_grows}
use Rattle.ledger.proofs.Rising.{Rising, rising, low, high, no_later, longer, higher, fewer, stable_grows, stable_done, stable_all, by_entry}

-- ---- accepted histories

mark_taken : (mark x : ℕ) → pick (eqb mark 0) x mark ≡ 0 → x ≡ 0
mark_taken mark x e = by_test (eqb mark 0) (λ t. rw t at e) (λ t. absurd (eqb-false mark 0 t (rw t at e)))

answers_taken : (p cap mark : ℕ) (es : List (ℕ × ℕ)) (c : Call) (h : History) → answers_in p es cap mark c h ≡ 0 → refusal_in p es cap c h ≡ 0
unfolding refusal_in
answers_taken p cap mark es (streams q) h e = refl
answers_taken p cap mark es (tells x) h e = mark_taken mark _ e
answers_taken p cap mark es (does f q) h e = mark_taken mark _ e
answers_taken p cap mark es (does_all q) h e = mark_taken mark _ e

pub accepted_after : (p cap mark : ℕ) (es : List (ℕ × ℕ)) (c : Call) (h : History) → Accepted p es cap h
    → Accepted p es cap (history_after (answers_in p es cap mark c h) c h)
accepted_after p cap mark es c h a =
    by_test (eqb (answers_in p es cap mark c h) 0) (λ t. rw t (answers_taken p cap mark es c h (eqb-true _ _ t), a)) (λ t. rw t a)

accepted_calls : (p cap : ℕ) (es : List (ℕ × ℕ)) (cs : List Call) (mark : ℕ) (h : History) → Accepted p es cap h
    → Accepted p es cap (read_by p es cap cs (mark, h)).1
unfolding read_by
accepted_calls p cap es [] mark h a = a
accepted_calls p cap es (c ∷ cs) mark h a = accepted_calls p cap es cs _ _ (accepted_after p cap mark es c h a)

-- ---- an entry's end is above S before it, where it is above the start

abbrev Sound : ℕ → List Entry → Type 0
Sound start [] = Unit
Sound start (e ∷ es) = (start < e.end → e.before < e.end) × Sound start es

sound_append : (start : ℕ) (xs : List Entry) (x : Entry) → Sound start xs → (start < x.end → x.before < x.end) → Sound start (xs ++ (x ∷ []))
sound_append start [] x s k = (k, tt)
sound_append start (y ∷ xs) x s k = (s.0, sound_append start xs x s.1 k)

sound_at : (start : ℕ) (xs ys : List Entry) (e : Entry) → Sound start (xs ++ (e ∷ ys)) → start < e.end → e.before < e.end
sound_at start [] ys e s k = s.0 k
sound_at start (x ∷ xs) ys e s k = sound_at start xs ys e s.1 k

above_seen : (p q cap : ℕ) (es : List (ℕ × ℕ)) (h : History) → pick (has_no_file es) 31 (entry_refusal p es cap q h) ≡ 0 → seen_in h < q
unfolding entry_refusal
above_seen p q cap es h e =
    by_test (has_no_file es) (λ t. impossible (let i : ◌≡◌ {A = ℕ} 31 0 = rw t at e in omega arith))
    (λ t. by_test (leb q (seen_in h)) (λ k. impossible (let i : ◌≡◌ {A = ℕ} 36 0 = rw (t, k) at e in omega arith)) (λ k. leb-false q (seen_in h) k))

sound : (p cap : ℕ) (es : List (ℕ × ℕ)) (h : History) → Accepted p es cap h → Sound (start_in p h) (entries_in p es h)
unfolding entries_in start_in entries_after stable_in refusal_in
sound p cap es [] a = tt
sound p cap es (streams q ∷ h) a = tt
sound p cap es (tells (keepalive q) ∷ h) a = rw (append-nil (entries_in p es h)) (sound p cap es h a.1)
sound p cap es (tells begin ∷ h) a = rw (append-nil (entries_in p es h)) (sound p cap es h a.1)
sound p cap es (tells (commit q) ∷ h) a =
    let i : seen_in h < q = above_seen p q cap es h a.0 in
    sound_append (start_in p h) (entries_in p es h) (entry q (max (start_in p h) (seen_in h)) (touches_in es h)) (sound p cap es h a.1) (λ k. omega arith)
sound p cap es (tells (message q) ∷ h) a =
    by_test (open_in h) (λ t. rw (t, append-nil (entries_in p es h)) (sound p cap es h a.1))
    (λ t. let i : seen_in h < q = above_seen p q cap es h (rw t at a.0) in
    rw t (sound_append (start_in p h) (entries_in p es h) (entry q (max (start_in p h) (seen_in h)) 15) (sound p cap es h a.1) (λ k. omega arith)))
sound p cap es (tells (other s) ∷ h) a = rw (append-nil (entries_in p es h)) (sound p cap es h a.1)
sound p cap es (tells stopped ∷ h) a = rw (append-nil (entries_in p es h)) (sound p cap es h a.1)
sound p cap es (does f q ∷ h) a = sound p cap es h a.1
sound p cap es (does_all q ∷ h) a = sound p cap es h a.1

-- ---- what is undone holds the answer

undone_above : (s d f : ℕ) (e : Entry) → undone_for s d f e ≡ true → s < e.end
unfolding undone_for
undone_above s d f e u =
    by_test (leb e.end s) (λ t. impossible (let i : false ≡ true = rw t at u in cc)) (λ t. leb-false e.end s t)

undone_below : (p cap f : ℕ) (es : List (ℕ × ℕ)) (h : History) (e : Entry) → Accepted p es cap h → EntryIn p es h e → undone_now p f h e ≡ true
    → answer_in p es f h < e.end
unfolding answer_in
undone_below p cap f es h e a i u =
    let r : Rising (start_in p h) (i.earlier ++ (e ∷ i.later)) (stable_in p h) = rw (← i.there) (rising p es h) in
    let s : Sound (start_in p h) (i.earlier ++ (e ∷ i.later)) = rw (← i.there) (sound p cap es h a) in
    let b : e.before < e.end = sound_at (start_in p h) i.earlier i.later e s (undone_above (start_in p h) (done_in p f h) f e u) in
    let n = no_later (λ x. undone_now p f h x) (start_in p h) (stable_in p h) i.earlier i.later e r u in
    rw i.there (omega (arith, n, b))

covered : (p f x : ℕ) (h : History) → p < x → x ≤ done_in p f h → Covered f x h
unfolding done_in
covered p f x [] k d = absurd (omega arith)
covered p f x (streams q ∷ h) k d = covered p f x h k d
covered p f x (tells e ∷ h) k d = covered p f x h k d
covered p f x (does g q ∷ h) k d =
    by_test (eqb g f)
    (λ t. let m : x ≤ max (done_in p f h) q = rw t at d in
    by_order q x (λ o. inr (covered p f x h k (omega arith))) (λ o. inl (eqb-true g f t, o)))
    (λ t. inr (covered p f x h k (rw t at d)))
covered p f x (does_all q ∷ h) k d = by_order q x (λ o. inr (covered p f x h k (omega arith))) (λ o. inl o)

done_for : (s d f : ℕ) (e : Entry) → undone_for s d f e ≡ false → s < e.end → bit_for f e.touched ≡ true → e.end ≤ d
unfolding undone_for
done_for s d f e u k b =
    by_test (leb e.end d) (λ t. leb-true e.end d t)
    (λ t. impossible (let i : false ≡ true = sym (rw (lt-leb e.end s k, t) at u) ∙ b in cc))

done_before : (p cap f : ℕ) (es : List (ℕ × ℕ)) (h : History) (e : Entry) → Accepted p es cap h → EntryIn p es h e → bit_for f e.touched ≡ true
    → start_in p h < e.end → p < e.end → e.end ≤ answer_in p es f h → Covered f e.end h
done_before p cap f es h e a i b s k l =
    by_test (undone_now p f h e) (λ u. absurd (let n = undone_below p cap f es h e a i u in omega arith))
    (λ u. covered p f e.end h k (done_for (start_in p h) (done_in p f h) f e u s b))

-- ---- answers rise

at_most : (p f : ℕ) (es : List (ℕ × ℕ)) (h : History) → answer_in p es f h ≤ stable_in p h
unfolding answer_in
at_most p f es h = high (λ e. undone_now p f h e) (start_in p h) (stable_in p h) (entries_in p es h) (rising p es h)

at_least : (p f : ℕ) (es : List (ℕ × ℕ)) (h : History) → start_in p h ≤ answer_in p es f h
unfolding answer_in
at_least p f es h = low (λ e. undone_now p f h e) (start_in p h) (stable_in p h) (entries_in p es h) (rising p es h)

all_done : (p f : ℕ) (es : List (ℕ × ℕ)) (h : History) → f ≤ 3 → held_in p es h ≡ [] → answer_in p es f h ≡ stable_in p h
unfolding answer_in held_in first_undone
all_done p f es h k e =
    sym (first_held (λ x. held_now p h x) (λ x. undone_now p f h x) (none_undone p f h k) (stable_in p h) (entries_in p es h))
    ∙ ap (λ (xs : List Entry). first_undone (λ x. undone_now p f h x) (stable_in p h) xs) e

never_falls : (p f : ℕ) (es : List (ℕ × ℕ)) (c : Call) (h : History) → Within c → answer_in p es f h ≤ answer_in p es f (c ∷ h)
unfolding answer_in entries_in start_in done_in
never_falls p f es (streams q) h w = absurd w
never_falls p f es (tells e) h w =
    let s : ℕ = stable_in p h in
    let t : ℕ = stable_in p (tells e ∷ h) in
    let u : Entry → Bool = λ x. undone_now p f h x in
    by_entry (λ xs. first_undone u s (entries_in p es h) ≤ first_undone u t (entries_in p es h ++ xs)) p es e h
    (rw (append-nil (entries_in p es h)) (higher u s t (entries_in p es h) (stable_grows p e h)))
    (λ q k. longer u s t (entries_in p es h) (entry q s k) refl (stable_grows p e h))
never_falls p f es (does g q) h w =
    rw (stable_done p g q h)
    (fewer (λ x. undone_now p f h x) (λ x. undone_now p f (does g q ∷ h) x)
    (λ x n. undone_less (start_in p h) (done_in p f h) (done_in p f (does g q ∷ h)) f x (done_grows p g f q h) n) (start_in p h) (stable_in p h) (entries_in p es h)
    (rising p es h))
never_falls p f es (does_all q) h w =
    rw (stable_all p q h)
    (fewer (λ x. undone_now p f h x) (λ x. undone_now p f (does_all q ∷ h) x)
    (λ x n. undone_less (start_in p h) (done_in p f h) (done_in p f (does_all q ∷ h)) f x (all_grows p f q h) n) (start_in p h) (stable_in p h) (entries_in p es h)
    (rising p es h))

pub answer_laws : AnswerLaws
answer_laws =
    record {
      accepted = λ p cap es cs. accepted_calls p cap es cs 0 [] tt;
      done_before = done_before;
      undone_holds = undone_below;
      at_most_stable = at_most;
      at_least_start = at_least;
      all_done = all_done;
      never_falls = never_falls;
    }

-- ---- keepalives and refusals

keepalive_within : (p f q : ℕ) (es : List (ℕ × ℕ)) (h : History) → open_in h ≡ true
    → (stable_in p (tells (keepalive q) ∷ h) ≡ stable_in p h) × (answer_in p es f (tells (keepalive q) ∷ h) ≡ answer_in p es f h)
unfolding answer_in entries_in entries_after stable_in start_in seen_in done_in
keepalive_within p f q es h t = (rw t, rw (t, append-nil (entries_in p es h)))

keepalive_back : (p q : ℕ) (h : History) → q ≤ seen_in h → stable_in p (tells (keepalive q) ∷ h) ≡ stable_in p h
unfolding stable_in start_in seen_in
keepalive_back p q h k = by_test (open_in h) (λ t. rw t) (λ t. rw t (omega arith))

keepalive_taken : (p q cap : ℕ) (es : List (ℕ × ℕ)) (h : History) → has_no_file es ≡ false → refusal_in p es cap (tells (keepalive q)) h ≡ 0
unfolding refusal_in
keepalive_taken p q cap es h n = rw n

pub keepalive_laws : KeepaliveLaws
keepalive_laws = record { within = keepalive_within; back = keepalive_back; taken = keepalive_taken }

pub refusal_laws : RefusalLaws
unfolding refusal_in entry_refusal
refusal_laws =
    record {
      end_not_above = λ p q cap es h n k. rw (n, le-leb q (seen_in h) k);
      no_room = λ p q cap es h n k r. rw (n, lt-leb q (seen_in h) k, le-leb cap (length (held_in p es h)) r);
      commit_taken = λ p q cap es h n k r. rw (n, lt-leb q (seen_in h) k, lt-leb cap (length (held_in p es h)) r);
      message_as_commit = λ p q cap es h t. rw t;
      message_within = λ p q cap es h n t. rw (n, t);
      bad_list = λ p cap es e h n. rw n;
      no_such_file = λ p f q cap es h k. rw (lt-ltb 3 f k);
      above_handed_on = λ p f q cap es h k r. rw (le-ltb 3 f k, lt-ltb (largest_in h) q r);
      done_taken = λ p f q cap es h k r. rw (le-ltb 3 f k, le-ltb (largest_in h) q r);
    }
