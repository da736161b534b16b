-- Each way through a call, of its definition.
use mathlib.Core.Path.{◌≡◌, sym, ap, ◌∙◌}
use mathlib.Core.Bool.{Bool, true, false}
use mathlib.Core.List.{List}
use Prim.Native.Nat.{ℕ, ◌<◌, ◌≤◌, min}
use lib.ListN.{length}
use borrow.Author.Tests.{eq-eqb, ne_eqb, le-leb, lt-leb, lt-ltb, le-ltb}
use Rattle.touched.specs.Words.{touched_call}
use Rattle.ledger.specs.declared.Ledger.{Ledger}
use Rattle.ledger.specs.declared.Answer.{Answer}
use Rattle.ledger.specs.Ledger.{Left, cap_of, slot_of, entry, entry_in, stable_of, fitted_of, settled_of, answer_by, answered, refused_answer, refused_with}
use Rattle.ledger.specs.Ledger.{with_transaction, with_seen, with_entry, kept_of, entry_told, commit_touches, kind_told, list_told, tell_of, raised_in, all_raised}
use Rattle.ledger.specs.Ledger.{done_refusal, done_of, all_done_of, answer_from, answer_of}

-- ---- what an answer says, beside a ring

pub refused_left : (a : Answer) (n m : ℕ) (l : Ledger) (ring : List ℕ) → n ≡ m → answer_by a ≡ refused_answer n l
    → ◌≡◌ {A = Left} (a.refusal, a.ledger, ring) (m, refused_with m l, ring)
refused_left a n m l ring e h = ap (λ (x : ℕ × Ledger). (x.0, x.1, ring)) (h ∙ ap (λ (k : ℕ). refused_answer k l) e)

pub answered_left : (a : Answer) (n : ℕ) (l m : Ledger) (ring : List ℕ) → l ≡ m → answer_by a ≡ answered n l
    → ◌≡◌ {A = Left} (a.refusal, a.ledger, ring) (n, m, ring)
answered_left a n l m ring e h = ap (λ (x : ℕ × Ledger). (x.0, x.1, ring)) (h ∙ ap (λ (k : Ledger). answered n k) e)

-- ---- an entry

module _ (o : Bool) (b p t : ℕ) (l : Ledger) (ring : List ℕ) where
  pub entry_below : p ≤ l.seen → entry_told o b p t l ring ≡ (36, refused_with 36 l, ring)
  unfolding entry_told
  entry_below h = simp (le-leb _ _ h)

  pub entry_full : l.seen < p → (n : ℕ) → n ≡ cap_of (length ring) → n ≤ l.count → entry_told o b p t l ring ≡ (38, refused_with 38 l, ring)
  unfolding entry_told
  entry_full h n e k = rw (← e) (simp (lt-leb _ _ h, le-leb _ _ k))

  pub entry_kept : l.seen < p → (n : ℕ) → n ≡ cap_of (length ring) → l.count < n → entry_told o b p t l ring ≡ kept_of o b p t l ring
  unfolding entry_told
  entry_kept h n e k = rw (← e) (simp (lt-leb _ _ h, lt-leb _ _ k))

  pub kept_is : (n slot before : ℕ) (written : List ℕ) (more settled : Ledger) → n ≡ cap_of (length ring) → slot ≡ slot_of n l.front l.count
      → before ≡ stable_of l → written ≡ entry_in ring slot (entry p before t) → more ≡ with_entry o b p l → settled ≡ settled_of written more
      → ◌≡◌ {A = Left} (0, settled, written) (kept_of o b p t l ring)
  unfolding kept_of
  kept_is n slot before written more settled en es eb ew em et = rw (et, em, ew, eb, es, en)

-- ---- an event by its kind

module _ (listed kind p bits : ℕ) (l : Ledger) (ring : List ℕ) where
  pub told_commit : kind ≡ 3 → kind_told listed kind p bits l ring ≡ entry_told false bits p (commit_touches listed bits) l ring
  unfolding kind_told
  told_commit h = simp (eq-eqb _ _ h)

  pub told_begin : (kind ≡ 3 → ⊥) → kind ≡ 2 → kind_told listed kind p bits l ring ≡ (0, with_transaction true bits l, ring)
  unfolding kind_told
  told_begin a h = simp (ne_eqb _ _ a, eq-eqb _ _ h)

  pub told_open : (kind ≡ 3 → ⊥) → (kind ≡ 2 → ⊥) → l.opened ≡ true
      → kind_told listed kind p bits l ring ≡ (0, with_transaction l.opened bits l, ring)
  unfolding kind_told
  told_open a b h = simp (ne_eqb _ _ a, ne_eqb _ _ b, h)

  pub told_seen : (kind ≡ 3 → ⊥) → (kind ≡ 2 → ⊥) → l.opened ≡ false → kind ≡ 1
      → kind_told listed kind p bits l ring ≡ (0, with_seen p (with_transaction l.opened bits l), ring)
  unfolding kind_told
  told_seen a b o h = simp (ne_eqb _ _ a, ne_eqb _ _ b, o, eq-eqb _ _ h)

  pub told_message : (kind ≡ 3 → ⊥) → (kind ≡ 2 → ⊥) → l.opened ≡ false → (kind ≡ 1 → ⊥) → kind ≡ 4
      → kind_told listed kind p bits l ring ≡ entry_told false bits p 15 l ring
  unfolding kind_told
  told_message a b o d h = simp (ne_eqb _ _ a, ne_eqb _ _ b, o, ne_eqb _ _ d, eq-eqb _ _ h)

  pub told_other : (kind ≡ 3 → ⊥) → (kind ≡ 2 → ⊥) → l.opened ≡ false → (kind ≡ 1 → ⊥) → (kind ≡ 4 → ⊥)
      → kind_told listed kind p bits l ring ≡ (0, with_transaction l.opened bits l, ring)
  unfolding kind_told
  told_other a b o d h = simp (ne_eqb _ _ a, ne_eqb _ _ b, o, ne_eqb _ _ d, ne_eqb _ _ h)

-- ---- an event with its data

module _ (a b listed kind p : ℕ) (l : Ledger) (ring : List ℕ) where
  list_refused : (a ≡ 0 → ⊥) → list_told (a, b) listed kind p l ring ≡ (a, refused_with a l, ring)
  unfolding list_told
  list_refused h = simp (ne_eqb _ _ h)

  list_taken : a ≡ 0 → list_told (a, b) listed kind p l ring ≡ kind_told listed kind p b l ring
  unfolding list_told
  list_taken h = simp (eq-eqb _ _ h)

module _ (ids fs : List ℕ) (kind p : ℕ) (s : List ℕ) (l₀ : Ledger) (ring : List ℕ) (n : ℕ) (l : Ledger) (en : n ≡ cap_of (length ring))
    (el : l ≡ fitted_of n l₀) where
  pub tell_marked : (l.refusal ≡ 0 → ⊥) → tell_of ids fs kind p s l₀ ring ≡ (l.refusal, l, ring)
  unfolding tell_of
  tell_marked h = rw (← en, ← el) (simp (ne_eqb _ _ h))

  pub tell_refused : l.refusal ≡ 0 → (a b : ℕ) → ◌≡◌ {A = ℕ × ℕ} (a, b) (touched_call ids fs kind s l.touched) → (a ≡ 0 → ⊥)
      → tell_of ids fs kind p s l₀ ring ≡ (a, refused_with a l, ring)
  unfolding tell_of
  tell_refused h a b et k =
      rw (← en, ← el) (simp (eq-eqb _ _ h) (ap (λ (t : ℕ × ℕ). list_told t (min (length ids) (length fs)) kind p l ring) (sym et) ∙ list_refused a b _ kind p l ring k))

  pub tell_kind : l.refusal ≡ 0 → (a b m : ℕ) → ◌≡◌ {A = ℕ × ℕ} (a, b) (touched_call ids fs kind s l.touched) → a ≡ 0
      → m ≡ min (length ids) (length fs) → tell_of ids fs kind p s l₀ ring ≡ kind_told m kind p b l ring
  unfolding tell_of
  tell_kind h a b m et k em =
      rw (← en, ← el, em) (simp (eq-eqb _ _ h) (ap (λ (t : ℕ × ℕ). list_told t (min (length ids) (length fs)) kind p l ring) (sym et) ∙ list_taken a b _ kind p l ring k))

-- ---- what is done, and what is asked

module _ (f p : ℕ) (l₀ : Ledger) (ring : List ℕ) (n : ℕ) (l : Ledger) (en : n ≡ cap_of (length ring)) (el : l ≡ fitted_of n l₀) where
  pub done_refused : (r : ℕ) → r ≡ done_refusal f p l → (r ≡ 0 → ⊥) → done_of f p l₀ ring ≡ (r, l)
  unfolding done_of
  done_refused r e h = rw (← en, ← el, ← e) (simp (ne_eqb _ _ h))

  pub done_taken : (r : ℕ) → r ≡ done_refusal f p l → r ≡ 0 → (more settled : Ledger) → more ≡ raised_in f p l → settled ≡ settled_of ring more
      → done_of f p l₀ ring ≡ (0, settled)
  unfolding done_of
  done_taken r e h more settled em et = rw (et, em, ← en, ← el, ← e) (simp (eq-eqb _ _ h))

  pub all_refused : (r : ℕ) → r ≡ done_refusal 0 p l → (r ≡ 0 → ⊥) → all_done_of p l₀ ring ≡ (r, l)
  unfolding all_done_of
  all_refused r e h = rw (← en, ← el, ← e) (simp (ne_eqb _ _ h))

  pub all_taken : (r : ℕ) → r ≡ done_refusal 0 p l → r ≡ 0 → (more settled : Ledger) → more ≡ all_raised p l → settled ≡ settled_of ring more
      → all_done_of p l₀ ring ≡ (0, settled)
  unfolding all_done_of
  all_taken r e h more settled em et = rw (et, em, ← en, ← el, ← e) (simp (eq-eqb _ _ h))

  pub asked_file : 3 < f → answer_of f l₀ ring ≡ (31, 0)
  unfolding answer_of
  asked_file h = simp (lt-ltb _ _ h)

  pub asked_taken : f ≤ 3 → (q : ℕ) → q ≡ answer_from ring l f l.front l.count → answer_of f l₀ ring ≡ (0, q)
  unfolding answer_of
  asked_taken h q e = rw (e, ← en, ← el) (simp (le-ltb _ _ h))
