-- What is undone, of a ledger that stands for a history.
use mathlib.Core.Path.{◌≡◌, refl, ap, ◌∙◌}
use mathlib.Core.Bool.{Bool, true, false}
use mathlib.Core.List.{List}
use Prim.Native.Nat.{ℕ, zero, suc, ◌≤◌, min}
use native.Mathlib.Omega.{arith}
use lib.ListN.{length}
use lib.Dec.{leb}
use borrow.Author.Tests.{lt-leb, leb-false, le-ltb}
use Rattle.wire.specs.Bytes.{pick}
use Rattle.wire.proofs.Laws.{by_test, impossible}
use Rattle.ledger.specs.declared.Ledger.{Ledger}
use Rattle.ledger.specs.declared.Entry.{Entry}
use Rattle.ledger.specs.Ledger.{cap_of, next_of, entry_at, file_done, fitted_of, stable_of, undone_for, undone_in, undone_some, answer_from, answer_of}
use Rattle.ledger.specs.History.{History, stable_in, done_in, entries_in, held_in, held_now, undone_now, first_undone, answer_in}
use Rattle.ledger.specs.Stands.{Stands, Fits, ring_from}
use Rattle.ledger.proofs.ListLaws.{first_held, first_ext}

-- what is done for a file does not become undone
pub undone_less : (s d c f : ℕ) (e : Entry) → d ≤ c → undone_for s d f e ≡ false → undone_for s c f e ≡ false
unfolding undone_for
undone_less s d c f e h u =
    by_test (leb e.end s) (λ t. rw t)
    (λ t. by_test (leb e.end c) (λ k. rw (t, k))
    (λ k. let i : leb e.end d ≡ false = lt-leb e.end d (omega (arith, leb-false e.end c k)) in
    rw (t, k) (rw (t, i) at u)))

-- for none of the four
pub for_none : (a b c d x y z w : Bool) → (a ≡ false → x ≡ false) → (b ≡ false → y ≡ false) → (c ≡ false → z ≡ false) → (d ≡ false → w ≡ false)
    → pick a true (pick b true (pick c true d)) ≡ false → pick x true (pick y true (pick z true w)) ≡ false
for_none true b c d x y z w f g h k e = impossible cc
for_none false true c d x y z w f g h k e = impossible cc
for_none false false true d x y z w f g h k e = impossible cc
for_none false false false d x y z w f g h k e = rw (f refl, g refl, h refl, k e)

-- and so for each of them
pub each_none : (a b c d : Bool) → pick a true (pick b true (pick c true d)) ≡ false → (a ≡ false) × (b ≡ false) × (c ≡ false) × (d ≡ false)
each_none true b c d e = impossible cc
each_none false true c d e = impossible cc
each_none false false true d e = impossible cc
each_none false false false d e = (refl, refl, refl, e)

pub none_undone : (p f : ℕ) (h : History) → f ≤ 3 → (e : Entry) → held_now p h e ≡ false → undone_now p f h e ≡ false
none_undone p zero h k e n = (each_none (undone_now p 0 h e) (undone_now p 1 h e) (undone_now p 2 h e) (undone_now p 3 h e) n).0
none_undone p (suc zero) h k e n = (each_none (undone_now p 0 h e) (undone_now p 1 h e) (undone_now p 2 h e) (undone_now p 3 h e) n).1
none_undone p (suc (suc zero)) h k e n = (each_none (undone_now p 0 h e) (undone_now p 1 h e) (undone_now p 2 h e) (undone_now p 3 h e) n).2
none_undone p (suc (suc (suc zero))) h k e n = (each_none (undone_now p 0 h e) (undone_now p 1 h e) (undone_now p 2 h e) (undone_now p 3 h e) n).3
none_undone p (suc (suc (suc (suc f)))) h k e n = absurd (omega arith)

pub fitted_same : (cap : ℕ) (l : Ledger) → Fits cap l.front → l.count ≤ cap → fitted_of cap l ≡ l
unfolding fitted_of
fitted_same cap l f h = let m : min l.count cap ≡ l.count = omega arith in rw (f, m)

module _ {p mark : ℕ} {es : List (ℕ × ℕ)} {h : History} {l : Ledger} {ring : List ℕ} (st : Stands p es mark h l ring) where
  pub file_same : (f : ℕ) → f ≤ 3 → file_done f l ≡ done_in p f h
  unfolding file_done
  file_same zero k = st.zero
  file_same (suc zero) k = st.one
  file_same (suc (suc zero)) k = st.two
  file_same (suc (suc (suc zero))) k = st.three
  file_same (suc (suc (suc (suc f)))) k = absurd (omega arith)

  pub undone_same : (f : ℕ) → f ≤ 3 → (e : Entry) → undone_in l f e ≡ undone_now p f h e
  undone_same f k e = rw (file_same f k, st.start)

  pub held_same : (e : Entry) → undone_some l e ≡ held_now p h e
  unfolding undone_some
  held_same e =
      rw (undone_same 0 (omega arith) e, undone_same 1 (omega arith) e, undone_same 2 (omega arith) e, undone_same 3 (omega arith) e)

  answer_ring : (f front n : ℕ) → answer_from ring l f front n ≡ first_undone (λ e. undone_in l f e) (stable_of l) (ring_from ring front n)
  unfolding answer_from first_undone ring_from
  answer_ring f front zero = refl
  answer_ring f front (suc n) =
      ap (λ (x : ℕ). pick (undone_in l f (entry_at ring front)) (entry_at ring front).before x) (answer_ring f (next_of (cap_of (length ring)) front) n)

  stable_same : stable_of l ≡ stable_in p h
  unfolding stable_in
  stable_same = rw (st.start, st.seen)

  -- the answer is S before the first undone entry of the history, or S
  pub answer_said : (f : ℕ) → f ≤ 3 → answer_of f l ring ≡ (0, answer_in p es f h)
  unfolding answer_of answer_in held_in
  answer_said f k =
      let first : answer_from ring l f l.front l.count ≡ first_undone (λ e. undone_now p f h e) (stable_in p h) (entries_in p es h) =
      answer_ring f l.front l.count ∙ ap (λ (xs : List Entry). first_undone (λ e. undone_in l f e) (stable_of l) xs) st.held
      ∙ first_ext (λ e. undone_in l f e) (λ e. undone_now p f h e) (undone_same f k) (stable_of l) (held_in p es h)
      ∙ first_held (λ e. held_now p h e) (λ e. undone_now p f h e) (none_undone p f h k) (stable_of l) (entries_in p es h)
      ∙ ap (λ (s : ℕ). first_undone (λ e. undone_now p f h e) s (entries_in p es h)) stable_same in
      rw (fitted_same (cap_of (length ring)) l st.fits st.within) (rw (le-ltb 3 f k, first))
