-- What the plain reading makes of the steps so far, and how one step more changes it. Invariant keeps the account, HandsOn reads it off.
use mathlib.Core.Path.{◌≡◌, refl, ap, ◌∙◌}
use mathlib.Core.Bool.{Bool, true, false}
use mathlib.Core.List.{List, [], ◌∷◌, ◌++◌}
use Prim.Native.Nat.{ℕ, ◌+◌, ◌-◌, ◌<◌, ◌≤◌}
use native.Mathlib.Omega.{arith}
use borrow.Author.Tests.{leb-false, lt-leb, le-leb}
use lib.ListN.{take}
use lib.Dec.{leb}
use Rattle.wire.specs.Bytes.{pick}
use Rattle.wire.proofs.Laws.{by_test}
use Rattle.frames.specs.Cut.{Cut, cut_of}
use Rattle.frames.proofs.Laws.{cut_nothing}
use Rattle.thm_any_calls.specs.Plain.{Msg, Observation, whole_ones, span_of, after_byte, accepted_ones, is_refused_early, taken_of}

-- ---- lists of steps

pub taken_more : (ts : List Observation) (x : Observation) → taken_of (ts ++ (x ∷ [])) ≡ taken_of ts + x.taken
unfolding taken_of
taken_more [] x = omega arith
taken_more (t ∷ ts) x = let h = taken_more ts x in omega arith

behind_more : (n : ℕ) (ts : List Observation) (x : Observation) → 0 < n → n ≤ taken_of ts → after_byte n (ts ++ (x ∷ [])) ≡ after_byte n ts ++ (x ∷ [])
unfolding after_byte taken_of
behind_more n [] x a b = absurd (omega arith)
behind_more n (t ∷ ts) x a b =
    by_test (leb n t.taken)
    (λ e. simp e)
    (λ e.
    let h : t.taken < n = leb-false _ _ e in
    let i : after_byte (n - t.taken) (ts ++ (x ∷ [])) ≡ after_byte (n - t.taken) ts ++ (x ∷ []) =
    behind_more (n - t.taken) ts x (omega arith) (omega arith) in
    simp e i)

-- the step that takes the n-th byte is the last
behind_last : (n : ℕ) (ts : List Observation) (x : Observation) → taken_of ts < n → n ≤ taken_of ts + x.taken → after_byte n (ts ++ (x ∷ [])) ≡ []
unfolding after_byte taken_of
behind_last n [] x a b =
    let h : n ≤ x.taken = omega arith in
    let e : leb n x.taken ≡ true = le-leb n x.taken h in
    simp e
behind_last n (t ∷ ts) x a b =
    let h : t.taken < n = omega arith in
    let e : leb n t.taken ≡ false = lt-leb n t.taken h in
    simp e (behind_last (n - t.taken) ts x (omega arith) (omega arith))

-- one step more, where it is not refused with 2 to 5
abbrev pub grown : Observation → List Observation → List Observation
grown x ws = pick (is_refused_early x.refusal) ws (ws ++ (x ∷ []))

accepted_more : (ts : List Observation) (x : Observation) → accepted_ones (ts ++ (x ∷ [])) ≡ grown x (accepted_ones ts)
unfolding accepted_ones
accepted_more [] x = refl
accepted_more (t ∷ ts) x =
    kept (is_refused_early t.refusal) (is_refused_early x.refusal) (accepted_ones (ts ++ (x ∷ []))) (accepted_ones ts) (accepted_more ts x)
  where
    kept : (a b : Bool) (us vs : List Observation) → us ≡ pick b vs (vs ++ (x ∷ []))
        → pick a us (t ∷ us) ≡ pick b (pick a vs (t ∷ vs)) (pick a vs (t ∷ vs) ++ (x ∷ []))
    kept true true us vs h = h
    kept true false us vs h = h
    kept false true us vs h = ap (λ (l : List Observation). t ∷ l) h
    kept false false us vs h = ap (λ (l : List Observation). t ∷ l) h

-- ---- the account: the whole messages so far, and the accepted steps since the last byte of the last

module _ (limit : ℕ) (bytes : List ℕ) where
  abbrev pub whole_at : ℕ → List Msg
  whole_at t = whole_ones (cut_of limit (take t bytes)).items

  pub record Account (t : ℕ) (ts : List Observation) (ms : List Msg) (ws : List Observation) : Type 0 where
    pub sum : taken_of ts ≡ t
    pub whole : whole_at t ≡ ms
    pub span : span_of ms ≤ t
    pub since : 0 < span_of ms → accepted_ones (after_byte (span_of ms) ts) ≡ ws

  -- no byte is taken yet
  pub none_taken : {ts : List Observation} → taken_of ts ≡ 0 → Account 0 ts [] []
  unfolding whole_ones span_of
  none_taken e =
      record { sum = e; whole = ap (λ (c : Cut). whole_ones c.items) (cut_nothing limit); span = omega arith; since = λ h. absurd (omega arith) }

  -- a step after which there are no more whole messages
  pub same_ones : (t : ℕ) (ts : List Observation) (ms : List Msg) (ws : List Observation) (x : Observation) → Account t ts ms ws
      → whole_at (t + x.taken) ≡ ms → Account (t + x.taken) (ts ++ (x ∷ [])) ms (grown x ws)
  same_ones t ts ms ws x a e =
      let s : taken_of ts ≡ t = a.sum in
      let l : span_of ms ≤ t = a.span in
      record {
        sum = taken_more ts x ∙ ap (λ (k : ℕ). k + x.taken) s;
        whole = e;
        span = omega arith;
        since =
            λ p.
            ap accepted_ones (behind_more (span_of ms) ts x p (omega arith))
            ∙ (accepted_more (after_byte (span_of ms) ts) x ∙ ap (grown x) (a.since p));
      }

  -- a step that takes no byte adds nothing to the account
  pub no_more : {t : ℕ} {ts : List Observation} {ms : List Msg} {ws : List Observation} (x : Observation) → x.taken ≡ 0 → Account t ts ms ws
      → Account (t + x.taken) (ts ++ (x ∷ [])) ms (grown x ws)
  no_more {t} {ts} {ms} {ws} x e a = let q : t + x.taken ≡ t = omega arith in same_ones t ts ms ws x a (rw q a.whole)

  -- a step that takes the last byte of one more
  pub one_more : (t : ℕ) (ts : List Observation) (ms ns : List Msg) (ws : List Observation) (x : Observation) → Account t ts ms ws
      → whole_at (t + x.taken) ≡ ns → span_of ns ≡ t + x.taken → 0 < x.taken → Account (t + x.taken) (ts ++ (x ∷ [])) ns []
  unfolding accepted_ones
  one_more t ts ms ns ws x a e l p =
      let s : taken_of ts ≡ t = a.sum in
      record {
        sum = taken_more ts x ∙ ap (λ (k : ℕ). k + x.taken) s;
        whole = e;
        span = omega arith;
        since = λ q. ap accepted_ones (behind_last (span_of ns) ts x (omega arith) (omega arith));
      }
