-- The positions before entries rise, and so do the answers.
use mathlib.Core.Path.{◌≡◌, refl}
use mathlib.Core.Bool.{Bool, true, false}
use mathlib.Core.List.{List, [], ◌∷◌, ◌++◌, append-nil}
use Prim.Native.Nat.{ℕ, ◌≤◌}
use native.Mathlib.Omega.{arith}
use Rattle.wire.proofs.Laws.{by_test}
use Rattle.ledger.specs.declared.Entry.{Entry}
use Rattle.ledger.specs.Ledger.{entry}
use Rattle.ledger.specs.History.{Event, keepalive, begin, commit, message, other, stopped, streams, tells, does, does_all, History}
use Rattle.ledger.specs.History.{start_in, open_in, seen_in, stable_in, touches_in, entries_in, entries_after, first_undone}

-- from lo on, up to s
abbrev pub Rising : ℕ → List Entry → ℕ → Type 0
Rising lo [] s = lo ≤ s
Rising lo (e ∷ es) s = (lo ≤ e.before) × Rising e.before es s

pub rising_le : (lo s : ℕ) (xs : List Entry) → Rising lo xs s → lo ≤ s
rising_le lo s [] r = r
rising_le lo s (e ∷ es) r = let i = rising_le e.before s es r.1 in let j = r.0 in omega arith

pub rising_weaken : (lo s t : ℕ) (xs : List Entry) → s ≤ t → Rising lo xs s → Rising lo xs t
rising_weaken lo s t [] k r = omega arith
rising_weaken lo s t (e ∷ es) k r = (r.0, rising_weaken e.before s t es k r.1)

pub rising_append : (lo s t : ℕ) (xs : List Entry) (x : Entry) → x.before ≡ s → s ≤ t → Rising lo xs s → Rising lo (xs ++ (x ∷ [])) t
rising_append lo s t [] x e k r = (omega arith, omega arith)
rising_append lo s t (y ∷ xs) x e k r = (r.0, rising_append y.before s t xs x e k r.1)

-- an entry is reached from below
pub reached : (lo s : ℕ) (xs ys : List Entry) (e : Entry) → Rising lo (xs ++ (e ∷ ys)) s → lo ≤ e.before
reached lo s [] ys e r = r.0
reached lo s (x ∷ xs) ys e r = let i = reached x.before s xs ys e r.1 in let j = r.0 in omega arith

module _ (u : Entry → Bool) where
  pub low : (lo s : ℕ) (xs : List Entry) → Rising lo xs s → lo ≤ first_undone u s xs
  unfolding first_undone
  low lo s [] r = r
  low lo s (e ∷ es) r =
      by_test (u e) (λ t. rw t r.0) (λ t. rw t (let i = low e.before s es r.1 in let j = r.0 in omega arith))

  pub high : (lo s : ℕ) (xs : List Entry) → Rising lo xs s → first_undone u s xs ≤ s
  unfolding first_undone
  high lo s [] r = omega arith
  high lo s (e ∷ es) r = by_test (u e) (λ t. rw t (rising_le e.before s es r.1)) (λ t. rw t (high e.before s es r.1))

  -- the first undone one is no later than one that is undone
  pub no_later : (lo s : ℕ) (xs ys : List Entry) (e : Entry) → Rising lo (xs ++ (e ∷ ys)) s → u e ≡ true
      → first_undone u s (xs ++ (e ∷ ys)) ≤ e.before
  unfolding first_undone
  no_later lo s [] ys e r k = rw k (omega arith)
  no_later lo s (x ∷ xs) ys e r k =
      by_test (u x) (λ t. rw t (reached x.before s xs ys e r.1)) (λ t. rw t (no_later x.before s xs ys e r.1 k))

  pub longer : (s t : ℕ) (xs : List Entry) (x : Entry) → x.before ≡ s → s ≤ t → first_undone u s xs ≤ first_undone u t (xs ++ (x ∷ []))
  unfolding first_undone
  longer s t [] x e k = by_test (u x) (λ i. rw i (omega arith)) (λ i. rw i k)
  longer s t (y ∷ xs) x e k = by_test (u y) (λ i. rw i (omega arith)) (λ i. rw i (longer s t xs x e k))

  pub higher : (s t : ℕ) (xs : List Entry) → s ≤ t → first_undone u s xs ≤ first_undone u t xs
  unfolding first_undone
  higher s t [] k = k
  higher s t (y ∷ xs) k = by_test (u y) (λ i. rw i (omega arith)) (λ i. rw i (higher s t xs k))

-- fewer are undone
pub fewer : (u v : Entry → Bool) → ((e : Entry) → u e ≡ false → v e ≡ false) → (lo s : ℕ) (xs : List Entry) → Rising lo xs s
    → first_undone u s xs ≤ first_undone v s xs
unfolding first_undone
fewer u v h lo s [] r = omega arith
fewer u v h lo s (e ∷ es) r =
    by_test (u e)
    (λ t. by_test (v e) (λ k. rw (t, k) (omega arith)) (λ k. rw (t, k) (low v e.before s es r.1)))
    (λ t. rw (t, h e t) (fewer u v h e.before s es r.1))

-- ---- of histories

pub stable_grows : (p : ℕ) (e : Event) (h : History) → stable_in p h ≤ stable_in p (tells e ∷ h)
unfolding stable_in start_in seen_in
stable_grows p (keepalive q) h = by_test (open_in h) (λ t. rw t (omega arith)) (λ t. rw t (omega arith))
stable_grows p begin h = omega arith
stable_grows p (commit q) h = omega arith
stable_grows p (message q) h = by_test (open_in h) (λ t. rw t (omega arith)) (λ t. rw t (omega arith))
stable_grows p (other s) h = omega arith
stable_grows p stopped h = omega arith

pub stable_done : (p f q : ℕ) (h : History) → stable_in p (does f q ∷ h) ≡ stable_in p h
unfolding stable_in start_in seen_in
stable_done p f q h = refl

pub stable_all : (p q : ℕ) (h : History) → stable_in p (does_all q ∷ h) ≡ stable_in p h
unfolding stable_in start_in seen_in
stable_all p q h = refl

-- an event brings no entry, or one with S before it
pub by_entry : (X : List Entry → Type 0) (p : ℕ) (es : List (ℕ × ℕ)) (e : Event) (h : History) → X []
    → ((q t : ℕ) → X (entry q (stable_in p h) t ∷ [])) → X (entries_after p es e h)
unfolding entries_after
by_entry X p es (keepalive q) h a b = a
by_entry X p es begin h a b = a
by_entry X p es (commit q) h a b = b q (touches_in es h)
by_entry X p es (message q) h a b = by_test (open_in h) (λ t. rw t a) (λ t. rw t (b q 15))
by_entry X p es (other s) h a b = a
by_entry X p es stopped h a b = a

pub start_below : (p : ℕ) (h : History) → start_in p h ≤ stable_in p h
unfolding stable_in
start_below p h = omega arith

pub rising : (p : ℕ) (es : List (ℕ × ℕ)) (h : History) → Rising (start_in p h) (entries_in p es h) (stable_in p h)
unfolding entries_in start_in
rising p es [] = start_below p []
rising p es (streams q ∷ h) = start_below p (streams q ∷ h)
rising p es (tells e ∷ h) =
    let s : ℕ = stable_in p h in
    let t : ℕ = stable_in p (tells e ∷ h) in
    by_entry (λ xs. Rising (start_in p h) (entries_in p es h ++ xs) t) p es e h
    (rw (append-nil (entries_in p es h)) (rising_weaken (start_in p h) s t (entries_in p es h) (stable_grows p e h) (rising p es h)))
    (λ q k. rising_append (start_in p h) s t (entries_in p es h) (entry q s k) refl (stable_grows p e h) (rising p es h))
rising p es (does f q ∷ h) = rw (stable_done p f q h) (rising p es h)
rising p es (does_all q ∷ h) = rw (stable_all p q h) (rising p es h)
