-- One entry of a walk over the ring.
use mathlib.Core.Path.{◌≡◌, sym, ap, ◌∙◌}
use mathlib.Core.Bool.{true, false}
use mathlib.Core.List.{List}
use Prim.Native.Nat.{ℕ, zero, suc, ◌<◌, ◌-◌}
use native.Mathlib.Omega.{arith}
use lib.ListN.{length}
use Rattle.ledger.specs.declared.Ledger.{Ledger}
use Rattle.ledger.specs.Ledger.{cap_of, next_of, entry_at, stable_of, with_ring, undone_in, undone_some, settled_from, settled_of, answer_from}

suc_less : (n : ℕ) → suc n - 1 ≡ n
suc_less n = omega arith

pub settled_here : (ring : List ℕ) (l : Ledger) (f n : ℕ) → 0 < n → undone_some l (entry_at ring f) ≡ true → settled_from ring l f n ≡ (f, n)
unfolding settled_from
settled_here ring l f zero h e = absurd (omega arith)
settled_here ring l f (suc n) h e = rw e

pub settled_next : (ring : List ℕ) (l : Ledger) (f n : ℕ) → 0 < n → undone_some l (entry_at ring f) ≡ false
    → settled_from ring l f n ≡ settled_from ring l (next_of (cap_of (length ring)) f) (n - 1)
unfolding settled_from
settled_next ring l f zero h e = absurd (omega arith)
settled_next ring l f (suc n) h e = rw (e, suc_less n)

pub settled_none : (ring : List ℕ) (l : Ledger) (f n : ℕ) → n ≡ 0 → settled_from ring l f n ≡ (f, n)
unfolding settled_from
settled_none ring l f n e = rw e

pub settled_ends : (ring : List ℕ) (l : Ledger) (f n : ℕ) → settled_from ring l f n ≡ settled_from ring l l.front l.count
    → settled_from ring l f n ≡ (f, n) → with_ring f n l ≡ settled_of ring l
unfolding settled_of
settled_ends ring l f n e h = ap (λ (w : ℕ × ℕ). with_ring w.0 w.1 l) (sym h ∙ e)

pub answer_here : (ring : List ℕ) (l : Ledger) (file f n : ℕ) → 0 < n → undone_in l file (entry_at ring f) ≡ true
    → answer_from ring l file f n ≡ (entry_at ring f).before
unfolding answer_from
answer_here ring l file f zero h e = absurd (omega arith)
answer_here ring l file f (suc n) h e = rw e

pub answer_next : (ring : List ℕ) (l : Ledger) (file f n : ℕ) → 0 < n → undone_in l file (entry_at ring f) ≡ false
    → answer_from ring l file f n ≡ answer_from ring l file (next_of (cap_of (length ring)) f) (n - 1)
unfolding answer_from
answer_next ring l file f zero h e = absurd (omega arith)
answer_next ring l file f (suc n) h e = rw (e, suc_less n)

pub answer_none : (ring : List ℕ) (l : Ledger) (file f n : ℕ) → n ≡ 0 → answer_from ring l file f n ≡ stable_of l
unfolding answer_from
answer_none ring l file f n e = rw e
