-- What holds of each way through a call.
use Prim.Native.Nat.{ℕ, zero, suc, ◌+◌}
use mathlib.Core.Path.{◌≡◌, refl}
use mathlib.Core.Bool.{Bool, true, false}
use mathlib.Core.List.{List, []}
use mathlib.Core.Option.{Option, some, none}
use lib.ListN.{drop}
use lib.Dec.{eqb}
use Rattle.wire.specs.Bytes.{pick}
use Rattle.wire.proofs.Laws.{impossible}
use Rattle.moment.specs.declared.Moment.{Moment}
use Rattle.worker.specs.declared.Run.{Run}
use Rattle.advance.specs.AtHand.{handed_run}
use Rattle.drain.specs.Drain.{Drained, stays, further, entering, entered_in, is_ready, hand_of, drain_from}
use Rattle.drain.specs.Laws.{Chained, DrainLaws}

pub choose : (P : Drained → Type 0) (b : Bool) (x y : Drained) → (b ≡ true → P x) → (b ≡ false → P y) → P (pick b x y)
choose P true x y f g = f refl
choose P false x y f g = g refl

enter : (P : Drained → Type 0) (e : Option (ℕ × Run)) (d : Drained) (f : ℕ → Run → Drained) → P d → ((k : ℕ) (x : Run) → P (f k x))
    → P (entering e d f)
enter P none d f h g = h
enter P (some e) d f h g = g e.0 e.1

-- one message more, after others that are as this call says
module _ (m : Moment) (stop : Bool) (p o : ℕ) (u : List ℕ) where
  -- the message after the steps that lead to a run
  abbrev pub each : ℕ → ℕ → Run → ℕ → Run → Drained
  each n place r k x =
      pick (eqb (hand_of x (drop place u)).len 0) (stays r place)
      (further k place (hand_of x (drop place u))
      (drain_from n m stop p o u (place + (5 + (hand_of x (drop place u)).len)) (handed_run x m (hand_of x (drop place u)))))

  pub drain_none : (place : ℕ) (r : Run) → drain_from zero m stop p o u place r ≡ stays r place
  unfolding drain_from
  drain_none place r = refl

  pub drain_more : (n place : ℕ) (r : Run)
      → drain_from (suc n) m stop p o u place r
      ≡ pick (is_ready r m p o) (entering (entered_in r.state r m stop) (stays r place) (λ k x. each n place r k x)) (stays r place)
  unfolding drain_from
  drain_more n place r = refl

  abbrev Idle : ℕ → Run → Drained → Type 0
  Idle place r d = d.events ≡ [] → d ≡ stays r place

  idle : (n place : ℕ) (r : Run) → Idle place r (drain_from n m stop p o u place r)
  idle zero place r = λ e. drain_none place r
  idle (suc n) place r =
      rw (drain_more n place r)
      (choose (Idle place r) (is_ready r m p o) _ _
      (λ t. enter (Idle place r) (entered_in r.state r m stop) (stays r place) (λ k x. each n place r k x) (λ e. refl)
      (λ k x. choose (Idle place r) (eqb (hand_of x (drop place u)).len 0) _ _ (λ z e. refl) (λ z e. impossible cc)))
      (λ t e. refl))

  abbrev Placed : ℕ → Drained → Type 0
  Placed place d = Chained place d.events d.taken

  placed : (n place : ℕ) (r : Run) → Placed place (drain_from n m stop p o u place r)
  placed zero place r = rw (drain_none place r) refl
  placed (suc n) place r =
      rw (drain_more n place r)
      (choose (Placed place) (is_ready r m p o) _ _
      (λ t. enter (Placed place) (entered_in r.state r m stop) (stays r place) (λ k x. each n place r k x) refl
      (λ k x. choose (Placed place) (eqb (hand_of x (drop place u)).len 0) _ _ (λ z. refl)
      (λ z. (refl, placed n (place + (5 + (hand_of x (drop place u)).len)) (handed_run x m (hand_of x (drop place u)))))))
      (λ t. refl))

pub drain_laws : DrainLaws
drain_laws =
    record {
      nothing_done = λ n m stop p o u place r. idle m stop p o u n place r;
      no_room = λ m stop p o u place r. drain_none m stop p o u place r;
      places = λ n m stop p o u place r. placed m stop p o u n place r;
    }
