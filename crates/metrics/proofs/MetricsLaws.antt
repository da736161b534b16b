-- The laws of the counters: one sum, and the fields one by one.
use Rattle.std.proofs.Common.{◌≡◌, ℕ, ◌+◌, ◌^◌, ◌<◌, ◌≤◌, Bool, true, false, ltb, ◌⊎◌, refl, inl, inr, ⊎_elim, arith, ltb-false, ltb-true}
use Rattle.lsn.specs.declared.Lsn.{Lsn}
use Rattle.metrics.specs.declared.Metrics.{Metrics}
use Rattle.metrics.specs.Metrics.{more, with_event, with_status, with_reply, with_stall, with_stall_end, with_end}
use Rattle.metrics.specs.MetricsLaws.{After, Shows, CounterLaws, MetricsLaws}

counted : (a n : ℕ) → a < 2 ^ 64 → n < 2 ^ 64 → After a n (more a n)
counted a n h k =
    record {
      in64 = omega arith;
      is = by (ltb (a + n) (2 ^ 64)) refl;
    }
  where
    by : (b : Bool) → ltb (a + n) (2 ^ 64) ≡ b → (a + n ≡ more a n) ⊎ (a + n ≡ more a n + 2 ^ 64)
    by true t = let l : a + n < 2 ^ 64 = ltb-true (a + n) (2 ^ 64) t in inl (omega arith)
    by false t = let l : 2 ^ 64 ≤ a + n = ltb-false (a + n) (2 ^ 64) t in inr (omega arith)

sum_is : (a n r : ℕ) → After a n r → more a n ≡ r
sum_is a n r x =
    let h : r < 2 ^ 64 = x.in64 in
    ⊎_elim (λ (e : a + n ≡ r). omega arith) (λ (e : a + n ≡ r + 2 ^ 64). omega arith) x.is

one_sum : (a n r t : ℕ) → After a n r → After a n t → r ≡ t
one_sum a n r t x y = let e = sum_is a n r x in let f = sum_is a n t y in omega arith

pub counter_laws : CounterLaws
counter_laws = record { counted = counted; one_sum = one_sum; largest = refl }

-- a counter of the metrics, one step on
stepped : (b a n r : ℕ) → b ≡ a → After a n r → more b n ≡ r
stepped b a n r e x = rw e (sum_is a n r x)

module _ (m : Metrics) (e s r t u a w : ℕ) (x : Shows m e s r t u a w) where
  event : (n : ℕ) → After e 1 n → Shows (with_event m) n s r t u a w
  event n y =
      record {
        events_are = stepped _ e 1 n x.events_are y;
        statuses_are = x.statuses_are;
        replies_are = x.replies_are;
        stalls_are = x.stalls_are;
        micros_are = x.micros_are;
        applied_is = x.applied_is;
        end_is = x.end_is;
      }

  status : (n : ℕ) (p : Lsn) → After s 1 n → Shows (with_status m p) e n r t u p.0 w
  status n p y =
      record {
        events_are = x.events_are;
        statuses_are = stepped _ s 1 n x.statuses_are y;
        replies_are = x.replies_are;
        stalls_are = x.stalls_are;
        micros_are = x.micros_are;
        applied_is = refl;
        end_is = x.end_is;
      }

  reply : (n : ℕ) → After r 1 n → Shows (with_reply m) e s n t u a w
  reply n y =
      record {
        events_are = x.events_are;
        statuses_are = x.statuses_are;
        replies_are = stepped _ r 1 n x.replies_are y;
        stalls_are = x.stalls_are;
        micros_are = x.micros_are;
        applied_is = x.applied_is;
        end_is = x.end_is;
      }

  stall : (n : ℕ) → After t 1 n → Shows (with_stall m) e s r n u a w
  stall n y =
      record {
        events_are = x.events_are;
        statuses_are = x.statuses_are;
        replies_are = x.replies_are;
        stalls_are = stepped _ t 1 n x.stalls_are y;
        micros_are = x.micros_are;
        applied_is = x.applied_is;
        end_is = x.end_is;
      }

  stall_end : (n micros : ℕ) → After u micros n → Shows (with_stall_end m micros) e s r t n a w
  stall_end n micros y =
      record {
        events_are = x.events_are;
        statuses_are = x.statuses_are;
        replies_are = x.replies_are;
        stalls_are = x.stalls_are;
        micros_are = stepped _ u micros n x.micros_are y;
        applied_is = x.applied_is;
        end_is = x.end_is;
      }

  end : (p : Lsn) → Shows (with_end m p) e s r t u a p.0
  end p =
      record {
        events_are = x.events_are;
        statuses_are = x.statuses_are;
        replies_are = x.replies_are;
        stalls_are = x.stalls_are;
        micros_are = x.micros_are;
        applied_is = x.applied_is;
        end_is = refl;
      }

pub metrics_laws : MetricsLaws
metrics_laws =
    record {
      fresh =
          record {
            events_are = refl;
            statuses_are = refl;
            replies_are = refl;
            stalls_are = refl;
            micros_are = refl;
            applied_is = refl;
            end_is = refl;
          };
      event = λ m e s r t u a w n x y. event m e s r t u a w x n y;
      status = λ m e s r t u a w n p x y. status m e s r t u a w x n p y;
      reply = λ m e s r t u a w n x y. reply m e s r t u a w x n y;
      stall = λ m e s r t u a w n x y. stall m e s r t u a w x n y;
      stall_end = λ m e s r t u a w n micros x y. stall_end m e s r t u a w x n micros y;
      end = λ m e s r t u a w p x. end m e s r t u a w x p;
    }
