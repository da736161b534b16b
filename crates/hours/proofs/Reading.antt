-- The second reading says what the definition says: a moment's place on the clock is found from the microseconds since Monday, and every place of
-- it is that one.
use mathlib.Core.Path.{◌≡◌, refl, sym, ap, ◌∙◌}
use mathlib.Core.Bool.{Bool, true, false, not}
use mathlib.Core.Logic.{◌⊎◌, inl, inr}
use mathlib.Core.Option.{Option, some, none}
use Prim.Native.Nat.{ℕ, zero, suc, ◌+◌, ◌*◌, ◌-◌, ◌/◌, ◌%◌, ◌≤◌, ◌<◌}
use native.Mathlib.Omega.{arith}
use lib.ListN.{get_or}
use lib.IntN.{ℤ, pos, negsuc, ◌+ℤ◌, ◌*ℤ◌}
use lib.Signed.{◌<ℤ◌}
use lib.Dec.{ltb, leb, lt→ltb}
use borrow.Author.Tests.{lt-ltb, le-ltb, le-leb, lt-leb, ltb-true, ltb-false, leb-true, leb-false}
use Rattle.wire.specs.Bytes.{pick}
use Rattle.wire.proofs.Laws.{by_test, impossible}
use Rattle.hours.specs.declared.Hours.{Hours}
use Rattle.hours.specs.Calendar.{minute, week, floor_mod, since_monday, in_window, open_at, is_open, is_window, is_within_windows, are_windows}
use Rattle.hours.specs.Answer.{next_of, hours_of}
use Rattle.hours.specs.Time.{NextIs}
use Rattle.hours.specs.Reading.{Stands, Within, Is, OpenIsRead, ChangeIs, WrongWindow, RightWindows, Inside, Outside, above, below}
use Rattle.hours.specs.Reading.{Answered, invalid_window, offset_out_of_range, moment_out_of_range, answered, HoursAreAnswered}
use Rattle.hours.proofs.Difference.{less, Difference, difference, less_pos, less_negsuc, less_sum, less_times, less_same, same_less}
use Rattle.hours.proofs.Floor.{ahead, within_pos, within_neg, since_below}
use Rattle.hours.proofs.Laws.{windows_at, window_right}
use Rattle.hours.proofs.Time.{next_is}

-- ---- the place of a moment

-- a quotient that is rounded down, and its remainder
pub record Divided (z : ℤ) (d : ℕ) : Type 0 where
  pub up : ℕ
  pub down : ℕ
  pub same : z ≡ less (up * d + floor_mod z d) (down * d)

divided : (z : ℤ) → Divided z week
divided (pos n) = record { up = n / week; down = 0; same = less_pos n ∙ less_same n 0 (n / week * week + n % week) (0 * week) (omega arith) }
divided (negsuc k) =
    record {
      up = 0;
      down = suc (k / week);
      same =
          less_negsuc k
          ∙ less_same 0 (suc k) (0 * week + (week - 1 - k % week)) (suc (k / week) * week) (omega arith);
    }

module _ (offset t : ℤ) where
  a : Difference t
  a = difference t

  o : Difference offset
  o = difference offset

  -- both sums, as the definition and as the reading have them
  abbrev up : ℕ
  up = a.up + (o.up + 7200) * minute

  abbrev down : ℕ
  down = a.down + (o.down + 0) * minute

  defined : t +ℤ (offset +ℤ pos 7200) *ℤ pos minute ≡ less up down
  defined =
      ap (λ (x : ℤ). x +ℤ (offset +ℤ pos 7200) *ℤ pos minute) a.same
      ∙ ap (λ (x : ℤ). less a.up a.down +ℤ x *ℤ pos minute)
      (ap (λ (x : ℤ). x +ℤ pos 7200) o.same ∙ ap (λ (x : ℤ). less o.up o.down +ℤ x) (less_pos 7200) ∙ less_sum o.up o.down 7200 0)
      ∙ ap (λ (x : ℤ). less a.up a.down +ℤ x) (less_times (o.up + 7200) (o.down + 0) minute)
      ∙ less_sum a.up a.down ((o.up + 7200) * minute) ((o.down + 0) * minute)

  read : (t +ℤ offset *ℤ pos 60000000) +ℤ pos 432000000000 ≡ less up down
  read =
      ap (λ (x : ℤ). (x +ℤ offset *ℤ pos 60000000) +ℤ pos 432000000000) a.same
      ∙ ap (λ (x : ℤ). (less a.up a.down +ℤ x *ℤ pos 60000000) +ℤ pos 432000000000) o.same
      ∙ ap (λ (x : ℤ). (less a.up a.down +ℤ x) +ℤ pos 432000000000) (less_times o.up o.down 60000000)
      ∙ ap (λ (x : ℤ). x +ℤ pos 432000000000) (less_sum a.up a.down (o.up * 60000000) (o.down * 60000000))
      ∙ ap (λ (x : ℤ). less (a.up + o.up * 60000000) (a.down + o.down * 60000000) +ℤ x) (less_pos 432000000000)
      ∙ less_sum (a.up + o.up * 60000000) (a.down + o.down * 60000000) 432000000000 0
      ∙ less_same _ _ up down (omega arith)

  abbrev since : ℕ
  since = since_monday offset t

  by_since : Divided (t +ℤ (offset +ℤ pos 7200) *ℤ pos minute) week
  by_since = divided (t +ℤ (offset +ℤ pos 7200) *ℤ pos minute)

  since_sum : less up down ≡ less (by_since.up * week + since) (by_since.down * week)
  unfolding since_monday
  since_sum = sym defined ∙ by_since.same

  -- every place of a moment is in its minute of the week
  pub place_is : (p : Stands offset t) → p.weekday * 1440 + p.in_minute ≡ since / minute
  place_is p =
      let w = difference p.weeks in
      let x : ℕ = p.weekday * 86400000000 + p.in_minute * 60000000 + p.micros in
      let s : less up down ≡ less (w.up * week + x) (w.down * week + 0) =
      sym read ∙ p.sum ∙ ap (λ (z : ℤ). z *ℤ pos week +ℤ pos x) w.same
      ∙ ap (λ (z : ℤ). z +ℤ pos x) (less_times w.up w.down week)
      ∙ ap (λ (z : ℤ). less (w.up * week) (w.down * week) +ℤ z) (less_pos x)
      ∙ less_sum (w.up * week) (w.down * week) x 0 in
      let e = same_less (w.up * week + x) (w.down * week + 0) (by_since.up * week + since) (by_since.down * week) (sym s ∙ since_sum) in
      let l = since_below offset t in
      let f = p.seven_days in
      let g = p.day_long in
      let h = p.minute_long in
      let b : x < week = omega arith in
      let y : x ≡ since = below_week x since (w.up + by_since.down) (by_since.up + w.down) b l (omega arith) in
      omega arith
    where
      below_week : (x y p q : ℕ) → x < week → y < week → p * week + x ≡ q * week + y → x ≡ y
      below_week x y p q h k e = omega arith

  pub place : Stands offset t
  place =
      let l = since_below offset t in
      let x : ℕ = since / 86400000000 * 86400000000 + since % 86400000000 / 60000000 * 60000000 + since % 60000000 in
      let e : x ≡ since = omega arith in
      record {
        weeks = less by_since.up by_since.down;
        weekday = since / 86400000000;
        in_minute = since % 86400000000 / 60000000;
        micros = since % 60000000;
        seven_days = omega arith;
        day_long = omega arith;
        minute_long = omega arith;
        sum =
            read ∙ since_sum
            ∙ less_same (by_since.up * week + since) (by_since.down * week) (by_since.up * week + x) (by_since.down * week + 0) (omega arith)
            ∙ sym (ap (λ (z : ℤ). z +ℤ pos x) (less_times by_since.up by_since.down week)
            ∙ ap (λ (z : ℤ). less (by_since.up * week) (by_since.down * week) +ℤ z) (less_pos x)
            ∙ less_sum (by_since.up * week) (by_since.down * week) x 0);
      }

-- ---- the state

within : (o c m : ℕ) (b : Bool) → in_window o c m ≡ b → Within o c m b
within o c m true e =
    by_test (leb o m)
    (λ t. (leb-true o m t, ltb-true m c (simp t at e)))
    (λ t. impossible (cc (simp t at e)))
within o c m false e =
    by_test (leb o m)
    (λ t. inr (ltb-false m c (simp t at e)))
    (λ t. inl (leb-false o m t))

is_within : (o c m : ℕ) (b : Bool) → Within o c m b → in_window o c m ≡ b
is_within o c m true (h, k) = simp (le-leb o m h, lt-ltb m c k)
is_within o c m false (inl h) = simp (lt-leb o m h)
is_within o c m false (inr h) = by_test (leb o m) (λ t. simp (t, le-ltb m c h)) (λ t. simp t)

-- by a place of the moment, the state is that of its minute in its day's window
open_by : (h : Hours) (t : ℤ) (p : Stands h.offset t)
    → is_open h t ≡ in_window (get_or h.opens p.weekday 0) (get_or h.closes p.weekday 0) p.in_minute
unfolding is_open open_at
open_by h t p =
    let e = place_is h.offset t p in
    let l = p.day_long in
    let d : since_monday h.offset t / minute / 1440 ≡ p.weekday = omega arith in
    let m : since_monday h.offset t / minute % 1440 ≡ p.in_minute = omega arith in
    rw (d, m)

pub open_is_read : OpenIsRead
open_is_read h t b = (
  λ e.
      let p = place h.offset t in
      record { stands = p; by_window = within _ _ p.in_minute b (sym (open_by h t p) ∙ e) },
  λ r. open_by h t r.stands ∙ is_within _ _ r.stands.in_minute b r.by_window,
)

-- ---- the next change

state_of : {h : Hours} {t : ℤ} {b : Bool} → Is h t b → is_open h t ≡ b
state_of {h} {t} {b} r = (open_is_read h t b).1 r

read_of : (h : Hours) (t : ℤ) (b : Bool) → is_open h t ≡ b → Is h t b
read_of h t b e = (open_is_read h t b).0 e

change_read : (h : Hours) (t : ℤ) (b : Bool) (next : Option ℤ) → is_open h t ≡ b → NextIs h t next → ChangeIs h t b next
change_read h t b none e n = λ v l. read_of h v b (n v l ∙ e)
change_read h t b (some u) e n =
    record {
      is_later = n.is_later;
      is_other = read_of h u (not b) (n.is_other ∙ ap not e);
      as_before = λ v l k. read_of h v b (n.none_between v l k ∙ e);
    }

-- no moment has both states
not_both : {X : Type 0} {h : Hours} {t : ℤ} (b : Bool) → Is h t b → Is h t (not b) → X
not_both true r s = impossible (cc (state_of r, state_of s))
not_both false r s = impossible (cc (state_of r, state_of s))

-- of two moments one is earlier, or they are the same
pub data Order (u v : ℤ) : Type 0 where
  earlier : u <ℤ v → Order u v
  same : u ≡ v → Order u v
  later : v <ℤ u → Order u v

numbers : {X : Type 0} (a b : ℕ) → (a < b → X) → (a ≡ b → X) → (b < a → X) → X
numbers a b f g k =
    by_test (ltb a b)
    (λ t. f (ltb-true a b t))
    (λ t. by_test (ltb b a) (λ q. k (ltb-true b a q)) (λ q. g (omega (arith, ltb-false a b t, ltb-false b a q))))

ordered : (u v : ℤ) → Order u v
ordered (pos a) (pos b) =
    numbers a b
    (λ l. earlier (record { lt = lt→ltb a b l }))
    (λ e. same (ap pos e))
    (λ l. later (record { lt = lt→ltb b a l }))
ordered (pos a) (negsuc b) = later (record { lt = tt })
ordered (negsuc a) (pos b) = earlier (record { lt = tt })
ordered (negsuc a) (negsuc b) =
    numbers a b
    (λ l. later (record { lt = lt→ltb a b l }))
    (λ e. same (ap negsuc e))
    (λ l. earlier (record { lt = lt→ltb b a l }))

-- a state has one next change
one_change : (h : Hours) (t : ℤ) (b : Bool) (x y : Option ℤ) → ChangeIs h t b x → ChangeIs h t b y → x ≡ y
one_change h t b none none p q = refl
one_change h t b none (some v) p q = not_both b (p v q.is_later) q.is_other
one_change h t b (some u) none p q = not_both b (q u p.is_later) p.is_other
one_change h t b (some u) (some v) p q = by (ordered u v)
  where
    by : Order u v → some u ≡ some v
    by (earlier l) = not_both b (q.as_before u p.is_later l) p.is_other
    by (same e) = ap some e
    by (later l) = not_both b (p.as_before v q.is_later l) q.is_other

-- ---- windows, offsets and moments that are right, and those that are not

module _ (h : Hours) where
  windows_right : are_windows h.opens h.closes 7 ≡ true → RightWindows h
  windows_right e day l = let r = windows_at h.opens h.closes 7 day e l in (r.0, omega arith, r.1)

  right_windows : RightWindows h → (n : ℕ) → n ≤ 7 → are_windows h.opens h.closes n ≡ true
  unfolding are_windows
  right_windows r zero l = refl
  right_windows r (suc n) l =
      let w = r n (omega arith) in
      rw (window_right (get_or h.opens n 0) (get_or h.closes n 0) w.0 w.2) (right_windows r n (omega arith))

  one_wrong : (o c : ℕ) → is_window o c ≡ false → (c < o) ⊎ ((1440 < o) ⊎ (1440 < c))
  one_wrong o c e =
      by_test (leb o c)
      (λ t. inr (inr (leb-false c 1440 (simp t at e))))
      (λ t. inl (leb-false o c t))

  windows_wrong : (n : ℕ) → n ≤ 7 → are_windows h.opens h.closes n ≡ false → WrongWindow h
  unfolding are_windows
  windows_wrong zero l e = impossible (cc)
  windows_wrong (suc n) l e =
      by_test (is_window (get_or h.opens n 0) (get_or h.closes n 0))
      (λ t. windows_wrong n (omega arith) (simp t at e))
      (λ t. record { day = n; seven_days = omega arith; wrong = one_wrong _ _ t })

  wrong_windows : WrongWindow h → are_windows h.opens h.closes 7 ≡ false
  wrong_windows w =
      by_test (are_windows h.opens h.closes 7)
      (λ t. let r = windows_at h.opens h.closes 7 w.day t w.seven_days in absurd (clash _ _ r.0 r.1 w.wrong))
      (λ t. t)
    where
      clash : (o c : ℕ) → o ≤ c → c ≤ 1440 → (c < o) ⊎ ((1440 < o) ⊎ (1440 < c)) → ⊥
      clash o c l k (inl x) = omega arith
      clash o c l k (inr (inl x)) = omega arith
      clash o c l k (inr (inr x)) = omega arith

module _ (l : ℕ) where
  inside : (z : ℤ) → is_within_windows (suc l) z ≡ true → Inside (suc l) z
  inside (pos n) e = let b = within_pos l n e in record { sum = n + suc l; is_sum = refl; most = omega arith }
  inside (negsuc k) e =
      let b = within_neg l k e in
      let f : suc k ≤ suc l = omega arith in
      record { sum = suc l - suc k; is_sum = simp (le-ltb _ _ f); most = omega arith }

  is_inside : (z : ℤ) → Inside (suc l) z → is_within_windows (suc l) z ≡ true
  is_inside (pos n) i =
      let e : n + suc l ≡ i.sum = cc i.is_sum in
      let m = i.most in
      le-leb n (suc l) (omega arith)
  is_inside (negsuc k) i =
      by_test (ltb l k)
      (λ t.
      let b : l < k = ltb-true l k t in
      let f : suc l < suc k = omega arith in
      impossible (cc (simp (lt-ltb _ _ f) at i.is_sum)))
      (λ t. simp t)

  is_outside : (z : ℤ) → Outside (suc l) z → is_within_windows (suc l) z ≡ false
  is_outside z (above k) = lt-leb (suc l + suc k) (suc l) (omega arith)
  is_outside z (below k) = let f : l < suc l + k = omega arith in simp (lt-ltb _ _ f)

  outside : (z : ℤ) → is_within_windows (suc l) z ≡ false → Outside (suc l) z
  outside (pos n) e =
      let b : suc l < n = leb-false n (suc l) e in
      let f : n ≡ suc l + suc (n - suc (suc l)) = omega arith in
      rw f (above (n - suc (suc l)))
  outside (negsuc k) e =
      by_test (ltb l k)
      (λ t.
      let b : l < k = ltb-true l k t in
      let f : k ≡ suc l + (k - suc l) = omega arith in
      rw f (below (k - suc l)))
      (λ t. impossible (cc (simp t at e)))

-- ---- every answer

-- what an answer says: the refusal's number, the state, the change
abbrev Said : Type 0
Said = ℕ × (Bool × Option ℤ)

abbrev Says : Hours → ℤ → Said → Type 0
Says h t a = Answered h t a.0 a.1.0 a.1.1

says : (h : Hours) (t : ℤ) → Says h t (hours_of h t)
unfolding hours_of
says h t = by (are_windows h.opens h.closes 7) (is_within_windows 840 h.offset) (is_within_windows 4611686018427387904 t) refl refl refl
  where
    by : (w o m : Bool) → are_windows h.opens h.closes 7 ≡ w → is_within_windows 840 h.offset ≡ o → is_within_windows 4611686018427387904 t ≡ m
        → Says h t (pick w (pick o (pick m (0, (is_open h t, next_of h t)) (34, (false, none))) (33, (false, none))) (32, (false, none)))
    by true true true x y z =
        answered (windows_right h x) (inside 839 h.offset y) (inside 4611686018427387903 t z) (read_of h t (is_open h t) refl)
        (change_read h t (is_open h t) (next_of h t) refl (next_is h t z (ahead h.offset y)))
    by true true false x y z = moment_out_of_range (windows_right h x) (inside 839 h.offset y) (outside 4611686018427387903 t z)
    by true false m x y z = offset_out_of_range (windows_right h x) (outside 839 h.offset y)
    by false o m x y z = invalid_window (windows_wrong h 7 (omega arith) x)

said : (h : Hours) (t : ℤ) (number : ℕ) (state : Bool) (next : Option ℤ) → Answered h t number state next → hours_of h t ≡ (number, (state, next))
unfolding hours_of
said h t number state next (invalid_window w) = simp (wrong_windows h w)
said h t number state next (offset_out_of_range w o) = simp (right_windows h w 7 (omega arith), is_outside 839 h.offset o)
said h t number state next (moment_out_of_range w o m) =
    simp (right_windows h w 7 (omega arith), is_inside 839 h.offset o, is_outside 4611686018427387903 t m)
said h t number state next (answered w o m r c) =
    let y = is_inside 839 h.offset o in
    let z = is_inside 4611686018427387903 t m in
    let e : is_open h t ≡ state = state_of r in
    let n : next_of h t ≡ next =
    one_change h t state (next_of h t) next (change_read h t state (next_of h t) e (next_is h t z (ahead h.offset y))) c in
    simp (right_windows h w 7 (omega arith), y, z) (rw (e, n) refl)

pub hours_are_answered : HoursAreAnswered
hours_are_answered h t number state next = (λ e. rw e at (says h t), said h t number state next)
