-- Where a reading is refused: the data end where a byte is still to come, or a byte stands there that begins a negative count or length, or one that
-- is no listed letter. One law for every layout.
use mathlib.Core.Path.{◌≡◌, refl, sym, ap, ◌∙◌}
use mathlib.Core.Bool.{true, false}
use mathlib.Core.List.{List, [], ◌∷◌, ◌++◌, append_assoc}
use mathlib.Core.Logic.{◌⊎◌, inl, inr}
use mathlib.Core.Option.{Option, some, none}
use Prim.Native.Nat.{ℕ, zero, suc, ◌+◌, ◌-◌, ◌<◌, ◌≤◌, ◌^◌}
use native.Mathlib.Omega.{arith}
use lib.ListN.{length, take, drop, replicate, length-append, length-replicate, length-drop, length-take, drop_of_length-le}
use lib.Seq.{take_all, drop-drop, drop-append_seam}
use lib.Dec.{eqb, ltb}
use lib.IntN.{ℤ, pos}
use lib.Pow.{are_bytes}
use borrow.Author.Tests.{ne_eqb, eqb-true, le-leb, leb-true, ltb-true, ltb-false}
use Rattle.wire.specs.Bytes.{pick, at, be, be_from, be_bytes}
use Rattle.wire.specs.Field.{field_at, signed_of}
use Rattle.wire.specs.Find.{index_of}
use Rattle.wire.specs.Int.{half, is_negative, int_at, int, int_bytes}
use Rattle.wire.proofs.Laws.{by_test, impossible, below_pow}
use Rattle.wire.proofs.FieldLaws.{be_bytes_one, field_whole, field_cut, int_whole, part_bytes, halves, first_byte}
use Rattle.wire.proofs.FindLaws.{all_passed}
use Rattle.rows.specs.Layout.{Layout, Letters, number, integer, name, value, many, both, nothing, letter, no_other, or, Value, Choice, Read}
use Rattle.rows.specs.Layout.{got, refused, cut, wrong, after, mapped, number_by, name_by, count_at, bytes_at, times_at, read_at, choose_at, all_bytes}
use Rattle.rows.specs.Layout.{bytes_of, letter_of, under_of, All, Fits, ChoiceFits, Proper, ProperLetters, Stands}
use Rattle.rows.specs.Refusals.{MayFollow}
use Rattle.rows.proofs.BothWays.{written_is_read, read_is_written}
use Rattle.rows.proofs.Places.{number_some, number_there, integer_there, count_read, count_there, none_stands, join}
use Rattle.rows.proofs.Steps.{letter_got, count_cut}
use Rattle.rows.proofs.Padded.{bytes_both, bytes_zeros, bytes_behind, bytes_front, first_large, first_small}

-- ---- layouts of which something can be sent: each letter is no zero byte, and each list of letters has one

abbrev mutual
  pub Filled : Layout → Type 0
  Filled (number n) = Unit
  Filled integer = Unit
  Filled name = Unit
  Filled value = Unit
  Filled (many n a b) = Filled a × Filled b
  Filled (both a b) = Filled a × Filled b
  Filled nothing = Unit
  Filled (letter ls) = HasLetter ls × FilledLetters ls

  pub FilledLetters : Letters → Type 0
  FilledLetters no_other = Unit
  FilledLetters (or c a ls) = (0 < c) × Filled a × FilledLetters ls

  pub HasLetter : Letters → Type 0
  HasLetter no_other = ⊥
  HasLetter (or c a ls) = Unit

half_above : (n : ℕ) → 0 < n → 0 < half n
half_above n h = omega (arith, halves n h, below_pow n)

-- something of a layout that can be sent
mutual
  unfolding Fits

  some_value : (l : Layout) → Proper l → Filled l → (v : Value l) × Fits l v
  some_value (number n) p f = (0, below_pow n)
  some_value integer p f = (pos 0, omega arith)
  some_value name p f = ([], tt)
  some_value value p f = ([], omega arith)
  some_value (many n a b) p f = let w = some_value a p.1 f.0 in ((w.0, []), (half_above n p.0, w.1, tt))
  some_value (both a b) p f =
      let v = some_value a p.0 f.0 in
      let w = some_value b p.1 f.1 in
      ((v.0, w.0), (v.1, w.1))
  some_value nothing p f = (tt, tt)
  some_value (letter ls) p f = some_choice ls p f

  some_choice : (ls : Letters) → ProperLetters ls → HasLetter ls × FilledLetters ls → (w : Choice ls) × ChoiceFits ls w
  some_choice no_other p f = absurd f.0
  some_choice (or c a ls) p f = let v = some_value a p.1 f.1.1 in (inl v.0, v.1)

-- ---- the three ways to be refused

-- byte c may stand behind x
abbrev pub May : Layout → List ℕ → ℕ → Type 0
May l x c = MayFollow (λ v. Fits l v) (λ v. bytes_of l v) x c

-- byte b behind x is refused with n, whatever follows
abbrev pub Never : Layout → ℕ → List ℕ → ℕ → Type 0
Never l n x b = (s : List ℕ) (i : ℕ) (t : List ℕ) → drop i s ≡ x ++ (b ∷ t) → read_at l s i ≡ refused n

pub data Bad (l : Layout) (d : List ℕ) (n : ℕ) : Type 0 where
  ends : n ≡ 26 → (c : ℕ) → May l d c → Bad l d n
  negative : n ≡ 26 → (x : List ℕ) (b : ℕ) (t : List ℕ) → d ≡ x ++ (b ∷ t) → Never l 26 x b → May l x 0 → Bad l d n
  unlisted : n ≡ 27 → (x : List ℕ) (b : ℕ) (t : List ℕ) (c : ℕ) → d ≡ x ++ (b ∷ t) → May l x c → Never l 27 x b → Never l 27 x 0 → Bad l d n

-- ---- a layout in another, behind the bytes p

pub record Inside (a l : Layout) (p : List ℕ) : Type 0 where
  pub wrapped : (v : Value a) → Fits a v → (w : Value l) × (q : List ℕ) × Fits l w × (bytes_of l w ≡ p ++ (bytes_of a v ++ q))
  pub passes : (s : List ℕ) (i : ℕ) (z : List ℕ) (n : ℕ) → drop i s ≡ p ++ z → read_at a s (i + length p) ≡ refused n → read_at l s i ≡ refused n

module _ (a l : Layout) (p : List ℕ) (k : Inside a l p) where
  may_inside : (x : List ℕ) (c : ℕ) → May a x c → May l (p ++ x) c
  may_inside x c m =
      let w = k.wrapped m.sent m.fits in
      record {
        sent = w.0;
        fits = w.2;
        rest = m.rest ++ w.1;
        whole = w.3 ∙ rw m.whole (simp append_assoc);
      }

  never_inside : (n : ℕ) (x : List ℕ) (b : ℕ) → Never a n x b → Never l n (p ++ x) b
  never_inside n x b h s i t e =
      let e₁ : drop i s ≡ p ++ (x ++ (b ∷ t)) = e ∙ append_assoc p x (b ∷ t) in
      let d : drop (i + length p) s ≡ x ++ (b ∷ t) = sym (drop-drop (length p) i s) ∙ (ap (drop (length p)) e₁ ∙ drop-append_seam p (x ++ (b ∷ t))) in
      k.passes s i (x ++ (b ∷ t)) n e₁ (h s (i + length p) t d)

  bad_inside : (d : List ℕ) (n : ℕ) → Bad a d n → Bad l (p ++ d) n
  bad_inside d n (ends e c m) = ends e c (may_inside d c m)
  bad_inside d n (negative e x b t f h z) =
      negative e (p ++ x) b t (rw f (sym (append_assoc p x (b ∷ t)))) (never_inside 26 x b h) (may_inside x 0 z)
  bad_inside d n (unlisted e x b t c f m h z) =
      unlisted e (p ++ x) b t c (rw f (sym (append_assoc p x (b ∷ t)))) (may_inside x c m) (never_inside 27 x b h) (never_inside 27 x 0 z)

-- ---- what was refused

by_refused : {A B X : Type 0} (r : Read A) (go : A → ℕ → Read B) (n : ℕ) → after r go ≡ refused n
    → (r ≡ refused n → X) → ((v : A) (j : ℕ) → r ≡ got v j → go v j ≡ refused n → X) → X
by_refused (got v j) go n e f g = g v j refl e
by_refused (refused m) go n e f g = f cc

pub mapped_refused : {A B : Type 0} (f : A → B) (r : Read A) (n : ℕ) → mapped f r ≡ refused n → r ≡ refused n
mapped_refused f (got v j) n e = impossible cc
mapped_refused f (refused m) n e = cc

number_none : {A : Type 0} (n i : ℕ) (o : Option A) (m : ℕ) → number_by n i o ≡ refused m → (o ≡ none) × (m ≡ 26)
number_none n i none m e = (refl, (cc))
number_none n i (some v) m e = impossible cc

cut_short : (n : ℕ) (s : List ℕ) (i : ℕ) → field_at n s i ≡ none → length s < i + n
unfolding field_at
cut_short n s i e =
    by_test (ltb (length s) (i + n))
    (λ h. ltb-true _ _ h)
    (λ h. let w = field_whole n s i (ltb-false _ _ h) in impossible cc)

-- n bytes at most, and zero bytes up to n
module _ (s : List ℕ) (b : are_bytes s ≡ true) (i n : ℕ) (z : 0 < n) (h : length s < i + n) where
  unfoldable pub padded : List ℕ
  padded = drop i s ++ (0 ∷ replicate (n - 1 - length (drop i s)) 0)

  pub padded_bytes : are_bytes padded ≡ true
  unfolding padded
  padded_bytes = bytes_both (drop i s) _ (bytes_behind i s b) (bytes_zeros (n - 1 - length (drop i s)))

  pub padded_length : length padded ≡ n
  unfolding padded
  padded_length =
      let k : ℕ = n - 1 - length (drop i s) in
      omega (arith, length-append (drop i s) (0 ∷ replicate k 0), length-drop i s, length-replicate {0} {A = ℕ} k 0)

  pub padded_ends : {x : List ℕ} → padded ≡ x → drop i s ++ (0 ∷ replicate (n - 1 - length (drop i s)) 0) ≡ x
  unfolding padded
  padded_ends e = e

  padded_whole : at padded 0 n ≡ padded
  padded_whole = take_all n padded (omega (arith, padded_length))

  -- as a number
  pub number_padded : (v : ℕ) × (v < 256 ^ n) × (padded ≡ be_bytes n v)
  number_padded =
      let w = part_bytes padded 0 n padded_bytes (omega (arith, padded_length)) in
      (be (at padded 0 n), w.1, sym (w.0 ∙ padded_whole))

pub append_none : (x : List ℕ) → x ++ [] ≡ x
append_none [] = refl
append_none (a ∷ x) = ap (λ (l : List ℕ). a ∷ l) (append_none x)

number_bad : (n : ℕ) → 0 < n → (s : List ℕ) → are_bytes s ≡ true → (i : ℕ) → length s < i + n → May (number n) (drop i s) 0
unfolding bytes_of Fits
number_bad n z s b i h =
    let w = number_padded s b i n z h in
    record {
      sent = w.0;
      fits = w.1;
      rest = replicate (n - 1 - length (drop i s)) 0;
      whole = sym (padded_ends s b i n z h w.2);
    }

integer_bad : (s : List ℕ) → are_bytes s ≡ true → (i : ℕ) → length s < i + 4 → May integer (drop i s) 0
unfolding bytes_of Fits
integer_bad s b i h =
    let o : 0 < 4 = omega arith in
    let q : List ℕ = padded s b i 4 o h in
    let l : length q ≡ 4 = padded_length s b i 4 o h in
    let z : ℤ = int 4 (be (at q 0 4)) in
    let w = integer_there q 0 z (padded_bytes s b i 4 o h) (int_whole 4 q 0 (omega (arith, l))) in
    let d : drop 4 q ≡ [] = drop_of_length-le q {i = 4} (omega (arith, l)) in
    let e : q ≡ int_bytes 4 z = w.1.whole ∙ (ap (λ (x : List ℕ). int_bytes 4 z ++ x) d ∙ append_none (int_bytes 4 z)) in
    record { sent = z; fits = w.0; rest = replicate (4 - 1 - length (drop i s)) 0; whole = sym (padded_ends s b i 4 o h e) }

-- ---- counts and lengths

-- a first byte from 128 on is refused, whatever follows
count_never : (n : ℕ) → 0 < n → (b : ℕ) → 128 ≤ b → (s : List ℕ) (i : ℕ) (t : List ℕ) → drop i s ≡ b ∷ t → count_at n s i ≡ cut
unfolding count_at
count_never zero z b h s i t e = absurd (omega arith)
count_never (suc m) z b h s i t e =
    by_test (ltb (length s) (i + suc m))
    (λ g. rw (field_cut (suc m) s i (ltb-true _ _ g)))
    (λ g.
    let l : i + suc m ≤ length s = ltb-false _ _ g in
    let a : at s i (suc m) ≡ b ∷ take m t = ap (take (suc m)) e in
    let y : length (take m t) ≡ m = omega (arith, length-take m t, length-drop i s, ap length e) in
    let w : half (suc m) ≤ be (at s i (suc m)) = rw a (rw y at (first_large b (take m t) h)) in
    rw (field_whole (suc m) s i l) (simp (le-leb _ _ w)))

-- the data end in a count that is not negative, or have such a first byte
record EndsIn (n : ℕ) (d : List ℕ) : Type 0 where
  count : ℕ
  below : count < half n
  next : ℕ
  rest : List ℕ
  whole : be_bytes n count ≡ d ++ (next ∷ rest)

record Large (d : List ℕ) : Type 0 where
  first : ℕ
  rest : List ℕ
  there : d ≡ first ∷ rest
  large : 128 ≤ first

zero_bytes : (n : ℕ) → 0 < n → (y : List ℕ) × (be_bytes n 0 ≡ 0 ∷ y)
unfolding be_bytes
zero_bytes zero h = absurd (omega arith)
zero_bytes (suc zero) h = ([], refl)
zero_bytes (suc (suc n)) h = let w = zero_bytes (suc n) (omega arith) in (w.0 ++ (0 ∷ []), rw w.1)

-- a count from its first byte, padded where it is cut
short_count : (m : ℕ) (s : List ℕ) → are_bytes s ≡ true → (i : ℕ) → length s < i + suc m → (d : List ℕ) → drop i s ≡ d → EndsIn (suc m) d ⊎ Large d
short_count m s b i h [] e =
    let w = zero_bytes (suc m) (omega arith) in
    inl (record { count = 0; below = half_above (suc m) (omega arith); next = 0; rest = w.0; whole = w.1 })
short_count m s b i h (x ∷ t) e =
    by_test (ltb x 128)
    (λ g.
    let l : List ℕ = t ++ (0 ∷ replicate (m - 1 - length t) 0) in
    let o : length t < m = omega (arith, length-drop i s, ap length e) in
    let n : length l ≡ m = omega (arith, length-append t (0 ∷ replicate (m - 1 - length t) 0), length-replicate {0} {A = ℕ} (m - 1 - length t) 0) in
    let bt : are_bytes (x ∷ t) ≡ true = rw e at (bytes_behind i s b) in
    let bl : are_bytes l ≡ true = bytes_both t (0 ∷ replicate (m - 1 - length t) 0) (first_byte x t bt).1 (bytes_zeros (m - 1 - length t)) in
    let bx : are_bytes (x ∷ l) ≡ true = bytes_both (x ∷ t) (0 ∷ replicate (m - 1 - length t) 0) bt (bytes_zeros (m - 1 - length t)) in
    let p = part_bytes (x ∷ l) 0 (suc m) bx (omega (arith, n)) in
    let a : at (x ∷ l) 0 (suc m) ≡ x ∷ l = take_all (suc m) (x ∷ l) (omega (arith, n)) in
    let v : be (at (x ∷ l) 0 (suc m)) < half (suc m) = rw a (rw n at (first_small x l bl (ltb-true _ _ g))) in
    inl (record {
      count = be (at (x ∷ l) 0 (suc m));
      below = v;
      next = 0;
      rest = replicate (m - 1 - length t) 0;
      whole = p.0 ∙ a;
    }))
    (λ g. inr (record { first = x; rest = t; there = refl; large = ltb-false _ _ g }))

-- a count that is there and negative
negative_count : (m : ℕ) (s : List ℕ) → are_bytes s ≡ true → (i : ℕ) → i + suc m ≤ length s → half (suc m) ≤ be (at s i (suc m))
    → (d : List ℕ) → drop i s ≡ d → Large d
negative_count m s b i h v [] e = absurd (omega (arith, length-drop i s, ap length e))
negative_count m s b i h v (x ∷ t) e =
    by_test (ltb x 128)
    (λ g.
    let a : at s i (suc m) ≡ x ∷ take m t = ap (take (suc m)) e in
    let y : length (take m t) ≡ m = omega (arith, length-take m t, length-drop i s, ap length e) in
    let bt : are_bytes (x ∷ t) ≡ true = rw e at (bytes_behind i s b) in
    let bk : are_bytes (take m t) ≡ true = bytes_front m t (first_byte x t bt).1 in
    let w : be (at s i (suc m)) < half (suc m) = rw a (rw y at (first_small x (take m t) bk (ltb-true _ _ g))) in
    absurd (omega (arith, v, w)))
    (λ g. record { first = x; rest = t; there = refl; large = ltb-false _ _ g })

same_number : (m : ℕ) → ◌≡◌ {A = Read ℕ} (refused 26) (refused m) → m ≡ 26
same_number m e = cc

count_refused : (n : ℕ) → 0 < n → (s : List ℕ) → are_bytes s ≡ true → (i m : ℕ) → count_at n s i ≡ refused m
    → (m ≡ 26) × (EndsIn n (drop i s) ⊎ Large (drop i s))
unfolding count_at
count_refused zero z s b i m e = absurd (omega arith)
count_refused (suc k) z s b i m e =
    by_test (ltb (length s) (i + suc k))
    (λ g.
    let f : count_at (suc k) s i ≡ refused m = e in
    let c = count_cut s i (suc k) (field_cut (suc k) s i (ltb-true _ _ g)) in
    let m26 : m ≡ 26 = cc in
    (m26, short_count k s b i (ltb-true _ _ g) (drop i s) refl))
    (λ g.
    let l : i + suc k ≤ length s = ltb-false _ _ g in
    let w : pick (is_negative (suc k) (be (at s i (suc k)))) cut (got (be (at s i (suc k))) (i + suc k)) ≡ refused m =
    rw (field_whole (suc k) s i l) at e in
    by_test (is_negative (suc k) (be (at s i (suc k))))
    (λ q. (same_number m (rw q at w), inr (negative_count k s b i l (leb-true _ _ q) (drop i s) refl)))
    (λ q. let r : got (be (at s i (suc k))) (i + suc k) ≡ refused m = rw q at w in impossible cc))

-- ---- so many times the same

all_both : {A : Type 0} (f : A → List ℕ) (xs ys : List A) → all_bytes f (xs ++ ys) ≡ all_bytes f xs ++ all_bytes f ys
unfolding all_bytes
all_both f [] ys = refl
all_both f (x ∷ xs) ys = rw (all_both f xs ys) (sym (append_assoc (f x) (all_bytes f xs) (all_bytes f ys)))

all_fit : {A : Type 0} (P : A → Type 0) (xs ys : List A) → All P xs → All P ys → All P (xs ++ ys)
all_fit P [] ys a b = b
all_fit P (x ∷ xs) ys a b = (a.0, all_fit P xs ys a.1 b)

all_same : {A : Type 0} (P : A → Type 0) (n : ℕ) (x : A) → P x → All P (replicate n x)
all_same P zero x p = tt
all_same P (suc n) x p = (p, all_same P n x p)

-- those that were read, and the one that is refused
record Item (b : Layout) (s : List ℕ) (k q n : ℕ) : Type 0 where
  done : List (Value b)
  left : ℕ
  place : ℕ
  fit : All (λ v. Fits b v) done
  stand : Stands s q (all_bytes (λ v. bytes_of b v) done) place
  bad : read_at b s place ≡ refused n
  as_many : length done + suc left ≡ k

times_refused : (b : Layout) → Proper b → (s : List ℕ) → are_bytes s ≡ true → (k q n : ℕ)
    → times_at (λ r. read_at b s r) k q ≡ refused n → Item b s k q n
unfolding times_at all_bytes
times_refused b p s bs zero q n e = impossible cc
times_refused b p s bs (suc k) q n e =
    by_refused (read_at b s q) (λ v j. mapped (λ vs. v ∷ vs) (times_at (λ r. read_at b s r) k j)) n e
    (λ h. record { done = []; left = k; place = q; fit = tt; stand = none_stands s q; bad = h; as_many = omega arith })
    (λ v j g h.
    let w = read_is_written b p s bs q v j g in
    let t = times_refused b p s bs k j n (mapped_refused (λ vs. v ∷ vs) (times_at (λ r. read_at b s r) k j) n h) in
    record {
      done = v ∷ t.done;
      left = t.left;
      place = t.place;
      fit = (w.0, t.fit);
      stand = join s q (bytes_of b v) j (all_bytes (λ v. bytes_of b v) t.done) t.place w.1 t.stand;
      bad = t.bad;
      as_many = omega (arith, t.as_many);
    })

-- those in front are read, and then one is refused
times_pass : (b : Layout) → Proper b → (s : List ℕ) (vs : List (Value b)) (m q n : ℕ) (z : List ℕ) → All (λ v. Fits b v) vs
    → drop q s ≡ all_bytes (λ v. bytes_of b v) vs ++ z
    → read_at b s (q + length (all_bytes (λ v. bytes_of b v) vs)) ≡ refused n → times_at (λ r. read_at b s r) (length vs + suc m) q ≡ refused n
unfolding times_at all_bytes
times_pass b p s [] m q n z a d e =
    let o : 0 + suc m ≡ suc m = omega arith in
    let u : q + 0 ≡ q = omega arith in
    rw o (rw (rw u at e))
times_pass b p s (v ∷ vs) m q n z a d e =
    let o : suc (length vs) + suc m ≡ suc (length vs + suc m) = omega arith in
    let d₁ : drop q s ≡ bytes_of b v ++ (all_bytes (λ v. bytes_of b v) vs ++ z) = d ∙ append_assoc (bytes_of b v) (all_bytes (λ v. bytes_of b v) vs) z in
    let j : ℕ = q + length (bytes_of b v) in
    let t : drop j s ≡ all_bytes (λ v. bytes_of b v) vs ++ z =
    sym (drop-drop (length (bytes_of b v)) q s) ∙ (ap (drop (length (bytes_of b v))) d₁ ∙ drop-append_seam (bytes_of b v) _) in
    let g : read_at b s q ≡ got v j =
    written_is_read b p s q v j a.0 (record { whole = d₁ ∙ ap (λ (l : List ℕ). bytes_of b v ++ l) (sym t); ends = refl }) in
    let u : q + length (bytes_of b v ++ all_bytes (λ v. bytes_of b v) vs) ≡ j + length (all_bytes (λ v. bytes_of b v) vs) =
    omega (arith, length-append (bytes_of b v) (all_bytes (λ v. bytes_of b v) vs)) in
    rw (o, g) (rw (times_pass b p s vs m j n z a.1 t (rw u at e)))

-- ---- each layout in those that are made of it

module _ (s : List ℕ) (i : ℕ) (p z : List ℕ) (d : drop i s ≡ p ++ z) where
  pub behind : drop (i + length p) s ≡ z
  behind = sym (drop-drop (length p) i s) ∙ (ap (drop (length p)) d ∙ drop-append_seam p z)

  in_front : Stands s i p (i + length p)
  in_front = record { whole = d ∙ ap (λ (l : List ℕ). p ++ l) (sym behind); ends = refl }

left_inside : (a b : Layout) → Proper b → Filled b → Inside a (both a b) []
unfolding read_at bytes_of Fits
left_inside a b p f =
    let w = some_value b p f in
    record {
      wrapped = λ v g. ((v, w.0), bytes_of b w.0, (g, w.1), refl);
      passes = λ s i z n d e.
          let o : i + 0 ≡ i = omega arith in
          rw (rw o at e);
    }

pub right_inside : (a b : Layout) → Proper a → (v : Value a) → Fits a v → Inside b (both a b) (bytes_of a v)
unfolding read_at bytes_of Fits
right_inside a b p v f =
    record {
      wrapped = λ w g. ((v, w), [], (f, g), ap (λ (l : List ℕ). bytes_of a v ++ l) (sym (append_none (bytes_of b w))));
      passes = λ s i z n d e. rw (written_is_read a p s i v (i + length (bytes_of a v)) f (in_front s i (bytes_of a v) z d), e);
    }

module _ (n : ℕ) (a b : Layout) (pn : 0 < n) (pa : Proper a) (pb : Proper b) (fb : Filled b) (k : ℕ) (h : k < half n) where
  first_inside : Inside a (many n a b) (be_bytes n k)
  unfolding read_at bytes_of Fits
  first_inside =
      let w = some_value b pb fb in
      let l : length (replicate k w.0) ≡ k = length-replicate k w.0 in
      record {
        wrapped = λ v g. (
          (v, replicate k w.0),
          all_bytes (λ x. bytes_of b x) (replicate k w.0),
          (rw l h, g, all_same (λ x. Fits b x) k w.0 w.1),
          rw l,
        );
        passes = λ s i z m d e. rw (count_read s n i k (i + length (be_bytes n k)) pn h (in_front s i (be_bytes n k) z d), e);
      }

  module _ (v : Value a) (g : Fits a v) (vs : List (Value b)) (m : ℕ) (gs : All (λ x. Fits b x) vs) (c : length vs + suc m ≡ k) where
    pub item_inside : Inside b (many n a b) (be_bytes n k ++ (bytes_of a v ++ all_bytes (λ x. bytes_of b x) vs))
    unfolding read_at bytes_of Fits all_bytes
    item_inside =
        let w = some_value b pb fb in
        let rs : List (Value b) = replicate m w.0 in
        let all : List (Value b) → List ℕ = λ xs. all_bytes (λ x. bytes_of b x) xs in
        record {
          wrapped = λ u f.
              let l : length (vs ++ (u ∷ rs)) ≡ k = omega (arith, length-append vs (u ∷ rs), length-replicate m w.0, c) in (
                (v, vs ++ (u ∷ rs)),
                all rs,
                (rw l h, g, all_fit (λ x. Fits b x) vs (u ∷ rs) gs (f, all_same (λ x. Fits b x) m w.0 w.1)),
                rw (l, all_both (λ x. bytes_of b x) vs (u ∷ rs)) (simp append_assoc),
              );
          passes = λ s i z q d e.
              let ba : List ℕ = bytes_of a v in
              let bn : List ℕ = be_bytes n k in
              let d₀ : drop i s ≡ bn ++ ((ba ++ all vs) ++ z) = d ∙ append_assoc bn (ba ++ all vs) z in
              let j : ℕ = i + length bn in
              let d₁ : drop j s ≡ ba ++ (all vs ++ z) = behind s i bn ((ba ++ all vs) ++ z) d₀ ∙ append_assoc ba (all vs) z in
              let r : ℕ = j + length ba in
              let d₂ : drop r s ≡ all vs ++ z = behind s j ba (all vs ++ z) d₁ in
              let o : i + length (bn ++ (ba ++ all vs)) ≡ r + length (all vs) =
              omega (arith, length-append bn (ba ++ all vs), length-append ba (all vs)) in
              let t : times_at (λ x. read_at b s x) (length vs + suc m) r ≡ refused q = times_pass b pb s vs m r q z gs d₂ (rw o at e) in
              rw (
                count_read s n i k j pn h (in_front s i bn ((ba ++ all vs) ++ z) d₀),
                written_is_read a pa s j v r g (in_front s j ba (all vs ++ z) d₁),
              )
              (rw (rw c at t));
        }

-- ---- letters

-- the fields under a letter
pub record Under (a : Layout) (ls : Letters) (b : ℕ) : Type 0 where
  pub wrapped : (v : Value a) → Fits a v → (w : Choice ls) × ChoiceFits ls w × (letter_of ls w ≡ b) × (under_of ls w ≡ bytes_of a v)
  pub passes : (s : List ℕ) (i n : ℕ) → read_at a s i ≡ refused n → choose_at ls b s i ≡ refused n

-- a letter that is not listed, or fields under it that are refused
data BadChoice (ls : Letters) (b : ℕ) (d : List ℕ) (n : ℕ) : Type 0 where
  not_listed : n ≡ 27 → ((s : List ℕ) (i : ℕ) → choose_at ls b s i ≡ wrong) → BadChoice ls b d n
  under : (a : Layout) → Under a ls b → Bad a d n → BadChoice ls b d n

zero_unlisted : (ls : Letters) → FilledLetters ls → (s : List ℕ) (i : ℕ) → choose_at ls 0 s i ≡ wrong
unfolding read_at
zero_unlisted no_other f s i = refl
zero_unlisted (or c a ls) f s i = simp (ne_eqb 0 c (λ e. omega (arith, e, f.0))) (rw (zero_unlisted ls f.2 s i))

pub first_field : (s : List ℕ) (i b : ℕ) (t : List ℕ) → drop i s ≡ b ∷ t → field_at 1 s i ≡ some b
unfolding be be_from
first_field s i b t e =
    let l : i + 1 ≤ length s = omega (arith, length-drop i s, ap length e) in
    field_whole 1 s i l ∙ ap some (ap (λ (x : List ℕ). be (take 1 x)) e ∙ omega arith)

pub under_inside : (a : Layout) (ls : Letters) (b : ℕ) → Under a ls b → Inside a (letter ls) (b ∷ [])
unfolding bytes_of Fits
under_inside a ls b u =
    record {
      wrapped = λ v f.
          let w = u.wrapped v f in
          (w.0, [], w.1, rw (w.2, w.3) (ap (λ (l : List ℕ). b ∷ l) (sym (append_none (bytes_of a v)))));
      passes = λ s i z n d e. letter_got s i ls b (first_field s i b z d) ∙ u.passes s (i + 1) n e;
    }

pub deeper : (a : Layout) (c : ℕ) (o : Layout) (ls : Letters) (b : ℕ) → eqb b c ≡ false → Under a ls b → Under a (or c o ls) b
unfolding read_at bytes_of Fits
deeper a c o ls b g u =
    record {
      wrapped = λ v f. let w = u.wrapped v f in (inr w.0, w.1, w.2, w.3);
      passes = λ s i n e. rw g (rw (u.passes s i n e));
    }

pub here : (c : ℕ) (a : Layout) (ls : Letters) (b : ℕ) → eqb b c ≡ true → Under a (or c a ls) b
unfolding read_at bytes_of Fits
here c a ls b g =
    record {
      wrapped = λ v f. (inl v, f, sym (eqb-true b c g), refl);
      passes = λ s i n e. rw g (rw e);
    }

-- ---- every layout

ends_in : (n : ℕ) (l : Layout) (d : List ℕ) → n ≡ 26 → (c : ℕ) (v : Value l) → Fits l v → (y : List ℕ) → bytes_of l v ≡ d ++ (c ∷ y) → Bad l d n
ends_in n l d e c v f y w = ends e c (record { sent = v; fits = f; rest = y; whole = w })

value_bad : (s : List ℕ) → are_bytes s ≡ true → (i n : ℕ) → n ≡ 26 → EndsIn 4 (drop i s) ⊎ Large (drop i s) → Bad value (drop i s) n
unfolding read_at bytes_of Fits
value_bad s b i n e (inl k) =
    let l : length (replicate {A = ℕ} k.count 0) ≡ k.count = length-replicate {0} {A = ℕ} k.count 0 in
    ends_in n value (drop i s) e k.next (replicate k.count 0) (rw l k.below) (k.rest ++ replicate k.count 0)
    (rw (l, k.whole) (append_assoc (drop i s) (k.next ∷ k.rest) (replicate k.count 0)))
value_bad s b i n e (inr k) =
    let o = zero_bytes 4 (omega arith) in
    negative e [] k.first k.rest k.there (λ r j t d. rw (count_never 4 (omega arith) k.first k.large r j t d))
    (record { sent = []; fits = omega arith; rest = o.0 ++ []; whole = rw o.1 })

many_bad : (n : ℕ) (a b : Layout) → Proper (many n a b) → Filled (many n a b) → (s : List ℕ) (i m : ℕ) → m ≡ 26
    → EndsIn n (drop i s) ⊎ Large (drop i s) → Bad (many n a b) (drop i s) m
unfolding read_at bytes_of Fits
many_bad n a b p f s i m e (inl k) =
    let v = some_value a p.1 f.0 in
    let w = some_value b p.2 f.1 in
    let l : length (replicate k.count w.0) ≡ k.count = length-replicate k.count w.0 in
    let q : List ℕ = bytes_of a v.0 ++ all_bytes (λ x. bytes_of b x) (replicate k.count w.0) in
    ends_in m (many n a b) (drop i s) e k.next (v.0, replicate k.count w.0)
    (rw l k.below, v.1, all_same (λ x. Fits b x) k.count w.0 w.1) (k.rest ++ q)
    (rw (l, k.whole) (append_assoc (drop i s) (k.next ∷ k.rest) q))
many_bad n a b p f s i m e (inr k) =
    let v = some_value a p.1 f.0 in
    let o = zero_bytes n p.0 in
    negative e [] k.first k.rest k.there (λ r j t d. rw (count_never n p.0 k.first k.large r j t d))
    (record {
      sent = (v.0, []);
      fits = (half_above n p.0, v.1, tt);
      rest = o.0 ++ (bytes_of a v.0 ++ all_bytes (λ x. bytes_of b x) []);
      whole = rw o.1;
    })

value_short : (s : List ℕ) → are_bytes s ≡ true → (i n k j : ℕ) → (k < half 4) × Stands s i (be_bytes 4 k) j → bytes_at k s j ≡ refused n
    → Bad value (drop i s) n
unfolding bytes_at bytes_of Fits
value_short s b i n k j c e =
    by_test (ltb (length s - j) k)
    (λ g.
    let h : length s - j < k = ltb-true _ _ g in
    let x : List ℕ = drop j s in
    let v : List ℕ = x ++ (0 ∷ replicate (k - 1 - length x) 0) in
    let m : ℕ = k - 1 - length x in
    let l : length v ≡ k = omega (arith, length-append x (0 ∷ replicate m 0), length-drop j s, length-replicate {0} {A = ℕ} m 0) in
    let q : ◌≡◌ {A = Read (List ℕ)} cut (refused n) = rw g at e in
    let o : n ≡ 26 = cc in
    ends_in n value (drop i s) o 0 v (rw l c.0) (replicate (k - 1 - length x) 0)
    (rw (l, c.1.whole) (sym (append_assoc (be_bytes 4 k) x (0 ∷ replicate (k - 1 - length x) 0)))))
    (λ g. let q : got (at s j k) (j + k) ≡ refused n = rw g at e in impossible cc)

name_bad : (s : List ℕ) (i : ℕ) (o : Option ℕ) (n : ℕ) → index_of 0 (drop i s) ≡ o → name_by s i o ≡ refused n → Bad name (drop i s) n
unfolding bytes_of Fits
name_bad s i none n d e = ends_in n name (drop i s) (cc) 0 (drop i s) (all_passed (drop i s) d) [] refl
name_bad s i (some k) n d e = impossible cc

int_short : (s : List ℕ) (i : ℕ) (o : Option ℕ) → field_at 4 s i ≡ o → signed_of (half 4) o ≡ none → length s < i + 4
int_short s i none d e = cut_short 4 s i d
int_short s i (some v) d e = impossible cc

letter_bad : (ls : Letters) → ProperLetters ls → HasLetter ls × FilledLetters ls → (b : ℕ) (d : List ℕ) (n : ℕ) → BadChoice ls b d n
    → Bad (letter ls) (b ∷ d) n
unfolding bytes_of Fits
letter_bad ls p f b d n (not_listed e h) =
    let v = some_choice ls p f in
    unlisted e [] b d (letter_of ls v.0) refl (record { sent = v.0; fits = v.1; rest = under_of ls v.0; whole = refl })
    (λ s i t q. letter_got s i ls b (first_field s i b t q) ∙ h s (i + 1))
    (λ s i t q. letter_got s i ls 0 (first_field s i 0 t q) ∙ zero_unlisted ls f.1 s (i + 1))
letter_bad ls p f b d n (under a u h) = bad_inside a (letter ls) (b ∷ []) (under_inside a ls b u) d n h

choice_next : (ls : Letters) (c : ℕ) (a : Layout) (b : ℕ) (d : List ℕ) (n : ℕ) → eqb b c ≡ false → BadChoice ls b d n → BadChoice (or c a ls) b d n
unfolding read_at
choice_next ls c a b d n g (not_listed e h) = not_listed e (λ s i. rw g (rw (h s i)))
choice_next ls c a b d n g (under o u h) = under o (deeper o c a ls b g u) h

mutual
  unfolding read_at bytes_of Fits

  pub refused_bad : (l : Layout) → Proper l → Filled l → (s : List ℕ) → are_bytes s ≡ true → (i n : ℕ) → read_at l s i ≡ refused n
      → Bad l (drop i s) n
  refused_bad (number k) p f s b i n e =
      let w = number_none k i (field_at k s i) n e in
      ends w.1 0 (number_bad k p s b i (cut_short k s i w.0))
  refused_bad integer p f s b i n e =
      let w = number_none 4 i (int_at 4 s i) n e in
      ends w.1 0 (integer_bad s b i (int_short s i (field_at 4 s i) refl w.0))
  refused_bad name p f s b i n e = name_bad s i (index_of 0 (drop i s)) n refl e
  refused_bad value p f s b i n e =
      by_refused (count_at 4 s i) (λ k j. bytes_at k s j) n e
      (λ h. let w = count_refused 4 (omega arith) s b i n h in value_bad s b i n w.0 w.1)
      (λ k j g h. value_short s b i n k j (count_there s 4 i k j b g) h)
  refused_bad (many k a b) p f s bs i n e =
      by_refused (count_at k s i) (λ m j. after (read_at a s j) (λ v q. mapped (λ vs. (v, vs)) (times_at (λ r. read_at b s r) m q))) n e
      (λ h. let w = count_refused k p.0 s bs i n h in many_bad k a b p f s i n w.0 w.1)
      (λ m j g h.
      let c = count_there s k i m j bs g in
      by_refused (read_at a s j) (λ v q. mapped (λ vs. (v, vs)) (times_at (λ r. read_at b s r) m q)) n h
      (λ r. rw c.1.whole (bad_inside a (many k a b) (be_bytes k m) (first_inside k a b p.0 p.1 p.2 f.1 m c.0) (drop j s) n
      (refused_bad a p.1 f.0 s bs j n r)))
      (λ v q r t.
      let w = read_is_written a p.1 s bs j v q r in
      let u = times_refused b p.2 s bs m q n (mapped_refused (λ vs. (v, vs)) (times_at (λ r. read_at b s r) m q) n t) in
      let front : List ℕ = be_bytes k m ++ (bytes_of a v ++ all_bytes (λ x. bytes_of b x) u.done) in
      let d = join s i (be_bytes k m) j (bytes_of a v ++ all_bytes (λ x. bytes_of b x) u.done) u.place c.1
      (join s j (bytes_of a v) q (all_bytes (λ x. bytes_of b x) u.done) u.place w.1 u.stand) in
      rw d.whole (bad_inside b (many k a b) front
      (item_inside k a b p.0 p.1 p.2 f.1 m c.0 v w.0 u.done u.left u.fit u.as_many) (drop u.place s) n
      (refused_bad b p.2 f.1 s bs u.place n u.bad))))
  refused_bad (both a b) p f s bs i n e =
      by_refused (read_at a s i) (λ v j. mapped (λ w. (v, w)) (read_at b s j)) n e
      (λ h. bad_inside a (both a b) [] (left_inside a b p.1 f.1) (drop i s) n (refused_bad a p.0 f.0 s bs i n h))
      (λ v j g h.
      let w = read_is_written a p.0 s bs i v j g in
      rw w.1.whole (bad_inside b (both a b) (bytes_of a v) (right_inside a b p.0 v w.0) (drop j s) n
      (refused_bad b p.1 f.1 s bs j n (mapped_refused (λ w. (v, w)) (read_at b s j) n h))))
  refused_bad nothing p f s b i n e = impossible cc
  refused_bad (letter ls) p f s bs i n e =
      by_refused (number_by 1 i (field_at 1 s i)) (λ b j. choose_at ls b s j) n e
      (λ h.
      let w = number_none 1 i (field_at 1 s i) n h in
      let d : drop i s ≡ [] = drop_of_length-le s {i = i} (omega (arith, cut_short 1 s i w.0)) in
      let v = some_choice ls p f in
      rw d (ends_in n (letter ls) [] w.1 (letter_of ls v.0) v.0 v.1 (under_of ls v.0) refl))
      (λ b j g h.
      let w = number_some 1 i (field_at 1 s i) b j g in
      let t = number_there s 1 i b bs w.0 in
      let d : drop i s ≡ b ∷ drop (i + 1) s = t.1.whole ∙ ap (λ (x : List ℕ). x ++ drop (i + 1) s) (be_bytes_one b t.0) in
      rw d (letter_bad ls p f b (drop (i + 1) s) n (choice_bad ls p f.1 s bs (i + 1) b n (rw w.1 at h))))

  choice_bad : (ls : Letters) → ProperLetters ls → FilledLetters ls → (s : List ℕ) → are_bytes s ≡ true → (i b n : ℕ) → choose_at ls b s i ≡ refused n
      → BadChoice ls b (drop i s) n
  choice_bad no_other p f s bs i b n e = not_listed (cc) (λ r j. refl)
  choice_bad (or c a ls) p f s bs i b n e =
      by_test (eqb b c)
      (λ g. under a (here c a ls b g) (refused_bad a p.1 f.1 s bs i n (mapped_refused inl (read_at a s i) n (rw g at e))))
      (λ g. choice_next ls c a b (drop i s) n g
      (choice_bad ls p.3 f.2 s bs i b n (mapped_refused inr (choose_at ls b s i) n (rw g at e))))
