-- What is answered of data, by the bytes that are sent alone.
use mathlib.Core.Path.{◌≡◌, refl, sym, ap, ◌∙◌}
use mathlib.Core.Bool.{true}
use mathlib.Core.List.{List, [], ◌∷◌, ◌++◌, append_assoc}
use mathlib.Core.Logic.{◌⊎◌, inl, inr}
use Prim.Native.Nat.{ℕ, ◌+◌}
use native.Mathlib.Omega.{arith}
use lib.ListN.{length, drop, length-append}
use lib.Seq.{drop-drop, drop-append_seam}
use lib.Pow.{are_bytes}
use Rattle.wire.proofs.Laws.{impossible}
use Rattle.rows.specs.Layout.{Layout, Value, Read, got, refused, cut, read_at, bytes_of, Fits, Proper}
use Rattle.rows.specs.Refusals.{Leaves}
use Rattle.rows.proofs.BothWays.{written_is_read, read_is_written}
use Rattle.rows.proofs.Cut.{cut_is_refused}
use Rattle.rows.proofs.Behind.{append_none, Filled, May, Never, Bad, ends, negative, unlisted, refused_bad}

-- ---- one list by two ways

-- a byte behind x in a list that begins with e
fork : {X : Type 0} (x : List ℕ) (b : ℕ) (t e w : List ℕ) → x ++ (b ∷ t) ≡ e ++ w → ((z : List ℕ) → e ≡ x ++ (b ∷ z) → X)
    → ((z : List ℕ) → x ≡ e ++ z → X) → X
fork x b t [] w h f g = g x refl
fork [] b t (c ∷ e) w h f g =
    let o : b ∷ t ≡ c ∷ (e ++ w) = h in
    f e (cc)
fork (a ∷ x) b t (c ∷ e) w h f g =
    let o : a ∷ (x ++ (b ∷ t)) ≡ c ∷ (e ++ w) = h in
    let ac : a ≡ c = cc in
    let r : x ++ (b ∷ t) ≡ e ++ w = cc in
    fork x b t e w r (λ z q. f z (cc)) (λ z q. g z (cc))

-- two bytes behind two lists
meet : {X : Type 0} (x : List ℕ) (b : ℕ) (t y : List ℕ) (c : ℕ) (u : List ℕ) → x ++ (b ∷ t) ≡ y ++ (c ∷ u) → (x ≡ y → b ≡ c → X)
    → ((z : List ℕ) → y ≡ x ++ (b ∷ z) → X) → ((z : List ℕ) → x ≡ y ++ (c ∷ z) → X) → X
meet [] b t [] c u h f g k =
    let o : b ∷ t ≡ c ∷ u = h in
    f refl (cc)
meet [] b t (d ∷ y) c u h f g k =
    let o : b ∷ t ≡ d ∷ (y ++ (c ∷ u)) = h in
    g y (cc)
meet (a ∷ x) b t [] c u h f g k =
    let o : a ∷ (x ++ (b ∷ t)) ≡ c ∷ u = h in
    k x (cc)
meet (a ∷ x) b t (d ∷ y) c u h f g k =
    let o : a ∷ (x ++ (b ∷ t)) ≡ d ∷ (y ++ (c ∷ u)) = h in
    let ad : a ≡ d = cc in
    let r : x ++ (b ∷ t) ≡ y ++ (c ∷ u) = cc in
    meet x b t y c u r (λ p q. f (cc) q) (λ z q. g z (cc)) (λ z q. k z (cc))

module _ (l : Layout) (p : Proper l) (full : Filled l) where
  -- what is sent is read from the place where it stands
  pub whole_read : (v : Value l) → Fits l v → (s : List ℕ) (i : ℕ) (t : List ℕ) → drop i s ≡ bytes_of l v ++ t
      → read_at l s i ≡ got v (i + length (bytes_of l v))
  whole_read v f s i t e =
      let d : drop (i + length (bytes_of l v)) s ≡ t =
      sym (drop-drop (length (bytes_of l v)) i s) ∙ (ap (drop (length (bytes_of l v))) e ∙ drop-append_seam (bytes_of l v) t) in
      written_is_read l p s i v (i + length (bytes_of l v)) f
      (record { whole = e ∙ ap (λ (q : List ℕ). bytes_of l v ++ q) (sym d); ends = refl })

  never_may : (n : ℕ) (x : List ℕ) (b : ℕ) → Never l n x b → May l x b → ⊥
  never_may n x b h m =
      let r = h (bytes_of l m.sent) 0 m.rest m.whole in
      let g = whole_read m.sent m.fits (bytes_of l m.sent) 0 [] (sym (append_none (bytes_of l m.sent))) in
      impossible cc

  -- nothing that is sent is the beginning of another
  no_front : (v : Value l) → Fits l v → (x : List ℕ) (c : ℕ) → May l x c → (z : List ℕ) → x ≡ bytes_of l v ++ z → ⊥
  no_front v f x c m z e =
      let s : List ℕ = bytes_of l m.sent in
      let q : s ≡ bytes_of l v ++ (z ++ (c ∷ m.rest)) =
      m.whole ∙ (ap (λ (y : List ℕ). y ++ (c ∷ m.rest)) e ∙ append_assoc (bytes_of l v) z (c ∷ m.rest)) in
      let g = whole_read v f s 0 (z ++ (c ∷ m.rest)) q in
      let k = whole_read m.sent m.fits s 0 [] (sym (append_none s)) in
      let o : 0 + length (bytes_of l v) ≡ 0 + length s = cc in
      omega (arith, o, ap length q, length-append (bytes_of l v) (z ++ (c ∷ m.rest)), length-append z (c ∷ m.rest))

  -- a byte in the middle may stand there
  may_middle : (x : List ℕ) (b : ℕ) (z : List ℕ) (c : ℕ) → May l (x ++ (b ∷ z)) c → May l x b
  may_middle x b z c m =
      record { sent = m.sent; fits = m.fits; rest = z ++ (c ∷ m.rest); whole = m.whole ∙ append_assoc x (b ∷ z) (c ∷ m.rest) }

  module _ (s : List ℕ) (bs : are_bytes s ≡ true) (i : ℕ) where
    abbrev pub d : List ℕ
    d = drop i s

    pub short_read : (c : ℕ) → May l d c → read_at l s i ≡ cut
    short_read c m = cut_is_refused l p s i m.sent d (c ∷ m.rest) m.fits refl (sym m.whole) (omega arith)

    abbrev pub LeavesAt : List ℕ → ℕ → Type 0
    LeavesAt x b = Leaves (λ v. Fits l v) (λ v. bytes_of l v) d x b

    -- a whole value is not read where the data leave all that may be sent
    not_got : (x : List ℕ) (b : ℕ) → LeavesAt x b → (v : Value l) (j : ℕ) → read_at l s i ≡ got v j → ⊥
    not_got x b h v j e =
        let w = read_is_written l p s bs i v j e in
        fork x b h.rest (bytes_of l v) (drop j s) (sym h.there ∙ w.1.whole)
        (λ z q. h.never (record { sent = v; fits = w.0; rest = z; whole = q }))
        (λ z q. no_front v w.0 x h.other h.goes_on z q)

    not_ended : (x : List ℕ) (b : ℕ) → LeavesAt x b → (c : ℕ) → May l d c → ⊥
    not_ended x b h c m = h.never (may_middle x b h.rest c (rw h.there at m))

    -- the data are left at one place alone
    one_place : {X : Type 0} (x : List ℕ) (b : ℕ) → LeavesAt x b → (y : List ℕ) (c : ℕ) (u : List ℕ) → d ≡ y ++ (c ∷ u) → (o : ℕ) → May l y o
        → (May l y c → ⊥)
        → (x ≡ y → X) → X
    one_place x b h y c u e o m n go =
        meet x b h.rest y c u (sym h.there ∙ e) (λ q r. go q)
        (λ z q. absurd (h.never (may_middle x b z o (rw q at m))))
        (λ z q. absurd (n (may_middle y c z h.other (rw q at h.goes_on))))

    pub at_count : (x : List ℕ) (b : ℕ) → LeavesAt x b → May l x 0 → (r : Read (Value l)) → read_at l s i ≡ r → read_at l s i ≡ refused 26
    at_count x b h m (got v j) e = absurd (not_got x b h v j e)
    at_count x b h m (refused n) e = e ∙ ap refused (judged (refused_bad l p full s bs i n e))
      where
        judged : Bad l d n → n ≡ 26
        judged (ends q c k) = q
        judged (negative q y c u f k z) = q
        judged (unlisted q y c u o f k n z) =
            one_place x b h y c u f o k (never_may 27 y c n) (λ same. absurd (never_may 27 y 0 z (rw same at m)))

    pub at_letter : (x : List ℕ) (b : ℕ) → LeavesAt x b → (May l x 0 → ⊥) → (r : Read (Value l)) → read_at l s i ≡ r → read_at l s i ≡ refused 27
    at_letter x b h m (got v j) e = absurd (not_got x b h v j e)
    at_letter x b h m (refused n) e = e ∙ ap refused (judged (refused_bad l p full s bs i n e))
      where
        judged : Bad l d n → n ≡ 27
        judged (ends q c k) = absurd (not_ended x b h c k)
        judged (negative q y c u f k z) = one_place x b h y c u f 0 z (never_may 26 y c k) (λ same. absurd (m (rw same z)))
        judged (unlisted q y c u o f k n z) = q

    pub back_26 : read_at l s i ≡ refused 26 → ((c : ℕ) × May l d c) ⊎ ((x : List ℕ) × (b : ℕ) × LeavesAt x b × May l x 0)
    back_26 e = judged (refused_bad l p full s bs i 26 e)
      where
        judged : Bad l d 26 → ((c : ℕ) × May l d c) ⊎ ((x : List ℕ) × (b : ℕ) × LeavesAt x b × May l x 0)
        judged (ends q c k) = inl (c, k)
        judged (negative q y c u f k z) =
            inr (y, c, record { rest = u; there = f; other = 0; goes_on = z; never = never_may 26 y c k }, z)
        judged (unlisted q y c u o f k n z) = absurd (omega (arith, q))

    pub back_27 : read_at l s i ≡ refused 27 → (x : List ℕ) × (b : ℕ) × LeavesAt x b × (May l x 0 → ⊥)
    back_27 e = judged (refused_bad l p full s bs i 27 e)
      where
        judged : Bad l d 27 → (x : List ℕ) × (b : ℕ) × LeavesAt x b × (May l x 0 → ⊥)
        judged (ends q c k) = absurd (omega (arith, q))
        judged (negative q y c u f k z) = absurd (omega (arith, q))
        judged (unlisted q y c u o f k n z) =
            (y, c, record { rest = u; there = f; other = o; goes_on = k; never = never_may 27 y c n }, never_may 27 y 0 z)

    pub back_two : (n : ℕ) → read_at l s i ≡ refused n → (n ≡ 26) ⊎ (n ≡ 27)
    back_two n e = judged (refused_bad l p full s bs i n e)
      where
        judged : Bad l d n → (n ≡ 26) ⊎ (n ≡ 27)
        judged (ends q c k) = inl q
        judged (negative q y c u f k z) = inl q
        judged (unlisted q y c u o f k n z) = inr q
