-- Feeding bytes to a reader gives the cut of the bytes: one read by what stands at the front of what is held and offered, then any list.
use mathlib.Core.Path.{◌≡◌, refl, sym, ap, ◌∙◌}
use mathlib.Core.Bool.{Bool, true, false}
use mathlib.Core.List.{List, [], ◌∷◌, ◌++◌, append_assoc, append-nil}
use Prim.Native.Nat.{ℕ, ◌+◌, ◌-◌, ◌≤◌, ◌<◌, min}
use native.Mathlib.Omega.{arith}
use native.Mathlib.Nat.{min-le_left, min-le_right, le_trans}
use lib.ListN.{length, get_or, take, drop, length-append, length-take, length-drop, drop_of_length-le}
use lib.Seq.{take_all, take-append-le, take-append-add, drop-append-add, drop-append-le, take-take, take-length, get_or-take, take-add, length-take-le}
use borrow.Author.Tests.{lt-ltb, le-ltb, ne_eqb, leb-true, leb-false, ltb-true, ltb-false}
use Rattle.wire.specs.Bytes.{at, be, put}
use Rattle.wire.specs.Int.{half, is_negative}
use lib.Dec.{leb, ltb, eqb}
use mathlib.Core.Logic.{◌⊎◌, ⊎_elim, inl, inr}
use Rattle.wire.proofs.Laws.{put_none, length_put, by_test, impossible}
use Rattle.frames.specs.Message.{Front, in_header, in_payload, bad_length, too_large, length_field, front_of}
use Rattle.frames.specs.Cut.{Item, message, Ending, header, payload, over, Cut, behind, ended, cut_of}
use Rattle.frames.proofs.Front.{header_front, negative_front, short_front, over_front, payload_front, whole_front, length_field_append, Shows, cut_header, negative, short, large, cut_payload, complete, shows}
use Rattle.frames.proofs.Laws.{cut_append, cut_ending, cut_in_header, cut_in_payload, cut_too_large, cut_bad_length, cut_whole, cut_nothing, over_kept, continued, front_at}
use Rattle.frames.specs.Message.{whole as whole_at}
use Rattle.frames.specs.Cut.{refused as bad}
use Rattle.framing.specs.declared.MessageReader.{MessageReader}
use Rattle.framing.specs.Read.{Said, more, whole, refused, fresh, shut, at_byte, limit_of, Result, after_taking, unfinished, payload_of, judged_of, header_of, read_of}
use Rattle.framing.specs.Feed.{first_answer, span, stored, item_of, Holds, FollowsCut, follows_by, Reads, Offer, Fed, feed_one, feed_all, FedIsCut, ReadIsCut}
use Rattle.framing.proofs.Laws.{pick_both, header_more, length_negative, length_short, length_over, length_good, payload_there, payload_more, payload_whole}

-- ---- a read by the state of the reader

read_in_header : (setting : ℕ) (r : MessageReader) (u : List ℕ) (e : Bool) (p : List ℕ) → limit_of setting ≤ length p → r.refused ≡ false → r.filled < 5
    → read_of setting r u e p ≡ header_of (limit_of setting) r u e p
unfolding read_of
read_in_header setting r u e p h g l = simp (le-ltb _ _ h, g, lt-ltb _ _ l)

read_in_payload : (setting : ℕ) (r : MessageReader) (u : List ℕ) (e : Bool) (p : List ℕ) → limit_of setting ≤ length p → r.refused ≡ false → 5 ≤ r.filled
    → read_of setting r u e p ≡ payload_of r u e p
unfolding read_of
read_in_payload setting r u e p h g l = simp (le-ltb _ _ h, g, le-ltb _ _ l)

read_shut : (setting : ℕ) (r : MessageReader) (u : List ℕ) (e : Bool) (p : List ℕ) → limit_of setting ≤ length p → r.refused ≡ true
    → read_of setting r u e p ≡ (refused 7, r, 0, p)
unfolding read_of
read_shut setting r u e p h g = simp (le-ltb _ _ h, g)

header_judged : (limit : ℕ) (r : MessageReader) (u : List ℕ) (e : Bool) (p : List ℕ) (k : ℕ) (h : List ℕ)
    → k ≡ min (5 - r.filled) (length u) → h ≡ put r.header r.filled (take k u) → 5 ≤ r.filled + k
    → header_of limit r u e p ≡ after_taking k (judged_of limit h (drop k u) p)
unfolding header_of
header_judged limit r u e p k h ek eh l = rw (← ek, ← eh) (simp (le-ltb _ _ l))

-- ---- lists

-- the first bytes of a list and those after
take_seam : (a b : List ℕ) (n : ℕ) → length a ≤ n → take n (a ++ b) ≡ a ++ take (n - length a) b
take_seam a b n h =
    let e : length a + (n - length a) ≡ n = omega arith in
    ap (λ (k : ℕ). take k (a ++ b)) (sym e) ∙ take-append-add a b (n - length a)

drop_seam : (a b : List ℕ) (n : ℕ) → length a ≤ n → drop n (a ++ b) ≡ drop (n - length a) b
drop_seam a b n h =
    let e : length a + (n - length a) ≡ n = omega arith in
    ap (λ (k : ℕ). drop k (a ++ b)) (sym e) ∙ drop-append-add a b (n - length a)

-- a write after bytes that are there is a write of all from the front
put_front : (p a v : List ℕ) (n : ℕ) → take n p ≡ a → n ≤ length p → put p n v ≡ put p 0 (a ++ v)
unfolding put
put_front p a v n e h =
    let l : length a ≡ n = rw (← e) (length-take-le n p h) in
    let m : n + length v ≡ 0 + length (a ++ v) = rw length-append (omega arith) in
    rw (e, m, append_assoc)

length_field_take : (s : List ℕ) → length_field (take 5 s) ≡ length_field s
length_field_take s = ap be (drop_take s)
  where
    drop_take : (s : List ℕ) → take 4 (drop 1 (take 5 s)) ≡ take 4 (drop 1 s)
    drop_take [] = refl
    drop_take (x ∷ s) = take-take 4 4 s (omega arith)

-- ---- the payload, by what is there of it

module _ (r : MessageReader) (v : List ℕ) (e : Bool) (p : List ℕ) (n have : ℕ) (el : r.payload_len ≡ n) (ef : r.filled ≡ 5 + have) (f : n ≤ length p) where
  size_is : n ≡ min r.payload_len (length p)
  size_is = omega arith

  have_is : have ≡ r.filled - 5
  have_is = omega arith

  payload_lacks : have + length v < n
      → payload_of r v e p ≡ (unfinished 9 (length v) e, at_byte r.header (r.filled + length v) r.payload_len, length v, put p have v)
  payload_lacks h =
      let k : length v ≡ min (n - have) (length v) = omega arith in
      let l : have < n = omega arith in
      sym (payload_more r v e p n have _ size_is have_is refl (length v) (put p have v) k (ap (put p have) (sym (take-length v))) l _ _ refl refl h)

  payload_done : n ≤ have + length v → payload_of r v e p ≡ (whole (get_or r.header 0 0) n, fresh, n - have, put p have (take (n - have) v))
  payload_done h =
      by_test (leb n have)
      (λ t.
      let l : n ≤ have = leb-true n have t in
      let z : n - have ≡ 0 = omega arith in
      sym (payload_there r v e p n have _ size_is have_is refl fresh refl l) ∙ rw z (ap (λ (q : List ℕ). (whole (get_or r.header 0 0) n, fresh, 0, q)) (sym (put_none p have))))
      (λ t.
      let l : have < n = leb-false n have t in
      let k : n - have ≡ min (n - have) (length v) = omega arith in
      let g : n ≤ have + (n - have) = omega arith in
      sym (payload_whole r v e p n have _ size_is have_is refl (n - have) (put p have (take (n - have) v)) k refl l fresh refl g))

take_put : (p v : List ℕ) → take (length v) (put p 0 v) ≡ v
unfolding put
take_put p v = take-append-le (length v) v _ (omega arith) ∙ take-length v

-- a reader in a payload
holds_payload : (s : List ℕ) (r : MessageReader) (p : List ℕ) → 5 ≤ length s → r.refused ≡ false → r.filled ≡ length s → r.header ≡ take 5 s
    → r.payload_len ≡ length_field s - 4 → Holds s r (put p 0 (drop 5 s))
holds_payload s r p h g f hd sz =
    let l : length (take 5 s) ≡ 5 = length-take-le 5 s h in
    let d : length (drop 5 s) ≡ length s - 5 = length-drop 5 s in
    record {
      going = g;
      filled = f;
      five = rw hd l;
      head = rw hd (take_all (length s) (take 5 s) (omega arith));
      size = λ y. sz;
      front = rw (← d) (take_put p (drop 5 s));
    }

no_end : (n m : ℕ) → unfinished n m false ≡ more
no_end n m = by_test (eqb m 0) (λ t. simp t) (λ t. simp t)

some_unread : (n m : ℕ) (e : Bool) → 0 < m → unfinished n m e ≡ more
some_unread n m e h = let z : m ≡ 0 → ⊥ = λ q. omega arith in simp (ne_eqb _ _ z)

-- the cut of one message and nothing after it
cut_bad_alone : (limit : ℕ) (s : List ℕ) → length s ≡ 5 → front_of limit s ≡ bad_length → cut_of limit s ≡ behind bad (ended [] header)
cut_bad_alone limit s h f =
    let d : drop 5 s ≡ [] = drop_of_length-le s {i = 5} (omega arith) in
    cut_bad_length limit s f ∙ rw d (ap (behind bad) (cut_nothing limit))

cut_whole_alone : (limit : ℕ) (s : List ℕ) (tag n : ℕ) → length s ≡ 5 + n → front_of limit s ≡ whole_at tag n → cut_of limit s ≡ behind (message tag (at s 5 n)) (ended [] header)
cut_whole_alone limit s tag n h f =
    let d : drop (5 + n) s ≡ [] = drop_of_length-le s {i = 5 + n} (omega arith) in
    cut_whole limit s tag n f ∙ rw d (ap (behind (message tag (at s 5 n))) (cut_nothing limit))

-- an unfinished message hands nothing on
nothing_yet : (n m : ℕ) (e : Bool) (p : List ℕ) → eqb n 6 ≡ false → item_of (unfinished n m e) p ≡ []
nothing_yet n m true p h = by_test (eqb m 0) (λ t. simp (t, h)) (λ t. simp t)
nothing_yet n m false p h = by_test (eqb m 0) (λ t. simp t) (λ t. simp t)

-- a whole message is handed on from the buffer's front
handed : (s : List ℕ) (tag tag' n : ℕ) (p q : List ℕ) → tag ≡ tag' → length (at s 5 n) ≡ n → q ≡ put p 0 (at s 5 n)
    → message tag (at (take (5 + n) s) 5 n) ∷ [] ≡ item_of (whole tag' n) q
handed s tag tag' n p q et l eq =
    let a : at (take (5 + n) s) 5 n ≡ at s 5 n = inner s n in
    let b : take n q ≡ at s 5 n = rw eq (ap (λ (m : ℕ). take m (put p 0 (at s 5 n))) (sym l) ∙ take_put p (at s 5 n)) in
    rw (a, et, b)
  where
    inner : (s : List ℕ) (n : ℕ) → at (take (5 + n) s) 5 n ≡ at s 5 n
    inner s n =
        let t : take (5 + n) s ≡ take 5 s ++ take n (drop 5 s) = take-add 5 n s in
        by_test (leb 5 (length s))
        (λ t'.
        let h : 5 ≤ length s = leb-true _ _ t' in
        let l : length (take 5 s) ≡ 5 = length-take-le 5 s h in
        ap (λ (y : List ℕ). take n (drop 5 y)) t ∙ ap (take n) (drop_seam (take 5 s) (take n (drop 5 s)) 5 (omega arith))
        ∙ rw (l) (take-take n n (drop 5 s) (omega arith)))
        (λ t'.
        let h : length s < 5 = leb-false _ _ t' in
        ap (λ (y : List ℕ). take n (drop 5 y)) (take_all (5 + n) s (omega arith)))

-- ---- one read, by the bytes that the reader holds

record Local (limit : ℕ) (rest u : List ℕ) (e : Bool) (p : List ℕ) (x : Result) : Type 0 where
  answer : let c = cut_of limit (rest ++ u) in x.0 ≡ first_answer c.items c.ending (length u) e
  taken : let c = cut_of limit (rest ++ u) in x.2 ≡ span c.items c.ending (rest ++ u) - length rest
  within : x.2 ≤ length u
  buffer : let c = cut_of limit (rest ++ u) in x.3 ≡ put p 0 (stored c.items c.ending (rest ++ u))
  follows : FollowsCut (cut_of limit (rest ++ take x.2 u)) x.1 x.3
  items : (cut_of limit (rest ++ take x.2 u)).items ≡ item_of x.0 x.3

local : (limit : ℕ) (rest u : List ℕ) (e : Bool) (p : List ℕ) (x : Result) (c : Cut) (a : Said) (r' : MessageReader) (k : ℕ) (q : List ℕ)
    → cut_of limit (rest ++ u) ≡ c → x ≡ (a, r', k, q) → a ≡ first_answer c.items c.ending (length u) e
    → k ≡ span c.items c.ending (rest ++ u) - length rest → k ≤ length u
    → q ≡ put p 0 (stored c.items c.ending (rest ++ u)) → (d : Cut) → cut_of limit (rest ++ take k u) ≡ d → FollowsCut d r' q → d.items ≡ item_of a q → Local limit rest u e p x
local limit rest u e p x c a r' k q ec ex ea ek ew eq d ed es ei =
    record {
      answer = ap (λ (y : Result). y.0) ex ∙ (ea ∙ ap (λ (d : Cut). first_answer d.items d.ending (length u) e) (sym ec));
      taken = ap (λ (y : Result). y.2) ex ∙ (ek ∙ ap (λ (d : Cut). span d.items d.ending (rest ++ u) - length rest) (sym ec));
      within = rw ex ew;
      buffer = ap (λ (y : Result). y.3) ex ∙ (eq ∙ ap (λ (d : Cut). put p 0 (stored d.items d.ending (rest ++ u))) (sym ec));
      follows = rw (ex, ed) es;
      items = rw ex (ap (λ (y : Cut). y.items) ed ∙ ei);
    }

-- a fresh reader holds nothing
pub fresh_holds : (p : List ℕ) → Holds [] fresh p
fresh_holds p = record { going = refl; filled = refl; five = refl; head = refl; size = λ h. absurd (omega arith); front = refl }

-- a whole message is there in its own bytes
pub whole_taken : (limit : ℕ) (s : List ℕ) → 5 ≤ length s → length_field s < half 4 → 4 ≤ length_field s → length_field s - 4 ≤ limit
    → length_field s + 1 ≤ length s → front_of limit (take (5 + (length_field s - 4)) s) ≡ whole_at (get_or s 0 0) (length_field s - 4)
whole_taken limit s h a b c d =
    let t : List ℕ = take (5 + (length_field s - 4)) s in
    let m : length t ≡ 5 + (length_field s - 4) = length-take-le (5 + (length_field s - 4)) s (omega arith) in
    let f : length_field t ≡ length_field s = sym (length_field_take t) ∙ (ap length_field (take-take 5 (5 + (length_field s - 4)) s (omega arith)) ∙ length_field_take s) in
    let g : get_or t 0 0 ≡ get_or s 0 0 = get_or-take (5 + (length_field s - 4)) s 0 0 (omega arith) in
    whole_front limit t (omega arith) (rw f a) (rw f b) (rw f c) (rw f (omega arith)) ∙ rw (g, f)

module _ (setting : ℕ) (rest u : List ℕ) (e : Bool) (r : MessageReader) (p : List ℕ) (big : limit_of setting ≤ length p) (H : Holds rest r p) where
  abbrev limit : ℕ
  limit = limit_of setting

  abbrev x : Result
  x = read_of setting r u e p

  -- what a write over the header's tail leaves at its front
  head_is : length rest < 5 → (v : List ℕ) → length rest + length v ≤ 5 → take (length rest + length v) (put r.header r.filled v) ≡ rest ++ v
  unfolding put
  head_is l v h =
      let a : take (length rest) r.header ≡ rest = H.head ∙ take_all 5 rest (omega arith) in
      rw (H.filled, a, take-append-add) (ap (λ (t : List ℕ). rest ++ t) (take-append-le (length v) v _ (omega arith) ∙ take-length v))

  -- ---- the header is not there yet

  still_header : length rest < 5 → length (rest ++ u) < 5 → Local limit rest u e p x
  still_header l h =
      let n = length-append rest u in
      let f = H.filled in
      let t : take (length u) u ≡ u = take-length u in
      let hd : List ℕ = put r.header r.filled u in
      let k : length u ≡ min (5 - r.filled) (length u) = omega arith in
      let ex = read_in_header setting r u e p big H.going (omega arith) ∙ sym (header_more limit r u e p (length u) hd k (ap (put r.header r.filled) (sym t)) _ _ refl refl (omega arith)) in
      let ec : cut_of limit (rest ++ u) ≡ ended (rest ++ u) header = cut_in_header limit (rest ++ u) (header_front limit (rest ++ u) h) in
      let z : length (rest ++ u) - 5 ≡ 0 = omega arith in
      local limit rest u e p _ _ _ _ _ _ ec ex refl (omega arith) (omega arith) (sym (put_none p 0)) _ (ap (λ (y : List ℕ). cut_of limit (rest ++ y)) t ∙ ec)
      (record {
        going = refl;
        filled = omega arith;
        five = length_put r.header u r.filled (omega (arith, H.five)) ∙ H.five;
        head = rw n (head_is l u (omega arith)) ∙ sym (take_all 5 (rest ++ u) (omega arith));
        size = λ y. absurd (omega arith);
        front = rw (z, drop_of_length-le (rest ++ u) {i = 5} (omega arith));
      })
      (sym (nothing_yet 8 (length u) e p refl))

  -- ---- the header comes whole with the bytes offered

  module _ (l : length rest < 5) (h : 5 ≤ length (rest ++ u)) where
    abbrev s : List ℕ
    s = rest ++ u

    abbrev k : ℕ
    k = 5 - length rest

    enough : k ≤ length u
    enough = let n : length (rest ++ u) ≡ length rest + length u = length-append rest u in omega arith

    five_long : length (take 5 s) ≡ 5
    five_long = length-take-le 5 (rest ++ u) h

    first_five : (j : ℕ) → j ≡ 5 - length rest → rest ++ take j u ≡ take 5 s
    first_five j q = rw q (sym (take_seam rest u 5 (omega arith)))

    behind_five : drop k u ≡ drop 5 s
    behind_five = sym (drop_seam rest u 5 (omega arith))

    judged : x ≡ after_taking k (judged_of limit (take 5 s) (drop 5 s) p)
    judged =
        let n = length-append rest u in
        let f = H.filled in
        let q = H.five in
        let ek : k ≡ min (5 - r.filled) (length u) = omega arith in
        let hd : List ℕ = put r.header r.filled (take k u) in
        let tl : length (take k u) ≡ k = length-take-le k u enough in
        let hl : length hd ≡ 5 = length_put r.header (take k u) r.filled (omega arith) ∙ q in
        let z : length rest + length (take k u) ≡ 5 = omega arith in
        let a : take 5 hd ≡ rest ++ take k u = rw z at (head_is l (take k u) (omega arith)) in
        let eh : take 5 s ≡ hd = sym (first_five k refl) ∙ (sym a ∙ take_all 5 hd (omega arith)) in
        read_in_header setting r u e p big H.going (omega arith)
        ∙ (header_judged limit r u e p k (take 5 s) ek eh (omega arith) ∙ ap (λ (t : List ℕ). after_taking k (judged_of limit (take 5 s) t p)) behind_five)

    field : length_field s ≡ length_field (take 5 s)
    field = sym (length_field_take s)

    -- the header alone is taken
    alone : k + 0 ≡ 5 - length rest
    alone = omega arith

    alone_within : k + 0 ≤ length u
    alone_within = let y = enough in omega arith

    bad_step : (refused 6, fresh, 0, p) ≡ judged_of limit (take 5 s) (drop 5 s) p → front_of limit s ≡ bad_length
        → front_of limit (take 5 s) ≡ bad_length → Local limit rest u e p x
    bad_step j f g =
        local limit rest u e p x _ _ _ _ _ (cut_bad_length limit s f) (judged ∙ ap (after_taking k) (sym j)) refl alone alone_within (sym (put_none p 0))
        _ (ap (cut_of limit) (first_five (k + 0) alone) ∙ cut_bad_alone limit (take 5 s) five_long g) (fresh_holds p) refl

    negative_step : half 4 ≤ length_field s → Local limit rest u e p x
    negative_step a =
        let b : half 4 ≤ length_field (take 5 s) = rw (← field) a in
        bad_step (length_negative limit (take 5 s) (drop 5 s) p (length_field s) field fresh refl a) (negative_front limit s h a)
        (negative_front limit (take 5 s) (omega (arith, five_long)) b)

    module _ (a : length_field s < half 4) where
      short_step : length_field s < 4 → Local limit rest u e p x
      short_step b =
          let c : length_field (take 5 s) < half 4 = rw (← field) a in
          let d : length_field (take 5 s) < 4 = rw (← field) b in
          bad_step (length_short limit (take 5 s) (drop 5 s) p (length_field s) field a fresh refl b) (short_front limit s h a b)
          (short_front limit (take 5 s) (omega (arith, five_long)) c d)

      over_step : 4 ≤ length_field s → limit < length_field s - 4 → Local limit rest u e p x
      over_step b o =
          let c : length_field (take 5 s) < half 4 = rw (← field) a in
          let d : 4 ≤ length_field (take 5 s) = rw (← field) b in
          let g : limit < length_field (take 5 s) - 4 = rw (← field) o in
          let w : front_of limit (take 5 s) ≡ too_large = over_front limit (take 5 s) (omega (arith, five_long)) c d g in
          local limit rest u e p x _ _ _ _ _ (cut_too_large limit s (over_front limit s h a b o))
          (judged ∙ ap (after_taking k) (sym (length_over limit (take 5 s) (drop 5 s) p (length_field s) field a b shut refl o))) refl alone alone_within (sym (put_none p 0))
          _ (ap (cut_of limit) (first_five (k + 0) alone) ∙ cut_too_large limit (take 5 s) w) refl refl

      module _ (b : 4 ≤ length_field s) (c : length_field s - 4 ≤ limit) where
        abbrev n : ℕ
        n = length_field s - 4

        room : n ≤ length p
        room = let y = big in omega arith

        behind_len : length (drop 5 s) ≡ length s - 5
        behind_len = length-drop 5 s

        judged_good : (y : Result) → payload_of (at_byte (take 5 s) 5 n) (drop 5 s) false p ≡ y → x ≡ after_taking k y
        judged_good y q =
            judged ∙ ap (after_taking k) (sym (length_good limit (take 5 s) (drop 5 s) p (length_field s) field a b (at_byte (take 5 s) 5 n) _ refl c refl) ∙ q)

        payload_step : length s < length_field s + 1 → Local limit rest u e p x
        payload_step d =
            let ln : length s ≡ length rest + length u = length-append rest u in
            let y = payload_lacks (at_byte (take 5 s) 5 n) (drop 5 s) false p n 0 refl refl room (omega (arith, behind_len)) in
            let g : k + length (drop 5 s) ≡ length u = omega (arith, behind_len) in
            let w : more ≡ unfinished 9 (length u) e = sym (some_unread 9 (length u) e (omega arith)) in
            let ec : cut_of limit s ≡ ended s payload = cut_in_payload limit s (payload_front limit s h a b c d) in
            local limit rest u e p x _ _ _ _ _ ec (judged_good _ y) (no_end 9 (length (drop 5 s)) ∙ w) (omega arith) (omega arith) refl
            _ (ap (λ (m : ℕ). cut_of limit (rest ++ take m u)) g ∙ (ap (λ (y : List ℕ). cut_of limit (rest ++ y)) (take-length u) ∙ ec)) (holds_payload s _ p h refl (omega (arith, behind_len)) refl refl) (sym (nothing_yet 9 (length (drop 5 s)) false _ refl))

        whole_step : length_field s + 1 ≤ length s → Local limit rest u e p x
        whole_step d =
            let ln : length s ≡ length rest + length u = length-append rest u in
            let y = payload_done (at_byte (take 5 s) 5 n) (drop 5 s) false p n 0 refl refl room (omega (arith, behind_len)) in
            let fw : front_of limit s ≡ whole_at (get_or s 0 0) n = whole_front limit s h a b c d in
            let nl : length (at s 5 n) ≡ n = length-take-le n (drop 5 s) (omega (arith, behind_len)) in
            let z : n - 0 ≡ n = omega arith in
            let tg : get_or (take 5 s) 0 0 ≡ get_or s 0 0 = get_or-take 5 s 0 0 (omega arith) in
            let j : k + (n - 0) ≡ 5 + n - length rest = omega arith in
            let v : rest ++ take (k + (n - 0)) u ≡ take (5 + n) s = rw j (sym (take_seam rest u (5 + n) (omega arith))) in
            let m : length (take (5 + n) s) ≡ 5 + n = length-take-le (5 + n) s (omega arith) in
            let cw = cut_whole_alone limit (take (5 + n) s) (get_or s 0 0) n m (whole_taken limit s h a b c d) in
            local limit rest u e p x _ _ _ _ _ (cut_whole limit s _ n fw) (judged_good _ y) (rw (tg, nl)) (rw nl j) (omega arith) (rw z)
            _ (ap (cut_of limit) v ∙ cw) (fresh_holds _) (handed s (get_or s 0 0) (get_or (take 5 s) 0 0) n p _ (sym tg) nl (rw z))

  -- ---- the header was there before

  module _ (h : 5 ≤ length rest) (a : length_field rest < half 4) (b : 4 ≤ length_field rest) (c : length_field rest - 4 ≤ limit)
      (d : length rest < length_field rest + 1) where
    abbrev len : ℕ
    len = length_field rest - 4

    abbrev have : ℕ
    have = length rest - 5

    whole_len : length (rest ++ u) ≡ length rest + length u
    whole_len = length-append rest u

    longer : 5 ≤ length (rest ++ u)
    longer = let y = whole_len in omega arith

    same_field : length_field (rest ++ u) ≡ length_field rest
    same_field = length_field_append rest u h

    head_five : r.header ≡ take 5 (rest ++ u)
    head_five =
        let f : length r.header ≡ 5 = H.five in
        sym (take_all (length rest) r.header (omega arith)) ∙ (H.head ∙ sym (take-append-le 5 rest u h))

    buffer_room : len ≤ length p
    buffer_room = let y = big in omega arith

    filled_is : r.filled ≡ 5 + have
    filled_is = let y = H.filled in omega arith

    reads_payload : x ≡ payload_of r u e p
    reads_payload = read_in_payload setting r u e p big H.going (let y = H.filled in omega arith)

    behind_head : drop 5 (rest ++ u) ≡ drop 5 rest ++ u
    behind_head = drop-append-le 5 rest u h

    -- the bytes stored now go on those that are there
    joined : (v : List ℕ) → put p have v ≡ put p 0 (drop 5 rest ++ v)
    joined v = put_front p (drop 5 rest) v have H.front (let y = buffer_room in omega arith)

    still_payload : length (rest ++ u) < length_field rest + 1 → Local limit rest u e p x
    still_payload g =
        let n = whole_len in
        let y = payload_lacks r u e p len have (H.size h) filled_is buffer_room (omega arith) in
        let q : put p have u ≡ put p 0 (drop 5 (rest ++ u)) = joined u ∙ ap (put p 0) (sym behind_head) in
        let fr = payload_front limit (rest ++ u) longer (rw same_field a) (rw same_field b) (rw same_field c) (rw same_field g) in
        let ec : cut_of limit (rest ++ u) ≡ ended (rest ++ u) payload = cut_in_payload limit (rest ++ u) fr in
        local limit rest u e p x _ _ _ _ _ ec (reads_payload ∙ y) refl (omega arith) (omega arith) q
        _ (ap (λ (y : List ℕ). cut_of limit (rest ++ y)) (take-length u) ∙ ec)
        (rw q (holds_payload (rest ++ u) _ p longer refl (omega (arith, H.filled)) head_five (H.size h ∙ ap (λ (m : ℕ). m - 4) (sym same_field))))
        (sym (nothing_yet 9 (length u) e _ refl))

    now_whole : length_field rest + 1 ≤ length (rest ++ u) → Local limit rest u e p x
    now_whole g =
        let n = whole_len in
        let y = payload_done r u e p len have (H.size h) filled_is buffer_room (omega arith) in
        let dl : length (drop 5 rest) ≡ length rest - 5 = length-drop 5 rest in
        let bl : length (drop 5 (rest ++ u)) ≡ length (rest ++ u) - 5 = length-drop 5 (rest ++ u) in
        let t : at (rest ++ u) 5 len ≡ drop 5 rest ++ take (len - have) u =
        ap (take len) behind_head ∙ (take_seam (drop 5 rest) u len (omega arith) ∙ ap (λ (m : ℕ). drop 5 rest ++ take (len - m) u) dl) in
        let q : put p have (take (len - have) u) ≡ put p 0 (at (rest ++ u) 5 len) = joined (take (len - have) u) ∙ ap (put p 0) (sym t) in
        let nl : length (at (rest ++ u) 5 len) ≡ len = length-take-le len (drop 5 (rest ++ u)) (omega arith) in
        let tg : get_or r.header 0 0 ≡ get_or (rest ++ u) 0 0 = rw head_five (get_or-take 5 (rest ++ u) 0 0 (omega arith)) in
        let fw : front_of limit (rest ++ u) ≡ whole_at (get_or (rest ++ u) 0 0) len =
        whole_front limit (rest ++ u) longer (rw same_field a) (rw same_field b) (rw same_field c) (rw same_field g) ∙ rw same_field in
        let j : len - have ≡ 5 + len - length rest = omega arith in
        let v : rest ++ take (len - have) u ≡ take (5 + len) (rest ++ u) = rw j (sym (take_seam rest u (5 + len) (omega arith))) in
        let m : length (take (5 + len) (rest ++ u)) ≡ 5 + len = length-take-le (5 + len) (rest ++ u) (omega arith) in
        let wt = rw same_field at (whole_taken limit (rest ++ u) longer (rw same_field a) (rw same_field b) (rw same_field c) (rw same_field g)) in
        local limit rest u e p x _ _ _ _ _ (cut_whole limit (rest ++ u) _ len fw) (reads_payload ∙ y) (rw (tg, nl)) (rw nl j) (omega arith) q
        _ (ap (cut_of limit) v ∙ cut_whole_alone limit (take (5 + len) (rest ++ u)) (get_or (rest ++ u) 0 0) len m wt) (fresh_holds _)
        (handed (rest ++ u) (get_or (rest ++ u) 0 0) (get_or r.header 0 0) len p _ (sym tg) nl q)

  -- ---- together

  -- the header is lacking
  from_header : length rest < 5 → (f : Front) → Shows limit (rest ++ u) f → Local limit rest u e p x
  from_header l in_header (cut_header h) = still_header l h
  from_header l bad_length (negative h a) = negative_step l h a
  from_header l bad_length (short h a b) = short_step l h a b
  from_header l too_large (large h a b c) = over_step l h a b c
  from_header l in_payload (cut_payload h a b c d) = payload_step l h a b c d
  from_header l (whole_at tag n) (complete h a b c d) = whole_step l h a b c d

  from_payload : 5 ≤ length rest → length_field rest < half 4 → 4 ≤ length_field rest → length_field rest - 4 ≤ limit → length rest < length_field rest + 1
      → Local limit rest u e p x
  from_payload h a b c d =
      by_test (ltb (length (rest ++ u)) (length_field rest + 1))
      (λ t. still_payload h a b c d (ltb-true _ _ t))
      (λ t. now_whole h a b c d (ltb-false _ _ t))

  from_front : (f : Front) → Shows limit rest f → (f ≡ in_header) ⊎ (f ≡ in_payload) → Local limit rest u e p x
  from_front in_header (cut_header h) w = from_header h (front_of limit (rest ++ u)) (shows limit (rest ++ u))
  from_front in_payload (cut_payload h a b c d) w = from_payload h a b c d
  from_front bad_length s w = ⊎_elim (λ q. impossible cc) (λ q. impossible cc) w
  from_front too_large s w = ⊎_elim (λ q. impossible cc) (λ q. impossible cc) w
  from_front (whole_at tag n) s w = ⊎_elim (λ q. impossible cc) (λ q. impossible cc) w

-- ---- a read is as the cut says

lifted : (limit : ℕ) (b u : List ℕ) (e : Bool) (p : List ℕ) (x : Result) → Local limit (cut_of limit b).rest u e p x → Reads limit b u e p x
lifted limit b u e p x l =
    let a : cut_of limit (b ++ take x.2 u) ≡ continued limit (take x.2 u) (cut_of limit b) = cut_append limit b (take x.2 u) in
    record {
      answer = l.answer;
      taken = l.taken;
      within = l.within;
      buffer = l.buffer;
      follows = rw a l.follows;
      items = ap (λ (c : Cut). c.items) a ∙ ap (λ (is : List Item). (cut_of limit b).items ++ is) l.items;
    }

-- a reader that met a message over the limit
shut_local : (setting : ℕ) (rest u : List ℕ) (e : Bool) (r : MessageReader) (p : List ℕ) → limit_of setting ≤ length p → r.refused ≡ true
    → front_of (limit_of setting) rest ≡ too_large → Local (limit_of setting) rest u e p (read_of setting r u e p)
shut_local setting rest u e r p big g f =
    let o = over_kept (limit_of setting) rest u f in
    let q : rest ++ take 0 u ≡ rest = append-nil rest in
    let ed : cut_of (limit_of setting) (rest ++ take 0 u) ≡ ended rest over = ap (cut_of (limit_of setting)) q ∙ cut_too_large (limit_of setting) rest f in
    local (limit_of setting) rest u e p _ _ _ _ _ _ (cut_too_large (limit_of setting) (rest ++ u) o.1) (read_shut setting r u e p big g) refl
    (omega (arith, o.0)) (omega arith) (sym (put_none p 0)) _ ed g refl

read_by_lem : (setting : ℕ) (b u : List ℕ) (e : Bool) (r : MessageReader) (p : List ℕ) → limit_of setting ≤ length p → (end : Ending)
    → front_of (limit_of setting) (cut_of (limit_of setting) b).rest ≡ front_at end → follows_by end (cut_of (limit_of setting) b).rest r p
    → Reads (limit_of setting) b u e p (read_of setting r u e p)
read_by_lem setting b u e r p big header f st = lifted _ b u e p _ (from_front setting _ u e r p big st _ (shows _ _) (inl f))
read_by_lem setting b u e r p big payload f st = lifted _ b u e p _ (from_front setting _ u e r p big st _ (shows _ _) (inr f))
read_by_lem setting b u e r p big over f st = lifted _ b u e p _ (shut_local setting _ u e r p big st f)

pub read_is_cut : ReadIsCut
read_is_cut setting b u e r p big st = read_by_lem setting b u e r p big (cut_of (limit_of setting) b).ending (cut_ending (limit_of setting) b) st

-- ---- any list of reads

-- the buffer keeps its length
module _ (u : List ℕ) (p : List ℕ) where
  abbrev Kept : Result → Type 0
  Kept x = length x.3 ≡ length p

  payload_kept : (r : MessageReader) (e : Bool) → Kept (payload_of r u e p)
  unfolding payload_of
  payload_kept r e =
      let n : ℕ = min r.payload_len (length p) in
      let have : ℕ = r.filled - 5 in
      let j : ℕ = min (n - have) (length u) in
      by_test (leb n have)
      (λ t. simp t)
      (λ t.
      let l : have < n = leb-false _ _ t in
      let m : n ≤ length p = min-le_right r.payload_len (length p) in
      let i : j ≤ n - have = min-le_left (n - have) (length u) in
      let w : j ≤ length u = min-le_right (n - have) (length u) in
      let v : length (take j u) ≡ j = length-take-le j u w in
      let q : length (put p have (take j u)) ≡ length p = length_put p (take j u) have (fits_in have j n (length p) (length (take j u)) v l i m) in
      simp t (pick_both Kept (ltb (have + j) n) _ _ q q))
    where
      fits_in : (a j n m v : ℕ) → v ≡ j → a < n → j ≤ n - a → n ≤ m → a + v ≤ m
      fits_in a j n m v e l i w = omega arith

  judged_kept : (limit : ℕ) (h : List ℕ) → (v : List ℕ) → ((r : MessageReader) → length (payload_of r v false p).3 ≡ length p) → length (judged_of limit h v p).3 ≡ length p
  unfolding judged_of
  judged_kept limit h v f =
      pick_both Kept (is_negative 4 (length_field h)) _ _ refl
      (pick_both Kept (ltb (length_field h) 4) _ _ refl (pick_both Kept (ltb limit (length_field h - 4)) _ _ refl (f (at_byte h 5 (length_field h - 4)))))

header_kept : (limit : ℕ) (r : MessageReader) (u : List ℕ) (e : Bool) (p : List ℕ) → length (header_of limit r u e p).3 ≡ length p
unfolding header_of
header_kept limit r u e p =
    let j : ℕ = min (5 - r.filled) (length u) in
    pick_both (λ (x : Result). length x.3 ≡ length p) (ltb (r.filled + j) 5) _ _ refl
    (judged_kept u p limit (put r.header r.filled (take j u)) (drop j u) (λ y. payload_kept (drop j u) p y false))

read_kept : (setting : ℕ) (r : MessageReader) (u : List ℕ) (e : Bool) (p : List ℕ) → length (read_of setting r u e p).3 ≡ length p
unfolding read_of
read_kept setting r u e p =
    let K : Result → Type 0 = λ x. length x.3 ≡ length p in
    pick_both K (ltb (length p) (limit_of setting)) _ _ refl
    (pick_both K r.refused _ _ refl (pick_both K (ltb r.filled 5) _ _ (header_kept (limit_of setting) r u e p) (payload_kept u p r e)))

-- what holds after each list of offers
abbrev pub Behind : ℕ → List ℕ → List ℕ → Fed → Type 0
Behind setting bytes p f =
    (f.0 ≡ (cut_of (limit_of setting) (take f.2 bytes)).items) × (f.2 ≤ length bytes)
    × FollowsCut (cut_of (limit_of setting) (take f.2 bytes)) f.1 f.3 × (length f.3 ≡ length p)

pub one_more : (setting : ℕ) (bytes p : List ℕ) → limit_of setting ≤ length p → (f : Fed) (o : Offer) → Behind setting bytes p f → Behind setting bytes p (feed_one setting bytes f o)
one_more setting bytes p big f o i =
    let t : ℕ = f.2 in
    let u : List ℕ = take o.unread (drop t bytes) in
    let x : Result = read_of setting f.1 u o.ended f.3 in
    let lk : limit_of setting ≤ length f.3 = (let y = i.3 in omega arith) in
    let w = read_is_cut setting (take t bytes) u o.ended f.1 f.3 lk i.2 in
    let ul : length u ≤ o.unread = simp length-take (omega arith) in
    let dl : length u ≤ length bytes - t = simp (length-take, length-drop) (omega arith) in
    let k : x.2 ≤ length u = w.within in
    let s : take (t + x.2) bytes ≡ take t bytes ++ take x.2 u =
    take-add t x.2 bytes ∙ ap (λ (y : List ℕ). take t bytes ++ y) (sym (take-take x.2 o.unread (drop t bytes) (le_trans k ul))) in
    let e : cut_of (limit_of setting) (take (t + x.2) bytes) ≡ cut_of (limit_of setting) (take t bytes ++ take x.2 u) = ap (cut_of (limit_of setting)) s in (
      ap (λ (is : List Item). is ++ item_of x.0 x.3) i.0 ∙ (sym w.items ∙ ap (λ (c : Cut). c.items) (sym e)),
      within_all t x.2 (length u) (length bytes) k dl i.1,
      rw e w.follows,
      read_kept setting f.1 u o.ended f.3 ∙ i.3,
    )
  where
    within_all : (t k u n : ℕ) → k ≤ u → u ≤ n - t → t ≤ n → t + k ≤ n
    within_all t k u n a b c = omega arith

all_more : (setting : ℕ) (bytes p : List ℕ) → limit_of setting ≤ length p → (os : List Offer) (f : Fed) → Behind setting bytes p f → Behind setting bytes p (feed_all setting bytes f os)
unfolding feed_all
all_more setting bytes p big [] f i = i
all_more setting bytes p big (o ∷ os) f i = all_more setting bytes p big os (feed_one setting bytes f o) (one_more setting bytes p big f o i)

pub fed_is_cut : FedIsCut
fed_is_cut setting bytes p big os =
    let c : cut_of (limit_of setting) [] ≡ ended [] header = cut_nothing (limit_of setting) in
    all_more setting bytes p big os ([], fresh, 0, p) (ap (λ (y : Cut). y.items) (sym c), omega arith, rw c (fresh_holds p), refl)
