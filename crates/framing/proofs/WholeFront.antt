-- A message that lies whole at the front of the unread bytes is read at once, with any reader that holds nothing; and no other read gives one.
use mathlib.Core.Path.{◌≡◌, refl, sym, ap, ◌∙◌}
use mathlib.Core.Bool.{Bool, true, false}
use mathlib.Core.List.{List, []}
use Prim.Native.Nat.{ℕ, ◌+◌, ◌-◌, ◌≤◌, ◌<◌, min}
use native.Mathlib.Omega.{arith}
use lib.ListN.{length, get_or, take, drop, length-drop, take-append-drop, get_or-append}
use lib.Seq.{take_all, length-take-le, get_or-take}
use lib.Dec.{ltb, leb, eqb}
use borrow.Author.Tests.{lt-ltb, le-ltb, leb-true, leb-false}
use Rattle.wire.specs.Bytes.{pick, at, put}
use Rattle.wire.specs.Int.{half}
use Rattle.wire.proofs.Laws.{by_test, impossible, put_none, part_of_front}
use Rattle.frames.specs.Message.{Front, in_header, in_payload, bad_length, too_large, length_field, front_of}
use Rattle.frames.specs.Message.{whole as whole_at}
use Rattle.frames.specs.Cut.{Cut, cut_of}
use Rattle.frames.proofs.Front.{Shows, complete, shows, length_field_append}
use Rattle.frames.proofs.Laws.{cut_in_header, cut_in_payload, cut_too_large, cut_bad_length, cut_nothing}
use Rattle.framing.specs.declared.MessageReader.{MessageReader}
use Rattle.framing.specs.Read.{whole, fresh, at_byte, limit_of, Result, after_taking, unfinished, payload_of, judged_of, header_of}
use Rattle.framing.specs.Read.{read_of}
use Rattle.framing.specs.Feed.{first_answer, Reads}
use Rattle.framing.specs.WholeFront.{whole_bytes, front_bytes, FrontLaws}
use Rattle.framing.proofs.Laws.{length_good, payload_there, payload_whole, header_whole}
use Rattle.framing.proofs.Feed.{fresh_holds, whole_taken, read_is_cut}

-- ---- the read of a message that is there whole

module _ (s : ℕ) (x : MessageReader) (u : List ℕ) (e : Bool) (p : List ℕ) (none_there : x.filled ≡ 0) (going : x.refused ≡ false)
    (room : limit_of s ≤ length p) (five : 5 ≤ length u) (small : length_field u < half 4) (least : 4 ≤ length_field u)
    (fits : length_field u - 4 ≤ limit_of s) (there : length_field u + 1 ≤ length u) where
  abbrev n : ℕ
  n = length_field u - 4

  abbrev tag : ℕ
  tag = get_or u 0 0

  abbrev v : List ℕ
  v = take (length u) (drop 5 u)

  v_is : v ≡ drop 5 u
  v_is = take_all (length u) (drop 5 u) (simp length-drop (omega arith))

  -- the reader's header with the message's written over it
  abbrev h : List ℕ
  h = put x.header 0 (take 5 u)

  header_tag : tag ≡ get_or h 0 0
  unfolding put
  header_tag =
      let l : length (take 5 u) ≡ 5 = length-take-le 5 u five in
      sym (get_or-append (take 5 u) _ 0 0 (omega arith) ∙ get_or-take 5 u 0 0 (omega arith))

  header_length : length_field u ≡ length_field h
  unfolding put
  header_length =
      let l : length (take 5 u) ≡ 5 = length-take-le 5 u five in
      let a : length_field u ≡ length_field (take 5 u) =
      ap length_field (sym (take-append-drop 5 u)) ∙ length_field_append (take 5 u) (drop 5 u) (omega arith) in
      a ∙ sym (length_field_append (take 5 u) (drop (0 + length (take 5 u)) x.header) (omega arith))

  payload_read : (whole tag n, fresh, n, put p 0 (take n v)) ≡ payload_of (at_byte h 5 n) v false p
  payload_read =
      let lv : length v ≡ length u - 5 = ap length v_is ∙ length-drop 5 u in
      let en : n ≡ min n (length p) = omega arith in
      by_test (leb n 0)
      (λ t.
      let l : n ≤ 0 = leb-true _ _ t in
      let z : n ≡ 0 = omega arith in
      ap (λ (k : ℕ). (whole tag n, fresh, k, put p 0 (take k v))) z ∙ (ap (λ (q : List ℕ). (whole tag n, fresh, 0, q)) (put_none p 0)
      ∙ payload_there (at_byte h 5 n) v false p n 0 tag en refl header_tag fresh refl l))
      (λ t.
      let l : 0 < n = leb-false _ _ t in
      payload_whole (at_byte h 5 n) v false p n 0 tag en refl header_tag n (put p 0 (take n v)) (omega arith) refl l fresh refl (omega arith))

  judged_read : (whole tag n, fresh, n, put p 0 (take n v)) ≡ judged_of (limit_of s) h v p
  judged_read = length_good (limit_of s) h v p (length_field u) header_length small least (at_byte h 5 n) _ refl fits payload_read

  header_read : after_taking 5 (whole tag n, fresh, n, put p 0 (take n v)) ≡ header_of (limit_of s) x u e p
  header_read =
      let ek : 5 ≡ min (5 - x.filled) (length u) = omega arith in
      let eh : h ≡ put x.header x.filled (take 5 u) = rw none_there refl in
      header_whole (limit_of s) x u e p 5 h ek eh (length u) _ (omega arith) judged_read (omega arith)

  read_complete : read_of s x u e p ≡ (whole tag n, fresh, 5 + n, put p 0 (at u 5 n))
  unfolding read_of
  read_complete =
      let lt : ltb x.filled 5 ≡ true = lt-ltb x.filled 5 (omega arith) in
      third _ _ _ _ _ _ _ (le-ltb _ _ room) going lt ∙ (sym header_read ∙ ap (λ (t : List ℕ). (whole tag n, fresh, 5 + n, put p 0 (take n t))) v_is)
    where
      -- the third test decides
      third : {A : Type 0} (a b c : Bool) (w x y z : A) → a ≡ false → b ≡ false → c ≡ true → pick a w (pick b x (pick c y z)) ≡ y
      third a b c w x y z ea eb ec = rw (ea, eb, ec)

-- by what stands at the front, with any reader that holds nothing
pub read_front : (s : ℕ) (x : MessageReader) (u : List ℕ) (e : Bool) (p : List ℕ) (tag n : ℕ) → x.filled ≡ 0 → x.refused ≡ false
    → limit_of s ≤ length p → front_of (limit_of s) u ≡ whole_at tag n → read_of s x u e p ≡ (whole tag n, fresh, 5 + n, put p 0 (at u 5 n))
read_front s x u e p tag n none going room f = by (front_of (limit_of s) u) (shows (limit_of s) u) f
  where
    by : (g : Front) → Shows (limit_of s) u g → g ≡ whole_at tag n → read_of s x u e p ≡ (whole tag n, fresh, 5 + n, put p 0 (at u 5 n))
    by in_header w q = impossible cc
    by in_payload w q = impossible cc
    by bad_length w q = impossible cc
    by too_large w q = impossible cc
    by (whole_at t k) (complete h a b c d) q =
        let et : get_or u 0 0 ≡ tag = cc in
        let en : length_field u - 4 ≡ n = cc in
        read_complete s x u e p none going room h a b c d ∙ rw (et, en) refl

-- the bytes that are there
pub front_within : (limit : ℕ) (u : List ℕ) (tag n : ℕ) → front_of limit u ≡ whole_at tag n → (5 + n ≤ length u) × (n ≤ limit)
front_within limit u tag n f = by (front_of limit u) (shows limit u) f
  where
    by : (g : Front) → Shows limit u g → g ≡ whole_at tag n → (5 + n ≤ length u) × (n ≤ limit)
    by in_header w q = impossible cc
    by in_payload w q = impossible cc
    by bad_length w q = impossible cc
    by too_large w q = impossible cc
    by (whole_at t k) (complete h a b c d) q = let en : length_field u - 4 ≡ n = cc in (omega arith, omega arith)

-- the message's own bytes have it at their front, too
own_bytes : (limit : ℕ) (u : List ℕ) (tag n : ℕ) → front_of limit u ≡ whole_at tag n → front_of limit (take (5 + n) u) ≡ whole_at tag n
own_bytes limit u tag n f = by (front_of limit u) (shows limit u) f
  where
    by : (g : Front) → Shows limit u g → g ≡ whole_at tag n → front_of limit (take (5 + n) u) ≡ whole_at tag n
    by in_header w q = impossible cc
    by in_payload w q = impossible cc
    by bad_length w q = impossible cc
    by too_large w q = impossible cc
    by (whole_at t k) (complete h a b c d) q =
        let et : get_or u 0 0 ≡ tag = cc in
        let en : length_field u - 4 ≡ n = cc in
        rw (← et, ← en) (whole_taken limit u h a b c d)

-- ---- the laws

told : (setting : ℕ) (u : List ℕ) (e : Bool) (p : List ℕ) (k : ℕ) → limit_of setting ≤ length p → front_bytes setting u ≡ k → 0 < k
    → (tag n : ℕ) × (k ≡ 5 + n) × (k ≤ length u) × (read_of setting fresh u e p ≡ (whole tag n, fresh, k, put p 0 (at u 5 n)))
    × (read_of setting fresh (take k u) e p ≡ (whole tag n, fresh, k, put p 0 (at u 5 n)))
unfolding front_bytes
told setting u e p k room f some = by (front_of (limit_of setting) u) refl f
  where
    by : (g : Front) → front_of (limit_of setting) u ≡ g → whole_bytes g ≡ k
        → (tag n : ℕ) × (k ≡ 5 + n) × (k ≤ length u) × (read_of setting fresh u e p ≡ (whole tag n, fresh, k, put p 0 (at u 5 n)))
        × (read_of setting fresh (take k u) e p ≡ (whole tag n, fresh, k, put p 0 (at u 5 n)))
    by in_header q z = absurd (omega arith)
    by in_payload q z = absurd (omega arith)
    by bad_length q z = absurd (omega arith)
    by too_large q z = absurd (omega arith)
    by (whole_at tag n) q z =
        let l = front_within (limit_of setting) u tag n q in
        let a : at (take (5 + n) u) 5 n ≡ at u 5 n = part_of_front (5 + n) 5 n u (omega arith) in
        let own = read_front setting fresh (take (5 + n) u) e p tag n refl refl room (own_bytes (limit_of setting) u tag n q) in
        (tag, n, sym z, rw (← z) l.0, rw (← z) (read_front setting fresh u e p tag n refl refl room q), rw (← z) (rw a at own))

-- an answer that is no whole message
unfinished_other : {X : Type 0} (k unread : ℕ) (e : Bool) (tag n : ℕ) → unfinished k unread e ≡ whole tag n → X
unfinished_other k unread e tag n q =
    by_test (eqb unread 0) (λ t. by_test e (λ f. impossible cc) (λ f. impossible cc)) (λ t. impossible cc)

only : (setting : ℕ) (u : List ℕ) (e : Bool) (p : List ℕ) (tag n : ℕ) → limit_of setting ≤ length p → (read_of setting fresh u e p).0 ≡ whole tag n
    → (front_bytes setting u ≡ 5 + n) × ((read_of setting fresh u e p).2 ≡ 5 + n)
unfolding front_bytes
only setting u e p tag n room q = by (front_of limit u) refl
  where
    limit : ℕ
    limit = limit_of setting

    reads : Reads (limit_of setting) [] u e p (read_of setting fresh u e p)
    reads = read_is_cut setting [] u e fresh p room (rw (cut_nothing (limit_of setting)) (fresh_holds p))

    answered : (c : Cut) → cut_of (limit_of setting) u ≡ c → first_answer c.items c.ending (length u) e ≡ whole tag n
    answered c f = rw (← f) (sym (rw (cut_nothing (limit_of setting)) at reads.answer) ∙ q)

    by : (g : Front) → front_of (limit_of setting) u ≡ g → (whole_bytes g ≡ 5 + n) × ((read_of setting fresh u e p).2 ≡ 5 + n)
    by in_header f = unfinished_other 8 (length u) e tag n (answered _ (cut_in_header (limit_of setting) u f))
    by in_payload f = unfinished_other 9 (length u) e tag n (answered _ (cut_in_payload (limit_of setting) u f))
    by bad_length f = let z = answered _ (cut_bad_length (limit_of setting) u f) in impossible cc
    by too_large f = let z = answered _ (cut_too_large (limit_of setting) u f) in impossible cc
    by (whole_at t k) f =
        let r = read_front setting fresh u e p t k refl refl room f in
        let z : whole t k ≡ whole tag n = sym (ap (λ (y : Result). y.0) r) ∙ q in
        let w : k ≡ n = cc in
        (ap (λ (m : ℕ). 5 + m) w, ap (λ (y : Result). y.2) r ∙ ap (λ (m : ℕ). 5 + m) w)

pub front_laws : FrontLaws
front_laws = record { told = told; only = only }

-- ---- for the code

pub front_is : (setting : ℕ) (u : List ℕ) (g : Front) → front_of (limit_of setting) u ≡ g → whole_bytes g ≡ front_bytes setting u
unfolding front_bytes
front_is setting u g e = ap whole_bytes (sym e)
