-- The ways out of a read, a law for each.
use mathlib.Core.Path.{◌≡◌, ap, ◌∙◌}
use mathlib.Core.Bool.{Bool, true, false}
use mathlib.Core.List.{List}
use Prim.Native.Nat.{ℕ, ◌+◌, ◌-◌, ◌≤◌, ◌<◌, min}
use native.Mathlib.Omega.{arith}
use native.Mathlib.Nat.{min-le_left, min-le_right}
use lib.ListN.{length, get_or, take, drop, length-take, length-drop}
use lib.Seq.{take_all}
use lib.Dec.{ltb, leb}
use borrow.Author.Tests.{le-leb, lt-leb, lt-ltb, le-ltb}
use Rattle.wire.specs.Bytes.{pick, put, copied}
use Rattle.wire.specs.Int.{half, is_negative}
use Rattle.frames.specs.Message.{length_field}
use Rattle.framing.specs.declared.MessageReader.{MessageReader}
use Rattle.framing.specs.Read.{Said, whole, refused, fresh, shut, at_byte, Result, after_taking, unfinished, payload_of, judged_of, header_of, limit_of, read_of}

-- a source no longer than its destination is copied whole
pub copied_all : (d src q : List ℕ) (r : ℕ) → length src ≤ length d → (r, q) ≡ copied d src → q ≡ put d 0 src
unfolding copied
copied_all d src q r h e =
    let m : min (length src) (length d) ≡ length src = omega arith in
    ap (λ (x : ℕ × List ℕ). x.1) e ∙ rw (m, take_all (length src) src (omega arith))

-- the payload buffer after the filled mark has room for what is taken
pub tail_fits : (u p : List ℕ) (k n have len : ℕ) → k ≡ min (n - have) (length u) → n ≡ min len (length p)
    → length (take k u) ≤ length (take (length p - have) (drop have p))
tail_fits u p k n have len ek en =
    let l : k ≤ n - have = (let m = min-le_left (n - have) (length u) in omega arith) in
    let f : n ≤ length p = (let m = min-le_right len (length p) in omega arith) in
    let g : length (take k u) ≤ k = simp length-take (omega arith) in
    let w : length (take (length p - have) (drop have p)) ≡ length p - have = simp (length-take, length-drop) (omega arith) in
    omega arith

module _ (r : MessageReader) (u : List ℕ) (e : Bool) (p : List ℕ) (n have tag : ℕ)
    (en : n ≡ min r.payload_len (length p)) (eh : have ≡ r.filled - 5) (et : tag ≡ get_or r.header 0 0) where
  pub payload_there : (f : MessageReader) → f ≡ fresh → n ≤ have → (whole tag n, f, 0, p) ≡ payload_of r u e p
  unfolding payload_of
  payload_there f ef h = rw (← en, ← eh, ← et, ef) (simp (le-leb _ _ h))

  module _ (k : ℕ) (q : List ℕ) (ek : k ≡ min (n - have) (length u)) (eq : q ≡ put p have (take k u)) (h : have < n) where
    pub payload_more : (s : Said) (f : MessageReader) → s ≡ unfinished 9 (length u) e → f ≡ at_byte r.header (r.filled + k) r.payload_len
        → have + k < n → (s, f, k, q) ≡ payload_of r u e p
    unfolding payload_of
    payload_more s f es ef l = rw (es, ef, eq, ← en, ← eh, ← et, ← ek) (simp (lt-leb _ _ h, lt-ltb _ _ l))

    pub payload_whole : (f : MessageReader) → f ≡ fresh → n ≤ have + k → (whole tag n, f, k, q) ≡ payload_of r u e p
    unfolding payload_of
    payload_whole f ef l = rw (ef, eq, ← en, ← eh, ← et, ← ek) (simp (lt-leb _ _ h, le-ltb _ _ l))

module _ (limit : ℕ) (h u p : List ℕ) (n : ℕ) (en : n ≡ length_field h) where
  pub length_negative : (f : MessageReader) → f ≡ fresh → half 4 ≤ n → (refused 6, f, 0, p) ≡ judged_of limit h u p
  unfolding judged_of
  length_negative f ef l = rw (← en, ef) (simp (le-leb _ _ l))

  module _ (l : n < half 4) where
    pub length_short : (f : MessageReader) → f ≡ fresh → n < 4 → (refused 6, f, 0, p) ≡ judged_of limit h u p
    unfolding judged_of
    length_short f ef k = rw (← en, ef) (simp (lt-leb _ _ l, lt-ltb _ _ k))

    module _ (k : 4 ≤ n) where
      pub length_over : (f : MessageReader) → f ≡ shut → limit < n - 4 → (refused 7, f, 0, p) ≡ judged_of limit h u p
      unfolding judged_of
      length_over f ef m = rw (← en, ef) (simp (lt-leb _ _ l, le-ltb _ _ k, lt-ltb _ _ m))

      pub length_good : (f : MessageReader) (s : Result) → f ≡ at_byte h 5 (n - 4) → n - 4 ≤ limit → s ≡ payload_of f u false p → s ≡ judged_of limit h u p
      unfolding judged_of
      length_good f s ef m es = rw (← en) (simp (lt-leb _ _ l, le-ltb _ _ k, le-ltb _ _ m) (es ∙ ap (λ (x : MessageReader). payload_of x u false p) ef))

module _ (limit : ℕ) (r : MessageReader) (u : List ℕ) (e : Bool) (p : List ℕ) (k : ℕ) (h : List ℕ)
    (ek : k ≡ min (5 - r.filled) (length u)) (eh : h ≡ put r.header r.filled (take k u)) where
  pub header_more : (s : Said) (f : MessageReader) → s ≡ unfinished 8 (length u) e → f ≡ at_byte h (r.filled + k) r.payload_len
      → r.filled + k < 5 → (s, f, k, p) ≡ header_of limit r u e p
  unfolding header_of
  header_more s f es ef l = rw (es, ef, ← ek, ← eh) (simp (lt-ltb _ _ l))

  pub header_whole : (m : ℕ) (s : Result) → length u ≤ m + k → s ≡ judged_of limit h (take m (drop k u)) p → 5 ≤ r.filled + k → after_taking k s ≡ header_of limit r u e p
  unfolding header_of
  header_whole m s w es l =
      let t : take m (drop k u) ≡ drop k u = take_all m (drop k u) (simp length-drop (omega arith)) in
      rw (← ek, ← eh) (simp (le-ltb _ _ l) (ap (after_taking k) (es ∙ ap (λ (x : List ℕ). judged_of limit h x p) t)))

-- ---- how much is taken

pub pick_both : {A : Type 0} (P : A → Type 0) (b : Bool) (x y : A) → P x → P y → P (pick b x y)
pick_both P true x y a b = a
pick_both P false x y a b = b

pub payload_taken : (r : MessageReader) (u : List ℕ) (e : Bool) (p : List ℕ) → (payload_of r u e p).2 ≤ length u
unfolding payload_of
payload_taken r u e p =
    let P : Result → Type 0 = λ s. s.2 ≤ length u in
    let n : ℕ = min r.payload_len (length p) in
    let have : ℕ = r.filled - 5 in
    let k : ℕ = min (n - have) (length u) in
    let z : 0 ≤ length u = omega arith in
    let l : k ≤ length u = min-le_right (n - have) (length u) in
    pick_both P (leb n have) _ _ z (pick_both P (ltb (have + k) n) _ _ l l)

pub judged_taken : (limit : ℕ) (h u p : List ℕ) → (judged_of limit h u p).2 ≤ length u
unfolding judged_of
judged_taken limit h u p =
    let P : Result → Type 0 = λ s. s.2 ≤ length u in
    let n : ℕ = length_field h in
    let z : 0 ≤ length u = omega arith in
    pick_both P (is_negative 4 n) _ _ z (pick_both P (ltb n 4) _ _ z (pick_both P (ltb limit (n - 4)) _ _ z (payload_taken (at_byte h 5 (n - 4)) u false p)))

header_taken : (limit : ℕ) (r : MessageReader) (u : List ℕ) (e : Bool) (p : List ℕ) → (header_of limit r u e p).2 ≤ length u
unfolding header_of
header_taken limit r u e p =
    let k : ℕ = min (5 - r.filled) (length u) in
    let h : List ℕ = put r.header r.filled (take k u) in
    let a : k ≤ length u = min-le_right (5 - r.filled) (length u) in
    let b = judged_taken limit h (drop k u) p in
    let c : length (drop k u) ≡ length u - k = length-drop k u in
    pick_both (λ (s : Result). s.2 ≤ length u) (ltb (r.filled + k) 5) _ _ a (omega (arith, b))

pub reads_within : (s : ℕ) (r : MessageReader) (u : List ℕ) (e : Bool) (p : List ℕ) → (read_of s r u e p).2 ≤ length u
unfolding read_of
reads_within s r u e p =
    let P : Result → Type 0 = λ x. x.2 ≤ length u in
    let z : 0 ≤ length u = omega arith in
    pick_both P (ltb (length p) (limit_of s)) _ _ z
    (pick_both P r.refused _ _ z
    (pick_both P (ltb r.filled 5) _ _ (header_taken (limit_of s) r u e p) (payload_taken r u e p)))
