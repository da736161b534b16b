-- Streams that differ in hidden places alone are alike, message after message.
use mathlib.Core.Path.{◌≡◌, refl, sym, ap, ◌∙◌}
use mathlib.Core.Bool.{Bool, true, false}
use mathlib.Core.List.{List, []}
use Prim.Native.Nat.{ℕ, zero, suc, ◌+◌, ◌-◌, ◌≤◌, ◌<◌}
use native.Mathlib.Omega.{arith}
use lib.ListN.{length, get_or, take, drop, length-drop}
use lib.Seq.{length-take-le, get_or-drop}
use lib.Dec.{ltb}
use borrow.Author.Tests.{lt-leb, le-leb, lt-ltb, le-ltb}
use Rattle.wire.specs.Bytes.{pick, at}
use Rattle.worker.specs.Tests.{both}
use Rattle.frames.specs.Tag.{is_copy_data}
use Rattle.frames.specs.Message.{Front, in_header, in_payload, bad_length, too_large, whole, length_field, front_of}
use Rattle.frames.specs.Cut.{Item, Cut, cut_of}
use Rattle.frames.proofs.Front.{Shows, complete, shows}
use Rattle.frames.proofs.Laws.{cut_in_header, cut_in_payload, cut_too_large, cut_bad_length, cut_whole}
use Rattle.replication.specs.CopyData.{copy_data_of}
use Rattle.thm_unpublished.specs.Hidden.{hidden_by_payload, hidden_in_message, hidden_in, hidden_at, DifferHidden}
use Rattle.thm_unpublished.specs.Alike.{Alike, ends, goes_on, AlikePayload, is_whole, HiddenIsAlike}
use Rattle.thm_unpublished.proofs.Lists.{front_by, all_by, part_agree, part_length}
use Rattle.thm_unpublished.proofs.Payload.{alike_payload}

-- ---- no whole message at the front

module _ (limit : ℕ) (a b : List ℕ) (d : DifferHidden limit a b) where
  pub nothing_hidden : (cut_of limit a).items ≡ [] → a ≡ b
  unfolding hidden_at hidden_in
  nothing_hidden e = all_by a b d.size (λ j. d.public j (rw e refl))

  -- where the whole list is the same, its header is
  stops : (cut_of limit a).items ≡ [] → is_whole (front_of limit a) ≡ false → Alike limit a b
  stops e f = ends d.size (ap (take 5) (nothing_hidden e)) f

  pub bad_header : front_of limit a ≡ bad_length → take 5 a ≡ take 5 b
  unfolding hidden_at hidden_in
  bad_header f = front_by a b 5 d.size (λ j l. d.public j (rw (cut_bad_length limit a f, lt-ltb j 5 l) refl))

  stops_bad : front_of limit a ≡ bad_length → Alike limit a b
  stops_bad f = ends {a = a} {b = b} d.size (bad_header f) (rw f refl)

  -- ---- a whole message at the front

  module _ (tag n : ℕ) (f : front_of limit a ≡ whole tag n) (long : 5 + n ≤ length a) where
    abbrev p : List ℕ
    p = at a 5 n

    abbrev rest : List Item
    rest = (cut_of limit (drop (5 + n) a)).items

    pub size : length p ≡ n
    size = let l : length (drop 5 a) ≡ length a - 5 = length-drop 5 a in length-take-le n (drop 5 a) (omega arith)

    pub hidden_is : (j : ℕ) → hidden_at limit a j ≡ pick (ltb j (5 + length p)) (hidden_in_message tag p j) (hidden_in rest (j - (5 + length p)))
    unfolding hidden_at hidden_in
    hidden_is j = rw (cut_whole limit a tag n f) refl

    pub header : take 5 a ≡ take 5 b
    header = front_by a b 5 d.size (λ j l. d.public j (hidden_is j ∙ public j l))
      where
        public : (j : ℕ) → j < 5 → pick (ltb j (5 + length p)) (hidden_in_message tag p j) (hidden_in rest (j - (5 + length p))) ≡ false
        public j l = rw (lt-ltb j (5 + length p) (omega arith), lt-leb 5 j l) (never (is_copy_data tag))
          where
            never : (c : Bool) → both c false ≡ false
            never true = refl
            never false = refl

    pub payload : AlikePayload tag p (at b 5 n)
    payload =
        alike_payload tag p (at b 5 n) (part_length a b 5 n d.size)
        (λ j h. part_agree a b 5 n j d.size (λ l. d.public (5 + j) (hidden_is (5 + j) ∙ public j l h)))
      where
        public : (j : ℕ) → j < n → both (is_copy_data tag) (hidden_by_payload p (copy_data_of p) j) ≡ false
            → pick (ltb (5 + j) (5 + length p)) (hidden_in_message tag p (5 + j)) (hidden_in rest (5 + j - (5 + length p))) ≡ false
        public j l h =
            let x : ltb (5 + j) (5 + length p) ≡ true = lt-ltb (5 + j) (5 + length p) (rw size (omega arith)) in
            let y : 5 + j - 5 ≡ j = omega arith in
            rw (x, le-leb 5 (5 + j) (omega arith), y) h

    pub tail : DifferHidden limit (drop (5 + n) a) (drop (5 + n) b)
    unfolding hidden_at
    tail =
        record {
          size =
              let x : length (drop (5 + n) a) ≡ length a - (5 + n) = length-drop (5 + n) a in
              let y : length (drop (5 + n) b) ≡ length b - (5 + n) = length-drop (5 + n) b in
              let z = d.size in
              omega arith;
          public = λ j h.
              get_or-drop (5 + n) a j 0 ∙ (d.public (5 + n + j) (hidden_is (5 + n + j) ∙ public j h) ∙ sym (get_or-drop (5 + n) b j 0));
        }
      where
        public : (j : ℕ) → hidden_in rest j ≡ false
            → pick (ltb (5 + n + j) (5 + length p)) (hidden_in_message tag p (5 + n + j)) (hidden_in rest (5 + n + j - (5 + length p))) ≡ false
        public j h =
            let x : ltb (5 + n + j) (5 + length p) ≡ false = le-ltb (5 + n + j) (5 + length p) (rw size (omega arith)) in
            let y : 5 + n + j - (5 + length p) ≡ j = rw size (omega arith) in
            rw (x, y) h

    continues : Alike limit (drop (5 + n) a) (drop (5 + n) b) → Alike limit a b
    continues r = goes_on tag n d.size header f payload r

-- ---- message after message

module _ (limit : ℕ) (a b : List ℕ) (d : DifferHidden limit a b)
    (go : (n : ℕ) → 5 + n ≤ length a → DifferHidden limit (drop (5 + n) a) (drop (5 + n) b) → Alike limit (drop (5 + n) a) (drop (5 + n) b)) where
  by_front : (f : Front) → front_of limit a ≡ f → Shows limit a f → Alike limit a b
  by_front in_header e s = stops limit a b d (ap (λ (c : Cut). c.items) (cut_in_header limit a e)) (rw e refl)
  by_front in_payload e s = stops limit a b d (ap (λ (c : Cut). c.items) (cut_in_payload limit a e)) (rw e refl)
  by_front too_large e s = stops limit a b d (ap (λ (c : Cut). c.items) (cut_too_large limit a e)) (rw e refl)
  by_front bad_length e s = stops_bad limit a b d e
  by_front (whole tag n) e (complete h x y z q) =
      let m : ℕ = length_field a - 4 in
      let l : 5 + m ≤ length a = omega arith in
      continues limit a b d (get_or a 0 0) m e l (go m l (tail limit a b d (get_or a 0 0) m e l))

within : (k limit : ℕ) (a b : List ℕ) → length a ≤ k → DifferHidden limit a b → Alike limit a b
within zero limit a b h d = by_front limit a b d (λ n l e. absurd (omega arith)) (front_of limit a) refl (shows limit a)
within (suc k) limit a b h d =
    by_front limit a b d (λ n l e. within k limit (drop (5 + n) a) (drop (5 + n) b) (simp length-drop (omega arith)) e) (front_of limit a) refl
    (shows limit a)

pub hidden_is_alike : HiddenIsAlike
hidden_is_alike limit a b d = within (length a) limit a b (omega arith) d
