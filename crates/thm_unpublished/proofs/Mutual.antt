-- Two streams that differ in hidden places alone have the same hidden places: what decides on them is public.
use mathlib.Core.Path.{◌≡◌, refl, sym, ap, ◌∙◌}
use mathlib.Core.Bool.{Bool, true, false}
use mathlib.Core.List.{List, []}
use Prim.Native.Nat.{ℕ, zero, suc, ◌+◌, ◌-◌, ◌≤◌}
use native.Mathlib.Omega.{arith}
use lib.ListN.{length, get_or, drop, length-drop}
use lib.Seq.{get_or-drop}
use lib.Dec.{ltb, leb}
use borrow.Author.Tests.{le-ltb}
use Rattle.wire.specs.Bytes.{pick, at}
use Rattle.worker.specs.Tests.{both}
use Rattle.frames.specs.Tag.{is_copy_data}
use Rattle.frames.specs.Message.{Front, in_header, in_payload, bad_length, too_large, whole, length_field, front_of}
use Rattle.frames.specs.Cut.{Cut, cut_of}
use Rattle.frames.proofs.Front.{Shows, negative, short, complete, shows}
use Rattle.frames.proofs.Laws.{cut_in_header, cut_in_payload, cut_too_large, cut_bad_length, cut_whole}
use Rattle.replication.specs.CopyData.{copy_data_of}
use Rattle.replication.specs.CopyData as C
use Rattle.pgoutput.specs.Boundary as B
use Rattle.thm_unpublished.specs.Hidden.{hidden_by, hidden_by_payload, hidden_in_message, hidden_in, hidden_at, DifferHidden}
use Rattle.thm_unpublished.specs.Alike.{View, boundary_in, view_of, AlikePayload, HiddenIsMutual}
use Rattle.thm_unpublished.proofs.Contained.{nothing_hidden, bad_header, header, payload, tail}
use Rattle.thm_unpublished.proofs.Prefix.{same_kind}

-- ---- a payload's hidden places, by its view

abbrev hidden_said : C.Said → B.Said → ℕ → Bool
hidden_said (C.w start end time from len) b j = both (leb from j) (hidden_by b (j - from))
hidden_said (C.k end time reply) b j = false
hidden_said (C.refused n) b j = false

by_said : (p : List ℕ) (c : C.Said) (j : ℕ) → hidden_by_payload p c j ≡ hidden_said c (boundary_in p c) j
by_said p (C.w start end time from len) j = refl
by_said p (C.k end time reply) j = refl
by_said p (C.refused n) j = refl

same_places : (p q : List ℕ) → view_of p ≡ view_of q → (j : ℕ) → hidden_by_payload p (copy_data_of p) j ≡ hidden_by_payload q (copy_data_of q) j
same_places p q h j =
    by_said p (copy_data_of p) j ∙ (ap (λ (v : View). hidden_said v.said v.boundary j) h ∙ sym (by_said q (copy_data_of q) j))

message_places : (tag : ℕ) (p q : List ℕ) → AlikePayload tag p q → (j : ℕ) → hidden_in_message tag p j ≡ hidden_in_message tag q j
message_places tag p q h j = by (is_copy_data tag) h.copied
  where
    by : (b : Bool) → (b ≡ true → view_of p ≡ view_of q)
        → both b (both (leb 5 j) (hidden_by_payload p (copy_data_of p) (j - 5))) ≡ both b (both (leb 5 j) (hidden_by_payload q (copy_data_of q) (j - 5)))
    by true v = ap (λ (x : Bool). both (leb 5 j) x) (same_places p q (v refl) (j - 5))
    by false v = refl

-- ---- message after message

module _ (limit : ℕ) (a b : List ℕ) (d : DifferHidden limit a b)
    (go : (k : ℕ) → 5 ≤ k → k ≤ length a → DifferHidden limit (drop k a) (drop k b) → (j : ℕ) → hidden_at limit (drop k a) j ≡ hidden_at limit
    (drop k b) j)
  where
    equal_places : (cut_of limit a).items ≡ [] → (j : ℕ) → hidden_at limit a j ≡ hidden_at limit b j
    equal_places e j = ap (λ (s : List ℕ). hidden_at limit s j) (nothing_hidden limit a b d e)

    -- after a bad header
    module _ (f : front_of limit a ≡ bad_length) (long : 5 ≤ length a) where
      bad_is : (s : List ℕ) → front_of limit s ≡ bad_length → (j : ℕ) → hidden_at limit s j ≡ pick (ltb j 5) false (hidden_at limit (drop 5 s) (j - 5))
      unfolding hidden_at hidden_in
      bad_is s e j = rw (cut_bad_length limit s e) refl

      after_bad : DifferHidden limit (drop 5 a) (drop 5 b)
      after_bad =
          record {
            size =
                let x : length (drop 5 a) ≡ length a - 5 = length-drop 5 a in
                let y : length (drop 5 b) ≡ length b - 5 = length-drop 5 b in
                let z = d.size in
                omega arith;
            public = λ j h. get_or-drop 5 a j 0 ∙ (d.public (5 + j) (bad_is a f (5 + j) ∙ there j h) ∙ sym (get_or-drop 5 b j 0));
          }
        where
          there : (j : ℕ) → hidden_at limit (drop 5 a) j ≡ false → pick (ltb (5 + j) 5) false (hidden_at limit (drop 5 a) (5 + j - 5)) ≡ false
          there j h =
              let x : ltb (5 + j) 5 ≡ false = le-ltb (5 + j) 5 (omega arith) in
              let y : 5 + j - 5 ≡ j = omega arith in
              rw (x, y) h

      bad_places : (j : ℕ) → hidden_at limit a j ≡ hidden_at limit b j
      bad_places j =
          let e : front_of limit b ≡ bad_length = sym (same_kind limit a b d.size (bad_header limit a b d f)) ∙ f in
          bad_is a f j ∙ (ap (λ (x : Bool). pick (ltb j 5) false x) (go 5 (omega arith) long after_bad (j - 5)) ∙ sym (bad_is b e j))

    -- after a whole message
    module _ (tag n : ℕ) (f : front_of limit a ≡ whole tag n) (long : 5 + n ≤ length a) where
      whole_is : (s : List ℕ) → front_of limit s ≡ whole tag n → (j : ℕ)
          → hidden_at limit s j
          ≡ pick (ltb j (5 + length (at s 5 n))) (hidden_in_message tag (at s 5 n) j) (hidden_at limit (drop (5 + n) s) (j - (5 + length (at s 5 n))))
      unfolding hidden_at hidden_in
      whole_is s e j = rw (cut_whole limit s tag n e) refl

      whole_places : (j : ℕ) → hidden_at limit a j ≡ hidden_at limit b j
      whole_places j =
          let h = payload limit a b d tag n f long in
          let e : front_of limit b ≡ whole tag n = sym (same_kind limit a b d.size (header limit a b d tag n f long)) ∙ f in
          let k : ℕ = j - (5 + length (at a 5 n)) in
          let r : hidden_at limit (drop (5 + n) a) k ≡ hidden_at limit (drop (5 + n) b) k =
          go (5 + n) (omega arith) long (tail limit a b d tag n f long) k in
          whole_is a f j
          ∙ (by (ltb j (5 + length (at a 5 n))) (message_places tag (at a 5 n) (at b 5 n) h j) r
          ∙ (ap (λ (m : ℕ). pick (ltb j (5 + m)) (hidden_in_message tag (at b 5 n) j) (hidden_at limit (drop (5 + n) b) (j - (5 + m)))) h.size
          ∙ sym (whole_is b e j)))
        where
          by : (t : Bool) {x x' y y' : Bool} → x ≡ x' → y ≡ y' → pick t x y ≡ pick t x' y'
          by t p q = rw (p, q)

    by_front : (f : Front) → front_of limit a ≡ f → Shows limit a f → (j : ℕ) → hidden_at limit a j ≡ hidden_at limit b j
    by_front in_header e s = equal_places (ap (λ (c : Cut). c.items) (cut_in_header limit a e))
    by_front in_payload e s = equal_places (ap (λ (c : Cut). c.items) (cut_in_payload limit a e))
    by_front too_large e s = equal_places (ap (λ (c : Cut). c.items) (cut_too_large limit a e))
    by_front bad_length e (negative h x) = bad_places e h
    by_front bad_length e (short h x y) = bad_places e h
    by_front (whole tag n) e (complete h x y z q) = whole_places (get_or a 0 0) (length_field a - 4) e (omega arith)

within : (k limit : ℕ) (a b : List ℕ) → length a ≤ k → DifferHidden limit a b → (j : ℕ) → hidden_at limit a j ≡ hidden_at limit b j
within zero limit a b h d = by_front limit a b d (λ n l m e. absurd (omega arith)) (front_of limit a) refl (shows limit a)
within (suc k) limit a b h d =
    by_front limit a b d (λ n l m e. within k limit (drop n a) (drop n b) (simp length-drop (omega arith)) e) (front_of limit a) refl (shows limit a)

pub hidden_is_mutual : HiddenIsMutual
hidden_is_mutual limit a b d = within (length a) limit a b (omega arith) d
