-- Two streams that are alike, at each byte: the whole messages so far are alike, and so is what a begun header lacks.
use mathlib.Core.Path.{◌≡◌, refl, sym, ap, ◌∙◌, subst}
use mathlib.Core.Bool.{Bool, true, false}
use mathlib.Core.List.{List, [], ◌∷◌}
use Prim.Native.Nat.{ℕ, ◌+◌, ◌-◌, ◌≤◌, ◌<◌, min}
use native.Mathlib.Omega.{arith}
use lib.ListN.{length, get_or, take, drop, length-take}
use lib.Seq.{get_or-take, drop-drop}
use lib.Dec.{ltb, leb}
use borrow.Author.Tests.{ltb-true, ltb-false, leb-true, leb-false}
use Rattle.wire.specs.Bytes.{at, be}
use Rattle.wire.proofs.Laws.{by_test, impossible, part_of_front}
use Rattle.frames.specs.Message.{Front, in_header, in_payload, bad_length, too_large, whole, length_field, front_of}
use Rattle.frames.specs.Cut.{Item, message, refused, Cut, behind, cut_of}
use Rattle.frames.proofs.Front.{Shows, complete, shows, whole_front}
use Rattle.frames.proofs.Laws.{cut_in_header, cut_in_payload, cut_too_large, cut_bad_length, cut_whole}
use Rattle.thm_any_calls.specs.Plain.{Msg, whole_ones}
use Rattle.thm_any_calls.specs.Table.{last_or, last_message}
use Rattle.thm_any_calls.proofs.Account.{whole_at}
use Rattle.thm_any_calls.proofs.Spans.{items_of}
use Rattle.thm_unpublished.specs.Alike.{Alike, ends, goes_on, AlikePayload, is_whole}
use Rattle.thm_unpublished.proofs.Lists.{same_part, same_element, take_length_same, take_swap, drop_front, drop_of_take}

-- ---- messages that are alike

pub record AlikeMessage (m n : Msg) : Type 0 where
  pub tag : m.0 ≡ n.0
  pub payload : AlikePayload m.0 m.1 n.1

pub data AlikeAll : List Msg → List Msg → Type 0 where
  none : AlikeAll [] []
  more : {m n : Msg} {ms ns : List Msg} → AlikeMessage m n → AlikeAll ms ns → AlikeAll (m ∷ ms) (n ∷ ns)

last_alike : {ms ns : List Msg} (m n : Msg) → AlikeMessage m n → AlikeAll ms ns → AlikeMessage (last_or m ms) (last_or n ns)
unfolding last_or
last_alike m n h none = h
last_alike m n h (more {m = x} {n = y} k r) = last_alike x y k r

-- no bad header is among the items
unfoldable pub good : List Item → Bool
good [] = true
good (message tag p ∷ is) = good is
good (refused ∷ is) = false

pub good_items : (ms : List Msg) → good (items_of ms) ≡ true
unfolding good items_of
good_items [] = refl
good_items (m ∷ ms) = good_items ms

-- what stands at the front, by the header and the length
abbrev front_length : Front → ℕ
front_length in_header = 0
front_length in_payload = 0
front_length bad_length = 0
front_length too_large = 0
front_length (whole tag n) = n

module _ (limit : ℕ) where
  pub same_kind : (a b : List ℕ) → length a ≡ length b → take 5 a ≡ take 5 b → front_of limit a ≡ front_of limit b
  unfolding front_of
  same_kind a b l h = rw (same_part a b 5 1 4 (omega arith) h, same_element a b 5 0 (omega arith) h, l)

  -- a whole message stays whole in a front that holds it
  abbrev Less : ℕ → List ℕ → Front → Type 0
  Less t s in_header = Unit
  Less t s in_payload = Unit
  Less t s bad_length = Unit
  Less t s too_large = Unit
  Less t s (whole tag n) = 5 + n ≤ t → front_of limit (take t s) ≡ whole tag n

  -- a message that is whole in a front was whole before, and lies in the front
  abbrev More : ℕ → List ℕ → Front → Type 0
  More t s in_header = Unit
  More t s in_payload = Unit
  More t s bad_length = Unit
  More t s too_large = Unit
  More t s (whole tag n) = (front_of limit s ≡ whole tag n) × (5 + n ≤ t)

  less_by : (t : ℕ) (s : List ℕ) (f : Front) → Shows limit s f → Less t s f
  less_by t s in_header h = tt
  less_by t s in_payload h = tt
  less_by t s bad_length h = tt
  less_by t s too_large h = tt
  less_by t s (whole tag n) (complete h a b c d) =
      λ l.
      let u : List ℕ = take t s in
      let lu : length u ≡ min t (length s) = length-take t s in
      let f : length_field u ≡ length_field s = ap be (part_of_front t 1 4 s (omega arith)) in
      let g : get_or u 0 0 ≡ get_or s 0 0 = get_or-take t s 0 0 (omega arith) in
      let long : 5 ≤ length u = omega arith in
      let room : length_field s + 1 ≤ length u = omega arith in
      whole_front limit u long (rw f a) (rw f b) (rw f c) (rw f room) ∙ rw (g, f)

  more_by : (t : ℕ) (s : List ℕ) (f : Front) → Shows limit (take t s) f → More t s f
  more_by t s in_header h = tt
  more_by t s in_payload h = tt
  more_by t s bad_length h = tt
  more_by t s too_large h = tt
  more_by t s (whole tag n) (complete h a b c d) =
      let u : List ℕ = take t s in
      let lu : length u ≡ min t (length s) = length-take t s in
      let f : length_field u ≡ length_field s = ap be (part_of_front t 1 4 s (omega arith)) in
      let g : get_or u 0 0 ≡ get_or s 0 0 = get_or-take t s 0 0 (omega arith) in
      let long : 5 ≤ length s = omega arith in
      let room : length_field s + 1 ≤ length s = omega arith in
      (whole_front limit s long (rw (← f) a) (rw (← f) b) (rw (← f) c) room ∙ rw (g, f), omega arith)

  whole_less : (t : ℕ) (s : List ℕ) (tag n : ℕ) → front_of limit s ≡ whole tag n → 5 + n ≤ t → front_of limit (take t s) ≡ whole tag n
  whole_less t s tag n e = subst (Less t s) e (less_by t s (front_of limit s) (shows limit s))

  stays_open : (t : ℕ) (s : List ℕ) → is_whole (front_of limit s) ≡ false → is_whole (front_of limit (take t s)) ≡ false
  stays_open t s w = by (front_of limit (take t s)) (more_by t s (front_of limit (take t s)) (shows limit (take t s)))
    where
      by : (f : Front) → More t s f → is_whole f ≡ false
      by in_header m = refl
      by in_payload m = refl
      by bad_length m = refl
      by too_large m = refl
      by (whole tag n) m = ap is_whole (sym m.0) ∙ w

  cut_open : (t : ℕ) (s : List ℕ) (tag n : ℕ) → front_of limit s ≡ whole tag n → t < 5 + n → is_whole (front_of limit (take t s)) ≡ false
  cut_open t s tag n e l = by (front_of limit (take t s)) (more_by t s (front_of limit (take t s)) (shows limit (take t s)))
    where
      by : (f : Front) → More t s f → is_whole f ≡ false
      by in_header m = refl
      by in_payload m = refl
      by bad_length m = refl
      by too_large m = refl
      by (whole tag' n') m =
          let q : n' ≡ n = ap front_length (sym m.0 ∙ e) in
          let k : 5 + n' ≤ t = m.1 in
          absurd (omega arith)

  nothing_whole : (s : List ℕ) → is_whole (front_of limit s) ≡ false → whole_ones (cut_of limit s).items ≡ []
  unfolding whole_ones
  nothing_whole s w = by (front_of limit s) refl w
    where
      by : (f : Front) → front_of limit s ≡ f → is_whole f ≡ false → whole_ones (cut_of limit s).items ≡ []
      by in_header e x = ap (λ (c : Cut). whole_ones c.items) (cut_in_header limit s e)
      by in_payload e x = ap (λ (c : Cut). whole_ones c.items) (cut_in_payload limit s e)
      by too_large e x = ap (λ (c : Cut). whole_ones c.items) (cut_too_large limit s e)
      by bad_length e x = ap (λ (c : Cut). whole_ones c.items) (cut_bad_length limit s e)
      by (whole tag n) e x = impossible cc

  -- ---- at each byte

  -- what a begun header lacks, after a cut
  abbrev Lacking : ℕ → List ℕ → List ℕ → Cut → Type 0
  Lacking t a b c = good c.items ≡ true → take (5 - length c.rest) (drop t a) ≡ take (5 - length c.rest) (drop t b)

  pub record AtByte (a b : List ℕ) (t : ℕ) : Type 0 where
    pub messages : AlikeAll (whole_at limit a t) (whole_at limit b t)
    pub lacking : Lacking t a b (cut_of limit (take t a))

  -- no message is whole yet
  module _ (t : ℕ) (a b : List ℕ) (l : length a ≡ length b) (h : take 5 a ≡ take 5 b) where
    header_lacks : take (5 - length (take t a)) (drop t a) ≡ take (5 - length (take t a)) (drop t b)
    header_lacks =
        let f : ℕ = length (take t a) in
        let e : length (take t b) ≡ f = sym (take_length_same a b t l) in
        let q : drop t b ≡ drop f b = drop_front t b ∙ ap (λ (k : ℕ). drop k b) e in
        by_test (leb f 5)
        (λ x.
        let y : f ≤ 5 = leb-true _ _ x in
        let z : at a f (5 - f) ≡ at b f (5 - f) = same_part a b 5 f (5 - f) (omega arith) h in
        ap (take (5 - f)) (drop_front t a) ∙ (z ∙ sym (ap (take (5 - f)) q)))
        (λ x. let y : 5 < f = leb-false _ _ x in let z : 5 - f ≡ 0 = omega arith in rw z)

    open_lacks : is_whole (front_of limit (take t a)) ≡ false → Lacking t a b (cut_of limit (take t a))
    unfolding good
    open_lacks w = by (front_of limit (take t a)) refl w
      where
        by : (f : Front) → front_of limit (take t a) ≡ f → is_whole f ≡ false → Lacking t a b (cut_of limit (take t a))
        by in_header e x = subst (Lacking t a b) (sym (cut_in_header limit (take t a) e)) (λ g. header_lacks)
        by in_payload e x = subst (Lacking t a b) (sym (cut_in_payload limit (take t a) e)) (λ g. header_lacks)
        by too_large e x = subst (Lacking t a b) (sym (cut_too_large limit (take t a) e)) (λ g. header_lacks)
        by bad_length e x = subst (Lacking t a b) (sym (cut_bad_length limit (take t a) e)) (λ g. impossible cc)
        by (whole tag n) e x = impossible cc

    open_at : is_whole (front_of limit (take t a)) ≡ false → AtByte a b t
    open_at w =
        let k : front_of limit (take t a) ≡ front_of limit (take t b) =
        same_kind (take t a) (take t b) (take_length_same a b t l) (take_swap 5 t a ∙ (ap (take t) h ∙ sym (take_swap 5 t b))) in
        let ea : whole_at limit a t ≡ [] = nothing_whole (take t a) w in
        let eb : whole_at limit b t ≡ [] = nothing_whole (take t b) (rw (← k) w) in
        record { messages = rw (ea, eb) none; lacking = open_lacks w }

  -- a whole message, and what follows it
  cut_prefix : (t : ℕ) (s : List ℕ) (tag n : ℕ) → front_of limit s ≡ whole tag n → 5 + n ≤ t
      → cut_of limit (take t s) ≡ behind (message tag (at s 5 n)) (cut_of limit (take (t - (5 + n)) (drop (5 + n) s)))
  cut_prefix t s tag n e l =
      cut_whole limit (take t s) tag n (whole_less t s tag n e l) ∙ rw (part_of_front t 5 n s l, drop_of_take (5 + n) t s l)

  whole_at_front : (t : ℕ) (a b : List ℕ) (tag n : ℕ) → length a ≡ length b → take 5 a ≡ take 5 b → front_of limit a ≡ whole tag n
      → AlikePayload tag (at a 5 n) (at b 5 n) → 5 + n ≤ t → AtByte (drop (5 + n) a) (drop (5 + n) b) (t - (5 + n)) → AtByte a b t
  unfolding whole_ones good
  whole_at_front t a b tag n l h e m k r =
      let f : front_of limit b ≡ whole tag n = sym (same_kind a b l h) ∙ e in
      let ca = cut_prefix t a tag n e k in
      let ma : whole_at limit a t ≡ (tag, at a 5 n) ∷ whole_at limit (drop (5 + n) a) (t - (5 + n)) = ap (λ (c : Cut). whole_ones c.items) ca in
      let mb : whole_at limit b t ≡ (tag, at b 5 n) ∷ whole_at limit (drop (5 + n) b) (t - (5 + n)) =
      ap (λ (c : Cut). whole_ones c.items) (cut_prefix t b tag n f k) in
      let q : 5 + n + (t - (5 + n)) ≡ t = omega arith in
      let da : drop t a ≡ drop (t - (5 + n)) (drop (5 + n) a) = sym (drop-drop (t - (5 + n)) (5 + n) a ∙ ap (λ (i : ℕ). drop i a) q) in
      let db : drop t b ≡ drop (t - (5 + n)) (drop (5 + n) b) = sym (drop-drop (t - (5 + n)) (5 + n) b ∙ ap (λ (i : ℕ). drop i b) q) in
      record {
        messages = rw (ma, mb) (more (record { tag = refl; payload = m }) r.messages);
        lacking = subst (Lacking t a b) (sym ca) (λ g. rw (da, db) (r.lacking g));
      }

  pub at_byte : {a b : List ℕ} → Alike limit a b → (t : ℕ) → AtByte a b t
  at_byte {a} {b} (ends l h w) t = open_at t a b l h (stays_open t a w)
  at_byte {a} {b} (goes_on tag n l h e m d) t =
      by_test (ltb t (5 + n))
      (λ x. open_at t a b l h (cut_open t a tag n e (ltb-true _ _ x)))
      (λ x. whole_at_front t a b tag n l h e m (ltb-false _ _ x) (at_byte d (t - (5 + n))))

  -- the last whole message
  pub last_at_byte : {a b : List ℕ} → Alike limit a b → (t : ℕ) → AlikeMessage (last_message limit (take t a)) (last_message limit (take t b))
  last_at_byte h t =
      last_alike (0, []) (0, []) (record { tag = refl; payload = record { size = refl; error = λ e. refl; copied = λ e. refl } })
      (at_byte h t).messages

  pub alike_length : {a b : List ℕ} → Alike limit a b → length a ≡ length b
  alike_length (ends l h w) = l
  alike_length (goes_on tag n l h e m d) = l
