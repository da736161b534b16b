-- The frame both ways: what is framed is cut off whole, and what is cut off whole was framed.
use mathlib.Core.Path.{◌≡◌, refl, sym, ap, subst, subst⁻¹, ◌∙◌}
use mathlib.Core.Bool.{true}
use mathlib.Core.List.{List, [], ◌∷◌, ◌++◌, append_assoc}
use mathlib.Core.Logic.{inl, inr}
use Prim.Native.Nat.{ℕ, zero, suc, ◌+◌, ◌-◌, ◌≤◌, ◌<◌}
use native.Mathlib.Omega.{arith}
use lib.ListN.{length, take, drop, get_or, length-append, length-drop, take-append-drop}
use lib.Seq.{take_at, drop_at, take-append_seam, drop-append_seam, drop-drop, drop-cons, length-take-le}
use lib.Pow.{are_bytes}
use Rattle.wire.specs.Bytes.{at, be, be_from, be_bytes}
use Rattle.wire.specs.Int.{half}
use Rattle.wire.proofs.Laws.{length_be_bytes}
use Rattle.wire.proofs.FieldLaws.{be_be_bytes, first_byte, part_there}
use Rattle.frames.specs.Message.{Front, in_header, in_payload, bad_length, too_large, whole, framed, length_field, front_of}
use Rattle.frames.specs.Cut.{message, refused, Ending, header, payload, over, Cut, behind, ended, cut_by, cut_of}
use Rattle.frames.specs.Frame.{length_in, Laid, all, one, bad, Bad, Stops, CutByFront, FramedIsCut, LaidIsCut, CutIsLaid}
use Rattle.frames.proofs.Front.{Shows, cut_header, negative, short, large, cut_payload, complete, shows, header_front, negative_front, short_front, over_front, payload_front, whole_front, length_field_append}
use Rattle.frames.proofs.Laws.{cut_next, cut_in_header, cut_in_payload, cut_too_large, cut_bad_length, cut_whole}

-- ---- the length in a header

-- five bytes and more, taken apart
length_is : (s : List ℕ) → 5 ≤ length s → length_in s ≡ length_field s
unfolding be be_from
length_is [] h = absurd (omega arith)
length_is (a ∷ []) h = absurd (omega arith)
length_is (a ∷ b ∷ []) h = absurd (omega arith)
length_is (a ∷ b ∷ c ∷ []) h = absurd (omega arith)
length_is (a ∷ b ∷ c ∷ d ∷ []) h = absurd (omega arith)
length_is (a ∷ b ∷ c ∷ d ∷ e ∷ s) h = omega arith

-- ---- from the frame to the cut

pub length_framed : (tag : ℕ) (p : List ℕ) → length (framed tag p) ≡ length p + 5
unfolding framed
length_framed tag p =
    let b : List ℕ = be_bytes 4 (length p + 4) in
    omega (arith, length-append b p, length_be_bytes 4 (length p + 4))

module _ (tag : ℕ) (p rest : List ℕ) where
  field_back : length p + 4 < half 4 → length_field (framed tag p ++ rest) ≡ length p + 4
  unfolding framed
  field_back h =
      let b : List ℕ = be_bytes 4 (length p + 4) in
      let e : at (framed tag p ++ rest) 1 4 ≡ b = rw (append_assoc b p rest) (take_at b (p ++ rest) 4 (length_be_bytes 4 (length p + 4))) in
      rw e (be_be_bytes 4 (length p + 4) (omega arith))

  tag_back : get_or (framed tag p ++ rest) 0 0 ≡ tag
  unfolding framed
  tag_back = refl

  payload_back : drop 5 (framed tag p ++ rest) ≡ p ++ rest
  unfolding framed
  payload_back =
      let b : List ℕ = be_bytes 4 (length p + 4) in
      rw (append_assoc b p rest) (drop_at b (p ++ rest) 4 (length_be_bytes 4 (length p + 4)))

  front_back : (limit : ℕ) → length p + 4 < half 4 → length p ≤ limit → front_of limit (framed tag p ++ rest) ≡ whole tag (length p)
  front_back limit h k =
      let s : List ℕ = framed tag p ++ rest in
      let n : length s ≡ length p + 5 + length rest = length-append (framed tag p) rest ∙ omega (arith, length_framed tag p) in
      let f : length_field s ≡ length p + 4 = field_back h in
      let e : length_field s - 4 ≡ length p = omega arith in
      whole_front limit s (omega arith) (omega arith) (omega arith) (omega arith) (omega arith) ∙ rw (tag_back, e)

pub cut_by_front : CutByFront
cut_by_front = cut_next

pub framed_is_cut : FramedIsCut
framed_is_cut limit tag p rest h k =
    let s : List ℕ = framed tag p ++ rest in
    let b : drop 5 s ≡ p ++ rest = payload_back tag p rest in
    let w : at s 5 (length p) ≡ p = rw b (take-append_seam p rest) in
    let r : drop (5 + length p) s ≡ rest = sym (drop-drop (length p) 5 s) ∙ rw b (drop-append_seam p rest) in
    cut_whole limit s tag (length p) (front_back tag p rest limit h k) ∙ rw (w, r)

-- a header with a bad length
bad_is_cut : (limit : ℕ) (h s : List ℕ) → length h ≡ 5 → Bad (length_field h) → cut_of limit (h ++ s) ≡ behind refused (cut_of limit s)
bad_is_cut limit h s e b =
    let l : 5 ≤ length (h ++ s) = omega (arith, length-append h s) in
    let f : length_field (h ++ s) ≡ length_field h = length_field_append h s (omega arith) in
    let d : drop 5 (h ++ s) ≡ s = drop_at h s 5 e in
    cut_bad_length limit (h ++ s) (by b l f) ∙ rw d
  where
    by : Bad (length_field h) → 5 ≤ length (h ++ s) → length_field (h ++ s) ≡ length_field h → front_of limit (h ++ s) ≡ bad_length
    by (inl a) l f = negative_front limit (h ++ s) l (rw f a)
    by (inr a) l f = short_front limit (h ++ s) l (omega arith) (rw f a)

stopped : (limit : ℕ) (s : List ℕ) (e : Ending) → Stops limit s e → cut_of limit s ≡ ended s e
stopped limit s header w = cut_in_header limit s (header_front limit s w)
stopped limit s payload w =
    let n : length_in s ≡ length_field s = length_is s w.0 in
    cut_in_payload limit s (payload_front limit s w.0 (rw n at w.1.0) (rw n at w.1.1) (rw n at w.2) (rw n at w.3))
stopped limit s over w =
    let n : length_in s ≡ length_field s = length_is s w.0 in
    cut_too_large limit s (over_front limit s w.0 (rw n at w.1.0) (rw n at w.1.1) (rw n at w.2))

pub laid_is_cut : LaidIsCut
laid_is_cut limit s [] rest e all w = stopped limit s e w
laid_is_cut limit s (message tag p ∷ is) rest e (one _ _ {s = t} h k l) w = framed_is_cut limit tag p t h k ∙ ap (behind (message tag p)) (laid_is_cut limit t is rest e l w)
laid_is_cut limit s (refused ∷ is) rest e (bad h {s = t} n b l) w =
    bad_is_cut limit h t n (subst Bad (length_is h (omega arith)) b) ∙ ap (behind refused) (laid_is_cut limit t is rest e l w)

-- ---- from the cut to the frame

pub bytes_after : (k : ℕ) (s : List ℕ) → are_bytes s ≡ true → are_bytes (drop k s) ≡ true
bytes_after zero s e = e
bytes_after (suc k) [] e = refl
bytes_after (suc k) (x ∷ s) e = bytes_after k s (first_byte x s e).1

-- five bytes and what follows them, by the length that they hold
split_framed : (s : List ℕ) → are_bytes s ≡ true → 5 ≤ length s → 4 ≤ length_field s → length_field s + 1 ≤ length s
    → let m : ℕ = length_field s - 4 in s ≡ framed (get_or s 0 0) (at s 5 m) ++ drop (5 + m) s
unfolding framed
split_framed s e h a b =
    let m : ℕ = length_field s - 4 in
    let p : List ℕ = at s 5 m in
    let l : length p ≡ m = length-take-le m (drop 5 s) (simp length-drop (omega arith)) in
    let n : length p + 4 ≡ length_field s = omega arith in
    let c : s ≡ get_or s 0 0 ∷ drop 1 s = drop-cons s 0 0 (omega arith) in
    let f : drop 1 s ≡ be_bytes 4 (length_field s) ++ drop 5 s = part_there 4 s 1 e h in
    let g : drop 5 s ≡ p ++ drop (5 + m) s = sym (take-append-drop m (drop 5 s)) ∙ ap (λ (x : List ℕ). p ++ x) (drop-drop m 5 s) in
    c ∙ ap (λ (x : List ℕ). get_or s 0 0 ∷ x) (f ∙ rw n (ap (λ (x : List ℕ). be_bytes 4 (length_field s) ++ x) g ∙ sym (append_assoc (be_bytes 4 (length_field s)) p (drop (5 + m) s))))

-- a header and what follows it
split_header : (s : List ℕ) → 5 ≤ length s → (length (take 5 s) ≡ 5) × (length_field (take 5 s) ≡ length_field s)
split_header s h =
    let n : length (take 5 s) ≡ 5 = length-take-le 5 s h in
    (n, sym (length_field_append (take 5 s) (drop 5 s) (omega arith)) ∙ ap length_field (take-append-drop 5 s))

-- the stream is laid out as the cut says
abbrev LaidBy : ℕ → List ℕ → Cut → Type 0
LaidBy limit s c = Laid limit s c.items c.rest × Stops limit c.rest c.ending

module _ (limit : ℕ) (s : List ℕ) (go : (k : ℕ) → 5 ≤ k → k ≤ length s → LaidBy limit (drop k s) (cut_of limit (drop k s))) where
  bad_laid : 5 ≤ length s → Bad (length_field s) → LaidBy limit s (behind refused (cut_of limit (drop 5 s)))
  bad_laid h b =
      let g = go 5 (omega arith) h in
      let w = split_header s h in
      let c = cut_of limit (drop 5 s) in (
        subst (λ (x : List ℕ). Laid limit x (refused ∷ c.items) c.rest) (take-append-drop 5 s)
            (bad (take 5 s) w.0 (rw (length_is (take 5 s) (omega arith), w.1) b) g.0),
        g.1,
      )

  laid_by : (f : Front) → are_bytes s ≡ true → Shows limit s f → LaidBy limit s (cut_by s f (λ k. cut_of limit (drop k s)))
  laid_by in_header e (cut_header h) = (all, h)
  laid_by in_payload e (cut_payload h a b c d) = (all, rw (length_is s h) (h, (a, b), c, d))
  laid_by too_large e (large h a b c) = (all, rw (length_is s h) (h, (a, b), c))
  laid_by bad_length e (negative h a) = bad_laid h (inl a)
  laid_by bad_length e (short h a b) = bad_laid h (inr b)
  laid_by (whole tag n) e (complete h a b c d) =
      let m : ℕ = length_field s - 4 in
      let p : List ℕ = at s 5 m in
      let l : length p ≡ m = length-take-le m (drop 5 s) (simp length-drop (omega arith)) in
      let g = go (5 + m) (omega arith) (omega arith) in
      let k = cut_of limit (drop (5 + m) s) in (
        subst⁻¹ (λ (x : List ℕ). Laid limit x (message (get_or s 0 0) p ∷ k.items) k.rest) (split_framed s e h b d)
            (one (get_or s 0 0) p (omega arith) (omega arith) g.0),
        g.1,
      )

laid_within : (n limit : ℕ) (s : List ℕ) → are_bytes s ≡ true → length s ≤ n → LaidBy limit s (cut_of limit s)
laid_within zero limit s e h = rw (cut_next limit s) (laid_by limit s (λ k a b. absurd (omega arith)) (front_of limit s) e (shows limit s))
laid_within (suc n) limit s e h =
    rw (cut_next limit s)
    (laid_by limit s (λ k a b. laid_within n limit (drop k s) (bytes_after k s e) (simp length-drop (omega arith))) (front_of limit s) e (shows limit s))

pub cut_is_laid : CutIsLaid
cut_is_laid limit s e = laid_within (length s) limit s e (omega arith)
