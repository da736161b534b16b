-- The walk over the fields and the layout, place by place: what is unread at a place is how the rest of the payload is laid out.
use mathlib.Core.Option.{Option, some, none}
use mathlib.Core.Path.{◌≡◌, refl, sym, ap, ◌∙◌}
use mathlib.Core.List.{List, [], ◌∷◌, ◌++◌, map, append_assoc}
use mathlib.Core.Logic.{inl, inr, ⊎_elim}
use Prim.Native.Nat.{ℕ, zero, suc, ◌+◌, ◌-◌, ◌≤◌, ◌<◌}
use native.Mathlib.Omega.{arith}
use lib.ListN.{length, drop, get_or, length-drop, drop_of_length-le}
use lib.Seq.{drop-drop, get_or-drop, take-append_seam, drop-append-add}
use lib.Dec.{eqb, ltb}
use borrow.Author.Tests.{eqb-true, eqb-false, ltb-true, ltb-false}
use Rattle.wire.specs.Bytes.{at}
use Rattle.wire.specs.Find.{index_of, NoZero}
use Rattle.wire.proofs.Laws.{by_test}
use Rattle.wire.proofs.FindLaws.{no_zero, zero_at, all_passed, found_at}
use Rattle.messages.specs.FieldLayout.{encode, Sendable, Ended, Laid, said, fields_read, ReadIsLaid, LaidIsRead, SentIsRead}
use Rattle.messages.proofs.Laws.{at_place, unread, unread_start, unread_end, unread_zero, unread_cut, unread_field}

-- ---- from the walk to the layout

-- what is read from place i on
abbrev sayings : List ℕ → ℕ → List (ℕ × List ℕ)
sayings s i = map (said s) (unread s i)

none_laid : (t : List ℕ) → Ended t → Laid t []
unfolding encode
none_laid t e = record { sendable = tt; rest = t; whole = refl; ended = e }

one_more : (l : ℕ) (v t : List ℕ) (fs : List (ℕ × List ℕ)) → (l ≡ 0 → ⊥) → NoZero v → Laid t fs → Laid (l ∷ (v ++ (0 ∷ t))) ((l, v) ∷ fs)
unfolding encode
one_more l v t fs n z r =
    record {
      sendable = (n, z, r.sendable);
      rest = r.rest;
      whole = rw r.whole (simp append_assoc);
      ended = r.ended;
    }

end_laid : (s : List ℕ) (i : ℕ) → length s ≤ i → Laid (drop i s) (sayings s i)
end_laid s i h = rw (drop_of_length-le s h, unread_end s i h) (none_laid [] tt)

zero_laid : (s : List ℕ) (i : ℕ) → i < length s → get_or s i 0 ≡ 0 → Laid (drop i s) (sayings s i)
zero_laid s i h e = rw (at_place s i h, unread_zero s i h e) (none_laid (get_or s i 0 ∷ drop (i + 1) s) (inl e))

-- at a letter: the field after it, if a zero byte ends it, and what the walk reads after that
letter_laid : (s : List ℕ) (i : ℕ) (f : Option ℕ) → i < length s → (get_or s i 0 ≡ 0 → ⊥) → index_of 0 (drop (i + 1) s) ≡ f
    → ((k : ℕ) → Laid (drop (i + 1 + k + 1) s) (sayings s (i + 1 + k + 1))) → Laid (drop i s) (sayings s i)
letter_laid s i (some k) h n e more =
    let w = found_at (drop (i + 1) s) k e in
    let p : i + 1 + (k + 1) ≡ i + 1 + k + 1 = omega arith in
    let q : drop (i + 1) s ≡ at s (i + 1) k ++ (0 ∷ drop (i + 1 + k + 1) s) = rw (drop-drop, p) at w.1 in
    let c : drop i s ≡ get_or s i 0 ∷ (at s (i + 1) k ++ (0 ∷ drop (i + 1 + k + 1) s)) = at_place s i h ∙ ap (λ (l : List ℕ). get_or s i 0 ∷ l) q in
    rw (c, unread_field s i k h n e) (one_more (get_or s i 0) (at s (i + 1) k) (drop (i + 1 + k + 1) s) (sayings s (i + 1 + k + 1)) n w.0 (more k))
letter_laid s i none h n e more =
    rw (at_place s i h, unread_cut s i h n e) (none_laid (get_or s i 0 ∷ drop (i + 1) s) (inr (n, all_passed (drop (i + 1) s) e)))

-- a walk with n bytes to go at most
walk_laid : (n : ℕ) (s : List ℕ) (i : ℕ) → length s - i ≤ n → Laid (drop i s) (sayings s i)
walk_laid zero s i h = end_laid s i (omega arith)
walk_laid (suc n) s i h =
    by_test (ltb i (length s))
    (λ t. by_test (eqb (get_or s i 0) 0)
    (λ z. zero_laid s i (ltb-true i (length s) t) (eqb-true (get_or s i 0) 0 z))
    (λ z. letter_laid s i (index_of 0 (drop (i + 1) s)) (ltb-true i (length s) t) (eqb-false (get_or s i 0) 0 z) refl (λ k. walk_laid n s (i + 1 + k + 1) (omega arith))))
    (λ t. end_laid s i (ltb-false i (length s) t))

pub read_is_laid : ReadIsLaid
unfolding fields_read
read_is_laid payload = rw (unread_start payload) (walk_laid (length payload) payload 0 (omega arith))

-- ---- from the layout to the walk

-- what stands at place i, where the rest of s is known
there : (s : List ℕ) (i b : ℕ) (t : List ℕ) → drop i s ≡ b ∷ t → (i < length s) × (get_or s i 0 ≡ b) × (drop (i + 1) s ≡ t)
there s i b t e =
    let l : length s - i ≡ suc (length t) = sym (length-drop i s) ∙ ap length e in
    let z : i + 0 ≡ i = omega arith in
    let g : get_or s (i + 0) 0 ≡ b = sym (get_or-drop i s 0 0) ∙ ap (λ (x : List ℕ). get_or x 0 0) e in
    (omega arith, rw z at g, sym (drop-drop 1 i s) ∙ ap (drop 1) e)

-- the walk ends where the fields end
end_read : (s : List ℕ) (i : ℕ) (rest : List ℕ) → drop i s ≡ rest → Ended rest → unread s i ≡ []
end_read s i [] e n = let l : length s - i ≡ 0 = sym (length-drop i s) ∙ ap length e in unread_end s i (omega arith)
end_read s i (b ∷ t) e n =
    let w = there s i b t e in
    ⊎_elim (λ z. unread_zero s i w.0 (w.1 ∙ z)) (λ m. unread_cut s i w.0 (λ p. m.0 (sym w.1 ∙ p)) (rw w.2 (no_zero t m.1))) n

walk_read : (fs : List (ℕ × List ℕ)) (s : List ℕ) (i : ℕ) (rest : List ℕ) → Sendable fs → Ended rest → drop i s ≡ encode fs ++ rest → sayings s i ≡ fs
unfolding encode
walk_read [] s i rest n m e = rw (end_read s i rest e m)
walk_read (f ∷ fs) s i rest n m e =
    let v : List ℕ = f.1 in
    let t : List ℕ = encode fs ++ rest in
    let w = there s i f.0 ((v ++ (0 ∷ encode fs)) ++ rest) e in
    let q : drop (i + 1) s ≡ v ++ (0 ∷ t) = w.2 ∙ simp append_assoc in
    let k : index_of 0 (drop (i + 1) s) ≡ some (length v) = rw q (zero_at v t n.1) in
    let p : i + 1 + (length v + 1) ≡ i + 1 + length v + 1 = omega arith in
    let r : drop (i + 1 + length v + 1) s ≡ t = sym (rw p at (drop-drop (length v + 1) (i + 1) s)) ∙ rw (q, drop-append-add) in
    let g : get_or s i 0 ≡ f.0 = w.1 in
    let u : at s (i + 1) (length v) ≡ v = rw q (take-append_seam v (0 ∷ t)) in
    rw (unread_field s i (length v) w.0 (λ z. n.0 (sym g ∙ z)) k, g, u, walk_read fs s (i + 1 + length v + 1) rest n.2 m r)

pub laid_is_read : LaidIsRead
unfolding fields_read
laid_is_read payload fs r = rw (unread_start payload) (walk_read fs payload 0 r.rest r.sendable r.ended r.whole)

pub sent_is_read : SentIsRead
sent_is_read fs surplus n = laid_is_read (encode fs ++ (0 ∷ surplus)) fs (record { sendable = n; rest = 0 ∷ surplus; whole = refl; ended = inl refl })
