-- One law for every layout, in both directions.
use mathlib.Core.Path.{◌≡◌, refl, sym, ap, ◌∙◌}
use mathlib.Core.Bool.{true}
use mathlib.Core.List.{List, [], ◌∷◌, ◌++◌}
use mathlib.Core.Logic.{inl, inr}
use Prim.Native.Nat.{ℕ, ◌+◌, ◌<◌}
use native.Mathlib.Omega.{arith}
use lib.ListN.{length, drop}
use lib.Dec.{eqb}
use lib.Pow.{are_bytes}
use borrow.Author.Tests.{eq-eqb, ne_eqb, eqb-true}
use Rattle.wire.specs.Bytes.{be_bytes}
use Rattle.wire.specs.Field.{field_at}
use Rattle.wire.specs.Int.{int_at}
use Rattle.wire.specs.Find.{index_of}
use Rattle.wire.proofs.Laws.{by_test, impossible}
use Rattle.wire.proofs.FieldLaws.{be_bytes_one}
use Rattle.rows.specs.Layout.{Letters, number, integer, name, value, many, both, nothing, letter, no_other, or, Choice}
use Rattle.rows.specs.Layout.{got, mapped, number_by, count_at, bytes_at, times_at, read_at, choose_at, all_bytes, bytes_of, letter_of}
use Rattle.rows.specs.Layout.{under_of, Fits, ChoiceFits, Unlike, ProperLetters, Stands, WrittenIsRead, ReadIsWritten}
use Rattle.rows.proofs.Places.{by_after, by_told, number_some, split, join, none_stands, number_read, number_there, integer_read}
use Rattle.rows.proofs.Places.{integer_there, count_read, count_there, bytes_read, bytes_there, name_read, name_back, times_read, times_there}

-- a letter that is listed nowhere else is not taken for another
pub other_letter : (ls : Letters) (c : ℕ) (w : Choice ls) → Unlike c ls → letter_of ls w ≡ c → ⊥
unfolding letter_of
other_letter no_other c w u e = absurd w
other_letter (or d a ls) c (inl v) u e = u.0 e
other_letter (or d a ls) c (inr w) u e = other_letter ls c w u.1 e

pub letter_below : (ls : Letters) (w : Choice ls) → ProperLetters ls → letter_of ls w < 256
unfolding letter_of
letter_below no_other w p = absurd w
letter_below (or c a ls) (inl v) p = p.0
letter_below (or c a ls) (inr w) p = letter_below ls w p.3

mutual
  unfolding read_at bytes_of Fits

  pub written_is_read : WrittenIsRead
  written_is_read (number n) p s i v j f h = let w = number_read s n i v j p f h in rw (w.0, w.1)
  written_is_read integer p s i v j f h = let w = integer_read s i v j f h in rw (w.0, w.1)
  written_is_read name p s i v j f h = name_read s i v j f h
  written_is_read value p s i v j f h =
      let w = split s i (be_bytes 4 (length v)) v j h in
      rw (count_read s 4 i (length v) (i + length (be_bytes 4 (length v))) (omega arith) f w.0)
      (bytes_read s (i + length (be_bytes 4 (length v))) v j w.1)
  written_is_read (many n a b) p s i v j f h =
      let w = split s i (be_bytes n (length v.1)) (bytes_of a v.0 ++ all_bytes (λ x. bytes_of b x) v.1) j h in
      let k : ℕ = i + length (be_bytes n (length v.1)) in
      let u = split s k (bytes_of a v.0) (all_bytes (λ x. bytes_of b x) v.1) j w.1 in
      let m : ℕ = k + length (bytes_of a v.0) in
      let c = count_read s n i (length v.1) k p.0 f.0 w.0 in
      let d = written_is_read a p.1 s k v.0 m f.1 u.0 in
      rw (
        c,
        d,
        times_read s (λ q. read_at b s q) (λ x. bytes_of b x) (λ x. Fits b x) (λ x q r. written_is_read b p.2 s q x r) v.1 m j f.2
            u.1,
      )
  written_is_read (both a b) p s i v j f h =
      let w = split s i (bytes_of a v.0) (bytes_of b v.1) j h in
      let k : ℕ = i + length (bytes_of a v.0) in
      rw (written_is_read a p.0 s i v.0 k f.0 w.0, written_is_read b p.1 s k v.1 j f.1 w.1)
  written_is_read nothing p s i v j f h = ap (λ (k : ℕ). got tt k) (omega (arith, h.ends))
  written_is_read (letter ls) p s i w j f h =
      let b = letter_below ls w p in
      let u = split s i (letter_of ls w ∷ []) (under_of ls w) j h in
      let n = number_read s 1 i (letter_of ls w) (i + 1) (omega arith) b (rw (be_bytes_one (letter_of ls w) b) u.0) in
      rw n.0 (choice_is_read ls p s (i + 1) w j f u.1)

  choice_is_read : (ls : Letters) → ProperLetters ls → (s : List ℕ) (i : ℕ) (w : Choice ls) (j : ℕ) → ChoiceFits ls w → Stands s i (under_of ls w) j
      → choose_at ls (letter_of ls w) s i ≡ got w j
  choice_is_read no_other p s i w j f h = absurd w
  choice_is_read (or c a ls) p s i (inl v) j f h = simp (eq-eqb c c refl) (rw (written_is_read a p.1 s i v j f h))
  choice_is_read (or c a ls) p s i (inr w) j f h =
      simp (ne_eqb (letter_of ls w) c (other_letter ls c w p.2)) (rw (choice_is_read ls p.3 s i w j f h))

mutual
  unfolding read_at bytes_of Fits

  pub read_is_written : ReadIsWritten
  read_is_written (number n) p s b i v j e =
      let w = number_some n i (field_at n s i) v j e in
      rw w.1 (number_there s n i v b w.0)
  read_is_written integer p s b i v j e =
      let w = number_some 4 i (int_at 4 s i) v j e in
      rw w.1 (integer_there s i v b w.0)
  read_is_written name p s b i v j e = name_back s i (index_of 0 (drop i s)) v j refl e
  read_is_written value p s b i v j e =
      by_after (count_at 4 s i) (λ n k. bytes_at n s k) v j e (λ n k x y.
      let c = count_there s 4 i n k b x in
      let t = bytes_there s n k v j y in
      let l : n ≡ length v = sym t.0 in
      (rw l at c.0, join s i (be_bytes 4 (length v)) k v j (rw l at c.1) t.2))
  read_is_written (many n a b) p s bs i v j e =
      by_after (count_at n s i) _ v j e (λ k m x y.
      by_after (read_at a s m) _ v j y (λ u q x₁ y₁.
      by_told (λ vs. (u, vs)) (times_at (λ r. read_at b s r) k q) v j y₁ (λ vs x₂ ev.
      let c = count_there s n i k m bs x in
      let d = read_is_written a p.1 s bs m u q x₁ in
      let t = times_there s (λ r. read_at b s r) (λ w. bytes_of b w) (λ w. Fits b w) (λ r w t. read_is_written b p.2 s bs r w t) k q vs j x₂ in
      let l : k ≡ length vs = sym t.0 in
      rw ev (
        (rw l at c.0, d.0, t.1),
        join s i (be_bytes n (length vs)) m (bytes_of a u ++ all_bytes (λ w. bytes_of b w) vs) j (rw l at c.1)
            (join s m (bytes_of a u) q (all_bytes (λ w. bytes_of b w) vs) j d.1 t.2),
      ))))
  read_is_written (both a b) p s bs i v j e =
      by_after (read_at a s i) (λ u k. mapped (λ w. (u, w)) (read_at b s k)) v j e (λ u k x y.
      by_told (λ w. (u, w)) (read_at b s k) v j y (λ w x₁ ev.
      let c = read_is_written a p.0 s bs i u k x in
      let d = read_is_written b p.1 s bs k w j x₁ in
      rw ev ((c.0, d.0), join s i (bytes_of a u) k (bytes_of b w) j c.1 d.1)))
  read_is_written nothing p s b i v j e =
      let ej : j ≡ i = cc in
      rw ej (tt, none_stands s i)
  read_is_written (letter ls) p s bs i w j e =
      by_after (number_by 1 i (field_at 1 s i)) (λ c k. choose_at ls c s k) w j e (λ c k x y.
      let n = number_some 1 i (field_at 1 s i) c k x in
      let t = number_there s 1 i c bs n.0 in
      let d = choice_is_written ls p s bs k c w j y in
      let o : be_bytes 1 c ≡ letter_of ls w ∷ [] = be_bytes_one c t.0 ∙ ap (λ (x : ℕ). x ∷ []) d.0 in
      (d.1, join s i (letter_of ls w ∷ []) k (under_of ls w) j (rw (o, ← n.1) at t.1) d.2))

  choice_is_written : (ls : Letters) → ProperLetters ls → (s : List ℕ) → are_bytes s ≡ true → (i c : ℕ) (w : Choice ls) (j : ℕ)
      → choose_at ls c s i ≡ got w j
      → (c ≡ letter_of ls w) × ChoiceFits ls w × Stands s i (under_of ls w) j
  choice_is_written no_other p s bs i c w j e = impossible cc
  choice_is_written (or d a ls) p s bs i c w j e =
      by_test (eqb c d)
      (λ t. by_told inl (read_at a s i) w j (rw t at e) (λ v x ew.
      let r = read_is_written a p.1 s bs i v j x in
      rw ew (eqb-true c d t, r.0, r.1)))
      (λ t. by_told inr (choose_at ls c s i) w j (rw t at e) (λ u x ew.
      let r = choice_is_written ls p.3 s bs i c u j x in
      rw ew (r.0, r.1, r.2)))
