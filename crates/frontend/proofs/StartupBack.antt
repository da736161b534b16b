-- A startup message that was written is read back: its length field counts all of it, and each String ends at its zero byte.
use mathlib.Core.Path.{◌≡◌, refl, ◌∙◌}
use mathlib.Core.List.{List, [], ◌∷◌, ◌++◌, append_assoc}
use mathlib.Core.Option.{some}
use Prim.Native.Nat.{ℕ, zero, suc, ◌+◌, ◌^◌, ◌≤◌, ◌<◌}
use native.Mathlib.Nat.{not-suc-le-zero}
use native.Mathlib.Omega.{arith}
use lib.ListN.{length, drop, length-append}
use lib.Seq.{drop_at, take-append_seam, drop-append_seam, drop-append-add}
use lib.IntN.{ℤ}
use lib.Signed.{mag}
use denote.Ref.{Bor}
use borrow.Author.Tests.{le-ltb, lt-leb}
use Rattle.wire.specs.Bytes.{be_bytes}
use Rattle.wire.specs.Field.{field_at}
use Rattle.wire.specs.Int.{half, int_at, int_bytes}
use Rattle.wire.specs.Find.{index_of, NoZero}
use Rattle.wire.proofs.Laws.{length_be_bytes}
use Rattle.wire.proofs.FieldLaws.{field_read, int_read}
use Rattle.wire.proofs.FindLaws.{zero_at}
use Rattle.frontend.specs.Frontend.{pairs, startup}
use Rattle.frontend.specs.Startup.{string_of, pairs_from, pairs_of, startup_of, paired, Sendable}

-- ---- strings

pub string_back : (v t : List ℕ) → NoZero v → string_of (v ++ (0 ∷ t)) ≡ some (v, t)
unfolding string_of
string_back v t n = rw (zero_at v t n, take-append_seam, drop-append-add)

-- a name that is not empty, with its value
pub pair_back : (n : ℕ) (name value t : List ℕ) (ps : List (List ℕ × List ℕ)) → NoZero name → (name ≡ [] → ⊥) → NoZero value → pairs_from n t ≡ some ps
    → pairs_from (suc n) (name ++ (0 ∷ (value ++ (0 ∷ t)))) ≡ some ((name, value) ∷ ps)
unfolding pairs_from
pair_back n [] value t ps a e b r = absurd (e refl)
pair_back n (c ∷ name) value t ps a e b r = rw (string_back (c ∷ name) (value ++ (0 ∷ t)) a, string_back value t b, r)

terminator_back : (n : ℕ) → pairs_from (suc n) (0 ∷ []) ≡ some []
unfolding pairs_from string_of index_of
terminator_back n = refl

pairs_from_lem : (n : ℕ) (texts : List (Bor (List ℕ))) → length texts < n → Sendable texts → pairs_from n (pairs texts) ≡ some (paired texts)
unfolding pairs
pairs_from_lem zero texts h s = absurd (not-suc-le-zero h)
pairs_from_lem (suc n) [] h s = terminator_back n
pairs_from_lem (suc zero) (name ∷ []) h s = absurd (omega arith)
pairs_from_lem (suc (suc n)) (name ∷ []) h s = pair_back (suc n) name.now [] (0 ∷ []) [] s.0 s.1 tt (terminator_back n)
pairs_from_lem (suc n) (name ∷ value ∷ rest) h s =
    pair_back n name.now value.now (pairs rest) (paired rest) s.0 s.1 s.2 (pairs_from_lem n rest (omega arith) s.3)

fewer : (texts : List (Bor (List ℕ))) → length texts < length (pairs texts)
unfolding pairs
fewer [] = omega arith
fewer (name ∷ []) = simp length-append (omega arith)
fewer (name ∷ value ∷ rest) = let f = fewer rest in simp length-append (omega arith)

pub pairs_back : (texts : List (Bor (List ℕ))) → Sendable texts → pairs_of (pairs texts) ≡ some (paired texts)
unfolding pairs_of
pairs_back texts s = pairs_from_lem (length (pairs texts)) texts (fewer texts) s

-- ---- the message

module _ (version : ℤ) (texts : List (Bor (List ℕ))) where
  -- the length field counts the whole message
  pub length_back : (rest : List ℕ) → length (startup version texts) < 2 ^ 32 → field_at 4 (startup version texts ++ rest) 0 ≡ some (length (startup version texts))
  unfolding startup
  length_back rest h =
      let b : List ℕ = int_bytes 4 version ++ pairs texts in
      let n : length (startup version texts) ≡ length b + 4 = length-append (be_bytes 4 (length b + 4)) b ∙ omega (arith, length_be_bytes 4 (length b + 4)) in
      rw (append_assoc (be_bytes 4 (length b + 4)) b rest, n) (field_read 4 (be_bytes 4 (length b + 4) ++ (b ++ rest)) 0 (length b + 4) (b ++ rest) (omega arith) (omega arith) refl).0

  -- after it stand the version and the texts
  pub fields_back : mag version < half 4 → (int_at 4 (startup version texts) 4 ≡ some version) × (drop 8 (startup version texts) ≡ pairs texts)
  unfolding startup
  fields_back h =
      let b : List ℕ = int_bytes 4 version ++ pairs texts in
      int_read 4 (startup version texts) 4 (omega arith) version (pairs texts) h (drop_at (be_bytes 4 (length b + 4)) b 4 (length_be_bytes 4 (length b + 4)))

  -- a startup message of texts without zero bytes and of names that are not empty is read back, with the bytes after it
  pub startup_back : (rest : List ℕ) → mag version < half 4 → Sendable texts → length (startup version texts) < half 4
      → startup_of (startup version texts ++ rest) ≡ some (record { version = version; parameters = paired texts; rest = rest })
  unfolding startup_of
  startup_back rest h s k =
      let m : List ℕ = startup version texts in
      let n : length m ≤ length (m ++ rest) = omega (arith, length-append m rest) in
      let f = fields_back h in
      rw (length_back rest (omega arith))
      (simp (lt-leb (half 4) (length m) k, le-ltb (length (m ++ rest)) (length m) n)
      (rw (take-append_seam m rest, drop-append_seam m rest, f.0, f.1, pairs_back texts s)))
