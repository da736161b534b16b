-- By the letter and the length; the cases by computing.
use mathlib.Core.Path.{◌≡◌, refl, sym, ◌∙◌}
use mathlib.Core.Bool.{true}
use mathlib.Core.List.{List, ◌∷◌}
use Prim.Native.Nat.{ℕ, ◌+◌, ◌-◌, ◌≤◌, ◌<◌}
use native.Mathlib.Omega.{arith}
use lib.ListN.{length}
use lib.IntN.{ℤ}
use borrow.Author.Tests.{lt-ltb, le-ltb, ne_eqb}
use Rattle.wire.specs.Bytes.{be, be_from}
use Rattle.wire.specs.Field.{signed}
use Rattle.wire.proofs.Laws.{impossible}
use Rattle.replication.specs.CopyData.{w, refused, copy_data_of, is_xlog_data, is_keep_alive}
use Rattle.replication.specs.CopyDataCases.{CopyDataLaws, CopyDataCases}
use Rattle.replication.proofs.Laws.{by_letter}
use Rattle.replication.proofs.LayoutXLogData.{xlog_fields, no_keep_alive}

module _ (s : List ℕ) where
  w_short : length s < 24 → copy_data_of (119 ∷ s) ≡ refused 11
  unfolding copy_data_of
  w_short h = simp (lt-ltb _ _ h)

  w_whole : 24 ≤ length s → is_xlog_data (copy_data_of (119 ∷ s)) ≡ true
  unfolding copy_data_of
  w_whole h = simp (le-ltb _ _ h)

  k_short : length s < 17 → copy_data_of (107 ∷ s) ≡ refused 12
  unfolding copy_data_of
  k_short h = simp (lt-ltb _ _ h)

  k_whole : 17 ≤ length s → is_keep_alive (copy_data_of (107 ∷ s)) ≡ true
  unfolding copy_data_of
  k_whole h = simp (le-ltb _ _ h)

other_letter : (b : ℕ) (s : List ℕ) → (b ≡ 119 → ⊥) → (b ≡ 107 → ⊥) → copy_data_of (b ∷ s) ≡ refused 13
unfolding copy_data_of
other_letter b s d e = simp (ne_eqb b 119 d, ne_eqb b 107 e)

data_within : (payload : List ℕ) (start end : ℕ) (time : ℤ) (from len : ℕ) → copy_data_of payload ≡ w start end time from len
    → (from ≡ 25) × (from + len ≡ length payload)
data_within payload start end time from len e =
    by_letter payload
    (λ s q x.
    let f = xlog_fields s start end time from len (sym x ∙ e) in
    let l : 24 ≤ length s = f.0 in
    let a : 25 ≡ from = f.4 in
    let b : length s - 24 ≡ len = f.5 in
    rw q (omega arith, omega arith))
    (λ s q x. absurd (no_keep_alive s start end time from len (sym x ∙ e)))
    (λ n x. impossible cc)

pub copy_data_laws : CopyDataLaws
unfolding copy_data_of
copy_data_laws =
    record {
      no_letter = refl;
      w_short = w_short;
      w_whole = w_whole;
      k_short = k_short;
      k_whole = k_whole;
      other_letter = other_letter;
      data_within = data_within;
    }

pub copy_data_cases : CopyDataCases
unfolding copy_data_of be be_from signed
copy_data_cases =
    record {
      ten = refl;
      eleven = refl;
      eleven_by_one = refl;
      twelve = refl;
      twelve_by_one = refl;
      thirteen = refl;
      thirteen_alone = refl;
      xlog_data = refl;
      keepalive = refl;
      keepalive_reply = refl;
      keepalive_odd_reply = refl;
    }
