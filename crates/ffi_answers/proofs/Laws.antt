-- The words of a simple query stand for it; a number above all refusals has no kind.
use mathlib.Core.Path.{◌≡◌, refl, sym}
use mathlib.Core.Bool.{Bool, true, false}
use mathlib.Core.List.{List, [], ◌∷◌}
use Prim.Native.Nat.{ℕ, zero, suc, ◌≤◌, ◌<◌}
use native.Mathlib.Omega.{arith}
use lib.ListN.{length, get_or}
use Rattle.wire.specs.Bytes.{flag_word}
use Rattle.error.specs.Refusal.{kinds, kind_at}
use Rattle.ffi_words.specs.Words.{flag_of}
use Rattle.ffi_answers.specs.Fold.{QueryRoundTrip}

flag_back : (b : Bool) → flag_of (flag_word b) ≡ b
flag_back true = refl
flag_back false = refl

pub query_round_trip : QueryRoundTrip
query_round_trip q = rw (flag_back q.failed)

past_the_end : (l : List ℕ) (n : ℕ) → length l ≤ n → get_or l n 0 ≡ 0
past_the_end [] n h = refl
past_the_end (a ∷ l) zero h = absurd (omega (arith, h))
past_the_end (a ∷ l) (suc n) h = past_the_end l n (omega (arith, h))

pub no_kind : (n : ℕ) → 255 < n → 0 ≡ kind_at n
no_kind n h = sym (past_the_end kinds n (omega arith))
