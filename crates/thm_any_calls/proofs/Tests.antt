-- The words of the table and those of the step's definition mean the same. StateCases, Answers, Confirms and Beginnings take these laws.
use mathlib.Core.Path.{◌≡◌, refl, ap}
use mathlib.Core.Bool.{Bool, true, false}
use mathlib.Core.List.{List, [], ◌∷◌, ◌++◌}
use Prim.Native.Nat.{ℕ, ◌+◌}
use native.Mathlib.Omega.{arith}
use lib.ListN.{length, drop}
use lib.Dec.{eqb}
use denote.Ref.{Bor}
use Rattle.wire.specs.Bytes.{pick, put}
use Rattle.error.specs.Inputs.{total}
use Rattle.frames.specs.Cut.{Item, message, Ending, header, payload, over}
use Rattle.frames.specs.Cut.{refused as bad}
use Rattle.framing.specs.Read as R
use Rattle.framing.specs.Feed.{first_answer, span, stored}
use Rattle.thm_any_calls.specs.Tests.{onto}
use Rattle.thm_any_calls.specs.Beginnings.{bytes_in}
use Rattle.thm_any_calls.specs.Table.{Found, unfinished, whole, refused, ended_in, found_by, used_by, payload_by}

-- a text written over a buffer from its first place on
pub put_front : (d s : List ℕ) → put d 0 s ≡ onto s d
unfolding put
put_front d s = let e : 0 + length s ≡ length s = omega arith in ap (λ (n : ℕ). s ++ drop n d) e

-- what the reader's answer is to the table
abbrev pub found : R.Said → Found
found R.more = unfinished
found (R.whole tag n) = whole tag
found (R.refused n) = refused n

ended_is : (n unread : ℕ) (e : Bool) → ended_in n unread e ≡ found (R.unfinished n unread e)
ended_is n unread e = by (eqb unread 0) e
  where
    by : (a b : Bool) → pick a (pick b (refused n) unfinished) unfinished ≡ found (pick a (pick b (R.refused n) R.more) R.more)
    by true true = refl
    by true false = refl
    by false b = refl

pub found_is : (is : List Item) (end : Ending) (unread : ℕ) (e : Bool) → found_by is end unread e ≡ found (first_answer is end unread e)
found_is (message tag p ∷ is) end unread e = refl
found_is (bad ∷ is) end unread e = refl
found_is [] header unread e = ended_is 8 unread e
found_is [] payload unread e = ended_is 9 unread e
found_is [] over unread e = refl

pub used_is : (is : List Item) (end : Ending) (s : List ℕ) → used_by is end s ≡ span is end s
used_is (message tag p ∷ is) end s = refl
used_is (bad ∷ is) end s = refl
used_is [] header s = refl
used_is [] payload s = refl
used_is [] over s = refl

pub payload_is : (is : List Item) (end : Ending) (s : List ℕ) → payload_by is end s ≡ stored is end s
payload_is (message tag p ∷ is) end s = refl
payload_is (bad ∷ is) end s = refl
payload_is [] header s = refl
payload_is [] payload s = refl
payload_is [] over s = refl

pub bytes_total : (ns : List (Bor (List ℕ))) → bytes_in ns ≡ total ns
unfolding bytes_in total
bytes_total [] = refl
bytes_total (n ∷ ns) = ap (λ (k : ℕ). length n.now + k) (bytes_total ns)
