-- Each answer of a read says its own values.
use mathlib.Core.Path.{◌≡◌, refl}
use Prim.Native.Nat.{ℕ}
use Rattle.std.specs.Prelude.{Result as Answer, Option as Maybe, Ok, Err, Some, None}
use Rattle.error.specs.declared.Refusal.{Refusal}
use Rattle.framing.specs.declared.Whole.{Whole}
use Rattle.framing.specs.Read.{whole, said_by}
use Rattle.framing.specs.Said.{AnswerSaid}

-- the same tag and the same length are the same message
same : {t l tag n : ℕ} → t ≡ tag → l ≡ n → ◌≡◌ {A = Answer (Maybe Whole) Refusal} (Ok (Some (record { tag = t; len = l }))) (Ok (Some (record { tag = tag; len = n })))
same p q = cc

only_whole : (a : Answer (Maybe Whole) Refusal) (tag n : ℕ) → said_by a ≡ whole tag n → a ≡ Ok (Some (record { tag = tag; len = n }))
only_whole (Ok None) tag n e = cc
only_whole (Ok (Some w)) tag n e = let t : w.tag ≡ tag = cc in let l : w.len ≡ n = cc in same t l
only_whole (Err r) tag n e = cc

pub answer_said : AnswerSaid
answer_said = record { of_more = refl; of_whole = λ tag n. refl; of_refused = λ r. refl; only_whole = only_whole }
