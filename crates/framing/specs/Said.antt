-- What each answer of a read says, over all values. SCOPE 3.3; 01, "Messages".
use Rattle.std.specs.Prelude.{◌≡◌, ℕ, Ok, Err, Some, None}
use Rattle.std.specs.Prelude.{Result as Answer, Option as Maybe}
use Rattle.error.specs.declared.Refusal.{Refusal}
use Rattle.error.specs.Refusal.{number_of}
use Rattle.framing.specs.declared.Whole.{Whole}
use Rattle.framing.specs.Read.{more, whole, refused, said_by}

-- an answer says its own tag, length and number; and what says a whole message is that message's answer
pub record AnswerSaid : Type 0 where
  pub of_more : said_by (Ok None) ≡ more
  pub of_whole : (tag n : ℕ) → said_by (Ok (Some (record { tag = tag; len = n }))) ≡ whole tag n
  pub of_refused : (r : Refusal) → said_by (Err r) ≡ refused (number_of r)
  pub only_whole : (a : Answer (Maybe Whole) Refusal) (tag n : ℕ) → said_by a ≡ whole tag n → a ≡ Ok (Some (record { tag = tag; len = n }))
