-- Lent inputs, lengths within a room and the values of the answers, over all values: SCOPE 3.5, 7.1, 7.4; 01, "Where each call turns back", 25.
use Rattle.std.specs.Prelude.{◌≡◌, List, [], ◌∷◌, ◌++◌, ℕ, ◌+◌, ◌≤◌, ◌<◌, length, Some, None, Ok, Err}
use Rattle.std.proofs.Math.Option.{some, none}
use Rattle.std.specs.Borrow.{Bor}
use Rattle.wire.specs.Answer.{maybe}
use Rattle.error.specs.declared.Refusal.{Refusal}
use Rattle.error.specs.declared.Kind.TheVariants.{Usage, Io, Protocol, Server, MessageTooLarge, ParseLsn}
use Rattle.error.specs.Refusal.{number_of, kind_number}
use Rattle.error.specs.Inputs.{total, name_at}
use Rattle.error.specs.Writer.{outcome, counted}

-- the bytes of the names, one name after the other
abbrev pub bytes_of_names : List (Bor (List ℕ)) → List ℕ
bytes_of_names [] = []
bytes_of_names (n ∷ ns) = n.now ++ bytes_of_names ns

pub record InputLaws : Type 0 where
  -- as many bytes as the names have, one after the other
  pub all_names : (ns : List (Bor (List ℕ))) → total ns ≡ length (bytes_of_names ns)
  pub one_name : (n : Bor (List ℕ)) → total (n ∷ []) ≡ length n.now
  pub names_add_up : (a b : List (Bor (List ℕ))) → total (a ++ b) ≡ total a + total b
  -- the name at a place, and past the last one no bytes
  pub at_place : (a : List (Bor (List ℕ))) (n : Bor (List ℕ)) (b : List (Bor (List ℕ))) → name_at (a ++ (n ∷ b)) (length a) ≡ n.now
  pub past : (ns : List (Bor (List ℕ))) (i : ℕ) → length ns ≤ i → name_at ns i ≡ []

pub record RoomLaws : Type 0 where
  -- a length is answered exactly where the room has it
  pub within : (room n : ℕ) → n ≤ room → counted room n ≡ some n
  pub past : (room n : ℕ) → room < n → counted room n ≡ none

-- what each answer says
pub record ValueLaws : Type 0 where
  pub wrote : (n : ℕ) → outcome (Ok n) ≡ (0, n)
  pub refused : (r : Refusal) → outcome (Err r) ≡ (number_of r, 0)
  pub fits : (n : ℕ) → maybe (Some n) ≡ some n
  pub over : maybe {A = ℕ} None ≡ none
  pub usage_is_one : kind_number Usage ≡ 1
  pub io_is_two : kind_number Io ≡ 2
  pub protocol_is_three : kind_number Protocol ≡ 3
  pub server_is_four : kind_number Server ≡ 4
  pub too_large_is_five : kind_number MessageTooLarge ≡ 5
  pub parse_lsn_is_six : kind_number ParseLsn ≡ 6
