-- What each answer about a boundary says, over all values. SCOPE 3.9.
use Rattle.std.specs.Prelude.{◌≡◌, Bool, ℕ, ℤ, Ok, Err, Some, None}
use Rattle.error.specs.declared.Refusal.{Refusal}
use Rattle.error.specs.Refusal.{number_of}
use Rattle.lsn.specs.declared.Lsn.{Lsn}
use Rattle.pgoutput.specs.declared.Boundary.TheVariants.{Begin, Commit, Message}
use Rattle.pgoutput.specs.Boundary.{begin, commit, message, no_boundary, refused, said_by}

-- an answer says its own values in their order
pub record BoundarySaid : Type 0 where
  pub of_begin : (final : Lsn) (time : ℤ) (xid : ℕ) → said_by (Ok (Some (Begin final time xid))) ≡ begin final.0 time xid
  pub of_commit : (position end : Lsn) (time : ℤ) → said_by (Ok (Some (Commit position end time))) ≡ commit position.0 end.0 time
  pub of_message : (flag : Bool) (position : Lsn) (prefix_from prefix_len from len : ℕ)
      → said_by (Ok (Some (Message flag position prefix_from prefix_len from len))) ≡ message flag position.0 prefix_from prefix_len from len
  pub of_none : said_by (Ok None) ≡ no_boundary
  pub of_refused : (r : Refusal) → said_by (Err r) ≡ refused (number_of r)
