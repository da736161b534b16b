-- Each tag by its letter: PostgreSQL documentation, "Message Formats". SCOPE 3.12.
use Rattle.std.specs.Prelude.{◌≡◌, refl, true, ℕ}
use Prim.Native.Char.{code}
use Rattle.std.proofs.Common.{eqb-true}
use Rattle.frames.specs.Tag.{is_error, is_ready_for_query, is_data_row, is_copy_both_response, is_copy_data, is_auth_request}

-- the letter is the tag, and no other byte is
pub record TagCases : Type 0 where
  pub error : is_error (code "E") ≡ true
  pub error_only : (tag : ℕ) → is_error tag ≡ true → tag ≡ code "E"
  pub ready : is_ready_for_query (code "Z") ≡ true
  pub ready_only : (tag : ℕ) → is_ready_for_query tag ≡ true → tag ≡ code "Z"
  pub row : is_data_row (code "D") ≡ true
  pub row_only : (tag : ℕ) → is_data_row tag ≡ true → tag ≡ code "D"
  pub both : is_copy_both_response (code "W") ≡ true
  pub both_only : (tag : ℕ) → is_copy_both_response tag ≡ true → tag ≡ code "W"
  pub data_of : is_copy_data (code "d") ≡ true
  pub data_only : (tag : ℕ) → is_copy_data tag ≡ true → tag ≡ code "d"
  pub auth : is_auth_request (code "R") ≡ true
  pub auth_only : (tag : ℕ) → is_auth_request tag ≡ true → tag ≡ code "R"

-- they hold, by computing and by what the test says of its byte
pub tag_cases : TagCases
tag_cases =
    record {
      error = refl;
      error_only = λ tag e. eqb-true _ _ e;
      ready = refl;
      ready_only = λ tag e. eqb-true _ _ e;
      row = refl;
      row_only = λ tag e. eqb-true _ _ e;
      both = refl;
      both_only = λ tag e. eqb-true _ _ e;
      data_of = refl;
      data_only = λ tag e. eqb-true _ _ e;
      auth = refl;
      auth_only = λ tag e. eqb-true _ _ e;
    }
