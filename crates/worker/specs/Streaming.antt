-- What a message is to a run that streams, by its tag: one classification, which the step, the table of condition 3 and the plain reading use.
-- PostgreSQL documentation, "Message Formats" and "Streaming Replication Protocol"; SCOPE 6.8; 02, wish 2.
use Rattle.std.specs.Prelude.{◌≡◌, ℕ, Bool, true, ◌==◌, refl}
use Prim.Native.Char.{code}
use Rattle.std.proofs.Common.{eqb-true}
use Rattle.wire.specs.Bytes.{pick}
use Rattle.frames.specs.Tag.{is_error, is_copy_data}

-- CopyDone, Byte1('c')
abbrev pub is_copy_done : ℕ → Bool
is_copy_done tag = tag == 99

-- what is made of the server's error, of its CopyDone, of CopyData, and of any other message, which is skipped
abbrev pub while_streaming : {A : Type 0} → ℕ → A → A → A → A → A
while_streaming tag failed done copied skipped =
    pick (is_error tag) failed (pick (is_copy_done tag) done (pick (is_copy_data tag) copied skipped))

-- each kind by its letter, with a number for each kind
abbrev pub streaming_kind : ℕ → ℕ
streaming_kind tag = while_streaming tag 0 1 2 3

-- the letters that are told apart, among them those that a server sends besides while it streams; and no other byte is a CopyDone
pub record StreamingCases : Type 0 where
  pub error : streaming_kind (code "E") ≡ 0
  pub copy_done : streaming_kind (code "c") ≡ 1
  pub copy_data : streaming_kind (code "d") ≡ 2
  pub notice : streaming_kind (code "N") ≡ 3
  pub parameter : streaming_kind (code "S") ≡ 3
  pub complete : streaming_kind (code "C") ≡ 3
  pub copy_fail : streaming_kind (code "f") ≡ 3
  pub copy_both : streaming_kind (code "W") ≡ 3
  pub ready : streaming_kind (code "Z") ≡ 3
  pub done_only : (tag : ℕ) → is_copy_done tag ≡ true → tag ≡ code "c"

-- each by computing the definitions, or by going through the tests
pub streaming_cases : StreamingCases
streaming_cases =
    record {
      error = refl;
      copy_done = refl;
      copy_data = refl;
      notice = refl;
      parameter = refl;
      complete = refl;
      copy_fail = refl;
      copy_both = refl;
      ready = refl;
      done_only = λ tag e. eqb-true _ _ e;
    }
