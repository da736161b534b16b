-- What the table, the plain reading and the counters share with the machine: the definitions of messages, fields as far as a status needs them, and
-- the choice between two values. Each is named here with the theorems that hold it over all values; the gate refuses a file of these specs that uses
-- anything else of another crate, save types and the calls that condition 3 is about. SCOPE 8.3.
use Rattle.std.specs.Prelude.{◌≡◌, Bool, true, false, List, [], ◌∷◌, ◌++◌, ℕ, ◌+◌, length, ℤ}
use Rattle.wire.specs.Bytes.{pick, be_bytes}
use Rattle.wire.specs.Int.{value}
use Rattle.wire.specs.AllValues.{NumberLaws, IntLaws, SearchLaws}
use Rattle.wire.specs.Cases.{OrderLaws, SignedLaws, FindLawsOf}
use Rattle.frames.specs.Message.{framed}
use Rattle.frames.specs.Frame.{CutByFront, LaidIsCut, CutIsLaid}
use Rattle.replication.specs.CopyData.{xlog_data, keep_alive}
use Rattle.replication.specs.CopyDataLayout.{XLogDataIsRead, ReadIsXLogData, KeepAliveIsRead, ReadIsKeepAlive}
use Rattle.replication.specs.CopyDataCases.{CopyDataLaws}
use Rattle.pgoutput.specs.Boundary.{begin_bytes, commit_bytes, message_bytes}
use Rattle.pgoutput.specs.BoundaryLayout.{BeginIsRead, ReadIsBegin, CommitIsRead, ReadIsCommit, MessageIsRead, ReadIsMessage}
use Rattle.pgoutput.specs.BoundaryCases.{LetterLaws, BeginRefusals, CommitRefusals, MessageRefusals}
use Rattle.frontend.specs.Frontend.{status_update, copy_done_message}
use Rattle.frontend.specs.ReadBack.{StatusReadBack, StatusReadBackModulo, QueryReadBack, QueryCutAtZero}
use Rattle.request.specs.ReadBack.{RequestReadBack}

pub record SharedHeld : Type 1 where
  -- `pick`: the first value where the test holds, else the second
  pub pick_first : (A : Type 0) (a b : A) → pick true a b ≡ a
  pub pick_second : (A : Type 0) (a b : A) → pick false a b ≡ b
  -- `be` and `be_bytes`: the first byte is the highest, and numbers and their bytes, both ways
  pub order : OrderLaws
  pub numbers : NumberLaws
  -- `int` and `value`: two's complement, and each undoes the other
  pub sign : SignedLaws
  pub ints : IntLaws
  -- the search for a zero byte: what is found stands there first, and what stands there first is found
  pub search_byte : FindLawsOf
  pub byte_found : SearchLaws
  -- the encoders of messages, field by field, so that none changes alike with its reader
  pub frame_bytes : (tag : ℕ) (p : List ℕ) → framed tag p ≡ tag ∷ (be_bytes 4 (length p + 4) ++ p)
  pub xlog_bytes : (start end : ℕ) (time : ℤ) (d : List ℕ)
      → xlog_data start end time d ≡ 119 ∷ (be_bytes 8 start ++ (be_bytes 8 end ++ (be_bytes 8 (value 8 time) ++ d)))
  pub keepalive_bytes : (end : ℕ) (time : ℤ) (reply : ℕ) → keep_alive end time reply
      ≡ 107 ∷ (be_bytes 8 end ++ (be_bytes 8 (value 8 time) ++ (reply ∷ [])))
  pub begin_bytes_lem : (final : ℕ) (time : ℤ) (xid : ℕ)
      → begin_bytes final time xid ≡ 66 ∷ (be_bytes 8 final ++ (be_bytes 8 (value 8 time) ++ be_bytes 4 xid))
  pub commit_bytes_lem : (flags position end : ℕ) (time : ℤ)
      → commit_bytes flags position end time ≡ 67 ∷ flags ∷ (be_bytes 8 position ++ (be_bytes 8 end ++ be_bytes 8 (value 8 time)))
  pub message_bytes_lem : (flags position : ℕ) (prefix content : List ℕ)
      → message_bytes flags position prefix content
      ≡ 77 ∷ flags ∷ (be_bytes 8 position ++ (prefix ++ (0 ∷ (be_bytes 4 (length content) ++ content))))
  -- `cut_of`, with the tags of messages: what is framed is cut so, and what is cut so was framed
  pub framed_cut : LaidIsCut
  pub cut_framed : CutIsLaid
  -- `front_of`: what stands at the front is what the cut finds first
  pub front_cut : CutByFront
  -- `copy_data_of`: what is sent is read, what is read was sent, and which refusal anything else gets
  pub xlog_sent : XLogDataIsRead
  pub xlog_read : ReadIsXLogData
  pub keepalive_sent : KeepAliveIsRead
  pub keepalive_read : ReadIsKeepAlive
  pub copy_data_refused : CopyDataLaws
  -- `boundary_of`: the same of Begin, Commit and Message
  pub begin_sent : BeginIsRead
  pub begin_read : ReadIsBegin
  pub begin_refused : BeginRefusals
  pub commit_sent : CommitIsRead
  pub commit_read : ReadIsCommit
  pub commit_refused : CommitRefusals
  pub message_sent : MessageIsRead
  pub message_read : ReadIsMessage
  pub message_refused : MessageRefusals
  pub other_data : LetterLaws
  -- `copy_done_message` and `status_update`, in bytes, with `status_of` and `confirming`, which are a server's reading of them
  pub done_bytes : copy_done_message ≡ 99 ∷ 0 ∷ 0 ∷ 0 ∷ 4 ∷ []
  pub status_bytes : (position : ℕ) (time : ℤ) (reply : Bool)
      → status_update position time reply
      ≡ 100 ∷ 0 ∷ 0 ∷ 0 ∷ 38 ∷ 114
      ∷ (be_bytes 8 position ++ (be_bytes 8 position ++ (be_bytes 8 position ++ (be_bytes 8 (value 8 time) ++ (pick reply 1 0 ∷ [])))))
  pub status_read : StatusReadBack
  pub status_read_modulo : StatusReadBackModulo
  -- `query` and `start_replication`: a server's reading of the query that opens a stream
  pub query_read : QueryReadBack
  pub query_zero : QueryCutAtZero
  pub request_read : RequestReadBack
