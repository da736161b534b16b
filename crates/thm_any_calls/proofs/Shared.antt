-- Each shared definition is held by theorems of its own crate.
use mathlib.Core.Path.{◌≡◌, refl, ap}
use mathlib.Core.Bool.{Bool, true, false}
use mathlib.Core.List.{[], ◌∷◌, ◌++◌}
use Prim.Native.Nat.{ℕ, ◌+◌}
use lib.IntN.{ℤ}
use Rattle.wire.specs.Bytes.{pick, be_bytes}
use Rattle.wire.specs.Int.{value}
use Rattle.wire.proofs.AllValues.{number_laws, int_laws, search_laws}
use Rattle.wire.proofs.Cases.{order_laws, signed_laws, find_laws}
use Rattle.frames.specs.Message.{framed}
use Rattle.frames.proofs.Frame.{cut_by_front, laid_is_cut, cut_is_laid}
use Rattle.replication.specs.CopyData.{xlog_data, keep_alive}
use Rattle.pgoutput.specs.Boundary.{begin_bytes, commit_bytes, message_bytes}
use Rattle.replication.proofs.LayoutXLogData.{xlog_data_is_read, read_is_xlog_data}
use Rattle.replication.proofs.LayoutKeepAlive.{keep_alive_is_read, read_is_keep_alive}
use Rattle.replication.proofs.Cases.{copy_data_laws}
use Rattle.pgoutput.proofs.LayoutBegin.{begin_is_read, read_is_begin}
use Rattle.pgoutput.proofs.LayoutCommit.{commit_is_read, read_is_commit}
use Rattle.pgoutput.proofs.LayoutMessage.{message_is_read, read_is_message}
use Rattle.pgoutput.proofs.Cases.{letter_laws, begin_refusals, commit_refusals, message_refusals}
use Rattle.frontend.specs.Frontend.{status_update, status_body, copy_data, copy_done_message}
use Rattle.frontend.proofs.Laws.{length_status}
use Rattle.frontend.proofs.ServerReads.{status_read_back, status_read_back_modulo, query_read_back, query_cut_at_zero}
use Rattle.request.proofs.ReadBack.{request_read_back}
use Rattle.thm_any_calls.specs.Shared.{SharedHeld}

-- the length field of a status counts its 34 bytes and itself
status_bytes : (position : ℕ) (time : ℤ) (reply : Bool)
    → status_update position time reply
    ≡ 100 ∷ 0 ∷ 0 ∷ 0 ∷ 38 ∷ 114
    ∷ (be_bytes 8 position ++ (be_bytes 8 position ++ (be_bytes 8 position ++ (be_bytes 8 (value 8 time) ++ (pick reply 1 0 ∷ [])))))
unfolding status_update copy_data status_body framed be_bytes
status_bytes position time true =
    ap (λ (n : ℕ). 100 ∷ (be_bytes 4 (n + 4) ++ status_body position time true)) (length_status position time true)
status_bytes position time false =
    ap (λ (n : ℕ). 100 ∷ (be_bytes 4 (n + 4) ++ status_body position time false)) (length_status position time false)

pub shared_held : SharedHeld
unfolding copy_done_message framed be_bytes xlog_data keep_alive begin_bytes commit_bytes message_bytes
shared_held =
    record {
      pick_first = λ A a b. refl;
      pick_second = λ A a b. refl;
      order = order_laws;
      numbers = number_laws;
      sign = signed_laws;
      ints = int_laws;
      search_byte = find_laws;
      byte_found = search_laws;
      frame_bytes = λ tag p. refl;
      xlog_bytes = λ start end time d. refl;
      keepalive_bytes = λ end time reply. refl;
      begin_bytes_lem = λ final time xid. refl;
      commit_bytes_lem = λ flags position end time. refl;
      message_bytes_lem = λ flags position prefix content. refl;
      framed_cut = laid_is_cut;
      cut_framed = cut_is_laid;
      front_cut = cut_by_front;
      xlog_sent = xlog_data_is_read;
      xlog_read = read_is_xlog_data;
      keepalive_sent = keep_alive_is_read;
      keepalive_read = read_is_keep_alive;
      copy_data_refused = copy_data_laws;
      begin_sent = begin_is_read;
      begin_read = read_is_begin;
      begin_refused = begin_refusals;
      commit_sent = commit_is_read;
      commit_read = read_is_commit;
      commit_refused = commit_refusals;
      message_sent = message_is_read;
      message_read = read_is_message;
      message_refused = message_refusals;
      other_data = letter_laws;
      done_bytes = refl;
      status_bytes = status_bytes;
      status_read = status_read_back;
      status_read_modulo = status_read_back_modulo;
      query_read = query_read_back;
      query_zero = query_cut_at_zero;
      request_read = request_read_back;
    }
