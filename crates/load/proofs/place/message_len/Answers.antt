-- By the message.
use mathlib.Core.Path.{sym}
use Rattle.load.proofs.Laws.{len_keep_alive, len_begin, len_data, len_commit}
use Rattle.load.proofs.place.message_len.Goals as goal

pub returns-in-KeepAlive : goal.returns-in-KeepAlive
returns-in-KeepAlive c = rw c.in-KeepAlive.is (sym (len_keep_alive _ _))

pub returns-in-Begin : goal.returns-in-Begin
returns-in-Begin c = rw c.in-Begin.is (sym (len_begin _ _ _ _))

pub returns-in-Data : goal.returns-in-Data
returns-in-Data c = rw c.in-Data.is (sym (len_data _ _ _))

pub returns-in-Commit : goal.returns-in-Commit
returns-in-Commit c = rw c.in-Commit.is (sym (len_commit _ _ _ _))
