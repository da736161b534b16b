-- By the message.
use Rattle.load.proofs.Laws.{keep_alive_room, begin_room, data_room, commit_room}
use Rattle.load.proofs.place.message.Goals as goal

pub keep_alive_message-requires : goal.keep_alive_message-requires
keep_alive_message-requires c =
    keep_alive_room _ _ c.in-KeepAlive.is c.requires

pub begin_message-requires : goal.begin_message-requires
begin_message-requires c =
    begin_room _ _ c.in-Begin.is c.requires

pub data_message-requires : goal.data_message-requires
data_message-requires c =
    data_room _ _ c.in-Data.is c.requires

pub commit_message-requires : goal.commit_message-requires
commit_message-requires c =
    commit_room _ _ c.in-Commit.is c.requires
