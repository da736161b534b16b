-- What the ring holds less what it has.
use Rattle.ledger.specs.Ledger.{room_of}
use Rattle.ledger.proofs.Ledger.room.Goals as goal

pub returns : goal.returns
unfolding room_of
returns c = rw (c.min.ensures, c.capacity-n.ensures)
