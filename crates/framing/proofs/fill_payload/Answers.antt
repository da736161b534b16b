-- What is lacking of the payload, as far as there are unread bytes.
use Rattle.wire.proofs.Laws.{lent_tail}
use Rattle.framing.proofs.Laws.{copied_all, tail_fits, payload_there, payload_more, payload_whole}
use Prim.Native.Nat.{ℕ, ◌-◌, ◌<◌, min}
use mathlib.Core.Path.{◌≡◌}
use mathlib.Core.List.{List, ◌++◌}
use Rattle.wire.specs.Bytes.{put, copied}
use native.Mathlib.Omega.{arith}
use lib.ListN.{length, take, drop}
use Rattle.framing.proofs.fill_payload.Goals as goal

-- the bytes taken stand after the filled mark
stored : (u p d : List ℕ) (k n have len r : ℕ) → k ≡ min (n - have) (length u) → n ≡ min len (length p) → have < n
    → (r, d) ≡ copied (take (length p - have) (drop have p)) (take k u)
    → take have p ++ (d ++ drop (length p - have) (drop have p)) ≡ put p have (take k u)
stored u p d k n have len r ek en h ec =
    let t = take k u in
    let f = tail_fits u p _ _ _ _ ek en in
    lent_tail p d t have (length p - have) (omega arith) (copied_all _ t _ _ f ec)

pub returns-then-n-have : goal.returns-then-n-have
returns-then-n-have c =
    payload_there _ _ _ _ _ _ _ c.min-n.ensures c.behind_header-have.ensures c.tag-tag.ensures _ c.new.ensures c.if-n-have.true

pub returns-then-have-k : goal.returns-then-have-k
returns-then-have-k c =
    let s = stored _ c.args.payload.now _ _ _ _ _ _ c.min-k.ensures c.min-n.ensures c.if-n-have.false c.copy.ensures in
    payload_more _ _ _ _ _ _ _ c.min-n.ensures c.behind_header-have.ensures c.tag-tag.ensures _ _ c.min-k.ensures s c.if-n-have.false _ _
    c.lacking.ensures c.at_byte.ensures c.if-have-k.true

pub returns : goal.returns
returns c =
    let s = stored _ c.args.payload.now _ _ _ _ _ _ c.min-k.ensures c.min-n.ensures c.if-n-have.false c.copy.ensures in
    payload_whole _ _ _ _ _ _ _ c.min-n.ensures c.behind_header-have.ensures c.tag-tag.ensures _ _ c.min-k.ensures s c.if-n-have.false _
    c.new-2.ensures c.if-have-k.false
