-- The pieces of a message as the code writes them, and how long they are.
use mathlib.Core.Path.{◌≡◌, refl, ap, ◌∙◌}
use mathlib.Core.List.{List, [], ◌∷◌, ◌++◌, append_assoc}
use mathlib.Core.Bool.{Bool, true, false}
use Prim.Native.Nat.{ℕ, zero, suc, ◌+◌, ◌-◌, ◌%◌, ◌≤◌, ◌<◌}
use native.Mathlib.Nat.{le_of_suc-le-suc, not-suc-le-zero}
use native.Mathlib.Omega.{arith}
use lib.ListN.{length, take, replicate, length-append, length-replicate}
use lib.IntN.{pos}
use Rattle.wire.specs.Bytes.{be_bytes}
use Rattle.wire.specs.Field.{unsigned}
use Rattle.wire.proofs.Laws.{length_be_bytes}
use Rattle.frames.specs.Message.{framed}
use Rattle.replication.specs.CopyData.{xlog_data, keep_alive}
use Rattle.pgoutput.specs.Boundary.{begin_bytes, commit_bytes}
use Rattle.load.specs.Code.{header, xlog_head}
use lib.Dec.{eqb}
use borrow.Author.Tests.{eq-eqb, ne_eqb}
use Rattle.load.specs.Xorshift.{next_of, drawn}
use Rattle.load.specs.declared.Message.TheVariants.{KeepAlive, Begin, Data, Commit}
use Rattle.load.specs.declared.Made.{Made}
use Rattle.load.specs.Load.{bit, payload_of, bytes_of, message_of, draws_of, made_of, messages_of, all_bytes, stream_of}
use Rattle.load.specs.declared.Message.{Message}

pub header_pieces : (n : ℕ) → header n ≡ be_bytes 1 100 ++ be_bytes 4 (n + 4)
unfolding header be_bytes
header_pieces n = refl

pub length_header : (n : ℕ) → length (header n) ≡ 5
unfolding header
length_header n = ap suc (length_be_bytes 4 (n + 4))

pub xlog_pieces : (start end : ℕ) → xlog_head start end ≡ be_bytes 1 119 ++ (be_bytes 8 start ++ (be_bytes 8 end ++ be_bytes 8 0))
unfolding xlog_head be_bytes unsigned
xlog_pieces start end = refl

pub length_xlog : (start end : ℕ) → length (xlog_head start end) ≡ 25
unfolding xlog_head
length_xlog start end = simp (length-append, length_be_bytes)

pub keep_alive_pieces : (end : ℕ) (reply : Bool) → keep_alive end (pos 0) (bit reply) ≡ be_bytes 1 107 ++ (be_bytes 8 end ++ (be_bytes 8 0 ++ be_bytes 1 (bit reply)))
unfolding keep_alive be_bytes unsigned
keep_alive_pieces end true = refl
keep_alive_pieces end false = refl

pub length_keep_alive : (end byte : ℕ) → length (keep_alive end (pos 0) byte) ≡ 18
unfolding keep_alive
length_keep_alive end byte = simp (length-append, length_be_bytes)

pub begin_pieces : (final xid : ℕ) → begin_bytes final (pos 0) xid ≡ be_bytes 1 66 ++ (be_bytes 8 final ++ (be_bytes 8 0 ++ be_bytes 4 xid))
unfolding begin_bytes be_bytes unsigned
begin_pieces final xid = refl

pub length_begin : (final xid : ℕ) → length (begin_bytes final (pos 0) xid) ≡ 21
unfolding begin_bytes
length_begin final xid = simp (length-append, length_be_bytes)

pub commit_pieces : (position end : ℕ) → commit_bytes 0 position end (pos 0) ≡ be_bytes 1 67 ++ (be_bytes 1 0 ++ (be_bytes 8 position ++ (be_bytes 8 end ++ be_bytes 8 0)))
unfolding commit_bytes be_bytes unsigned
commit_pieces position end = refl

pub length_commit : (position end : ℕ) → length (commit_bytes 0 position end (pos 0)) ≡ 26
unfolding commit_bytes
length_commit position end = simp (length-append, length_be_bytes)

pub letters_pieces : (n : ℕ) → ◌≡◌ {A = List ℕ} (73 ∷ replicate n 65) (be_bytes 1 73 ++ replicate n 65)
unfolding be_bytes
letters_pieces n = refl

pub length_letters : (n : ℕ) → length {A = ℕ} (73 ∷ replicate n 65) ≡ n + 1
length_letters n = omega (arith, length-replicate {0} {A = ℕ} n 65)

pub take_letters : (k n : ℕ) → n ≤ k → take n (replicate {A = ℕ} k 65) ≡ replicate n 65
take_letters k zero h = refl
take_letters zero (suc n) h = absurd (not-suc-le-zero h)
take_letters (suc k) (suc n) h = ap (λ (l : List ℕ). 65 ∷ l) (take_letters k n (le_of_suc-le-suc h))

-- ---- whole messages

pub length_bytes : (m : Message) → length (bytes_of m) ≡ length (payload_of m) + 5
unfolding bytes_of framed
length_bytes m = length-append {A = ℕ} (100 ∷ be_bytes 4 (length (payload_of m) + 4)) (payload_of m) ∙ omega (arith, length_be_bytes 4 (length (payload_of m) + 4))

pub xlog_head_lem : (start end : ℕ) (sent : List ℕ) → xlog_data start end (pos 0) sent ≡ xlog_head start end ++ sent
unfolding xlog_data xlog_head
xlog_head_lem start end sent = simp append_assoc

pub length_xlog_data : (start end : ℕ) (sent : List ℕ) → length (xlog_data start end (pos 0) sent) ≡ 25 + length sent
length_xlog_data start end sent = rw (xlog_head_lem start end sent) (length-append (xlog_head start end) sent ∙ omega (arith, length_xlog start end))

-- a message's bytes: header and payload
pub bytes_header : (m : Message) (n : ℕ) → length (payload_of m) ≡ n → bytes_of m ≡ header n ++ payload_of m
unfolding bytes_of framed header
bytes_header m n e = rw e

-- ---- what is drawn

pub keep_alive_made : (s k a b : ℕ) → k ≡ next_of s → a ≡ next_of k → b ≡ next_of a → k % 4 ≡ 0
    → ◌≡◌ {A = Made} (record { message = KeepAlive a (eqb (b % 2) 1); state = b }) (made_of s)
unfolding made_of message_of draws_of drawn
keep_alive_made s k a b e f g h = rw (g, f, e) (simp (eq-eqb _ _ (rw e at h)))

pub other_made : (s k a b c : ℕ) → k ≡ next_of s → a ≡ next_of k → b ≡ next_of a → c ≡ next_of b → k % 4 ≡ 2
    → ◌≡◌ {A = Made} (record { message = Data a b (c % 64); state = c }) (made_of s)
unfolding made_of message_of draws_of drawn
other_made s k a b c e f g i h =
    let t : k % 4 ≡ 0 → ⊥ = omega arith in
    let u : k % 4 ≡ 1 → ⊥ = omega arith in
    rw (i, g, f, e) (simp (ne_eqb _ _ (rw e at t), ne_eqb _ _ (rw e at u), eq-eqb _ _ (rw e at h)))

pub begin_made : (s k a b c d : ℕ) → k ≡ next_of s → a ≡ next_of k → b ≡ next_of a → c ≡ next_of b → d ≡ next_of c → k % 4 ≡ 1
    → ◌≡◌ {A = Made} (record { message = Begin a b c (d % 4294967296); state = d }) (made_of s)
unfolding made_of message_of draws_of drawn
begin_made s k a b c d e f g i j h =
    let t : k % 4 ≡ 0 → ⊥ = omega arith in
    rw (j, i, g, f, e) (simp (ne_eqb _ _ (rw e at t), eq-eqb _ _ (rw e at h)))

pub commit_made : (s k a b c d : ℕ) → k ≡ next_of s → a ≡ next_of k → b ≡ next_of a → c ≡ next_of b → d ≡ next_of c
    → (k % 4 ≡ 0 → ⊥) → (k % 4 ≡ 2 → ⊥) → (k % 4 ≡ 1 → ⊥)
    → ◌≡◌ {A = Made} (record { message = Commit a b c d; state = d }) (made_of s)
unfolding made_of message_of draws_of drawn
commit_made s k a b c d e f g i j t v u =
    rw (j, i, g, f, e) (simp (ne_eqb _ _ (rw e at t), ne_eqb _ _ (rw e at u), ne_eqb _ _ (rw e at v)))

-- ---- how long messages are

pub len_keep_alive : (end : ℕ) (reply : Bool) → length (bytes_of (KeepAlive end reply)) ≡ 23
unfolding payload_of
len_keep_alive end reply = length_bytes (KeepAlive end reply) ∙ omega (arith, length_keep_alive end (bit reply))

pub len_begin : (start end final xid : ℕ) → length (bytes_of (Begin start end final xid)) ≡ 51
unfolding payload_of
len_begin start end final xid =
    length_bytes (Begin start end final xid) ∙ omega (arith, length_xlog_data start end (begin_bytes final (pos 0) xid), length_begin final xid)

pub len_data : (start end n : ℕ) → length (bytes_of (Data start end n)) ≡ n + 31
unfolding payload_of
len_data start end n =
    length_bytes (Data start end n) ∙ omega (arith, length_xlog_data start end (73 ∷ replicate n 65), length_letters n)

pub len_commit : (start end position commit_end : ℕ) → length (bytes_of (Commit start end position commit_end)) ≡ 56
unfolding payload_of
len_commit start end position commit_end =
    length_bytes (Commit start end position commit_end)
    ∙ omega (arith, length_xlog_data start end (commit_bytes 0 position commit_end (pos 0)), length_commit position commit_end)

-- ---- the stream

pub stream_next : (n s : ℕ) → stream_of (suc n) s ≡ bytes_of (made_of s).message ++ stream_of n (made_of s).state
unfolding messages_of all_bytes made_of
stream_next n s = refl

-- ---- whole messages in pieces

pub keep_alive_whole : (end : ℕ) (reply : Bool) → bytes_of (KeepAlive end reply) ≡ header 18 ++ keep_alive end (pos 0) (bit reply)
unfolding payload_of
keep_alive_whole end reply = bytes_header (KeepAlive end reply) 18 (length_keep_alive end (bit reply))

pub begin_whole : (start end final xid : ℕ) → bytes_of (Begin start end final xid) ≡ header 46 ++ (xlog_head start end ++ begin_bytes final (pos 0) xid)
unfolding payload_of
begin_whole start end final xid =
    let b : List ℕ = begin_bytes final (pos 0) xid in
    bytes_header (Begin start end final xid) 46 (length_xlog_data start end b ∙ omega (arith, length_begin final xid))
    ∙ ap (λ (l : List ℕ). header 46 ++ l) (xlog_head_lem start end b)

pub data_whole : (start end n : ℕ) → bytes_of (Data start end n) ≡ header (n + 26) ++ (xlog_head start end ++ (73 ∷ replicate n 65))
unfolding payload_of
data_whole start end n =
    let b : List ℕ = 73 ∷ replicate n 65 in
    bytes_header (Data start end n) (n + 26) (length_xlog_data start end b ∙ omega (arith, length_letters n))
    ∙ ap (λ (l : List ℕ). header (n + 26) ++ l) (xlog_head_lem start end b)

pub commit_whole : (start end position commit_end : ℕ)
    → bytes_of (Commit start end position commit_end) ≡ header 51 ++ (xlog_head start end ++ commit_bytes 0 position commit_end (pos 0))
unfolding payload_of
commit_whole start end position commit_end =
    let b : List ℕ = commit_bytes 0 position commit_end (pos 0) in
    bytes_header (Commit start end position commit_end) 51 (length_xlog_data start end b ∙ omega (arith, length_commit position commit_end))
    ∙ ap (λ (l : List ℕ). header 51 ++ l) (xlog_head_lem start end b)

-- the stream of some messages, and of none
pub stream_some : (n s : ℕ) → 0 < n → stream_of n s ≡ bytes_of (made_of s).message ++ stream_of (n - 1) (made_of s).state
stream_some zero s h = absurd (not-suc-le-zero h)
stream_some (suc n) s h = let e : suc n - 1 ≡ n = omega arith in rw e (stream_next n s)

pub stream_left : (n s : ℕ) → 0 < n → length (stream_of n s) ≡ length (bytes_of (made_of s).message) + length (stream_of (n - 1) (made_of s).state)
stream_left n s h = rw (stream_some n s h) (length-append (bytes_of (made_of s).message) (stream_of (n - 1) (made_of s).state))

pub stream_none : (n s : ℕ) → n ≤ 0 → stream_of n s ≡ []
unfolding messages_of all_bytes
stream_none zero s h = refl
stream_none (suc n) s h = absurd (not-suc-le-zero h)

-- ---- room for a message is room for what it is

pub keep_alive_room : {m : Message} {end : ℕ} {reply : Bool} (to room : ℕ) → m ≡ KeepAlive end reply → to + length (bytes_of m) ≤ room → to + 23 ≤ room
keep_alive_room {m} {end} {reply} to room e h = omega (arith, rw e at h, len_keep_alive end reply)

pub begin_room : {m : Message} {start end final xid : ℕ} (to room : ℕ) → m ≡ Begin start end final xid → to + length (bytes_of m) ≤ room → to + 51 ≤ room
begin_room {m} {start} {end} {final} {xid} to room e h = omega (arith, rw e at h, len_begin start end final xid)

pub data_room : {m : Message} {start end n : ℕ} (to room : ℕ) → m ≡ Data start end n → to + length (bytes_of m) ≤ room → to + n + 31 ≤ room
data_room {m} {start} {end} {n} to room e h = omega (arith, rw e at h, len_data start end n)

pub commit_room : {m : Message} {start end position commit_end : ℕ} (to room : ℕ) → m ≡ Commit start end position commit_end
    → to + length (bytes_of m) ≤ room → to + 56 ≤ room
commit_room {m} {start} {end} {position} {commit_end} to room e h = omega (arith, rw e at h, len_commit start end position commit_end)
