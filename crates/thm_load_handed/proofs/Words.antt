-- By the kind of the message.
use mathlib.Core.Path.{◌≡◌, refl, sym, ap, ◌∙◌}
use mathlib.Core.Bool.{Bool, true, false}
use mathlib.Core.List.{List, [], ◌∷◌, ◌++◌}
use Prim.Native.Nat.{ℕ, ◌+◌, ◌%◌, ◌^◌}
use native.Mathlib.Omega.{arith}
use lib.Dec.{eqb}
use lib.IntN.{pos}
use lib.ListN.{length, take, drop, replicate, length-replicate, get_or}
use lib.Seq.{take_all, drop-append_seam}
use Rattle.wire.specs.Bytes.{pick}
use Rattle.wire.specs.Field.{signed}
use Rattle.replication.specs.CopyData.{xlog_data}
use Rattle.ffi_words.specs.Words.{event_with_parts}
use Rattle.ffi_words.specs.Words as Words
use Rattle.worker.specs.Events.{said_by}
use Rattle.thm_any_calls.specs.Happened.{happened_of}
use Rattle.thm_any_calls.specs.Tests.{part}
use Rattle.load.specs.declared.Message.{Message}
use Rattle.load.specs.declared.Message.TheVariants.{KeepAlive, Begin, Data, Commit}
use Rattle.load.specs.Xorshift.{drawn}
use Rattle.load.specs.Load.{message_of, made_of, payload_of}
use Rattle.load.specs.Code.{xlog_head}
use Rattle.load.specs.Words.{event_words}
use Rattle.load.proofs.Laws.{xlog_head_lem, length_xlog}
use Rattle.thm_load_handed.specs.LoadHanded.{event_of}
use Rattle.thm_load_handed.specs.Words.{WordsAreOfTheEvent}

-- what is said of a message
abbrev Says : Message → Type 0
Says m =
    let w : List ℕ = event_words m in
    (length w ≡ 7)
    × (happened_of (said_by (Words.event_of (get_or w 0 0) (get_or w 1 0) (get_or w 2 0) (get_or w 3 0) (get_or w 4 0) (get_or w 5 0) (get_or w 6 0))) (payload_of m)
    ≡ event_of m ∷ [])

-- other data begins at place 25 of the payload
other_part : (start end : ℕ) (d : List ℕ) (n : ℕ) → length d ≡ n → part (xlog_data start end (pos 0) d) 25 n ≡ d
other_part start end d n e =
    let l = length_xlog start end in
    ap (λ (p : List ℕ). part p 25 n) (xlog_head_lem start end d)
    ∙ ap (λ (k : ℕ). take n (drop k (xlog_head start end ++ d))) (sym l)
    ∙ ap (take n) (drop-append_seam (xlog_head start end) d)
    ∙ take_all n d (omega arith)

keep_alive_said : (end : ℕ) (reply : Bool) → Says (KeepAlive end reply)
unfolding Words.event_of signed
keep_alive_said end true = (refl, refl)
keep_alive_said end false = (refl, refl)

begin_said : (start end final xid : ℕ) → Says (Begin start end final (xid % 2 ^ 32))
unfolding Words.event_of signed
begin_said start end final xid =
    let e : xid % 2 ^ 32 % 2 ^ 32 ≡ xid % 2 ^ 32 = omega arith in
    (refl, rw e refl)

data_said : (start end letters : ℕ) → Says (Data start end letters)
unfolding Words.event_of event_with_parts signed payload_of
data_said start end letters =
    let l = length-replicate {0} {A = ℕ} letters 65 in
    let e = other_part start end (73 ∷ replicate letters 65) (letters + 1) (omega arith) in
    (refl, rw e refl)

commit_said : (start end position commit_end : ℕ) → Says (Commit start end position commit_end)
unfolding Words.event_of signed
commit_said start end position commit_end = (refl, refl)

pub words_are_of_the_event : WordsAreOfTheEvent
unfolding made_of message_of
words_are_of_the_event s = by (eqb (drawn 1 s % 4) 0) (eqb (drawn 1 s % 4) 1) (eqb (drawn 1 s % 4) 2)
  where
    by : (p q r : Bool)
        → Says (pick p (KeepAlive (drawn 2 s) (eqb (drawn 3 s % 2) 1)) (pick q (Begin (drawn 2 s) (drawn 3 s) (drawn 4 s) (drawn 5 s % 2 ^ 32))
        (pick r (Data (drawn 2 s) (drawn 3 s) (drawn 4 s % 64)) (Commit (drawn 2 s) (drawn 3 s) (drawn 4 s) (drawn 5 s)))))
    by true q r = keep_alive_said (drawn 2 s) (eqb (drawn 3 s % 2) 1)
    by false true r = begin_said (drawn 2 s) (drawn 3 s) (drawn 4 s) (drawn 5 s)
    by false false true = data_said (drawn 2 s) (drawn 3 s) (drawn 4 s % 64)
    by false false false = commit_said (drawn 2 s) (drawn 3 s) (drawn 4 s) (drawn 5 s)
