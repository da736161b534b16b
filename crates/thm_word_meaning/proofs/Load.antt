-- The calls about a bench load answer what specs/Load.antt says.
use mathlib.Core.Path.{◌≡◌, refl, sym, ap, ◌∙◌}
use mathlib.Core.Bool.{false}
use mathlib.Core.List.{List, ◌∷◌, ◌++◌}
use Prim.Native.Nat.{ℕ, zero, suc, ◌+◌, ◌%◌}
use native.Mathlib.Omega.{arith}
use lib.Dec.{eqb}
use lib.IntN.{pos}
use lib.ListN.{length, take, replicate}
use lib.Seq.{drop-append_seam, take_all}
use borrow.Author.Tests.{ne_eqb}
use Rattle.replication.specs.CopyData.{xlog_data}
use Rattle.load.specs.declared.Message.{Message}
use Rattle.load.specs.declared.Message.TheVariants.{KeepAlive, Begin, Data, Commit}
use Rattle.load.specs.Load.{message_of, draws_of, made_of, messages_of, payload_of, stream_of, loading}
use Rattle.load.specs.Code.{xlog_head}
use Rattle.load.proofs.Laws.{length_letters, length_xlog, xlog_head_lem, length_xlog_data}
use Rattle.load.specs.Words.{event_words}
use Rattle.load.specs.Xorshift.{drawn, next_of}
use Rattle.thm_load_handed.specs.LoadHanded.{event_of}
use Rattle.thm_host_calls.specs.HostWords.{StandsAt, TellsOne}
use Rattle.thm_any_calls.specs.Tests.{part}
use Rattle.thm_word_meaning.specs.Load.{LoadWords, LoadEventWords, LoadEventsTold, CallsTell, LoadTells}
use Rattle.thm_word_meaning.proofs.Texts.{writes}
use Rattle.thm_word_meaning.proofs.OneWord.{flag_is}

pub load_words : LoadWords
unfolding loading
load_words =
    record {
      seed_zero = λ n out. refl;
      written = λ seed n out h. let k : eqb seed 0 ≡ false = ne_eqb seed 0 (λ e. omega arith) in rw k (writes 0 (stream_of n seed) out);
    }

event_words_lem : (s : ℕ) → LoadEventWords s
unfolding made_of message_of draws_of
event_words_lem s =
    record {
      keepalive = λ e. rw e (rw (flag_is (eqb (drawn 3 s % 2) 1)) refl);
      begin = λ e. rw e;
      other = λ e. rw e;
      commit = λ e. rw e;
    }

pub load_events_told : LoadEventsTold
unfolding made_of message_of draws_of drawn next_of
load_events_told = record { each = event_words_lem; zero = refl }

-- data stands behind the 25 bytes of an XLogData's head
stands : (start end : ℕ) (d : List ℕ) → StandsAt (xlog_data start end (pos 0) d) 25 d
stands start end d =
    let h : List ℕ = xlog_head start end in
    let n : length h ≡ 25 = length_xlog start end in
    record {
      within = (let l : length (xlog_data start end (pos 0) d) ≡ 25 + length d = length_xlog_data start end d in omega (arith, l));
      there =
          ap (λ (l : List ℕ). part l 25 (length d)) (xlog_head_lem start end d)
          ∙ (ap (λ (k : ℕ). part (h ++ d) k (length d)) (sym n)
          ∙ (ap (take (length d)) (drop-append_seam h d) ∙ take_all (length d) d (omega arith)));
    }

tells : (m : Message) → TellsOne (event_words m) (payload_of m) (event_of m)
unfolding payload_of
tells (KeepAlive end reply) = rw (flag_is reply)
tells (Begin start end final xid) = refl
tells (Data start end letters) =
    record {
      data_at = 25;
      words = rw (length_letters letters);
      data_there = stands start end (73 ∷ replicate letters 65);
    }
tells (Commit start end position commit_end) = refl

all_tell : (seed n : ℕ) → CallsTell seed (messages_of n seed)
unfolding CallsTell messages_of made_of
all_tell seed zero = tt
all_tell seed (suc n) = (tells (message_of seed), all_tell (drawn (draws_of seed) seed) n)

counted : (seed n : ℕ) → length (messages_of n seed) ≡ n
unfolding messages_of
counted seed zero = refl
counted seed (suc n) = ap suc (counted (drawn (draws_of seed) seed) n)

pub load_tells : LoadTells
unfolding made_of
load_tells = record { one = λ s. tells (message_of s); all = all_tell; counted = counted }
