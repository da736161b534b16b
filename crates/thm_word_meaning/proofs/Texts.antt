-- Each writer answers and leaves what specs/Texts.antt says.
use mathlib.Core.Path.{◌≡◌, refl, ap}
use mathlib.Core.List.{List, ◌++◌}
use Prim.Native.Nat.{ℕ, ◌+◌}
use native.Mathlib.Omega.{arith}
use lib.ListN.{length, drop}
use borrow.Author.Tests.{lt-ltb, le-ltb}
use Rattle.wire.specs.Bytes.{put}
use Rattle.error.specs.Inputs.{total}
use Rattle.error.specs.Writer.{writing}
use Rattle.frontend.specs.Frontend.{query, copy_done_message, terminate, status_update, startup}
use Rattle.lossy.specs.Lossy.{lossy_of}
use Rattle.lossy.specs.Marks.{marks_of, with_marks}
use Rattle.lossy.proofs.Stretches.{stretch_is_longest}
use Rattle.lsn.specs.Position.{display_of, position_of, joined}
use Rattle.messages.specs.ErrorText.{error_text, error_marks}
use Rattle.messages.specs.Fields.{fields_of}
use Rattle.thm_word_meaning.specs.Texts.{Writes, WritesMarked, ClientWords, TextWords, PositionWords}

put_front : (text out : List ℕ) → put out 0 text ≡ text ++ drop (length text) out
unfolding put
put_front text out = let e : 0 + length text ≡ length text = omega arith in ap (λ (n : ℕ). text ++ drop n out) e

pub writes : (inputs : ℕ) (text out : List ℕ) → Writes inputs text out (writing inputs text out)
unfolding writing
writes inputs text out =
    record {
      over_limit = λ h. simp (lt-ltb 1048576 inputs h);
      no_room = λ h g. simp (le-ltb 1048576 inputs h, lt-ltb (length out) (length text) g);
      written = λ h g. simp (le-ltb 1048576 inputs h, le-ltb (length out) (length text) g, put_front text out);
    }

marked : (inputs : ℕ) (text : List ℕ) (marks : ℕ) (out : List ℕ) → WritesMarked inputs text marks out (with_marks marks (writing inputs text out))
unfolding writing with_marks
marked inputs text marks out =
    record {
      over_limit = λ h. simp (lt-ltb 1048576 inputs h);
      no_room = λ h g. simp (le-ltb 1048576 inputs h, lt-ltb (length out) (length text) g);
      written = λ h g. simp (le-ltb 1048576 inputs h, le-ltb (length out) (length text) g, put_front text out);
    }

pub client_words : ClientWords
unfolding total
client_words =
    record {
      no_texts = refl;
      texts_together = λ t ts. refl;
      startup_message = λ version texts out. writes (total texts) (startup version texts) out;
      query_message = λ text out. writes (length text) (query text) out;
      copy_done = λ out. writes 0 copy_done_message out;
      terminates = λ out. writes 0 terminate out;
      status = λ position time reply out. writes 0 (status_update position time reply) out;
    }

pub text_words : TextWords
text_words =
    record {
      lossy = λ text out. marked (length text) (lossy_of text) (marks_of text) out;
      lossy_by_table = λ text out. marked (length text) (lossy_of text) (marks_of text) out;
      either_way = λ text out. refl;
      error_text = λ payload out. marked (length payload) (error_text (fields_of payload) payload) (error_marks (fields_of payload) payload) out;
      well_formed_prefix = stretch_is_longest;
    }

pub position_words : PositionWords
unfolding position_of joined
position_words =
    record {
      no_slash = λ text e. rw e;
      bad_high = λ text i e h. rw (e, h);
      bad_low = λ text i high e h l. rw (e, h, l);
      parsed = λ text i high low e h l. rw (e, h, l);
      displayed = λ position out. writes 0 (display_of position) out;
    }
