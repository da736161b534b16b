-- Each event's line in full, said of its bytes and without the texts that programs place one after the other. SCOPE 11.4; 01, "Program `events`".
use Rattle.std.specs.Prelude.{◌≡◌, Bool, true, false, List, [], ◌∷◌, ◌++◌, ℕ, ◌+◌, ◌≤◌, ◌<◌, length, ℤ}
use Prim.Native.Char.{code}
use Rattle.wire.specs.Bytes.{at}
use Rattle.text.specs.Numeral.{decimal_text, signed_text, hex_bytes}
use Rattle.lossy.specs.Lossy.{lossy_of}
use Rattle.lsn.specs.declared.Lsn.{Lsn}
use Rattle.lsn.specs.Position.{display_of}
use Rattle.worker.specs.declared.Event.TheVariants.{Nothing, KeepAlive, Begin, Commit, Message, XLogData, StoppedAt}
use Rattle.test_playing.specs.Spelling.{event_texts, end_texts_of, end_outside}

-- texts one after the other
unfoldable pub joined : List (List ℕ) → List ℕ
joined [] = []
joined (t ∷ ts) = t ++ joined ts

-- a space and what follows it
abbrev pub then : List ℕ → List ℕ
then s = code " " ∷ s

-- the word `outside`
abbrev pub outside : List ℕ
outside = code "o" ∷ code "u" ∷ code "t" ∷ code "s" ∷ code "i" ∷ code "d" ∷ code "e" ∷ []

-- what a line has for a part of the payload: its length in brief, else its bytes in hexadecimal, a hyphen for none; `outside` where it ends behind it
pub data PartText (payload : List ℕ) (from len : ℕ) : Bool → List ℕ → Type 0 where
  brief : from + len ≤ length payload → PartText payload from len true (decimal_text len)
  bytes : (b : ℕ) (s : List ℕ) → from + len ≤ length payload → at payload from len ≡ b ∷ s → PartText payload from len false (hex_bytes (b ∷ s))
  none : from + len ≤ length payload → at payload from len ≡ [] → PartText payload from len false (code "-" ∷ [])
  beyond : (b : Bool) → length payload < from + len → PartText payload from len b outside

-- what a line has for a prefix, whose length in brief is that of its lossy text
pub data PrefixText (payload : List ℕ) (from len : ℕ) : Bool → List ℕ → Type 0 where
  brief : from + len ≤ length payload → length (lossy_of (at payload from len)) ≤ 18446744073709551615
      → PrefixText payload from len true (decimal_text (length (lossy_of (at payload from len))))
  else : (t : List ℕ) → PartText payload from len false t → PrefixText payload from len false t
  beyond : length payload < from + len → PrefixText payload from len true outside

-- the digit of a flag
abbrev pub digit : Bool → ℕ
digit true = code "1"
digit false = code "0"

pub record EventLines : Type 0 where
  pub nothing : (b : Bool) (p : List ℕ) → joined (event_texts b p Nothing) ≡ []
  pub keepalive : (b : Bool) (p : List ℕ) (end : Lsn) (time : ℤ) (reply : Bool)
      → joined (event_texts b p (KeepAlive end time reply))
      ≡ code "K" ∷ then (display_of end.0 ++ then (signed_text time ++ then (digit reply ∷ [])))
  pub begin : (b : Bool) (p : List ℕ) (final : Lsn) (time : ℤ) (xid : ℕ)
      → joined (event_texts b p (Begin final time xid)) ≡ code "B" ∷ then (display_of final.0 ++ then (signed_text time ++ then (decimal_text xid)))
  pub commit : (b : Bool) (p : List ℕ) (position end : Lsn) (time : ℤ)
      → joined (event_texts b p (Commit position end time))
      ≡ code "C" ∷ then (display_of position.0 ++ then (display_of end.0 ++ then (signed_text time)))
  pub xlog_data : (b : Bool) (p t : List ℕ) (start end : Lsn) (time : ℤ) (from len : ℕ) → PartText p from len b t
      → joined (event_texts b p (XLogData start end time from len))
      ≡ code "X" ∷ then (display_of start.0 ++ then (display_of end.0 ++ then (signed_text time ++ then t)))
  pub message : (b flag : Bool) (p t u : List ℕ) (position : Lsn) (pf pl cf cl : ℕ) → PrefixText p pf pl b t → PartText p cf cl b u
      → joined (event_texts b p (Message flag position pf pl cf cl))
      ≡ code "M" ∷ then (digit flag ∷ then (display_of position.0 ++ then (t ++ then u)))
  pub stopped : (b : Bool) (p : List ℕ) (reached : Lsn) → joined (event_texts b p (StoppedAt reached)) ≡ code "S" ∷ then (display_of reached.0)
  -- the last line, with its line feed
  pub last : (n : ℕ) → joined (end_texts_of n) ≡ code "E" ∷ code "N" ∷ code "D" ∷ then (decimal_text n ++ (10 ∷ []))
  pub last_outside : joined end_outside ≡ code "E" ∷ code "N" ∷ code "D" ∷ then (outside ++ (10 ∷ []))
