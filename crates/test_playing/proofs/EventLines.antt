-- Each event's line in full.
use mathlib.Core.Path.{◌≡◌, refl, sym, ap, ◌∙◌}
use mathlib.Core.Bool.{Bool, true, false}
use mathlib.Core.List.{List, [], ◌∷◌, ◌++◌, append-nil, append_assoc}
use Prim.Native.Nat.{ℕ, ◌+◌, ◌≤◌, ◌<◌}
use lib.ListN.{length}
use lib.IntN.{ℤ}
use borrow.Author.Tests.{le-leb, lt-leb}
use Rattle.wire.specs.Bytes.{pick, at}
use Rattle.error.specs.Writer.{counted}
use Rattle.text.specs.Numeral.{decimal_text, signed_text, hex_bytes}
use Rattle.lossy.specs.Lossy.{lossy_of}
use Rattle.lsn.specs.declared.Lsn.{Lsn}
use Rattle.lsn.specs.Position.{display_of}
use Rattle.test_lines.specs.Line.{field, bytes_texts, outside_texts, spanned_texts, flagged_texts}
use Rattle.test_lines.proofs.Laws.{part_none, part_some}
use Rattle.test_playing.specs.Spelling.{part_by, prefix_by, length_texts, lossy_length}
use Rattle.test_playing.specs.EventLines.{joined, then, outside, PartText, PrefixText, digit, EventLines}

joined_append : (ts us : List (List ℕ)) → joined (ts ++ us) ≡ joined ts ++ joined us
unfolding joined
joined_append [] us = refl
joined_append (t ∷ ts) us = ap (λ (x : List ℕ). t ++ x) (joined_append ts us) ∙ sym (append_assoc t (joined ts) (joined us))

-- a field is a space and its text
joined_field : (t : List ℕ) → joined (field t) ≡ then t
unfolding joined
joined_field t = ap then (append-nil t)

joined_outside : joined outside_texts ≡ then outside
unfolding joined
joined_outside = refl

length_in : (p : List ℕ) (from len n : ℕ) → from + len ≤ length p → joined (length_texts p from len n) ≡ then (decimal_text n)
length_in p from len n h = ap (λ (x : Bool). joined (pick x (field (decimal_text n)) outside_texts)) (le-leb _ _ h) ∙ joined_field (decimal_text n)

length_beyond : (p : List ℕ) (from len n : ℕ) → length p < from + len → joined (length_texts p from len n) ≡ then outside
length_beyond p from len n h = ap (λ (x : Bool). joined (pick x (field (decimal_text n)) outside_texts)) (lt-leb _ _ h) ∙ joined_outside

-- a part
part_is : (b : Bool) (p : List ℕ) (from len : ℕ) (t : List ℕ) → PartText p from len b t → joined (part_by b p from len) ≡ then t
unfolding joined
part_is true p from len t (PartText.brief h) = length_in p from len len h
part_is false p from len t (PartText.bytes c s h e) =
    ap joined (part_some p from len h ∙ ap bytes_texts e) ∙ joined_field (hex_bytes (c ∷ s))
part_is false p from len t (PartText.none h e) = ap joined (part_some p from len h ∙ ap bytes_texts e)
part_is true p from len t (PartText.beyond b h) = length_beyond p from len len h
part_is false p from len t (PartText.beyond b h) = ap joined (part_none p from len h) ∙ joined_outside

-- the length of a lossy text that 64 bits have
lossy_length_lem : (p : List ℕ) (from len : ℕ) → from + len ≤ length p → length (lossy_of (at p from len)) ≤ 18446744073709551615
    → lossy_length p from len ≡ length (lossy_of (at p from len))
unfolding lossy_length counted
lossy_length_lem p from len h k = simp (le-leb _ _ h, le-leb _ _ k)

-- a prefix
prefix_is : (b : Bool) (p : List ℕ) (from len : ℕ) (t : List ℕ) → PrefixText p from len b t → joined (prefix_by b p from len) ≡ then t
prefix_is true p from len t (PrefixText.brief h k) =
    length_in p from len (lossy_length p from len) h ∙ ap (λ (n : ℕ). then (decimal_text n)) (lossy_length_lem p from len h k)
prefix_is false p from len t (PrefixText.else u h) = part_is false p from len u h
prefix_is true p from len t (PrefixText.beyond h) = length_beyond p from len (lossy_length p from len) h

digit_is : (b : Bool) → pick b 49 48 ≡ digit b
digit_is true = refl
digit_is false = refl

spanned_then : (letter : ℕ) (p q : Lsn) (time : ℤ) (us : List (List ℕ))
    → joined (spanned_texts letter p q time ++ us) ≡ letter ∷ then (display_of p.0 ++ then (display_of q.0 ++ then (signed_text time ++ joined us)))
unfolding joined
spanned_then letter p q time us = refl

flagged_then : (on : Bool) (p : Lsn) (us : List (List ℕ)) → joined (flagged_texts on p ++ us) ≡ 77 ∷ then (digit on ∷ then (display_of p.0 ++ joined us))
unfolding joined
flagged_then on p us = ap (λ (x : ℕ). 77 ∷ then (x ∷ then (display_of p.0 ++ joined us))) (digit_is on)

pub event_lines : EventLines
unfolding joined
event_lines = record {
  nothing = λ b p. refl;
  keepalive = λ b p end time reply. ap (λ (x : ℕ). 75 ∷ then (display_of end.0 ++ then (signed_text time ++ then (x ∷ [])))) (digit_is reply);
  begin = λ b p final time xid. ap (λ (x : List ℕ). 66 ∷ then (display_of final.0 ++ then (signed_text time ++ then x))) (append-nil (decimal_text xid));
  commit = λ b p position end time.
      ap (λ (x : List ℕ). 67 ∷ then (display_of position.0 ++ then (display_of end.0 ++ then x))) (append-nil (signed_text time));
  xlog_data = λ b p t start end time from len h.
      spanned_then 88 start end time (part_by b p from len)
      ∙ ap (λ (x : List ℕ). 88 ∷ then (display_of start.0 ++ then (display_of end.0 ++ then (signed_text time ++ x)))) (part_is b p from len t h);
  message = λ b flag p t u position pf pl cf cl h k.
      flagged_then flag position (prefix_by b p pf pl ++ part_by b p cf cl)
      ∙ ap (λ (x : List ℕ). 77 ∷ then (digit flag ∷ then (display_of position.0 ++ x)))
      (joined_append (prefix_by b p pf pl) (part_by b p cf cl)
      ∙ (ap (λ (x : List ℕ). x ++ joined (part_by b p cf cl)) (prefix_is b p pf pl t h) ∙ ap (λ (x : List ℕ). then t ++ x) (part_is b p cf cl u k)));
  stopped = λ b p reached. ap (λ (x : List ℕ). 83 ∷ then x) (append-nil (display_of reached.0));
  last = λ n. refl;
  last_outside = refl;
}
