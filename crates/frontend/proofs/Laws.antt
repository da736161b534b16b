-- Laws of the definitions in specs/: the pieces of a message as the code writes them, a header, a status update's body, texts with their zero bytes.
use mathlib.Core.Path.{◌≡◌, refl, ap, ◌∙◌}
use mathlib.Core.List.{List, [], ◌∷◌, ◌++◌, append_assoc}
use mathlib.Core.Bool.{Bool, true, false}
use Prim.Native.Nat.{ℕ, suc, ◌+◌, ◌%◌, ◌≤◌, ◌<◌}
use native.Mathlib.Numerals.{add-one}
use native.Mathlib.Omega.{arith}
use lib.ListN.{length, drop, length-append, drop_of_length-le}
use lib.Seq.{drop-cons}
use lib.IntN.{ℤ}
use denote.Ref.{Bor}
use Rattle.wire.specs.Bytes.{be_bytes, placed, flag_word}
use Rattle.wire.specs.Int.{int_bytes}
use Rattle.wire.proofs.Laws.{length_be_bytes}
use Rattle.wire.proofs.FieldLaws.{be_bytes_one}
use Rattle.wire.proofs.Pieces.{Filling, filling_start, filling_next}
use Rattle.error.specs.Inputs.{total, no_name, name_at}
use Rattle.frames.specs.Message.{framed}
use Rattle.frontend.specs.Frontend.{query, status_body, pairs, startup}
use Rattle.frontend.specs.Code.{header, strings}

-- ---- headers

pub header_pieces : (tag n : ℕ) → tag < 256 → header tag n ≡ be_bytes 1 tag ++ be_bytes 4 (n + 4)
unfolding header
header_pieces tag n h = rw (be_bytes_one tag h)

pub length_header : (tag n : ℕ) → length (header tag n) ≡ 5
unfolding header
length_header tag n = ap suc (length_be_bytes 4 (n + 4))

pub framed_header : (tag : ℕ) (payload : List ℕ) → framed tag payload ≡ header tag (length payload) ++ payload
unfolding framed header
framed_header tag payload = refl

pub length_framed : (tag : ℕ) (payload : List ℕ) → length (framed tag payload) ≡ length payload + 5
length_framed tag payload =
    rw (framed_header tag payload) (length-append (header tag (length payload)) payload ∙ omega (arith, length_header tag (length payload)))

pub query_pieces : (text : List ℕ) → query text ≡ header 81 (length text + 1) ++ (text ++ be_bytes 1 0)
unfolding query be_bytes
query_pieces text = framed_header 81 (text ++ (0 ∷ [])) ∙ rw (length-append text (0 ∷ []))

pub length_query : (text : List ℕ) → length (query text) ≡ length text + 6
unfolding query
length_query text = length_framed 81 (text ++ (0 ∷ [])) ∙ omega (arith, length-append text (0 ∷ []))

-- ---- status updates

pub status_pieces : (p : ℕ) (t : ℤ) (r : Bool)
    → status_body p t r ≡ be_bytes 1 114 ++ (be_bytes 8 p ++ (be_bytes 8 p ++ (be_bytes 8 p ++ (int_bytes 8 t ++ be_bytes 1 (flag_word r)))))
unfolding status_body be_bytes
status_pieces p t true = refl
status_pieces p t false = refl

pub length_status : (p : ℕ) (t : ℤ) (r : Bool) → length (status_body p t r) ≡ 34
unfolding status_body
length_status p t r = simp (length-append, length_be_bytes)

-- ---- texts with a zero byte after each

pub strings_next : (texts : List (Bor (List ℕ))) (i : ℕ) → i < length texts → strings (drop i texts) ≡ name_at texts i ++ (be_bytes 1 0 ++ strings (drop (i + 1) texts))
unfolding strings be_bytes
strings_next texts i h = rw (add-one, drop-cons texts i no_name h)

pub strings_end : (texts : List (Bor (List ℕ))) (i : ℕ) → length texts ≤ i → strings (drop i texts) ≡ []
unfolding strings
strings_end texts i h = rw (drop_of_length-le texts h)

pub length_strings : (texts : List (Bor (List ℕ))) → length (strings texts) ≡ total texts + length texts
unfolding strings total
length_strings [] = refl
length_strings (t ∷ ts) = length-append t.now (0 ∷ strings ts) ∙ omega (arith, length_strings ts)

pub pairs_pieces : (texts : List (Bor (List ℕ))) → pairs texts ≡ strings texts ++ be_bytes (length texts % 2 + 1) 0
unfolding pairs strings be_bytes
pairs_pieces [] = refl
pairs_pieces (name ∷ []) = simp append_assoc
pairs_pieces (name ∷ value ∷ rest) =
    let e : suc (suc (length rest)) % 2 ≡ length rest % 2 = omega arith in
    rw (e, pairs_pieces rest) (simp append_assoc)

-- ---- startup messages

-- the bytes of a startup message
abbrev pub startup_length : List (Bor (List ℕ)) → ℕ
startup_length texts = total texts + length texts + length texts % 2 + 9

startup_body : (version : ℤ) (texts : List (Bor (List ℕ))) → length (int_bytes 4 version ++ pairs texts) + 4 ≡ startup_length texts
startup_body version texts = simp (length-append, length_be_bytes, pairs_pieces texts, length_strings) (omega arith)

pub startup_pieces : (version : ℤ) (texts : List (Bor (List ℕ)))
    → startup version texts ≡ be_bytes 4 (startup_length texts) ++ (int_bytes 4 version ++ (strings texts ++ be_bytes (length texts % 2 + 1) 0))
unfolding startup
startup_pieces version texts = rw (startup_body version texts, pairs_pieces texts)

pub length_startup : (version : ℤ) (texts : List (Bor (List ℕ))) → length (startup version texts) ≡ startup_length texts
unfolding startup
length_startup version texts =
    let b : List ℕ = int_bytes 4 version ++ pairs texts in
    length-append (be_bytes 4 (length b + 4)) b ∙ omega (arith, length_be_bytes 4 (length b + 4), startup_body version texts)

-- its length field and its version, written
pub startup_front : (version : ℤ) (texts : List (Bor (List ℕ))) (out : List ℕ) {e f : List ℕ} {r q : ℕ} → 0 + length (startup version texts) ≤ length out
    → (r, e) ≡ placed out 0 (be_bytes 4 (startup_length texts)) → (q, f) ≡ placed e r (int_bytes 4 version)
    → Filling out 0 (startup version texts) f q (strings texts ++ be_bytes (length texts % 2 + 1) 0)
startup_front version texts out h p q =
    filling_next h (int_bytes 4 version) (filling_next h (be_bytes 4 (startup_length texts)) (filling_start (startup_pieces version texts)) p) q
