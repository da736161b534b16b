-- What the writers write, as a server reads it.
use mathlib.Core.Path.{◌≡◌, refl, sym, ap, ◌∙◌}
use mathlib.Core.Bool.{Bool, true, false}
use mathlib.Core.List.{List, [], ◌∷◌, ◌++◌, append_assoc, append-nil}
use mathlib.Core.Option.{some}
use Prim.Native.Nat.{ℕ, ◌+◌, ◌-◌, ◌%◌, ◌^◌, ◌<◌}
use native.Mathlib.Nat.{mod-eq_of_lt}
use native.Mathlib.Omega.{arith}
use lib.ListN.{length, drop, length-append, length-drop}
use lib.Seq.{take_at, drop_at, drop-drop}
use lib.IntN.{ℤ}
use lib.Signed.{mag}
use borrow.Author.Tests.{le-ltb, lt-leb}
use Rattle.wire.specs.Bytes.{at, be, be_bytes, flag_word}
use Rattle.wire.specs.Field.{field_at}
use Rattle.wire.specs.Int.{half, int, value, int_bytes}
use Rattle.wire.proofs.Laws.{length_be_bytes}
use Rattle.wire.proofs.AllValues.{be_modulo}
use Rattle.wire.proofs.FieldLaws.{be_bytes_one, field_read, field_whole, signed_unsigned, unsigned_below}
use Rattle.frames.specs.Message.{framed}
use Rattle.frontend.specs.Frontend.{query, copy_data, copy_done_message, terminate, status_body, status_update}
use Rattle.frontend.specs.ReadBack.{message_read, reply_of, body_of, status_of, confirming, query_of, CopyDataReadBack, CopyDoneReadBack, TerminateReadBack, QueryReadBack, QueryCutAtZero, BodyReadBack, StatusReadBack, StatusReadBackModulo, StartupReadBack}
use Rattle.frontend.proofs.Laws.{length_framed, length_status, status_pieces}
use Rattle.frontend.proofs.StartupBack.{string_back, startup_back}

-- ---- a framed message

framed_read : (tag : ℕ) (payload rest : List ℕ) → tag < 256 → length payload + 4 < half 4
    → message_read (framed tag payload ++ rest) ≡ some (record { tag = tag; payload = payload; rest = rest })
unfolding message_read framed
framed_read tag payload rest b h =
    let n : ℕ = length payload + 4 in
    let s : List ℕ = framed tag payload ++ rest in
    let l : length s ≡ length payload + 5 + length rest = length-append (framed tag payload) rest ∙ omega (arith, length_framed tag payload) in
    let w : s ≡ be_bytes 1 tag ++ (be_bytes 4 n ++ (payload ++ rest)) = rw (be_bytes_one tag b) (ap (λ (x : List ℕ). tag ∷ x) (append_assoc (be_bytes 4 n) payload rest)) in
    let t = field_read 1 s 0 tag (be_bytes 4 n ++ (payload ++ rest)) (omega arith) (omega arith) w in
    let f = field_read 4 s 1 n (payload ++ rest) (omega arith) (omega arith) t.1 in
    let m : n - 4 ≡ length payload = omega arith in
    let p : at s 5 (length payload) ≡ payload = rw f.1 (take_at payload rest (length payload) refl) in
    let r : drop (1 + n) s ≡ rest =
    (let e : 1 + n ≡ 5 + length payload = omega arith in rw (e, ← drop-drop (length payload) 5 s, f.1) (drop_at payload rest (length payload) refl)) in
    rw (t.0, f.0) (simp (lt-leb (half 4) n h, le-ltb n 4 (omega arith), le-ltb (length s) (1 + n) (omega arith)) (rw (m, p, r)))

pub copy_data_read_back : CopyDataReadBack
unfolding copy_data
copy_data_read_back payload rest h = framed_read 100 payload rest (omega arith) h

pub copy_done_read_back : CopyDoneReadBack
unfolding copy_done_message
copy_done_read_back rest = framed_read 99 [] rest (omega arith) (omega arith)

pub terminate_read_back : TerminateReadBack
unfolding terminate
terminate_read_back rest = framed_read 88 [] rest (omega arith) (omega arith)

-- ---- queries

pub query_read_back : QueryReadBack
unfolding query_of query
query_read_back text rest n h =
    let l : length (text ++ (0 ∷ [])) + 4 < half 4 = omega (arith, length-append text (0 ∷ [])) in
    rw (framed_read 81 (text ++ (0 ∷ [])) rest (omega arith) l, string_back text [] n)

pub query_cut_at_zero : QueryCutAtZero
unfolding query_of query
query_cut_at_zero seen hidden rest n h =
    let t : List ℕ = seen ++ (0 ∷ hidden) in
    let l : length (t ++ (0 ∷ [])) + 4 < half 4 = omega (arith, length-append t (0 ∷ [])) in
    rw (framed_read 81 (t ++ (0 ∷ [])) rest (omega arith) l, append_assoc seen (0 ∷ hidden) (0 ∷ []), string_back seen (hidden ++ (0 ∷ [])) n)

-- ---- status updates

field_modulo : (n : ℕ) (s : List ℕ) (i v : ℕ) (rest : List ℕ) → 0 < n → drop i s ≡ be_bytes n v ++ rest → (field_at n s i ≡ some (v % 256 ^ n)) × (drop (i + n) s ≡ rest)
field_modulo n s i v rest h e =
    let l : length s - i ≡ n + length rest = sym (length-drop i s) ∙ ap length e ∙ simp (length-append, length_be_bytes) in
    let b : be (at s i n) ≡ v % 256 ^ n = rw (e, take_at (be_bytes n v) rest n (length_be_bytes n v)) (be_modulo n v) in
    (field_whole n s i (omega arith) ∙ ap some b, sym (drop-drop n i s) ∙ rw (e, drop_at (be_bytes n v) rest n (length_be_bytes n v)))

reply_back : (reply : Bool) → reply_of (flag_word reply % 256 ^ 1) ≡ some reply
reply_back true = refl
reply_back false = refl

body_modulo : (p : ℕ) (t : ℤ) (r : Bool) → body_of (status_body p t r) ≡ some (confirming (p % 2 ^ 64) (int 8 (value 8 t % 2 ^ 64)) r)
unfolding body_of
body_modulo p t r =
    let b : List ℕ = status_body p t r in
    let end : List ℕ = be_bytes 1 (flag_word r) in
    let time : List ℕ = int_bytes 8 t ++ end in
    let one : List ℕ = be_bytes 8 p ++ time in
    let two : List ℕ = be_bytes 8 p ++ one in
    let three : List ℕ = be_bytes 8 p ++ two in
    let a = field_modulo 1 b 0 114 three (omega arith) (status_pieces p t r) in
    let w = field_modulo 8 b 1 p two (omega arith) a.1 in
    let f = field_modulo 8 b 9 p one (omega arith) w.1 in
    let g = field_modulo 8 b 17 p time (omega arith) f.1 in
    let c = field_modulo 8 b 25 (value 8 t) end (omega arith) g.1 in
    let q = field_modulo 1 b 33 (flag_word r) [] (omega arith) (c.1 ∙ sym (append-nil end)) in
    rw (length_status p t r, a.0, w.0, f.0, g.0, c.0, q.0, reply_back r)

body_fits : (p : ℕ) (t : ℤ) (r : Bool) → p < 2 ^ 64 → mag t < half 8 → confirming (p % 2 ^ 64) (int 8 (value 8 t % 2 ^ 64)) r ≡ confirming p t r
body_fits p t r h k =
    let v : value 8 t % 2 ^ 64 ≡ value 8 t = mod-eq_of_lt (unsigned_below (half 8) t k) in
    rw (mod-eq_of_lt h, v, signed_unsigned (half 8) t k)

pub body_read_back : BodyReadBack
body_read_back p t r h k = body_modulo p t r ∙ ap some (body_fits p t r h k)

pub status_read_back_modulo : StatusReadBackModulo
unfolding status_of status_update copy_data
status_read_back_modulo p t r rest =
    let l : length (status_body p t r) + 4 < half 4 = omega (arith, length_status p t r) in
    rw (framed_read 100 (status_body p t r) rest (omega arith) l) (body_modulo p t r)

pub status_read_back : StatusReadBack
status_read_back p t r rest h k = status_read_back_modulo p t r rest ∙ ap some (body_fits p t r h k)

-- ---- startup messages

pub startup_read_back : StartupReadBack
startup_read_back version texts rest h s k = startup_back version texts rest h s k
