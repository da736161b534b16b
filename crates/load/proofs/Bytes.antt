-- Bytes place by place, the stream that is laid out of them, and what a call answers.
use mathlib.Core.Path.{◌≡◌, refl, sym, ap, ◌∙◌, subst}
use mathlib.Core.Bool.{Bool, true, false}
use mathlib.Core.List.{List, [], ◌∷◌, ◌++◌}
use Prim.Native.Nat.{ℕ, ◌+◌, ◌^◌, ◌≤◌, ◌<◌}
use native.Mathlib.Nat.{div-div-eq-div-mul}
use native.Mathlib.Omega.{arith}
use lib.Dec.{eqb, ltb}
use lib.ListN.{length, take, drop, replicate, length-append, take-append-drop}
use lib.Seq.{length-take-le, drop-append_seam}
use borrow.Author.Tests.{eqb-true, eqb-false, eq-eqb, ne_eqb, ltb-true, ltb-false, lt-ltb, le-ltb}
use Rattle.wire.specs.Bytes.{pick, put, be, be_bytes}
use Rattle.wire.specs.Field.{unsigned}
use Rattle.error.specs.Writer.{writing}
use Rattle.replication.specs.CopyData.{keep_alive}
use Rattle.pgoutput.specs.Boundary.{begin_bytes, commit_bytes}
use Rattle.load.specs.declared.Message.{Message}
use Rattle.load.specs.declared.Message.TheVariants.{KeepAlive, Begin, Data, Commit}
use Rattle.load.specs.Code.{header, xlog_head}
use Rattle.load.specs.Load.{bytes_of, messages_of, all_bytes, stream_of, loading}
use Rattle.load.specs.Draws.{eight, four, no_time, FieldsAreSpelled, Laid, keepalive_laid, request_laid, begin_laid, data_laid, commit_laid}
use Rattle.load.specs.Draws.{BytesAreLaid, InBytes, no_message, a_message, StreamFrom, StreamIsCut}
use Rattle.load.specs.Draws.{Answered, seed_zero, output_too_short, written, LoadIsAnswered}
use Rattle.wire.proofs.FieldLaws.{be_be_bytes}
use Rattle.load.proofs.Laws.{keep_alive_whole, begin_whole, data_whole, commit_whole}
use Rattle.load.proofs.Draws.{messages_are_cut}

-- ---- fields

eight_bytes : (v : ℕ) → be_bytes 8 v ≡ eight v
unfolding be_bytes
eight_bytes v = simp div-div-eq-div-mul

four_bytes : (v : ℕ) → be_bytes 4 v ≡ four v
unfolding be_bytes
four_bytes v = simp div-div-eq-div-mul

pub fields_are_spelled : FieldsAreSpelled
fields_are_spelled v = (
  λ h. ap be (sym (eight_bytes v)) ∙ be_be_bytes 8 v h,
  λ h. ap be (sym (four_bytes v)) ∙ be_be_bytes 4 v h,
)

-- ---- messages

module _ (end : ℕ) where
  keepalive_bytes : (reply : Bool)
      → bytes_of (KeepAlive end reply) ≡ 100 ∷ (four 22 ++ (107 ∷ (eight end ++ (no_time ++ (pick reply 1 0 ∷ [])))))
  unfolding header keep_alive unsigned
  keepalive_bytes true = keep_alive_whole end true ∙ simp (four_bytes, eight_bytes)
  keepalive_bytes false = keep_alive_whole end false ∙ simp (four_bytes, eight_bytes)

begin_bytes_lem : (start end final xid : ℕ)
    → bytes_of (Begin start end final xid)
    ≡ 100 ∷ (four 50 ++ (119 ∷ (eight start ++ (eight end ++ (no_time ++ (66 ∷ (eight final ++ (no_time ++ four xid))))))))
unfolding header xlog_head begin_bytes unsigned
begin_bytes_lem start end final xid = begin_whole start end final xid ∙ simp (four_bytes, eight_bytes)

data_bytes : (start end n : ℕ)
    → bytes_of (Data start end n) ≡ 100 ∷ (four (30 + n) ++ (119 ∷ (eight start ++ (eight end ++ (no_time ++ (73 ∷ replicate n 65))))))
unfolding header xlog_head unsigned
data_bytes start end n =
    let e : (n + 26) + 4 ≡ 30 + n = omega arith in
    data_whole start end n ∙ simp (e, four_bytes, eight_bytes)

commit_bytes_lem : (start end position commit_end : ℕ)
    → bytes_of (Commit start end position commit_end)
    ≡ 100 ∷ (four 55 ++ (119 ∷ (eight start ++ (eight end ++ (no_time ++ (67 ∷ 0 ∷ (eight position ++ (eight commit_end ++ no_time))))))))
unfolding header xlog_head commit_bytes unsigned
commit_bytes_lem start end position commit_end = commit_whole start end position commit_end ∙ simp (four_bytes, eight_bytes)

laid : (m : Message) → Laid m (bytes_of m)
laid (KeepAlive end true) = subst (Laid (KeepAlive end true)) (sym (keepalive_bytes end true)) (request_laid end)
laid (KeepAlive end false) = subst (Laid (KeepAlive end false)) (sym (keepalive_bytes end false)) (keepalive_laid end)
laid (Begin start end final xid) = subst (Laid (Begin start end final xid)) (sym (begin_bytes_lem start end final xid)) (begin_laid start end final xid)
laid (Data start end n) = subst (Laid (Data start end n)) (sym (data_bytes start end n)) (data_laid start end n)
laid (Commit start end position commit_end) =
    subst (Laid (Commit start end position commit_end)) (sym (commit_bytes_lem start end position commit_end)) (commit_laid start end position commit_end)

bytes_of_lem : {m : Message} {bytes : List ℕ} → Laid m bytes → bytes_of m ≡ bytes
bytes_of_lem (keepalive_laid end) = keepalive_bytes end false
bytes_of_lem (request_laid end) = keepalive_bytes end true
bytes_of_lem (begin_laid start end final xid) = begin_bytes_lem start end final xid
bytes_of_lem (data_laid start end n) = data_bytes start end n
bytes_of_lem (commit_laid start end position commit_end) = commit_bytes_lem start end position commit_end

pub bytes_are_laid : BytesAreLaid
bytes_are_laid m bytes = (λ e. subst (Laid m) e (laid m), λ l. bytes_of_lem l)

-- ---- the stream

all_laid : (ms : List Message) → InBytes ms (all_bytes ms)
unfolding all_bytes
all_laid [] = no_message
all_laid (m ∷ ms) = a_message (bytes_of m) (all_bytes ms) (laid m) (all_laid ms)

laid_all : {ms : List Message} {bytes : List ℕ} → InBytes ms bytes → all_bytes ms ≡ bytes
unfolding all_bytes
laid_all no_message = refl
laid_all (a_message first rest l r) = rw (bytes_of_lem l, laid_all r) refl

pub stream_is_cut : StreamIsCut
stream_is_cut seed n bytes h = (
  λ e.
      let c = (messages_are_cut seed n (messages_of n seed) h).0 refl in
      let laid = subst (InBytes (messages_of n seed)) e (all_laid (messages_of n seed)) in
      record { messages = messages_of n seed; many = c.1; cut_so = c.0; laid_so = laid },
  λ f. ap all_bytes ((messages_are_cut seed n f.messages h).1 f.cut_so f.many) ∙ laid_all f.laid_so,
)

-- ---- answers

-- what a call answers and leaves
abbrev Left : Type 0
Left = (ℕ × ℕ) × List ℕ

module _ (seed n : ℕ) (out : List ℕ) (h : seed < 2 ^ 64) where
  abbrev Says : Left → Type 0
  Says a = Answered seed n out a.0.0 a.0.1 a.1

  abbrev stream : List ℕ
  stream = stream_of n seed

  stream_from : StreamFrom seed n stream
  stream_from = (stream_is_cut seed n stream h).0 refl

  says : Says (loading seed n out)
  unfolding loading writing put
  says = by (eqb seed 0) (ltb (length out) (length stream)) refl refl
    where
      by : (z l : Bool) → eqb seed 0 ≡ z → ltb (length out) (length stream) ≡ l
          → Says (pick z ((35, 0), out) (pick l ((4, 0), out) ((0, length stream), stream ++ drop (0 + length stream) out)))
      by true l e f = seed_zero (eqb-true seed 0 e)
      by false true e f = let g = eqb-false seed 0 e in output_too_short (omega arith) stream_from (ltb-true (length out) (length stream) f)
      by false false e f =
          let g = eqb-false seed 0 e in
          let k : length stream ≤ length out = ltb-false (length out) (length stream) f in
          let z : 0 + length stream ≡ length stream = omega arith in
          rw z (written (take (length stream) out) (drop (length stream) out) (omega arith) stream_from (sym (take-append-drop (length stream) out))
          (length-take-le (length stream) out k))

  -- the stream that is meant
  same_stream : {bytes : List ℕ} → StreamFrom seed n bytes → stream ≡ bytes
  same_stream {bytes} f = (stream_is_cut seed n bytes h).1 f

  said : {number count : ℕ} {left : List ℕ} → Answered seed n out number count left → loading seed n out ≡ ((number, count), left)
  unfolding loading writing put
  said (seed_zero e) = simp (eq-eqb seed 0 e)
  said (output_too_short s f l) =
      let e : length out < length stream = rw (← same_stream f) at l in
      simp (ne_eqb seed 0 (λ z. omega arith), lt-ltb (length out) (length stream) e)
  said (written {bytes} front rest s f e l) =
      let k : stream ≡ bytes = same_stream f in
      let a : length out ≡ length front + length rest = ap (λ (x : List ℕ). length x) e ∙ length-append front rest in
      let b : length stream ≡ length bytes = ap (λ (x : List ℕ). length x) k in
      let d : length stream ≤ length out = omega arith in
      let i : 0 + length stream ≡ length front = omega arith in
      let c : drop (0 + length stream) out ≡ rest =
      ap (λ (x : ℕ). drop x out) i ∙ ap (drop (length front)) e ∙ drop-append_seam front rest in
      simp (ne_eqb seed 0 (λ z. omega arith), le-ltb (length out) (length stream) d) (rw (c, k) refl)

pub load_is_answered : LoadIsAnswered
load_is_answered seed n out number count left h = (λ e. rw e at (says seed n out h), said seed n out h)
