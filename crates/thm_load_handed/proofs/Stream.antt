-- A generated stream is cut into its messages, and each gives its event.
use mathlib.Core.Path.{◌≡◌, refl, sym, ap, ◌∙◌}
use mathlib.Core.Bool.{Bool, true, false}
use mathlib.Core.List.{List, [], ◌∷◌, ◌++◌, append-nil}
use mathlib.Core.Option.{none}
use Prim.Native.Nat.{ℕ, ◌+◌, ◌≤◌, ◌<◌, ◌^◌}
use native.Mathlib.Omega.{arith}
use lib.ListN.{length, replicate, length-append, length-replicate}
use lib.IntN.{pos}
use lib.Signed.{mag}
use Rattle.wire.specs.Bytes.{pick}
use Rattle.wire.proofs.Laws.{length_be_bytes}
use Rattle.frames.specs.Cut.{Item, message, header, Cut, cut_of}
use Rattle.frames.specs.Frame.{Laid, all, one}
use Rattle.frames.proofs.Frame.{laid_is_cut}
use Rattle.replication.specs.CopyData.{copy_data_of, xlog_data, keep_alive}
use Rattle.replication.specs.CopyData as C
use Rattle.replication.proofs.LayoutXLogData.{xlog_data_is_read}
use Rattle.replication.proofs.LayoutKeepAlive.{keep_alive_is_read}
use Rattle.pgoutput.specs.Boundary.{boundary_of, begin_bytes, commit_bytes}
use Rattle.pgoutput.specs.Boundary as B
use Rattle.pgoutput.proofs.LayoutBegin.{begin_is_read}
use Rattle.pgoutput.proofs.LayoutCommit.{commit_is_read}
use Rattle.worker.specs.declared.State.TheVariants.{Offering}
use Rattle.thm_any_calls.specs.Happened.{Happened}
use Rattle.thm_any_calls.specs.Plain.{Gives, gives, data_gives, message_gives, whole_ones, given}
use Rattle.thm_any_calls.specs.Trace.{Trace, Writing, nothing, status}
use Rattle.thm_any_calls.specs.Table.{writes, boundary_response, handling_response}
use Rattle.load.specs.declared.Message.{Message}
use Rattle.load.specs.declared.Message.TheVariants.{KeepAlive, Begin, Data, Commit}
use Rattle.load.specs.Load.{bit, payload_of, bytes_of, all_bytes, messages_of, stream_of}
use Rattle.thm_load_handed.specs.LoadHanded.{event_of, events_of, list_of}
use Rattle.thm_load_handed.proofs.Drawn.{Fits, AllFit, all_fit}

-- ---- what one message gives

zero_fits : mag (pos 0) < 2 ^ 63
zero_fits = omega arith

keep_alive_read : (end : ℕ) (reply : Bool) → end < 2 ^ 64 → copy_data_of (keep_alive end (pos 0) (bit reply)) ≡ C.k end (pos 0) reply
keep_alive_read end true f =
    ap copy_data_of (sym (append-nil (keep_alive end (pos 0) 1))) ∙ keep_alive_is_read end (pos 0) 1 [] f zero_fits (omega arith)
keep_alive_read end false f =
    ap copy_data_of (sym (append-nil (keep_alive end (pos 0) 0))) ∙ keep_alive_is_read end (pos 0) 0 [] f zero_fits (omega arith)

-- data of a `w`
data_given : (start end : ℕ) (d : List ℕ) (b : B.Said) → start < 2 ^ 64 → end < 2 ^ 64 → boundary_of d ≡ b
    → message_gives none 100 (xlog_data start end (pos 0) d) ≡ data_gives none start end (pos 0) d b
data_given start end d b f g e =
    let r = xlog_data_is_read start end (pos 0) d f g zero_fits in
    rw r.0 (rw (r.1, e) refl)

pub event_given : (m : Message) → Fits m → message_gives none 100 (payload_of m) ≡ gives (event_of m ∷ []) false
unfolding payload_of boundary_of
event_given (KeepAlive end reply) f = rw (keep_alive_read end reply f) refl
event_given (Begin start end final xid) f =
    let d : List ℕ = begin_bytes final (pos 0) xid in
    data_given start end d (B.begin final (pos 0) xid) f.0 f.1
    (ap boundary_of (sym (append-nil d)) ∙ begin_is_read final (pos 0) xid [] f.2 zero_fits f.3)
event_given (Data start end letters) f = data_given start end (73 ∷ replicate letters 65) B.no_boundary f.0 f.1 refl
event_given (Commit start end position commit_end) f =
    let d : List ℕ = commit_bytes 0 position commit_end (pos 0) in
    data_given start end d (B.commit position commit_end (pos 0)) f.0 f.1
    (ap boundary_of (sym (append-nil d)) ∙ commit_is_read 0 position commit_end (pos 0) [] (omega arith) f.2 f.3 zero_fits)

-- ---- how long a message is

length_xlog : (start end : ℕ) (d : List ℕ) → length (xlog_data start end (pos 0) d) ≡ 25 + length d
unfolding xlog_data
length_xlog start end d = simp (length-append, length_be_bytes) (omega arith)

pub payload_short : (m : Message) → Fits m → length (payload_of m) ≤ 89
unfolding payload_of keep_alive begin_bytes commit_bytes
payload_short (KeepAlive end reply) f = simp (length-append, length_be_bytes) (omega arith)
payload_short (Begin start end final xid) f =
    rw (length_xlog start end (begin_bytes final (pos 0) xid)) (simp (length-append, length_be_bytes) (omega arith))
payload_short (Data start end letters) f =
    rw (length_xlog start end (73 ∷ replicate letters 65)) (omega (arith, length-replicate {0} {A = ℕ} letters 65, f.2))
payload_short (Commit start end position commit_end) f =
    rw (length_xlog start end (commit_bytes 0 position commit_end (pos 0))) (simp (length-append, length_be_bytes) (omega arith))

-- ---- the stream

unfoldable pub items_of : List Message → List Item
items_of [] = []
items_of (m ∷ ms) = message 100 (payload_of m) ∷ items_of ms

laid : (limit : ℕ) → 100 ≤ limit → (ms : List Message) → AllFit ms → Laid limit (all_bytes ms) (items_of ms) []
unfolding all_bytes bytes_of items_of
laid limit h [] f = all
laid limit h (m ∷ ms) f =
    let l : length (payload_of m) ≤ 89 = payload_short m f.0 in
    one 100 (payload_of m) (omega arith) (omega arith) (laid limit h ms f.1)

pub stream_cut : (limit : ℕ) → 100 ≤ limit → (ms : List Message) → AllFit ms
    → cut_of limit (all_bytes ms) ≡ record { items = items_of ms; rest = []; ending = header }
stream_cut limit h ms f = laid_is_cut limit (all_bytes ms) (items_of ms) [] header (laid limit h ms f) (omega arith)

one_more : (g : Gives) (e : Happened) (es fs : List Happened) → g ≡ gives (e ∷ []) false → es ≡ fs → g.events ++ pick g.ends [] es ≡ e ∷ fs
one_more g e es fs p q = rw (p, q) refl

given_each : (ms : List Message) → AllFit ms → given none (whole_ones (items_of ms)) ≡ events_of ms
unfolding given whole_ones events_of items_of
given_each [] f = refl
given_each (m ∷ ms) f =
    one_more (message_gives none 100 (payload_of m)) (event_of m) (given none (whole_ones (items_of ms))) (events_of ms) (event_given m f.0)
    (given_each ms f.1)

pub stream_given : (limit n seed : ℕ) → 100 ≤ limit → seed < 2 ^ 64 → given none (whole_ones (cut_of limit (stream_of n seed)).items) ≡ list_of n seed
stream_given limit n seed h k =
    let f = all_fit n seed k in
    ap (λ (c : Cut). given none (whole_ones c.items)) (stream_cut limit h (messages_of n seed) f) ∙ given_each (messages_of n seed) f

-- ---- what a step makes of a message that is to be handled

-- its event is offered, after a status where a reply is asked for
pub record Handled (h : Trace) (m : Message) : Type 0 where
  pub writing : Writing
  pub offers : handling_response h (100, payload_of m) ≡ writes writing Offering

data_handled : (start end : ℕ) (d : List ℕ) (b : B.Said) → start < 2 ^ 64 → end < 2 ^ 64 → boundary_of d ≡ b
    → (h : Trace) → handling_response h (100, xlog_data start end (pos 0) d) ≡ boundary_response b
data_handled start end d b f g e h =
    let r = xlog_data_is_read start end (pos 0) d f g zero_fits in
    rw r.0 (rw (r.1, e) refl)

pub handled : (h : Trace) (m : Message) → Fits m → Handled h m
unfolding payload_of boundary_of
handled h (KeepAlive end reply) f = record { writing = pick reply (status true) nothing; offers = rw (keep_alive_read end reply f) refl }
handled h (Begin start end final xid) f =
    let d : List ℕ = begin_bytes final (pos 0) xid in
    record {
      writing = nothing;
      offers = data_handled start end d (B.begin final (pos 0) xid) f.0 f.1
          (ap boundary_of (sym (append-nil d)) ∙ begin_is_read final (pos 0) xid [] f.2 zero_fits f.3) h;
    }
handled h (Data start end letters) f =
    record { writing = nothing; offers = data_handled start end (73 ∷ replicate letters 65) B.no_boundary f.0 f.1 refl h }
handled h (Commit start end position commit_end) f =
    let d : List ℕ = commit_bytes 0 position commit_end (pos 0) in
    record {
      writing = nothing;
      offers = data_handled start end d (B.commit position commit_end (pos 0)) f.0 f.1
          (ap boundary_of (sym (append-nil d)) ∙ commit_is_read 0 position commit_end (pos 0) [] (omega arith) f.2 f.3 zero_fits) h;
    }
