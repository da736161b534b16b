-- By the run's state, as what holds after any list of calls says (claims, Preserved).
use mathlib.Core.Path.{◌≡◌, refl, sym, ap, ◌∙◌}
use mathlib.Core.Bool.{Bool, false}
use mathlib.Core.List.{List, [], ◌∷◌}
use mathlib.Core.Logic.{inl, inr}
use mathlib.Core.Option.{Option, some, none}
use Prim.Native.Nat.{ℕ, ◌+◌, ◌≤◌, ◌<◌, ◌^◌}
use native.Mathlib.Omega.{arith}
use lib.ListN.{length, take, length-append}
use lib.Seq.{take-length}
use Rattle.wire.specs.Bytes.{pick}
use Rattle.wire.proofs.Laws.{impossible}
use Rattle.frames.specs.Cut.{cut_of}
use Rattle.frames.proofs.Frame.{length_framed}
use Rattle.lsn.specs.declared.Lsn.{Lsn}
use Rattle.worker.specs.declared.Settings.{Settings}
use Rattle.worker.specs.declared.State.{State}
use Rattle.worker.specs.declared.State.TheVariants.{Opening, Turn, Drain, Reading, Waiting, Handling, Offering, Ended}
use Rattle.thm_any_calls.specs.Begins.{NoneClosed}
use Rattle.thm_any_calls.specs.Tests.{longest}
use Rattle.thm_any_calls.specs.Plain.{Msg, whole_ones, given, taken_of}
use Rattle.thm_any_calls.specs.Trace.{Setup, state_after, taken_by}
use Rattle.thm_any_calls.specs.Calls.{is_open, run_begun, Call, Played, play_all, begun, played, setup_of}
use Rattle.thm_any_calls.specs.Traced.{trace_all, trace_of}
use Rattle.thm_any_calls.proofs.Invariant.{Goings, Invariant, Short, limit, stop}
use Rattle.thm_any_calls.proofs.Preserved.{Preserved, played_preserved}
use Rattle.load.specs.declared.Message.{Message}
use Rattle.load.specs.Load.{payload_of, bytes_of, all_bytes, messages_of, stream_of}
use Rattle.thm_load_handed.specs.LoadHanded.{events_of, list_of, Undisturbed, holds_back, LoadIsHandedOn}
use Rattle.thm_load_handed.proofs.Lists.{taken_observed, none_closed}
use Rattle.thm_load_handed.proofs.Ended.{all_complete}
use Rattle.thm_load_handed.proofs.Stream.{stream_given}

-- a stream of no bytes has no messages
no_messages : (ms : List Message) → length (all_bytes ms) ≡ 0 → events_of ms ≡ []
unfolding all_bytes bytes_of events_of
no_messages [] h = refl
no_messages (m ∷ ms) h =
    let l = length-append (bytes_of m) (all_bytes ms) in
    let k : length (bytes_of m) ≡ length (payload_of m) + 5 = length_framed 100 (payload_of m) in
    absurd (omega (arith, l, k, h))

module _ (s : Settings) (start : Lsn) (seed n : ℕ) (p : List ℕ) (cs : List Call) (fits : seed < 2 ^ 64) (no_stop : s.has_stop ≡ false)
    (wide : 100 ≤ longest s.max_message_size) (u : Undisturbed cs) where
  abbrev bytes : List ℕ
  bytes = stream_of n seed

  abbrev x : Setup
  x = setup_of s (is_open start) bytes (length p)

  abbrev z : Played
  z = played s (is_open start) bytes p cs

  closed : NoneClosed z.observed
  unfolding played
  closed = none_closed bytes cs (begun (run_begun s (is_open start)) p) u tt

  held : Preserved x (trace_of x cs) z
  held = played_preserved s (is_open start) bytes p cs

  no_stop_position : stop x ≡ none
  no_stop_position = ap (λ (b : Bool). pick b (some s.stop_at_lsn.0) none) no_stop

  -- the messages of all bytes give the list
  all_given : (t : ℕ) → t ≡ length bytes → (ms : List Msg) → whole_ones (cut_of (limit x) (take t bytes)).items ≡ ms → given (stop x) ms ≡ list_of n seed
  all_given t e ms w =
      let a : take t bytes ≡ bytes = ap (λ (k : ℕ). take k bytes) e ∙ take-length bytes in
      ap (λ (o : Option ℕ). given o ms) no_stop_position
      ∙ ap (given none) (sym w ∙ ap (λ (b : List ℕ). whole_ones (cut_of (limit x) b).items) a)
      ∙ stream_given (limit x) n seed wide fits

  module _ (taken : z.taken ≡ length bytes) where
    going : Goings x z.run.reader z.payload z.taken z.observed z.events → z.events ≡ list_of n seed
    going b = (b.course closed).all ∙ all_given z.taken taken b.ms b.base.account.whole

    -- no step is accepted: there was no byte to take
    short : Short x z.payload z.observed z.events → z.events ≡ list_of n seed
    short b =
        let f = held.follows in
        let e : length bytes ≡ 0 =
        sym taken ∙ f.taken ∙ sym (taken_observed (trace_of x cs)) ∙ ap taken_of (sym f.observed) ∙ b.untaken in
        b.none ∙ sym (no_messages (messages_of n seed) e)

    -- the input ended, between two messages
    ended : z.run.state ≡ Ended → z.events ≡ list_of n seed
    unfolding played play_all trace_all state_after
    ended e =
        let f = held.follows in
        let first = played_preserved s (is_open start) bytes p [] in
        let complete = all_complete s start seed n p fits no_stop wide cs [] (begun (run_begun s (is_open start)) p) first tt (λ k. impossible (cc k)) u in
        let a : take (taken_by (trace_of x cs)) bytes ≡ bytes =
        ap (λ (k : ℕ). take k bytes) (sym f.taken ∙ taken) ∙ take-length bytes in
        f.events ∙ complete (sym f.state ∙ e)
        ∙ ap (λ (b : List ℕ). given none (whole_ones (cut_of (limit x) b).items)) a
        ∙ stream_given (limit x) n seed wide fits

    by_state : (y : State) → z.run.state ≡ y → holds_back y ≡ false → Invariant x y z → z.events ≡ list_of n seed
    by_state y e h (inl b) = short b
    by_state Opening e h (inr b) = impossible (cc b.always.0)
    by_state Turn e h (inr b) = going b
    by_state Drain e h (inr b) = going b
    by_state Reading e h (inr b) = going b
    by_state Waiting e h (inr b) = going b
    by_state Handling e h (inr b) = impossible cc
    by_state Offering e h (inr b) = impossible cc
    by_state Ended e h (inr b) = ended e

pub load_is_handed_on : LoadIsHandedOn
load_is_handed_on s start seed n p cs fits no_stop far u taken h =
    let wide : 100 ≤ longest s.max_message_size = omega arith in
    by_state s start seed n p cs fits no_stop wide u taken (played s (is_open start) (stream_of n seed) p cs).run.state refl h
    (held s start seed n p cs fits no_stop wide u).invariant
