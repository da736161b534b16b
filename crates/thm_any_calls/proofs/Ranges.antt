-- Which numbers a read, a CopyData and a boundary refuse with: 6 to 18. So the table's cases refuse with none of 2 to 5. Refused takes it.
use mathlib.Core.Path.{◌≡◌, refl, sym, subst}
use mathlib.Core.Bool.{Bool, true, false}
use mathlib.Core.List.{List, [], ◌∷◌, ◌++◌}
use mathlib.Core.Option.{Option, some, none}
use Prim.Native.Nat.{ℕ, ◌+◌, ◌-◌, ◌<◌, ◌≤◌}
use native.Mathlib.Omega.{arith}
use borrow.Author.Tests.{le-ltb, lt-leb}
use lib.ListN.{length, drop}
use lib.Dec.{ltb, leb, eqb}
use Rattle.wire.specs.Bytes.{pick, at}
use Rattle.wire.specs.Field.{field_at}
use Rattle.wire.specs.Int.{is_negative, int_at}
use Rattle.wire.specs.Find.{index_of}
use Rattle.wire.proofs.Laws.{impossible}
use Rattle.frames.specs.Cut.{Item, message, Ending, header, payload, over, Cut, cut_of}
use Rattle.frames.specs.Cut.{refused as bad}
use Rattle.frames.specs.Tag.{is_error, is_copy_both_response, is_copy_data}
use Rattle.framing.specs.Read.{Said, more, whole, refused}
use Rattle.framing.specs.Feed.{first_answer}
use Rattle.pgoutput.specs.Boundary.{boundary_of, need, begin_at, commit_at, content_at, prefix_by, message_at}
use Rattle.pgoutput.specs.Boundary as B
use Rattle.replication.specs.CopyData.{copy_data_of, xlog_of, keep_alive_of}
use Rattle.replication.specs.CopyData as C
use Rattle.worker.specs.declared.Input.{Input}
use Rattle.worker.specs.declared.Queue.{Queue}
use Rattle.worker.specs.declared.Queue.TheVariants.{Free, Full, Closed}
use Rattle.worker.specs.declared.State.{State}
use Rattle.worker.specs.declared.State.TheVariants.{Opening, Turn, Drain, Reading, Waiting, Handling, Offering, Ended}
use Rattle.worker.specs.Tests.{both, unless}
use Rattle.worker.specs.Streaming.{is_copy_done}
use Rattle.worker.specs.Step.{is_ended}
use Rattle.thm_any_calls.proofs.Tests.{found, found_is}
use Rattle.thm_any_calls.specs.Happened.{Happened}
use Rattle.thm_any_calls.specs.Plain.{Msg, is_refused_early, by_queue}
use Rattle.thm_any_calls.specs.Trace.{Setup, Trace, Response, nothing, done, status, pending_of, signalled_of, drained_of, full_before}
use Rattle.thm_any_calls.specs.Table.{Found, respond, enters, writes, refuses, limit_by, is_passed, is_idle, status_if, read_response, opening_response, reading_response, idle_response, waiting_response, last_message, last_gives, back_of, boundary_response, copy_data_response, handling_response, left_of, passed_on, hands_over, drops, again_response, table_of}

-- 6 to 18
abbrev pub Between : ℕ → Type 0
Between n = (6 ≤ n) × (n < 19)

pub not_early : (n : ℕ) → Between n → is_refused_early n ≡ false
not_early n h = let a : 6 ≤ n = h.0 in simp (le-ltb n 2 (omega arith), lt-leb n 5 (omega arith))

pub never_nineteen : {X : Type 0} (n : ℕ) → Between n → n ≡ 19 → X
never_nineteen n h e = let a : n < 19 = h.1 in absurd (omega arith)

pub none_nineteen : {X : Type 0} (n : ℕ) → n ≡ 0 → n ≡ 19 → X
none_nineteen n a b = absurd (omega arith)

-- ---- a read

abbrev pub InRead : Said → Type 0
InRead more = Unit
InRead (whole tag n) = Unit
InRead (refused n) = Between n

unfinished_in : (n : ℕ) (a b : Bool) → Between n → InRead (pick a (pick b (refused n) more) more)
unfinished_in n true true h = h
unfinished_in n true false h = tt
unfinished_in n false b h = tt

pub told_in : (is : List Item) (end : Ending) (unread : ℕ) (e : Bool) → InRead (first_answer is end unread e)
told_in [] header unread e = unfinished_in 8 (eqb unread 0) e (omega arith, omega arith)
told_in [] payload unread e = unfinished_in 9 (eqb unread 0) e (omega arith, omega arith)
told_in [] over unread e = (omega arith, omega arith)
told_in (message tag p ∷ is) end unread e = tt
told_in (bad ∷ is) end unread e = (omega arith, omega arith)

-- ---- a CopyData

abbrev pub InCopy : C.Said → Type 0
InCopy (C.w start end time from len) = Unit
InCopy (C.k end time reply) = Unit
InCopy (C.refused n) = Between n

copy_either : (b : Bool) (x y : C.Said) → InCopy x → InCopy y → InCopy (pick b x y)
copy_either true x y p q = p
copy_either false x y p q = q

pub copy_in : (p : List ℕ) → InCopy (copy_data_of p)
unfolding copy_data_of
copy_in [] = (omega arith, omega arith)
copy_in (letter ∷ s) =
    copy_either (eqb letter 119) (xlog_of s) _ (copy_either (ltb (length s) 24) (C.refused 11) _ (omega arith, omega arith) tt)
    (copy_either (eqb letter 107) (keep_alive_of s) _ (copy_either (ltb (length s) 17) (C.refused 12) _ (omega arith, omega arith) tt)
    (omega arith, omega arith))

-- ---- a boundary

abbrev pub InBoundary : B.Said → Type 0
InBoundary (B.begin final time xid) = Unit
InBoundary (B.commit position end time) = Unit
InBoundary (B.message flag position pf pl cf cl) = Unit
InBoundary B.no_boundary = Unit
InBoundary (B.refused n) = Between n

need_in : {A : Type 0} (n : ℕ) (o : Option A) (go : A → B.Said) → Between n → ((v : A) → InBoundary (go v)) → InBoundary (need n o go)
need_in n none go h f = h
need_in n (some v) go h f = f v

boundary_either : (b : Bool) (x y : B.Said) → InBoundary x → InBoundary y → InBoundary (pick b x y)
boundary_either true x y p q = p
boundary_either false x y p q = q

content_in : (s : List ℕ) (i flags position from n : ℕ) → InBoundary (content_at s i flags position from n)
content_in s i flags position from n =
    need_in 15 (field_at 4 s i) _ (omega arith, omega arith)
    (λ len.
    boundary_either (is_negative 4 len) (B.refused 18) _ (omega arith, omega arith)
    (boundary_either (ltb (length s - (i + 4)) len) (B.refused 18) _ (omega arith, omega arith) tt))

prefix_in : (s : List ℕ) (i flags position : ℕ) (o : Option ℕ) → InBoundary (prefix_by s i flags position o)
prefix_in s i flags position none = (omega arith, omega arith)
prefix_in s i flags position (some n) = content_in s (i + n + 1) flags position i n

pub boundary_in : (p : List ℕ) → InBoundary (boundary_of p)
unfolding boundary_of
boundary_in [] = tt
boundary_in (letter ∷ s) =
    boundary_either (eqb letter 66) (begin_at (letter ∷ s) 1) _
    (need_in 16 (field_at 8 (letter ∷ s) 1) _ (omega arith, omega arith) (λ final.
    need_in 16 (int_at 8 (letter ∷ s) 9) _ (omega arith, omega arith) (λ time.
    need_in 15 (field_at 4 (letter ∷ s) 17) _ (omega arith, omega arith) (λ xid. tt))))
    (boundary_either (eqb letter 67) (commit_at (letter ∷ s) 1) _
    (need_in 14 (field_at 1 (letter ∷ s) 1) _ (omega arith, omega arith) (λ flags.
    need_in 16 (field_at 8 (letter ∷ s) 2) _ (omega arith, omega arith) (λ position.
    need_in 16 (field_at 8 (letter ∷ s) 10) _ (omega arith, omega arith) (λ end.
    need_in 16 (int_at 8 (letter ∷ s) 18) _ (omega arith, omega arith) (λ time. tt)))))
    (boundary_either (eqb letter 77) (message_at (letter ∷ s) 1) _
    (need_in 14 (field_at 1 (letter ∷ s) 1) _ (omega arith, omega arith) (λ flags.
    need_in 16 (field_at 8 (letter ∷ s) 2) _ (omega arith, omega arith) (λ position.
    prefix_in (letter ∷ s) 10 flags position (index_of 0 (drop 10 (letter ∷ s))))))
    tt))

-- ---- a case of the table refuses with none of 2 to 5

abbrev Late : Response → Type 0
Late y = is_refused_early y.refusal ≡ false

late_either : (b : Bool) (x y : Response) → Late x → Late y → Late (pick b x y)
late_either true x y p q = p
late_either false x y p q = q

late_queue : (q : Queue) (x y w : Response) → Late x → Late y → Late w → Late (by_queue q x y w)
late_queue Free x y w a b c = a
late_queue Full x y w a b c = b
late_queue Closed x y w a b c = c

late_read : (limit : ℕ) (b u : List ℕ) (e : Bool) (f : Found → Response) → ((a : Said) → InRead a → Late (f (found a)))
    → Late (read_response limit b u e f)
late_read limit b u e f h =
    let c : Cut = cut_of limit ((cut_of limit b).rest ++ u) in
    subst (λ (a : Found). Late (f a)) (sym (found_is c.items c.ending (length u) e))
    (h (first_answer c.items c.ending (length u) e) (told_in c.items c.ending (length u) e))

opening_late : (a : Said) → InRead a → Late (opening_response (found a))
opening_late more h = refl
opening_late (whole tag n) h =
    late_either (is_copy_both_response tag) (enters Turn) _ refl (late_either (is_error tag) (refuses 19) (enters Opening) refl refl)
opening_late (refused n) h = not_early n h

reading_late : (a : Said) → InRead a → Late (reading_response (found a))
reading_late more h = refl
reading_late (whole tag n) h = refl
reading_late (refused n) h = not_early n h

waiting_late : (idle : Bool) (a : Said) → InRead a → Late (waiting_response idle (found a))
waiting_late idle more h = late_either idle (writes (status false) Turn) (enters Waiting) refl refl
waiting_late idle (whole tag n) h = refl
waiting_late idle (refused n) h = not_early n h

boundary_late : (c : B.Said) → InBoundary c → Late (boundary_response c)
boundary_late (B.begin final time xid) h = refl
boundary_late (B.commit position end time) h = refl
boundary_late (B.message flag position pf pl cf cl) h = refl
boundary_late B.no_boundary h = refl
boundary_late (B.refused n) h = not_early n h

copy_late : (p : List ℕ) (c : C.Said) → InCopy c → Late (copy_data_response p c)
copy_late p (C.w start end time from len) h = boundary_late (boundary_of (at p from len)) (boundary_in (at p from len))
copy_late p (C.k end time reply) h = refl
copy_late p (C.refused n) h = not_early n h

handling_late : (h : Trace) (m : Msg) → Late (handling_response h m)
handling_late h m =
    late_either (is_error m.0) (refuses 19) _ refl
    (late_either (is_copy_done m.0) (writes done Ended) _ refl
    (late_either (is_copy_data m.0) (copy_data_response m.1 (copy_data_of m.1)) (enters (back_of h))
    (copy_late m.1 (copy_data_of m.1) (copy_in m.1)) refl))

module _ (s : Setup) (h : Trace) (i : Input) (b u : List ℕ) where
  drain_late : Late (table_of Drain s h i b u)
  drain_late =
      late_either (both (ltb (drained_of h) 256) (leb 5 (length u))) (enters Reading) _ refl
      (late_either (eqb (drained_of h) 0) (enters Waiting) _ refl (late_either i.stop (writes done Ended) (enters Turn) refl refl))

  idle_late : Late (idle_response (is_idle s h i))
  idle_late = late_either (is_idle s h i) (writes (status false) Turn) (enters Waiting) refl refl

  wait_late : Late (table_of Waiting s h i b u)
  wait_late =
      late_either i.stop (writes done Ended) _ refl
      (late_either (both (pending_of s.start h) (is_passed s h i)) (writes (status false) Turn) _ refl
      (late_either (unless (pending_of s.start h) (signalled_of s.start h)) (enters Turn) _ refl
      (late_either (pick (eqb (length u) 0) i.ended true) (read_response (limit_by s) b u i.ended (waiting_response (is_idle s h i)))
      (idle_response (is_idle s h i))
      (late_read (limit_by s) b u i.ended (waiting_response (is_idle s h i)) (waiting_late (is_idle s h i))) idle_late)))

  passed_late : (es : List Happened) → Late (passed_on s h b es)
  passed_late es =
      late_either (ltb 1 (length (left_of s h b))) (respond 0 nothing Offering es) _ refl
      (late_either (last_gives s b).ends (respond 0 done Ended es) (respond 0 nothing (back_of h) es) refl refl)

  again_late : Late (again_response s h i b)
  again_late =
      late_either i.stop (writes done Ended) _ refl
      (late_queue i.queue (hands_over s h b) (writes (status_if (is_passed s h i)) Offering) (drops s h b) (passed_late _) refl (passed_late []))

  offer_late : Late (table_of Offering s h i b u)
  offer_late =
      late_either (full_before h) (again_response s h i b) _ again_late
      (late_queue i.queue (hands_over s h b) (again_response s h i b) (drops s h b) (passed_late _) again_late (passed_late []))

  pub state_late : (x : State) → is_ended x ≡ false → Late (table_of x s h i b u)
  state_late Opening e = late_read (limit_by s) b u i.ended opening_response opening_late
  state_late Turn e = refl
  state_late Drain e = drain_late
  state_late Reading e = late_read (limit_by s) b u i.ended reading_response reading_late
  state_late Waiting e = wait_late
  state_late Handling e = handling_late h (last_message (limit_by s) b)
  state_late Offering e = offer_late
  state_late Ended e = impossible cc
