-- Plain readings of the same bytes agree: what was offered begins what was given, and fewer bytes give a beginning of what more give. It knows
-- no run. HandsOn takes `plain_agree` for the events of two lists of calls, Course `events_of_lem` for those of the last message; HandsOn and Invariant
-- take what holds while no queue closes.
use mathlib.Core.Path.{◌≡◌, refl, sym, ap, ◌∙◌}
use mathlib.Core.Bool.{Bool, true, false}
use mathlib.Core.List.{List, [], ◌∷◌, ◌++◌, append_assoc}
use mathlib.Core.Logic.{◌⊎◌, ⊎_elim, inl, inr}
use mathlib.Core.Option.{Option}
use Prim.Native.Nat.{ℕ, ◌-◌}
use lib.ListN.{length, take, drop, take-append-drop}
use lib.Seq.{drop-append_seam}
use lib.Dec.{leb}
use Rattle.wire.specs.Bytes.{pick}
use Rattle.wire.proofs.Laws.{impossible}
use Rattle.frames.specs.Cut.{Item, message, refused, cut_of}
use Rattle.frames.proofs.Laws.{cut_append}
use Rattle.frames.specs.Tag.{is_error, is_copy_both_response}
use Rattle.worker.specs.declared.Queue.{Queue}
use Rattle.worker.specs.declared.Queue.TheVariants.{Free, Full, Closed}
use Rattle.thm_any_calls.specs.Happened.{Happened}
use Rattle.thm_any_calls.specs.Plain.{Msg, Observation, Gives, message_gives, whole_ones, after_opening, given, events_of, span_of, after_byte, accepted_ones, is_refused_early, by_queue, is_cut_off, offered, taken_of, plain_of}
use Rattle.thm_any_calls.specs.Begins.{Begins, is_closed, NoneClosed, PlainBegins, PlainAgree}

-- ---- beginnings

module _ {A : Type 0} where
  none_begins : (ys : List A) → Begins [] ys
  none_begins ys = record { rest = ys; joined = refl }

  also_begins : (x : A) {xs ys : List A} → Begins xs ys → Begins (x ∷ xs) (x ∷ ys)
  also_begins x b = record { rest = b.rest; joined = ap (λ (r : List A). x ∷ r) b.joined }

  behind_begins : (zs : List A) {xs ys : List A} → Begins xs ys → Begins (zs ++ xs) (zs ++ ys)
  behind_begins [] b = b
  behind_begins (z ∷ zs) b = also_begins z (behind_begins zs b)

  begins_then : {xs ys zs : List A} → Begins xs ys → Begins ys zs → Begins xs zs
  begins_then {xs} b c =
      record {
        rest = b.rest ++ c.rest;
        joined = sym (append_assoc xs b.rest c.rest) ∙ ap (λ (r : List A). r ++ c.rest) b.joined ∙ c.joined;
      }

  -- one of two, as a test says
  either_begins : (t : Bool) {xs ys zs : List A} → Begins xs zs → Begins ys zs → Begins (pick t xs ys) zs
  either_begins true b c = b
  either_begins false b c = c

  -- two beginnings of one list
  one_begins : (xs ys us vs : List A) → xs ++ us ≡ ys ++ vs → Begins xs ys ⊎ Begins ys xs
  one_begins [] ys us vs e = inl (none_begins ys)
  one_begins (x ∷ xs) [] us vs e = inr (none_begins (x ∷ xs))
  one_begins (x ∷ xs) (y ∷ ys) us vs e =
      ⊎_elim (λ b. inl (record { rest = b.rest; joined = cc })) (λ b. inr (record { rest = b.rest; joined = cc }))
      (one_begins xs ys us vs (ap (λ (l : List A). drop 1 l) e))

-- ---- what was offered begins what there was to offer

queue_begins : (q : Queue) {xs ys : List Happened} (zs : List Happened) {es : List Happened} → is_closed q ≡ false → Begins xs es → Begins ys es
    → Begins (by_queue q xs ys zs) es
queue_begins Free zs h b c = b
queue_begins Full zs h b c = c
queue_begins Closed zs h b c = impossible cc

offered_begins : (es : List Happened) (full : Bool) (ts : List Observation) → NoneClosed ts → Begins (offered es full ts) es
unfolding offered
offered_begins es full [] h = none_begins es
offered_begins [] full (t ∷ ts) h = none_begins []
offered_begins (e ∷ es) full (t ∷ ts) h =
    either_begins (is_cut_off t full) (none_begins (e ∷ es))
    (queue_begins t.queue (offered es false ts) h.0 (also_begins e (offered_begins es false ts h.1))
    (offered_begins (e ∷ es) true ts h.1))

-- ---- more messages give more

-- with the reading's end, or what follows
unless_ends : (t : Bool) {xs ys : List Happened} → Begins xs ys → Begins (pick t [] xs) (pick t [] ys)
unless_ends true b = none_begins []
unless_ends false b = b

given_begins : (stop : Option ℕ) (ms ns : List Msg) → Begins (given stop ms) (given stop (ms ++ ns))
unfolding given
given_begins stop [] ns = none_begins (given stop ns)
given_begins stop (m ∷ ms) ns =
    let g : Gives = message_gives stop m.0 m.1 in behind_begins g.events (unless_ends g.ends (given_begins stop ms ns))

opened_begins : (w e : Bool) (ms ns : List Msg) {xs ys : List Msg} → Begins xs ys
    → Begins (pick w ms (pick e [] xs)) (pick w (ms ++ ns) (pick e [] ys))
opened_begins true e ms ns b = record { rest = ns; joined = refl }
opened_begins false true ms ns b = none_begins []
opened_begins false false ms ns b = b

opening_begins : (ms ns : List Msg) → Begins (after_opening ms) (after_opening (ms ++ ns))
unfolding after_opening
opening_begins [] ns = none_begins (after_opening ns)
opening_begins (m ∷ ms) ns = opened_begins (is_copy_both_response m.0) (is_error m.0) ms ns (opening_begins ms ns)

events_begin : (stop : Option ℕ) (opening : Bool) (ms ns : List Msg) → Begins (events_of stop opening ms) (events_of stop opening (ms ++ ns))
events_begin stop true ms ns =
    let b : Begins (after_opening ms) (after_opening (ms ++ ns)) = opening_begins ms ns in
    rw (← b.joined) (given_begins stop (after_opening ms) b.rest)
events_begin stop false ms ns = given_begins stop ms ns

-- a beginning of the messages gives a beginning of the events
pub events_of_lem : (stop : Option ℕ) (opening : Bool) {ms ns : List Msg} → Begins ms ns → Begins (events_of stop opening ms) (events_of stop opening ns)
events_of_lem stop opening {ms} b = rw (← b.joined) (events_begin stop opening ms b.rest)

whole_begins : (is js : List Item) → Begins (whole_ones is) (whole_ones (is ++ js))
unfolding whole_ones
whole_begins [] js = none_begins (whole_ones js)
whole_begins (refused ∷ is) js = none_begins []
whole_begins (message tag p ∷ is) js = also_begins (tag, p) (whole_begins is js)

cut_begins : (limit k : ℕ) (bytes : List ℕ) → Begins (whole_ones (cut_of limit (take k bytes)).items) (whole_ones (cut_of limit bytes).items)
cut_begins limit k bytes =
    let e : cut_of limit bytes ≡ cut_of limit (take k bytes ++ drop k bytes) = ap (cut_of limit) (sym (take-append-drop k bytes)) in
    rw (e ∙ cut_append limit (take k bytes) (drop k bytes)) (whole_begins (cut_of limit (take k bytes)).items _)

-- ---- no queue closes

pub closed_more : (ts : List Observation) (x : Observation) → NoneClosed ts → is_closed x.queue ≡ false → NoneClosed (ts ++ (x ∷ []))
closed_more [] x h q = (q, tt)
closed_more (t ∷ ts) x h q = (h.0, closed_more ts x h.1 q)

pub closed_before : (ts : List Observation) (x : Observation) → NoneClosed (ts ++ (x ∷ [])) → NoneClosed ts × (is_closed x.queue ≡ false)
closed_before [] x h = (tt, h.0)
closed_before (t ∷ ts) x h = let k = closed_before ts x h.1 in ((h.0, k.0), k.1)

either_closed : (b : Bool) (ts us : List Observation) → NoneClosed ts → NoneClosed us → NoneClosed (pick b ts us)
either_closed true ts us a c = a
either_closed false ts us a c = c

accepted_closed : (ts : List Observation) → NoneClosed ts → NoneClosed (accepted_ones ts)
unfolding accepted_ones
accepted_closed [] h = tt
accepted_closed (t ∷ ts) h =
    let c : NoneClosed (accepted_ones ts) = accepted_closed ts h.1 in
    either_closed (is_refused_early t.refusal) (accepted_ones ts) (t ∷ accepted_ones ts) c (h.0, c)

behind_closed : (n : ℕ) (ts : List Observation) → NoneClosed ts → NoneClosed (after_byte n ts)
unfolding after_byte
behind_closed n [] h = tt
behind_closed n (t ∷ ts) h = either_closed (leb n t.taken) ts (after_byte (n - t.taken) ts) h.1 (behind_closed (n - t.taken) ts h.1)

later_closed : (ts : List Observation) → NoneClosed ts → NoneClosed (drop 1 ts)
later_closed [] h = tt
later_closed (t ∷ ts) h = h.1

-- ---- the plain reading

-- what begins all, and some of the rest after it
and_some : {before all : List Happened} (ts : List Observation) → NoneClosed ts → Begins before all
    → Begins (before ++ offered (drop (length before) all) false ts) all
and_some {before} {all} ts h b =
    let e : drop (length before) all ≡ b.rest = rw (← b.joined) (drop-append_seam before b.rest) in
    let c : Begins (before ++ offered b.rest false ts) (before ++ b.rest) = behind_begins before (offered_begins b.rest false ts h) in
    rw e (record { rest = c.rest; joined = c.joined ∙ b.joined })

pub plain_begins : PlainBegins
unfolding plain_of
plain_begins b opening bytes ts h =
    let ms : List Msg = whole_ones (cut_of b.limit (take (taken_of ts) bytes)).items in
    let since : List Observation = accepted_ones (after_byte (span_of ms) ts) in
    let front : Begins (take (length ms - 1) ms) ms = record { rest = drop (length ms - 1) ms; joined = take-append-drop (length ms - 1) ms } in
    begins_then
    (and_some (drop 1 since) (later_closed since (accepted_closed _ (behind_closed (span_of ms) ts h))) (events_of_lem b.stop opening front))
    (events_of_lem b.stop opening (cut_begins b.limit (taken_of ts) bytes))

pub plain_agree : PlainAgree
plain_agree b opening bytes ts us h k =
    let x = plain_begins b opening bytes ts h in
    let y = plain_begins b opening bytes us k in
    one_begins (plain_of b opening bytes ts) (plain_of b opening bytes us) x.rest y.rest (x.joined ∙ sym y.joined)
