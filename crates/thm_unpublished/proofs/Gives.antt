-- Messages that are alike give the same events, data and content left out.
use mathlib.Core.Path.{◌≡◌, refl, sym, ap, ◌∙◌}
use mathlib.Core.Bool.{Bool, true, false}
use mathlib.Core.List.{List, [], ◌∷◌, ◌++◌}
use mathlib.Core.Option.{Option, some, none}
use Prim.Native.Nat.{ℕ, zero, suc}
use lib.ListN.{length, take, drop}
use lib.IntN.{ℤ}
use lib.Dec.{leb}
use Rattle.wire.specs.Bytes.{pick, at}
use Rattle.frames.specs.Tag.{is_error, is_copy_data}
use Rattle.replication.specs.CopyData.{copy_data_of}
use Rattle.replication.specs.CopyData as C
use Rattle.pgoutput.specs.Boundary.{boundary_of}
use Rattle.pgoutput.specs.Boundary as B
use Rattle.worker.specs.declared.Offer.{Offer}
use Rattle.worker.specs.Events as E
use Rattle.worker.specs.Step.{is_stopped_at}
use Rattle.worker.specs.Streaming.{is_copy_done}
use Rattle.thm_any_calls.specs.Happened.{Happened, happened_of}
use Rattle.thm_any_calls.specs.Happened as H
use Rattle.thm_any_calls.specs.Plain.{Msg, Gives, gives, reaching, data_gives, payload_gives, message_gives}
use Rattle.thm_any_calls.proofs.Course.{Tied, following}
use Rattle.thm_any_calls.proofs.Facts.{gone_by}
use Rattle.thm_unpublished.specs.Alike.{View, boundary_in, prefix_by, prefix_in, view_of}
use Rattle.thm_unpublished.specs.Same.{blank, left_out, all_left_out}
use Rattle.thm_unpublished.proofs.Lists.{part_length}
use Rattle.thm_unpublished.proofs.Prefix.{AlikeMessage}

-- ---- lists of events

pub left_out_append : (es fs : List Happened) → all_left_out (es ++ fs) ≡ all_left_out es ++ all_left_out fs
unfolding all_left_out
left_out_append [] fs = refl
left_out_append (e ∷ es) fs = ap (λ (l : List Happened). left_out e ∷ l) (left_out_append es fs)

left_out_drop : (n : ℕ) (es : List Happened) → all_left_out (drop n es) ≡ drop n (all_left_out es)
unfolding all_left_out
left_out_drop zero es = refl
left_out_drop (suc n) [] = refl
left_out_drop (suc n) (e ∷ es) = left_out_drop n es

-- ---- what a message gives

same_blank : (a b : List ℕ) → length a ≡ length b → blank a ≡ blank b
same_blank a b l = rw l

reaching_alike : (stop : Option ℕ) (position : ℕ) (e f : Happened) → left_out e ≡ left_out f
    → all_left_out (reaching stop position e).events ≡ all_left_out (reaching stop position f).events
unfolding all_left_out
reaching_alike none position e f h = ap (λ (x : Happened). x ∷ []) h
reaching_alike (some stop) position e f h = by (leb stop position)
  where
    by : (b : Bool) → all_left_out (pick b (gives (e ∷ H.stopped_at position ∷ []) true) (gives (e ∷ []) false)).events
        ≡ all_left_out (pick b (gives (f ∷ H.stopped_at position ∷ []) true) (gives (f ∷ []) false)).events
    by true = ap (λ (x : Happened). x ∷ H.stopped_at position ∷ []) h
    by false = ap (λ (x : Happened). x ∷ []) h

-- data with the same boundary, prefix and length
data_alike : (stop : Option ℕ) (start end : ℕ) (time : ℤ) (s t : List ℕ) (c : B.Said) → length s ≡ length t → prefix_by s c ≡ prefix_by t c
    → all_left_out (data_gives stop start end time s c).events ≡ all_left_out (data_gives stop start end time t c).events
data_alike stop start end time s t (B.begin final at_time xid) l p = refl
data_alike stop start end time s t (B.commit position commit_end at_time) l p = refl
data_alike stop start end time s t (B.message flag position pf pl cf cl) l p =
    reaching_alike stop end _ _
    (two flag position (at s pf pl) (at t pf pl) (blank (at s cf cl)) (blank (at t cf cl)) p
    (same_blank (at s cf cl) (at t cf cl) (part_length s t cf cl l)))
  where
    two : (f : Bool) (n : ℕ) (a b c d : List ℕ) → a ≡ b → c ≡ d → H.message f n a c ≡ H.message f n b d
    two f n a b c d x y = rw (x, y)
data_alike stop start end time s t B.no_boundary l p =
    reaching_alike stop end _ _ (ap (λ (x : List ℕ). H.xlog_data start end time x) (same_blank s t l))
data_alike stop start end time s t (B.refused n) l p = refl

payload_alike : (stop : Option ℕ) (p q : List ℕ) (a : C.Said) → length p ≡ length q → boundary_in p a ≡ boundary_in q a → prefix_in p a ≡ prefix_in q a
    → all_left_out (payload_gives stop p a).events ≡ all_left_out (payload_gives stop q a).events
payload_alike stop p q (C.w start end time from len) l b f =
    data_alike stop start end time (at p from len) (at q from len) (boundary_of (at p from len)) (part_length p q from len l)
    (f ∙ ap (prefix_by (at q from len)) (sym b))
    ∙ ap (λ (c : B.Said). all_left_out (data_gives stop start end time (at q from len) c).events) b
payload_alike stop p q (C.k end time reply) l b f = refl
payload_alike stop p q (C.refused n) l b f = refl

record Events (x y : Gives) : Type 0 where
  alike : all_left_out x.events ≡ all_left_out y.events

either_gives : (b : Bool) {x x' y y' : Gives} → (b ≡ true → Events x x') → Events y y' → Events (pick b x y) (pick b x' y')
either_gives true h k = h refl
either_gives false h k = k

copied_alike : (stop : Option ℕ) (p q : List ℕ) → length p ≡ length q → view_of p ≡ view_of q
    → all_left_out (payload_gives stop p (copy_data_of p)).events ≡ all_left_out (payload_gives stop q (copy_data_of q)).events
copied_alike stop p q l h =
    let a : C.Said = copy_data_of p in
    let said : copy_data_of q ≡ a = sym (ap (λ (v : View). v.said) h) in
    let b : boundary_in p a ≡ boundary_in q a = ap (λ (v : View). v.boundary) h ∙ ap (boundary_in q) said in
    let f : prefix_in p a ≡ prefix_in q a = ap (λ (v : View). v.prefix) h ∙ ap (prefix_in q) said in
    payload_alike stop p q a l b f ∙ ap (λ (c : C.Said). all_left_out (payload_gives stop q c).events) (sym said)

pub gives_alike : (stop : Option ℕ) (m n : Msg) → AlikeMessage m n
    → all_left_out (message_gives stop m.0 m.1).events ≡ all_left_out (message_gives stop n.0 n.1).events
gives_alike stop m n h =
    rw (← h.tag) by_tag.alike
  where
    by_tag : Events (message_gives stop m.0 m.1) (message_gives stop m.0 n.1)
    by_tag =
        either_gives (is_error m.0) (λ x. record { alike = refl })
        (either_gives (is_copy_done m.0) (λ x. record { alike = refl })
        (either_gives (is_copy_data m.0) (λ c. record { alike = copied_alike stop m.1 n.1 h.payload.size (h.payload.copied c) })
        (record { alike = refl })))

-- ---- an offered event that two buffers show

first_of : (e : Happened) (es : List Happened) → all_left_out (e ∷ []) ≡ take 1 (all_left_out (e ∷ es))
unfolding all_left_out
first_of e es = refl

pub tied_alike : (stop : Option ℕ) (o : Offer) (p q : List ℕ) (m n : Msg) → AlikeMessage m n → Tied stop o p m → Tied stop o q n
    → all_left_out (happened_of (E.said_by o.event) p) ≡ all_left_out (happened_of (E.said_by o.event) q)
tied_alike stop o p q m n h a b =
    let g : ℕ = gone_by (is_stopped_at o.event) in
    let es : List Happened = (message_gives stop m.0 m.1).events in
    let fs : List Happened = (message_gives stop n.0 n.1).events in
    let k : all_left_out (drop g es) ≡ all_left_out (drop g fs) =
    left_out_drop g es ∙ (ap (drop g) (gives_alike stop m n h) ∙ sym (left_out_drop g fs)) in
    let j : all_left_out (a.e ∷ following o) ≡ all_left_out (b.e ∷ following o) = ap all_left_out (sym a.left) ∙ (k ∙ ap all_left_out b.left) in
    ap all_left_out a.event
    ∙ (first_of a.e (following o) ∙ (ap (take 1) j ∙ (sym (first_of b.e (following o)) ∙ sym (ap all_left_out b.event))))
