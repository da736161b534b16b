-- The calls over any list of what is told leave what a full walk finds.
use mathlib.Core.Path.{◌≡◌, refl, sym}
use mathlib.Core.Bool.{Bool, true, false}
use mathlib.Core.List.{List, [], ◌∷◌, ◌++◌, append_assoc, append-nil}
use Prim.Native.Nat.{ℕ}
use Rattle.wire.specs.Bytes.{pick}
use Rattle.wire.proofs.Laws.{by_test, impossible}
use Rattle.rows.specs.Rows.{row_said}
use Rattle.touched.specs.Touched.{has_no_file, changed_by, is_among, Told, begins, brings, nothing, files_after, after_of}
use Rattle.touched.specs.Walk.{is_begin, has_begin, since_begin, changed_of, all_changed, walk_of, left_by, LeftIsTheWalk, FullStaysFull, RefusedChangesNothing}
use Rattle.touched.proofs.Laws.{or_false, or_true, or_or, among_append, with_full}

-- ---- the events since the last Begin

pub begin_append : (ts us : List Told) → has_begin (ts ++ us) ≡ pick (has_begin ts) true (has_begin us)
unfolding has_begin
begin_append [] us = refl
begin_append (t ∷ ts) us = rw (begin_append ts us) (sym (or_or (is_begin t) (has_begin ts) (has_begin us)))

pick_append : (a b : Bool) (x u v y : List Told) → pick a (x ++ y) (pick b (u ++ y) (v ++ y)) ≡ pick a x (pick b u v) ++ y
pick_append true b x u v y = refl
pick_append false true x u v y = refl
pick_append false false x u v y = refl

-- a Begin leaves nothing before it
since_begins : (ts : List Told) → since_begin (ts ++ (begins ∷ [])) ≡ []
unfolding since_begin has_begin
since_begins [] = refl
since_begins (t ∷ ts) = rw (begin_append ts (begins ∷ []), or_true (has_begin ts)) (since_begins ts)

no_begin : (us : List Told) → has_begin us ≡ false → since_begin us ≡ us
unfolding since_begin has_begin
no_begin [] h = refl
no_begin (t ∷ us) h =
    by_test (is_begin t) (λ e. impossible (let x = rw e at h in cc)) (λ e. let x = rw e at h in rw (x, e))

-- what is no Begin comes after what there was
pub since_append : (ts us : List Told) → has_begin us ≡ false → since_begin (ts ++ us) ≡ since_begin ts ++ us
unfolding since_begin
since_append [] us h = no_begin us h
since_append (t ∷ ts) us h =
    rw (begin_append ts us, h, or_false (has_begin ts), since_append ts us h) (pick_append (has_begin ts) (is_begin t) (since_begin ts) ts (t ∷ ts) us)

pub changed_append : (ts us : List Told) → all_changed (ts ++ us) ≡ all_changed ts ++ all_changed us
unfolding all_changed
changed_append [] us = refl
changed_append (t ∷ ts) us = rw (changed_append ts us) (sym (append_assoc (changed_of t) (all_changed ts) (all_changed us)))

changed_one : (ts : List Told) (t : Told) → is_begin t ≡ false → all_changed (since_begin (ts ++ (t ∷ []))) ≡ all_changed (since_begin ts) ++ changed_of t
unfolding all_changed has_begin
changed_one ts t h = rw (since_append ts (t ∷ []) (rw h), changed_append (since_begin ts) (t ∷ []), append-nil (changed_of t))

-- ---- one more call

module _ (es : List (ℕ × ℕ)) where
  walk_next : (ts : List Told) (t : Told) → files_after es t (walk_of es ts) ≡ walk_of es (ts ++ (t ∷ []))
  unfolding all_changed is_among
  walk_next ts begins = rw (since_begins ts)
  walk_next ts (brings s) =
      let ids : List ℕ = all_changed (since_begin ts) in
      let more : List ℕ = changed_by (row_said s) in
      rw (
        changed_one ts (brings s) refl,
        among_append es 0 ids more,
        among_append es 1 ids more,
        among_append es 2 ids more,
        among_append es 3 ids more,
      )
  walk_next ts nothing = rw (changed_one ts nothing refl, append-nil (all_changed (since_begin ts)))

module _ (es : List (ℕ × ℕ)) (h : has_no_file es ≡ false) where
  from_walk : (ts us : List Told) → left_by es (walk_of es ts) us ≡ walk_of es (ts ++ us)
  unfolding left_by after_of
  from_walk ts [] = rw (append-nil ts)
  from_walk ts (t ∷ us) = rw (h, walk_next es ts t, ← append_assoc ts (t ∷ []) us) (from_walk (ts ++ (t ∷ [])) us)

pub left_is_the_walk : LeftIsTheWalk
unfolding since_begin all_changed is_among
left_is_the_walk es ts h = from_walk es h [] ts

pub full_stays_full : FullStaysFull
unfolding after_of
full_stays_full es begins b f n = impossible cc
full_stays_full es (brings s) b f n =
    by_test (has_no_file es) (λ e. rw e) (λ e. rw e (with_full es (changed_by (row_said s)) b f))
full_stays_full es nothing b f n = by_test (has_no_file es) (λ e. rw e) (λ e. rw e)

pub refused_changes_nothing : RefusedChangesNothing
unfolding after_of
refused_changes_nothing es t b h = rw h
