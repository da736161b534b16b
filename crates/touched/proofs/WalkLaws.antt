-- The full walk finds a file where a row since the last Begin changes a relation whose first entry has it, and nowhere else.
use mathlib.Core.Path.{◌≡◌, refl, sym, ap, ◌∙◌}
use mathlib.Core.Bool.{Bool, true, false}
use mathlib.Core.List.{List, [], ◌∷◌, ◌++◌, append_assoc}
use mathlib.Core.Logic.{◌⊎◌, inl, inr}
use mathlib.Core.Option.{Option, some, none}
use Prim.Native.Nat.{ℕ}
use borrow.Author.Tests.{eqb-true, eq-eqb}
use lib.Dec.{eqb}
use Rattle.wire.specs.Bytes.{pick}
use Rattle.wire.proofs.Laws.{by_test, impossible}
use Rattle.rows.specs.Rows.{row_said}
use Rattle.touched.specs.Touched.{file_of, changed_by, is_file, is_among, Told, begins, brings, nothing}
use Rattle.touched.specs.Walk.{is_begin, has_begin, since_begin, changed_of, all_changed, Among, FirstEntry, Touches, WalkLaws}
use Rattle.touched.proofs.Laws.{or_true, among_append}
use Rattle.touched.proofs.Walk.{begin_append, since_append, changed_append}

-- one or the other is true
pub either : (a b : Bool) → pick a true b ≡ true → (a ≡ true) ⊎ (b ≡ true)
either true b h = inl refl
either false b h = inr h

neither : (a b : Bool) → pick a true b ≡ false → (a ≡ false) × (b ≡ false)
neither true b h = impossible cc
neither false b h = (refl, h)

by_either : {A B X : Type 0} → A ⊎ B → (A → X) → (B → X) → X
by_either (inl a) f g = f a
by_either (inr b) f g = g b

-- ---- the first entry

entry_here : (i g : ℕ) (es : List (ℕ × ℕ)) (id f : ℕ) → i ≡ id → some g ≡ some f → FirstEntry ((i, g) ∷ es) id f
unfolding file_of
entry_here i g es id f p q =
    let r : g ≡ f = cc in
    record { front = []; back = es; there = rw (p, r); first = refl }

entry_later : (e : ℕ × ℕ) (es : List (ℕ × ℕ)) (id f : ℕ) → eqb e.0 id ≡ false → FirstEntry es id f → FirstEntry (e ∷ es) id f
unfolding file_of
entry_later e es id f t w =
    record { front = e ∷ w.front; back = w.back; there = ap (λ (x : List (ℕ × ℕ)). e ∷ x) w.there; first = rw t w.first }

pub entry_found : (es : List (ℕ × ℕ)) (id f : ℕ) → file_of es id ≡ some f → FirstEntry es id f
unfolding file_of
entry_found [] id f h = impossible cc
entry_found (e ∷ es) id f h =
    by_test (eqb e.0 id) (λ t. entry_here e.0 e.1 es id f (eqb-true e.0 id t) (rw t at h))
    (λ t. entry_later e es id f t (entry_found es id f (rw t at h)))

pub entry_finds : (front back : List (ℕ × ℕ)) (id f : ℕ) → file_of front id ≡ none → file_of (front ++ ((id, f) ∷ back)) id ≡ some f
unfolding file_of
entry_finds [] back id f h = rw (eq-eqb id id refl)
entry_finds (e ∷ front) back id f h =
    by_test (eqb e.0 id) (λ t. impossible (let x = rw t at h in cc)) (λ t. rw t (entry_finds front back id f (rw t at h)))

-- ---- one of the relations

is_file_lem : (f : ℕ) (o : Option ℕ) → is_file f o ≡ true → o ≡ some f
is_file_lem f none h = impossible cc
is_file_lem f (some g) h = ap (λ (x : ℕ). some x) (eqb-true g f h)

module _ (es : List (ℕ × ℕ)) (f : ℕ) where
  pub among_found : (ids : List ℕ) → is_among es f ids ≡ true → (id : ℕ) × Among id ids × (file_of es id ≡ some f)
  unfolding is_among
  among_found [] h = impossible cc
  among_found (x ∷ ids) h =
      by_either (either (is_file f (file_of es x)) (is_among es f ids) h) (λ t. (x, inl refl, is_file_lem f (file_of es x) t))
      (λ t. let w = among_found ids t in (w.0, inr w.1, w.2))

  pub among_finds : (ids : List ℕ) (id : ℕ) → Among id ids → file_of es id ≡ some f → is_among es f ids ≡ true
  unfolding is_among
  among_finds [] id a e = absurd a
  among_finds (x ∷ ids) id (inl p) e = let t : is_file f (file_of es x) ≡ true = rw (p, e) (eq-eqb f f refl) in rw t
  among_finds (x ∷ ids) id (inr a) e = rw (among_finds ids id a e) (or_true (is_file f (file_of es x)))

-- ---- the data of a row among events

-- data that are told among events and change a relation
pub record Brought (id : ℕ) (ts : List Told) : Type 0 where
  pub earlier : List Told
  pub row_data : List ℕ
  pub later : List Told
  pub there : ts ≡ earlier ++ (brings row_data ∷ later)
  pub changed : Among id (changed_by (row_said row_data))

among_append_cases : (id : ℕ) (x y : List ℕ) → Among id (x ++ y) → Among id x ⊎ Among id y
among_append_cases id [] y a = inr a
among_append_cases id (v ∷ x) y (inl p) = inl (inl p)
among_append_cases id (v ∷ x) y (inr a) = by_either (among_append_cases id x y a) (λ b. inl (inr b)) (λ b. inr b)

brought_here : (id : ℕ) (t : Told) (ts : List Told) → Among id (changed_of t) → Brought id (t ∷ ts)
brought_here id begins ts a = absurd a
brought_here id (brings s) ts a = record { earlier = []; row_data = s; later = ts; there = refl; changed = a }
brought_here id nothing ts a = absurd a

brought_later : (id : ℕ) (t : Told) (ts : List Told) → Brought id ts → Brought id (t ∷ ts)
brought_later id t ts w =
    record {
      earlier = t ∷ w.earlier;
      row_data = w.row_data;
      later = w.later;
      there = ap (λ (x : List Told). t ∷ x) w.there;
      changed = w.changed;
    }

brought : (id : ℕ) (ts : List Told) → Among id (all_changed ts) → Brought id ts
unfolding all_changed
brought id [] a = absurd a
brought id (t ∷ ts) a =
    by_either (among_append_cases id (changed_of t) (all_changed ts) a) (λ b. brought_here id t ts b) (λ b. brought_later id t ts (brought id ts b))

-- ---- the events since the last Begin are the last ones, and have none

since_splits : (ts : List Told) → (front : List Told) × (ts ≡ front ++ since_begin ts) × (has_begin (since_begin ts) ≡ false)
unfolding since_begin has_begin
since_splits [] = ([], refl, refl)
since_splits (t ∷ ts) =
    by_test (has_begin ts)
    (λ e. let w = since_splits ts in rw e (t ∷ w.0, ap (λ (x : List Told). t ∷ x) w.1, w.2))
    (λ e. by_test (is_begin t) (λ b. rw (e, b) (t ∷ [], refl, e)) (λ b. rw (e, b) ([], refl, rw (b, e))))

-- ---- both ways

find : (es : List (ℕ × ℕ)) (f : ℕ) (ts : List Told) → is_among es f (all_changed (since_begin ts)) ≡ true → Touches es f ts
unfolding has_begin
find es f ts h =
    let a = among_found es f (all_changed (since_begin ts)) h in
    let w = brought a.0 (since_begin ts) a.1 in
    let p = since_splits ts in
    let n : has_begin (w.earlier ++ (brings w.row_data ∷ w.later)) ≡ false = rw w.there at p.2 in
    let m = neither (has_begin w.earlier) (has_begin w.later) (sym (begin_append w.earlier (brings w.row_data ∷ w.later)) ∙ n) in
    record {
      earlier = p.0 ++ w.earlier;
      row_data = w.row_data;
      later = w.later;
      there = p.1 ∙ ap (λ (x : List Told). p.0 ++ x) w.there ∙ sym (append_assoc p.0 w.earlier (brings w.row_data ∷ w.later));
      since = m.1;
      id = a.0;
      changed = w.changed;
      filed = entry_found es a.0 f a.2;
    }

back : (es : List (ℕ × ℕ)) (f : ℕ) (ts : List Told) → Touches es f ts → is_among es f (all_changed (since_begin ts)) ≡ true
unfolding all_changed has_begin
back es f ts w =
    let e : file_of es w.id ≡ some f =
    rw w.filed.there (entry_finds w.filed.front w.filed.back w.id f w.filed.first) in
    let x : List ℕ = all_changed (since_begin w.earlier) in
    let y : List ℕ = changed_by (row_said w.row_data) in
    let z : List ℕ = all_changed w.later in
    rw (
      w.there,
      since_append w.earlier (brings w.row_data ∷ w.later) w.since,
      changed_append (since_begin w.earlier) (brings w.row_data ∷ w.later),
      among_append es f x (y ++ z),
      among_append es f y z,
      among_finds es f y w.id w.changed e,
    )
    (or_true (is_among es f x))

pub walk_laws : WalkLaws
walk_laws = record { found = find; finds = back }
