-- The files that calls leave, by the lists, the data and what is told alone.
use mathlib.Core.Path.{◌≡◌, refl, sym, ap, ◌∙◌}
use mathlib.Core.Bool.{Bool, true, false}
use mathlib.Core.List.{List, [], ◌∷◌, ◌++◌}
use mathlib.Core.Logic.{◌⊎◌, inl, inr, ⊎_elim}
use mathlib.Core.Option.{some, none}
use Prim.Native.Nat.{ℕ, zero, suc, ◌+◌, ◌/◌, ◌%◌, ◌<◌, ◌≤◌}
use native.Mathlib.Omega.{arith}
use lib.ListN.{length, drop, get_or}
use lib.Dec.{eqb, ltb}
use lib.Pow.{are_bytes}
use borrow.Author.Tests.{eq-eqb, eqb-true, eqb-false, ltb-true, ltb-false}
use Rattle.wire.specs.Bytes.{pick}
use Rattle.wire.proofs.Laws.{by_test, impossible}
use Rattle.rows.specs.Rows.{Row, relation, type, origin, insert, update, update_from, delete, truncate, row_bytes, Said, row, no_row, refused_by}
use Rattle.rows.specs.Rows.{row_said}
use Rattle.rows.specs.RowLayout.{RowFits}
use Rattle.rows.proofs.Sent.{sent_is_read, read_is_sent}
use Rattle.touched.specs.declared.Files.{Files}
use Rattle.touched.specs.Touched.{entries_of, has_no_file, file_of, changed_in, changed_by, is_among, files, with_all, Told, begins, brings, nothing}
use Rattle.touched.specs.Touched.{is_full, after_of, answer_by}
use Rattle.touched.specs.Bits.{files_by}
use Rattle.std.specs.Prelude.{Err}
use Rattle.progress.specs.declared.files.FileRefusal.{FileRefusal}
use Rattle.touched.specs.Walk.{has_begin, since_begin, all_changed, walk_of, Among, left_by, FirstEntry, Touches}
use Rattle.touched.specs.Exact.{Has, none_touched, Listed, AllFiles, FirstFile, Names, Reaches, AfterData, CallLaws}
use Rattle.touched.specs.Exact.{NoBegin, HasBytes, AllBytes, TouchedSince, TouchedLaws, FileLaws}
use Rattle.touched.proofs.EntryLaws.{count, entry_laws, refused_lists, file_here, file_next, file_end}
use Rattle.touched.proofs.Walk.{left_is_the_walk}
use Rattle.touched.proofs.WalkLaws.{either, among_found, among_finds, entry_found, entry_finds, walk_laws}

-- ---- the lists

module _ (ids fs : List ℕ) where
  abbrev es : List (ℕ × ℕ)
  es = entries_of ids fs

  listed_below : (i : ℕ) → Listed ids fs i → i < count ids fs
  listed_below i l = omega (arith, l.read, l.in_ids, l.in_files)

  below_listed : (i : ℕ) → i < count ids fs → Listed ids fs i
  below_listed i h = record { read = omega (arith, h); in_ids = omega (arith, h); in_files = omega (arith, h) }

  list_refused : (i : ℕ) → Listed ids fs i → 3 < get_or fs i 0 → has_no_file es ≡ true
  list_refused i l h =
      let k : i < length es = omega (arith, entry_laws.how_many ids fs, listed_below i l) in
      let e = entry_laws.each ids fs i k in
      refused_lists.refused es i k (rw e h)

  list_accepted : AllFiles ids fs → has_no_file es ≡ false
  list_accepted a =
      refused_lists.accepted es (λ i k.
      let e = entry_laws.each ids fs i k in
      rw e (a i (below_listed i (omega (arith, entry_laws.how_many ids fs, k)))))

  -- ---- the first place of an identifier

  record From (i id f : ℕ) : Type 0 where
    place : ℕ
    after : i ≤ place
    below : place < count ids fs
    its_id : get_or ids place 0 ≡ id
    its_file : get_or fs place 0 ≡ f
    first : (k : ℕ) → i ≤ k → k < place → get_or ids k 0 ≡ id → ⊥

  past_end : {X : Type 0} (i id f : ℕ) → count ids fs ≤ i → file_of (drop i es) id ≡ some f → X
  past_end i id f h e = let o : none ≡ some f = sym (file_end ids fs i id h) ∙ e in impossible cc

  found_from : (n i id f : ℕ) → count ids fs ≤ i + n → file_of (drop i es) id ≡ some f → From i id f
  found_from zero i id f h e = past_end i id f (omega (arith, h)) e
  found_from (suc n) i id f h e =
      by_test (ltb i (count ids fs))
      (λ t.
      let l : i < count ids fs = ltb-true _ _ t in
      by_test (eqb (get_or ids i 0) id)
      (λ q.
      let a : get_or ids i 0 ≡ id = eqb-true _ _ q in
      let b : some (get_or fs i 0) ≡ some f = sym (file_here ids fs i id l a) ∙ e in
      let c : get_or fs i 0 ≡ f = cc in
      record { place = i; after = omega arith; below = l; its_id = a; its_file = c; first = λ k x y z. absurd (omega (arith, x, y)) })
      (λ q.
      let a : get_or ids i 0 ≡ id → ⊥ = eqb-false _ _ q in
      let w = found_from n (i + 1) id f (omega (arith, h)) (sym (file_next ids fs i id l a) ∙ e) in
      record {
        place = w.place;
        after = omega (arith, w.after);
        below = w.below;
        its_id = w.its_id;
        its_file = w.its_file;
        first = λ k x y z.
            by_test (eqb k i)
            (λ g. a (ap (λ (j : ℕ). get_or ids j 0) (sym (eqb-true k i g)) ∙ z))
            (λ g. let o : k ≡ i → ⊥ = eqb-false k i g in w.first k (omega (arith, x, o)) y z);
      }))
      (λ t. past_end i id f (ltb-false _ _ t) e)

  back_from : (n i id place : ℕ) → place ≡ i + n → place < count ids fs → get_or ids place 0 ≡ id → ((k : ℕ) → k < place → get_or ids k 0 ≡ id → ⊥)
      → file_of (drop i es) id ≡ some (get_or fs place 0)
  back_from zero i id place e l a g =
      let o : place ≡ i = omega (arith, e) in
      rw o (file_here ids fs i id (rw o at l) (rw o at a))
  back_from (suc n) i id place e l a g =
      file_next ids fs i id (omega (arith, e, l)) (g i (omega (arith, e))) ∙ back_from n (i + 1) id place (omega (arith, e)) l a g

  first_file : (id f : ℕ) → file_of es id ≡ some f → FirstFile ids fs id f
  first_file id f e =
      let w = found_from (count ids fs) 0 id f (omega arith) e in
      record {
        place = w.place;
        listed = below_listed w.place w.below;
        its_id = w.its_id;
        its_file = w.its_file;
        first = λ i h z. w.first i (omega arith) h z;
      }

  file_first : (id f : ℕ) → FirstFile ids fs id f → file_of es id ≡ some f
  file_first id f w =
      back_from w.place 0 id w.place (omega arith) (listed_below w.place w.listed) w.its_id w.first ∙ ap some w.its_file

-- ---- the rows

names_changed : (r : Row) (id : ℕ) → Names r id → Among id (changed_in r)
names_changed (relation j space v identity ds) id h = absurd h
names_changed (type j space v) id h = absurd h
names_changed (origin position v) id h = absurd h
names_changed (insert j new) id h = inl h
names_changed (update j new) id h = inl h
names_changed (update_from j which old new) id h = inl h
names_changed (delete j which old) id h = inl h
names_changed (truncate options ids) id h = h

one_of : (j id : ℕ) → Among id (j ∷ []) → j ≡ id
one_of j id (inl e) = e
one_of j id (inr e) = absurd e

changed_names : (r : Row) (id : ℕ) → Among id (changed_in r) → Names r id
changed_names (relation j space v identity ds) id h = absurd h
changed_names (type j space v) id h = absurd h
changed_names (origin position v) id h = absurd h
changed_names (insert j new) id h = one_of j id h
changed_names (update j new) id h = one_of j id h
changed_names (update_from j which old new) id h = one_of j id h
changed_names (delete j which old) id h = one_of j id h
changed_names (truncate options ids) id h = h

-- data that change a relation are a row's
changed_row : (s : List ℕ) → are_bytes s ≡ true → (id : ℕ) (said : Said) → row_said s ≡ said → Among id (changed_by said)
    → (r : Row) × RowFits r × (surplus : List ℕ) × (s ≡ row_bytes r ++ surplus) × Names r id
changed_row s b id (row r) e h = let w = read_is_sent s r b e in (r, w.0, w.1, w.2, changed_names r id h)
changed_row s b id no_row e h = absurd h
changed_row s b id (refused_by n) e h = absurd h

row_changes : (ids fs : List ℕ) (s : List ℕ) (f : ℕ) (w : Reaches ids fs s f) → Among w.id (changed_by (row_said s))
row_changes ids fs s f w =
    let e : row_said s ≡ row w.sent = ap row_said w.whole ∙ sent_is_read w.sent w.surplus w.fits in
    rw e (names_changed w.sent w.id w.named)

reaches_from : (ids fs : List ℕ) (s : List ℕ) → are_bytes s ≡ true → (f id : ℕ) → Among id (changed_by (row_said s))
    → file_of (entries_of ids fs) id ≡ some f
    → Reaches ids fs s f
reaches_from ids fs s b f id h e =
    let w = changed_row s b id (row_said s) refl h in
    record { sent = w.0; fits = w.1; surplus = w.2; whole = w.3; id = id; named = w.4; filed = first_file ids fs id f e }

-- ---- one call

true_or : (a b : Bool) → a ≡ true → pick a true b ≡ true
true_or a b e = rw e

or_it : (a b : Bool) → b ≡ true → pick a true b ≡ true
or_it true b e = refl
or_it false b e = e

module _ (es : List (ℕ × ℕ)) (ids : List ℕ) (b : Files) where
  has_kept : (f : ℕ) → Has b f → Has (with_all es ids b) f
  has_kept zero h = true_or _ _ h
  has_kept (suc zero) h = true_or _ _ h
  has_kept (suc (suc zero)) h = true_or _ _ h
  has_kept (suc (suc (suc zero))) h = true_or _ _ h
  has_kept (suc (suc (suc (suc f)))) h = h

  has_among : (f : ℕ) → f ≤ 3 → is_among es f ids ≡ true → Has (with_all es ids b) f
  has_among zero l h = or_it b.zero (is_among es 0 ids) h
  has_among (suc zero) l h = or_it b.one (is_among es 1 ids) h
  has_among (suc (suc zero)) l h = or_it b.two (is_among es 2 ids) h
  has_among (suc (suc (suc zero))) l h = or_it b.three (is_among es 3 ids) h
  has_among (suc (suc (suc (suc f)))) l h = absurd (omega (arith, l))

  has_either : (f : ℕ) → Has (with_all es ids b) f → Has b f ⊎ (is_among es f ids ≡ true)
  has_either zero h = either _ _ h
  has_either (suc zero) h = either _ _ h
  has_either (suc (suc zero)) h = either _ _ h
  has_either (suc (suc (suc zero))) h = either _ _ h
  has_either (suc (suc (suc (suc f)))) h = absurd h

after_data : (ids fs : List ℕ) → AllFiles ids fs → (s : List ℕ) → are_bytes s ≡ true → (b : Files) → AfterData ids fs s b
unfolding after_of
after_data ids fs a s bs b =
    let es : List (ℕ × ℕ) = entries_of ids fs in
    let ok = list_accepted ids fs a in
    let changed : List ℕ = changed_by (row_said s) in
    record {
      answered = rw ok;
      kept = λ f h. rw ok (has_kept es changed b f h);
      reached = λ f w.
          let g = w.filed in
          let small : f ≤ 3 = rw (← g.its_file) (a g.place g.listed) in
          rw ok (has_among es changed b f small (among_finds es f changed w.id (row_changes ids fs s f w) (file_first ids fs w.id f g)));
      no_other = λ f h.
          let h₁ : Has (with_all es changed b) f = rw ok at h in
          ⊎_elim
          (λ (x : Has b f). inl x)
          (λ (x : is_among es f changed ≡ true). let w = among_found es f changed x in inr (reaches_from ids fs s bs f w.0 w.1 w.2))
          (has_either es changed b f h₁);
    }

pub call_laws : CallLaws
unfolding after_of
call_laws = record {
  refused = λ ids fs i l h t b. rw (list_refused ids fs i l h);
  begin = λ ids fs a b. rw (list_accepted ids fs a);
  with_data = after_data;
  leaves = λ ids fs a b. rw (list_accepted ids fs a);
}

-- ---- any list of calls

none_begins : (ts : List Told) → has_begin ts ≡ false → NoBegin ts
unfolding has_begin
none_begins [] h = tt
none_begins (begins ∷ ts) h = impossible cc
none_begins (brings s ∷ ts) h = ((λ k. k), none_begins ts h)
none_begins (nothing ∷ ts) h = ((λ k. k), none_begins ts h)

begins_none : (ts : List Told) → NoBegin ts → has_begin ts ≡ false
unfolding has_begin
begins_none [] h = refl
begins_none (begins ∷ ts) h = absurd (h.0 tt)
begins_none (brings s ∷ ts) h = begins_none ts h.1
begins_none (nothing ∷ ts) h = begins_none ts h.1

bytes_of_lem : (ts : List Told) → AllBytes ts → (front : List Told) (s : List ℕ) (back : List Told) → ts ≡ front ++ (brings s ∷ back) → are_bytes s ≡ true
bytes_of_lem [] h [] s back e = impossible cc
bytes_of_lem [] h (u ∷ front) s back e = impossible cc
bytes_of_lem (t ∷ ts) h [] s back e =
    let o : t ∷ ts ≡ brings s ∷ back = e in
    let q : t ≡ brings s = cc in
    let k : HasBytes (brings s) = rw q at h.0 in
    k
bytes_of_lem (t ∷ ts) h (u ∷ front) s back e =
    let o : t ∷ ts ≡ u ∷ (front ++ (brings s ∷ back)) = e in
    bytes_of_lem ts h.1 front s back (cc)

-- a file of the walk, by its number
walk_has : (es : List (ℕ × ℕ)) (ts : List Told) (f : ℕ) → f ≤ 3 → is_among es f (all_changed (since_begin ts)) ≡ true → Has (walk_of es ts) f
walk_has es ts zero l h = h
walk_has es ts (suc zero) l h = h
walk_has es ts (suc (suc zero)) l h = h
walk_has es ts (suc (suc (suc zero))) l h = h
walk_has es ts (suc (suc (suc (suc f)))) l h = absurd (omega (arith, l))

has_walk : (es : List (ℕ × ℕ)) (ts : List Told) (f : ℕ) → Has (walk_of es ts) f → is_among es f (all_changed (since_begin ts)) ≡ true
has_walk _ ts zero h = h
has_walk _ ts (suc zero) h = h
has_walk _ ts (suc (suc zero)) h = h
has_walk _ ts (suc (suc (suc zero))) h = h
has_walk _ ts (suc (suc (suc (suc f)))) h = absurd h

touched_since : (ids fs : List ℕ) → AllFiles ids fs → (ts : List Told) (f : ℕ) → TouchedSince ids fs f ts
    → Has (left_by (entries_of ids fs) none_touched ts) f
touched_since ids fs a ts f w =
    let es : List (ℕ × ℕ) = entries_of ids fs in
    let k = w.reaches in
    let g = k.filed in
    let small : f ≤ 3 = rw (← g.its_file) (a g.place g.listed) in
    let m : Touches es f ts = record {
      earlier = w.earlier;
      row_data = w.brought;
      later = w.later;
      there = w.there;
      since = begins_none w.later w.since;
      id = k.id;
      changed = row_changes ids fs w.brought f k;
      filed = entry_found es k.id f (file_first ids fs k.id f g);
    } in
    rw (left_is_the_walk es ts (list_accepted ids fs a)) (walk_has es ts f small (walk_laws.finds es f ts m))

entry_file : (es : List (ℕ × ℕ)) (id f : ℕ) → FirstEntry es id f → file_of es id ≡ some f
entry_file _ id f w = ap (λ (x : List (ℕ × ℕ)). file_of x id) w.there ∙ entry_finds w.front w.back id f w.first

since_touched : (ids fs : List ℕ) → AllFiles ids fs → (ts : List Told) → AllBytes ts → (f : ℕ)
    → Has (left_by (entries_of ids fs) none_touched ts) f → TouchedSince ids fs f ts
since_touched ids fs a ts bs f h =
    let es : List (ℕ × ℕ) = entries_of ids fs in
    let h₁ : Has (walk_of es ts) f = rw (left_is_the_walk es ts (list_accepted ids fs a)) at h in
    let m = walk_laws.found es f ts (has_walk es ts f h₁) in
    let s : List ℕ = m.row_data in
    record {
      earlier = m.earlier;
      brought = s;
      later = m.later;
      there = m.there;
      since = none_begins m.later m.since;
      reaches =
          reaches_from ids fs s (bytes_of_lem ts bs m.earlier s m.later m.there) f m.id m.changed (entry_file es m.id f m.filed);
    }

pub touched_laws : TouchedLaws
touched_laws = record { touched = touched_since; no_other = since_touched }

-- ---- the values of the code

bit_both : (n : ℕ) → (eqb n 1 ≡ true → n ≡ 1) × (n ≡ 1 → eqb n 1 ≡ true)
bit_both n = ((λ h. eqb-true n 1 h), (λ h. eq-eqb n 1 h))

full_each : (x y z w : Bool) → is_full (files x y z w) ≡ true → (f : ℕ) → f ≤ 3 → Has (files x y z w) f
full_each true true true true h zero l = refl
full_each true true true true h (suc zero) l = refl
full_each true true true true h (suc (suc zero)) l = refl
full_each true true true true h (suc (suc (suc zero))) l = refl
full_each true true true true h (suc (suc (suc (suc f)))) l = absurd (omega (arith, l))
full_each true true true false h f l = impossible cc
full_each true true false w h f l = impossible cc
full_each true false z w h f l = impossible cc
full_each false y z w h f l = impossible cc

each_full : (b : Files) → ((f : ℕ) → f ≤ 3 → Has b f) → is_full b ≡ true
each_full b h =
    let p : b.zero ≡ true = h 0 (omega arith) in
    let q : b.one ≡ true = h 1 (omega arith) in
    let r : b.two ≡ true = h 2 (omega arith) in
    let s : b.three ≡ true = h 3 (omega arith) in
    rw (p, q, r, s)

one_refusal : (b : Files) (r : FileRefusal) → answer_by b (Err r) ≡ (31, b)
one_refusal b FileRefusal.NoSuchFile = refl

pub file_laws : FileLaws
unfolding files_by
file_laws = record {
  bit_zero = λ n. bit_both (n % 2);
  bit_one = λ n. bit_both (n / 2 % 2);
  bit_two = λ n. bit_both (n / 4 % 2);
  bit_three = λ n. bit_both (n / 8 % 2);
  full = λ b h f l. full_each b.zero b.one b.two b.three h f l;
  not_full = each_full;
  none_at_first = refl;
  left = λ b c. refl;
  refused = one_refusal;
  begin_told = λ s. refl;
  data_told = λ s. refl;
  nothing_told = λ s. refl;
}
