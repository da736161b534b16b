-- Each place of a count, a length and a letter: what stands in front of it is passed, and it is refused.
use mathlib.Core.Path.{◌≡◌, refl, sym, ap, ◌∙◌}
use mathlib.Core.Bool.{false}
use mathlib.Core.List.{List, [], ◌∷◌, ◌++◌, map, append_assoc}
use mathlib.Core.Logic.{◌⊎◌, inl, inr}
use Prim.Native.Char.{code}
use Prim.Native.Nat.{ℕ, ◌+◌, ◌-◌, ◌<◌, ◌≤◌, ◌^◌}
use native.Mathlib.Omega.{arith}
use lib.ListN.{length, drop, length-append, length-map}
use Rattle.wire.specs.Bytes.{be_bytes}
use Rattle.wire.specs.Find.{NoZero}
use Rattle.wire.specs.Int.{half}
use Rattle.wire.proofs.FieldLaws.{field_read}
use Rattle.rows.specs.Layout.{Layout, Letters, number, name, value, many, both, nothing, letter, no_other, or, Value, refused}
use Rattle.rows.specs.Layout.{read_at, choose_at, all_bytes, bytes_of, All, Fits, Proper}
use Rattle.rows.specs.Rows.{Cell, string_bytes, cell_bytes, tuple_bytes, which_letter, column_letters, column_layout, tuple_layout, described_layout}
use Rattle.rows.specs.Rows.{relation_layout, new_layout, insert_layout, old_new_layout, update_layout, delete_layout, truncate_layout}
use Rattle.rows.specs.Rows.{row_letters, row_layout}
use Rattle.rows.specs.Rows.{refused_by, boundary_letter, row_said}
use Rattle.rows.specs.RowLayout.{CellFits, TupleFits}
use Rattle.rows.specs.PlaceLaws.{TuplePlace, of_insert, of_update, of_old, of_new, of_delete, front_bytes, FrontFits, PlaceLaws}
use Rattle.rows.specs.declared.Which.{Which}
use Rattle.rows.specs.declared.Which.TheVariants.{Key, Old}
use Rattle.rows.proofs.Behind.{append_none, behind, right_inside, item_inside, Under, here, deeper, under_inside, first_field}
use Rattle.rows.proofs.Ends.{cell_bytes_lem}
use Rattle.rows.proofs.Sent.{column_proper, tuple_proper, cell_value, cell_back, cell_fits}
use Rattle.rows.proofs.Steps.{letter_got, choose_next, choose_none, count_negative, many_none}
use Rattle.rows.proofs.Tells.{column_filled}

-- ---- what is passed

-- behind the bytes p, a refusal of layout a is one of layout l
abbrev Passes : Layout → List ℕ → Layout → Type 0
Passes l p a = (s : List ℕ) (i : ℕ) (z : List ℕ) (n : ℕ) → drop i s ≡ p ++ z → read_at a s (i + length p) ≡ refused n → read_at l s i ≡ refused n

then : (l : Layout) (p : List ℕ) (a : Layout) (q : List ℕ) (b : Layout) → Passes l p a → Passes a q b → Passes l (p ++ q) b
then l p a q b f g s i z n d e =
    let d₁ : drop i s ≡ p ++ (q ++ z) = d ∙ append_assoc p q z in
    let d₂ : drop (i + length p) s ≡ q ++ z = behind s i p (q ++ z) d₁ in
    let o : i + length (p ++ q) ≡ i + length p + length q = omega (arith, length-append p q) in
    f s i (q ++ z) n d₁ (g s (i + length p) z n d₂ (rw o at e))

pass_under : (a : Layout) (ls : Letters) (c : ℕ) → Under a ls c → Passes (letter ls) (c ∷ []) a
pass_under a ls c u = (under_inside a ls c u).passes

pass_both : (a b : Layout) → Proper a → (v : Value a) → Fits a v → Passes (both a b) (bytes_of a v) b
pass_both a b p v f = (right_inside a b p v f).passes

pass_number : (k : ℕ) (b : Layout) → 0 < k → (v : ℕ) → v < 256 ^ k → Passes (both (number k) b) (be_bytes k v) b
unfolding bytes_of Fits
pass_number k b h v f = pass_both (number k) b h v f

pass_name : (b : Layout) (v : List ℕ) → NoZero v → Passes (both name b) (string_bytes v) b
unfolding bytes_of Fits
pass_name b v f = pass_both name b tt v f

pass_left : (a b : Layout) → Passes (both a b) [] a
unfolding read_at
pass_left a b s i z n d e =
    let o : i + 0 ≡ i = omega arith in
    rw (rw o at e)

-- ---- tuples

one_cell : (c : Cell) → bytes_of column_layout (cell_value c) ≡ cell_bytes c
one_cell c = cell_bytes_lem (cell_value c) ∙ ap cell_bytes (cell_back c)

all_cells : (cs : List Cell) → all_bytes (λ x. bytes_of column_layout x) (map cell_value cs) ≡ all_bytes cell_bytes cs
unfolding all_bytes
all_cells [] = refl
all_cells (c ∷ cs) = rw (one_cell c, all_cells cs)

fit_cells : (cs : List Cell) → All CellFits cs → All (λ x. Fits column_layout x) (map cell_value cs)
fit_cells [] a = tt
fit_cells (c ∷ cs) a = (cell_fits c a.0, fit_cells cs a.1)

pass_columns : (n : ℕ) (cs : List Cell) → n ≤ 32767 → All CellFits cs → length cs < n
    → Passes tuple_layout (be_bytes 2 n ++ all_bytes cell_bytes cs) column_layout
unfolding bytes_of Fits
pass_columns n cs h a l =
    let vs : List (Value column_layout) = map cell_value cs in
    let e : length vs ≡ length cs = length-map cs cell_value in
    let k : n < half 2 = omega (arith, h) in
    let w = (item_inside 2 nothing column_layout (omega arith) tt column_proper column_filled n k tt tt vs (n - 1 - length cs) (fit_cells cs a)
    (omega (arith, e, l))).passes in
    rw (all_cells cs) at w

pass_tuple : (b : Layout) (cs : List Cell) → TupleFits cs → Passes (both tuple_layout b) (tuple_bytes cs) b
unfolding bytes_of Fits tuple_bytes
pass_tuple b cs f =
    let vs : List (Value column_layout) = map cell_value cs in
    let e : length vs ≡ length cs = length-map cs cell_value in
    rw (e, all_cells cs) at (pass_both tuple_layout b tuple_proper (tt, vs) (rw e f.0, tt, fit_cells cs f.1))

-- ---- the letters of messages and tuples

insert_under : Under insert_layout row_letters (code "I")
insert_under = deeper _ _ _ _ _ refl (deeper _ _ _ _ _ refl (deeper _ _ _ _ _ refl (here _ _ _ _ refl)))

update_under : Under update_layout row_letters (code "U")
update_under = deeper _ _ _ _ _ refl (deeper _ _ _ _ _ refl (deeper _ _ _ _ _ refl (deeper _ _ _ _ _ refl (here _ _ _ _ refl))))

delete_under : Under delete_layout row_letters (code "D")
delete_under =
    deeper _ _ _ _ _ refl (deeper _ _ _ _ _ refl (deeper _ _ _ _ _ refl (deeper _ _ _ _ _ refl (deeper _ _ _ _ _ refl (here _ _ _ _ refl)))))

truncate_under : Under truncate_layout row_letters (code "T")
truncate_under =
    deeper _ _ _ _ _ refl (deeper _ _ _ _ _ refl (deeper _ _ _ _ _ refl (deeper _ _ _ _ _ refl (deeper _ _ _ _ _ refl
    (deeper _ _ _ _ _ refl (here _ _ _ _ refl))))))

abbrev old_letters : Layout → Layout → Letters
old_letters a b = or (code "K") a (or (code "O") a (or (code "N") b no_other))

old_under : (a b : Layout) (which : Which) → Under a (old_letters a b) (which_letter which)
old_under a b Key = here _ _ _ _ refl
old_under a b Old = deeper _ _ _ _ _ refl (here _ _ _ _ refl)

delete_old : (which : Which) → Under tuple_layout (or (code "K") tuple_layout (or (code "O") tuple_layout no_other)) (which_letter which)
delete_old Key = here _ _ _ _ refl
delete_old Old = deeper _ _ _ _ _ refl (here _ _ _ _ refl)

new_under : Under tuple_layout (or (code "N") tuple_layout no_other) (code "N")
new_under = here _ _ _ _ refl

update_new : Under tuple_layout (old_letters old_new_layout tuple_layout) (code "N")
update_new = deeper _ _ _ _ _ refl (deeper _ _ _ _ _ refl (here _ _ _ _ refl))

-- a letter that is none of them
not_new : (b : ℕ) → (b ≡ code "N" → ⊥) → (s : List ℕ) (i : ℕ) → choose_at (or (code "N") tuple_layout no_other) b s i ≡ refused 27
not_new b h s i = rw (choose_next s i (code "N") tuple_layout no_other b h, choose_none s i b)

wrong_at : (ls : Letters) (b : ℕ) → ((s : List ℕ) (i : ℕ) → choose_at ls b s i ≡ refused 27) → (s : List ℕ) (i : ℕ) (t : List ℕ) → drop i s ≡ b ∷ t
    → read_at (letter ls) s i ≡ refused 27
wrong_at ls b h s i t d = letter_got s i ls b (first_field s i b t d) ∙ h s (i + 1)

-- ---- the whole message

said : (c : ℕ) (p : List ℕ) (a : Layout) → Passes row_layout (c ∷ p) a → boundary_letter c ≡ false → (z : List ℕ) (n : ℕ)
    → ((s : List ℕ) (j : ℕ) → drop j s ≡ z → read_at a s j ≡ refused n) → row_said (c ∷ (p ++ z)) ≡ refused_by n
unfolding row_said
said c p a f b z n h =
    let s : List ℕ = c ∷ (p ++ z) in
    let r : read_at row_layout s 0 ≡ refused n = f s 0 z n refl (h s (0 + length (c ∷ p)) (behind s 0 (c ∷ p) z refl)) in
    rw (b, r)

module _ (id : ℕ) (k : id ≤ 4294967295) where
  small : id < 256 ^ 4
  small = omega (arith, k)

  insert_pass : Passes row_layout (code "I" ∷ be_bytes 4 id) new_layout
  insert_pass =
      then row_layout (code "I" ∷ []) insert_layout (be_bytes 4 id) new_layout (pass_under insert_layout row_letters (code "I") insert_under)
      (pass_number 4 new_layout (omega arith) id small)

  update_pass : Passes row_layout (code "U" ∷ be_bytes 4 id) (letter (old_letters old_new_layout tuple_layout))
  update_pass =
      then row_layout (code "U" ∷ []) update_layout (be_bytes 4 id) (letter (old_letters old_new_layout tuple_layout))
      (pass_under update_layout row_letters (code "U") update_under)
      (pass_number 4 (letter (old_letters old_new_layout tuple_layout)) (omega arith) id small)

  delete_pass : Passes row_layout (code "D" ∷ be_bytes 4 id) (letter (or (code "K") tuple_layout (or (code "O") tuple_layout no_other)))
  delete_pass =
      then row_layout (code "D" ∷ []) delete_layout (be_bytes 4 id) (letter (or (code "K") tuple_layout (or (code "O") tuple_layout no_other)))
      (pass_under delete_layout row_letters (code "D") delete_under)
      (pass_number 4 (letter (or (code "K") tuple_layout (or (code "O") tuple_layout no_other))) (omega arith) id small)

  old_pass : (which : Which) → Passes row_layout (code "U" ∷ (be_bytes 4 id ++ (which_letter which ∷ []))) old_new_layout
  old_pass which =
      then row_layout (code "U" ∷ be_bytes 4 id) (letter (old_letters old_new_layout tuple_layout)) (which_letter which ∷ []) old_new_layout update_pass
      (pass_under old_new_layout (old_letters old_new_layout tuple_layout) (which_letter which) (old_under old_new_layout tuple_layout which))

-- behind the bytes in front of a tuple
tuple_said : (p : TuplePlace) → FrontFits p → (z : List ℕ) (n : ℕ) → ((s : List ℕ) (j : ℕ) → drop j s ≡ z → read_at tuple_layout s j ≡ refused n)
    → row_said (front_bytes p ++ z) ≡ refused_by n
tuple_said (of_insert id) f z n h =
    said (code "I") (be_bytes 4 id ++ (code "N" ∷ [])) tuple_layout
    (then row_layout (code "I" ∷ be_bytes 4 id) new_layout (code "N" ∷ []) tuple_layout (insert_pass id f)
    (pass_under tuple_layout (or (code "N") tuple_layout no_other) (code "N") new_under)) refl z n h
tuple_said (of_update id) f z n h =
    said (code "U") (be_bytes 4 id ++ (code "N" ∷ [])) tuple_layout
    (then row_layout (code "U" ∷ be_bytes 4 id) (letter (old_letters old_new_layout tuple_layout)) (code "N" ∷ []) tuple_layout (update_pass id f)
    (pass_under tuple_layout (old_letters old_new_layout tuple_layout) (code "N") update_new)) refl z n h
tuple_said (of_old id which) f z n h =
    let w = then row_layout (code "U" ∷ (be_bytes 4 id ++ (which_letter which ∷ []))) old_new_layout [] tuple_layout (old_pass id f which)
    (pass_left tuple_layout new_layout) in
    said (code "U") (be_bytes 4 id ++ (which_letter which ∷ [])) tuple_layout
    (rw (append_none (be_bytes 4 id ++ (which_letter which ∷ []))) at w) refl z n h
tuple_said (of_new id which old) f z n h =
    let u = then old_new_layout (tuple_bytes old) new_layout (code "N" ∷ []) tuple_layout (pass_tuple new_layout old f.1)
    (pass_under tuple_layout (or (code "N") tuple_layout no_other) (code "N") new_under) in
    let w = then row_layout (code "U" ∷ (be_bytes 4 id ++ (which_letter which ∷ []))) old_new_layout (tuple_bytes old ++ (code "N" ∷ [])) tuple_layout
    (old_pass id f.0 which) u in
    said (code "U") (be_bytes 4 id ++ (which_letter which ∷ (tuple_bytes old ++ (code "N" ∷ [])))) tuple_layout
    (rw (append_assoc (be_bytes 4 id) (which_letter which ∷ []) (tuple_bytes old ++ (code "N" ∷ []))) at w) refl z n h
tuple_said (of_delete id which) f z n h =
    said (code "D") (be_bytes 4 id ++ (which_letter which ∷ [])) tuple_layout
    (then row_layout (code "D" ∷ be_bytes 4 id) (letter (or (code "K") tuple_layout (or (code "O") tuple_layout no_other))) (which_letter which ∷ [])
    tuple_layout (delete_pass id f)
    (pass_under tuple_layout (or (code "K") tuple_layout (or (code "O") tuple_layout no_other)) (which_letter which) (delete_old which))) refl z n h

-- behind some of its columns
column_said : (p : TuplePlace) → FrontFits p → (n : ℕ) (cs : List Cell) → n ≤ 32767 → All CellFits cs → length cs < n → (z : List ℕ) (m : ℕ)
    → ((s : List ℕ) (j : ℕ) → drop j s ≡ z → read_at column_layout s j ≡ refused m)
    → row_said (front_bytes p ++ (be_bytes 2 n ++ (all_bytes cell_bytes cs ++ z))) ≡ refused_by m
column_said p f n cs k a l z m h =
    tuple_said p f (be_bytes 2 n ++ (all_bytes cell_bytes cs ++ z)) m (λ s j d.
    let q : List ℕ = be_bytes 2 n ++ all_bytes cell_bytes cs in
    let d₁ : drop j s ≡ q ++ z = d ∙ sym (append_assoc (be_bytes 2 n) (all_bytes cell_bytes cs) z) in
    pass_columns n cs k a l s j z m d₁ (h s (j + length q) (behind s j q z d₁)))

-- a count that is negative
negative_at : (w : ℕ) → 0 < w → (a b : Layout) (n : ℕ) (t : List ℕ) → half w ≤ n → n < 256 ^ w → (s : List ℕ) (j : ℕ) → drop j s ≡ be_bytes w n ++ t
    → read_at (many w a b) s j ≡ refused 26
negative_at w z a b n t h k s j d = many_none s j w a b 26 (count_negative s j w n (field_read w s j n t z k d).0 h)

value_negative : (k : ℕ) (t : List ℕ) → half 4 ≤ k → k < 256 ^ 4 → (s : List ℕ) (j : ℕ) → drop j s ≡ be_bytes 4 k ++ t → read_at value s j ≡ refused 26
unfolding read_at
value_negative k t h l s j d = rw (count_negative s j 4 k (field_read 4 s j k t (omega arith) l d).0 h)

value_under : (c : ℕ) → (c ≡ code "t") ⊎ (c ≡ code "b") → Under value column_letters c
value_under c (inl e) = rw e (deeper _ _ _ _ _ refl (deeper _ _ _ _ _ refl (here _ _ _ _ refl)))
value_under c (inr e) = rw e (deeper _ _ _ _ _ refl (deeper _ _ _ _ _ refl (deeper _ _ _ _ _ refl (here _ _ _ _ refl))))

relation_pass : (id : ℕ) (space v : List ℕ) (identity : ℕ) → id ≤ 4294967295 → NoZero space → NoZero v → identity ≤ 255
    → Passes row_layout (code "R" ∷ (be_bytes 4 id ++ (string_bytes space ++ (string_bytes v ++ be_bytes 1 identity)))) (many 2 nothing described_layout)
relation_pass id space v identity a b c e =
    let m : Layout = many 2 nothing described_layout in
    let l₁ : Layout = both (number 1) m in
    let l₂ : Layout = both name l₁ in
    let l₃ : Layout = both name l₂ in
    then row_layout (code "R" ∷ []) relation_layout (be_bytes 4 id ++ (string_bytes space ++ (string_bytes v ++ be_bytes 1 identity))) m
    (pass_under relation_layout row_letters (code "R") (here _ _ _ _ refl))
    (then relation_layout (be_bytes 4 id) l₃ (string_bytes space ++ (string_bytes v ++ be_bytes 1 identity)) m
    (pass_number 4 l₃ (omega arith) id (omega (arith, a)))
    (then l₃ (string_bytes space) l₂ (string_bytes v ++ be_bytes 1 identity) m (pass_name l₂ space b)
    (then l₂ (string_bytes v) l₁ (be_bytes 1 identity) m (pass_name l₁ v c) (pass_number 1 m (omega arith) identity (omega (arith, e))))))

pub place_laws : PlaceLaws
place_laws = record {
  insert_letter = λ id b t k h.
      said (code "I") (be_bytes 4 id) new_layout (insert_pass id k) refl (b ∷ t) 27 (λ s j d.
      wrong_at (or (code "N") tuple_layout no_other) b (not_new b h) s j t d);
  update_letter = λ id b t k hk ho hn.
      said (code "U") (be_bytes 4 id) (letter (old_letters old_new_layout tuple_layout)) (update_pass id k) refl (b ∷ t) 27 (λ s j d.
      wrong_at (old_letters old_new_layout tuple_layout) b (λ s i.
      rw (choose_next s i _ _ _ b hk, choose_next s i _ _ _ b ho, choose_next s i _ _ _ b hn, choose_none s i b)) s j t d);
  delete_letter = λ id b t k hk ho.
      said (code "D") (be_bytes 4 id) (letter (or (code "K") tuple_layout (or (code "O") tuple_layout no_other))) (delete_pass id k) refl
      (b ∷ t) 27 (λ s j d.
      wrong_at (or (code "K") tuple_layout (or (code "O") tuple_layout no_other)) b (λ s i.
      rw (choose_next s i _ _ _ b hk, choose_next s i _ _ _ b ho, choose_none s i b)) s j t d);
  new_letter = λ id which old b t k f h.
      let w = then row_layout (code "U" ∷ (be_bytes 4 id ++ (which_letter which ∷ []))) old_new_layout (tuple_bytes old) new_layout (old_pass id k which)
      (pass_tuple new_layout old f) in
      let u = said (code "U") ((be_bytes 4 id ++ (which_letter which ∷ [])) ++ tuple_bytes old) new_layout w refl (b ∷ t) 27 (λ s j d.
      wrong_at (or (code "N") tuple_layout no_other) b (not_new b h) s j t d) in
      ap row_said (ap (λ (x : List ℕ). code "U" ∷ x) (simp append_assoc)) ∙ u;
  column_letter = λ p f n cs k a l b t hn hu ht hb.
      column_said p f n cs k a l (b ∷ t) 27 (λ s j d.
      wrong_at column_letters b (λ s i.
      rw (
        choose_next s i _ _ _ b hn,
        choose_next s i _ _ _ b hu,
        choose_next s i _ _ _ b ht,
        choose_next s i _ _ _ b hb,
        choose_none s i b,
      )) s j t d);
  tuple_count = λ p f n t h k.
      tuple_said p f (be_bytes 2 n ++ t) 26 (λ s j d.
      negative_at 2 (omega arith) nothing column_layout n t (omega (arith, h)) (omega (arith, k)) s j d);
  value_length = λ p f n cs k a l c m t e h q.
      column_said p f n cs k a l (c ∷ (be_bytes 4 m ++ t)) 26 (λ s j d.
      pass_under value column_letters c (value_under c e) s j (be_bytes 4 m ++ t) 26 d
      (value_negative m t (omega (arith, h)) (omega (arith, q)) s (j + 1) (behind s j (c ∷ []) (be_bytes 4 m ++ t) d)));
  relation_count = λ id space v identity n t a b c e h k.
      let p : List ℕ = be_bytes 4 id ++ (string_bytes space ++ (string_bytes v ++ be_bytes 1 identity)) in
      let u = said (code "R") p (many 2 nothing described_layout) (relation_pass id space v identity a b c e) refl (be_bytes 2 n ++ t) 26 (λ s j d.
      negative_at 2 (omega arith) nothing described_layout n t (omega (arith, h)) (omega (arith, k)) s j d) in
      ap row_said (ap (λ (x : List ℕ). code "R" ∷ x) (simp append_assoc)) ∙ u;
  truncate_count = λ n t h k.
      said (code "T") [] truncate_layout (pass_under truncate_layout row_letters (code "T") truncate_under) refl (be_bytes 4 n ++ t) 26 (λ s j d.
      negative_at 4 (omega arith) (number 1) (number 4) n t (omega (arith, h)) (omega (arith, k)) s j d);
}
