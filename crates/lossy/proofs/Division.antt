-- The parts that are found are the only division of a text by the Unicode Standard.
use mathlib.Core.Path.{◌≡◌, refl, sym, ap, ◌∙◌}
use mathlib.Core.Bool.{Bool, true, false}
use mathlib.Core.List.{List, [], ◌∷◌, ◌++◌, map}
use mathlib.Core.Logic.{inl, inr, ⊎_elim}
use Prim.Native.Nat.{ℕ, ◌+◌, ◌≤◌, ◌<◌}
use native.Mathlib.Nat.{not-suc-le-zero}
use native.Mathlib.Omega.{arith}
use lib.ListN.{length, take, length-append}
use lib.Seq.{take-append_seam, take-append-add}
use lib.Dec.{leb, ltb}
use borrow.Author.Tests.{leb-true, ltb-true, ltb-false}
use Rattle.wire.specs.Bytes.{pick}
use Rattle.wire.proofs.Laws.{by_test, impossible}
use Rattle.utf8.specs.WellFormed.{Range, table, within, row_of}
use Rattle.lossy.specs.Lossy.{Part, well, ill, parts_of, shown_all, lossy_of}
use Rattle.lossy.specs.Marks.{marks_all, marks_of}
use Rattle.lossy.specs.Stretch.{stretch_all, stretch_of}
use Rattle.lossy.specs.Parts.{Matches, Begins, AnyRow, Sequence, Beginning, Maximal, bytes_of_all, Right}
use Rattle.lossy.specs.Division.{In, Character, row_1, row_2, row_3, row_4, row_5, row_6, row_7, row_8, row_9, BeginsOne, IllFormed, Piece}
use Rattle.lossy.specs.Division.{character, ill_formed, bytes_in, IsPiece, Divides, substituted, ill_formed_in, before_ill_formed, DivisionLaws}
use Rattle.lossy.proofs.Parts.{any_map, any_some, matched_front, sequence_row, none_empty, table_apart, parts_are_right}
use Rattle.lossy.proofs.Encoding.{inside, range_of}

-- ---- the rows of the table

is_in : (low high b : ℕ) → In low high b → within (record { low = low; high = high }) b ≡ true
is_in low high b w = inside (record { low = low; high = high }) b w.0 w.1

pub to_sequence : {s : List ℕ} → Character s → Sequence s
unfolding table
to_sequence (row_1 a) = inl (is_in _ _ _ a, tt)
to_sequence (row_2 a b) = inr (inl (is_in _ _ _ a, (is_in _ _ _ b, tt)))
to_sequence (row_3 a b c) = inr (inr (inl (is_in _ _ _ a, (is_in _ _ _ b, (is_in _ _ _ c, tt)))))
to_sequence (row_4 a b c) = inr (inr (inr (inl (is_in _ _ _ a, (is_in _ _ _ b, (is_in _ _ _ c, tt))))))
to_sequence (row_5 a b c) = inr (inr (inr (inr (inl (is_in _ _ _ a, (is_in _ _ _ b, (is_in _ _ _ c, tt)))))))
to_sequence (row_6 a b c) = inr (inr (inr (inr (inr (inl (is_in _ _ _ a, (is_in _ _ _ b, (is_in _ _ _ c, tt))))))))
to_sequence (row_7 a b c d) = inr (inr (inr (inr (inr (inr (inl (is_in _ _ _ a, (is_in _ _ _ b, (is_in _ _ _ c, (is_in _ _ _ d, tt))))))))))
to_sequence (row_8 a b c d) = inr (inr (inr (inr (inr (inr (inr (inl (is_in _ _ _ a, (is_in _ _ _ b, (is_in _ _ _ c, (is_in _ _ _ d, tt)))))))))))
to_sequence (row_9 a b c d) =
    inr (inr (inr (inr (inr (inr (inr (inr (inl (is_in _ _ _ a, (is_in _ _ _ b, (is_in _ _ _ c, (is_in _ _ _ d, tt))))))))))))

-- a text of a row's bytes, by its number of bytes
one_of : (r : Range) (s : List ℕ) → Matches (r ∷ []) s → ((a : ℕ) → In r.low r.high a → Character (a ∷ [])) → Character s
one_of r [] w f = absurd w
one_of r (a ∷ []) w f = f a (range_of r a w.0)
one_of r (a ∷ b ∷ s) w f = absurd w.1

two_of : (r₀ r₁ : Range) (s : List ℕ) → Matches (r₀ ∷ r₁ ∷ []) s
    → ((a b : ℕ) → In r₀.low r₀.high a → In r₁.low r₁.high b → Character (a ∷ b ∷ [])) → Character s
two_of r₀ r₁ [] w f = absurd w
two_of r₀ r₁ (a ∷ []) w f = absurd w.1
two_of r₀ r₁ (a ∷ b ∷ []) w f = f a b (range_of r₀ a w.0) (range_of r₁ b w.1.0)
two_of r₀ r₁ (a ∷ b ∷ c ∷ s) w f = absurd w.1.1

three_of : (r₀ r₁ r₂ : Range) (s : List ℕ) → Matches (r₀ ∷ r₁ ∷ r₂ ∷ []) s
    → ((a b c : ℕ) → In r₀.low r₀.high a → In r₁.low r₁.high b → In r₂.low r₂.high c → Character (a ∷ b ∷ c ∷ [])) → Character s
three_of r₀ r₁ r₂ [] w f = absurd w
three_of r₀ r₁ r₂ (a ∷ []) w f = absurd w.1
three_of r₀ r₁ r₂ (a ∷ b ∷ []) w f = absurd w.1.1
three_of r₀ r₁ r₂ (a ∷ b ∷ c ∷ []) w f = f a b c (range_of r₀ a w.0) (range_of r₁ b w.1.0) (range_of r₂ c w.1.1.0)
three_of r₀ r₁ r₂ (a ∷ b ∷ c ∷ d ∷ s) w f = absurd w.1.1.1

four_of : (r₀ r₁ r₂ r₃ : Range) (s : List ℕ) → Matches (r₀ ∷ r₁ ∷ r₂ ∷ r₃ ∷ []) s
    → ((a b c d : ℕ) → In r₀.low r₀.high a → In r₁.low r₁.high b → In r₂.low r₂.high c → In r₃.low r₃.high d
    → Character (a ∷ b ∷ c ∷ d ∷ [])) → Character s
four_of r₀ r₁ r₂ r₃ [] w f = absurd w
four_of r₀ r₁ r₂ r₃ (a ∷ []) w f = absurd w.1
four_of r₀ r₁ r₂ r₃ (a ∷ b ∷ []) w f = absurd w.1.1
four_of r₀ r₁ r₂ r₃ (a ∷ b ∷ c ∷ []) w f = absurd w.1.1.1
four_of r₀ r₁ r₂ r₃ (a ∷ b ∷ c ∷ d ∷ []) w f =
    f a b c d (range_of r₀ a w.0) (range_of r₁ b w.1.0) (range_of r₂ c w.1.1.0) (range_of r₃ d w.1.1.1.0)
four_of r₀ r₁ r₂ r₃ (a ∷ b ∷ c ∷ d ∷ e ∷ s) w f = absurd w.1.1.1.1

to_character : (s : List ℕ) → Sequence s → Character s
unfolding table
to_character s (inl w) = one_of _ s w (λ a p. row_1 p)
to_character s (inr (inl w)) = two_of _ _ s w (λ a b p q. row_2 p q)
to_character s (inr (inr (inl w))) = three_of _ _ _ s w (λ a b c p q r. row_3 p q r)
to_character s (inr (inr (inr (inl w)))) = three_of _ _ _ s w (λ a b c p q r. row_4 p q r)
to_character s (inr (inr (inr (inr (inl w))))) = three_of _ _ _ s w (λ a b c p q r. row_5 p q r)
to_character s (inr (inr (inr (inr (inr (inl w)))))) = three_of _ _ _ s w (λ a b c p q r. row_6 p q r)
to_character s (inr (inr (inr (inr (inr (inr (inl w))))))) = four_of _ _ _ _ s w (λ a b c d p q r t. row_7 p q r t)
to_character s (inr (inr (inr (inr (inr (inr (inr (inl w)))))))) = four_of _ _ _ _ s w (λ a b c d p q r t. row_8 p q r t)
to_character s (inr (inr (inr (inr (inr (inr (inr (inr (inl w))))))))) = four_of _ _ _ _ s w (λ a b c d p q r t. row_9 p q r t)
to_character s (inr (inr (inr (inr (inr (inr (inr (inr (inr w))))))))) = absurd w

-- ---- beginnings

-- every range of the rows has a byte
abbrev some_byte : List Range → Bool
some_byte [] = true
some_byte (r ∷ rs) = pick (leb r.low r.high) (some_byte rs) false

abbrev all_some : List (List Range) → Bool
all_some [] = true
all_some (row ∷ rows) = pick (some_byte row) (all_some rows) false

table_some : all_some table ≡ true
unfolding table
table_some = refl

pick_true : (a b : Bool) → pick a b false ≡ true → (a ≡ true) × (b ≡ true)
pick_true true b e = (refl, e)
pick_true false b e = impossible cc

-- the rest of a row's bytes
completed : (row : List Range) (s : List ℕ) → some_byte row ≡ true → Begins row s → (t : List ℕ) × Matches row (s ++ t)
completed [] [] e w = ([], tt)
completed [] (b ∷ s) e w = absurd w
completed (r ∷ rs) [] e w =
    let p = pick_true (leb r.low r.high) (some_byte rs) e in
    let i = completed rs [] p.1 tt in
    let h : r.low ≤ r.high = leb-true _ _ p.0 in
    (r.low ∷ i.0, (inside r r.low (omega arith) h, i.1))
completed (r ∷ rs) (b ∷ s) e w =
    let p = pick_true (leb r.low r.high) (some_byte rs) e in
    let i = completed rs s p.1 w.1 in
    (i.0, (w.0, i.1))

some_row : (rows : List (List Range)) (row : List Range) → all_some rows ≡ true → AnyRow rows (λ x. x ≡ row) → some_byte row ≡ true
some_row [] row e w = absurd w
some_row (x ∷ rows) row e (inl q) = rw q at (pick_true (some_byte x) (all_some rows) e).0
some_row (x ∷ rows) row e (inr q) = some_row rows row (pick_true (some_byte x) (all_some rows) e).1 q

to_begins : (s : List ℕ) → Beginning s → BeginsOne s
to_begins s w =
    let v = any_some table (λ row. Begins row s) w in
    let c = completed v.0 s (some_row table v.0 table_some v.1) v.2 in
    (c.0, to_character (s ++ c.0) (any_map table (λ x. x ≡ v.0) (λ row. Matches row (s ++ c.0)) (λ row q. rw q c.1) v.1))

front_begins : (row : List Range) (s t : List ℕ) → Matches row (s ++ t) → Begins row s
front_begins row [] t w = tt
front_begins [] (b ∷ s) t w = absurd w
front_begins (r ∷ rs) (b ∷ s) t w = (w.0, front_begins rs s t w.1)

to_beginning : (s : List ℕ) → BeginsOne s → Beginning s
to_beginning s w = any_map table (λ row. Matches row (s ++ w.0)) (λ row. Begins row s) (λ row m. front_begins row s w.0 m) (to_sequence w.1)

-- ---- the parts are a division

to_ill_formed : (p rest : List ℕ) → Maximal p rest → IllFormed p rest
to_ill_formed p rest m =
    record {
      unconvertible = λ c t e w. m.unconvertible (length c) (rw (← e, take-append_seam c t) (to_sequence w));
      some = m.some;
      subpart = ⊎_elim (λ w. inl (to_begins p w)) (λ e. inr e) m.part;
      longest =
          λ q t e h w.
          let l : length q ≤ length (p ++ rest) = rw (← e) (rw length-append (omega arith)) in
          m.longest (length q) h l (rw (← e, take-append_seam q t) (to_beginning q w));
    }

abbrev piece_of : Part → Piece
piece_of (well c) = character c
piece_of (ill p) = ill_formed p

right_divides : (ps : List Part) → Right ps → Divides (map piece_of ps) (bytes_of_all ps)
right_divides [] w = refl
right_divides (well c ∷ ps) w = (bytes_of_all ps, refl, to_character c w.0, right_divides ps w.1)
right_divides (ill p ∷ ps) w = (bytes_of_all ps, refl, to_ill_formed p (bytes_of_all ps) w.0, right_divides ps w.1)

found : (s : List ℕ) → Divides (map piece_of (parts_of (length s) s)) s
found s =
    let w = parts_are_right s in
    rw w.0 at (right_divides (parts_of (length s) s) w.1)

-- ---- and the only one

same_front : (a b r t : List ℕ) → a ++ r ≡ b ++ t → length a ≡ length b → (a ≡ b) × (r ≡ t)
same_front [] [] r t e l = (refl, e)
same_front [] (y ∷ b) r t e l = absurd (omega arith)
same_front (x ∷ a) [] r t e l = absurd (omega arith)
same_front (x ∷ a) (y ∷ b) r t e l =
    let h : x ≡ y = cc in
    let m : a ++ r ≡ b ++ t = cc in
    let i = same_front a b r t m (omega arith) in
    (rw (h, i.0), i.1)

not_empty : Character [] → ⊥
not_empty w = none_empty table table_apart (to_sequence w)

same_length : (c d r t : List ℕ) → c ++ r ≡ d ++ t → Character c → Character d → length c ≡ length d
same_length [] d r t e v w = absurd (not_empty v)
same_length (a ∷ c) [] r t e v w = absurd (not_empty w)
same_length (a ∷ c) (b ∷ d) r t e v w =
    let h : a ≡ b = cc in
    let x = (matched_front (row_of table a) (a ∷ c) [] (sequence_row a c (to_sequence v))).1 in
    let y = (matched_front (row_of table b) (b ∷ d) [] (sequence_row b d (to_sequence w))).1 in
    x ∙ rw h (sym y)

-- a maximal subpart is no longer than another at the same place
no_longer : (p q r t : List ℕ) → p ++ r ≡ q ++ t → IllFormed p r → IllFormed q t → length q ≤ length p
no_longer p q r t e v w =
    by_test (ltb (length p) (length q))
    (λ l.
    let h : length p < length q = ltb-true _ _ l in
    let o : 1 ≤ length p = v.some in
    absurd (⊎_elim (λ b. v.longest q t (sym e) h b) (λ (k : length q ≡ 1). omega arith) w.subpart))
    (λ l. ltb-false _ _ l)

same_piece : (x y : Piece) (r t : List ℕ) → bytes_in x ++ r ≡ bytes_in y ++ t → IsPiece x r → IsPiece y t → (x ≡ y) × (r ≡ t)
same_piece (character c) (character d) r t e v w = let s = same_front c d r t e (same_length c d r t e v w) in (ap character s.0, s.1)
same_piece (character c) (ill_formed p) r t e v w = absurd (w.unconvertible c r e v)
same_piece (ill_formed p) (character d) r t e v w = absurd (v.unconvertible d t (sym e) w)
same_piece (ill_formed p) (ill_formed q) r t e v w =
    let a = no_longer p q r t e v w in
    let b = no_longer q p t r (sym e) w v in
    let s = same_front p q r t e (omega arith) in
    (ap ill_formed s.0, s.1)

piece_some : (x : Piece) (r : List ℕ) → IsPiece x r → bytes_in x ++ r ≡ [] → ⊥
piece_some (character []) r w e = not_empty w
piece_some (character (b ∷ c)) r w e = let z : ◌≡◌ {A = ℕ} 0 1 = cc in omega arith
piece_some (ill_formed []) r w e = not-suc-le-zero w.some
piece_some (ill_formed (b ∷ c)) r w e = let z : ◌≡◌ {A = ℕ} 0 1 = cc in omega arith

only : (xs ys : List Piece) (s : List ℕ) → Divides xs s → Divides ys s → xs ≡ ys
only [] [] s v w = refl
only [] (y ∷ ys) s v w = absurd (piece_some y w.0 w.2 (w.1 ∙ v))
only (x ∷ xs) [] s v w = absurd (piece_some x v.0 v.2 (v.1 ∙ w))
only (x ∷ xs) (y ∷ ys) s v w =
    let e = same_piece x y v.0 w.0 (v.1 ∙ sym w.1) v.2 w.2 in
    rw (e.0, only xs ys w.0 (rw e.1 at v.3) w.3)

-- ---- what the parts become

shown_parts : (ps : List Part) → shown_all ps ≡ substituted (map piece_of ps)
unfolding shown_all
shown_parts [] = refl
shown_parts (well c ∷ ps) = ap (λ (t : List ℕ). c ++ t) (shown_parts ps)
shown_parts (ill p ∷ ps) = ap (λ (t : List ℕ). 0xEF ∷ 0xBF ∷ 0xBD ∷ t) (shown_parts ps)

marked_parts : (ps : List Part) → marks_all ps ≡ ill_formed_in (map piece_of ps)
unfolding marks_all
marked_parts [] = refl
marked_parts (well c ∷ ps) = let i = marked_parts ps in omega arith
marked_parts (ill p ∷ ps) = let i = marked_parts ps in omega arith

stretched_parts : (ps : List Part) → stretch_all ps ≡ length (before_ill_formed (map piece_of ps))
unfolding stretch_all
stretched_parts [] = refl
stretched_parts (well c ∷ ps) = rw (stretched_parts ps, length-append)
stretched_parts (ill p ∷ ps) = refl

beginning_of : (xs : List Piece) (s : List ℕ) → Divides xs s → take (length (before_ill_formed xs)) s ≡ before_ill_formed xs
beginning_of [] s w = refl
beginning_of (ill_formed p ∷ xs) s w = refl
beginning_of (character c ∷ xs) s w =
    let b : List ℕ = before_ill_formed xs in
    let l : length (c ++ b) ≡ length c + length b = length-append c b in
    rw (l, ← w.1, take-append-add c w.0 (length b), beginning_of xs w.0 w.3)

stretch_is : (s : List ℕ) (xs : List Piece) → Divides xs s → stretch_of s ≡ length (before_ill_formed xs)
unfolding stretch_of
stretch_is s xs w =
    stretched_parts (parts_of (length s) s)
    ∙ ap (λ (ys : List Piece). length (before_ill_formed ys)) (only (map piece_of (parts_of (length s) s)) xs s (found s) w)

pub division_laws : DivisionLaws
unfolding lossy_of marks_of
division_laws =
    record {
      divided = λ s. (map piece_of (parts_of (length s) s), found s);
      one_division = λ s xs ys v w. only xs ys s v w;
      text = λ s xs w. shown_parts (parts_of (length s) s) ∙ ap substituted (only (map piece_of (parts_of (length s) s)) xs s (found s) w);
      marks = λ s xs w. marked_parts (parts_of (length s) s) ∙ ap ill_formed_in (only (map piece_of (parts_of (length s) s)) xs s (found s) w);
      beginning = λ s xs w. ap (λ (n : ℕ). take n s) (stretch_is s xs w) ∙ beginning_of xs s w;
      beginning_length = λ s xs w. stretch_is s xs w;
    }
