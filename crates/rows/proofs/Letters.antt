-- Data by their first letter.
use mathlib.Core.Path.{◌≡◌, refl, sym, ap, ◌∙◌}
use mathlib.Core.Bool.{true, false}
use mathlib.Core.List.{List, [], ◌∷◌}
use mathlib.Core.Logic.{inl, inr}
use mathlib.Core.Option.{some}
use Prim.Native.Char.{code}
use Prim.Native.Nat.{ℕ}
use native.Mathlib.Omega.{arith}
use lib.ListN.{length, get_or}
use Rattle.std.specs.Prelude.{Option as Answer_of, Some, Result, Ok, Err}
use Rattle.std.specs.Result.{MatchResult, IsOkAnd}
use Rattle.wire.specs.Field.{field_at}
use Rattle.wire.proofs.FieldLaws.{field_whole, field_cut, be_one}
use Rattle.rows.specs.Layout.{Layout, Letters, or, Choice, Read, got, refused, read_at, choose_at}
use Rattle.rows.specs.Rows.{Row, relation_layout, type_layout, origin_layout, insert_layout, update_layout, delete_layout, truncate_layout}
use Rattle.rows.specs.Rows.{row_letters, row_layout, relation_of, type_of, origin_of, insert_of, update_of, delete_of, truncate_of, row_of}
use Rattle.rows.specs.Rows.{boundary_letter, said_of, row_said}
use Rattle.rows.specs.Head.{Head, head_of, Answer, none as no_answer, refusal, answer_of, answer_by, message_by, head_told}
use Rattle.rows.specs.declared.Refusal.{Refusal}
use Rattle.rows.specs.declared.Row.{Row as RowAnswer}
use Rattle.rows.proofs.Heads.{head_told_lem}
use Rattle.rows.proofs.Steps.{letter_got, letter_cut, choose_here, choose_next, choose_none}

said_head : {A : Type 0} (f : A → Row) (r : Read A) → answer_of (said_of f r) ≡ head_told (λ v. head_of (f v)) r
said_head f (got v j) = refl
said_head f (refused n) = refl

pub no_data : (s : List ℕ) → length s ≡ 0 → refusal 26 ≡ answer_of (row_said s)
unfolding row_said
no_data [] e = rw (letter_cut [] 0 row_letters (field_cut 1 [] 0 (omega arith)))
no_data (b ∷ t) e = absurd (omega arith)

pub boundary : (s : List ℕ) → (length s ≡ 0 → ⊥) → true ≡ boundary_letter (get_or s 0 0) → no_answer ≡ answer_of (row_said s)
unfolding row_said
boundary [] n h = absurd (n refl)
boundary (b ∷ t) n h = rw (← h)

first : (s : List ℕ) → (length s ≡ 0 → ⊥) → field_at 1 s 0 ≡ some (get_or s 0 0)
first [] n = absurd (n refl)
first (b ∷ t) n = field_whole 1 (b ∷ t) 0 (omega arith) ∙ ap some (be_one (b ∷ t) 0 (omega arith))

opened : (s : List ℕ) → (length s ≡ 0 → ⊥) → false ≡ boundary_letter (get_or s 0 0) → row_said s ≡ said_of row_of (read_at row_layout s 0)
unfolding row_said
opened [] n h = absurd (n refl)
opened (b ∷ t) n h = rw (← h)

module _ (s : List ℕ) (n : length s ≡ 0 → ⊥) (h : false ≡ boundary_letter (get_or s 0 0)) where
  abbrev b : ℕ
  b = get_or s 0 0

  abbrev Says : Answer → Type 0
  Says x = x ≡ answer_of (row_said s)

  -- what is told of the letter's layout
  told_row : head_told (λ v. head_of (row_of v)) (read_at row_layout s 0) ≡ answer_of (row_said s)
  told_row = sym (ap answer_of (opened s n h) ∙ said_head row_of (read_at row_layout s 0))

  row_read : read_at row_layout s 0 ≡ choose_at row_letters b s 1
  row_read = letter_got s 0 row_letters b (first s n)

  -- the layouts from the first letter on, each with what is told of its value
  start : head_told (λ v. head_of (row_of v)) (choose_at row_letters b s 1) ≡ answer_of (row_said s)
  start = ap (head_told (λ v. head_of (row_of v))) (sym row_read) ∙ told_row

  module _ (c : ℕ) (l : Layout) (ls : Letters) (g : Choice (or c l ls) → Head) {x : Answer} (t : head_told g (choose_at (or c l ls) b s 1) ≡ x) where
    -- the letter is here
    here : b ≡ c → head_told (λ v. g (inl v)) (read_at l s 1) ≡ x
    here e = sym (ap (head_told g) (choose_here s 1 c l ls b e) ∙ head_told_lem g inl (read_at l s 1)) ∙ t

    -- it is another
    next : (b ≡ c → ⊥) → head_told (λ v. g (inr v)) (choose_at ls b s 1) ≡ x
    next e = sym (ap (head_told g) (choose_next s 1 c l ls b e) ∙ head_told_lem g inr (choose_at ls b s 1)) ∙ t

  pub relation_row : b ≡ code "R" → {x : Answer} → x ≡ head_told (λ v. head_of (relation_of v)) (read_at relation_layout s 1) → Says x
  relation_row e m = m ∙ here _ _ _ _ start e

  module _ (r : b ≡ code "R" → ⊥) where
    pub type_row : b ≡ code "Y" → {x : Answer} → x ≡ head_told (λ v. head_of (type_of v)) (read_at type_layout s 1) → Says x
    type_row e m = m ∙ here _ _ _ _ (next _ _ _ _ start r) e

    module _ (y : b ≡ code "Y" → ⊥) where
      pub origin_row : b ≡ code "O" → {x : Answer} → x ≡ head_told (λ v. head_of (origin_of v)) (read_at origin_layout s 1) → Says x
      origin_row e m = m ∙ here _ _ _ _ (next _ _ _ _ (next _ _ _ _ start r) y) e

      module _ (o : b ≡ code "O" → ⊥) where
        pub insert_row : b ≡ code "I" → {x : Answer} → x ≡ head_told (λ v. head_of (insert_of v)) (read_at insert_layout s 1) → Says x
        insert_row e m = m ∙ here _ _ _ _ (next _ _ _ _ (next _ _ _ _ (next _ _ _ _ start r) y) o) e

        module _ (i : b ≡ code "I" → ⊥) where
          pub update_row : b ≡ code "U" → {x : Answer} → x ≡ head_told (λ v. head_of (update_of v)) (read_at update_layout s 1) → Says x
          update_row e m = m ∙ here _ _ _ _ (next _ _ _ _ (next _ _ _ _ (next _ _ _ _ (next _ _ _ _ start r) y) o) i) e

          module _ (u : b ≡ code "U" → ⊥) where
            pub delete_row : b ≡ code "D" → {x : Answer} → x ≡ head_told (λ v. head_of (delete_of v)) (read_at delete_layout s 1) → Says x
            delete_row e m = m ∙ here _ _ _ _ (next _ _ _ _ (next _ _ _ _ (next _ _ _ _ (next _ _ _ _ (next _ _ _ _ start r) y) o) i) u) e

            module _ (d : b ≡ code "D" → ⊥) where
              pub truncate_row : b ≡ code "T" → {x : Answer} → x ≡ head_told (λ v. head_of (truncate_of v)) (read_at truncate_layout s 1) → Says x
              truncate_row e m = m ∙ here _ _ _ _ (next _ _ _ _ (next _ _ _ _ (next _ _ _ _ (next _ _ _ _ (next _ _ _ _ (next _ _ _ _ start r) y) o) i) u) d) e

              pub other_letter : (b ≡ code "T" → ⊥) → Says (refusal 27)
              other_letter t = ap (head_told {A = ⊥} (λ v. head_of (absurd v))) (sym (choose_none s 1 b))
                  ∙ next _ _ _ _ (next _ _ _ _ (next _ _ _ _ (next _ _ _ _ (next _ _ _ _ (next _ _ _ _ (next _ _ _ _ start r) y) o) i) u) d) t

-- the answer of a message is the data's
pub with_row : (r : Result RowAnswer Refusal) (m : Result (Answer_of RowAnswer) Refusal) → MatchResult r (λ x. IsOkAnd m (λ y. y ≡ Some x)) (λ e. m ≡ Err e)
    → answer_by m ≡ message_by r
with_row (Ok x) (Ok y) h = rw h
with_row (Ok x) (Err e) h = absurd h
with_row (Err e) m h = rw h
