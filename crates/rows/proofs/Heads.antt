-- A row's head field by field: what is told of fields that were read is told of the layout, and the first bad field gives the refusal.
use mathlib.Core.Path.{◌≡◌, refl, ap, ◌∙◌}
use mathlib.Core.List.{List, [], ◌∷◌, ◌++◌}
use mathlib.Core.Logic.{inl, inr}
use mathlib.Core.Option.{some, none}
use Prim.Native.Char.{code}
use Prim.Native.Nat.{ℕ, zero, suc, ◌+◌, ◌<◌, ◌≤◌}
use native.Mathlib.Omega.{arith}
use lib.ListN.{length, length-map, length-append}
use Rattle.wire.specs.Field.{field_at}
use Rattle.wire.specs.Int.{half}
use Rattle.rows.specs.Layout.{Layout, Letters, number, name, many, both, nothing, letter, Value, Read, got, refused, cut, wrong}
use Rattle.rows.specs.Layout.{mapped, times_at, read_at, choose_at, bytes_of, all_bytes}
use Rattle.rows.specs.Rows.{cell_bytes, tuple_layout, described_layout, relation_layout, type_layout, origin_layout, new_layout}
use Rattle.rows.specs.Rows.{insert_layout, update_layout, delete_layout, truncate_layout, cell_of, cells_of, described_of, new_of, relation_of, type_of}
use Rattle.rows.specs.Rows.{origin_of, insert_of, update_of, delete_of, truncate_of, update_from, delete}
use Rattle.rows.specs.Head.{Span, Head, relation_head, type_head, origin_head, insert_head, update_head, update_from_head, delete_head}
use Rattle.rows.specs.Head.{truncate_head, head_of, Answer, head, refusal, head_told}
use Rattle.rows.specs.declared.Which.{Which}
use Rattle.rows.specs.declared.Which.TheVariants.{Key, Old}
use Rattle.rows.proofs.Places.{by_after, by_told}
use Rattle.rows.proofs.Ends.{read_ends, tuple_ends}
use Rattle.rows.proofs.Steps.{number_got, number_cut, both_got, both_refused, pair_got, count_got, count_cut, count_negative, many_none}
use Rattle.rows.proofs.Steps.{many_got, many_refused, nothing_got, letter_got, letter_cut, choose_here, choose_next, choose_none, refused_back}
use Rattle.rows.proofs.Steps.{got_back, ended}

-- ---- what is told of what is told

pub head_told_lem : {A B : Type 0} (f : B → Head) (g : A → B) (r : Read A) → head_told f (mapped g r) ≡ head_told (λ v. f (g v)) r
head_told_lem f g (got v j) = refl
head_told_lem f g (refused n) = refl

-- so many were asked for, so many were read
pub times_length : {A : Type 0} (f : ℕ → Read A) (n i : ℕ) (vs : List A) (j : ℕ) → times_at f n i ≡ got vs j → length vs ≡ n
unfolding times_at
times_length f zero i vs j e = let w : vs ≡ [] = cc in rw w
times_length f (suc n) i vs j e =
    by_after (f i) (λ v k. mapped (λ ws. v ∷ ws) (times_at f n k)) vs j e (λ v k p q.
    by_told (λ ws. v ∷ ws) (times_at f n k) vs j q (λ ws r w. rw w (ap suc (times_length f n k ws j r))))

module _ (s : List ℕ) where
  -- ---- columns and descriptions that are counted

  module _ (i : ℕ) (b : Layout) where
    abbrev Counts : Read Span → Type 0
    Counts q = q ≡ mapped {B = Span} (λ v. (length v.1, i + 2)) (read_at (many 2 nothing b) s i)

    pub counted_cut : field_at 2 s i ≡ none → Counts cut
    counted_cut e = rw (many_none s i 2 nothing b 26 (count_cut s i 2 e))

    module _ (k : ℕ) (e : field_at 2 s i ≡ some k) where
      pub counted_negative : half 2 ≤ k → Counts cut
      counted_negative h = rw (many_none s i 2 nothing b 26 (count_negative s i 2 k e h))

      as_counted : (r : Read (List (Value b))) → times_at (λ q. read_at b s q) k (i + 2) ≡ r → (x : Read Unit) (q : Read Span) → x ≡ ended r
          → q ≡ mapped {B = Span} (λ v. (k, i + 2)) x
          → q ≡ mapped {B = Span} (λ v. (length v.1, i + 2)) (mapped {B = Value (many 2 nothing b)} (λ vs. (tt, vs)) r)
      as_counted (got vs j) t x q h g = let l : length vs ≡ k = times_length (λ q. read_at b s q) k (i + 2) vs j t in g ∙ rw (h, l)
      as_counted (refused n) t x q h g = g ∙ rw h

      pub counted_whole : k < half 2 → {x : Read Unit} {q : Read Span} → x ≡ ended (times_at (λ p. read_at b s p) k (i + 2))
          → q ≡ mapped {B = Span} (λ v. (k, i + 2)) x → Counts q
      counted_whole l {x} {q} h g =
          rw (many_got s i 2 nothing b k (i + 2) tt (i + 2) (count_got s i 2 k e l) (nothing_got s (i + 2)))
          (as_counted (times_at (λ p. read_at b s p) k (i + 2)) refl x q h g)

  -- ---- `N` and the new tuple

  module _ (i : ℕ) where
    abbrev News : Read Span → Type 0
    News q = q ≡ mapped {B = Span} (λ v. (length (new_of v), i + 3)) (read_at new_layout s i)

    pub new_cut : field_at 1 s i ≡ none → News cut
    new_cut e = rw (letter_cut s i _ e)

    as_new : (r : Read (Value tuple_layout)) (q : Read Span) → q ≡ mapped {B = Span} (λ v. (length v.1, i + 1 + 2)) r
        → q ≡ mapped {B = Span} (λ v. (length (new_of v), i + 3)) (mapped {B = Value new_layout} inl r)
    as_new (got v j) q h =
        let n : i + 1 + 2 ≡ i + 3 = omega arith in
        h ∙ rw (length-map v.1 cell_of, n)
    as_new (refused n) q h = h

    module _ (b : ℕ) (e : field_at 1 s i ≡ some b) where
      pub new_here : b ≡ code "N" → {q : Read Span} → q ≡ mapped {B = Span} (λ v. (length v.1, i + 1 + 2)) (read_at tuple_layout s (i + 1)) → News q
      new_here h {q} g = rw (letter_got s i _ b e, choose_here s (i + 1) _ _ _ b h) (as_new (read_at tuple_layout s (i + 1)) q g)

      pub new_wrong : (b ≡ code "N" → ⊥) → News wrong
      new_wrong h = rw (letter_got s i _ b e, choose_next s (i + 1) _ _ _ b h, choose_none s (i + 1) b)

  -- ---- the first field after the letter

  pub first_cut : (n : ℕ) (b : Layout) (f : Value (both (number n) b) → Head) → field_at n s 1 ≡ none
      → refusal 26 ≡ head_told f (read_at (both (number n) b) s 1)
  first_cut n b f e = rw (both_refused s 1 (number n) b 26 (number_cut s 1 n e))

  -- ---- names after it

  -- a name by its part, and where it ends
  by_name : {X : Type 0} (i : ℕ) (p : Span) (j : ℕ) → got p j ≡ mapped {B = Span} (λ v. (i, length v)) (read_at name s i)
      → ((v : List ℕ) → read_at name s i ≡ got v j → p ≡ (i, length v) → j ≡ i + length v + 1 → X) → X
  unfolding bytes_of
  by_name i p j h go =
      let w = got_back _ (read_at name s i) p j h in
      let e : j ≡ i + length (w.0 ++ (0 ∷ [])) = read_ends name s i w.0 j w.1 in
      go w.0 w.1 w.2 (omega (arith, e, length-append w.0 (0 ∷ [])))

  module _ (n id : ℕ) (e : field_at n s 1 ≡ some id) where
    pub name_missing : (b : Layout) (f : Value (both (number n) (both name b)) → Head) {m : ℕ}
        → refused m ≡ mapped {B = Span} (λ v. (1 + n, length v)) (read_at name s (1 + n))
        → refusal m ≡ head_told f (read_at (both (number n) (both name b)) s 1)
    name_missing b f {m} h =
        rw (both_got s 1 (number n) (both name b) id (1 + n) (number_got s 1 n id e), both_refused s (1 + n) name b m (refused_back _ _ m h))

    pub last_missing : (f : Value (both (number n) name) → Head) {m : ℕ}
        → refused m ≡ mapped {B = Span} (λ v. (1 + n, length v)) (read_at name s (1 + n))
        → refusal m ≡ head_told f (read_at (both (number n) name) s 1)
    last_missing f {m} h = rw (both_got s 1 (number n) name id (1 + n) (number_got s 1 n id e), refused_back _ (read_at name s (1 + n)) m h)

  -- ---- Origin

  pub origin_whole : (position : ℕ) → field_at 8 s 1 ≡ some position → {p : Span} {j : ℕ}
      → got p j ≡ mapped {B = Span} (λ v. (9, length v)) (read_at name s 9)
      → head (origin_head position p) ≡ head_told (λ v. head_of (origin_of v)) (read_at origin_layout s 1)
  origin_whole position e {p} {j} h =
      by_name 9 p j h (λ v r q w. rw (pair_got s 1 (number 8) name position v 9 j (number_got s 1 8 position e) r, q))

  module _ (id : ℕ) (e : field_at 4 s 1 ≡ some id) where
    id_got : read_at (number 4) s 1 ≡ got id 5
    id_got = number_got s 1 4 id e

    -- ---- Relation and Type: two names

    module _ {p : Span} {a : ℕ} (h : got p a ≡ mapped {B = Span} (λ v. (5, length v)) (read_at name s 5)) where
      pub second_missing : (b : Layout) (f : Value (both (number 4) (both name (both name b))) → Head) {m : ℕ}
          → refused m ≡ mapped {B = Span} (λ v. (a, length v)) (read_at name s a)
          → refusal m ≡ head_told f (read_at (both (number 4) (both name (both name b))) s 1)
      second_missing b f {m} g =
          by_name 5 p a h (λ v r q w.
          rw (
            both_got s 1 (number 4) (both name (both name b)) id 5 id_got,
            both_got s 5 name (both name b) v a r,
            both_refused s a name b m (refused_back _ _ m g),
          ))

      pub type_missing : {m : ℕ} → refused m ≡ mapped {B = Span} (λ v. (a, length v)) (read_at name s a)
          → refusal m ≡ head_told (λ v. head_of (type_of v)) (read_at type_layout s 1)
      type_missing {m} g =
          by_name 5 p a h (λ v r q w. rw (
            both_got s 1 (number 4) (both name name) id 5 id_got,
            both_got s 5 name name v a r,
            refused_back _ (read_at name s a) m g,
          ))

      module _ {q : Span} {b : ℕ} (g : got q b ≡ mapped {B = Span} (λ v. (a, length v)) (read_at name s a)) where
        pub type_whole : head (type_head id p q) ≡ head_told (λ v. head_of (type_of v)) (read_at type_layout s 1)
        type_whole =
            by_name 5 p a h (λ v r pe ae.
            by_name a q b g (λ w r₂ qe be.
            let at : a ≡ 6 + length v = omega arith in
            rw (both_got s 1 (number 4) (both name name) id 5 id_got, pair_got s 5 name name v w a b r r₂, pe, qe, at)))

        pub identity_missing : field_at 1 s b ≡ none → refusal 26 ≡ head_told (λ v. head_of (relation_of v)) (read_at relation_layout s 1)
        identity_missing i =
            by_name 5 p a h (λ v r pe ae.
            by_name a q b g (λ w r₂ qe be.
            rw (
              both_got s 1 (number 4) _ id 5 id_got,
              both_got s 5 name _ v a r,
              both_got s a name _ w b r₂,
              both_refused s b (number 1) _ 26 (number_cut s b 1 i),
            )))

        as_relation : (v w : List ℕ) (identity : ℕ) → p ≡ (5, length v) → a ≡ 5 + length v + 1 → q ≡ (a, length w) → b ≡ a + length w + 1
            → (r : Read (Value (many 2 nothing described_layout))) (c : Read Span) (x : Answer)
            → c ≡ mapped {B = Span} (λ u. (length u.1, b + 1 + 2)) r
            → x ≡ head_told (λ t. relation_head id p q identity t.0 t.1) c
            → x ≡ head_told (λ u. head_of (relation_of u)) (mapped {B = Value relation_layout} (λ u. (id, u))
            (mapped (λ u. (v, u)) (mapped (λ u. (w, u)) (mapped (λ u. (identity, u)) r))))
        as_relation v w identity pe ae qe be (got u j) c x k m =
            let a₁ : a ≡ 6 + length v = omega arith in
            let b₁ : b + 1 + 2 ≡ 10 + length v + length w = omega arith in
            m ∙ rw (k, length-map u.1 described_of, b₁, pe, qe, a₁)
        as_relation v w identity pe ae qe be (refused n) c x k m = m ∙ rw k

        pub relation_whole : (identity : ℕ) → field_at 1 s b ≡ some identity → {c : Read Span} {x : Answer}
            → c ≡ mapped {B = Span} (λ u. (length u.1, b + 1 + 2)) (read_at (many 2 nothing described_layout) s (b + 1))
            → x ≡ head_told (λ t. relation_head id p q identity t.0 t.1) c
            → x ≡ head_told (λ v. head_of (relation_of v)) (read_at relation_layout s 1)
        relation_whole identity i {c} {x} k m =
            by_name 5 p a h (λ v r pe ae.
            by_name a q b g (λ w r₂ qe be.
            rw (
              both_got s 1 (number 4) _ id 5 id_got,
              both_got s 5 name _ v a r,
              both_got s a name _ w b r₂,
              both_got s b (number 1) _ identity (b + 1) (number_got s b 1 identity i),
            )
            (as_relation v w identity pe ae qe be (read_at (many 2 nothing described_layout) s (b + 1)) c x k m)))

    -- ---- Insert

    as_insert : (r : Read (Value new_layout)) (c : Read Span) (x : Answer) → c ≡ mapped {B = Span} (λ v. (length (new_of v), 8)) r
        → x ≡ head_told (λ t. insert_head id t) c
        → x ≡ head_told (λ v. head_of (insert_of v)) (mapped {B = Value insert_layout} (λ w. (id, w)) r)
    as_insert (got v j) c x k m = m ∙ rw k
    as_insert (refused n) c x k m = m ∙ rw k

    pub insert_whole : {c : Read Span} {x : Answer} → c ≡ mapped {B = Span} (λ v. (length (new_of v), 8)) (read_at new_layout s 5)
        → x ≡ head_told (λ t. insert_head id t) c
        → x ≡ head_told (λ v. head_of (insert_of v)) (read_at insert_layout s 1)
    insert_whole {c} {x} k m = rw (both_got s 1 (number 4) new_layout id 5 id_got) (as_insert (read_at new_layout s 5) c x k m)

    -- ---- Update and Delete, by the letter

    pub letter_missing : (ls : Letters) (f : Value (both (number 4) (letter ls)) → Head) → field_at 1 s 5 ≡ none
        → refusal 26 ≡ head_told f (read_at (both (number 4) (letter ls)) s 1)
    letter_missing ls f i = rw (both_got s 1 (number 4) (letter ls) id 5 id_got, letter_cut s 5 ls i)

    as_updated : (r : Read (Value tuple_layout)) (c : Read Span) (x : Answer) → c ≡ mapped {B = Span} (λ v. (length v.1, 8)) r
        → x ≡ head_told (λ t. update_head id t) c
        → x ≡ head_told (λ v. head_of (update_of (id, inr (inr (inl v))))) r
    as_updated (got v j) c x k m = m ∙ rw (k, length-map v.1 cell_of)
    as_updated (refused n) c x k m = m ∙ rw k

    module _ (b : ℕ) (i : field_at 1 s 5 ≡ some b) where
      under : (ls : Letters) → read_at (both (number 4) (letter ls)) s 1 ≡ mapped (λ w. (id, w)) (choose_at ls b s 6)
      under ls = rw (both_got s 1 (number 4) (letter ls) id 5 id_got, letter_got s 5 ls b i)

      -- ---- Update

      abbrev Updates : Answer → Type 0
      Updates x = x ≡ head_told (λ v. head_of (update_of v)) (read_at update_layout s 1)

      abbrev From : Which → Answer → Type 0
      From which x = x ≡ head_told (λ v. head_of (update_from id which (cells_of v.0) (new_of v.1))) (read_at (both tuple_layout new_layout) s 6)

      pub update_key : b ≡ code "K" → {x : Answer} → From Key x → Updates x
      update_key k m = m ∙ rw (under _, choose_here s 6 _ _ _ b k, head_told_lem, head_told_lem)

      module _ (k : b ≡ code "K" → ⊥) where
        pub update_old : b ≡ code "O" → {x : Answer} → From Old x → Updates x
        update_old o m = m ∙ rw (under _, choose_next s 6 _ _ _ b k, choose_here s 6 _ _ _ b o, head_told_lem, head_told_lem, head_told_lem)

        module _ (o : b ≡ code "O" → ⊥) where
          pub update_new : b ≡ code "N" → {c : Read Span} {x : Answer} → c ≡ mapped {B = Span} (λ v. (length v.1, 8)) (read_at tuple_layout s 6)
              → x ≡ head_told (λ t. update_head id t) c
              → Updates x
          update_new n {c} {x} h m =
              as_updated (read_at tuple_layout s 6) c x h m
              ∙ rw (
                under _,
                choose_next s 6 _ _ _ b k,
                choose_next s 6 _ _ _ b o,
                choose_here s 6 _ _ _ b n,
                head_told_lem,
                head_told_lem,
                head_told_lem,
                head_told_lem,
              )

          pub update_wrong : (b ≡ code "N" → ⊥) → Updates (refusal 27)
          update_wrong n = rw (under _, choose_next s 6 _ _ _ b k, choose_next s 6 _ _ _ b o, choose_next s 6 _ _ _ b n, choose_none s 6 b)

      -- ---- Delete

      abbrev Deletes : Answer → Type 0
      Deletes x = x ≡ head_told (λ v. head_of (delete_of v)) (read_at delete_layout s 1)

      -- the old tuple, told by the message that has it
      abbrev Old_told : Which → Answer → Type 0
      Old_told which x = x ≡ head_told (λ v. head_of (delete id which (cells_of v))) (read_at tuple_layout s 6)

      pub delete_key : b ≡ code "K" → {x : Answer} → Old_told Key x → Deletes x
      delete_key k m = m ∙ rw (under _, choose_here s 6 _ _ _ b k, head_told_lem, head_told_lem)

      pub delete_old : (b ≡ code "K" → ⊥) → b ≡ code "O" → {x : Answer} → Old_told Old x → Deletes x
      delete_old k o m = m ∙ rw (under _, choose_next s 6 _ _ _ b k, choose_here s 6 _ _ _ b o, head_told_lem, head_told_lem, head_told_lem)

      pub delete_wrong : (b ≡ code "K" → ⊥) → (b ≡ code "O" → ⊥) → Deletes (refusal 27)
      delete_wrong k o = rw (under _, choose_next s 6 _ _ _ b k, choose_next s 6 _ _ _ b o, choose_none s 6 b)

  -- ---- the old tuple alone

  module _ (id : ℕ) (which : Which) where
    as_deleted : (r : Read (Value tuple_layout)) (c : Read Span) → c ≡ mapped {B = Span} (λ v. (length v.1, 8)) r
        → head_told (λ t. delete_head id which t) c ≡ head_told (λ v. head_of (delete id which (cells_of v))) r
    as_deleted (got v j) c k = rw (k, length-map v.1 cell_of)
    as_deleted (refused n) c k = rw k

    pub deleted_by : {c : Read Span} → c ≡ mapped {B = Span} (λ v. (length v.1, 8)) (read_at tuple_layout s 6)
        → head_told (λ t. delete_head id which t) c ≡ head_told (λ v. head_of (delete id which (cells_of v))) (read_at tuple_layout s 6)
    deleted_by {c} k = as_deleted (read_at tuple_layout s 6) c k

  -- ---- the old tuple, then the new one

  module _ (id : ℕ) (which : Which) where
    abbrev Froms : Answer → Type 0
    Froms x = x ≡ head_told (λ v. head_of (update_from id which (cells_of v.0) (new_of v.1))) (read_at (both tuple_layout new_layout) s 6)

    pub old_refused : (n : ℕ) → refused n ≡ mapped {B = Span} (λ v. (length v.1, 8)) (read_at tuple_layout s 6) → Froms (refusal n)
    old_refused n h = rw (both_refused s 6 tuple_layout new_layout n (refused_back _ _ n h))

    as_from : (v : Value tuple_layout) (old : Span) (j : ℕ) → old ≡ (length v.1, 8) → j ≡ 8 + length (all_bytes cell_bytes (cells_of v))
        → (r : Read (Value new_layout)) (c : Read Span) (x : Answer) → c ≡ mapped {B = Span} (λ w. (length (new_of w), j + 3)) r
        → x ≡ head_told (λ t. update_from_head id which old t) c
        → x ≡ head_told (λ u. head_of (update_from id which (cells_of u.0) (new_of u.1)))
        (mapped {B = Value (both tuple_layout new_layout)} (λ w. (v, w)) r)
    as_from v old j oe je (got w k) c x h m =
        let n : j + 3 ≡ 11 + length (all_bytes cell_bytes (cells_of v)) = omega arith in
        m ∙ rw (h, n, oe, length-map v.1 cell_of)
    as_from v old j oe je (refused n) c x h m = m ∙ rw h

    pub from_whole : {old : Span} {j : ℕ} → got old j ≡ mapped {B = Span} (λ v. (length v.1, 8)) (read_at tuple_layout s 6)
        → {c : Read Span} {x : Answer}
        → c ≡ mapped {B = Span} (λ w. (length (new_of w), j + 3)) (read_at new_layout s j) → x ≡ head_told (λ t. update_from_head id which old t) c
        → Froms x
    from_whole {old} {j} g {c} {x} h m =
        let w = got_back _ (read_at tuple_layout s 6) old j g in
        rw (both_got s 6 tuple_layout new_layout w.0 j w.1)
        (as_from w.0 old j w.2 (tuple_ends s 6 w.0 j w.1) (read_at new_layout s j) c x h m)

  -- ---- Truncate

  abbrev Truncates : Answer → Type 0
  Truncates x = x ≡ head_told (λ v. head_of (truncate_of v)) (read_at truncate_layout s 1)

  pub truncate_cut : field_at 4 s 1 ≡ none → Truncates (refusal 26)
  truncate_cut e = rw (many_none s 1 4 (number 1) (number 4) 26 (count_cut s 1 4 e))

  module _ (n : ℕ) (e : field_at 4 s 1 ≡ some n) where
    pub truncate_negative : half 4 ≤ n → Truncates (refusal 26)
    truncate_negative h = rw (many_none s 1 4 (number 1) (number 4) 26 (count_negative s 1 4 n e h))

    module _ (l : n < half 4) where
      pub options_missing : field_at 1 s 5 ≡ none → Truncates (refusal 26)
      options_missing i = rw (many_refused s 1 4 (number 1) (number 4) n 5 26 (count_got s 1 4 n e l) (number_cut s 5 1 i))

      as_truncate : (options : ℕ) (r : Read (List ℕ)) → times_at (λ q. read_at (number 4) s q) n 6 ≡ r → (c : Read Unit) (x : Answer) → c ≡ ended r
          → x ≡ head_told (λ v. truncate_head n options 6) c → x ≡ head_told (λ v. head_of (truncate_of v))
          (mapped {B = Value truncate_layout} (λ vs. (options, vs)) r)
      as_truncate options (got vs j) t c x h m = let w : length vs ≡ n = times_length (λ q. read_at (number 4) s q) n 6 vs j t in m ∙ rw (h, w)
      as_truncate options (refused p) t c x h m = m ∙ rw h

      pub truncate_whole : (options : ℕ) → field_at 1 s 5 ≡ some options → {c : Read Unit} {x : Answer}
          → c ≡ ended (times_at (λ q. read_at (number 4) s q) n 6)
          → x ≡ head_told (λ v. truncate_head n options 6) c → Truncates x
      truncate_whole options i {c} {x} h m =
          rw (many_got s 1 4 (number 1) (number 4) n 5 options 6 (count_got s 1 4 n e l) (number_got s 5 1 options i))
          (as_truncate options (times_at (λ q. read_at (number 4) s q) n 6) refl c x h m)
