-- A column by its letter.
use mathlib.Core.Path.{◌≡◌, sym}
use mathlib.Core.List.{List}
use mathlib.Core.Logic.{inl, inr}
use mathlib.Core.Option.{some, none}
use Prim.Native.Nat.{ℕ, ◌+◌}
use Prim.Native.Char.{code}
use native.Mathlib.Omega.{arith}
use lib.ListN.{length}
use Rattle.wire.specs.Field.{field_at}
use Rattle.rows.specs.Layout.{value, Read, got, refused, cut, wrong, mapped, read_at}
use Rattle.rows.specs.Rows.{column_layout, cell_of}
use Rattle.rows.specs.Head.{Span, ToldCell, told_null, told_unchanged, told_text, told_binary, cell_at, column_at}
use Rattle.rows.proofs.Steps.{ended, ended_told, letter_got, letter_cut, choose_here, choose_next, choose_none, nothing_got}

module _ (s : List ℕ) (i : ℕ) where
  abbrev Reads : Read ToldCell → Type 0
  Reads r = mapped (cell_at i) (column_at s i) ≡ r

  pub column_cut : field_at 1 s i ≡ none → Reads cut
  column_cut e = rw (letter_cut s i _ e)

  module _ (b : ℕ) (e : field_at 1 s i ≡ some b) where
    pub column_null : b ≡ code "n" → Reads (got told_null (i + 1))
    column_null h = rw (letter_got s i _ b e, choose_here s (i + 1) _ _ _ b h, nothing_got s (i + 1))

    pub column_unchanged : (b ≡ code "n" → ⊥) → b ≡ code "u" → Reads (got told_unchanged (i + 1))
    column_unchanged n h = rw (letter_got s i _ b e, choose_next s (i + 1) _ _ _ b n, choose_here s (i + 1) _ _ _ b h, nothing_got s (i + 1))

    module _ (n : b ≡ code "n" → ⊥) (u : b ≡ code "u" → ⊥) where
      -- a value that was read, told as the code tells it
      as_text : (r : Read (List ℕ)) (q : Read Span) (x : Read ToldCell) → q ≡ mapped {B = Span} (λ v. (i + 1 + 4, length v)) r
          → x ≡ mapped told_text q
          → mapped (cell_at i) (mapped cell_of (mapped inr (mapped inr (mapped inl r)))) ≡ x
      as_text (got v j) q x p h = let k : i + 1 + 4 ≡ i + 5 = omega arith in rw (h, p, k)
      as_text (refused m) q x p h = rw (h, p)

      as_binary : (r : Read (List ℕ)) (q : Read Span) (x : Read ToldCell) → q ≡ mapped {B = Span} (λ v. (i + 1 + 4, length v)) r
          → x ≡ mapped told_binary q
          → mapped (cell_at i) (mapped cell_of (mapped inr (mapped inr (mapped inr (mapped inl r))))) ≡ x
      as_binary (got v j) q x p h = let k : i + 1 + 4 ≡ i + 5 = omega arith in rw (h, p, k)
      as_binary (refused m) q x p h = rw (h, p)

      pub column_text : b ≡ code "t" → {q : Read Span} {x : Read ToldCell}
          → q ≡ mapped {B = Span} (λ v. (i + 1 + 4, length v)) (read_at value s (i + 1)) → x ≡ mapped told_text q → Reads x
      column_text h {q} {x} p g =
          rw (letter_got s i _ b e, choose_next s (i + 1) _ _ _ b n, choose_next s (i + 1) _ _ _ b u, choose_here s (i + 1) _ _ _ b h)
          (as_text (read_at value s (i + 1)) q x p g)

      module _ (t : b ≡ code "t" → ⊥) where
        pub column_binary : b ≡ code "b" → {q : Read Span} {x : Read ToldCell}
            → q ≡ mapped {B = Span} (λ v. (i + 1 + 4, length v)) (read_at value s (i + 1)) → x ≡ mapped told_binary q → Reads x
        column_binary h {q} {x} p g =
            rw (
              letter_got s i _ b e,
              choose_next s (i + 1) _ _ _ b n,
              choose_next s (i + 1) _ _ _ b u,
              choose_next s (i + 1) _ _ _ b t,
              choose_here s (i + 1) _ _ _ b h,
            )
            (as_binary (read_at value s (i + 1)) q x p g)

        pub column_wrong : (b ≡ code "b" → ⊥) → Reads wrong
        column_wrong h =
            rw (
              letter_got s i _ b e,
              choose_next s (i + 1) _ _ _ b n,
              choose_next s (i + 1) _ _ _ b u,
              choose_next s (i + 1) _ _ _ b t,
              choose_next s (i + 1) _ _ _ b h,
              choose_none s (i + 1) b,
            )

-- the place after a column alone
module _ (s : List ℕ) (i : ℕ) (x : Read ToldCell) (h : mapped (cell_at i) (column_at s i) ≡ x) where
  pub column_ended : {e : Read Unit} → e ≡ ended x → e ≡ ended (read_at column_layout s i)
  column_ended {e} g = ended_told (cell_at i) cell_of (read_at column_layout s i) x e (sym h) g

-- the place after a value alone, whatever it is told as
pub value_ended : (f : Span → ToldCell) (q : Read Span) {e : Read Unit} → e ≡ ended q → e ≡ ended (mapped f q)
value_ended f (got v j) g = g
value_ended f (refused n) g = g
