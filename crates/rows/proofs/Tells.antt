-- Rows, columns, descriptions and identifiers, each by the law of its layout; and data by their first byte.
use mathlib.Core.Path.{◌≡◌, refl, sym, ap, ◌∙◌}
use mathlib.Core.Bool.{Bool, true, false}
use mathlib.Core.List.{List, [], ◌∷◌, ◌++◌}
use mathlib.Core.Logic.{inl, inr, ⊎_elim}
use Prim.Native.Nat.{ℕ, ◌+◌, ◌<◌, ◌^◌}
use native.Mathlib.Omega.{arith}
use lib.ListN.{length, drop}
use lib.Dec.{eqb}
use lib.Pow.{are_bytes}
use borrow.Author.Tests.{eqb-true}
use Rattle.wire.specs.Bytes.{pick, be_bytes}
use Rattle.wire.proofs.Laws.{by_test, impossible, length_be_bytes}
use Rattle.rows.specs.Layout.{Layout, Value, Read, got, refused, mapped, read_at, bytes_of, Fits, Proper}
use Rattle.rows.specs.Layout.{number}
use Rattle.rows.specs.Rows.{cell_bytes, described_bytes, row_bytes, column_layout, described_layout, tuple_layout, new_layout}
use Rattle.rows.specs.Rows.{row_letters, row_layout, cell_of, described_of, row_of, row, no_row, refused_by, boundary_letter, is_boundary}
use Rattle.rows.specs.Rows.{said_of}
use Rattle.rows.specs.Rows.{row_said}
use Rattle.rows.specs.RowLayout.{CellFits, DescribedFits, RowFits}
use Rattle.rows.specs.Head.{identifier_at}
use Rattle.rows.specs.Refusals.{BeginsWith, IsBoundary, IsRowLetter, FirstByte, MayFollow, Leaves, Told, TellsAll}
use Rattle.rows.proofs.Cases.{refusal_cases}
use Rattle.rows.proofs.Ends.{cell_bytes_lem}
use Rattle.rows.proofs.Steps.{letter_got, choose_next, choose_none}
use Rattle.rows.proofs.Places.{told_got}
use Rattle.rows.proofs.Sent.{column_proper, described_proper, row_proper, row_bytes_lem, row_fits, row_fitted, row_back, row_value, cell_value}
use Rattle.rows.proofs.Sent.{cell_back}
use Rattle.rows.proofs.Sent.{cell_fits, cell_fitted, described_value, described_back, described_fits, described_fitted, described_bytes_lem}
use Rattle.rows.proofs.Sent.{sent_is_read}
use Rattle.rows.proofs.Sent.{read_is_sent}
use Rattle.rows.proofs.BothWays.{read_is_written}
use Rattle.rows.proofs.Behind.{Filled, May, mapped_refused, first_field}
use Rattle.rows.proofs.Told.{whole_read, short_read, at_count, at_letter, back_26, back_27, back_two}

-- ---- from a layout's values to what they stand for

record Encodes (l : Layout) {A : Type 0} (Fit : A → Type 0) (bytes : A → List ℕ) : Type 0 where
  proper : Proper l
  full : Filled l
  of : Value l → A
  back : A → Value l
  of_back : (a : A) → of (back a) ≡ a
  fit_of : (v : Value l) → Fits l v → Fit (of v)
  fit_back : (a : A) → Fit a → Fits l (back a)
  bytes_of_lem : (v : Value l) → bytes_of l v ≡ bytes (of v)

module _ (l : Layout) {A : Type 0} (Fit : A → Type 0) (bytes : A → List ℕ) (k : Encodes l Fit bytes) where
  bytes_back : (a : A) → bytes_of l (k.back a) ≡ bytes a
  bytes_back a = k.bytes_of_lem (k.back a) ∙ ap bytes (k.of_back a)

  to : (x : List ℕ) (c : ℕ) → MayFollow Fit bytes x c → May l x c
  to x c m = record { sent = k.back m.sent; fits = k.fit_back m.sent m.fits; rest = m.rest; whole = bytes_back m.sent ∙ m.whole }

  from : (x : List ℕ) (c : ℕ) → May l x c → MayFollow Fit bytes x c
  from x c m = record { sent = k.of m.sent; fits = k.fit_of m.sent m.fits; rest = m.rest; whole = sym (k.bytes_of_lem m.sent) ∙ m.whole }

  leaves_to : (d x : List ℕ) (b : ℕ) → Leaves Fit bytes d x b → Leaves (λ v. Fits l v) (λ v. bytes_of l v) d x b
  leaves_to d x b h = record {
    rest = h.rest;
    there = h.there;
    other = h.other;
    goes_on = to x h.other h.goes_on;
    never = λ m. h.never (from x b m);
  }

  leaves_from : (d x : List ℕ) (b : ℕ) → Leaves (λ v. Fits l v) (λ v. bytes_of l v) d x b → Leaves Fit bytes d x b
  leaves_from d x b h = record {
    rest = h.rest;
    there = h.there;
    other = h.other;
    goes_on = from x h.other h.goes_on;
    never = λ m. h.never (to x b m);
  }

  module _ (s : List ℕ) (bs : are_bytes s ≡ true) (i : ℕ) where
    abbrev q : Read A
    q = mapped k.of (read_at l s i)

    told_refused : (n : ℕ) → read_at l s i ≡ refused n → q ≡ refused n
    told_refused n e = rw e

    back_refused : (n : ℕ) → q ≡ refused n → read_at l s i ≡ refused n
    back_refused n e = mapped_refused k.of (read_at l s i) n e

    told_all : Told Fit bytes (drop i s) (λ a. q ≡ got a (i + length (bytes a))) (λ n. q ≡ refused n)
    told_all =
        record {
          sent = λ a t f e.
              let b = bytes_back a in
              let r = whole_read l k.proper k.full (k.back a) (k.fit_back a f) s i t (e ∙ ap (λ (x : List ℕ). x ++ t) (sym b)) in
              rw r (rw (b, k.of_back a));
          ended = λ c m. told_refused 26 (short_read l k.proper k.full s bs i c (to (drop i s) c m));
          negative = λ x b h m.
              told_refused 26 (at_count l k.proper k.full s bs i x b (leaves_to (drop i s) x b h) (to x 0 m) (read_at l s i) refl);
          unlisted = λ x b h m.
              told_refused 27 (at_letter l k.proper k.full s bs i x b (leaves_to (drop i s) x b h) (λ o. m (from x 0 o)) (read_at l s i) refl);
          was_sent = λ a e.
              let w = told_got k.of (read_at l s i) a (i + length (bytes a)) e in
              let r = read_is_written l k.proper s bs i w.0 (i + length (bytes a)) w.1 in (
                rw w.2 (k.fit_of w.0 r.0),
                drop (i + length (bytes a)) s,
                r.1.whole ∙ ap (λ (x : List ℕ). x ++ drop (i + length (bytes a)) s) (k.bytes_of_lem w.0 ∙ ap bytes (sym w.2)),
              );
          only_26 = λ e. ⊎_elim
              (λ (h : (c : ℕ) × May l (drop i s) c). inl (h.0, from (drop i s) h.0 h.1))
              (λ (h : (x : List ℕ) × (b : ℕ) × Leaves (λ v. Fits l v) (λ v. bytes_of l v) (drop i s) x b × May l x 0).
              inr (h.0, h.1, leaves_from (drop i s) h.0 h.1 h.2, from h.0 0 h.3))
              (back_26 l k.proper k.full s bs i (back_refused 26 e));
          only_27 = λ e.
              let h = back_27 l k.proper k.full s bs i (back_refused 27 e) in
              (h.0, h.1, leaves_from (drop i s) h.0 h.1 h.2, (λ m. h.3 (to h.0 0 m)));
          only_two = λ n e. back_two l k.proper k.full s bs i n (back_refused n e);
        }

-- ---- each of them

pub column_filled : Filled column_layout
column_filled = (tt, (omega arith, tt, (omega arith, tt, (omega arith, tt, (omega arith, tt, tt)))))

tuple_filled : Filled tuple_layout
tuple_filled = (tt, column_filled)

new_filled : Filled new_layout
new_filled = (tt, (omega arith, tuple_filled, tt))

described_filled : Filled described_layout
described_filled = (tt, (tt, (tt, tt)))

row_filled : Filled row_layout
row_filled = (
  tt,
  (
    omega arith,
    (tt, (tt, (tt, (tt, (tt, described_filled))))),
    (
      omega arith,
      (tt, (tt, tt)),
      (
        omega arith,
        (tt, tt),
        (
          omega arith,
          (tt, new_filled),
          (
            omega arith,
            (tt, (tt, (omega arith, (tuple_filled, new_filled), (omega arith, (tuple_filled, new_filled), (omega arith, tuple_filled, tt))))),
            (
              omega arith,
              (tt, (tt, (omega arith, tuple_filled, (omega arith, tuple_filled, tt)))),
              (omega arith, (tt, tt), tt),
            ),
          ),
        ),
      ),
    ),
  ),
)

column_encodes : Encodes column_layout CellFits cell_bytes
column_encodes = record {
  proper = column_proper;
  full = column_filled;
  of = cell_of;
  back = cell_value;
  of_back = cell_back;
  fit_of = cell_fitted;
  fit_back = cell_fits;
  bytes_of_lem = cell_bytes_lem;
}

described_encodes : Encodes described_layout DescribedFits described_bytes
described_encodes = record {
  proper = described_proper;
  full = described_filled;
  of = described_of;
  back = described_value;
  of_back = described_back;
  fit_of = described_fitted;
  fit_back = described_fits;
  bytes_of_lem = described_bytes_lem;
}

row_encodes : Encodes row_layout RowFits row_bytes
row_encodes = record {
  proper = row_proper;
  full = row_filled;
  of = row_of;
  back = row_value;
  of_back = row_back;
  fit_of = row_fitted;
  fit_back = row_fits;
  bytes_of_lem = row_bytes_lem;
}

identifier_encodes : Encodes (number 4) (λ id. id < 2 ^ 32) (λ id. be_bytes 4 id)
unfolding bytes_of Fits
identifier_encodes = record {
  proper = omega arith;
  full = tt;
  of = λ v. v;
  back = λ v. v;
  of_back = λ a. refl;
  fit_of = λ v f. f;
  fit_back = λ v f. f;
  bytes_of_lem = λ v. refl;
}

-- ---- the first byte

boundary_byte : {X : Type 0} (b : ℕ) → (b ≡ 0x42 → X) → (b ≡ 0x43 → X) → (b ≡ 0x4D → X) → (boundary_letter b ≡ false → X) → X
boundary_byte b f g h k =
    by_test (eqb b 0x42) (λ e. f (eqb-true b 0x42 e)) (λ x.
    by_test (eqb b 0x43) (λ e. g (eqb-true b 0x43 e)) (λ y.
    by_test (eqb b 0x4D) (λ e. h (eqb-true b 0x4D e)) (λ z. k (rw (x, y, z)))))

with_byte : (b c : ℕ) (t : List ℕ) → b ≡ c → BeginsWith c (b ∷ t)
with_byte b c t e = (t, ap (λ (x : ℕ). x ∷ t) e)

no_boundary : (s : List ℕ) → (IsBoundary s → ⊥) → is_boundary s ≡ false
no_boundary [] h = refl
no_boundary (b ∷ t) h =
    boundary_byte b
    (λ e. absurd (h (inl (with_byte b 0x42 t e))))
    (λ e. absurd (h (inr (inl (with_byte b 0x43 t e)))))
    (λ e. absurd (h (inr (inr (with_byte b 0x4D t e)))))
    (λ e. e)

a_boundary : (s : List ℕ) → is_boundary s ≡ true → IsBoundary s
a_boundary [] h = impossible cc
a_boundary (b ∷ t) h =
    boundary_byte b
    (λ e. inl (with_byte b 0x42 t e))
    (λ e. inr (inl (with_byte b 0x43 t e)))
    (λ e. inr (inr (with_byte b 0x4D t e)))
    (λ e. let o : ◌≡◌ {A = Bool} true false = sym h ∙ e in impossible cc)

none_said : (s : List ℕ) → IsBoundary s → row_said s ≡ no_row
unfolding row_said
none_said s (inl h) = rw h.1
none_said s (inr (inl h)) = rw h.1
none_said s (inr (inr h)) = rw h.1

picked_none : (b : Bool) (q : Read (Value row_layout)) → pick b no_row (said_of row_of q) ≡ no_row → b ≡ true
picked_none true q e = refl
picked_none false (got v j) e = impossible cc
picked_none false (refused n) e = impossible cc

opened : (s : List ℕ) → (IsBoundary s → ⊥) → row_said s ≡ said_of row_of (read_at row_layout s 0)
unfolding row_said
opened s h = rw (no_boundary s h)

only_these : (s : List ℕ) → row_said s ≡ no_row → IsBoundary s
unfolding row_said
only_these s e = a_boundary s (picked_none (is_boundary s) (read_at row_layout s 0) e)

unlisted_first : (b : ℕ) (t : List ℕ) → (IsBoundary (b ∷ t) → ⊥) → (IsRowLetter b → ⊥) → row_said (b ∷ t) ≡ refused_by 27
unlisted_first b t n h =
    let s : List ℕ = b ∷ t in
    let r : read_at row_layout s 0 ≡ refused 27 =
    letter_got s 0 row_letters b (first_field s 0 b t refl)
    ∙ rw (
      choose_next s 1 _ _ _ b (λ e. h (inl e)),
      choose_next s 1 _ _ _ b (λ e. h (inr (inl e))),
      choose_next s 1 _ _ _ b (λ e. h (inr (inr (inl e)))),
      choose_next s 1 _ _ _ b (λ e. h (inr (inr (inr (inl e))))),
      choose_next s 1 _ _ _ b (λ e. h (inr (inr (inr (inr (inl e)))))),
      choose_next s 1 _ _ _ b (λ e. h (inr (inr (inr (inr (inr (inl e))))))),
      choose_next s 1 _ _ _ b (λ e. h (inr (inr (inr (inr (inr (inr e))))))),
      choose_none s 1 b,
    ) in
    opened s n ∙ rw r

pub first_byte : FirstByte
first_byte = record {
  none = none_said;
  only_these = only_these;
  no_data = refusal_cases.no_data;
  unlisted = unlisted_first;
}

-- ---- all that is told

said_told : (q : Read (Value row_layout)) (n : ℕ) → mapped row_of q ≡ refused n → said_of row_of q ≡ refused_by n
said_told q n e = rw (mapped_refused row_of q n e)

said_back : (q : Read (Value row_layout)) (n : ℕ) → said_of row_of q ≡ refused_by n → mapped row_of q ≡ refused n
said_back (got v j) n e = impossible cc
said_back (refused m) n e = let o : m ≡ n = cc in ap refused o

mapped_same : {A : Type 0} (r : Read A) → mapped (λ v. v) r ≡ r
mapped_same (got v j) = refl
mapped_same (refused n) = refl

row_told : (s : List ℕ) → are_bytes s ≡ true → (IsBoundary s → ⊥) → Told RowFits row_bytes s (λ r. row_said s ≡ row r) (λ n. row_said s ≡ refused_by n)
unfolding row_encodes
row_told s bs h =
    let t = told_all row_layout RowFits row_bytes row_encodes s bs 0 in
    let to_said : (n : ℕ) → mapped row_of (read_at row_layout s 0) ≡ refused n → row_said s ≡ refused_by n =
    λ n e. opened s h ∙ said_told (read_at row_layout s 0) n e in
    let to_read : (n : ℕ) → row_said s ≡ refused_by n → mapped row_of (read_at row_layout s 0) ≡ refused n =
    λ n e. said_back (read_at row_layout s 0) n (sym (opened s h) ∙ e) in
    record {
      sent = λ r surplus f e. ap row_said e ∙ sent_is_read r surplus f;
      ended = λ c m. to_said 26 (t.ended c m);
      negative = λ x b l m. to_said 26 (t.negative x b l m);
      unlisted = λ x b l m. to_said 27 (t.unlisted x b l m);
      was_sent = λ r e. read_is_sent s r bs e;
      only_26 = λ e. t.only_26 (to_read 26 e);
      only_27 = λ e. t.only_27 (to_read 27 e);
      only_two = λ n e. t.only_two n (to_read n e);
    }

identifier_told : (s : List ℕ) → are_bytes s ≡ true → (i : ℕ)
    → Told (λ id. id < 2 ^ 32) (λ id. be_bytes 4 id) (drop i s) (λ id. identifier_at s i ≡ got id (i + 4)) (λ n. identifier_at s i ≡ refused n)
unfolding identifier_encodes
identifier_told s bs i =
    let t = told_all (number 4) (λ id. id < 2 ^ 32) (λ id. be_bytes 4 id) identifier_encodes s bs i in
    let o = mapped_same (read_at (number 4) s i) in
    record {
      sent = λ id surplus f e. sym o ∙ rw (length_be_bytes 4 id) at (t.sent id surplus f e);
      ended = λ c m. sym o ∙ t.ended c m;
      negative = λ x b l m. sym o ∙ t.negative x b l m;
      unlisted = λ x b l m. sym o ∙ t.unlisted x b l m;
      was_sent = λ id e. t.was_sent id (rw (length_be_bytes 4 id) (o ∙ e));
      only_26 = λ e. t.only_26 (o ∙ e);
      only_27 = λ e. t.only_27 (o ∙ e);
      only_two = λ n e. t.only_two n (o ∙ e);
    }

pub tells_all : TellsAll
unfolding column_encodes described_encodes
tells_all = record {
  of_row = row_told;
  of_column = λ s bs i. told_all column_layout CellFits cell_bytes column_encodes s bs i;
  of_description = λ s bs i. told_all described_layout DescribedFits described_bytes described_encodes s bs i;
  of_identifier = identifier_told;
}
