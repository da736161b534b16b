-- A description field by field.
use mathlib.Core.Path.{◌≡◌}
use mathlib.Core.List.{List}
use mathlib.Core.Option.{some, none}
use Prim.Native.Nat.{ℕ, ◌+◌}
use lib.ListN.{length}
use Rattle.wire.specs.Field.{field_at}
use Rattle.rows.specs.Layout.{Layout, number, name, both, Value, Read, got, refused, cut, mapped, read_at}
use Rattle.rows.specs.Rows.{described_of}
use Rattle.rows.specs.Head.{Span, ToldDescription, told_description, described_at, description_at, typed_layout}
use Rattle.rows.proofs.Steps.{number_got, number_cut, both_got, both_refused, refused_back, got_back}

module _ (s : List ℕ) (i : ℕ) where
  abbrev Reads : Read ToldDescription → Type 0
  Reads r = mapped (described_at i) (description_at s i) ≡ r

  pub flags_cut : field_at 1 s i ≡ none → Reads cut
  flags_cut e = rw (both_refused s i (number 1) _ 26 (number_cut s i 1 e))

  module _ (flags : ℕ) (e : field_at 1 s i ≡ some flags) where
    abbrev rest : Layout
    rest = both name typed_layout

    pub name_cut : {m : ℕ} → refused m ≡ mapped {B = Span} (λ v. (i + 1, length v)) (read_at name s (i + 1)) → Reads (refused m)
    name_cut {m} h = rw (
      both_got s i (number 1) rest flags (i + 1) (number_got s i 1 flags e),
      both_refused s (i + 1) name typed_layout m (refused_back _ _ m h),
    )

    as_told : (r : Read (Value typed_layout)) (v : List ℕ) (part : Span) (x : Read ToldDescription) → part ≡ (i + 1, length v)
        → x ≡ mapped (λ w. told_description flags part w.0 w.1) r
        → mapped (described_at i) (mapped described_of (mapped (λ w. (flags, w)) (mapped (λ w. (v, w)) r))) ≡ x
    as_told (got w j) v part x p h = rw (h, p)
    as_told (refused n) v part x p h = rw h

    pub described_typed : {part : Span} {next : ℕ} → got part next ≡ mapped {B = Span} (λ v. (i + 1, length v)) (read_at name s (i + 1))
        → {x : Read ToldDescription} → x ≡ mapped (λ w. told_description flags part w.0 w.1) (read_at typed_layout s next) → Reads x
    described_typed {part} {next} h {x} g =
        let n = got_back _ (read_at name s (i + 1)) part next h in
        rw (both_got s i (number 1) rest flags (i + 1) (number_got s i 1 flags e), both_got s (i + 1) name typed_layout n.0 next n.1)
        (as_told (read_at typed_layout s next) n.0 part x n.2 g)
