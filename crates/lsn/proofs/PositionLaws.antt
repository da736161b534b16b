-- Display by the spelling of its halves; the refusals by where the slash stands and what its two sides are.
use mathlib.Core.Bool.{true, false}
use mathlib.Core.Path.{◌≡◌, refl, sym, ap, ◌∙◌}
use mathlib.Core.List.{List, [], ◌∷◌, ◌++◌}
use mathlib.Core.Logic.{◌⊎◌, inl, inr}
use mathlib.Core.Option.{Option, some, none}
use Prim.Native.Nat.{ℕ, ◌+◌, ◌/◌, ◌%◌, ◌^◌, ◌≤◌, ◌<◌}
use native.Mathlib.Omega.{arith}
use lib.ListN.{length, take, drop, length-append}
use lib.Dec.{eqb}
use borrow.Author.Tests.{lt-ltb, le-ltb, eqb-false}
use Rattle.wire.specs.Find.{index_of}
use Rattle.wire.proofs.Laws.{by_test, impossible}
use Rattle.wire.proofs.FindLaws.{nothing_later, found_later}
use Rattle.text.specs.Numeral.{hex_text}
use Rattle.text.proofs.Spelling.{spelling_laws}
use Rattle.lsn.specs.Hex.{hex_part}
use Rattle.moment.specs.declared.Moment.{Moment}
use Rattle.lsn.specs.declared.Lsn.{Lsn}
use Rattle.lsn.specs.Position.{joined, position_by_parts, by_slash, position_of, display_of, is_below, is_below_at}
use Rattle.lsn.specs.Spelled.{Number, NoSlash, Spells}
use Rattle.lsn.specs.PositionLaws.{Displayed, DisplayLaws, RefusalLaws}
use Rattle.lsn.proofs.Spelled.{parted, part_number, number_part, spelled_laws}
use Rattle.lsn.proofs.ReadBack.{display_spells}

-- ---- Display

displayed : (v : ℕ) → v < 2 ^ 64 → Displayed (display_of v) v
unfolding display_of
displayed v h =
    record {
      high = hex_text (v / 2 ^ 32);
      low = hex_text (v % 2 ^ 32);
      hi = v / 2 ^ 32;
      lo = v % 2 ^ 32;
      text = refl;
      high_half = spelling_laws.hexadecimal (v / 2 ^ 32) (omega arith);
      low_half = spelling_laws.hexadecimal (v % 2 ^ 32) (omega arith);
      below = omega arith;
      position = omega arith;
    }

size : (v : ℕ) → v < 2 ^ 64 → (3 ≤ length (display_of v)) × (length (display_of v) ≤ 17)
size v h =
    let x : Spells (display_of v) v = display_spells v h in
    let l : length (display_of v) ≡ length x.high + (1 + length x.low) =
    ap length x.text ∙ length-append x.high (47 ∷ x.low) ∙ omega arith in
    let a : 1 ≤ length x.high = x.high_number.0 in
    let b : 1 ≤ length x.low = x.low_number.0 in
    (omega arith, (spelled_laws.halves (display_of v) v x).3)

one_text : (s t : List ℕ) (p : ℕ) → Displayed s p → Displayed t p → s ≡ t
one_text s t p x y =
    let a : x.lo < 2 ^ 32 = x.below in
    let b : y.lo < 2 ^ 32 = y.below in
    let e : x.hi ≡ y.hi = omega (arith, x.position, y.position) in
    let f : x.lo ≡ y.lo = omega (arith, x.position, y.position) in
    let m : x.high ≡ y.high =
    spelling_laws.one_spelling 16 x.high y.high y.hi (omega arith) (omega arith) (rw e at x.high_half) y.high_half in
    let n : x.low ≡ y.low =
    spelling_laws.one_spelling 16 x.low y.low y.lo (omega arith) (omega arith) (rw f at x.low_half) y.low_half in
    x.text ∙ rw (m, n) (sym y.text)

pub display_laws : DisplayLaws
display_laws = record { displayed = displayed; size = size; one_text = one_text }

-- ---- refusals

without : (s : List ℕ) → index_of 47 s ≡ none → NoSlash s
unfolding index_of
without [] e = tt
without (c ∷ s) e =
    by_test (eqb c 47)
    (λ t. impossible (cc (rw t at e)))
    (λ t. (eqb-false c 47 t, without s (nothing_later (index_of 47 s) (rw t at e))))

front : (s : List ℕ) (k : ℕ) → index_of 47 s ≡ some k → NoSlash (take k s)
unfolding index_of
front [] k e = impossible cc
front (c ∷ s) k e =
    by_test (eqb c 47)
    (λ t. let q : k ≡ 0 = cc (rw t at e) in rw q tt)
    (λ t. let w = found_later (index_of 47 s) k (rw t at e) in rw w.2 (eqb-false c 47 t, front s w.0 w.1))

no_number : (s : List ℕ) → hex_part s ≡ none → (v : ℕ) → Number s v → ⊥
no_number s e v x = let f : hex_part s ≡ some v = number_part s v x in let z : ◌≡◌ {A = ℕ} 0 1 = cc in omega arith

-- what a text is, by the slash and its two sides
pub record Refused (s : List ℕ) (n : ℕ) : Type 0 where
  pub slashless : n ≡ 22 → NoSlash s
  pub bad_high : n ≡ 23 → (high : List ℕ) × (low : List ℕ) × (s ≡ high ++ (47 ∷ low)) × NoSlash high × ((v : ℕ) → Number high v → ⊥)
  pub bad_low : n ≡ 24 → (high : List ℕ) × (low : List ℕ) × (hi : ℕ) × (s ≡ high ++ (47 ∷ low)) × Number high hi × ((v : ℕ) → Number low v → ⊥)

by_parts : (s : List ℕ) (k : ℕ) (a b : Option ℕ) → index_of 47 s ≡ some k → hex_part (take k s) ≡ a → hex_part (drop (k + 1) s) ≡ b
    → Refused s (position_by_parts a b).0
by_parts s k none b i f g =
    record {
      slashless = λ e. absurd (omega arith);
      bad_high = λ e. (take k s, drop (k + 1) s, parted s k i, front s k i, no_number (take k s) f);
      bad_low = λ e. absurd (omega arith);
    }
by_parts s k (some hi) none i f g =
    record {
      slashless = λ e. absurd (omega arith);
      bad_high = λ e. absurd (omega arith);
      bad_low = λ e. (take k s, drop (k + 1) s, hi, parted s k i, part_number (take k s) hi f, no_number (drop (k + 1) s) g);
    }
by_parts s k (some hi) (some lo) i f g =
    record { slashless = λ e. absurd (omega arith); bad_high = λ e. absurd (omega arith); bad_low = λ e. absurd (omega arith) }

by_slash_lem : (s : List ℕ) (o : Option ℕ) → index_of 47 s ≡ o → Refused s (by_slash s o).0
by_slash_lem s none i = record { slashless = λ e. without s i; bad_high = λ e. absurd (omega arith); bad_low = λ e. absurd (omega arith) }
by_slash_lem s (some k) i = by_parts s k (hex_part (take k s)) (hex_part (drop (k + 1) s)) i refl refl

reason : (s : List ℕ) → Refused s (position_of s).0
unfolding position_of
reason s = by_slash_lem s (index_of 47 s) refl

abbrev Answer : ℕ × ℕ → Type 0
Answer r = (r ≡ (22, 0)) ⊎ ((r ≡ (23, 0)) ⊎ ((r ≡ (24, 0)) ⊎ ((p : ℕ) × (r ≡ (0, p)))))

answer_parts : (a b : Option ℕ) → Answer (position_by_parts a b)
answer_parts none b = inr (inl refl)
answer_parts (some hi) none = inr (inr (inl refl))
answer_parts (some hi) (some lo) = inr (inr (inr (joined hi lo, refl)))

answer_slash : (s : List ℕ) (o : Option ℕ) → Answer (by_slash s o)
answer_slash s none = inl refl
answer_slash s (some i) = answer_parts (hex_part (take i s)) (hex_part (drop (i + 1) s))

no_other : (s : List ℕ) → Answer (position_of s)
unfolding position_of
no_other s = answer_slash s (index_of 47 s)

pub refusal_laws : RefusalLaws
refusal_laws =
    record {
      twenty_two = λ s e. (reason s).slashless e;
      twenty_three = λ s e. (reason s).bad_high e;
      twenty_four = λ s e. (reason s).bad_low e;
      no_other = no_other;
      answered = λ p. refl;
      refused = λ r. refl;
    }

-- positions are ordered as numbers, at every moment alike
pub record OrderLaws : Type 0 where
  pub below : (a b : Lsn) → a.0 < b.0 → is_below a b ≡ true
  pub not_below : (a b : Lsn) → b.0 ≤ a.0 → is_below a b ≡ false
  pub at_a_moment : (m : Moment) (a b : Lsn) → is_below_at m a b ≡ is_below a b

pub order_laws : OrderLaws
order_laws = record { below = λ a b h. lt-ltb _ _ h; not_below = λ a b h. le-ltb _ _ h; at_a_moment = λ m a b. refl }
