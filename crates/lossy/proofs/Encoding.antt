-- The encoding of scalar values and Table 3-7, both ways.
use mathlib.Core.Path.{◌≡◌, refl, sym, ap, ◌∙◌}
use mathlib.Core.Bool.{Bool, true, false}
use mathlib.Core.List.{List, [], ◌∷◌, map}
use mathlib.Core.Logic.{inl, inr, ⊎_elim}
use Prim.Native.Nat.{ℕ, ◌+◌, ◌*◌, ◌-◌, ◌/◌, ◌≤◌, ◌<◌}
use native.Mathlib.Nat.{mod-lt}
use native.Mathlib.Omega.{arith}
use lib.Dec.{ltb, leb, lit<}
use borrow.Author.Tests.{le-leb, lt-ltb, le-ltb, leb-true, ltb-true, ltb-false}
use Rattle.wire.specs.Bytes.{pick}
use Rattle.wire.proofs.Laws.{by_test, impossible}
use Rattle.utf8.specs.WellFormed.{Range, table, within}
use Rattle.lossy.specs.Parts.{Matches, Sequence, AllSequences}
use Rattle.lossy.specs.Encoding.{Scalar, trailing, utf8, AllScalars, ScalarIsSequence, SequenceIsScalar, EncodedIsUnchanged}
use Rattle.lossy.proofs.Parts.{well_formed_is_unchanged}

pub inside : (r : Range) (b : ℕ) → r.low ≤ b → b ≤ r.high → within r b ≡ true
inside r b h k = simp (le-leb _ _ h, le-leb _ _ k)

-- a byte of six bits
six : (c v : ℕ) → within (record { low = 0x80; high = 0xBF }) (trailing c v) ≡ true
six c v = inside (record { low = 0x80; high = 0xBF }) (trailing c v) (omega arith) (omega (arith, mod-lt (c / v) (lit< {m = 0} {n = 64} tt)))

-- ---- from a scalar value to its row

one_byte : (c : ℕ) → c < 0x80 → Sequence (c ∷ [])
unfolding table
one_byte c h = inl (inside _ c (omega arith) (omega arith), tt)

two_bytes : (c : ℕ) → 0x80 ≤ c → c < 0x800 → Sequence ((0xC0 + c / 64) ∷ trailing c 1 ∷ [])
unfolding table
two_bytes c h k = inr (inl (inside _ (0xC0 + c / 64) (omega arith) (omega arith), (six c 1, tt)))

three_bytes : (c : ℕ) → 0x800 ≤ c → c < 0x10000 → Scalar c → Sequence ((0xE0 + c / 4096) ∷ trailing c 64 ∷ trailing c 1 ∷ [])
unfolding table
three_bytes c h k s =
    by_test (ltb c 0x1000)
    (λ t.
    let a : c < 0x1000 = ltb-true _ _ t in
    inr (inr (inl (inside _ (0xE0 + c / 4096) (omega arith) (omega arith), (inside _ (trailing c 64) (omega arith) (omega arith), (six c 1, tt))))))
    (λ t. let a : 0x1000 ≤ c = ltb-false _ _ t in by_test (ltb c 0xD000)
    (λ u.
    let b : c < 0xD000 = ltb-true _ _ u in
    inr (inr (inr (inl (inside _ (0xE0 + c / 4096) (omega arith) (omega arith), (six c 64, (six c 1, tt)))))))
    (λ u. let b : 0xD000 ≤ c = ltb-false _ _ u in ⊎_elim
    (λ w.
    let d : c < 0xD800 = w in
    inr (inr (inr (inr (inl (inside _ (0xE0 + c / 4096) (omega arith) (omega arith), (inside _ (trailing c 64) (omega arith) (omega arith), (six c 1, tt))))))))
    (λ w.
    let d : 0xE000 ≤ c = w.0 in
    inr (inr (inr (inr (inr (inl (inside _ (0xE0 + c / 4096) (omega arith) (omega arith), (six c 64, (six c 1, tt)))))))))
    s))

four_bytes : (c : ℕ) → 0x10000 ≤ c → c ≤ 0x10FFFF → Sequence ((0xF0 + c / 262144) ∷ trailing c 4096 ∷ trailing c 64 ∷ trailing c 1 ∷ [])
unfolding table
four_bytes c h k =
    by_test (ltb c 0x40000)
    (λ t.
    let a : c < 0x40000 = ltb-true _ _ t in
    inr (inr (inr (inr (inr (inr (inl (inside _ (0xF0 + c / 262144) (omega arith) (omega arith), (inside _ (trailing c 4096) (omega arith) (omega arith), (six c 64, (six c 1, tt)))))))))))
    (λ t. let a : 0x40000 ≤ c = ltb-false _ _ t in by_test (ltb c 0x100000)
    (λ u.
    let b : c < 0x100000 = ltb-true _ _ u in
    inr (inr (inr (inr (inr (inr (inr (inl (inside _ (0xF0 + c / 262144) (omega arith) (omega arith), (six c 4096, (six c 64, (six c 1, tt))))))))))))
    (λ u.
    let b : 0x100000 ≤ c = ltb-false _ _ u in
    inr (inr (inr (inr (inr (inr (inr (inr (inl (inside _ (0xF0 + c / 262144) (omega arith) (omega arith), (inside _ (trailing c 4096) (omega arith) (omega arith), (six c 64, (six c 1, tt))))))))))))))

pub scalar_is_sequence : ScalarIsSequence
unfolding utf8
scalar_is_sequence c s =
    by_test (ltb c 0x80)
    (λ t. rw t (one_byte c (ltb-true _ _ t)))
    (λ t. by_test (ltb c 0x800)
    (λ u. rw (t, u) (two_bytes c (ltb-false _ _ t) (ltb-true _ _ u)))
    (λ u. by_test (ltb c 0x10000)
    (λ v. rw (t, u, v) (three_bytes c (ltb-false _ _ u) (ltb-true _ _ v) s))
    (λ v.
    let h : 0x10000 ≤ c = ltb-false _ _ v in
    rw (t, u, v) (four_bytes c h (⊎_elim (λ w. omega arith) (λ w. w.1) s)))))

all_sequences : (cs : List ℕ) → AllScalars cs → AllSequences (map utf8 cs)
all_sequences [] s = tt
all_sequences (c ∷ cs) s = (scalar_is_sequence c s.0, all_sequences cs s.1)

pub encoded_is_unchanged : EncodedIsUnchanged
encoded_is_unchanged cs s = well_formed_is_unchanged (map utf8 cs) (all_sequences cs s)

-- ---- from a sequence to its scalar value

abbrev to : ℕ → ℕ → Range
to a b = record { low = a; high = b }

pub range_of : (r : Range) (b : ℕ) → within r b ≡ true → (r.low ≤ b) × (b ≤ r.high)
range_of r b e = by (leb r.low b) refl e
  where
    by : (t : Bool) → leb r.low b ≡ t → pick t (leb b r.high) false ≡ true → (r.low ≤ b) × (b ≤ r.high)
    by true q p = (leb-true r.low b q, leb-true b r.high p)
    by false q p = impossible cc

-- a text that matches a row: its first byte, and the text after it
record First (r : Range) (rs : List Range) (s : List ℕ) : Type 0 where
  byte : ℕ
  rest : List ℕ
  is : s ≡ byte ∷ rest
  low : r.low ≤ byte
  high : byte ≤ r.high
  more : Matches rs rest

first : (r : Range) (rs : List Range) (s : List ℕ) → Matches (r ∷ rs) s → First r rs s
first r rs [] w = absurd w
first r rs (b ∷ s) w =
    let m = range_of r b w.0 in
    record { byte = b; rest = s; is = refl; low = m.0; high = m.1; more = w.1 }

none_left : (s : List ℕ) → Matches [] s → s ≡ []
none_left [] w = refl
none_left (b ∷ s) w = absurd w

-- what is shown of each sequence
abbrev Encodes : List ℕ → Type 0
Encodes s = (c : ℕ) × Scalar c × (utf8 c ≡ s)

encodes_two : (x y : ℕ) → 2 ≤ x → x < 32 → y < 64 → utf8 (x * 64 + y) ≡ (0xC0 + x) ∷ (0x80 + y) ∷ []
unfolding utf8
encodes_two x y a b d =
    let c : ℕ = x * 64 + y in
    let e₀ : 0xC0 + c / 64 ≡ 0xC0 + x = omega arith in
    let e₁ : trailing c 1 ≡ 0x80 + y = omega arith in
    simp (le-ltb c 0x80 (omega arith), lt-ltb c 0x800 (omega arith)) (rw (e₀, e₁))

encodes_three : (x y z : ℕ) → x < 16 → y < 64 → z < 64 → 0x800 ≤ x * 4096 + y * 64 + z
    → utf8 (x * 4096 + y * 64 + z) ≡ (0xE0 + x) ∷ (0x80 + y) ∷ (0x80 + z) ∷ []
unfolding utf8
encodes_three x y z a b d h =
    let c : ℕ = x * 4096 + y * 64 + z in
    let e₀ : 0xE0 + c / 4096 ≡ 0xE0 + x = omega arith in
    let e₁ : trailing c 64 ≡ 0x80 + y = omega arith in
    let e₂ : trailing c 1 ≡ 0x80 + z = omega arith in
    simp (le-ltb c 0x80 (omega arith), le-ltb c 0x800 (omega arith), lt-ltb c 0x10000 (omega arith)) (rw (e₀, e₁, e₂))

encodes_four : (x y z v : ℕ) → x < 8 → y < 64 → z < 64 → v < 64 → 0x10000 ≤ x * 262144 + y * 4096 + z * 64 + v
    → utf8 (x * 262144 + y * 4096 + z * 64 + v) ≡ (0xF0 + x) ∷ (0x80 + y) ∷ (0x80 + z) ∷ (0x80 + v) ∷ []
unfolding utf8
encodes_four x y z v a b d f h =
    let c : ℕ = x * 262144 + y * 4096 + z * 64 + v in
    let e₀ : 0xF0 + c / 262144 ≡ 0xF0 + x = omega arith in
    let e₁ : trailing c 4096 ≡ 0x80 + y = omega arith in
    let e₂ : trailing c 64 ≡ 0x80 + z = omega arith in
    let e₃ : trailing c 1 ≡ 0x80 + v = omega arith in
    simp (le-ltb c 0x80 (omega arith), le-ltb c 0x800 (omega arith), le-ltb c 0x10000 (omega arith)) (rw (e₀, e₁, e₂, e₃))

one_back : (s : List ℕ) → Matches (to 0x00 0x7F ∷ []) s → Encodes s
unfolding utf8
one_back s w =
    let f = first (to 0x00 0x7F) [] s w in
    let b : ℕ = f.byte in
    let h : b < 0x80 = omega (arith, f.high) in
    let e : utf8 b ≡ b ∷ [] = simp (lt-ltb b 0x80 h) in
    (b, inl (omega arith), e ∙ sym (f.is ∙ ap (λ (x : List ℕ). b ∷ x) (none_left f.rest f.more)))

-- a byte at a time
byte_list : {s t v : List ℕ} {a x : ℕ} → s ≡ a ∷ t → x ≡ a → v ≡ t → x ∷ v ≡ s
byte_list p q r = rw (p, q, r)

two_back : (s : List ℕ) → Matches (to 0xC2 0xDF ∷ to 0x80 0xBF ∷ []) s → Encodes s
two_back s w =
    let f = first (to 0xC2 0xDF) (to 0x80 0xBF ∷ []) s w in
    let g = first (to 0x80 0xBF) [] f.rest f.more in
    let x : ℕ = f.byte - 0xC0 in
    let y : ℕ = g.byte - 0x80 in
    let lx : 0xC2 ≤ f.byte = f.low in
    let hx : f.byte ≤ 0xDF = f.high in
    let ly : 0x80 ≤ g.byte = g.low in
    let hy : g.byte ≤ 0xBF = g.high in
    let bx : 0xC0 + x ≡ f.byte = omega arith in
    let by : 0x80 + y ≡ g.byte = omega arith in
    let e = encodes_two x y (omega arith) (omega arith) (omega arith) in
    let n = none_left g.rest g.more in
    (x * 64 + y, inl (omega arith), e ∙ byte_list f.is bx (byte_list g.is by (sym n)))

-- three bytes, whose first is E0 to EF: a scalar value where they are none of a surrogate or of fewer bytes
three_back : (r₀ r₁ : Range) (s : List ℕ) → 0xE0 ≤ r₀.low → r₀.high ≤ 0xEF → 0x80 ≤ r₁.low → r₁.high ≤ 0xBF
    → ((a b d : ℕ) → r₀.low ≤ a → a ≤ r₀.high → r₁.low ≤ b → b ≤ r₁.high → 0x80 ≤ d → d ≤ 0xBF
    → let c = (a - 0xE0) * 4096 + (b - 0x80) * 64 + (d - 0x80) in Scalar c × (0x800 ≤ c))
    → Matches (r₀ ∷ r₁ ∷ to 0x80 0xBF ∷ []) s → Encodes s
three_back r₀ r₁ s a₀ a₁ b₀ b₁ scalar w =
    let f = first r₀ (r₁ ∷ to 0x80 0xBF ∷ []) s w in
    let g = first r₁ (to 0x80 0xBF ∷ []) f.rest f.more in
    let h = first (to 0x80 0xBF) [] g.rest g.more in
    let x : ℕ = f.byte - 0xE0 in
    let y : ℕ = g.byte - 0x80 in
    let z : ℕ = h.byte - 0x80 in
    let lx : r₀.low ≤ f.byte = f.low in
    let hx : f.byte ≤ r₀.high = f.high in
    let ly : r₁.low ≤ g.byte = g.low in
    let hy : g.byte ≤ r₁.high = g.high in
    let lz : 0x80 ≤ h.byte = h.low in
    let hz : h.byte ≤ 0xBF = h.high in
    let bx : 0xE0 + x ≡ f.byte = omega arith in
    let by : 0x80 + y ≡ g.byte = omega arith in
    let bz : 0x80 + z ≡ h.byte = omega arith in
    let c = scalar f.byte g.byte h.byte lx hx ly hy lz hz in
    let e = encodes_three x y z (omega arith) (omega arith) (omega arith) c.1 in
    let n = none_left h.rest h.more in
    (x * 4096 + y * 64 + z, c.0, e ∙ byte_list f.is bx (byte_list g.is by (byte_list h.is bz (sym n))))

four_back : (r₀ r₁ : Range) (s : List ℕ) → 0xF0 ≤ r₀.low → r₀.high ≤ 0xF7 → 0x80 ≤ r₁.low → r₁.high ≤ 0xBF
    → ((a b d e : ℕ) → r₀.low ≤ a → a ≤ r₀.high → r₁.low ≤ b → b ≤ r₁.high → 0x80 ≤ d → d ≤ 0xBF → 0x80 ≤ e → e ≤ 0xBF
    → let c = (a - 0xF0) * 262144 + (b - 0x80) * 4096 + (d - 0x80) * 64 + (e - 0x80) in (0x10000 ≤ c) × (c ≤ 0x10FFFF))
    → Matches (r₀ ∷ r₁ ∷ to 0x80 0xBF ∷ to 0x80 0xBF ∷ []) s → Encodes s
four_back r₀ r₁ s a₀ a₁ b₀ b₁ scalar w =
    let f = first r₀ (r₁ ∷ to 0x80 0xBF ∷ to 0x80 0xBF ∷ []) s w in
    let g = first r₁ (to 0x80 0xBF ∷ to 0x80 0xBF ∷ []) f.rest f.more in
    let h = first (to 0x80 0xBF) (to 0x80 0xBF ∷ []) g.rest g.more in
    let k = first (to 0x80 0xBF) [] h.rest h.more in
    let x : ℕ = f.byte - 0xF0 in
    let y : ℕ = g.byte - 0x80 in
    let z : ℕ = h.byte - 0x80 in
    let v : ℕ = k.byte - 0x80 in
    let lx : r₀.low ≤ f.byte = f.low in
    let hx : f.byte ≤ r₀.high = f.high in
    let ly : r₁.low ≤ g.byte = g.low in
    let hy : g.byte ≤ r₁.high = g.high in
    let lz : 0x80 ≤ h.byte = h.low in
    let hz : h.byte ≤ 0xBF = h.high in
    let lv : 0x80 ≤ k.byte = k.low in
    let hv : k.byte ≤ 0xBF = k.high in
    let bx : 0xF0 + x ≡ f.byte = omega arith in
    let by : 0x80 + y ≡ g.byte = omega arith in
    let bz : 0x80 + z ≡ h.byte = omega arith in
    let bv : 0x80 + v ≡ k.byte = omega arith in
    let c = scalar f.byte g.byte h.byte k.byte lx hx ly hy lz hz lv hv in
    let e = encodes_four x y z v (omega arith) (omega arith) (omega arith) (omega arith) c.0 in
    let n = none_left k.rest k.more in
    let m : ℕ = x * 262144 + y * 4096 + z * 64 + v in
    let l : 0xE000 ≤ m = omega (arith, c.0) in
    (m, inr (l, c.1), e ∙ byte_list f.is bx (byte_list g.is by (byte_list h.is bz (byte_list k.is bv (sym n)))))

pub sequence_is_scalar : SequenceIsScalar
unfolding table
sequence_is_scalar s (inl w) = one_back s w
sequence_is_scalar s (inr (inl w)) = two_back s w
sequence_is_scalar s (inr (inr (inl w))) =
    three_back (to 0xE0 0xE0) (to 0xA0 0xBF) s (omega arith) (omega arith) (omega arith) (omega arith)
    (λ a b d p q r t u v. (inl (omega arith), omega arith)) w
sequence_is_scalar s (inr (inr (inr (inl w)))) =
    three_back (to 0xE1 0xEC) (to 0x80 0xBF) s (omega arith) (omega arith) (omega arith) (omega arith)
    (λ a b d p q r t u v. (inl (omega arith), omega arith)) w
sequence_is_scalar s (inr (inr (inr (inr (inl w))))) =
    three_back (to 0xED 0xED) (to 0x80 0x9F) s (omega arith) (omega arith) (omega arith) (omega arith)
    (λ a b d p q r t u v. (inl (omega arith), omega arith)) w
sequence_is_scalar s (inr (inr (inr (inr (inr (inl w)))))) =
    three_back (to 0xEE 0xEF) (to 0x80 0xBF) s (omega arith) (omega arith) (omega arith) (omega arith)
    (λ a b d p q r t u v. (inr (omega arith, omega arith), omega arith)) w
sequence_is_scalar s (inr (inr (inr (inr (inr (inr (inl w))))))) =
    four_back (to 0xF0 0xF0) (to 0x90 0xBF) s (omega arith) (omega arith) (omega arith) (omega arith)
    (λ a b d e p q r t u v x y. (omega arith, omega arith)) w
sequence_is_scalar s (inr (inr (inr (inr (inr (inr (inr (inl w)))))))) =
    four_back (to 0xF1 0xF3) (to 0x80 0xBF) s (omega arith) (omega arith) (omega arith) (omega arith)
    (λ a b d e p q r t u v x y. (omega arith, omega arith)) w
sequence_is_scalar s (inr (inr (inr (inr (inr (inr (inr (inr (inl w))))))))) =
    four_back (to 0xF4 0xF4) (to 0x80 0x8F) s (omega arith) (omega arith) (omega arith) (omega arith)
    (λ a b d e p q r t u v x y. (omega arith, omega arith)) w
sequence_is_scalar s (inr (inr (inr (inr (inr (inr (inr (inr (inr w))))))))) = absurd w
