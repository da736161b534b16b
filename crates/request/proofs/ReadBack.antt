-- The query that opens a stream, read back word by word.
use mathlib.Core.Path.{◌≡◌, refl}
use mathlib.Core.Bool.{Bool, true, false}
use mathlib.Core.List.{List, [], ◌∷◌, ◌++◌, map}
use mathlib.Core.Option.{some}
use Prim.Native.Nat.{ℕ, zero, suc, ◌/◌, ◌%◌, ◌^◌, ◌≤◌}
use native.Mathlib.Omega.{arith}
use lib.ListN.{length}
use lib.Dec.{ltb}
use borrow.Author.Tests.{ne_eqb}
use denote.Ref.{Bor}
use Rattle.wire.proofs.Laws.{by_test}
use Rattle.text.specs.Numeral.{glyph_of, numeral, hex_text}
use Rattle.lsn.specs.declared.Lsn.{Lsn}
use Rattle.lsn.specs.Position.{display_of}
use Rattle.lsn.proofs.ReadBack.{read_back}
use Rattle.config.specs.OptionValue.{option_value}
use Rattle.text.specs.Ascii.{ascii}
use Rattle.config.specs.ReadBack.{unquoted, with_commas}
use Rattle.config.proofs.ReadBack.{value_read_back}
use Rattle.request.specs.Request.{start_replication}
use Rattle.request.specs.ReadBack.{rest_after, word, options_from, asked_of, options, NoSpace, RequestReadBack}

-- ---- words

pub word_back : (v s : List ℕ) → NoSpace v → word (v ++ (32 ∷ s)) ≡ some (v, s)
unfolding word
word_back [] s n = refl
word_back (c ∷ v) s n = rw (ne_eqb c 32 n.0, word_back v s n.1)

no_space_append : (a b : List ℕ) → NoSpace a → NoSpace b → NoSpace (a ++ b)
no_space_append [] b n m = m
no_space_append (c ∷ a) b n m = (n.0, no_space_append a b n.1 m)

glyph_no_space : (d : ℕ) → glyph_of d ≡ 32 → ⊥
glyph_no_space d = by_test (ltb d 10) (λ t. simp t (λ e. omega arith)) (λ t. simp t (λ e. omega arith))

numeral_no_space : (n v : ℕ) → NoSpace (numeral 16 n v)
unfolding numeral
numeral_no_space zero v = tt
numeral_no_space (suc n) v =
    by_test (ltb v 16)
    (λ t. simp t (glyph_no_space v, tt))
    (λ t. simp t (no_space_append (numeral 16 n (v / 16)) (glyph_of (v % 16) ∷ []) (numeral_no_space n (v / 16)) (glyph_no_space (v % 16), tt)))

pub display_no_space : (v : ℕ) → NoSpace (display_of v)
unfolding display_of
display_no_space v =
    no_space_append (hex_text (v / 2 ^ 32)) (47 ∷ hex_text (v % 2 ^ 32)) (numeral_no_space 20 (v / 2 ^ 32)) ((λ e. omega arith), numeral_no_space 20 (v % 2 ^ 32))

-- ---- options

-- the options after the names' closing quote
abbrev pub ending : Bool → List ℕ
ending true = ascii ", messages 'true', binary 'true')"
ending false = ascii ", messages 'true')"

abbrev pub beginning : List ℕ → List ℕ
beginning s = ascii "proto_version '1', publication_names '" ++ s

options_back : (binary : Bool) (n : ℕ) (names : List (Bor (List ℕ)))
    → options_from (suc (suc (suc (suc n)))) (beginning (option_value names ++ (39 ∷ ending binary))) ≡ some (options binary (with_commas (map (λ x. x.now) names)))
unfolding options_from word rest_after ascii unquoted
options_back true n names = rw (value_read_back names (ending true) (λ e. omega arith))
options_back false n names = rw (value_read_back names (ending false) (λ e. omega arith))

options_enough : (binary : Bool) (k : ℕ) (names : List (Bor (List ℕ))) → 4 ≤ k
    → options_from k (beginning (option_value names ++ (39 ∷ ending binary))) ≡ some (options binary (with_commas (map (λ x. x.now) names)))
options_enough binary zero names h = absurd (omega arith)
options_enough binary (suc zero) names h = absurd (omega arith)
options_enough binary (suc (suc zero)) names h = absurd (omega arith)
options_enough binary (suc (suc (suc zero))) names h = absurd (omega arith)
options_enough binary (suc (suc (suc (suc n)))) names h = options_back binary n names

-- ---- the query

-- the query in words
pub pieces : (binary : Bool) (slot : List ℕ) (names : List (Bor (List ℕ))) (p : Lsn)
    → start_replication binary slot names p
    ≡ ascii "START_REPLICATION SLOT " ++ (slot
    ++ (32 ∷ (ascii "LOGICAL " ++ (display_of p.0
    ++ (32 ∷ (40 ∷ beginning (option_value names ++ (39 ∷ ending binary))))))))
unfolding start_replication ascii
pieces true slot names p = refl
pieces false slot names p = refl

pub after_start : (s : List ℕ) → rest_after (ascii "START_REPLICATION SLOT ") (ascii "START_REPLICATION SLOT " ++ s) ≡ some s
unfolding rest_after ascii
after_start s = refl

pub after_logical : (s : List ℕ) → rest_after (ascii "LOGICAL ") (ascii "LOGICAL " ++ s) ≡ some s
unfolding rest_after ascii
after_logical s = refl

after_open : (s : List ℕ) → rest_after (ascii "(") (40 ∷ s) ≡ some s
unfolding rest_after ascii
after_open s = refl

enough : (s : List ℕ) → 4 ≤ length (beginning s)
unfolding ascii
enough s = omega arith

pub request_read_back : RequestReadBack
unfolding asked_of
request_read_back binary slot names p n h =
    let d : List ℕ = display_of p.0 in
    let c : List ℕ = beginning (option_value names ++ (39 ∷ ending binary)) in
    let t : List ℕ = ascii "LOGICAL " ++ (d ++ (32 ∷ (40 ∷ c))) in
    rw (
      pieces binary slot names p,
      after_start (slot ++ (32 ∷ t)),
      word_back slot t n,
      after_logical (d ++ (32 ∷ (40 ∷ c))),
      word_back d (40 ∷ c) (display_no_space p.0),
      after_open c,
      options_enough binary (length c) names (enough (option_value names ++ (39 ∷ ending binary))),
      read_back p.0 h,
    )
