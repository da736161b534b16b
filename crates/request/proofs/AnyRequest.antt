-- A query that is read is no query with more bytes after it, so no part of the query that is written is one; the words of a text, blank by blank.
use mathlib.Core.Path.{◌≡◌, refl, sym, ap, ◌∙◌}
use mathlib.Core.Bool.{Bool, true, false}
use mathlib.Core.List.{List, [], ◌∷◌, ◌++◌, append_assoc}
use mathlib.Core.Option.{Option, some, none}
use Prim.Native.Nat.{ℕ, zero, suc, ◌/◌, ◌%◌, ◌^◌, ◌≤◌}
use native.Mathlib.Omega.{arith}
use lib.ListN.{length}
use lib.Dec.{ltb, eqb}
use borrow.Author.Tests.{ne_eqb, eqb-true, eqb-false}
use denote.Ref.{Bor}
use Rattle.wire.specs.Bytes.{pick}
use Rattle.wire.specs.Field.{and_then}
use Rattle.wire.specs.Find.{NoZero}
use Rattle.wire.proofs.Laws.{by_test, impossible}
use Rattle.text.specs.Numeral.{glyph_of, numeral, hex_text}
use Rattle.lsn.specs.declared.Lsn.{Lsn}
use Rattle.lsn.specs.Position.{position_of, display_of}
use Rattle.config.specs.OptionValue.{doubled, following, option_value}
use Rattle.text.specs.Ascii.{ascii, on_first}
use Rattle.config.specs.ReadBack.{with_byte, unquoted}
use Rattle.frontend.proofs.ServerReads.{query_read_back, query_cut_at_zero}
use Rattle.request.specs.Request.{start_replication}
use Rattle.request.specs.ReadBack.{rest_after, word, next_by, options_from, Asked, asked_of, NoSpace}
use Rattle.request.specs.AnyRequest.{words_of, not_empty, tokens_of, NoZeros, options_text, RequestLaws}
use Rattle.request.proofs.ReadBack.{word_back, display_no_space, beginning, ending, pieces, after_start, request_read_back}

-- ---- more bytes after a text that is read

rest_more : (p s r u : List ℕ) → rest_after p s ≡ some r → rest_after p (s ++ u) ≡ some (r ++ u)
unfolding rest_after
rest_more [] s r u e = let q : s ≡ r = cc in rw q
rest_more (x ∷ p) [] r u e = impossible cc
rest_more (x ∷ p) (c ∷ s) r u e = by_test (eqb c x) (λ t. rw t (rest_more p s r u (rw t at e))) (λ t. impossible (cc (rw t at e)))

-- a text that does not begin so, byte by byte, does not with more bytes
rest_none : (x c : ℕ) (s u : List ℕ) → rest_after (x ∷ []) (c ∷ s) ≡ none → rest_after (x ∷ []) (c ∷ (s ++ u)) ≡ none
unfolding rest_after
rest_none x c s u e = by_test (eqb c x) (λ t. impossible (cc (rw t at e))) (λ t. rw t)

-- ---- steps of a reader that was not refused

bind : {A B : Type 0} (o : Option A) (f : A → Option B) (b : B) → and_then o f ≡ some b → (a : A) × (o ≡ some a) × (f a ≡ some b)
bind none f b e = impossible cc
bind (some a) f b e = (a, refl, e)

abbrev held : Option (List ℕ × List ℕ) → List ℕ × List ℕ
held (some r) = r
held none = ([], [])

pair_is : (a b w r : List ℕ) → ◌≡◌ {A = Option (List ℕ × List ℕ)} (some (a, b)) (some (w, r)) → (a ≡ w) × (b ≡ r)
pair_is a b w r e = (ap (λ (o : Option (List ℕ × List ℕ)). (held o).0) e, ap (λ (o : Option (List ℕ × List ℕ)). (held o).1) e)

by_byte : (c : ℕ) (o : Option (List ℕ × List ℕ)) (w r : List ℕ) → with_byte c o ≡ some (w, r) → (v : List ℕ) × (o ≡ some (v, r)) × (c ∷ v ≡ w)
by_byte c none w r e = impossible cc
by_byte c (some q) w r e =
    let p = pair_is (c ∷ q.0) q.1 w r e in
    (q.0, ap (λ (x : List ℕ). some (q.0, x)) p.1, p.0)

word_more : (s w r u : List ℕ) → word s ≡ some (w, r) → word (s ++ u) ≡ some (w, r ++ u)
unfolding word
word_more [] w r u e = impossible cc
word_more (c ∷ s) w r u e =
    by_test (eqb c 32)
    (λ t. let p = pair_is [] s w r (rw t at e) in rw (t, p.1) (ap (λ (x : List ℕ). some (x, r ++ u)) p.0))
    (λ t.
    let b = by_byte c (word s) w r (rw t at e) in
    rw (t, word_more s b.0 r u b.1) (ap (λ (x : List ℕ). some (x, r ++ u)) b.2))

-- a literal that something follows
unquoted_more : (s t r : List ℕ) (c : ℕ) (u : List ℕ) → unquoted s ≡ some (t, c ∷ r) → unquoted (s ++ u) ≡ some (t, (c ∷ r) ++ u)
unfolding unquoted
unquoted_more [] t r c u e = impossible cc
unquoted_more (x ∷ []) t r c u e =
    by_test (eqb x 39)
    (λ q. let p = pair_is [] [] t (c ∷ r) (rw q at e) in let z : ◌≡◌ {A = ℕ} 0 1 = cc p.1 in impossible z)
    (λ q. impossible (cc (rw q at e)))
unquoted_more (x ∷ d ∷ s) t r c u e =
    by_test (eqb x 39)
    (λ q. by_test (eqb d 39)
    (λ k.
    let b = by_byte 39 (unquoted s) t (c ∷ r) (rw (q, k) at e) in
    rw (q, k, unquoted_more s b.0 r c u b.1) (ap (λ (y : List ℕ). some (y, (c ∷ r) ++ u)) b.2))
    (λ k.
    let p = pair_is [] (d ∷ s) t (c ∷ r) (rw (q, k) at e) in
    rw (q, k, ← p.0) (ap (λ (y : List ℕ). some ([], y ++ u)) p.1)))
    (λ q.
    let b = by_byte x (unquoted (d ∷ s)) t (c ∷ r) (rw q at e) in
    rw (q, unquoted_more (d ∷ s) b.0 r c u b.1) (ap (λ (y : List ℕ). some (y, (c ∷ r) ++ u)) b.2))

abbrev Reads : Type 0
Reads = List ℕ → Option (List (List ℕ × List ℕ))

-- after an option
next_more : (d : ℕ) (v : List ℕ) (go more : Reads) (ps : List (List ℕ × List ℕ)) (c : ℕ) (u : List ℕ)
    → next_by (rest_after (ascii ")") (d ∷ v)) (rest_after (ascii ", ") (d ∷ v)) go ≡ some ps
    → ((t : List ℕ) → go t ≡ some ps → more (t ++ (c ∷ u)) ≡ none)
    → next_by (rest_after (ascii ")") (d ∷ (v ++ (c ∷ u)))) (rest_after (ascii ", ") (d ∷ (v ++ (c ∷ u)))) more ≡ none
unfolding ascii
next_more d v go more ps c u e f = by (rest_after (41 ∷ []) (d ∷ v)) (rest_after (44 ∷ 32 ∷ []) (d ∷ v)) refl refl e
  where
    by : (a b : Option (List ℕ)) → rest_after (41 ∷ []) (d ∷ v) ≡ a → rest_after (44 ∷ 32 ∷ []) (d ∷ v) ≡ b → next_by a b go ≡ some ps
        → next_by (rest_after (41 ∷ []) (d ∷ (v ++ (c ∷ u)))) (rest_after (44 ∷ 32 ∷ []) (d ∷ (v ++ (c ∷ u)))) more ≡ none
    by (some []) b p q e = rw (rest_more (41 ∷ []) (d ∷ v) [] (c ∷ u) p)
    by (some (x ∷ xs)) b p q e = impossible cc
    by none none p q e = impossible cc
    by none (some t) p q e = rw (rest_none 41 d v (c ∷ u) p, rest_more (44 ∷ 32 ∷ []) (d ∷ v) t (c ∷ u) q) (f t e)

nothing_next : (go : Reads) (ps : List (List ℕ × List ℕ)) → next_by (rest_after (ascii ")") []) (rest_after (ascii ", ") []) go ≡ some ps → ⊥
unfolding rest_after ascii
nothing_next go ps e = let z : ◌≡◌ {A = ℕ} 0 1 = cc in omega arith

options_more : (n m : ℕ) (s : List ℕ) (ps : List (List ℕ × List ℕ)) (c : ℕ) (u : List ℕ) → options_from n s ≡ some ps
    → options_from m (s ++ (c ∷ u)) ≡ none
unfolding options_from
options_more zero m s ps c u e = impossible cc
options_more (suc n) zero s ps c u e = refl
options_more (suc n) (suc m) s ps c u e =
    let name = bind (word s) _ ps e in
    let opening = bind (rest_after (ascii "'") name.0.1) _ ps name.2 in
    let value = bind (unquoted opening.0) _ ps opening.2 in
    let w : word (s ++ (c ∷ u)) ≡ some (name.0.0, name.0.1 ++ (c ∷ u)) = word_more s name.0.0 name.0.1 (c ∷ u) name.1 in
    let o : rest_after (ascii "'") (name.0.1 ++ (c ∷ u)) ≡ some (opening.0 ++ (c ∷ u)) =
    rest_more (ascii "'") name.0.1 opening.0 (c ∷ u) opening.1 in
    rw (w, o) (after value.0.1 value.0.0 opening.0 value.1 name.0.0 value.2 (λ t qs. options_more n m t qs c u))
  where
    after : (v text t : List ℕ) → unquoted t ≡ some (text, v) → (name : List ℕ)
        → and_then (next_by (rest_after (ascii ")") v) (rest_after (ascii ", ") v) (options_from n)) (λ more. some ((name, text) ∷ more)) ≡ some ps
        → ((t : List ℕ) (qs : List (List ℕ × List ℕ)) → options_from n t ≡ some qs → options_from m (t ++ (c ∷ u)) ≡ none)
        → and_then (unquoted (t ++ (c ∷ u))) (λ value.
        and_then (next_by (rest_after (ascii ")") value.1) (rest_after (ascii ", ") value.1) (options_from m))
        (λ more. some ((name, value.0) ∷ more))) ≡ none
    after [] text t e name f go =
        let b = bind (next_by (rest_after (ascii ")") []) (rest_after (ascii ", ") []) (options_from n)) _ ps f in
        absurd (nothing_next (options_from n) b.0 b.1)
    after (d ∷ v) text t e name f go =
        let b = bind (next_by (rest_after (ascii ")") (d ∷ v)) (rest_after (ascii ", ") (d ∷ v)) (options_from n)) _ ps f in
        rw (unquoted_more t text v d (c ∷ u) e, next_more d v (options_from n) (options_from m) b.0 c u b.1 (λ x q. go x b.0 q))

-- what is read from the slot on
abbrev onward : List ℕ → List ℕ → Option Asked
onward slot b =
    and_then (word b) (λ position.
    and_then (rest_after (ascii "(") position.1) (λ c.
    and_then (options_from (length c) c) (λ options.
    some (record { slot = slot; position = position_of position.0; options = options }))))

onward_more : (slot b : List ℕ) (x : Asked) (c : ℕ) (u : List ℕ) → onward slot b ≡ some x → onward slot (b ++ (c ∷ u)) ≡ none
onward_more slot b x c u e =
    let position = bind (word b) _ x e in
    let opening = bind (rest_after (ascii "(") position.0.1) _ x position.2 in
    let list = bind (options_from (length opening.0) opening.0) _ x opening.2 in
    rw (
      word_more b position.0.0 position.0.1 (c ∷ u) position.1,
      rest_more (ascii "(") position.0.1 opening.0 (c ∷ u) opening.1,
      options_more (length opening.0) (length (opening.0 ++ (c ∷ u))) opening.0 list.0 c u list.1,
    )

onward_slot : (slot b : List ℕ) (x : Asked) → onward slot b ≡ some x → x.slot ≡ slot
onward_slot slot b x e =
    let position = bind (word b) _ x e in
    let opening = bind (rest_after (ascii "(") position.0.1) _ x position.2 in
    let list = bind (options_from (length opening.0) opening.0) _ x opening.2 in
    let q : record { slot = slot; position = position_of position.0.0; options = list.0 } ≡ x = asked_is list.2 in
    ap (λ (y : Asked). y.slot) (sym q)
  where
    asked_is : {a b : Asked} → ◌≡◌ {A = Option Asked} (some a) (some b) → a ≡ b
    asked_is e = cc

asked_more : (s : List ℕ) (x : Asked) (c : ℕ) (u : List ℕ) → asked_of s ≡ some x → asked_of (s ++ (c ∷ u)) ≡ none
unfolding asked_of
asked_more s x c u e =
    let a = bind (rest_after (ascii "START_REPLICATION SLOT ") s) _ x e in
    let slot = bind (word a.0) _ x a.2 in
    let b = bind (rest_after (ascii "LOGICAL ") slot.0.1) _ x slot.2 in
    rw (
      rest_more (ascii "START_REPLICATION SLOT ") s a.0 (c ∷ u) a.1,
      word_more a.0 slot.0.0 slot.0.1 (c ∷ u) slot.1,
      rest_more (ascii "LOGICAL ") slot.0.1 b.0 (c ∷ u) b.1,
    )
    (onward_more slot.0.0 b.0 x c u b.2)

-- ---- zero bytes

-- so a part of a text that is read is none
part_refused : (seen hidden : List ℕ) (c : ℕ) (x : Asked) → asked_of (seen ++ (c ∷ hidden)) ≡ some x → asked_of seen ≡ none
part_refused seen hidden c x e = by (asked_of seen) refl
  where
    by : (o : Option Asked) → asked_of seen ≡ o → asked_of seen ≡ none
    by none q = q
    by (some y) q = let f : asked_of (seen ++ (c ∷ hidden)) ≡ none = asked_more seen y c hidden q in impossible cc

is_clear : List ℕ → Bool
is_clear [] = true
is_clear (c ∷ s) = pick (eqb c 0) false (is_clear s)

clear : (s : List ℕ) → is_clear s ≡ true → NoZero s
unfolding is_clear
clear [] e = tt
clear (c ∷ s) e = by_test (eqb c 0) (λ t. impossible (cc (rw t at e))) (λ t. (eqb-false c 0 t, clear s (rw t at e)))

no_zero_append : (a b : List ℕ) → NoZero a → NoZero b → NoZero (a ++ b)
no_zero_append [] b n m = m
no_zero_append (c ∷ a) b n m = (n.0, no_zero_append a b n.1 m)

glyph_no_zero : (d : ℕ) → glyph_of d ≡ 0 → ⊥
glyph_no_zero d = by_test (ltb d 10) (λ t. simp t (λ e. omega arith)) (λ t. simp t (λ e. omega arith))

numeral_no_zero : (n v : ℕ) → NoZero (numeral 16 n v)
unfolding numeral
numeral_no_zero zero v = tt
numeral_no_zero (suc n) v =
    by_test (ltb v 16)
    (λ t. simp t (glyph_no_zero v, tt))
    (λ t. simp t (no_zero_append (numeral 16 n (v / 16)) (glyph_of (v % 16) ∷ []) (numeral_no_zero n (v / 16)) (glyph_no_zero (v % 16), tt)))

display_no_zero : (v : ℕ) → NoZero (display_of v)
unfolding display_of
display_no_zero v =
    no_zero_append (hex_text (v / 2 ^ 32)) (47 ∷ hex_text (v % 2 ^ 32)) (numeral_no_zero 20 (v / 2 ^ 32))
    ((λ e. omega arith), numeral_no_zero 20 (v % 2 ^ 32))

doubled_no_zero : (s : List ℕ) → NoZero s → NoZero (doubled s)
unfolding doubled
doubled_no_zero [] n = tt
doubled_no_zero (c ∷ s) n =
    let i = doubled_no_zero s n.1 in
    by_test (eqb c 39) (λ t. rw t ((λ e. omega arith), ((λ e. omega arith), i))) (λ t. rw t (n.0, i))

following_no_zero : (ns : List (Bor (List ℕ))) → NoZeros ns → NoZero (following ns)
unfolding following
following_no_zero [] n = tt
following_no_zero (m ∷ ns) n =
    ((λ e. omega arith), no_zero_append (doubled m.now) (following ns) (doubled_no_zero m.now n.0) (following_no_zero ns n.1))

value_no_zero : (ns : List (Bor (List ℕ))) → NoZeros ns → NoZero (option_value ns)
unfolding option_value
value_no_zero [] n = tt
value_no_zero (m ∷ ns) n = no_zero_append (doubled m.now) (following ns) (doubled_no_zero m.now n.0) (following_no_zero ns n.1)

start_no_zero : NoZero (ascii "START_REPLICATION SLOT ")
unfolding is_clear ascii
start_no_zero = clear (ascii "START_REPLICATION SLOT ") refl

ending_no_zero : (binary : Bool) → NoZero (ending binary)
unfolding is_clear ascii
ending_no_zero true = clear (ending true) refl
ending_no_zero false = clear (ending false) refl

logical_no_zero : NoZero (ascii "LOGICAL ")
unfolding is_clear ascii
logical_no_zero = clear (ascii "LOGICAL ") refl

options_no_zero : NoZero (ascii "proto_version '1', publication_names '")
unfolding is_clear ascii
options_no_zero = clear (ascii "proto_version '1', publication_names '") refl

text_no_zero : (binary : Bool) (slot : List ℕ) (names : List (Bor (List ℕ))) (p : Lsn) → NoZero slot → NoZeros names
    → NoZero (start_replication binary slot names p)
text_no_zero binary slot names p n m =
    let v : List ℕ = option_value names ++ (39 ∷ ending binary) in
    let nv : NoZero v = no_zero_append (option_value names) (39 ∷ ending binary) (value_no_zero names m) ((λ e. omega arith), ending_no_zero binary) in
    let nb : NoZero (beginning v) = no_zero_append (ascii "proto_version '1', publication_names '") v options_no_zero nv in
    let np : NoZero (display_of p.0 ++ (32 ∷ (40 ∷ beginning v))) =
    no_zero_append (display_of p.0) (32 ∷ (40 ∷ beginning v)) (display_no_zero p.0) ((λ e. omega arith), ((λ e. omega arith), nb)) in
    let nl : NoZero (ascii "LOGICAL " ++ (display_of p.0 ++ (32 ∷ (40 ∷ beginning v)))) =
    no_zero_append (ascii "LOGICAL ") (display_of p.0 ++ (32 ∷ (40 ∷ beginning v))) logical_no_zero np in
    rw (pieces binary slot names p)
    (no_zero_append (ascii "START_REPLICATION SLOT ") (slot ++ (32 ∷ (ascii "LOGICAL " ++ (display_of p.0 ++ (32 ∷ (40 ∷ beginning v))))))
    start_no_zero
    (no_zero_append slot (32 ∷ (ascii "LOGICAL " ++ (display_of p.0 ++ (32 ∷ (40 ∷ beginning v))))) n ((λ e. omega arith), nl)))

-- ---- blanks in the slot

-- the text after the blank that follows the slot
abbrev behind : Bool → List (Bor (List ℕ)) → Lsn → List ℕ
behind binary names p = ascii "LOGICAL " ++ (display_of p.0 ++ (32 ∷ (40 ∷ beginning (option_value names ++ (39 ∷ ending binary)))))

blank_read : (binary : Bool) (a b : List ℕ) (names : List (Bor (List ℕ))) (p : Lsn) → NoSpace a
    → asked_of (start_replication binary (a ++ (32 ∷ b)) names p)
    ≡ and_then (rest_after (ascii "LOGICAL ") (b ++ (32 ∷ behind binary names p))) (onward a)
unfolding asked_of
blank_read binary a b names p n =
    let t : List ℕ = behind binary names p in
    let e : start_replication binary (a ++ (32 ∷ b)) names p ≡ ascii "START_REPLICATION SLOT " ++ (a ++ (32 ∷ (b ++ (32 ∷ t)))) =
    pieces binary (a ++ (32 ∷ b)) names p ∙ simp append_assoc in
    rw (e, after_start (a ++ (32 ∷ (b ++ (32 ∷ t)))), word_back a (b ++ (32 ∷ t)) n)

rest_is : (p s r : List ℕ) → rest_after p s ≡ some r → s ≡ p ++ r
unfolding rest_after
rest_is [] s r e = cc
rest_is (x ∷ p) [] r e = impossible cc
rest_is (x ∷ p) (c ∷ s) r e =
    by_test (eqb c x)
    (λ t. let i = rest_is p s r (rw t at e) in let h : c ≡ x = eqb-true c x t in rw (h, i))
    (λ t. impossible (cc (rw t at e)))

-- a word and a blank at the front of a text stand there up to the text's first blank
up_to_blank : (l b t r : List ℕ) → NoSpace l → b ++ (32 ∷ t) ≡ l ++ (32 ∷ r) → (v : List ℕ) × (b ++ (32 ∷ []) ≡ l ++ (32 ∷ v))
up_to_blank [] [] t r n e = ([], refl)
up_to_blank [] (c ∷ b) t r n e = let h : c ≡ 32 = cc in (b ++ (32 ∷ []), rw h)
up_to_blank (x ∷ l) [] t r n e = let h : x ≡ 32 = cc in absurd (n.0 h)
up_to_blank (x ∷ l) (c ∷ b) t r n e =
    let h : c ≡ x = cc in
    let m : b ++ (32 ∷ t) ≡ l ++ (32 ∷ r) = cc in
    let i = up_to_blank l b t r n.1 m in
    (i.0, rw (h, i.1))

logical_no_space : NoSpace (ascii "LOGICAL")
unfolding ascii
logical_no_space = (
  (λ e. omega arith),
  (
    (λ e. omega arith),
    (
      (λ e. omega arith),
      (
        (λ e. omega arith),
        ((λ e. omega arith), ((λ e. omega arith), ((λ e. omega arith), tt))),
      ),
    ),
  ),
)

logical_blank : (r : List ℕ) → ascii "LOGICAL " ++ r ≡ ascii "LOGICAL" ++ (32 ∷ r)
unfolding ascii
logical_blank r = refl

not_logical : (b t : List ℕ) → ((v : List ℕ) → b ++ (32 ∷ []) ≡ ascii "LOGICAL " ++ v → ⊥) → rest_after (ascii "LOGICAL ") (b ++ (32 ∷ t)) ≡ none
not_logical b t f = by (rest_after (ascii "LOGICAL ") (b ++ (32 ∷ t))) refl
  where
    by : (o : Option (List ℕ)) → rest_after (ascii "LOGICAL ") (b ++ (32 ∷ t)) ≡ o → rest_after (ascii "LOGICAL ") (b ++ (32 ∷ t)) ≡ none
    by none q = q
    by (some r) q =
        let w = up_to_blank (ascii "LOGICAL") b t r logical_no_space (rest_is (ascii "LOGICAL ") (b ++ (32 ∷ t)) r q ∙ logical_blank r) in
        absurd (f w.0 (w.1 ∙ sym (logical_blank w.0)))

-- ---- words

on_first_lem : (c : ℕ) (x y : List (List ℕ)) → 1 ≤ length x → on_first c (x ++ y) ≡ on_first c x ++ y
on_first_lem c [] y h = absurd (omega arith)
on_first_lem c (w ∷ x) y h = refl

first_some : (c : ℕ) (x : List (List ℕ)) → 1 ≤ length (on_first c x)
first_some c [] = omega arith
first_some c (w ∷ x) = omega arith

words_some : (a : List ℕ) → 1 ≤ length (words_of a)
unfolding words_of
words_some [] = omega arith
words_some (c ∷ a) = by_test (eqb c 32) (λ t. rw t (omega arith)) (λ t. rw t (first_some c (words_of a)))

words_joined : (a b : List ℕ) → words_of (a ++ (32 ∷ b)) ≡ words_of a ++ words_of b
unfolding words_of
words_joined [] b = refl
words_joined (c ∷ a) b =
    by_test (eqb c 32)
    (λ t. rw (t, words_joined a b))
    (λ t. rw (t, words_joined a b) (on_first_lem c (words_of a) (words_of b) (words_some a)))

not_empty_joined : (x y : List (List ℕ)) → not_empty (x ++ y) ≡ not_empty x ++ not_empty y
not_empty_joined [] y = refl
not_empty_joined ([] ∷ x) y = not_empty_joined x y
not_empty_joined ((c ∷ w) ∷ x) y = ap (λ (l : List (List ℕ)). (c ∷ w) ∷ l) (not_empty_joined x y)

more_tokens : (a b : List ℕ) → tokens_of (a ++ (32 ∷ b)) ≡ tokens_of a ++ tokens_of b
more_tokens a b = ap not_empty (words_joined a b) ∙ not_empty_joined (words_of a) (words_of b)

one_word : (s : List ℕ) → NoSpace s → words_of s ≡ s ∷ []
unfolding words_of
one_word [] n = refl
one_word (c ∷ s) n = rw (ne_eqb c 32 n.0, one_word s n.1)

one_token : (c : ℕ) (s : List ℕ) → NoSpace (c ∷ s) → tokens_of (c ∷ s) ≡ (c ∷ s) ∷ []
one_token c s n = ap not_empty (one_word (c ∷ s) n)

no_token : tokens_of [] ≡ []
unfolding words_of
no_token = refl

-- a text with a byte in it
token_of : (a : List ℕ) (c : ℕ) (b : List ℕ) → NoSpace (a ++ (c ∷ b)) → tokens_of (a ++ (c ∷ b)) ≡ (a ++ (c ∷ b)) ∷ []
token_of [] c b n = one_token c b n
token_of (x ∷ a) c b n = one_token x (a ++ (c ∷ b)) n

display_token : (v : ℕ) → tokens_of (display_of v) ≡ display_of v ∷ []
unfolding display_of
display_token v = token_of (hex_text (v / 2 ^ 32)) 47 (hex_text (v % 2 ^ 32)) (display_no_space v)

start_tokens : tokens_of (ascii "START_REPLICATION SLOT") ≡ ascii "START_REPLICATION" ∷ ascii "SLOT" ∷ []
unfolding words_of ascii
start_tokens = refl

logical_token : tokens_of (ascii "LOGICAL") ≡ ascii "LOGICAL" ∷ []
unfolding words_of ascii
logical_token = refl

blank_pieces : (binary : Bool) (slot : List ℕ) (names : List (Bor (List ℕ))) (p : Lsn)
    → start_replication binary slot names p
    ≡ ascii "START_REPLICATION SLOT" ++ (32 ∷ (slot ++ (32 ∷ (ascii "LOGICAL" ++ (32 ∷ (display_of p.0 ++ (32 ∷ options_text binary names)))))))
unfolding start_replication ascii
blank_pieces true slot names p = refl
blank_pieces false slot names p = refl

tokens : (binary : Bool) (slot : List ℕ) (names : List (Bor (List ℕ))) (p : Lsn)
    → tokens_of (start_replication binary slot names p)
    ≡ ascii "START_REPLICATION" ∷ ascii "SLOT" ∷ (tokens_of slot ++ (ascii "LOGICAL" ∷ display_of p.0 ∷ tokens_of (options_text binary names)))
tokens binary slot names p =
    let o : List ℕ = options_text binary names in
    let d : List ℕ = display_of p.0 in
    let t₃ = more_tokens d o ∙ ap (λ (l : List (List ℕ)). l ++ tokens_of o) (display_token p.0) in
    let t₂ = more_tokens (ascii "LOGICAL") (d ++ (32 ∷ o)) ∙ ap (λ (l : List (List ℕ)). l ++ tokens_of (d ++ (32 ∷ o))) logical_token in
    let t₁ = more_tokens slot (ascii "LOGICAL" ++ (32 ∷ (d ++ (32 ∷ o)))) in
    let t₀ = more_tokens (ascii "START_REPLICATION SLOT") (slot ++ (32 ∷ (ascii "LOGICAL" ++ (32 ∷ (d ++ (32 ∷ o)))))) in
    ap tokens_of (blank_pieces binary slot names p) ∙ t₀
    ∙ rw (start_tokens, t₁, t₂, t₃)

-- a zero byte in the slot
slot_cut : (binary : Bool) (a b : List ℕ) (names : List (Bor (List ℕ))) (p : Lsn)
    → start_replication binary (a ++ (0 ∷ b)) names p ≡ (ascii "START_REPLICATION SLOT " ++ a) ++ (0 ∷ (b ++ (32 ∷ behind binary names p)))
slot_cut binary a b names p = pieces binary (a ++ (0 ∷ b)) names p ∙ simp append_assoc

pub request_laws : RequestLaws
request_laws =
    record {
      read =
          λ binary slot names p rest n z m h k.
          let text : List ℕ = start_replication binary slot names p in
          (query_read_back text rest (text_no_zero binary slot names p z m) k, request_read_back binary slot names p n h);
      cut =
          λ binary slot names p seen hidden rest n h e z k.
          let whole = ap asked_of (sym e) ∙ request_read_back binary slot names p n h in
          (rw e (query_cut_at_zero seen hidden rest z k), part_refused seen hidden 0 _ whole);
      slot_cut =
          λ binary a b names p n.
          (b ++ (32 ∷ behind binary names p), slot_cut binary a b names p, no_zero_append (ascii "START_REPLICATION SLOT ") a start_no_zero n);
      blank_slot =
          λ binary a b names p x n e.
          let r = bind (rest_after (ascii "LOGICAL ") (b ++ (32 ∷ behind binary names p))) (onward a) x (sym (blank_read binary a b names p n) ∙ e) in
          onward_slot a r.0 x r.2;
      blank_refused = λ binary a b names p n f. blank_read binary a b names p n ∙ rw (not_logical b (behind binary names p) f);
      tokens = tokens;
      one_token = one_token;
      no_token = no_token;
      more_tokens = more_tokens;
    }
