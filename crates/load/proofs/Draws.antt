-- The messages of a state are cut from its draws, one piece after the other, and what is cut from its draws are its messages.
use mathlib.Core.Path.{◌≡◌, refl, sym, ap, ◌∙◌, subst}
use mathlib.Core.Bool.{Bool, true, false}
use mathlib.Core.List.{List, [], ◌∷◌, ◌++◌}
use Prim.Native.Nat.{ℕ, zero, suc, ◌%◌, ◌^◌, ◌<◌}
use native.Mathlib.Omega.{arith}
use lib.Dec.{eqb}
use lib.ListN.{length}
use borrow.Author.Tests.{eqb-true, eqb-false, eq-eqb, ne_eqb}
use Rattle.wire.specs.Bytes.{pick}
use Rattle.load.specs.declared.Message.{Message}
use Rattle.load.specs.declared.Message.TheVariants.{KeepAlive, Begin, Data, Commit}
use Rattle.load.specs.declared.Made.{Made}
use Rattle.load.specs.Xorshift.{next_of, drawn}
use Rattle.load.specs.Load.{message_of, draws_of, made_of, messages_of}
use Rattle.load.specs.Draws.{DrawnFrom, Draws, no_draw, a_draw, CutFrom, MadeFrom, MessagesAreCut, MadeIsCut}
use Rattle.load.specs.Draws.{CutInto, all_cut, a_keepalive, a_request, a_begin, other_data, a_commit}
use Rattle.load.proofs.Laws.{keep_alive_made, other_made, begin_made, commit_made}
use Rattle.load.proofs.Bits.{next_is_by_bits}

-- ---- draws

draw_of : (x : ℕ) → x < 2 ^ 64 → DrawnFrom x (next_of x)
draw_of x h = (next_is_by_bits x (next_of x) h).0 refl

next_of_lem : {x y : ℕ} → x < 2 ^ 64 → DrawnFrom x y → y ≡ next_of x
next_of_lem {x} {y} h d = sym ((next_is_by_bits x y h).1 d)

drawn_fits : {x y : ℕ} → DrawnFrom x y → y < 2 ^ 64
drawn_fits d = d.left_17.fits

first_draw : {s y : ℕ} {ys : List ℕ} → Draws s (y ∷ ys) → DrawnFrom s y
first_draw (a_draw d r) = d

later_draws : {s y : ℕ} {ys : List ℕ} → Draws s (y ∷ ys) → Draws y ys
later_draws (a_draw d r) = r

-- ---- the piece of one message

-- before its last draw, which is the next state, and whatever is drawn and cut from then on
record Piece (s : ℕ) (m : Message) (t : ℕ) : Type 0 where
  before : List ℕ
  draws : (ns : List ℕ) → Draws t ns → Draws s (before ++ (t ∷ ns))
  cuts : (ns : List ℕ) (ms : List Message) → CutInto ns ms → CutInto (before ++ (t ∷ ns)) (m ∷ ms)

lowest_bit : (b : ℕ) → (eqb (b % 2) 1 ≡ false) → b % 2 ≡ 0
lowest_bit b e = let n = eqb-false (b % 2) 1 e in omega arith

module _ (s : ℕ) (h : s < 2 ^ 64) where
  abbrev k : ℕ
  k = next_of s

  abbrev a : ℕ
  a = next_of k

  abbrev b : ℕ
  b = next_of a

  abbrev c : ℕ
  c = next_of b

  abbrev d : ℕ
  d = next_of c

  to_k : DrawnFrom s k
  to_k = draw_of s h

  to_a : DrawnFrom k a
  to_a = draw_of k (drawn_fits to_k)

  to_b : DrawnFrom a b
  to_b = draw_of a (drawn_fits to_a)

  to_c : DrawnFrom b c
  to_c = draw_of b (drawn_fits to_b)

  to_d : DrawnFrom c d
  to_d = draw_of c (drawn_fits to_c)

  keep_alive_piece : k % 4 ≡ 0 → (r : Bool) → eqb (b % 2) 1 ≡ r → Piece s (KeepAlive a r) b
  keep_alive_piece e true t =
      record {
        before = k ∷ a ∷ [];
        draws = λ ns r. a_draw to_k (a_draw to_a (a_draw to_b r));
        cuts = λ ns ms r. a_request e (eqb-true (b % 2) 1 t) r;
      }
  keep_alive_piece e false t =
      record {
        before = k ∷ a ∷ [];
        draws = λ ns r. a_draw to_k (a_draw to_a (a_draw to_b r));
        cuts = λ ns ms r. a_keepalive e (lowest_bit b t) r;
      }

  begin_piece : k % 4 ≡ 1 → Piece s (Begin a b c (d % 2 ^ 32)) d
  begin_piece e =
      record {
        before = k ∷ a ∷ b ∷ c ∷ [];
        draws = λ ns r. a_draw to_k (a_draw to_a (a_draw to_b (a_draw to_c (a_draw to_d r))));
        cuts = λ ns ms r. a_begin e r;
      }

  other_piece : k % 4 ≡ 2 → Piece s (Data a b (c % 64)) c
  other_piece e =
      record {
        before = k ∷ a ∷ b ∷ [];
        draws = λ ns r. a_draw to_k (a_draw to_a (a_draw to_b (a_draw to_c r)));
        cuts = λ ns ms r. other_data e r;
      }

  commit_piece : k % 4 ≡ 3 → Piece s (Commit a b c d) d
  commit_piece e =
      record {
        before = k ∷ a ∷ b ∷ c ∷ [];
        draws = λ ns r. a_draw to_k (a_draw to_a (a_draw to_b (a_draw to_c (a_draw to_d r))));
        cuts = λ ns ms r. a_commit e r;
      }

  piece : Piece s (made_of s).message (made_of s).state
  unfolding made_of message_of draws_of drawn
  piece = by (eqb (k % 4) 0) (eqb (k % 4) 1) (eqb (k % 4) 2) refl refl refl
    where
      by : (p q r : Bool) → eqb (k % 4) 0 ≡ p → eqb (k % 4) 1 ≡ q → eqb (k % 4) 2 ≡ r
          → Piece s (pick p (KeepAlive a (eqb (b % 2) 1)) (pick q (Begin a b c (d % 2 ^ 32)) (pick r (Data a b (c % 64)) (Commit a b c d))))
          (drawn (pick p 3 (pick q 5 (pick r 4 5))) s)
      by true q r x y z = keep_alive_piece (eqb-true (k % 4) 0 x) (eqb (b % 2) 1) refl
      by false true r x y z = begin_piece (eqb-true (k % 4) 1 y)
      by false false true x y z = other_piece (eqb-true (k % 4) 2 z)
      by false false false x y z =
          let e = eqb-false (k % 4) 0 x in
          let f = eqb-false (k % 4) 1 y in
          let g = eqb-false (k % 4) 2 z in
          commit_piece (omega arith)

-- ---- what is cut from the draws of a state

-- the message and the next state, by what is drawn
module _ {s k e l : ℕ} {ns : List ℕ} (h : s < 2 ^ 64) (d : Draws s (k ∷ e ∷ l ∷ ns)) where
  one : DrawnFrom s k
  one = first_draw d

  two : DrawnFrom k e
  two = first_draw (later_draws d)

  three : DrawnFrom e l
  three = first_draw (later_draws (later_draws d))

  after_three : Draws l ns
  after_three = later_draws (later_draws (later_draws d))

  kept_alive : k % 4 ≡ 0 → (r : Bool) → eqb (l % 2) 1 ≡ r → made_of s ≡ record { message = KeepAlive e r; state = l }
  kept_alive f r b =
      sym (keep_alive_made s k e l (next_of_lem h one) (next_of_lem (drawn_fits one) two) (next_of_lem (drawn_fits two) three) f)
      ∙ ap (λ (r : Bool). record { message = KeepAlive e r; state = l }) b

module _ {s k a b c : ℕ} {ns : List ℕ} (h : s < 2 ^ 64) (d : Draws s (k ∷ a ∷ b ∷ c ∷ ns)) where
  four : DrawnFrom b c
  four = first_draw (after_three h d)

  after_four : Draws c ns
  after_four = later_draws (after_three h d)

  other_sent : k % 4 ≡ 2 → made_of s ≡ record { message = Data a b (c % 64); state = c }
  other_sent f =
      sym (other_made s k a b c (next_of_lem h (one h d)) (next_of_lem (drawn_fits (one h d)) (two h d)) (next_of_lem (drawn_fits (two h d)) (three h d))
      (next_of_lem (drawn_fits (three h d)) four) f)

module _ {s k a b c l : ℕ} {ns : List ℕ} (h : s < 2 ^ 64) (d : Draws s (k ∷ a ∷ b ∷ c ∷ l ∷ ns)) where
  five : DrawnFrom c l
  five = first_draw (after_four h d)

  after_five : Draws l ns
  after_five = later_draws (after_four h d)

  begun : k % 4 ≡ 1 → made_of s ≡ record { message = Begin a b c (l % 4294967296); state = l }
  begun f =
      sym (begin_made s k a b c l (next_of_lem h (one h d)) (next_of_lem (drawn_fits (one h d)) (two h d)) (next_of_lem (drawn_fits (two h d)) (three h d))
      (next_of_lem (drawn_fits (three h d)) (four h d)) (next_of_lem (drawn_fits (four h d)) five) f)

  committed : k % 4 ≡ 3 → made_of s ≡ record { message = Commit a b c l; state = l }
  committed f =
      sym (commit_made s k a b c l (next_of_lem h (one h d)) (next_of_lem (drawn_fits (one h d)) (two h d)) (next_of_lem (drawn_fits (two h d)) (three h d))
      (next_of_lem (drawn_fits (three h d)) (four h d)) (next_of_lem (drawn_fits (four h d)) five)
      (λ e. omega arith) (λ e. omega arith) (λ e. omega arith))

not_asked : (l : ℕ) → l % 2 ≡ 0 → eqb (l % 2) 1 ≡ false
not_asked l e = ne_eqb (l % 2) 1 (λ f. omega arith)

messages_next : (n s t : ℕ) (m : Message) (ms : List Message) → made_of s ≡ record { message = m; state = t } → messages_of n t ≡ ms
    → messages_of (suc n) s ≡ m ∷ ms
unfolding messages_of made_of
messages_next n s t m ms e f =
    let p : message_of s ≡ m = ap (λ (x : Made). x.message) e in
    let q : drawn (draws_of s) s ≡ t = ap (λ (x : Made). x.state) e in
    rw (p, q, f) refl

cut_next : (s t : ℕ) (m : Message) (ms : List Message) → made_of s ≡ record { message = m; state = t } → messages_of (length ms) t ≡ ms
    → messages_of (length (m ∷ ms)) s ≡ m ∷ ms
cut_next s t m ms = messages_next (length ms) s t m ms

cut_is : {ns : List ℕ} {ms : List Message} → CutInto ns ms → (s : ℕ) → s < 2 ^ 64 → Draws s ns → messages_of (length ms) s ≡ ms
unfolding messages_of
cut_is all_cut s h d = refl
cut_is (a_keepalive f g r) s h d =
    cut_next s _ _ _ (kept_alive h d f false (not_asked _ g)) (cut_is r _ (drawn_fits (three h d)) (after_three h d))
cut_is (a_request f g r) s h d =
    cut_next s _ _ _ (kept_alive h d f true (eq-eqb _ 1 g)) (cut_is r _ (drawn_fits (three h d)) (after_three h d))
cut_is (a_begin f r) s h d = cut_next s _ _ _ (begun h d f) (cut_is r _ (drawn_fits (five h d)) (after_five h d))
cut_is (other_data f r) s h d = cut_next s _ _ _ (other_sent h d f) (cut_is r _ (drawn_fits (four h d)) (after_four h d))
cut_is (a_commit f r) s h d = cut_next s _ _ _ (committed h d f) (cut_is r _ (drawn_fits (five h d)) (after_five h d))

-- ---- the statements

last_piece : (s : ℕ) → s < 2 ^ 64 → MadeFrom s (made_of s)
last_piece s h =
    let p = piece s h in
    record { before = p.before; drawn_so = p.draws [] no_draw; cut_so = p.cuts [] [] all_cut }

-- the last of the numbers
unfoldable last_of : ℕ → List ℕ → ℕ
last_of d [] = d
last_of d (x ∷ xs) = last_of x xs

last_is : (d : ℕ) (xs : List ℕ) (t : ℕ) → last_of d (xs ++ (t ∷ [])) ≡ t
unfolding last_of
last_is d [] t = refl
last_is d (x ∷ xs) t = last_is x xs t

none_cut : {ns : List ℕ} → CutInto ns [] → (d : ℕ) → last_of d ns ≡ d
unfolding last_of
none_cut all_cut d = refl

cut_one : {ns : List ℕ} {m : Message} → CutInto ns (m ∷ []) → (s : ℕ) → s < 2 ^ 64 → Draws s ns → (o : ℕ)
    → made_of s ≡ record { message = m; state = last_of o ns }
unfolding last_of
cut_one (a_keepalive f g r) s h d o = rw (none_cut r _) (kept_alive h d f false (not_asked _ g))
cut_one (a_request f g r) s h d o = rw (none_cut r _) (kept_alive h d f true (eq-eqb _ 1 g))
cut_one (a_begin f r) s h d o = rw (none_cut r _) (begun h d f)
cut_one (other_data f r) s h d o = rw (none_cut r _) (other_sent h d f)
cut_one (a_commit f r) s h d o = rw (none_cut r _) (committed h d f)

pub made_is_cut : MadeIsCut
made_is_cut s m h = (
  λ e. rw e at (last_piece s h),
  λ f. cut_one f.cut_so s h f.drawn_so 0 ∙ ap (λ (t : ℕ). record { message = m.message; state = t }) (last_is 0 f.before m.state),
)

-- the next state has 64 bits too
state_fits : (s : ℕ) → s < 2 ^ 64 → (made_of s).state < 2 ^ 64
state_fits s h = last_drawn (piece s h).before s ((piece s h).draws [] no_draw)
  where
    last_drawn : (xs : List ℕ) (r : ℕ) → Draws r (xs ++ ((made_of s).state ∷ [])) → (made_of s).state < 2 ^ 64
    last_drawn [] r d = drawn_fits (first_draw d)
    last_drawn (x ∷ xs) r d = last_drawn xs x (later_draws d)

messages_cut : (n s : ℕ) → s < 2 ^ 64 → CutFrom s (messages_of n s)
unfolding messages_of
messages_cut zero s h = record { numbers = []; drawn_so = no_draw; cut_so = all_cut }
messages_cut (suc n) s h =
    let p = piece s h in
    let r = messages_cut n (made_of s).state (state_fits s h) in
    let e = messages_next n s (made_of s).state (made_of s).message (messages_of n (made_of s).state) refl refl in
    record {
      numbers = p.before ++ ((made_of s).state ∷ r.numbers);
      drawn_so = p.draws r.numbers r.drawn_so;
      cut_so = subst (CutInto (p.before ++ ((made_of s).state ∷ r.numbers))) (sym e)
          (p.cuts r.numbers (messages_of n (made_of s).state) r.cut_so);
    }

pub how_many : (n s : ℕ) → length (messages_of n s) ≡ n
unfolding messages_of
how_many zero s = refl
how_many (suc n) s = ap suc (how_many n (drawn (draws_of s) s))

pub messages_are_cut : MessagesAreCut
messages_are_cut seed n ms h = (
  λ e. (rw e at (messages_cut n seed h), rw e at (how_many n seed)),
  λ c l. ap (λ (k : ℕ). messages_of k seed) (sym l) ∙ cut_is c.cut_so seed h c.drawn_so,
)
