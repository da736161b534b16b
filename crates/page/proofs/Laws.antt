-- Lengths of values, lines and the page, and a value's text in a buffer of its own, for the code that writes them.
use mathlib.Core.Path.{◌≡◌, refl, ap}
use mathlib.Core.Bool.{Bool, true, false}
use mathlib.Core.List.{List, [], ◌∷◌, ◌++◌, append_assoc}
use Prim.Native.Nat.{ℕ, zero, suc, ◌*◌, ◌-◌, ◌/◌, ◌%◌, ◌^◌, ◌≤◌, ◌<◌}
use native.Mathlib.Nat.{pow-suc, pow-zero}
use native.Mathlib.Omega.{arith}
use lib.ListN.{length, take, replicate, length-append, length-replicate}
use lib.Seq.{take-append_seam}
use lib.Dec.{ltb}
use borrow.Author.Tests.{lt-ltb}
use Rattle.wire.specs.Bytes.{put, placed}
use Rattle.wire.proofs.Laws.{by_test, placed_fits}
use Rattle.text.specs.Ascii.{ascii}
use Rattle.text.specs.Numeral.{numeral, decimal_text}
use Rattle.text.proofs.Laws.{shorter, numeral_length}
use Rattle.lsn.specs.Position.{display_of}
use Rattle.lsn.proofs.Laws.{length_display}
use Rattle.page.specs.declared.Page.{Page}
use Rattle.page.specs.Page.{spaces, line_of, sent_text, state_names, state_name, page_of}
use Rattle.page.specs.Reader.{In64}

-- ---- values

-- a number below a power of the base has no more digits than the power says
numeral_short : (base k n x : ℕ) → 0 < base → x < base ^ suc n → length (numeral base k x) ≤ suc n
unfolding numeral
numeral_short base zero n x p h = omega arith
numeral_short base (suc k) zero x p h =
    let g : x < base ^ 0 * base = rw pow-suc at h in
    let l : x < base = omega (arith, rw pow-zero at g) in
    simp (lt-ltb _ _ l) (omega arith)
numeral_short base (suc k) (suc n) x p h =
    let l : length (numeral base k (x / base)) ≤ suc n = numeral_short base k n (x / base) p (shorter base (suc n) x p h) in
    by_test (ltb x base) (λ t. simp t (omega arith)) (λ t. simp (t, length-append) (omega arith))

pub display_short : (v : ℕ) → v < 2 ^ 64 → length (display_of v) ≤ 17
display_short v h =
    let hi : length (numeral 16 20 (v / 2 ^ 32)) ≤ 8 = numeral_short 16 20 7 (v / 2 ^ 32) (omega arith) (omega arith) in
    let lo : length (numeral 16 20 (v % 2 ^ 32)) ≤ 8 = numeral_short 16 20 7 (v % 2 ^ 32) (omega arith) (omega arith) in
    omega (arith, length_display v)

pub sent_short : (sent : Bool) (v : ℕ) → v < 2 ^ 64 → length (sent_text sent v) ≤ 17
unfolding ascii
sent_short true v h = display_short v h
sent_short false v h = omega arith

pub state_short : (n : ℕ) → length (state_name n) ≤ 8
unfolding ascii state_names
state_short zero = omega arith
state_short (suc zero) = omega arith
state_short (suc (suc zero)) = omega arith
state_short (suc (suc (suc zero))) = omega arith
state_short (suc (suc (suc (suc zero)))) = omega arith
state_short (suc (suc (suc (suc (suc zero))))) = omega arith
state_short (suc (suc (suc (suc (suc (suc zero)))))) = omega arith
state_short (suc (suc (suc (suc (suc (suc (suc n))))))) = omega arith

-- a number that is no state's row
pub ended : (n : ℕ) → (n ≡ 0 → ⊥) → (n ≡ 1 → ⊥) → (n ≡ 2 → ⊥) → (n ≡ 3 → ⊥) → (n ≡ 4 → ⊥) → (n ≡ 5 → ⊥) → (n ≡ 6 → ⊥) → state_name n ≡ ascii "ENDED"
unfolding state_names
ended zero a b c d e f g = absurd (a refl)
ended (suc zero) a b c d e f g = absurd (b refl)
ended (suc (suc zero)) a b c d e f g = absurd (c refl)
ended (suc (suc (suc zero))) a b c d e f g = absurd (d refl)
ended (suc (suc (suc (suc zero)))) a b c d e f g = absurd (e refl)
ended (suc (suc (suc (suc (suc zero))))) a b c d e f g = absurd (f refl)
ended (suc (suc (suc (suc (suc (suc zero)))))) a b c d e f g = absurd (g refl)
ended (suc (suc (suc (suc (suc (suc (suc n))))))) a b c d e f g = refl

-- ---- lines

pub spaces_front : (k n : ℕ) → n ≤ k → take n (replicate k 32) ≡ spaces n
spaces_front k zero h = refl
spaces_front zero (suc n) h = absurd (omega arith)
spaces_front (suc k) (suc n) h = ap (λ (l : List ℕ). 32 ∷ l) (spaces_front k n (omega arith))

-- the pieces as the code places them
pub line_pieces : (label value : List ℕ)
    → line_of label value ≡ label ++ (spaces (12 - length label) ++ (spaces (20 - length value) ++ (value ++ (10 ∷ []))))
unfolding line_of
line_pieces label value = simp append_assoc

pub length_line : (label value : List ℕ) → length label ≤ 12 → length value ≤ 20 → length (line_of label value) ≡ 33
unfolding line_of
length_line label value h k = simp (length-append, length-replicate) (omega arith)

-- a text that was placed at the front of a buffer is that buffer's front
pub stored : (d t : List ℕ) {k : ℕ} {e : List ℕ} → length t ≤ length d → (k, e) ≡ placed d 0 t → (k ≡ length t) × (take k e ≡ t)
unfolding put
stored d t {k} {e} h p =
    let w = placed_fits d 0 t (omega arith) p in
    let n : k ≡ length t = omega (arith, w.0) in
    (n, rw (n, w.1) (take-append_seam t _))

-- ---- the page

-- the lengths of its lines
pub record Lengths (p : Page) : Type 0 where
  pub position : length (line_of (ascii "POSITION") (display_of p.position.0)) ≡ 33
  pub sent : length (line_of (ascii "SENT") (sent_text p.sent p.confirmed.0)) ≡ 33
  pub server : length (line_of (ascii "SERVER") (display_of p.server.0)) ≡ 33
  pub events : length (line_of (ascii "EVENTS") (decimal_text p.events)) ≡ 33
  pub stalls : length (line_of (ascii "STALLS") (decimal_text p.stalls)) ≡ 33
  pub state : length (line_of (ascii "STATE") (state_name p.state)) ≡ 33

pub lengths : (p : Page) → In64 p → Lengths p
unfolding ascii
lengths p h =
    record {
      position = length_line _ _ (omega arith) (omega (arith, display_short p.position.0 h.position));
      sent = length_line _ _ (omega arith) (omega (arith, sent_short p.sent p.confirmed.0 h.confirmed));
      server = length_line _ _ (omega arith) (omega (arith, display_short p.server.0 h.server));
      events = length_line _ _ (omega arith) (numeral_length 10 20 p.events);
      stalls = length_line _ _ (omega arith) (numeral_length 10 20 p.stalls);
      state = length_line _ _ (omega arith) (omega (arith, state_short p.state));
    }

pub length_page : (p : Page) → In64 p → length (page_of p) ≡ 198
unfolding page_of
length_page p h =
    let l = lengths p h in
    simp (length-append, l.position, l.sent, l.server, l.events, l.stalls, l.state)

-- its lines, as the code places them
pub page_pieces : (p : Page) → page_of p
    ≡ line_of (ascii "POSITION") (display_of p.position.0)
    ++ (line_of (ascii "SENT") (sent_text p.sent p.confirmed.0)
    ++ (line_of (ascii "SERVER") (display_of p.server.0)
    ++ (line_of (ascii "EVENTS") (decimal_text p.events)
    ++ (line_of (ascii "STALLS") (decimal_text p.stalls) ++ line_of (ascii "STATE") (state_name p.state)))))
unfolding page_of
page_pieces p = refl
