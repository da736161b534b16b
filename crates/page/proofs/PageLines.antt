-- The lines of the page one by one: the blanks behind the label and those before the value are one filling.
use mathlib.Core.Path.{◌≡◌, refl, ap, ◌∙◌}
use mathlib.Core.Bool.{Bool, true, false}
use mathlib.Core.List.{List, [], ◌∷◌, ◌++◌, append_assoc}
use Prim.Native.Nat.{ℕ, zero, suc, ◌+◌, ◌-◌, ◌^◌, ◌≤◌, ◌<◌}
use native.Mathlib.Omega.{arith}
use lib.ListN.{length, length-append, length-replicate}
use Rattle.text.specs.Ascii.{ascii}
use Rattle.text.specs.Numeral.{decimal_text}
use Rattle.text.proofs.Laws.{numeral_length}
use Rattle.text.proofs.Spelling.{spelling_laws}
use Rattle.lsn.specs.Position.{display_of}
use Rattle.lsn.specs.PositionLaws.{Displayed}
use Rattle.lsn.proofs.PositionLaws.{display_laws}
use Rattle.page.specs.Page.{spaces, line_of, sent_text, state_names, state_name, page_of}
use Rattle.page.specs.PageLines.{Line, LineOf, SentValue, PageHasLines, NamesOfStates}
use Rattle.page.proofs.Laws.{display_short, sent_short, state_short, line_pieces}

spaces_joined : (a b : ℕ) (t : List ℕ) → spaces a ++ (spaces b ++ t) ≡ spaces (a + b) ++ t
spaces_joined zero b t = let e : 0 + b ≡ b = omega arith in rw e
spaces_joined (suc a) b t = let e : suc a + b ≡ suc (a + b) = omega arith in rw e (ap (λ (l : List ℕ). 32 ∷ l) (spaces_joined a b t))

-- a line without its newline
abbrev bare : List ℕ → List ℕ → List ℕ
bare label value = label ++ (spaces (12 - length label + (20 - length value)) ++ value)

-- the two fillings of a line are one
one_filling : (label value : List ℕ) → line_of label value ≡ label ++ (spaces (12 - length label + (20 - length value)) ++ (value ++ (10 ∷ [])))
one_filling label value =
    line_pieces label value
    ∙ ap (λ (l : List ℕ). label ++ l) (spaces_joined (12 - length label) (20 - length value) (value ++ (10 ∷ [])))

-- a line before other text
line_before : (label value rest : List ℕ) → line_of label value ++ rest ≡ bare label value ++ (10 ∷ rest)
line_before label value rest =
    ap (λ (l : List ℕ). l ++ rest) (one_filling label value) ∙ simp append_assoc

line_last : (label value : List ℕ) → line_of label value ≡ bare label value ++ (10 ∷ [])
line_last label value =
    one_filling label value ∙ simp append_assoc

is_line : (label value : List ℕ) → length label ≤ 8 → length value ≤ 20 → Line (bare label value) label value
is_line label value h k =
    record {
      blanks = 12 - length label + (20 - length value);
      text = refl;
      parted = omega arith;
      width = simp (length-append, length-replicate) (omega arith);
    }

six : (a b c d e f : List ℕ) (v w x y z u : List ℕ)
    → line_of a v ++ (line_of b w ++ (line_of c x ++ (line_of d y ++ (line_of e z ++ line_of f u))))
    ≡ bare a v ++ (10 ∷ (bare b w ++ (10 ∷ (bare c x ++ (10 ∷ (bare d y ++ (10 ∷ (bare e z ++ (10 ∷ (bare f u ++ (10 ∷ [])))))))))))
six a b c d e f v w x y z u =
    line_before a v _
    ∙ ap (λ (l : List ℕ). bare a v ++ (10 ∷ l)) (line_before b w _
    ∙ ap (λ (l : List ℕ). bare b w ++ (10 ∷ l)) (line_before c x _
    ∙ ap (λ (l : List ℕ). bare c x ++ (10 ∷ l)) (line_before d y _
    ∙ ap (λ (l : List ℕ). bare d y ++ (10 ∷ l)) (line_before e z _
    ∙ ap (λ (l : List ℕ). bare e z ++ (10 ∷ l)) (line_last f u)))))

pub names_of_states : NamesOfStates
unfolding state_names
names_of_states zero = refl
names_of_states (suc zero) = refl
names_of_states (suc (suc zero)) = refl
names_of_states (suc (suc (suc zero))) = refl
names_of_states (suc (suc (suc (suc zero)))) = refl
names_of_states (suc (suc (suc (suc (suc zero))))) = refl
names_of_states (suc (suc (suc (suc (suc (suc zero)))))) = refl
names_of_states (suc (suc (suc (suc (suc (suc (suc n))))))) = refl

sent_value : (sent : Bool) (v : ℕ) → v < 2 ^ 64 → SentValue sent v (sent_text sent v)
sent_value true v h = display_laws.displayed v h
sent_value false v h = refl

position_line : (label : List ℕ) (v : ℕ) → length label ≤ 8 → v < 2 ^ 64 → LineOf (bare label (display_of v)) label (λ t. Displayed t v)
position_line label v l h =
    let k : length (display_of v) ≤ 17 = display_short v h in
    record { value = display_of v; says = display_laws.displayed v h; is = is_line label (display_of v) l (omega arith) }

pub page_has_lines : PageHasLines
unfolding page_of ascii
page_has_lines p b =
    let s : List ℕ = sent_text p.sent p.confirmed.0 in
    let k : length s ≤ 17 = sent_short p.sent p.confirmed.0 b.confirmed in
    let n : length (state_name p.state) ≤ 8 = state_short p.state in
    record {
      first = bare (ascii "POSITION") (display_of p.position.0);
      second = bare (ascii "SENT") s;
      third = bare (ascii "SERVER") (display_of p.server.0);
      fourth = bare (ascii "EVENTS") (decimal_text p.events);
      fifth = bare (ascii "STALLS") (decimal_text p.stalls);
      sixth = bare (ascii "STATE") (state_name p.state);
      page = six _ _ _ _ _ _ _ _ _ _ _ _;
      position = position_line (ascii "POSITION") p.position.0 (omega arith) b.position;
      sent =
          record {
            value = s;
            says = sent_value p.sent p.confirmed.0 b.confirmed;
            is = is_line (ascii "SENT") s (omega arith) (omega arith);
          };
      server = position_line (ascii "SERVER") p.server.0 (omega arith) b.server;
      events =
          record {
            value = decimal_text p.events;
            says = spelling_laws.decimal p.events (omega (arith, b.events));
            is = is_line (ascii "EVENTS") (decimal_text p.events) (omega arith) (numeral_length 10 20 p.events);
          };
      stalls =
          record {
            value = decimal_text p.stalls;
            says = spelling_laws.decimal p.stalls (omega (arith, b.stalls));
            is = is_line (ascii "STALLS") (decimal_text p.stalls) (omega arith) (numeral_length 10 20 p.stalls);
          };
      state =
          record {
            value = state_name p.state;
            says = names_of_states p.state;
            is = is_line (ascii "STATE") (state_name p.state) (omega arith) (omega arith);
          };
    }
