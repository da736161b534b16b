-- Message by message: the query and the buffer hold the last error, cut to the buffer's room, and the query says how long the error was.
use mathlib.Core.Path.{◌≡◌, refl, sym, ap, ◌∙◌}
use mathlib.Core.Bool.{true, false}
use mathlib.Core.List.{List, [], ◌∷◌, ◌++◌, map}
use mathlib.Core.Option.{Option, some, none}
use Prim.Native.Nat.{ℕ, suc, ◌+◌, ◌-◌, ◌≤◌, ◌<◌, min, max}
use Prim.Native.Char.{code}
use native.Mathlib.Omega.{arith}
use lib.ListN.{length, take, drop, length-take, drop_of_length-le}
use lib.Seq.{take_at, drop_at, drop-drop, length-take-le}
use lib.Dec.{leb}
use borrow.Author.Tests.{leb-true, leb-false, eqb-true}
use Rattle.wire.specs.Bytes.{put, copied}
use Rattle.wire.proofs.Laws.{by_test, length_put}
use Rattle.frames.specs.Tag.{is_data_row, is_error, is_ready_for_query}
use Rattle.query.specs.DataRow.{columns_of, nth}
use Rattle.query.specs.Query.{Answer, answer_from, answer_of, only, data_row_then, ending_by}
use Rattle.query.specs.Fold.{fresh, message_of, data_row_answer, end_answer}
use Rattle.query.specs.Played.{asked, answered, Played, played_by, play_from, play_of, Holds, Ends, PlayAnswers, longest, BufferIsLeft, GoesOn, NoError, LastErrorWins, NoErrorIsReady}
use Rattle.query.specs.declared.Column.{Column}
use Rattle.query.specs.declared.simple.SimpleQuery.{SimpleQuery}

-- as many columns as a row has, asked for one by one, are the row
asked_all : (cs ds : List Column) (i : ℕ) → ((j : ℕ) → nth (i + j) cs ≡ nth j ds) → asked (some cs) i (length ds) ≡ answered ds
unfolding asked nth
asked_all cs [] i h = refl
asked_all cs (d ∷ ds) i h =
    let z : i + 0 ≡ i = omega arith in
    let e : nth i cs ≡ d = rw z at (h 0) in
    let more : (j : ℕ) → nth (i + 1 + j) cs ≡ nth j ds = λ j. let s : i + 1 + j ≡ i + suc j = omega arith in rw s (h (suc j)) in
    rw (e, asked_all cs ds (i + 1) more)

row_asked : (cs : List Column) → asked (some cs) 0 (length cs) ≡ answered cs
row_asked cs = asked_all cs cs 0 (λ j. let z : 0 + j ≡ j = omega arith in rw z)

-- an error stands in the buffer as far as that has room
error_held : (error payload : List ℕ)
    → Holds (length error) (some payload) (record { failed = true; kept = (copied error payload).0; len = length payload }) (copied error payload).1
unfolding copied put
error_held error payload =
    let n : ℕ = min (length payload) (length error) in
    let l : length (take n payload) ≡ n = length-take-le n payload (omega arith) in
    (refl, take_at (take n payload) (drop (0 + length (take n payload)) error) n l)

length_copied : (error payload : List ℕ) → length (copied error payload).1 ≡ length error
unfolding copied
length_copied error payload = length_put error (take (min (length payload) (length error)) payload) 0 (simp length-take (omega arith))

-- what is claimed of the messages that are left
abbrev Agrees : ℕ → Answer → Played → Type 0
Agrees room a p = (p.rows ≡ map answered a.rows) × Ends room a.ending p.last p.query p.error

end_agrees : (room : ℕ) (e : Option (List ℕ)) (payload : List ℕ) (q : SimpleQuery) (error : List ℕ) (rest : Played) → Holds room e q error
    → Agrees room (only (ending_by e)) (played_by (end_answer q) payload fresh error rest)
end_agrees room none payload q error rest k = rw k (refl, (refl, refl))
end_agrees room (some e) payload q error rest k = rw k.0 (refl, (refl, k.1, refl))

row_agrees : (room : ℕ) (r : Option (List Column)) (payload : List ℕ) (q : SimpleQuery) (error : List ℕ) (a : Answer) (rest : SimpleQuery → Played) → columns_of payload ≡ r → Agrees room a (rest q)
    → Agrees room (data_row_then r a) (played_by (data_row_answer q r).1 payload (data_row_answer q r).0 error (rest (data_row_answer q r).0))
row_agrees room none payload q error a rest e h = (refl, (refl, refl))
row_agrees room (some cs) payload q error a rest e h = (rw (e, row_asked cs, h.0), h.1)

error_agrees : (room : ℕ) (error payload : List ℕ) → length error ≡ room
    → Holds room (some payload) (record { failed = true; kept = (copied error payload).0; len = length payload }) (copied error payload).1
error_agrees room error payload l = rw (← l) (error_held error payload)

plays : (room : ℕ) (ms : List (ℕ × List ℕ)) (e : Option (List ℕ)) (q : SimpleQuery) (error : List ℕ) → length error ≡ room → Holds room e q error
    → Agrees room (answer_from e ms) (play_from q error ms)
unfolding answer_from play_from message_of
plays room [] e q error l k = (refl, (refl, k))
plays room (m ∷ ms) e q error l k =
    by_test (is_data_row m.0)
    (λ t. rw t (row_agrees room (columns_of m.1) m.1 q error (answer_from e ms) (λ r. play_from r error ms) refl (plays room ms e q error l k)))
    (λ t. by_test (is_error m.0)
    (λ u. rw (t, u) (plays room ms (some m.1) _ _ (length_copied error m.1 ∙ l) (error_agrees room error m.1 l)))
    (λ u. by_test (is_ready_for_query m.0)
    (λ v. rw (t, u, v) (end_agrees room e m.1 q error (play_from fresh error ms) k))
    (λ v. rw (t, u, v) (plays room ms e q error l k))))

pub play_answers : PlayAnswers
unfolding play_of answer_of
play_answers error ms = plays (length error) ms none fresh error refl refl

-- ---- the buffer

-- lists that agree past a place agree past a later one
past_more : (a b : ℕ) (x y : List ℕ) → a ≤ b → drop a x ≡ drop a y → drop b x ≡ drop b y
past_more a b x y h e =
    let s : b ≡ a + (b - a) = omega arith in
    rw s (sym (drop-drop (b - a) a x) ∙ ap (drop (b - a)) e ∙ drop-drop (b - a) a y)

copied_left : (error payload : List ℕ) → drop (length payload) (copied error payload).1 ≡ drop (length payload) error
unfolding copied put
copied_left error payload = by_test (leb (length payload) (length error)) fits over
  where
    fits : leb (length payload) (length error) ≡ true → drop (length payload) (copied error payload).1 ≡ drop (length payload) error
    fits t =
        let h : length payload ≤ length error = leb-true _ _ t in
        let m : min (length payload) (length error) ≡ length payload = omega arith in
        let l : length (take (length payload) payload) ≡ length payload = length-take-le (length payload) payload (omega arith) in
        let z : 0 + length (take (length payload) payload) ≡ length payload = omega arith in
        rw (m, z) (drop_at (take (length payload) payload) (drop (length payload) error) (length payload) l)

    over : leb (length payload) (length error) ≡ false → drop (length payload) (copied error payload).1 ≡ drop (length payload) error
    over t =
        let h : length error < length payload = leb-false _ _ t in
        let l : length (copied error payload).1 ≡ length error = length_copied error payload in
        let a : length (copied error payload).1 ≤ length payload = omega arith in
        let b : length error ≤ length payload = omega arith in
        drop_of_length-le (copied error payload).1 a ∙ sym (drop_of_length-le error b)

-- what a list of messages leaves of the buffer, by the longest error among them
abbrev Left : ℕ → List ℕ → Played → Type 0
Left n error p = (length p.error ≡ length error) × (drop n p.error ≡ drop n error)

end_left : (n : ℕ) (payload : List ℕ) (q : SimpleQuery) (error : List ℕ) (rest : Played) → Left n error (played_by (end_answer q) payload fresh error rest)
end_left n payload q error rest = by_test q.failed (λ t. rw t (refl, refl)) (λ t. rw t (refl, refl))

row_left : (n : ℕ) (r : Option (List Column)) (payload : List ℕ) (q : SimpleQuery) (error : List ℕ) (rest : SimpleQuery → Played) → Left n error (rest q)
    → Left n error (played_by (data_row_answer q r).1 payload (data_row_answer q r).0 error (rest (data_row_answer q r).0))
row_left n none payload q error rest h = (refl, refl)
row_left n (some cs) payload q error rest h = h

error_left : (n : ℕ) (error payload : List ℕ) (p : Played) → Left n (copied error payload).1 p → Left (max (length payload) n) error p
error_left n error payload p h =
    let m : ℕ = max (length payload) n in
    let a : length payload ≤ m = omega arith in
    let b : n ≤ m = omega arith in (
      h.0 ∙ length_copied error payload,
      past_more n m p.error (copied error payload).1 b h.1 ∙ past_more (length payload) m (copied error payload).1 error a (copied_left error payload),
    )

leaves : (ms : List (ℕ × List ℕ)) (q : SimpleQuery) (error : List ℕ) → Left (longest ms) error (play_from q error ms)
unfolding play_from message_of
leaves [] q error = (refl, refl)
leaves (m ∷ ms) q error =
    by_test (is_data_row m.0)
    (λ t.
    let u : is_error m.0 ≡ false = rw (eqb-true m.0 68 t) in
    rw (t, u) (row_left (longest ms) (columns_of m.1) m.1 q error (λ r. play_from r error ms) (leaves ms q error)))
    (λ t. by_test (is_error m.0)
    (λ u.
    let r : SimpleQuery = record { failed = true; kept = (copied error m.1).0; len = length m.1 } in
    let x : List ℕ = (copied error m.1).1 in
    rw (t, u) (error_left (longest ms) error m.1 (play_from r x ms) (leaves ms r x)))
    (λ u. by_test (is_ready_for_query m.0)
    (λ v. rw (t, u, v) (end_left (longest ms) m.1 q error (play_from fresh error ms)))
    (λ v. rw (t, u, v) (leaves ms q error))))

pub buffer_is_left : BufferIsLeft
unfolding play_of
buffer_is_left error ms = leaves ms fresh error

-- ---- the last error

row_goes_on : (r : Option (List Column)) (a : Answer) → (r ≡ none → ⊥) → (data_row_then r a).ending ≡ a.ending
row_goes_on none a h = absurd (h refl)
row_goes_on (some cs) a h = refl

-- messages after which a query goes on leave some last error or none
goes_on : (ms : List (ℕ × List ℕ)) (e : Option (List ℕ)) (rest : List (ℕ × List ℕ)) → GoesOn ms
    → (f : Option (List ℕ)) × ((answer_from e (ms ++ rest)).ending ≡ (answer_from f rest).ending)
unfolding answer_from
goes_on [] e rest h = (e, refl)
goes_on (m ∷ ms) e rest h =
    by_test (is_data_row m.0)
    (λ t.
    let w = goes_on ms e rest h.2 in
    (w.0, rw t (row_goes_on (columns_of m.1) (answer_from e (ms ++ rest)) (h.1 (eqb-true m.0 68 t)) ∙ w.1)))
    (λ t. by_test (is_error m.0)
    (λ u. let w = goes_on ms (some m.1) rest h.2 in (w.0, rw (t, u) w.1))
    (λ u. by_test (is_ready_for_query m.0)
    (λ v. absurd (h.0 (eqb-true m.0 90 v)))
    (λ v. let w = goes_on ms e rest h.2 in (w.0, rw (t, u, v) w.1))))

-- messages without an error leave the last error as it was
same_error : (ms : List (ℕ × List ℕ)) (e : Option (List ℕ)) (rest : List (ℕ × List ℕ)) → GoesOn ms → NoError ms
    → (answer_from e (ms ++ rest)).ending ≡ (answer_from e rest).ending
unfolding answer_from
same_error [] e rest h n = refl
same_error (m ∷ ms) e rest h n =
    by_test (is_data_row m.0)
    (λ t. rw t (row_goes_on (columns_of m.1) (answer_from e (ms ++ rest)) (h.1 (eqb-true m.0 68 t)) ∙ same_error ms e rest h.2 n.1))
    (λ t. by_test (is_error m.0)
    (λ u. absurd (n.0 (eqb-true m.0 69 u)))
    (λ u. by_test (is_ready_for_query m.0)
    (λ v. absurd (h.0 (eqb-true m.0 90 v)))
    (λ v. rw (t, u, v) (same_error ms e rest h.2 n.1))))

ready_ends : (e : Option (List ℕ)) (z : List ℕ) (rest : List (ℕ × List ℕ)) → (answer_from e ((code "Z", z) ∷ rest)).ending ≡ ending_by e
unfolding answer_from
ready_ends e z rest = refl

error_taken : (e : Option (List ℕ)) (p : List ℕ) (rest : List (ℕ × List ℕ)) → (answer_from e ((code "E", p) ∷ rest)).ending ≡ (answer_from (some p) rest).ending
unfolding answer_from
error_taken e p rest = refl

pub last_error_wins : LastErrorWins
unfolding answer_of
last_error_wins before e after z rest b a n =
    let end : List (ℕ × List ℕ) = (code "Z", z) ∷ rest in
    let w = goes_on before none ((code "E", e) ∷ (after ++ end)) b in
    w.1 ∙ error_taken w.0 e (after ++ end) ∙ same_error after (some e) end a n ∙ ready_ends (some e) z rest

pub no_error_is_ready : NoErrorIsReady
unfolding answer_of
no_error_is_ready before z rest b n = same_error before none ((code "Z", z) ∷ rest) b n ∙ ready_ends none z rest
