-- Exported calls: the words are those of the run that they stand for, and the runs are the same. So every look, which is a look at the words, is the
-- same, too.
use mathlib.Core.Path.{◌≡◌, refl, sym, ap, ◌∙◌, subst}
use mathlib.Core.Bool.{Bool, true, false}
use mathlib.Core.List.{List, [], ◌∷◌}
use mathlib.Core.Option.{Option, some, none}
use Prim.Native.Nat.{ℕ, min, ◌≤◌}
use native.Mathlib.Omega.{arith}
use lib.ListN.{length, get_or, take, drop}
use lib.Seq.{take-append_seam, take-take}
use lib.Dec.{eqb, ltb}
use Rattle.wire.specs.Bytes.{pick}
use Rattle.wire.proofs.Laws.{by_test}
use Rattle.error.specs.Writer.{writing}
use Rattle.page.specs.Page.{page_of}
use Rattle.worker.specs.declared.Input.{Input}
use Rattle.worker.specs.declared.Run.{Run}
use Rattle.worker.specs.declared.Settings.{Settings}
use Rattle.worker.specs.Answer.{error_part_of}
use Rattle.worker.specs.Events as E
use Rattle.worker.specs.Session.{Opened as OpenedRun, open_of, already_open_of, report_of}
use Rattle.worker.specs.Step.{Lent, Outcome, step_of}
use Rattle.advance.specs.Advance.{advance_of}
use Rattle.ffi_words.specs.Calls.{Standing, standing, written, answered, unless_refused, report_call, report_each_call, state_call, metrics_call, position_call, last_sent_call}
use Rattle.ffi_words.specs.Words.{words_of, run_of}
use Rattle.ffi_words.specs.Step.{clipped, answer_words}
use Rattle.ffi_answers.specs.Next.{next_step_call}
use Rattle.ffi_answers.specs.Parts as P
use Rattle.run_page.specs.RunPage.{shown_by}
use Rattle.thm_any_calls.specs.Tests.{longest, lsn}
use Rattle.thm_any_calls.specs.Calls.{Beginning, Played, lent_to, begun, run_begun}
use Rattle.thm_any_calls.proofs.Tests.{put_front}
use Rattle.thm_host_calls.specs.Mixed.{mix_all}
use Rattle.thm_host_calls.specs.HostWords.{word, Words, settings_by, input_by}
use Rattle.thm_host_calls.specs.Exported.{HostCall, Held, Reply, Stepped, Reported, Called, CalledAll, mixed_of, Opened, by_open, already, held_first}
use Rattle.thm_host_calls.specs.Exported as X
use Rattle.thm_host_calls.proofs.Told.{Stands, all, opened_run, mixed_stand}
use Rattle.thm_unpublished.specs.Same.{Same}
use Rattle.thm_unpublished.specs.Unpublished.{AlikeCalls, Indistinct}
use Rattle.thm_unpublished.specs.Unpublished as U
use Rattle.thm_unpublished.specs.Exported.{AlikeCall, step, advance, report, report_each, state, metrics, position, last_sent, error_part, next_step, page, AlikeHostCalls, none, next}
use Rattle.thm_unpublished.specs.Exported.{Writes, output_of, RepliesAlike, ExportedAlike, ExportedIndistinct}
use Rattle.thm_unpublished.proofs.Contained.{hidden_is_alike}
use Rattle.thm_unpublished.proofs.Calls.{alike_indistinct, writes_over}

-- ---- the same calls, looks left out

calls_alike : {cs ds : List HostCall} → AlikeHostCalls cs ds → AlikeCalls (mixed_of cs) (mixed_of ds)
unfolding mixed_of
calls_alike none = U.none
calls_alike (next (step l) h) = U.step l (calls_alike h)
calls_alike (next (advance l) h) = U.advance l (calls_alike h)
calls_alike (next report h) = U.report (calls_alike h)
calls_alike (next report_each h) = U.report (U.report (U.report (U.report (calls_alike h))))
calls_alike (next state h) = calls_alike h
calls_alike (next metrics h) = calls_alike h
calls_alike (next position h) = calls_alike h
calls_alike (next last_sent h) = calls_alike h
calls_alike (next error_part h) = calls_alike h
calls_alike (next next_step h) = calls_alike h
calls_alike (next (page l) h) = calls_alike h

-- ---- words that are those of the run that they stand for

abbrev Own : List ℕ → Type 0
Own words = words ≡ words_of (run_of words)

-- words that a call wrote
own_written : {words : List ℕ} (r : Run) → standing words ≡ written r → Own words
own_written r e = ap (λ (x : Standing). x.0) e ∙ ap words_of (sym (ap (λ (x : Standing). x.1) e))

-- words that a call wrote or left
own_unless : {words : List ℕ} (n : ℕ) (r : Run) (before : List ℕ) → Own before → standing words ≡ unless_refused n r before → Own words
own_unless {words} n r before w e = by (eqb n 0) e
  where
    by : (b : Bool) → standing words ≡ pick {A = Standing} b (written r) (standing before) → Own words
    by true q = own_written r q
    by false q = subst Own (sym (ap (λ (x : Standing). x.0) q)) w

report_own : {h g : Held} {y : Reply} (file p m : ℕ) → Reported h file p m g y → Own h.words → Own g.words
report_own {h} file p m c w =
    let o : ℕ × Run = report_of (run_of h.words) file (lsn p) (record { 0 = m }) in
    own_unless o.0 o.1 h.words w (ap (λ (x : ℕ × Standing). x.1) c.ensures)

step_own : (f : Run → Input → Lent → Outcome) (bytes : List ℕ) {h : Held} (a : Words) (n : ℕ) (out : List ℕ) {g : Held} {y : Reply}
    → Stepped f bytes h a n out g y → Own g.words
step_own f bytes a n out c = own_written _ (ap (λ (x : Standing × List ℕ × List ℕ × List ℕ). x.0) c.ensures)

look_own : {h g : Held} → g ≡ h → Own h.words → Own g.words
look_own e w = rw e w

calls_own : (bytes : List ℕ) (cs : List HostCall) {h g : Held} → CalledAll bytes h cs g → Own h.words → Own g.words
calls_own bytes [] X.none w = w
calls_own bytes (X.step a n out ∷ cs) (X.next y c d) w = calls_own bytes cs d (step_own step_of bytes a n out c)
calls_own bytes (X.advance a n out ∷ cs) (X.next y c d) w = calls_own bytes cs d (step_own advance_of bytes a n out c)
calls_own bytes (X.report file p m ∷ cs) (X.next y c d) w = calls_own bytes cs d (report_own file p m c w)
calls_own bytes (X.report_each ps m ∷ cs) (X.next y c d) w = calls_own bytes cs d (own_written _ (ap (λ (x : ℕ × Standing). x.1) c.ensures))
calls_own bytes (X.state ∷ cs) (X.next y c d) w = calls_own bytes cs d (look_own c.0 w)
calls_own bytes (X.metrics ∷ cs) (X.next y c d) w = calls_own bytes cs d (look_own c.0 w)
calls_own bytes (X.position ∷ cs) (X.next y c d) w = calls_own bytes cs d (look_own c.0 w)
calls_own bytes (X.last_sent ∷ cs) (X.next y c d) w = calls_own bytes cs d (look_own c.0 w)
calls_own bytes (X.error_part n ∷ cs) (X.next y c d) w = calls_own bytes cs d (look_own c.0 w)
calls_own bytes (X.next_step n queue ∷ cs) (X.next y c d) w = calls_own bytes cs d (look_own c.0 w)
calls_own bytes (X.page out ∷ cs) (X.next y c d) w = calls_own bytes cs d (look_own c.0 w)

-- an opening that was not refused wrote them
first_own : {words : List ℕ} (n : ℕ) (r : Run) (before : List ℕ) → 0 ≡ n → standing words ≡ unless_refused n r before → Own words
first_own {words} n r before z e = own_written r (subst (λ (k : ℕ). standing words ≡ unless_refused k r before) (sym z) e)

opened_own : {settings words : List ℕ} {b : Beginning} → Opened settings words b → Own words
opened_own {settings} (by_open before {slot = slot} {publications = publications} {position = asked} {start = start} {out = out} e) =
    let o : OpenedRun = open_of (settings_by settings) slot publications (lsn asked) (lsn start) out in
    first_own o.outcome.0 o.run before (ap (λ (x : ℕ × Standing × ℕ × List ℕ). x.0) e) (ap (λ (x : ℕ × Standing × ℕ × List ℕ). x.1) e)
opened_own {settings} (already before {start = start} e) =
    let o : ℕ × Run = already_open_of (settings_by settings) (lsn start) in
    first_own o.0 o.1 before (ap (λ (x : ℕ × Standing). x.0) e) (ap (λ (x : ℕ × Standing). x.1) e)

-- ---- replies

-- the words of two outcomes
same_answer : {u v : List ℕ} {o o' : Outcome} → Same u v o o' → answered o ≡ answered o'
same_answer {o = o} {o' = o'} s =
    by o.refusal o'.refusal o.taken o'.taken o.written o'.written o.waited o'.waited (length o.payload)
    (length o'.payload)
    o.event o'.event s.refusal s.taken s.count s.waited s.buffer s.event
  where
    by : (a b c d e f : ℕ) (g h : Option ℕ) (j k : ℕ) (l m : E.Said) → a ≡ b → c ≡ d → e ≡ f → g ≡ h → j ≡ k → l ≡ m
        → answer_words a c e g (clipped j l) ≡ answer_words b d f h (clipped k m)
    by a b c d e f g h j k l m p q r t w z = rw (p, q, r, t, w, z)

-- two steps or advances with the same outcome
step_alike : (out out' : List ℕ) (o o' : Outcome) (y y' : Reply) → Same out out' o o' → y.answer ≡ answered o → y.out ≡ o.out
    → y'.answer ≡ answered o' → y'.out ≡ o'.out → (y.answer ≡ y'.answer) × Writes out out' 2 y y'
step_alike out out' o o' y y' s a b a' b' =
    let e : y.answer ≡ y'.answer = a ∙ (same_answer s ∙ sym a') in (
      e,
      record {
        count = ap (λ (x : List ℕ). word x 2) e;
        written = front y o a b ∙ (s.written ∙ sym (front y' o' a' b'));
        output = λ j h. ap (λ (l : List ℕ). get_or l j 0) b ∙ (s.output j h ∙ sym (ap (λ (l : List ℕ). get_or l j 0) b'));
      },
    )
  where
    front : (x : Reply) (p : Outcome) → x.answer ≡ answered p → x.out ≡ p.out → take (word x.answer 2) x.out ≡ take p.written p.out
    front x p q t = rw (q, t) refl

-- ---- a page on two outputs of one length

-- the same refusal and count, and so many bytes of the same text
pages : (text out out' : List ℕ) → length out ≡ length out'
    → ((writing 0 text out).0 ≡ (writing 0 text out').0)
    × (take (writing 0 text out).0.1 (writing 0 text out).1 ≡ take (writing 0 text out').0.1 (writing 0 text out').1)
unfolding writing
pages text out out' l =
    by_test (ltb (length out) (length text)) (λ t. rw (← l, t) (refl, refl))
    (λ t.
    rw (← l, t, put_front out text, put_front out' text)
    (refl, take-append_seam text (drop (length text) out) ∙ sym (take-append_seam text (drop (length text) out'))))

page_alike : (text out out' : List ℕ) (y y' : Reply) → length out ≡ length out' → ((y.result, word y.answer 0), y.out) ≡ writing 0 text out
    → ((y'.result, word y'.answer 0), y'.out) ≡ writing 0 text out' → (y.result ≡ y'.result) × Writes out out' 0 y y'
page_alike text out out' y y' l e e' =
    let same = pages text out out' l in
    let both : ◌≡◌ {A = ℕ × ℕ} (y.result, word y.answer 0) (y'.result, word y'.answer 0) = first e ∙ (same.0 ∙ sym (first e')) in (
      ap (λ (x : ℕ × ℕ). x.0) both,
      record {
        count = ap (λ (x : ℕ × ℕ). x.1) both;
        written = front e ∙ (same.1 ∙ sym (front e'));
        output = λ j h. there e j ∙ (writes_over 0 text out out' l j h ∙ sym (there e' j));
      },
    )
  where
    first : {x x' : (ℕ × ℕ) × List ℕ} → x ≡ x' → x.0 ≡ x'.0
    first q = ap (λ (x : (ℕ × ℕ) × List ℕ). x.0) q

    front : {x x' : (ℕ × ℕ) × List ℕ} → x ≡ x' → take x.0.1 x.1 ≡ take x'.0.1 x'.1
    front q = ap (λ (x : (ℕ × ℕ) × List ℕ). take x.0.1 x.1) q

    there : {x x' : (ℕ × ℕ) × List ℕ} → x ≡ x' → (j : ℕ) → get_or x.1 j 0 ≡ get_or x'.1 j 0
    there q j = ap (λ (x : (ℕ × ℕ) × List ℕ). get_or x.1 j 0) q

-- ---- any list of exported calls

module _ (a b : List ℕ) {g g' : Held} {z z' : Played} (v : Stands g z) (v' : Stands g' z') (i : Indistinct a b z z') (ew : g.words ≡ g'.words) where
  -- a step or an advance of each
  call_alike : (f : Run → Input → Lent → Outcome) (w : Words) (n : ℕ) (out out' : List ℕ) {k k' : Held} {y y' : Reply}
      → Same out out' (f z.run (input_by w) (lent_to a z n out)) (f z'.run (input_by w) (lent_to b z' n out'))
      → Stepped f a g w n out k y → Stepped f b g' w n out' k' y' → (y.answer ≡ y'.answer) × Writes out out' 2 y y'
  call_alike f w n out out' {y = y} {y' = y'} s c c' =
      let e = all a v f w n out c in
      let e' = all b v' f w n out' c' in
      step_alike out out' (f z.run (input_by w) (lent_to a z n out)) (f z'.run (input_by w) (lent_to b z' n out')) y y' s
      (ap (λ (x : Standing × List ℕ × List ℕ × List ℕ). x.1) e) (ap (λ (x : Standing × List ℕ × List ℕ × List ℕ). x.3) e)
      (ap (λ (x : Standing × List ℕ × List ℕ × List ℕ). x.1) e') (ap (λ (x : Standing × List ℕ × List ℕ × List ℕ). x.3) e')

  replies : {c d : HostCall} → AlikeCall c d → (k k' : Held) (y y' : Reply) → Called a g c k y → Called b g' d k' y' → RepliesAlike c (output_of d) y y'
  replies (step {a = w} {n = n} {out = out} {out' = out'} l) k k' y y' c c' =
      call_alike step_of w n out out' (i.step (input_by w) n out out' l) c c'
  replies (advance {a = w} {n = n} {out = out} {out' = out'} l) k k' y y' c c' =
      call_alike advance_of w n out out' (i.advance (input_by w) n out out' l) c c'
  replies (report {file = file} {p = p} {m = m}) k k' y y' c c' =
      ap (λ (x : ℕ × Standing). x.0) c.ensures
      ∙ (ap (λ (x : List ℕ). (report_call x file p m).0) ew ∙ sym (ap (λ (x : ℕ × Standing). x.0) c'.ensures))
  replies (report_each {ps = ps} {m = m}) k k' y y' c c' =
      ap (λ (x : ℕ × Standing). x.0) c.ensures
      ∙ (ap (λ (x : List ℕ). (report_each_call x ps m).0) ew ∙ sym (ap (λ (x : ℕ × Standing). x.0) c'.ensures))
  replies state k k' y y' c c' = c.1 ∙ (ap state_call ew ∙ sym c'.1)
  replies metrics k k' y y' c c' = c.1 ∙ (ap metrics_call ew ∙ sym c'.1)
  replies position k k' y y' c c' = c.1 ∙ (ap position_call ew ∙ sym c'.1)
  replies last_sent k k' y y' c c' = c.1 ∙ (ap last_sent_call ew ∙ sym c'.1)
  replies (error_part {n = n}) k k' y y' c c' = c.1 ∙ (ap (λ (x : List ℕ). P.error_part_call x n) ew ∙ sym c'.1)
  replies (next_step {n = n} {queue = queue}) k k' y y' c c' = c.1 ∙ (ap (λ (x : List ℕ). next_step_call x n queue) ew ∙ sym c'.1)
  replies (page {out = out} {out' = out'} l) k k' y y' c c' =
      page_alike (page_of (shown_by (run_of g.words))) out out' y y' l c.1
      (c'.1 ∙ ap (λ (x : List ℕ). writing 0 (page_of (shown_by (run_of x))) out') (sym ew))

  -- as many bytes of an error as the buffer has
  error_front : (o : Option ℕ) (n : ℕ) → error_part_of z.run ≡ o
      → take (word (P.error_words o n) 1) g.payload ≡ take (word (P.error_words o n) 1) g'.payload
  error_front none n e = refl
  error_front (some m) n e =
      ap (take (min m n)) v.payload
      ∙ (take_least m n z.payload z'.payload (i.error m e) ∙ ap (take (min m n)) (sym v'.payload))
    where
      take_least : (m n : ℕ) (s t : List ℕ) → take m s ≡ take m t → take (min m n) s ≡ take (min m n) t
      take_least m n s t q =
          let l : min m n ≤ m = omega arith in
          sym (take-take (min m n) m s l) ∙ (ap (take (min m n)) q ∙ take-take (min m n) m t l)

pub exported_alike : ExportedAlike
exported_alike settings words words' c d oc od h a b p q al lp cs ds k g g' ca cb =
    let s : Settings = settings_by settings in
    let v : Stands (held_first words p) (begun (run_begun s c) p) = record { run = opened_run oc; payload = refl; taken = refl } in
    let v' : Stands (held_first words' q) (begun (run_begun s d) q) = record { run = opened_run od; payload = refl; taken = refl } in
    let x = mixed_stand a cs v ca in
    let x' = mixed_stand b ds v' cb in
    let i = alike_indistinct s c d a b p q h al lp (mixed_of cs) (mixed_of ds) (calls_alike k) in
    let ew : g.words ≡ g'.words =
    calls_own a cs ca (opened_own oc) ∙ (ap words_of (x.run ∙ (i.left.run ∙ sym x'.run)) ∙ sym (calls_own b ds cb (opened_own od))) in
    record {
      words = ew;
      taken = x.taken ∙ (i.left.taken ∙ sym x'.taken);
      buffer = ap (λ (l : List ℕ). length l) x.payload ∙ (i.left.buffer ∙ sym (ap (λ (l : List ℕ). length l) x'.payload));
      next = λ e j j' y y' u u'. replies a b x x' i ew e j j' y y' u u';
      error = λ n j j' y y' u u'.
          let same : y.answer ≡ P.error_words (error_part_of (mix_all a (begun (run_begun s c) p) (mixed_of cs)).run) n =
          u.1 ∙ ap (λ (r : Run). P.error_words (error_part_of r) n) x.run in
          let same' : y'.answer ≡ y.answer = sym (replies a b x x' i ew error_part j j' y y' u u') in
          ap (λ (l : List ℕ). take (word l 1) g.payload) same
          ∙ (error_front a b x x' i ew _ n refl ∙ ap (λ (l : List ℕ). take (word l 1) g'.payload) (sym (same' ∙ same)));
    }

pub exported_indistinct : ExportedIndistinct
exported_indistinct settings words words' c d oc od h a b p q dh lp cs ds k g g' ca cb =
    let limit : ℕ = longest (settings_by settings).max_message_size in
    exported_alike settings words words' c d oc od h a b p q (hidden_is_alike limit a b dh) lp cs ds k g g' ca cb
