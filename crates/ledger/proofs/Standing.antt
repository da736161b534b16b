-- A call on what stands for a history leaves what stands for the history after it.
use mathlib.Core.Path.{◌≡◌, refl, sym, ap, ◌∙◌}
use mathlib.Core.Bool.{Bool, true, false}
use mathlib.Core.List.{List, [], ◌∷◌, ◌++◌}
use Prim.Native.Nat.{ℕ, ◌+◌, ◌≤◌, ◌<◌, max}
use native.Mathlib.Omega.{arith}
use lib.ListN.{length}
use lib.Dec.{eqb}
use Rattle.wire.specs.Bytes.{pick}
use Rattle.touched.specs.declared.Files.{Files}
use Rattle.touched.specs.Touched.{entries_of, has_no_file, clear, Told, nothing, after_of}
use Rattle.touched.specs.Bits.{bits_of, files_by}
use Rattle.touched.specs.Walk.{walk_of, left_by}
use Rattle.touched.specs.Words.{touched_call}
use Rattle.touched.specs.Words as words
use Rattle.touched.proofs.BitLaws.{bit_laws}
use Rattle.touched.proofs.Walk.{left_is_the_walk}
use Rattle.ledger.specs.declared.Ledger.{Ledger}
use Rattle.ledger.specs.declared.Entry.{Entry}
use Rattle.ledger.specs.Ledger.{cap_of, slot_of, entry, entry_in, ledger, with_done, stable_of, file_done, settled_of, undone_for, undone_some}
use Rattle.ledger.specs.Ledger.{refused_with, with_entry, kept_of}
use Rattle.ledger.specs.History.{Event, keepalive, begin, commit, message, other, stopped, Call, streams, tells, does, does_all, History}
use Rattle.ledger.specs.History.{start_in, open_in, seen_in, stable_in, largest_in, done_in, told_in, walked_in, entries_in, entries_after, held_now, from_held}
use Rattle.ledger.specs.History.{held_in, undone_now}
use Rattle.ledger.specs.History as history
use Rattle.ledger.specs.Stands.{kind_by, data_by, Stands}
use Rattle.ledger.proofs.ListLaws.{from_ext, from_more, from_again}
use Rattle.ledger.proofs.SlotLaws.{written_length, fits_below, ring_more, settled_ring, settled_fits, settled_count}
use Rattle.ledger.proofs.UndoneLaws.{undone_less, for_none, held_same}

-- ---- the files that the rows touch

left_append : (es : List (ℕ × ℕ)) (b : Files) (ts us : List Told) → left_by es b (ts ++ us) ≡ left_by es (left_by es b ts) us
unfolding left_by
left_append es b [] us = refl
left_append es b (t ∷ ts) us = left_append es (after_of es t b).1 ts us

module _ (es : List (ℕ × ℕ)) (n : has_no_file es ≡ false) where
  walk_more : (ts : List Told) (t : Told) → (after_of es t (walk_of es ts)).1 ≡ walk_of es (ts ++ (t ∷ []))
  unfolding left_by
  walk_more ts t =
      ap (λ (b : Files). (after_of es t b).1) (sym (left_is_the_walk es ts n)) ∙ sym (left_append es clear ts (t ∷ []))
      ∙ left_is_the_walk es (ts ++ (t ∷ [])) n

told_same : (e : Event) → words.told_by (kind_by e) (data_by e) ≡ history.told_by e
unfolding words.told_by
told_same (keepalive q) = refl
told_same begin = refl
told_same (commit q) = refl
told_same (message q) = refl
told_same (other s) = refl
told_same stopped = refl

after_taken : (es : List (ℕ × ℕ)) (t : Told) (b : Files) → has_no_file es ≡ false → (after_of es t b).0 ≡ 0
unfolding after_of
after_taken es t b n = rw n

reply_taken : (m : ℕ) (a : ℕ × Files) → a.0 ≡ 0 → ◌≡◌ {A = ℕ × ℕ} (0, bits_of a.1) (a.0, pick (eqb a.0 0) (bits_of a.1) m)
reply_taken m a z = rw z

pub touched_told : (ids fs : List ℕ) (h : History) (e : Event) (m : ℕ) → has_no_file (entries_of ids fs) ≡ false → m ≡ walked_in (entries_of ids fs) h
    → ◌≡◌ {A = ℕ × ℕ} (0, walked_in (entries_of ids fs) (tells e ∷ h)) (touched_call ids fs (kind_by e) (data_by e) m)
unfolding walked_in told_in
touched_told ids fs h e m n t =
    let es : List (ℕ × ℕ) = entries_of ids fs in
    let a : ℕ × Files = after_of es (words.told_by (kind_by e) (data_by e)) (files_by m) in
    let f : files_by m ≡ walk_of es (told_in h) = ap files_by t ∙ bit_laws.back (walk_of es (told_in h)) in
    let w : walk_of es (told_in h ++ (history.told_by e ∷ [])) ≡ a.1 =
    sym (walk_more es n (told_in h) (history.told_by e)) ∙ ap (λ (x : Told). (after_of es x (walk_of es (told_in h))).1) (sym (told_same e))
    ∙ ap (λ (x : Files). (after_of es (words.told_by (kind_by e) (data_by e)) x).1) (sym f) in
    ap (λ (x : Files). (0, bits_of x)) w ∙ reply_taken m a (after_taken es _ _ n)

-- an event that tells nothing of files leaves them
pub walk_nothing : (es : List (ℕ × ℕ)) (ts : List Told) → has_no_file es ≡ false → walk_of es (ts ++ (nothing ∷ [])) ≡ walk_of es ts
unfolding after_of
walk_nothing es ts n = sym (walk_more es n ts nothing) ∙ rw n

pub kept_answer : (o : Bool) (b q t : ℕ) (l : Ledger) (ring : List ℕ) → (kept_of o b q t l ring).0 ≡ 0
unfolding kept_of
kept_answer o b q t l ring = refl

pub kept_length : (o : Bool) (b q t : ℕ) (l : Ledger) (ring : List ℕ) → length (kept_of o b q t l ring).2 ≡ length ring
unfolding kept_of
kept_length o b q t l ring = written_length ring _ _

pub touched_refused : (ids fs : List ℕ) (kind m : ℕ) (s : List ℕ) → has_no_file (entries_of ids fs) ≡ true
    → ◌≡◌ {A = ℕ × ℕ} (31, m) (touched_call ids fs kind s m)
unfolding after_of
touched_refused ids fs kind m s n = rw n

-- ---- an event that is no entry

module _ {p mark : ℕ} {es : List (ℕ × ℕ)} {h : History} {l : Ledger} {ring : List ℕ} (st : Stands p es mark h l ring) where
  pub told_plain : (e : Event) (o : Bool) (b t : ℕ) → o ≡ open_in (tells e ∷ h) → b ≡ walked_in es (tells e ∷ h) → t ≡ seen_in (tells e ∷ h)
      → largest_in (tells e ∷ h) ≡ largest_in h → entries_in p es (tells e ∷ h) ≡ entries_in p es h
      → Stands p es mark (tells e ∷ h)
      (ledger l.start t l.zero l.one l.two l.three l.largest o b l.refusal l.front l.count) ring
  unfolding start_in done_in held_in
  told_plain e o b t eo eb et el ee =
      record {
        start = st.start;
        seen = et;
        zero = st.zero;
        one = st.one;
        two = st.two;
        three = st.three;
        largest = st.largest ∙ sym el;
        opened = eo;
        touched = eb;
        refusal = st.refusal;
        fits = st.fits;
        within = st.within;
        held = st.held ∙ ap (λ (xs : List Entry). from_held (λ e. held_now p h e) xs) (sym ee);
      }

  -- an event that is refused
  pub marked : (n : ℕ) → Stands p es n h (refused_with n l) ring
  marked n =
      record {
        start = st.start;
        seen = st.seen;
        zero = st.zero;
        one = st.one;
        two = st.two;
        three = st.three;
        largest = st.largest;
        opened = st.opened;
        touched = st.touched;
        refusal = refl;
        fits = st.fits;
        within = st.within;
        held = st.held;
      }

  -- ---- an entry

  held_more : (o : Bool) (b q : ℕ) (e : Entry) → undone_some (with_entry o b q l) e ≡ held_now p h e
  unfolding undone_some file_done
  held_more o b q e = held_same st e

  pub told_entry : (e : Event) (o : Bool) (b q t : ℕ) → l.seen < q → l.count < cap_of (length ring) → o ≡ open_in (tells e ∷ h)
      → b ≡ walked_in es (tells e ∷ h) → seen_in (tells e ∷ h) ≡ max (seen_in h) q → largest_in (tells e ∷ h) ≡ max (largest_in h) q
      → entries_in p es (tells e ∷ h) ≡ entries_in p es h ++ (entry q (stable_in p h) t ∷ [])
      → Stands p es mark (tells e ∷ h) (kept_of o b q t l ring).1 (kept_of o b q t l ring).2
  unfolding kept_of settled_of start_in done_in held_in stable_in
  told_entry e o b q t hs hc eo eb et el ee =
      let cap : ℕ = cap_of (length ring) in
      let x : Entry = entry q (stable_of l) t in
      let y : Entry = entry q (stable_in p h) t in
      let slot : ℕ = slot_of cap l.front l.count in
      let written : List ℕ = entry_in ring slot x in
      let more : Ledger = with_entry o b q l in
      let wl : length written ≡ length ring = written_length ring slot x in
      let below : l.front < cap = fits_below cap l.front (omega arith) st.fits in
      let xy : x ≡ y = ap (λ (s : ℕ). entry q s t) (ap (λ (a : ℕ). max a l.seen) st.start ∙ ap (λ (a : ℕ). max (start_in p h) a) st.seen) in
      record {
        start = st.start;
        seen = (let i : max (seen_in h) q ≡ q = omega (arith, st.seen) in sym i) ∙ sym et;
        zero = st.zero;
        one = st.one;
        two = st.two;
        three = st.three;
        largest = ap (λ (a : ℕ). max a q) st.largest ∙ sym el;
        opened = eo;
        touched = eb;
        refusal = st.refusal;
        fits = settled_fits written more l.front (l.count + 1) (rw wl st.fits);
        within = rw wl (omega (arith, settled_count written more l.front (l.count + 1)));
        held =
            settled_ring written more l.front (l.count + 1)
            ∙ ap (λ (xs : List Entry). from_held (λ e. undone_some more e) xs)
            (ring_more ring x l.front l.count below hc ∙ ap (λ (xs : List Entry). xs ++ (x ∷ [])) st.held
            ∙ ap (λ (z : Entry). held_in p es h ++ (z ∷ [])) xy)
            ∙ from_ext (λ e. undone_some more e) (λ e. held_now p h e) (λ e. held_more o b q e) (held_in p es h ++ (y ∷ []))
            ∙ from_more (λ e. held_now p h e) (λ e. held_now p h e) (λ e i. i) (entries_in p es h) (y ∷ [])
            ∙ ap (λ (xs : List Entry). from_held (λ e. held_now p h e) xs) (sym ee);
      }

  -- ---- what is done

  pub all_stand : (c : Call) → start_in p (c ∷ h) ≡ start_in p h → open_in (c ∷ h) ≡ open_in h → seen_in (c ∷ h) ≡ seen_in h
      → largest_in (c ∷ h) ≡ largest_in h → walked_in es (c ∷ h) ≡ walked_in es h → entries_in p es (c ∷ h) ≡ entries_in p es h
      → done_in p 0 h ≤ done_in p 0 (c ∷ h) → done_in p 1 h ≤ done_in p 1 (c ∷ h) → done_in p 2 h ≤ done_in p 2 (c ∷ h)
      → done_in p 3 h ≤ done_in p 3 (c ∷ h)
      → Stands p es mark (c ∷ h)
      (settled_of ring (with_done (done_in p 0 (c ∷ h)) (done_in p 1 (c ∷ h)) (done_in p 2 (c ∷ h)) (done_in p 3 (c ∷ h)) l)) ring
  unfolding settled_of held_in undone_some file_done
  all_stand c es₁ eo et el ew ee d0 d1 d2 d3 =
      let more : Ledger = with_done (done_in p 0 (c ∷ h)) (done_in p 1 (c ∷ h)) (done_in p 2 (c ∷ h)) (done_in p 3 (c ∷ h)) l in
      let same : (e : Entry) → undone_some more e ≡ held_now p (c ∷ h) e = λ e. rw (st.start, ← es₁) in
      let less : (e : Entry) → held_now p h e ≡ false → held_now p (c ∷ h) e ≡ false =
      λ e. rw es₁ (for_none (undone_now p 0 h e) (undone_now p 1 h e) (undone_now p 2 h e) (undone_now p 3 h e)
      (undone_for (start_in p h) (done_in p 0 (c ∷ h)) 0 e) (undone_for (start_in p h) (done_in p 1 (c ∷ h)) 1 e)
      (undone_for (start_in p h) (done_in p 2 (c ∷ h)) 2 e) (undone_for (start_in p h) (done_in p 3 (c ∷ h)) 3 e)
      (undone_less (start_in p h) (done_in p 0 h) (done_in p 0 (c ∷ h)) 0 e d0) (undone_less (start_in p h) (done_in p 1 h) (done_in p 1 (c ∷ h)) 1 e d1)
      (undone_less (start_in p h) (done_in p 2 h) (done_in p 2 (c ∷ h)) 2 e d2) (undone_less (start_in p h) (done_in p 3 h) (done_in p 3 (c ∷ h)) 3 e d3)) in
      record {
        start = st.start ∙ sym es₁;
        seen = st.seen ∙ sym et;
        zero = refl;
        one = refl;
        two = refl;
        three = refl;
        largest = st.largest ∙ sym el;
        opened = st.opened ∙ sym eo;
        touched = st.touched ∙ sym ew;
        refusal = st.refusal;
        fits = settled_fits ring more l.front l.count st.fits;
        within = (let k = settled_count ring more l.front l.count in omega (arith, st.within));
        held =
            settled_ring ring more l.front l.count ∙ ap (λ (xs : List Entry). from_held (λ e. undone_some more e) xs) st.held
            ∙ from_ext (λ e. undone_some more e) (λ e. held_now p (c ∷ h) e) same (held_in p es h)
            ∙ from_again (λ e. held_now p h e) (λ e. held_now p (c ∷ h) e) less (entries_in p es h)
            ∙ ap (λ (xs : List Entry). from_held (λ e. held_now p (c ∷ h) e) xs) (sym ee);
      }
