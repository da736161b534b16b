-- Any beginning of a generated stream is cut into the first of its messages, and never at a message over the limit.
use mathlib.Core.Path.{◌≡◌, refl, sym, ap, ◌∙◌}
use mathlib.Core.List.{List, [], ◌∷◌, ◌++◌}
use Prim.Native.Nat.{ℕ, ◌≤◌}
use lib.ListN.{take, drop, take-append-drop}
use Rattle.wire.proofs.Laws.{impossible}
use Rattle.frames.specs.Cut.{Item, message, Ending, header, over, Cut, cut_of}
use Rattle.frames.proofs.Laws.{continued, cut_append, cut_ending, cut_too_large, over_kept, front_at}
use Rattle.frames.specs.Message.{too_large, front_of}
use Rattle.load.specs.declared.Message.{Message}
use Rattle.load.specs.Load.{payload_of, all_bytes}
use Rattle.thm_load_handed.proofs.Drawn.{AllFit}
use Rattle.thm_load_handed.proofs.Stream.{items_of, stream_cut}

-- items of generated messages
pub record Generated (is : List Item) : Type 0 where
  pub messages : List Message
  pub are : is ≡ items_of messages
  pub fit : AllFit messages

pub first_items : (is js : List Item) (ms : List Message) → AllFit ms → is ++ js ≡ items_of ms → Generated is
unfolding items_of
first_items [] js ms f e = record { messages = []; are = refl; fit = tt }
first_items (a ∷ is) js [] f e = impossible (cc e)
first_items (a ∷ is) js (m ∷ ms) f e =
    let h : a ≡ message 100 (payload_of m) = cc e in
    let t : is ++ js ≡ items_of ms = cc e in
    let g = first_items is js ms f.1 t in
    record { messages = m ∷ g.messages; are = ap (λ (k : Item). k ∷ is) h ∙ ap (λ (l : List Item). message 100 (payload_of m) ∷ l) g.are; fit = (f.0, g.fit) }

pub last_items : (is js : List Item) (ms : List Message) → AllFit ms → is ++ js ≡ items_of ms → Generated js
unfolding items_of
last_items [] js ms f e = record { messages = ms; are = e; fit = f }
last_items (a ∷ is) js [] f e = impossible (cc e)
last_items (a ∷ is) js (m ∷ ms) f e = let t : is ++ js ≡ items_of ms = cc e in last_items is js ms f.1 t

module _ (limit : ℕ) (wide : 100 ≤ limit) (ms : List Message) (f : AllFit ms) (t : ℕ) where
  abbrev b : List ℕ
  b = take t (all_bytes ms)

  abbrev v : List ℕ
  v = drop t (all_bytes ms)

  -- the cut of the beginning, gone on with the rest, is that of the stream
  together : continued limit v (cut_of limit b) ≡ record { items = items_of ms; rest = []; ending = header }
  together = sym (cut_append limit b v) ∙ ap (cut_of limit) (take-append-drop t (all_bytes ms)) ∙ stream_cut limit wide ms f

  pub prefix_items : Generated (cut_of limit b).items
  prefix_items = first_items (cut_of limit b).items (cut_of limit ((cut_of limit b).rest ++ v)).items ms f (ap (λ (c : Cut). c.items) together)

  pub prefix_not_over : (cut_of limit b).ending ≡ over → ⊥
  prefix_not_over e =
      let rest : List ℕ = (cut_of limit b).rest in
      let large : front_of limit rest ≡ too_large = cut_ending limit b ∙ ap front_at e in
      let stays : front_of limit (rest ++ v) ≡ too_large = (over_kept limit rest v large).1 in
      let q : ◌≡◌ {A = Ending} over header = sym (ap (λ (c : Cut). c.ending) (cut_too_large limit (rest ++ v) stays)) ∙ ap (λ (c : Cut). c.ending) together in
      impossible (cc q)
