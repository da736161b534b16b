-- A stretch of well-formed parts: it is its own lossy text and has no marks; and it is the longest well-formed beginning.
use mathlib.Core.Path.{◌≡◌, refl, sym, ap, subst, ◌∙◌}
use mathlib.Core.Bool.{false}
use mathlib.Core.List.{List, [], ◌∷◌, ◌++◌, append_assoc}
use Prim.Native.Nat.{ℕ, zero, suc, ◌+◌, ◌-◌, ◌≤◌, ◌<◌}
use native.Mathlib.Nat.{not-suc-le-zero}
use native.Mathlib.Omega.{arith}
use lib.ListN.{length, take, drop, length-append, length-drop, take-append-drop}
use lib.Seq.{drop-drop, drop-append_seam, take-append-add, drop-append-add, length-take-le}
use Rattle.utf8.specs.WellFormed.{table, row_of}
use Rattle.lossy.specs.Lossy.{Part, well, ill, part_by, parts_of, bytes_of, shown, lossy_of}
use Rattle.lossy.specs.Marks.{marks_in, marks_of, UnmarkedIsUnchanged}
use Rattle.lossy.specs.Parts.{Sequence, AllSequences, concat, Right}
use Rattle.lossy.specs.Stretch.{stretch_of, IsWellFormed, StretchIsLongest, StretchIsCopied, MarkFollows}
use Rattle.lossy.specs.Code.{StretchAt}
use Rattle.lossy.specs.declared.Stretch.{Stretch}
use Rattle.lossy.proofs.Laws.{part_size, part_some, fewer, parts_next, lossy_none, lossy_next, lossy_end, marks_next, marks_end, stretch_none, stretch_part, stretch_next}
use Rattle.lossy.proofs.Turns.{lossy_turn, marks_turn}
use Rattle.lossy.proofs.Parts.{front_joined, parts_are_right, sequence_part, sequence_row, none_empty, table_apart}

-- ---- the text of a stretch

-- what a stretch becomes, and what comes after it
pub record Stretched (s : List ℕ) : Type 0 where
  pub within : stretch_of s ≤ length s
  pub text : lossy_of s ≡ take (stretch_of s) s ++ lossy_of (drop (stretch_of s) s)
  pub marks : marks_of s ≡ marks_of (drop (stretch_of s) s)
  pub mark : stretch_of s < length s → (rest : List ℕ) × (lossy_of (drop (stretch_of s) s) ≡ 0xEF ∷ 0xBF ∷ 0xBD ∷ rest)

-- a part before a text of which that holds
part_stretched : (p : Part) (u t : List ℕ) → bytes_of p ++ t ≡ u → lossy_of u ≡ shown p ++ lossy_of t → marks_of u ≡ marks_in p + marks_of t
    → stretch_of u ≡ stretch_part p (stretch_of t) → Stretched t → Stretched u
part_stretched (well x) u t e l m k f =
    let w : stretch_of t ≤ length t = f.within in
    let d : drop (length x + stretch_of t) u ≡ drop (stretch_of t) t = rw (← e) (drop-append-add x t (stretch_of t)) in
    let c : drop (stretch_of u) u ≡ drop (stretch_of t) t = rw k d in
    record {
      within = rw (k, ← e) (simp length-append (omega arith));
      text = l ∙ rw (k, d, f.text, ← e, take-append-add x t (stretch_of t)) (sym (append_assoc x (take (stretch_of t) t) (lossy_of (drop (stretch_of t) t))));
      marks = m ∙ rw (k, d, f.marks) (omega arith);
      mark = λ h. let g : stretch_of t < length t = behind (rw (k, ← e, length-append) at h) in ((f.mark g).0, ap lossy_of c ∙ (f.mark g).1);
    }
  where
    behind : length x + stretch_of t < length x + length t → stretch_of t < length t
    behind h = omega arith
part_stretched (ill x) u t e l m k f =
    record { within = rw k (omega arith); text = rw k; marks = rw k; mark = λ h. (lossy_of t, rw k l) }

none_stretched : Stretched []
none_stretched =
    record { within = rw stretch_none (omega arith); text = rw stretch_none; marks = rw stretch_none; mark = λ h. absurd (not-suc-le-zero h) }

all_stretched : (n : ℕ) (s : List ℕ) → length s ≤ n → Stretched s
all_stretched zero [] h = none_stretched
all_stretched (suc n) [] h = none_stretched
all_stretched zero (b ∷ s) h = absurd (not-suc-le-zero h)
all_stretched (suc n) (b ∷ s) h =
    let p : Part = part_by (row_of table b) (b ∷ s) in
    let t : List ℕ = drop (length (bytes_of p)) (b ∷ s) in
    let z = part_size (row_of table b) (b ∷ s) in
    part_stretched p (b ∷ s) t (front_joined z.0 (b ∷ s) (bytes_of p) z.2) (lossy_next b s) (marks_next b s) (stretch_next b s)
    (all_stretched n t (fewer b s _ n (part_some (row_of table b) b s) h))

pub stretched : (s : List ℕ) → Stretched s
stretched s = all_stretched (length s) s (omega arith)

pub stretch_is_copied : StretchIsCopied
stretch_is_copied s = (stretched s).text

pub mark_follows : MarkFollows
mark_follows s h = (stretched s).mark h

-- ---- a text without marks

part_unmarked : (p : Part) (u t : List ℕ) → bytes_of p ++ t ≡ u → lossy_of u ≡ shown p ++ lossy_of t → marks_of u ≡ marks_in p + marks_of t
    → (marks_of t ≡ 0 → lossy_of t ≡ t) → marks_of u ≡ 0 → lossy_of u ≡ u
part_unmarked (well x) u t e l m f z = let y : marks_of t ≡ 0 = omega arith in l ∙ rw (f y) e
part_unmarked (ill x) u t e l m f z = absurd (omega arith)

all_unmarked : (n : ℕ) (s : List ℕ) → length s ≤ n → marks_of s ≡ 0 → lossy_of s ≡ s
all_unmarked zero [] h z = lossy_none
all_unmarked (suc n) [] h z = lossy_none
all_unmarked zero (b ∷ s) h z = absurd (not-suc-le-zero h)
all_unmarked (suc n) (b ∷ s) h z =
    let p : Part = part_by (row_of table b) (b ∷ s) in
    let t : List ℕ = drop (length (bytes_of p)) (b ∷ s) in
    let y = part_size (row_of table b) (b ∷ s) in
    part_unmarked p (b ∷ s) t (front_joined y.0 (b ∷ s) (bytes_of p) y.2) (lossy_next b s) (marks_next b s)
    (all_unmarked n t (fewer b s _ n (part_some (row_of table b) b s) h)) z

pub unmarked_is_unchanged : UnmarkedIsUnchanged
unmarked_is_unchanged s z = all_unmarked (length s) s (omega arith) z

-- ---- a stretch from a place on

module _ (s : List ℕ) (i : ℕ) (t : Stretch) (h : i ≤ length s) (a : StretchAt s i t) where
  size : t.end - i ≡ stretch_of (drop i s)
  size = let e : t.end ≡ i + stretch_of (drop i s) = a.is in omega arith

  pub stretch_within : (i ≤ t.end) × (t.end ≤ length s)
  stretch_within =
      let e : t.end ≡ i + stretch_of (drop i s) = a.is in
      let w : stretch_of (drop i s) ≤ length s - i = simp length-drop at (stretched (drop i s)).within in
      (omega arith, omega arith)

  pub stretch_text : lossy_of (drop i s) ≡ take (t.end - i) (drop i s) ++ lossy_of (drop t.end s)
  stretch_text = (stretched (drop i s)).text ∙ rw (size, a.is, drop-drop)

  pub stretch_marks : marks_of (drop i s) ≡ marks_of (drop t.end s)
  stretch_marks = (stretched (drop i s)).marks ∙ rw (a.is, drop-drop)

  pub stretch_length : length (lossy_of (drop i s)) ≡ t.end - i + length (lossy_of (drop t.end s))
  stretch_length =
      let w = stretch_within in
      let l : t.end - i ≤ length (drop i s) = simp length-drop (omega arith) in
      rw (stretch_text, length-append, length-take-le (t.end - i) (drop i s) l)

  -- at the end of the text
  pub last_text : t.ill ≡ 0 → lossy_of (drop t.end s) ≡ []
  last_text z = lossy_end s t.end (rw (a.last z) (omega arith))

  pub last_marks : t.ill ≡ 0 → marks_of (drop t.end s) ≡ 0
  last_marks z = marks_end s t.end (rw (a.last z) (omega arith))

  -- before an ill-formed part
  module _ (o : 1 ≤ t.ill) where
    pub behind_within : t.end + t.ill ≤ length s
    behind_within = (a.behind o).ends

    pub mark_text : lossy_of (drop t.end s) ≡ 0xEF ∷ 0xBF ∷ 0xBD ∷ lossy_of (drop (t.end + t.ill) s)
    mark_text = let w = behind_within in lossy_turn s t.end (record { len = t.ill; well = false }) (omega arith) (a.behind o)

    pub mark_marks : marks_of (drop t.end s) ≡ 1 + marks_of (drop (t.end + t.ill) s)
    mark_marks = let w = behind_within in marks_turn s t.end (record { len = t.ill; well = false }) (omega arith) (a.behind o)

-- ---- the longest well-formed beginning

-- the part is a sequence, where it is well-formed
abbrev SequencePart : Part → Type 0
SequencePart (well x) = Sequence x
SequencePart (ill x) = Unit

first_part : (p : Part) (ps : List Part) → Right (p ∷ ps) → SequencePart p
first_part (well x) ps r = r.0
first_part (ill x) ps r = tt

no_sequences : IsWellFormed []
no_sequences = record { sequences = []; each = tt; joined = refl }

part_well_formed : (p : Part) (u t : List ℕ) → bytes_of p ++ t ≡ u → stretch_of u ≡ stretch_part p (stretch_of t) → SequencePart p
    → IsWellFormed (take (stretch_of t) t) → IsWellFormed (take (stretch_of u) u)
part_well_formed (well x) u t e k q f =
    record { sequences = x ∷ f.sequences; each = (q, f.each); joined = rw (k, ← e, take-append-add x t (stretch_of t), f.joined) }
part_well_formed (ill x) u t e k q f = rw k no_sequences

all_well_formed : (n : ℕ) (s : List ℕ) → length s ≤ n → IsWellFormed (take (stretch_of s) s)
all_well_formed zero [] h = rw stretch_none no_sequences
all_well_formed (suc n) [] h = rw stretch_none no_sequences
all_well_formed zero (b ∷ s) h = absurd (not-suc-le-zero h)
all_well_formed (suc n) (b ∷ s) h =
    let p : Part = part_by (row_of table b) (b ∷ s) in
    let t : List ℕ = drop (length (bytes_of p)) (b ∷ s) in
    let z = part_size (row_of table b) (b ∷ s) in
    let r : Right (p ∷ parts_of (length t) t) = subst Right (parts_next b s) (parts_are_right (b ∷ s)).1 in
    part_well_formed p (b ∷ s) t (front_joined z.0 (b ∷ s) (bytes_of p) z.2) (stretch_next b s) (first_part p (parts_of (length t) t) r)
    (all_well_formed n t (fewer b s _ n (part_some (row_of table b) b s) h))

pub sequence_stretch : (b : ℕ) (t rest : List ℕ) → Sequence (b ∷ t) → stretch_of ((b ∷ t) ++ rest) ≡ length (b ∷ t) + stretch_of rest
sequence_stretch b t rest q = stretch_next b (t ++ rest) ∙ rw (sequence_part (row_of table b) b t rest (sequence_row b t q), drop-append_seam (b ∷ t) rest)

sequences_stretch : (qs : List (List ℕ)) (rest : List ℕ) → AllSequences qs → length (concat qs) ≤ stretch_of (concat qs ++ rest)
sequences_stretch [] rest w = omega arith
sequences_stretch ([] ∷ qs) rest w = absurd (none_empty table table_apart w.0)
sequences_stretch ((b ∷ t) ∷ qs) rest w =
    let i = sequences_stretch qs rest w.1 in
    rw (append_assoc (b ∷ t) (concat qs) rest, sequence_stretch b t (concat qs ++ rest) w.0, length-append (b ∷ t) (concat qs)) (omega arith)

pub stretch_is_longest : StretchIsLongest
stretch_is_longest s =
    record {
      within = (stretched s).within;
      well_formed = all_well_formed (length s) s (omega arith);
      most = λ m h f.
          let l : length (take m s) ≡ m = length-take-le m s h in
          let e : concat f.sequences ++ drop m s ≡ s = rw f.joined (take-append-drop m s) in
          let i : length (concat f.sequences) ≤ stretch_of s = subst (λ (x : List ℕ). length (concat f.sequences) ≤ stretch_of x) e (sequences_stretch f.sequences (drop m s) f.each) in
          let k : length (concat f.sequences) ≡ m = ap length f.joined ∙ l in
          omega arith;
    }
