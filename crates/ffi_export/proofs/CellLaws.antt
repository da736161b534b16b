-- What an exported call over a cell's words leaves, of what the calls in it answered.
use mathlib.Core.Path.{◌≡◌, ap, ◌∙◌}
use mathlib.Core.List.{List}
use Prim.Native.Nat.{ℕ}
use Rattle.wire.specs.Bytes.{flag_word}
use Rattle.lsn.specs.declared.Lsn.{Lsn}
use Rattle.moment.specs.declared.Moment.{Moment}
use Rattle.progress.specs.declared.Looked.{Looked}
use Rattle.progress.specs.declared.ProgressCell.{ProgressCell}
use Rattle.progress.specs.declared.Raised.{Raised}
use Rattle.progress.specs.declared.Reported.{Reported}
use Rattle.progress.specs.Progress.{raise_of, looked_of, reported_of, carried_of}
use Rattle.ffi_words.specs.Cells.{cell_standing, cell_written, raised_left, looked_left, reported_left}
use Rattle.ffi_words.specs.Words.{cell_of, cell_words}

-- the words that a cell leaves, for an equal cell
pub made : {c z : ProgressCell} {ws : List ℕ} → c ≡ z → (ws ≡ cell_words c) × (cell_of ws ≡ c) → cell_standing ws ≡ cell_written z
made e pw = rw (pw.1, pw.0, e)

module _ {r z : ProgressCell} (pr : r ≡ z) where
  pub raised : (p : Lsn) (m : Moment) (x : Raised) {w : ℕ} {ws : List ℕ}
      → x ≡ raise_of r p m
      → (ws ≡ cell_words x.cell) × (cell_of ws ≡ x.cell)
      → w ≡ flag_word x.wake
      → (w, cell_standing ws) ≡ raised_left (raise_of z p m)
  raised p m x e pw pf = let h : x ≡ raise_of z p m = e ∙ ap (λ (y : ProgressCell). raise_of y p m) pr in rw (← h, pw.1, pw.0, pf)

  pub looked : (x : Looked) {ws : List ℕ}
      → x ≡ looked_of r
      → (ws ≡ cell_words x.cell) × (cell_of ws ≡ x.cell)
      → (x.applied.0, cell_standing ws) ≡ looked_left (looked_of z)
  looked x e pw = let h : x ≡ looked_of z = e ∙ ap looked_of pr in rw (← h, pw.1, pw.0)

  pub reported : (p : Lsn) (m : Moment) (x : Reported) {ws : List ℕ}
      → x ≡ reported_of r p m
      → (ws ≡ cell_words x.cell) × (cell_of ws ≡ x.cell)
      → (x.since.0, cell_standing ws) ≡ reported_left (reported_of z p m)
  reported p m x e pw = let h : x ≡ reported_of z p m = e ∙ ap (λ (y : ProgressCell). reported_of y p m) pr in rw (← h, pw.1, pw.0)

  pub carried : (m : Moment) {x : ProgressCell} {ws : List ℕ}
      → x ≡ carried_of r m
      → (ws ≡ cell_words x) × (cell_of ws ≡ x)
      → cell_standing ws ≡ cell_written (carried_of z m)
  carried m e pw = made (e ∙ ap (λ (y : ProgressCell). carried_of y m) pr) pw
