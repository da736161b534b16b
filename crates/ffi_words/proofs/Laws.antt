-- The words of a run, a reader and a cell, where each call that makes one has answered it. Over variables, so that no rewriting meets the code.
use mathlib.Core.Path.{◌≡◌, ap, ◌∙◌}
use mathlib.Core.List.{List, [], ◌∷◌, ◌++◌}
use Prim.Native.Nat.{ℕ}
use lib.ListN.{get_or}
use Rattle.wire.specs.Bytes.{flag_word}
use Rattle.framing.specs.declared.MessageReader.{MessageReader}
use Rattle.progress.specs.declared.ProgressCell.{ProgressCell}
use Rattle.worker.specs.declared.Run.{Run}
use Rattle.worker.specs.Events.{said_by}
use Rattle.worker.specs.Run.{state_number}
use Rattle.ffi_words.specs.Words.{header_words, HeaderFits, reader_of, reader_words, event_words, metrics_words, files_words, cell_of, cell_words, spare, words_of}
use Rattle.ffi_words.proofs.RoundTrip.{reader_back, cell_back}

pub words_are : (r : Run) {f1 f2 f3 s f4 f5 f6 f7 f8 t f9 f10 f11 : ℕ} {e h : List ℕ}
    → e ≡ event_words (said_by r.offer.event)
    → f1 ≡ flag_word r.settings.has_stop
    → f2 ≡ flag_word r.settings.timing
    → f3 ≡ flag_word r.settings.binary
    → s ≡ state_number r.state
    → h ≡ header_words r.reader.header
    → f4 ≡ flag_word r.reader.refused
    → f5 ≡ flag_word r.progress.signalled
    → f6 ≡ flag_word r.progress.timed
    → f7 ≡ flag_word r.status.sent
    → f8 ≡ flag_word r.pending
    → t ≡ r.whole.tag
    → f9 ≡ flag_word r.whole.in_wait
    → f10 ≡ flag_word r.offer.stalled
    → f11 ≡ flag_word r.offer.stops
    → ◌≡◌ {A = List ℕ} (r.settings.status_interval ∷ r.settings.idle_wakeup_interval ∷ r.settings.max_message_size ∷ f1 ∷ r.settings.stop_at_lsn.0 ∷ f2 ∷ f3 ∷ s
    ∷ get_or h 0 0 ∷ get_or h 1 0 ∷ get_or h 2 0 ∷ get_or h 3 0 ∷ get_or h 4 0 ∷ r.reader.filled ∷ r.reader.payload_len ∷ f4 ∷ r.clock.last.0 ∷ r.clock.wait_began.0 ∷ r.clock.stall_began.0
    ∷ r.progress.files.zero.0 ∷ f5 ∷ r.progress.pending_since.0 ∷ f6 ∷ f7 ∷ r.status.position.0 ∷ r.status.at.0 ∷ r.drained ∷ f8
    ∷ t ∷ r.whole.len ∷ f9 ∷ get_or e 0 0 ∷ get_or e 1 0 ∷ get_or e 2 0 ∷ get_or e 3 0 ∷ get_or e 4 0 ∷ get_or e 5 0 ∷ get_or e 6 0 ∷ f10 ∷ f11 ∷ r.offer.reached.0
    ∷ (metrics_words r.metrics ++ (files_words r.progress.files ++ (r.server.0 ∷ spare)))) (words_of r)
words_are r pe pf1 pf2 pf3 ps ph pf4 pf5 pf6 pf7 pf8 pt pf9 pf10 pf11 = rw (pe, pf1, pf2, pf3, ps, ph, pf4, pf5, pf6, pf7, pf8, pt, pf9, pf10, pf11)

pub cell_words_are : (c : ProgressCell) {f1 f2 : ℕ} → f1 ≡ flag_word c.signalled → f2 ≡ flag_word c.timed
    → (◌≡◌ {A = List ℕ} (c.applied.0 ∷ f1 ∷ c.pending_since.0 ∷ f2 ∷ []) (cell_words c))
    × (cell_of (c.applied.0 ∷ f1 ∷ c.pending_since.0 ∷ f2 ∷ []) ≡ c)
cell_words_are c {f1} {f2} p q =
    let words : ◌≡◌ {A = List ℕ} (c.applied.0 ∷ f1 ∷ c.pending_since.0 ∷ f2 ∷ []) (cell_words c) = rw (p, q) in
    (words, ap cell_of words ∙ cell_back c)

pub reader_words_are : (x : MessageReader) {f : ℕ} {h : List ℕ} → h ≡ header_words x.header → f ≡ flag_word x.refused → HeaderFits x.header
    → (◌≡◌ {A = List ℕ} (get_or h 0 0 ∷ get_or h 1 0 ∷ get_or h 2 0 ∷ get_or h 3 0 ∷ get_or h 4 0 ∷ x.filled ∷ x.payload_len ∷ f ∷ []) (reader_words x))
    × (reader_of (get_or h 0 0 ∷ get_or h 1 0 ∷ get_or h 2 0 ∷ get_or h 3 0 ∷ get_or h 4 0 ∷ x.filled ∷ x.payload_len ∷ f ∷ []) ≡ x)
reader_words_are x {f} {h} p q fits =
    let words : ◌≡◌ {A = List ℕ} (get_or h 0 0 ∷ get_or h 1 0 ∷ get_or h 2 0 ∷ get_or h 3 0 ∷ get_or h 4 0 ∷ x.filled ∷ x.payload_len ∷ f ∷ []) (reader_words x) = rw (p, q) in
    (words, ap reader_of words ∙ reader_back x fits)
