-- Pages of short runs, computed of the definitions. 02, wish 9.
use Rattle.std.specs.Prelude.{◌≡◌, refl, true, false, List, [], ◌∷◌, ◌++◌, ℕ, pos}
use Rattle.frames.specs.Message.{framed}
use Rattle.replication.specs.CopyData.{xlog_data, keep_alive}
use Rattle.page.specs.PageCases.{page}
use Rattle.worker.specs.Run.{lsn}
use Rattle.thm_any_calls.specs.RunCases.{settings, after, computed}
use Rattle.run_page.specs.RunPage.{shown_by}

-- a `w` with a server's end and data
abbrev pub data_at : ℕ → List ℕ → List ℕ
data_at end bytes = framed 0x64 (xlog_data 0 end (pos 0) bytes)

-- other data, and then a Begin that is cut after its letter
abbrev pub refused_after : List ℕ
refused_after = data_at 5 (0x49 ∷ []) ++ data_at 9 (0x42 ∷ [])

-- what is shown as these streams are read
pub record ShownCases : Type 0 where
  -- before the first step, and after the first status
  pub fresh : shown_by (after (settings false 0) [] 0 false).run ≡ page 0 false 0 0 0 0 1
  pub first_status : shown_by (after (settings false 0) [] 1 false).run ≡ page 0 true 0 0 0 0 2
  -- a message that is handled tells the server's end before its event is handed on
  pub handled : shown_by (after (settings false 0) refused_after 4 false).run ≡ page 0 true 0 5 0 0 6
  pub handed_on : shown_by (after (settings false 0) refused_after 5 false).run ≡ page 0 true 0 5 1 0 2
  -- a boundary that is refused tells the metric, and not the page
  pub refused : shown_by (after (settings false 0) refused_after 8 false).run ≡ page 0 true 0 5 1 0 7
  pub metric_moves : (after (settings false 0) refused_after 8 false).run.metrics.last_wal_end ≡ lsn 9
  -- a keepalive tells it, too
  pub keepalive : shown_by (after (settings false 0) (framed 0x64 (keep_alive 0x10 (pos 0) 0)) 4 false).run ≡ page 0 true 0 0x10 0 0 6

-- each by computing the definitions
pub shown_cases : ShownCases
unfolding computed
shown_cases =
    record { fresh = refl; first_status = refl; handled = refl; handed_on = refl; refused = refl; metric_moves = refl; keepalive = refl }
