-- What the service page shows of a run. SCOPE 5.12; 02, wish 9.
use Rattle.page.specs.declared.Page.{Page}
use Rattle.progress.specs.Progress.{cell_position}
use Rattle.worker.specs.declared.Run.{Run}
use Rattle.worker.specs.Run.{state_number, cell_in}

-- the position that a status would confirm now, the last status, the server's end of the last message handled without refusal, the events handed
-- on, the stalls begun, the state
abbrev pub shown_by : Run → Page
shown_by r =
    record {
      position = cell_position (cell_in r);
      sent = r.status.sent;
      confirmed = r.status.position;
      server = r.server;
      events = r.metrics.events_forwarded;
      stalls = r.metrics.stall_count;
      state = state_number r.state;
    }
