-- The service page over any list of calls, in words of the calls and the server's bytes. SCOPE 5.12, 8.11; 02, wish 9.
use Rattle.std.specs.Prelude.{◌≡◌, List, [], ◌∷◌, ℕ, length, take}
use Rattle.wire.specs.Bytes.{pick}
use Rattle.lsn.specs.declared.Lsn.{Lsn}
use Rattle.page.specs.declared.Page.{Page}
use Rattle.worker.specs.declared.Settings.{Settings}
use Rattle.worker.specs.declared.State.TheVariants.{Handling, Offering}
use Rattle.thm_any_calls.specs.Tests.{place_of, lsn}
use Rattle.thm_any_calls.specs.Calls.{Beginning, Call, played, setup_of}
use Rattle.thm_any_calls.specs.Counters.{end_after, stall_count_of, wrapped}
use Rattle.thm_any_calls.specs.Table.{last_message, limit_by}
use Rattle.thm_any_calls.specs.Trace.{Setup, Trace, a_step, a_report, went, state_after, taken_by, handed_by, confirmed_of, has_sent, sent_position}
use Rattle.thm_any_calls.specs.Traced.{trace_of}
use Rattle.run_page.specs.RunPage.{shown_by}

-- the server's end that was told by the last `w` or `k` handled without refusal: the step that handled it offers its event
unfoldable pub server_of : Setup → Trace → Lsn
server_of s [] = lsn 0
server_of s (a_step i from y ∷ h) =
    pick (went Handling Offering from y.entered) (end_after (last_message (limit_by s) (take (taken_by h) s.bytes)) (server_of s h)) (server_of s h)
server_of s (a_report file p m ∷ h) = server_of s h

-- what a status would confirm now; what the last status confirmed, where there was one; the server's end; the events handed on and the stalls begun,
-- modulo 2^64; the state that the table entered
abbrev pub page_after : Setup → Trace → Page
page_after s h =
    record {
      position = confirmed_of s.start h;
      sent = has_sent h;
      confirmed = sent_position s.start h;
      server = server_of s h;
      events = wrapped (length (handed_by h));
      stalls = wrapped (stall_count_of h);
      state = place_of (state_after s.opening h);
    }

-- after any list of calls, whatever queue closes, also where the run has ended
abbrev pub PageTraced : Type 0
PageTraced =
    (s : Settings) (b : Beginning) (bytes payload : List ℕ) (cs : List Call)
    → let x : Setup = setup_of s b bytes (length payload) in shown_by (played s b bytes payload cs).run ≡ page_after x (trace_of x cs)
