-- What each answer of the worker says, over all values. SCOPE 1.4, 5.5, 5.6, 5.8.
use Rattle.std.specs.Prelude.{◌≡◌, ℕ, Bool, List, ℤ, Ok, Err, Some, None}
use Rattle.std.proofs.Math.Option.{some, none}
use Rattle.wire.specs.Answer.{maybe}
use Rattle.error.specs.declared.Refusal.{Refusal}
use Rattle.error.specs.Refusal.{number_of}
use Rattle.error.specs.Writer.{outcome}
use Rattle.lsn.specs.declared.Lsn.{Lsn}
use Rattle.progress.specs.Files.{file_verdict}
use Rattle.worker.specs.declared.Stepped.{Stepped}
use Rattle.worker.specs.declared.Opened.{Opened}
use Rattle.worker.specs.declared.AlreadyOpen.{AlreadyOpen}
use Rattle.worker.specs.declared.Reporting.{Reporting}
use Rattle.worker.specs.declared.Event.{Event}
use Rattle.worker.specs.declared.Event.TheVariants.{Nothing, KeepAlive, Begin, Commit, Message, XLogData, StoppedAt}
use Rattle.worker.specs.Events as E
use Rattle.worker.specs.Answer.{verdict_number, outcome_by, opened_by, already_open_by, reporting_by}

-- an event says its own values in their order
pub record EventsSaid : Type 0 where
  pub of_nothing : E.said_by Nothing ≡ E.nothing
  pub of_keep_alive : (end : Lsn) (time : ℤ) (reply : Bool) → E.said_by (KeepAlive end time reply) ≡ E.keep_alive end.0 time reply
  pub of_begin : (final : Lsn) (time : ℤ) (xid : ℕ) → E.said_by (Begin final time xid) ≡ E.begin final.0 time xid
  pub of_commit : (position end : Lsn) (time : ℤ) → E.said_by (Commit position end time) ≡ E.commit position.0 end.0 time
  pub of_message : (flag : Bool) (position : Lsn) (prefix_from prefix_len from len : ℕ)
      → E.said_by (Message flag position prefix_from prefix_len from len) ≡ E.message flag position.0 prefix_from prefix_len from len
  pub of_xlog_data : (start end : Lsn) (time : ℤ) (from len : ℕ)
      → E.said_by (XLogData start end time from len) ≡ E.xlog_data start.0 end.0 time from len
  pub of_stopped_at : (reached : Lsn) → E.said_by (StoppedAt reached) ≡ E.stopped_at reached.0
  pub of_offered : (e : Event) (reached : Lsn) → E.given_by (Ok (record { event = e; reached = reached })) ≡ E.given e reached
  pub of_refused : (r : Refusal) → E.given_by (Err r) ≡ E.refused (number_of r)

-- a refusal's number, 0 for none; a wait, an error's part and their absence
pub record PartsSaid : Type 0 where
  pub of_accepted : verdict_number (Ok tt) ≡ 0
  pub of_refused : (r : Refusal) → verdict_number (Err r) ≡ number_of r
  pub of_untold : maybe {A = ℕ} None ≡ none
  pub of_nanos : (n : ℕ) → maybe (Some n) ≡ some n
  pub of_absent : maybe {A = ℕ} None ≡ none
  pub of_front : (n : ℕ) → maybe (Some n) ≡ some n

-- a step's answer, field by field, with the buffers that it leaves
pub record StepSaid (s : Stepped) (p o : List ℕ) : Type 0 where
  pub run : (outcome_by s p o).run ≡ s.run
  pub refusal : (outcome_by s p o).refusal ≡ verdict_number s.verdict
  pub taken : (outcome_by s p o).taken ≡ s.taken
  pub event : (outcome_by s p o).event ≡ E.said_by s.event
  pub written : (outcome_by s p o).written ≡ s.written
  pub waited : (outcome_by s p o).waited ≡ maybe s.waited
  pub payload : (outcome_by s p o).payload ≡ p
  pub out : (outcome_by s p o).out ≡ o

-- of every answer
pub record AnswersSaid : Type 0 where
  pub of_step : (s : Stepped) (p o : List ℕ) → StepSaid s p o
  pub of_opened : (a : Opened) (out : List ℕ)
      → ((opened_by a out).run ≡ a.run) × ((opened_by a out).outcome ≡ outcome a.written) × ((opened_by a out).out ≡ out)
  pub of_already_open : (a : AlreadyOpen) → already_open_by a ≡ (verdict_number a.verdict, a.run)
  pub of_report : (a : Reporting) → reporting_by a ≡ (file_verdict a.verdict, a.run)
