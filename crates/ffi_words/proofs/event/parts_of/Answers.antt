-- A known kind computes; a time is read back as it was since it fits.
use borrow.Author.Tests.{ne_eqb}
use Rattle.ffi_words.specs.Words.{event_with_parts}
use mir.Syntax.{w64}
use mir.ValLaws.{to_z-of_z}
use Rattle.ffi_words.proofs.event.parts_of.Goals as goal

pub returns-then-kind-eq-EVENT_MESSAGE : goal.returns-then-kind-eq-EVENT_MESSAGE
unfolding event_with_parts
returns-then-kind-eq-EVENT_MESSAGE c = rw (c.if-kind-eq-EVENT_MESSAGE.true, c.flag_of-transactional.ensures)

pub returns-then-kind-eq-EVENT_XLOG_DATA : goal.returns-then-kind-eq-EVENT_XLOG_DATA
unfolding event_with_parts
returns-then-kind-eq-EVENT_XLOG_DATA c = rw (c.if-kind-eq-EVENT_XLOG_DATA.true, to_z-of_z w64 c.to_i64-server_time.result (record { sfits = c.to_i64-server_time.ensures.1 }), c.to_i64-server_time.ensures.0)

pub returns-then-kind-eq-EVENT_STOPPED_AT : goal.returns-then-kind-eq-EVENT_STOPPED_AT
unfolding event_with_parts
returns-then-kind-eq-EVENT_STOPPED_AT c = rw c.if-kind-eq-EVENT_STOPPED_AT.true

pub returns : goal.returns
unfolding event_with_parts
returns c = simp (ne_eqb _ _ c.if-kind-eq-EVENT_MESSAGE.false, ne_eqb _ _ c.if-kind-eq-EVENT_XLOG_DATA.false, ne_eqb _ _ c.if-kind-eq-EVENT_STOPPED_AT.false)
