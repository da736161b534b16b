-- A known kind computes; a time is read back as it was since it fits.
use borrow.Author.Tests.{ne_eqb}
use Rattle.ffi_words.specs.Words.{event_of}
use mir.Syntax.{w64}
use mir.ValLaws.{to_z-of_z}
use Rattle.ffi_words.proofs.event.event_of.Goals as goal

pub returns-then-kind-eq-EVENT_KEEP_ALIVE : goal.returns-then-kind-eq-EVENT_KEEP_ALIVE
unfolding event_of
returns-then-kind-eq-EVENT_KEEP_ALIVE c =
    let time = c.to_i64-server_time in
    rw (c.if-kind-eq-EVENT_KEEP_ALIVE.true, c.flag_of-reply_requested.ensures, to_z-of_z w64 time.result (record { sfits = time.ensures.1 }), time.ensures.0)

pub returns-then-kind-eq-EVENT_BEGIN : goal.returns-then-kind-eq-EVENT_BEGIN
unfolding event_of
returns-then-kind-eq-EVENT_BEGIN c =
    let time = c.to_i64-commit_time in
    rw (c.if-kind-eq-EVENT_BEGIN.true, c.low_half-xid.ensures, to_z-of_z w64 time.result (record { sfits = time.ensures.1 }), time.ensures.0)

pub returns-then-kind-eq-EVENT_COMMIT : goal.returns-then-kind-eq-EVENT_COMMIT
unfolding event_of
returns-then-kind-eq-EVENT_COMMIT c =
    let time = c.to_i64-commit_time-then-kind-eq-EVENT_COMMIT in
    rw (c.if-kind-eq-EVENT_COMMIT.true, to_z-of_z w64 time.result (record { sfits = time.ensures.1 }), time.ensures.0)

pub returns : goal.returns
unfolding event_of
returns c =
    simp (ne_eqb _ _ c.if-kind-eq-EVENT_KEEP_ALIVE.false, ne_eqb _ _ c.if-kind-eq-EVENT_BEGIN.false, ne_eqb _ _ c.if-kind-eq-EVENT_COMMIT.false)
    (rw c.parts_of.ensures)
