-- The state says what is due at the loop's place.
use Rattle.utf8.proofs.Entries.{looked_is_entry}
use Rattle.lossy.proofs.States.{lead_ill, lead_going, part_whole, part_cut, part_ill, part_goes, of_length}
use Prim.Native.Nat.{◌<◌}
use mathlib.Core.Path.{refl, ◌∙◌}
use native.Mathlib.Omega.{arith}
use lib.ListN.{get_or}
use Rattle.lossy.proofs.lookup.part_in.Goals as goal

pub returns-then-state-eq8 : goal.returns-then-state-eq8
returns-then-state-eq8 c =
    let n = c.next-state in
    let a = c.args in
    let b : get_or a.s.now a.at 0 < 256 = omega (arith, c.shared_slice_known-2-1.given a.at) in
    lead_ill a.s.now a.at (omega arith) n.result b (n.ensures ∙ looked_is_entry _ c.requires.1 _ _ b) c.if-state-eq8.true

pub loop-state-init : goal.loop-state-init
loop-state-init c =
    let n = c.next-state in
    let a = c.args in
    let b : get_or a.s.now a.at 0 < 256 = omega (arith, c.shared_slice_known-2-1.given a.at) in
    (omega arith, omega arith, lead_going a.s.now a.at (omega arith) n.result _ b (n.ensures ∙ looked_is_entry _ c.requires.1 _ _ b) c.if-state-eq8.false refl)

pub returns-then-s-i : goal.returns-then-s-i
returns-then-s-i c =
    let a = c.args in
    part_cut a.s.now a.at c.loop-state.i c.loop-state.state (omega arith) (omega arith) c.loop-state.invariant.2 (omega arith) (omega arith)

pub returns-then-n-eq8 : goal.returns-then-n-eq8
returns-then-n-eq8 c =
    let n = c.next-n in
    let a = c.args in
    let b : get_or a.s.now c.loop-state.i 0 < 256 = omega (arith, c.shared_slice_known-in-loop-state-1.given c.loop-state.i) in
    of_length
    (part_ill a.s.now a.at c.loop-state.i c.loop-state.state (omega arith) (omega arith) c.loop-state.invariant.2 (omega arith) (omega arith) n.result b
    (n.ensures ∙ looked_is_entry _ c.requires.1 _ _ b) c.if-n-eq8.true)
    (omega arith)

pub loop-state-preserved : goal.loop-state-preserved
loop-state-preserved c =
    let n = c.next-n in
    let a = c.args in
    let b : get_or a.s.now c.loop-state.i 0 < 256 = omega (arith, c.shared_slice_known-in-loop-state-1.given c.loop-state.i) in (
      omega arith,
      omega arith,
      part_goes a.s.now a.at c.loop-state.i c.loop-state.state (omega arith) (omega arith) c.loop-state.invariant.2 (omega arith) (omega arith) n.result
          b (n.ensures ∙ looked_is_entry _ c.requires.1 _ _ b) _ refl c.if-n-eq8.false,
    )

pub returns : goal.returns
returns c =
    let a = c.args in
    part_whole a.s.now a.at c.loop-state.i c.loop-state.state (omega arith) (omega arith) c.loop-state.invariant.2 (omega arith)
