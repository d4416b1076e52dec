-- The loop undoes the entries (`Undoing`), from the last down to `at`.
use mathlib.Core.Path.{◌≡◌, refl, sym, ◌∙◌}
use Prim.Native.Nat.{◌+◌, ◌-◌}
use native.Mathlib.Omega.{arith}
use Rattle.bus.proofs.Same.{then_bus}
use Rattle.back.proofs.Turns.{start, room, turn, counted, ends}
use Rattle.back.proofs.go_back.Goals as goal

pub loop-at-init : goal.loop-at-init
loop-at-init c =
    let a = c.args in
    let l = a.bus.now.lengths in
    let all : a.start.journaled + a.k - a.start.journaled ≡ a.k = omega arith in
    (rw all (start record { memory = l.0; inputs = l.1; outputs = l.2; held = c.requires }), record { memory = refl; inputs = refl; outputs = refl })

pub overflow_add-fallen : goal.overflow_add-fallen
overflow_add-fallen c = record { fits = room c.loop-at.invariant.0 (omega arith) c.ranges.k.fits c.is_output.result }

pub loop-at-preserved : goal.loop-at-preserved
loop-at-preserved c =
    let a = c.args in
    let less : c.loop-at.at - 1 + a.k - a.start.journaled ≡ c.loop-at.at + a.k - a.start.journaled - 1 = omega arith in
    let before = c.loop-at.bus.lengths in
    let after = c.undo-state.new.bus.lengths in (
      rw less
          (turn c.loop-at.invariant.0 (omega arith) (after.0 ∙ sym before.0) (after.1 ∙ sym before.1) (after.2 ∙ sym before.2) c.undo-state.ensures.undone
          (counted _ c.is_output.ensures)),
      then_bus c.loop-at.invariant.1 c.undo-state.ensures.same,
    )

pub returns-clause-gone : goal.returns-clause-gone
returns-clause-gone c = ends c.loop-at.invariant.0 (omega arith) c.with_journaled.ensures
