-- The loop undoes the entries (`Undoing`), from the last down to `at`.
use Prim.Native.Nat.{◌+◌, ◌-◌}
use Rattle.bus.specs.Lent.{SameBus}
use Rattle.back.proofs.Turns.{Undoing}
use Rattle.back.proofs.go_back.Given as goal

abbrev pub invariant-loop-at : goal.invariant-loop-at
invariant-loop-at l =
    Undoing l.start l.fn.bus.memory.now l.fn.bus.inputs.now l.fn.bus.outputs.now l.journal l.k l.state l.bus.memory.now l.bus.inputs.now l.bus.outputs.now l.at (l.at + l.k - l.end) l.fallen
    × SameBus l.fn.bus l.bus
