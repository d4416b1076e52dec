-- The loops' turns and ends, by the laws of proofs/Loop.antt.
use Prim.Native.Nat.{◌-◌}
use Rattle.run.specs.Runs.{journal_if}
use Rattle.bus.specs.Lent.{SameBus, SameLog, held_on}
use Rattle.cycle.specs.Loops.{given_on}
use Rattle.cycle.proofs.Loop.{Going, Turning}
use Rattle.cycle.proofs.run_accepted.Given as goal

-- the inner loop goes on from a turn of the outer one
abbrev pub invariant-loop-steps-2 : goal.invariant-loop-steps-2
invariant-loop-steps-2 g l =
    Turning (g.E.Engine.stepper l.engine) (given_on l.fn.start l.program l.fn.bus l.budget l.fn.log (journal_if l.keeps l.fn.journal)) l.keeps l.fn.journal l.fn.counts
    (held_on l.state l.bus l.log) l.steps l.journal l.counts l.usage l.until
    × SameBus l.fn.bus l.bus × SameLog l.fn.log l.log

abbrev pub decreases-loop-steps-2 : goal.decreases-loop-steps-2
decreases-loop-steps-2 g l = l.until - l.steps

abbrev pub invariant-loop-steps : goal.invariant-loop-steps
invariant-loop-steps g l =
    Going (g.E.Engine.stepper l.engine) (given_on l.fn.start l.program l.fn.bus l.budget l.fn.log (journal_if l.keeps l.fn.journal)) l.keeps l.fn.journal l.fn.counts
    (held_on l.state l.bus l.log) l.steps l.journal l.counts l.usage
    × SameBus l.fn.bus l.bus × SameLog l.fn.log l.log

abbrev pub decreases-loop-steps : goal.decreases-loop-steps
decreases-loop-steps g l = l.budget - l.steps
