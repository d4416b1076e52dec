-- The trims before the place have had their turn (`Going`), from whichever trims the round is seen to start.
use Rattle.page.specs.Parts.{CanRound}
use Rattle.page.proofs.Rounds.{Going}
use Rattle.page.proofs.turns.round.Given as goal

abbrev pub invariant-loop-i : goal.invariant-loop-i
invariant-loop-i g l = (x : CanRound l.count l.places (record { states = l.initial.states; answers = l.initial.answers; rest = l.initial.rest }) l.programs l.initial.memories l.initial.inputs l.initial.outputs l.initial.log)
    → Going (g.E.Engine.stepper l.engine) l.again l.most l.count l.places x.past x.trims l.initial.rest l.i l.states l.answers l.programs l.memories l.inputs l.outputs l.log l.rest
