-- The loop stores the source (`Filled`).
use Rattle.block.proofs.Filling.{Filled}
use Rattle.block.proofs.copy.Given as goal

abbrev pub invariant-loop-i : goal.invariant-loop-i
invariant-loop-i l = Filled l.source l.initial.target l.target l.i
