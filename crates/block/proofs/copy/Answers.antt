-- The loop stores the source (`Filled`).
use mathlib.Core.Path.{refl}
use native.Mathlib.Omega.{arith}
use Rattle.block.proofs.Filling.{start, turn, whole}
use Rattle.block.proofs.copy.Goals as goal

pub loop-i-init : goal.loop-i-init
loop-i-init c = start c.requires

pub loop-i-preserved : goal.loop-i-preserved
loop-i-preserved c = turn c.loop-i.invariant (omega arith) refl

pub returns : goal.returns
returns c = whole c.loop-i.invariant (omega arith)
