-- The loop adds place by place (`Added`).
use mathlib.Core.Path.{refl}
use native.Mathlib.Omega.{arith}
use Rattle.block.proofs.Filling.{whole}
use Rattle.sheet.proofs.Sums.{add_start, add_turn}
use Rattle.sheet.proofs.add_counts.Goals as goal

pub loop-i-init : goal.loop-i-init
loop-i-init c = add_start c.requires

pub loop-i-preserved : goal.loop-i-preserved
loop-i-preserved c = add_turn c.loop-i.invariant (omega arith) refl

pub returns : goal.returns
returns c = whole c.loop-i.invariant.filled (omega arith)
