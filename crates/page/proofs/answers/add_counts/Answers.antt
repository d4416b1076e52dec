-- The loop adds place by place (`Added`).
use mathlib.Core.Path.{refl}
use Rattle.page.proofs.Sums.{add_start, add_turn}
use Rattle.page.proofs.answers.add_counts.Goals as goal

pub loop-i-init : goal.loop-i-init
loop-i-init c = add_start c.requires

pub loop-i-preserved : goal.loop-i-preserved
loop-i-preserved c = add_turn c.loop-i.invariant c.loop-i-test.true refl
