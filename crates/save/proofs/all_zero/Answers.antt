-- The loop tests bytes (`Tested`).
use native.Mathlib.Omega.{arith}
use Rattle.save.proofs.Kept.{test_start, test_turn, test_whole}
use Rattle.save.proofs.all_zero.Goals as goal

pub loop-byte-init : goal.loop-byte-init
loop-byte-init c = test_start

pub loop-byte-preserved : goal.loop-byte-preserved
loop-byte-preserved c = test_turn c.loop-byte.invariant (omega arith)

pub returns : goal.returns
returns c = test_whole c.loop-byte.invariant (omega arith)
