-- A count of the byte's trailing zeros, at most 8.
use native.Mathlib.Omega.{arith}
use lib.Count.{trailing_le}
use Rattle.machine.proofs.Lines.{lowest}
use Rattle.machine.proofs.State.lowest_line.Goals as goal

pub overflow_cast-result : goal.overflow_cast-result
overflow_cast-result c = omega (arith, trailing_le 8 c.args.self.pending)

pub returns : goal.returns
returns c = lowest _ (omega arith)
