-- A byte and one less: the bits above the lowest.
use native.Mathlib.Omega.{arith}
use Rattle.machine.proofs.Lines.{without}
use Rattle.machine.proofs.without_lowest.Goals as goal

pub returns : goal.returns
returns c = without _ (omega arith)
