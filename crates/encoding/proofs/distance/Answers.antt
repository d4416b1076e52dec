use native.Mathlib.Omega.{arith}
use Rattle.encoding.specs.Words.{distance}
use Rattle.encoding.proofs.distance.Goals as goal

pub returns : goal.returns
unfolding distance
returns c = omega arith
