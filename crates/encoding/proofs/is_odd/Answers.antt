-- By the field.
use Rattle.std.proofs.Common.{rules}
use Rattle.std.proofs.lemmas.Grind.{common_steps}
use native.Mathlib.Omega.{arith}
use Rattle.encoding.specs.Words.{odd}
use Rattle.encoding.proofs.is_odd.Goals as goal

pub returns-in-Target : goal.returns-in-Target
unfolding odd
returns-in-Target c = search rules

pub returns-in-Number : goal.returns-in-Number
unfolding odd
returns-in-Number c = grind (arith, common_steps)
