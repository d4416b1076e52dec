-- The number of all the digits is that of the digits left after those read.
use Rattle.std.proofs.Common.{◌≡◌, drop}
use Rattle.expression.specs.Reading.{number_leaf}
use Rattle.expression.proofs.literals.number.Given as goal

abbrev pub invariant-loop-b : goal.invariant-loop-b
invariant-loop-b l = number_leaf l.base 0 l.digits ≡ number_leaf l.base l.n (drop l.b-index l.digits)
