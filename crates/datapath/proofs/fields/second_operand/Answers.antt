-- The two bits give the place of the list, and past the list stands 0.
use mathlib.Core.Path.{◌≡◌}
use Prim.Native.Nat.{◌/◌, ◌%◌}
use native.Mathlib.Omega.{arith}
use Rattle.control.specs.Control.{second}
use Rattle.datapath.proofs.Choice.{two_bits}
use Rattle.datapath.proofs.fields.second_operand.Goals as goal

pub returns-then-control-eq0-2 : goal.returns-then-control-eq0-2
unfolding second
returns-then-control-eq0-2 c = let a = c.args.control in let k : a / 256 % 4 ≡ 0 = omega (arith, two_bits a 256) in rw k

pub returns-else-control-eq0-2 : goal.returns-else-control-eq0-2
unfolding second
returns-else-control-eq0-2 c = let a = c.args.control in let k : a / 256 % 4 ≡ 2 = omega (arith, two_bits a 256) in rw k c.extend8.ensures

pub returns-then-control-eq0-3 : goal.returns-then-control-eq0-3
unfolding second
returns-then-control-eq0-3 c = let a = c.args.control in let k : a / 256 % 4 ≡ 1 = omega (arith, two_bits a 256) in rw k c.extend6.ensures

pub returns-else-control-eq0-3 : goal.returns-else-control-eq0-3
unfolding second
returns-else-control-eq0-3 c = let a = c.args.control in let k : a / 256 % 4 ≡ 3 = omega (arith, two_bits a 256) in rw k
