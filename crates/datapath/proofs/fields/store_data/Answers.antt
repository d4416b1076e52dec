-- The two bits give the place of the list. A port's store, and none, leave data memory as it was.
use mathlib.Core.Path.{◌≡◌}
use Prim.Native.Nat.{◌/◌, ◌%◌}
use native.Mathlib.Omega.{arith}
use Rattle.control.specs.Control.{stored_data}
use Rattle.datapath.proofs.Choice.{two_bits}
use Rattle.datapath.proofs.fields.store_data.Goals as goal

pub returns-then-control-eq1 : goal.returns-then-control-eq1
unfolding stored_data
returns-then-control-eq1 c =
    let a = c.args.control in
    let k : a / 1024 % 4 ≡ 1 = omega (arith, two_bits a 1024) in
    rw k c.store_word.ensures

pub returns-else-control-eq1 : goal.returns-else-control-eq1
unfolding stored_data
returns-else-control-eq1 c = let a = c.args.control in let k : a / 1024 % 4 ≡ 0 = omega (arith, two_bits a 1024) in rw k

pub returns-then-control-eq0-2 : goal.returns-then-control-eq0-2
unfolding stored_data
returns-then-control-eq0-2 c =
    let a = c.args.control in
    let k : a / 1024 % 4 ≡ 2 = omega (arith, two_bits a 1024) in
    rw k c.store_byte.ensures

pub returns-else-control-eq0-2 : goal.returns-else-control-eq0-2
unfolding stored_data
returns-else-control-eq0-2 c = let a = c.args.control in let k : a / 1024 % 4 ≡ 3 = omega (arith, two_bits a 1024) in rw k
