-- The two bits give the place of the list, and a branch is the choice by Ra.
use mathlib.Core.Path.{◌≡◌}
use Prim.Native.Nat.{◌/◌, ◌%◌}
use native.Mathlib.Omega.{arith}
use borrow.Author.Tests.{eq-eqb, ne_eqb}
use Rattle.control.specs.Control.{next}
use Rattle.datapath.proofs.Choice.{two_bits}
use Rattle.datapath.proofs.fields.next_pc.Goals as goal

pub returns-then-control-eq0-2 : goal.returns-then-control-eq0-2
unfolding next
returns-then-control-eq0-2 c = let a = c.args.control in let k : a / 4096 % 4 ≡ 0 = omega (arith, two_bits a 4096) in rw k c.sum.ensures

pub returns-then-x-eq0 : goal.returns-then-x-eq0
unfolding next
returns-then-x-eq0 c = let a = c.args.control in let k : a / 4096 % 4 ≡ 1 = omega (arith, two_bits a 4096) in rw (k, eq-eqb _ _ c.if-x-eq0.true) c.branch_target.ensures

pub returns-else-x-eq0 : goal.returns-else-x-eq0
unfolding next
returns-else-x-eq0 c = let a = c.args.control in let k : a / 4096 % 4 ≡ 1 = omega (arith, two_bits a 4096) in rw (k, ne_eqb _ _ c.if-x-eq0.false) c.sum-else-x-eq0.ensures

pub returns-then-x-eq0-2 : goal.returns-then-x-eq0-2
unfolding next
returns-then-x-eq0-2 c = let a = c.args.control in let k : a / 4096 % 4 ≡ 2 = omega (arith, two_bits a 4096) in rw (k, eq-eqb _ _ c.if-x-eq0-2.true) c.sum-then-x-eq0-2.ensures

pub returns-else-x-eq0-2 : goal.returns-else-x-eq0-2
unfolding next
returns-else-x-eq0-2 c = let a = c.args.control in let k : a / 4096 % 4 ≡ 2 = omega (arith, two_bits a 4096) in rw (k, ne_eqb _ _ c.if-x-eq0-2.false) c.branch_target-else-x-eq0-2.ensures

pub returns-else-control-eq0-3 : goal.returns-else-control-eq0-3
unfolding next
returns-else-control-eq0-3 c = let a = c.args.control in let k : a / 4096 % 4 ≡ 3 = omega (arith, two_bits a 4096) in rw k c.clear_bit0.ensures
