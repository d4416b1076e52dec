-- By the tests.
use mathlib.Core.Path.{◌≡◌, ◌∙◌}
use Prim.Native.Nat.{◌/◌, ◌%◌}
use native.Mathlib.Nat.{div-one}
use native.Mathlib.Omega.{arith}
use borrow.Author.Tests.{ne_eqb}
use Rattle.word.specs.Codes.{below6_but}
use Rattle.word.proofs.Computed.{all}
use Rattle.control.specs.Control.{takes, assigned}
use Rattle.datapath.proofs.Choice.{alike_f}
use Rattle.datapath.proofs.fields.is_assigned.Goals as goal

pub returns-then-control-eq0 : goal.returns-then-control-eq0
unfolding assigned
returns-then-control-eq0 c = rw c.if-control-eq0.true

pub returns-then-control-eq1 : goal.returns-then-control-eq1
unfolding all assigned
returns-then-control-eq1 c =
    let a = c.args in
    let one : a.control / 16384 % 2 ≡ 1 = omega arith in
    rw (one, c.if-control-eq1.true, div-one) (c.is_below_6_but.ensures ∙ alike_f (below6_but 2) (takes 1) tt (a.w % 8) (omega arith))

pub returns-then-control-eq5 : goal.returns-then-control-eq5
unfolding all assigned
returns-then-control-eq5 c =
    let a = c.args in
    let one : a.control / 16384 % 2 ≡ 1 = omega arith in
    rw (one, c.if-control-eq5.true, div-one) (c.is_below_6_but-then-control-eq5.ensures ∙ alike_f (below6_but 3) (takes 5) tt (a.w % 8) (omega arith))

pub returns-else-control-eq5 : goal.returns-else-control-eq5
unfolding assigned
returns-else-control-eq5 c =
    let a = c.args in
    let one : a.control / 16384 % 2 ≡ 1 = omega arith in
    rw (one, ne_eqb _ _ c.if-control-eq1.false, ne_eqb _ _ c.if-control-eq5.false)
