-- By the tests.
use mathlib.Core.Path.{◌≡◌, sym, ap, ◌∙◌}
use mathlib.Core.Bool.{true, false}
use Prim.Native.Nat.{◌/◌, ◌%◌}
use native.Mathlib.Nat.{div-one}
use native.Mathlib.Omega.{arith}
use borrow.Author.Tests.{eq-eqb, ne_eqb}
use lib.Dec.{eqb}
use Rattle.word.proofs.Computed.{all}
use Rattle.control.specs.Control.{second, divides, zero_divisor}
use Rattle.datapath.proofs.Choice.{alike_f}
use Rattle.datapath.proofs.fields.divides_by_zero.Goals as goal

pub returns-then-w-eq2 : goal.returns-then-w-eq2
unfolding all zero_divisor
returns-then-w-eq2 c =
    let a = c.args in
    let f : divides 5 (a.w % 8) ≡ true = sym (alike_f (λ f. eqb (f / 2) 2) (divides 5) tt (a.w % 8) (omega arith)) ∙ eq-eqb _ _ c.if-w-eq2.true in
    rw (c.if-control-eq5.true, div-one, f) (ap (λ z. eqb z 0) (c.second_operand.ensures ∙ ap (second a.control a.w) c.rb.ensures))

pub returns-else-w-eq2 : goal.returns-else-w-eq2
unfolding all zero_divisor
returns-else-w-eq2 c =
    let a = c.args in
    let f : divides 5 (a.w % 8) ≡ false = sym (alike_f (λ f. eqb (f / 2) 2) (divides 5) tt (a.w % 8) (omega arith)) ∙ ne_eqb _ _ c.if-w-eq2.false in
    rw (c.if-control-eq5.true, div-one, f)

pub returns-else-control-eq5 : goal.returns-else-control-eq5
unfolding zero_divisor
returns-else-control-eq5 c = rw (ne_eqb _ _ c.if-control-eq5.false)
