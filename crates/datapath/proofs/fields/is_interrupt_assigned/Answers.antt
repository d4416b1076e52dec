-- By the tests.
use mathlib.Core.Path.{ap}
use mathlib.Core.Bool.{◌&&◌}
use mathlib.Core.List.{[], ◌∷◌}
use Prim.Native.Nat.{◌/◌, ◌%◌}
use native.Mathlib.Nat.{div-one}
use native.Mathlib.Omega.{arith}
use lib.Dec.{eqb, ltb}
use Rattle.word.proofs.Computed.{all}
use Rattle.machine.specs.Step.{among}
use Rattle.control.specs.Control.{interrupt_assigned}
use Rattle.datapath.proofs.Choice.{alike_f}
use Rattle.datapath.proofs.fields.is_interrupt_assigned.Goals as goal

pub returns : goal.returns
unfolding all interrupt_assigned
returns c = let a = c.args in rw div-one (ap (λ t. eqb (a.control / 16384 % 2) 1 && t) (alike_f (λ f. ltb f 4) (λ f. among f (0 ∷ 1 ∷ 2 ∷ 3 ∷ [])) tt (a.w % 8) (omega arith)))
