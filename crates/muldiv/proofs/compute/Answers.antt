-- `muldiv::compute` meets its contract: each arm is the place of the list that its number names, and at 3 and past the list stands 0.
use mathlib.Core.Path.{refl}
use native.Mathlib.Omega.{arith}
use Rattle.word.proofs.Tables.{vacant}
use Rattle.muldiv.specs.Muldiv.{muldivs, muldiv}
use Rattle.muldiv.proofs.compute.Goals as goal

pub returns-in_default : goal.returns-in_default
unfolding muldiv
returns-in_default c =
    let a = c.args in
    vacant (muldivs a.x a.y) 3 0 a.f refl (λ n. omega arith)
